use Rattle.std.proofs.Common.{◌≡◌, drop, map, string_bytes, None}
use Rattle.xmt_cli.specs.Given.{walk, nothing}
use Rattle.xmt_cli.specs.Seen.{seen_state}
use Rattle.xmt_cli.proofs.given.read_given.Given as goal

abbrev pub invariant-loop-word : goal.invariant-loop-word
invariant-loop-word l = walk (seen_state l.state) (drop l.word-index (map string_bytes l.words)) ≡ walk (record { waits = None; given = nothing }) (map string_bytes l.words)
