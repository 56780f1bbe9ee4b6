use Rattle.std.proofs.Common.{◌≡◌, ◌++◌, drop}
use Rattle.xmt_base.specs.Text.{piece, piece_from}
use Rattle.tcu_engine.proofs.text.printed.Given as goal

abbrev pub invariant-loop-c : goal.invariant-loop-c
invariant-loop-c l = l.bytes.items ++ piece_from l.behind_percent (drop l.c-index l.text) l.left ≡ piece l.text l.values
