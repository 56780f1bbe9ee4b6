use Rattle.std.proofs.Common.{◌≡◌, drop}
use Rattle.source_meaning.specs.Inside.{some_in_list}
use Rattle.source_meaning.specs.Variables.{is_sharing}
use Rattle.spawn_check.proofs.shared.+shared.Given as goal

-- what is asked of all is left to the rest
abbrev pub invariant-is_shared-loop-s : goal.invariant-is_shared-loop-s
invariant-is_shared-loop-s l = some_in_list (is_sharing l.slot) (drop l.s-index l.body) ≡ some_in_list (is_sharing l.slot) l.body
