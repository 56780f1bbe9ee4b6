use Rattle.std.proofs.Common.{◌-◌}
use Rattle.spawn_check.specs.Marking.{AreSound, count_of_marked}
use Rattle.spawn_check.proofs.marking.marks_of.Given as goal

abbrev pub invariant-loop-what : goal.invariant-loop-what
invariant-loop-what l = AreSound l.functions l.what l.marks

-- the functions that are not marked
abbrev pub decreases-loop-what : goal.decreases-loop-what
decreases-loop-what l = 1000 - count_of_marked l.marks
