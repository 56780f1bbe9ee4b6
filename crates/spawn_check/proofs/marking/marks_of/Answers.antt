use Rattle.std.proofs.Common.{sym, subst, arith, Bool, List}
use Rattle.spawn_check.specs.Marking.{AreSound}
use Rattle.spawn_check.proofs.MarkedFunctions.{unmarked_sound, count_of_marked-le-length, exact_from_both}
use Rattle.spawn_check.proofs.marking.marks_of.Goals as goal

pub loop-what-init : goal.loop-what-init
loop-what-init c =
    subst (λ (m : List Bool). AreSound c.args.functions.now c.args.what m) (sym c.none_marked-marks.ensures) (unmarked_sound c.args.functions.now c.args.what 1000)

pub loop-what-smaller : goal.loop-what-smaller
loop-what-smaller c =
    omega (arith, c.loop-what-test.ensures.more, count_of_marked-le-length c.mark_more.new.marks, c.mark_more.auto.marks, c.loop-what.array_long)

pub returns : goal.returns
returns c = exact_from_both c.args.functions.now c.args.what c.mark_more.new.marks c.mark_more.ensures.sound c.loop-what-test.ensures.closed
