use Rattle.std.proofs.Common.{arith}
use Rattle.liveness.proofs.Marks.{count_of_marked-le-length, exact_from_both}
use Rattle.liveness.proofs.marking.mark_all.Goals as goal

pub loop-smaller : goal.loop-smaller
loop-smaller c = omega (arith, c.loop-test.ensures.more, count_of_marked-le-length c.mark_more.new.marks, c.mark_more.auto.marks, c.loop.invariant.room)

pub returns : goal.returns
returns c = exact_from_both c.args.quads.now c.args.register c.mark_more.new.marks c.mark_more.ensures.sound c.loop-test.ensures.closed
