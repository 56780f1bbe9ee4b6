use Rattle.std.proofs.Common.{arith}
use Rattle.std.proofs.lemmas.Grind.{common_steps}
use Rattle.xmt_host.proofs.Later.{then_prints}
use Rattle.machine_turns.proofs.Printed.{prints_more, slice_rest}
use Rattle.machine_turns.proofs.print.print_all.Goals as goal

pub loop-at-preserved : goal.loop-at-preserved
loop-at-preserved g c =
    let before = c.loop-at.invariant in
    let printed = rw slice_rest at c.in-Ok.ensures.bytes in
    record {
      inside = grind (arith, before.inside, printed.bound, common_steps);
      printed = prints_more c.args.bytes.now c.loop-at.at c.in-Ok.count _ _ _ before.printed printed.ok;
      only = then_prints _ _ _ before.only c.in-Ok.ensures.only;
    }
