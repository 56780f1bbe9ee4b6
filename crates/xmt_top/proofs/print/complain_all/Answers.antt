use Rattle.std.proofs.Common.{arith}
use Rattle.std.proofs.lemmas.Grind.{common_steps}
use Rattle.xmt_host.proofs.Later.{then_complains}
use Rattle.xmt_top.proofs.Written.{writes_more, slice_rest}
use Rattle.xmt_top.proofs.print.complain_all.Goals as goal

pub loop-at-preserved : goal.loop-at-preserved
loop-at-preserved g c =
    let before = c.loop-at.invariant in
    let written = rw slice_rest at c.in-Ok.ensures.bytes in
    record {
      inside = grind (arith, before.inside, written.bound, common_steps);
      written = writes_more c.args.bytes.now c.loop-at.at c.in-Ok.count _ _ _ before.written written.ok;
      only = then_complains _ _ _ before.only c.in-Ok.ensures.only;
    }
