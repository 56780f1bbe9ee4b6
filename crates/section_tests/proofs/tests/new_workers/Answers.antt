use Rattle.std.proofs.Common.{arith}
use Rattle.section_tests.proofs.Pushed.{all_pushed}
use Rattle.section_tests.proofs.tests.new_workers.Goals as goal

pub loop-i-preserved : goal.loop-i-preserved
loop-i-preserved c = record {
  new = all_pushed c.loop-i.workers.items c.push.new.self.items c.in_ok-new_worker.field-0 c.in_ok-push.ensures.items c.loop-i.invariant.new c.in_ok-new_worker.ensures;
  len = omega (arith, c.in_ok-push.ensures.len, c.loop-i.invariant.len);
}
