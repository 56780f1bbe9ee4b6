use Rattle.std.proofs.Common.{◌≡◌, All, vec_len}
use Rattle.section_tests.specs.Due.{IsNew}
use Rattle.section_tests.proofs.tests.new_workers.Given as goal

abbrev pub invariant-loop-i : goal.invariant-loop-i
invariant-loop-i l = record {
  new : All IsNew l.workers.items;
  len : vec_len l.workers ≡ l.i;
}
