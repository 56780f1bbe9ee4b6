-- What stays of what a host tells along several calls.
use Rattle.std.proofs.Common.{◌∙◌, arith}
use Rattle.xmt_host.specs.Told.{Told, OnlyReads, OnlyPrints, OnlyComplains}

module _ (a b c : Told) where
  pub then_reads : OnlyReads a b → OnlyReads b c → OnlyReads a c
  then_reads p q = record {
    later = omega (arith, p.later, q.later);
    steady = q.steady ∙ p.steady;
    files = q.files ∙ p.files;
    out = q.out ∙ p.out;
    err = q.err ∙ p.err;
  }

  pub then_prints : OnlyPrints a b → OnlyPrints b c → OnlyPrints a c
  then_prints p q = record {
    later = omega (arith, p.later, q.later);
    steady = q.steady ∙ p.steady;
    no_fault = λ is. q.no_fault (rw p.steady is) ∙ p.no_fault is;
    taken = q.taken ∙ p.taken;
    files = q.files ∙ p.files;
    err = q.err ∙ p.err;
  }

  pub then_complains : OnlyComplains a b → OnlyComplains b c → OnlyComplains a c
  then_complains p q = record {
    later = omega (arith, p.later, q.later);
    steady = q.steady ∙ p.steady;
    no_fault = λ is. q.no_fault (rw p.steady is) ∙ p.no_fault is;
    taken = q.taken ∙ p.taken;
    files = q.files ∙ p.files;
    out = q.out ∙ p.out;
  }
