-- What was complained of, told of an earlier host.
use Rattle.std.proofs.Common.{◌≡◌, subst, sym, ℕ, ◌≤◌, List, length, Option, Result, Ok, Err, inl, inr, arith, take_all}
use Rattle.std.specs.Prelude.{OnOk, OnErr}
use Rattle.std.proofs.lemmas.Grind.{common_steps}
use Rattle.xmt_host.specs.Host.{Rose}
use Rattle.xmt_host.specs.Told.{Told}
use Rattle.xmt_jobs.specs.Written.{Writes, WritesPart}
use Rattle.xmt_top.specs.Complaints.{Complains}

rose_earlier : (before mid now : ℕ) → before ≤ mid → Rose mid now → Rose before now
rose_earlier before mid now less h = grind (arith, common_steps, less, h)

pub rose_later : (before mid now : ℕ) → mid ≤ now → Rose before mid → Rose before now
rose_later before mid now less h = grind (arith, common_steps, less, h)

pub complains_earlier : (line : List ℕ) (before mid now : Told) → before.faults ≤ mid.faults → mid.err ≡ before.err → Complains line mid now → Complains line before now
complains_earlier line before mid now less same (inl h) = inl (subst (λ (o : Option (List ℕ)). Writes line o now.err) same h)
complains_earlier line before mid now less same (inr h) =
    inr (rose_earlier before.faults mid.faults now.faults less h.0, subst (λ (o : Option (List ℕ)). WritesPart line o now.err) same h.1)

-- what was written whole was written in part
pub whole_part : (bytes : List ℕ) (old new : Option (List ℕ)) → Writes bytes old new → WritesPart bytes old new
whole_part bytes old new h = (length bytes, subst (λ (b : List ℕ). Writes b old new) (sym (take_all (length bytes) bytes (omega arith))) h)

-- whatever was answered, a part was written
pub either_part : {T E : Type 0} (bytes : List ℕ) (old new : Option (List ℕ)) (r : Result T E) → OnOk r (Writes bytes old new) → OnErr r (WritesPart bytes old new) → WritesPart bytes old new
either_part bytes old new (Ok done) ok err = whole_part bytes old new ok
either_part bytes old new (Err fault) ok err = err
