-- What a host's call that puts a file has done, by whether it was refused.
use Rattle.std.proofs.Common.{◌≡◌, ℕ, List, Option, Some, None, Result, Ok, Err, OnOk, OnErr, sym, subst}
use Rattle.std.specs.Prelude.{IsSomeAnd}
use Rattle.xmt_host.specs.declared.host.HostFault.{HostFault}
use Rattle.xmt_host.specs.Host as host
use Rattle.xmt_host.specs.Told.{FileMap}
use Rattle.xmt_cli.specs.Given.{Text}
use Rattle.xmt_jobs.specs.Files.{Puts, PutsPart, HoldsPart, MayPut, MayPutPart}

some_and : {A : Type 0} (P Q : A → Type 0) → ((x : A) → P x → Q x) → (o : Option A) → IsSomeAnd o P → IsSomeAnd o Q
some_and P Q f None h = absurd h
some_and P Q f (Some x) h = f x h

module _ (name : Text) (bytes : List ℕ) (old new : Option FileMap) where
  pub put_whole : (r : Result (Unit {0}) HostFault) → host.Puts name bytes r old new → OnOk r (Puts name bytes old new)
  put_whole (Ok x) h =
      λ before is.
      some_and (λ after. host.PutsFile {T = Unit {0}} name bytes (Ok x) before after) (host.Holds name bytes before) (λ after p. record { named = p.ok; others = p.others }) new (h before is)
  put_whole (Err e) h = tt

  pub put_part : (r : Result (Unit {0}) HostFault) → host.Puts name bytes r old new → OnErr r (PutsPart name bytes old new)
  put_part (Ok x) h = tt
  put_part (Err e) h =
      λ before is.
      some_and (λ after. host.PutsFile {T = Unit {0}} name bytes (Err e) before after) (HoldsPart name bytes before) (λ after p. record { named = p.err; others = p.others }) new (h before is)

-- the same of a file that was named
module _ (dump : Option Text) (name : Text) (named : dump ≡ Some name) (text bytes : List ℕ) (same : text ≡ bytes) (old new : Option FileMap) (r : Result (Unit {0}) HostFault) (put : host.Puts name text r old new) where
  pub may_put : OnOk r (MayPut dump bytes old new)
  may_put = subst (λ (d : Option Text). OnOk r (MayPut d bytes old new)) (sym named) (subst (λ (b : List ℕ). OnOk r (Puts name b old new)) same (put_whole name text old new r put))

  pub may_put_part : OnErr r (MayPutPart dump bytes old new)
  may_put_part = subst (λ (d : Option Text). OnErr r (MayPutPart d bytes old new)) (sym named) (subst (λ (b : List ℕ). OnErr r (PutsPart name b old new)) same (put_part name text old new r put))
