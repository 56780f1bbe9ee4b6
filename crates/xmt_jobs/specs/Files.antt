-- Which file was written, where the host tells its files.
use Rattle.std.specs.Prelude.{◌≡◌, ◌≢◌, ◌⊎◌, ℕ, List, IsSomeAnd}
use Rattle.std.specs.declared.option.Option.{Option}
use Rattle.std.specs.declared.option.Option.TheVariants.{Some, None}
use Rattle.std.specs.Option.{ForSome}
use Rattle.xmt_host.specs.Told.{FileMap}
use Rattle.xmt_host.specs.Host.{IsPrefix, Holds}
use Rattle.xmt_cli.specs.Given.{Text}
use Rattle.xmt_jobs.specs.declared.outcome.Outcome.{Outcome}
use Rattle.xmt_jobs.specs.declared.outcome.Outcome.TheVariants as outcome

-- the named file holds these bytes, and the others are as before
abbrev pub Puts : Text → List ℕ → (old new : Option FileMap) → Type 0
Puts name bytes old new = ForSome old (λ before. IsSomeAnd new (Holds name bytes before))

-- the named file is as before or holds a prefix of these bytes, and the others are as before
pub record HoldsPart (name : Text) (bytes : List ℕ) (old new : FileMap) : Type 0 where
  pub named : (new name ≡ old name) ⊎ IsSomeAnd (new name) (λ left. IsPrefix left bytes)
  pub others : (other : Text) → other ≢ name → new other ≡ old other

abbrev pub PutsPart : Text → List ℕ → (old new : Option FileMap) → Type 0
PutsPart name bytes old new = ForSome old (λ before. IsSomeAnd new (HoldsPart name bytes before))

-- the same of a file that may be named; where none is, all are as before
abbrev pub MayPut : Option Text → List ℕ → (old new : Option FileMap) → Type 0
MayPut None bytes old new = new ≡ old
MayPut (Some name) bytes old new = Puts name bytes old new

abbrev pub MayPutPart : Option Text → List ℕ → (old new : Option FileMap) → Type 0
MayPutPart None bytes old new = new ≡ old
MayPutPart (Some name) bytes old new = PutsPart name bytes old new

-- how it ends that the dump is put, where a file is named: it was put, or that was cut off
abbrev pub PutsDump : Option Text → List ℕ → (old new : Option FileMap) → Outcome → Type 0
PutsDump dump bytes old new outcome.Done = MayPut dump bytes old new
PutsDump dump bytes old new outcome.Fault = MayPutPart dump bytes old new
PutsDump dump bytes old new outcome.NoMemory = MayPutPart dump bytes old new
PutsDump dump bytes old new end = ⊥
