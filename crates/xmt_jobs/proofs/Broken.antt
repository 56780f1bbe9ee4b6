-- Sources that are refused.
use Rattle.std.proofs.Common.{◌≡◌, ℕ, List, Option, Err, sym, subst}
use Rattle.std.specs.Prelude.{IsSomeAnd}
use Rattle.xmt_base.specs.declared.values.Place.{Place}
use Rattle.xmt_host.specs.Told.{FileMap}
use Rattle.xmt_host.specs.Host.{IsWholeFile}
use Rattle.front_end.specs.declared.refusal.SourceKind.{SourceKind}
use Rattle.front_end.specs.declared.refusal.SourceRefusal.{SourceRefusal}
use Rattle.front_end.specs.declared.refusal.SourceRefusal.TheVariants as source
use Rattle.xmt_compile.specs.Compiles.{Compiles}
use Rattle.xmt_cli.specs.Given.{Text}
use Rattle.xmt_jobs.specs.declared.outcome.Outcome.{Outcome}
use Rattle.xmt_jobs.specs.Sources.{IsBroken, HoldsNoProgram, CompilesNot, end_of_source}

-- the whole file holds a source that breaks a rule
holds_broken : (told : Option FileMap) (file : Text) (bytes : List ℕ) (kind : SourceKind) (place : Place) → IsWholeFile told file bytes → IsBroken kind place bytes → HoldsNoProgram told file kind place
holds_broken told file bytes kind place whole broken = λ files is. subst (λ (o : Option (List ℕ)). IsSomeAnd o (IsBroken kind place)) (sym (whole files is)) broken

-- so the job ends as it does where its source is refused
pub compiles_not : (told : Option FileMap) (file : Text) (bytes : List ℕ) (refusal : SourceRefusal) (outcome : Outcome) → IsWholeFile told file bytes → Compiles bytes (Err refusal) → outcome ≡ end_of_source refusal → CompilesNot told file outcome
compiles_not told file bytes (source.Refused kind place) outcome whole refused is = subst (CompilesNot told file) (sym is) (holds_broken told file bytes kind place whole refused)
compiles_not told file bytes source.NoMemory outcome whole refused is = subst (CompilesNot told file) (sym is) tt
