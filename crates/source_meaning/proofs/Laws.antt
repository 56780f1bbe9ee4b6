-- Schedules one behind the other.
use Rattle.std.proofs.Common.{◌≡◌, refl, ◌∙◌, ap, ℕ, List, [], ◌∷◌, ◌++◌, is_some}
use Rattle.source_meaning.specs.declared.tree.Program.{Program}
use Rattle.source_meaning.specs.Next.{next}
use Rattle.source_meaning.specs.Code.{call_code}
use Rattle.source_meaning.specs.Run.{Configuration, next_of_rest, step, after, IsLegal}
use Rattle.source_meaning.specs.Laws.{AfterJoined, LegalJoined, RunOfPart}
use Rattle.source_meaning.proofs.Within.{all_surrounded, run_within}

pub after-append : (p : Program) (c : Configuration) (first second : List ℕ) → after p c (first ++ second) ≡ after p (after p c first) second
after-append p c [] second = refl
after-append p c (t ∷ first) second = after-append p (step p c t) first second

pub IsLegal-append : (p : Program) (c : Configuration) (first second : List ℕ) → IsLegal p c first → IsLegal p (after p c first) second → IsLegal p c (first ++ second)
IsLegal-append p c [] second legal rest = rest
IsLegal-append p c (t ∷ first) second legal rest = (legal.0, IsLegal-append p (step p c t) first second legal.1 rest)

pub IsLegal-first : (p : Program) (c : Configuration) (first second : List ℕ) → IsLegal p c (first ++ second) → IsLegal p c first
IsLegal-first p c [] second legal = tt
IsLegal-first p c (t ∷ first) second legal = (legal.0, IsLegal-first p (step p c t) first second legal.1)

pub IsLegal-second : (p : Program) (c : Configuration) (first second : List ℕ) → IsLegal p c (first ++ second) → IsLegal p (after p c first) second
IsLegal-second p c [] second legal = legal
IsLegal-second p c (t ∷ first) second legal = IsLegal-second p (step p c t) first second legal.1

pub after_joined : AfterJoined
after_joined p c first second = after-append p c first second

pub legal_joined : LegalJoined
legal_joined p c first second = (λ legal. (IsLegal-first p c first second legal, IsLegal-second p c first second legal), λ legal. IsLegal-append p c first second legal.0 legal.1)

pub run_of_part : RunOfPart
run_of_part p t number depth around go part work e end store left replies rest done runs =
    run_within (next number (call_code p t) depth) (next_of_rest p t number) around go part work (record { code = e; store = store; replies = replies }) (ap is_some runs) ∙
    ap (all_surrounded around) runs
