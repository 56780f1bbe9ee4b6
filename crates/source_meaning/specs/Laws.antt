-- The laws of runs.
use Rattle.std.specs.Prelude.{◌≡◌, ◌≢◌, ◌↔◌, ℕ, IsTrue, not, List, [], ◌∷◌, ◌++◌, Option, Some, None, replicate, slice_get, slice_set}
use Rattle.std.specs.List.{list_all}
use Rattle.xmt_base.specs.Action.{Action}
use Rattle.source_meaning.specs.declared.tree.Program.{Program}
use Rattle.source_meaning.specs.Store.{Store}
use Rattle.source_meaning.specs.Term.{Term, Code}
use Rattle.source_meaning.specs.Next.{Ask, Next, Asks, next_within, next}
use Rattle.source_meaning.specs.Code.{call_code}
use Rattle.source_meaning.specs.Run.{Thread, Configuration, next_of_rest, next_of, waits_for, can_step, after, IsLegal}
use Rattle.source_meaning.specs.Apart.{cell_of, is_of_store, are_apart}
use Rattle.source_meaning.specs.Trace.{Local, local_run}

-- ---- schedules one behind the other

abbrev pub AfterJoined : Type 0
AfterJoined =
    (program : Program) (c : Configuration) (first second : List ℕ) →
    after program c (first ++ second) ≡ after program (after program c first) second

abbrev pub LegalJoined : Type 0
LegalJoined =
    (program : Program) (c : Configuration) (first second : List ℕ) →
    IsLegal program c (first ++ second) ↔ (IsLegal program c first × IsLegal program (after program c first) second)

-- ---- steps that commute

abbrev pub ask_in : {T R : Type 0} → Next T R → Option Ask
ask_in (Asks ask left) = Some ask
ask_in _ = None

-- what a thread asks next, if it has a step
abbrev pub ask_of : Program → Configuration → (t : ℕ) → Option Ask
ask_of program c t = ask_in (next_of program c t)

-- two threads may step in either order, with one outcome
pub record Commute (program : Program) (c : Configuration) (t u : ℕ) : Type 0 where
  pub legal : IsLegal program c (t ∷ u ∷ [])
  pub turned : IsLegal program c (u ∷ t ∷ [])
  pub same : after program c (t ∷ u ∷ []) ≡ after program c (u ∷ t ∷ [])

-- A step that touches a cell at most commutes with each step of another thread that does not touch that cell.
abbrev pub StepsCommute : Type 0
StepsCommute =
    (program : Program) (c : Configuration) (t u : ℕ) (a b : Ask) → t ≢ u →
    ask_of program c t ≡ Some a → ask_of program c u ≡ Some b → IsTrue (can_step program c u) →
    IsTrue (is_of_store a) → IsTrue (are_apart (cell_of a) (cell_of b)) →
    Commute program c t u

-- ---- a thread by itself

-- What a thread does by itself where no other thread can see it, it does in the configuration, if it waits for none.
abbrev pub UnseenRun : Type 0
UnseenRun =
    (program : Program) (c : Configuration) (t : ℕ) (thread : Thread) (work : ℕ) (end : Local (Option Code)) →
    slice_get c.threads t ≡ Some thread → IsTrue (list_all (λ other. not (waits_for t other)) c.threads) →
    local_run (next_of_rest program t thread.number) work (record { code = thread.code; store = c.store; replies = [] }) ≡ Some ([], end) →
    IsLegal program c (replicate work t) ×
    (after program c (replicate work t) ≡ record { store = end.store; threads = slice_set c.threads t (record thread { code = end.code }); output = c.output })

-- Where an expression stands in the code of a thread as the part that steps next, a run of the expression by itself is a run of the thread.
abbrev pub RunOfPart : Type 0
RunOfPart =
    (program : Program) (t number depth : ℕ) (around : Term → Option Code) (go : ℕ → Next (Option Code) (Unit {0})) →
    ((e : Term) → next_of_rest program t number (around e) ≡ next_within around (next number (call_code program t) depth e) go) →
    (work : ℕ) (e end : Term) (store left : Store) (replies rest : List ℕ) (done : List Action) →
    local_run (next number (call_code program t) depth) work (record { code = e; store = store; replies = replies }) ≡ Some (done, record { code = end; store = left; replies = rest }) →
    local_run (next_of_rest program t number) work (record { code = around e; store = store; replies = replies }) ≡ Some (done, record { code = around end; store = left; replies = rest })
