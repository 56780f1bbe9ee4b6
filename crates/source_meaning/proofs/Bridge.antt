-- A step by itself is the step in a configuration, where the replies are what the store holds.
use Rattle.std.proofs.Common.{◌≡◌, refl, ◌∙◌, ap, ℕ, List, [], ◌∷◌, ◌++◌, set, Option, Some, None, true, slice_get}
use Rattle.xmt_base.specs.Action.{Shared}
use Rattle.source_meaning.specs.declared.tree.Program.{Program}
use Rattle.source_meaning.specs.Store.{Word, Register, Outer, Private, Store}
use Rattle.source_meaning.specs.Term.{Code}
use Rattle.source_meaning.specs.Next.{Ask, Quietly, Loading, Storing, Adding, Printing, Spawning, Joining, Ending, Asks}
use Rattle.source_meaning.specs.Run.{Thread, Configuration, next_of_rest, reply, store_after, step}
use Rattle.source_meaning.specs.Apart.{is_of_store}
use Rattle.source_meaning.specs.Trace.{shared_of, action_of, step_of, local_step}
use Rattle.source_meaning.proofs.Commute.{step_is, of_store_goes, after_answer_of_store}

-- what a shared cell is read to hold, and nothing of a private one
abbrev pub read_from : Option Shared → (held : ℕ) → List ℕ
read_from None held = []
read_from (Some place) held = held ∷ []

-- the replies that a step takes from the list
abbrev pub replies_for : Store → Ask → List ℕ
replies_for store (Loading cell) = read_from (shared_of cell) (store cell)
replies_for store (Adding cell value) = read_from (shared_of cell) (store cell)
replies_for store _ = []

module _ (T : Type 0) where
  local_step_of : (c : Configuration) (replies : List ℕ) (a : Ask) (f : ℕ → T) → is_of_store a ≡ true → step_of {T = T} {R = Unit {0}} c.store (replies_for c.store a ++ replies) (Asks a f) ≡ Some (action_of a, record { code = f (reply c a); store = store_after c.store a; replies = replies })
  local_step_of c replies Quietly f of_store = refl
  local_step_of c replies Ending f of_store = refl
  local_step_of c replies (Loading (Word place)) f of_store = refl
  local_step_of c replies (Loading (Register number)) f of_store = refl
  local_step_of c replies (Loading (Outer thread depth number)) f of_store = refl
  local_step_of c replies (Loading (Private thread depth slot)) f of_store = refl
  local_step_of c replies (Storing cell value) f of_store = refl
  local_step_of c replies (Adding (Word place) value) f of_store = refl
  local_step_of c replies (Adding (Register number) value) f of_store = refl
  local_step_of c replies (Adding (Outer thread depth number) value) f of_store = refl
  local_step_of c replies (Adding (Private thread depth slot) value) f of_store = refl
  local_step_of c replies (Printing text) f of_store = cc
  local_step_of c replies (Spawning site low high block) f of_store = cc
  local_step_of c replies Joining f of_store = cc

-- the two views of one step: by itself, and in the configuration
pub step_in_both : (p : Program) (c : Configuration) (t : ℕ) (thread : Thread) (a : Ask) (f : ℕ → Option Code) (replies : List ℕ) → slice_get c.threads t ≡ Some thread → next_of_rest p t thread.number thread.code ≡ Asks a f → is_of_store a ≡ true → (local_step (next_of_rest p t thread.number) (record { code = thread.code; store = c.store; replies = replies_for c.store a ++ replies }) ≡ Some (action_of a, record { code = f (reply c a); store = store_after c.store a; replies = replies })) × (step p c t ≡ record { store = store_after c.store a; threads = set c.threads t (record thread { code = f (reply c a) }); output = c.output })
step_in_both p c t thread a f replies there next of_store = (
  ap (step_of c.store (replies_for c.store a ++ replies)) next ∙ local_step_of (Option Code) c replies a f of_store,
  step_is p c t thread a f there next (of_store_goes a t c.threads of_store) ∙ after_answer_of_store c t thread a f of_store,
)
