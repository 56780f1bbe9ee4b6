-- The trace of one thread: what it does that others can see, when its loads and adds of shared cells are answered from a list.
use Rattle.std.specs.Prelude.{◌≡◌, ℕ, zero, suc, ◌<◌, List, [], ◌∷◌, ◌++◌, ◌+◌, ◌%◌, ◌^◌, ◌⊎◌, Option, Some, None}
use Rattle.xmt_base.specs.Action.{Shared, Action, Start, Main, Block, Traces}
use Rattle.xmt_base.specs.Action as action
use Rattle.source_meaning.specs.declared.tree.Program.{Program}
use Rattle.source_meaning.specs.Store.{Cell, Word, Register, Outer, Private, Store}
use Rattle.source_meaning.specs.Term.{Code}
use Rattle.source_meaning.specs.Next.{Ask, Loading, Storing, Adding, Printing, Spawning, Ending, Next, Is, Asks, Traps}
use Rattle.xmt_base.specs.Operators.{count_between}
use Rattle.source_meaning.specs.Code.{call_code}
use Rattle.source_meaning.specs.Run.{next_of_rest, store_after}

-- a part of a thread by itself: what is left of it, the private cells, and the replies that are left
pub record Local (T : Type 0) : Type 0 where
  pub code : T
  pub store : Store
  pub replies : List ℕ

abbrev pub shared_of : Cell → Option Shared
shared_of (Word place) = Some (action.Word place)
shared_of (Register number) = Some (action.Register number)
shared_of (Outer thread depth number) = Some (action.Outer depth number)
shared_of (Private thread depth slot) = None

abbrev pub action_at : Option Shared → (Shared → Action) → List Action
action_at None act = []
action_at (Some place) act = act place ∷ []

-- what others see of a step
abbrev pub action_of : Ask → List Action
action_of (Loading cell) = action_at (shared_of cell) action.Load
action_of (Storing cell value) = action_at (shared_of cell) (λ place. action.Store place value)
action_of (Adding cell value) = action_at (shared_of cell) (λ place. action.Add place value)
action_of (Printing text) = action.Print text ∷ []
action_of (Spawning site low high block) = action.Spawn site low high ∷ []
action_of Ending = action.Ended ∷ []
action_of _ = []

-- the next reply, and those that are left
abbrev pub next_reply : List ℕ → Option (ℕ × List ℕ)
next_reply [] = None
next_reply (reply ∷ replies) = Some (reply, replies)

-- a private cell tells what it holds, and a shared one the next reply
abbrev pub cell_reply : Option Shared → (held : ℕ) → (replies : List ℕ) → Option (ℕ × List ℕ)
cell_reply None held replies = Some (held, replies)
cell_reply (Some place) held replies = next_reply replies

-- the reply to an ask, and the replies that are left
abbrev pub reply_to : Store → (replies : List ℕ) → Ask → Option (ℕ × List ℕ)
reply_to store replies (Loading cell) = cell_reply (shared_of cell) (store cell) replies
reply_to store replies (Adding cell value) = cell_reply (shared_of cell) (store cell) replies
reply_to store replies _ = Some (0, replies)

abbrev pub trace_then : {X : Type 0} → List Action → Option (List Action × X) → Option (List Action × X)
trace_then trace None = None
trace_then trace (Some rest) = Some (trace ++ rest.0, rest.1)

abbrev pub and_then : {X : Type 0} → Option (List Action × X) → (X → Option (List Action × X)) → Option (List Action × X)
and_then None go = None
and_then (Some first) go = trace_then first.0 (go first.1)

abbrev pub step_with_reply : {T : Type 0} → Store → Ask → (ℕ → T) → Option (ℕ × List ℕ) → Option (List Action × Local T)
step_with_reply store ask left None = None
step_with_reply store ask left (Some reply) = Some (action_of ask, record { code = left reply.0; store = store_after store ask; replies = reply.1 })

-- one step by itself. A join is taken to be done at once
abbrev pub step_of : {T R : Type 0} → Store → (replies : List ℕ) → Next T R → Option (List Action × Local T)
step_of store replies (Is result) = None
step_of store replies (Traps kind line) = None
step_of store replies (Asks ask left) = step_with_reply store ask left (reply_to store replies ask)

module _ {T R : Type 0} (next : T → Next T R) where
  abbrev pub local_step : Local T → Option (List Action × Local T)
  local_step l = step_of l.store l.replies (next l.code)

  -- what is done in so many steps, and where it leads
  abbrev pub local_run : (work : ℕ) → Local T → Option (List Action × Local T)
  local_run zero l = Some ([], l)
  local_run (suc work) l = and_then (local_step l) (local_run work)

-- to stand at a trap is an action, and takes no step
abbrev pub trap_action : {T R : Type 0} → Next T R → List Action
trap_action (Traps kind line) = action.Trap kind line ∷ []
trap_action _ = []

-- a thread does exactly these actions in so many steps, and may then stand at a trap
abbrev pub HasTrace : Program → (thread number : ℕ) → Local (Option Code) → (trace : List Action) → (work : ℕ) → Type 0
HasTrace program thread number l trace work =
    (done : List Action) × (end : Local (Option Code)) ×
    (local_run (next_of_rest program thread number) work l ≡ Some (done, end)) ×
    ((trace ≡ done) ⊎ (trace ≡ done ++ trap_action (next_of_rest program thread number end.code)))

-- a thread at the beginning of `main`; in a run it is thread 0
abbrev pub main_in : Program → (thread : ℕ) → (replies : List ℕ) → Local (Option Code)
main_in program thread replies = record { code = Some (call_code program thread program.main 0 []); store = λ cell. 0; replies = replies }

-- the serial thread at the beginning of `main`
abbrev pub main_of : Program → (replies : List ℕ) → Local (Option Code)
main_of program replies = main_in program 0 replies

-- a thread that begins at a block where a serial thread is about to spawn it
abbrev pub block_of : Next (Option Code) (Unit {0}) → (thread : ℕ) → (serial : Store) → (replies : List ℕ) → Option (Local (Option Code))
block_of (Asks (Spawning site low high block) left) thread serial replies = Some (record { code = Some (block thread); store = serial; replies = replies })
block_of _ thread serial replies = None

-- the last action of what the serial code did
abbrev pub spawn_of : Next (Option Code) (Unit {0}) → List Action
spawn_of (Asks (Spawning site low high block) left) = action.Spawn site low high ∷ []
spawn_of _ = []

-- `$` is one of the numbers that are spawned
abbrev pub IsSpawned : Next (Option Code) (Unit {0}) → (number : ℕ) → Type 0
IsSpawned (Asks (Spawning site low high block) left) number = (k : ℕ) × (k < count_between low high) × (number ≡ (low + k) % 2 ^ 32)
IsSpawned _ number = ⊥

-- what the serial thread does next
abbrev pub serial_next : Program → Local (Option Code) → Next (Option Code) (Unit {0})
serial_next program serial = next_of_rest program 0 0 serial.code

-- the traces of a program, where the thread has this number
abbrev pub traces_in : Program → (thread : ℕ) → Traces
traces_in program thread Main replies trace work = HasTrace program thread 0 (main_in program thread replies) trace work
traces_in program thread (Block before serial_replies number) replies trace work =
    (steps : ℕ) × (done : List Action) × (serial block : Local (Option Code)) ×
    (local_run (next_of_rest program 0 0) steps (main_of program serial_replies) ≡ Some (done, serial)) ×
    (before ≡ done ++ spawn_of (serial_next program serial)) ×
    IsSpawned (serial_next program serial) number ×
    (block_of (serial_next program serial) thread serial.store replies ≡ Some block) ×
    HasTrace program thread number block trace work

-- a thread of a block may have any number but 0; here it is 1
abbrev pub traces_of : Program → Traces
traces_of program Main = traces_in program 0 Main
traces_of program (Block before serial_replies number) = traces_in program 1 (Block before serial_replies number)
