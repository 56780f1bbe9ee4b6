-- The threads of the source as actors: each by itself, with its private cells.
use Rattle.std.specs.Prelude.{◌≡◌, ℕ, ◌+◌, ◌%◌, ◌^◌, ◌<◌, Bool, true, false, List, [], ◌∷◌, ◌⊎◌, Option, Some, is_none}
use Rattle.xmt_base.specs.Action.{Action}
use Rattle.source_meaning.specs.declared.tree.Program.{Program}
use Rattle.source_meaning.specs.Store.{Cell, Word, Register, Outer, Private, Store}
use Rattle.source_meaning.specs.Term.{Code}
use Rattle.source_meaning.specs.Next.{Ask, Loading, Storing, Adding, Spawning, Joining, Ending, Next, Is, Asks, Traps}
use Rattle.xmt_base.specs.Operators.{count_between}
use Rattle.source_meaning.specs.Code.{call_code}
use Rattle.source_meaning.specs.Run.{next_of_rest, store_after}
use Rattle.source_meaning.specs.Trace.{Local, action_of}
use Rattle.interleaving.specs.Actors.{Move, Rests, Alone, Acts, Entry, Does}
use Rattle.source_log.specs.Log.{Log, World}

pub record Actor : Type 0 where
  pub code : Option Code
  -- its `$`
  pub number : ℕ
  pub store : Store

abbrev pub next_of_actor : Program → (thread : ℕ) → Actor → Next (Option Code) (Unit {0})
next_of_actor program thread a = next_of_rest program thread a.number a.code

-- what a private cell tells
abbrev pub own_reply : Store → Ask → ℕ
own_reply store (Loading cell) = store cell
own_reply store (Adding cell value) = store cell
own_reply store _ = 0

abbrev pub actor_after : Actor → Ask → Option Code → Actor
actor_after a ask code = record { code = code; number = a.number; store = store_after a.store ask }

abbrev pub move_by : Actor → Ask → (ℕ → Option Code) → List Action → Move Actor Action
move_by a ask left [] = Alone (actor_after a ask (left (own_reply a.store ask)))
move_by a ask left (act ∷ _) = Acts act (λ reply. actor_after a ask (left reply))

abbrev pub move_of : Actor → Next (Option Code) (Unit {0}) → Move Actor Action
move_of a (Is result) = Rests
move_of a (Asks ask left) = move_by a ask left (action_of ask)
move_of a (Traps kind line) = Rests

-- what a thread does next by itself
abbrev pub move : Program → (thread : ℕ) → Actor → Move Actor Action
move program thread a = move_of a (next_of_actor program thread a)

-- a thread by itself, with its `$`
abbrev pub actor_of : (number : ℕ) → Local (Option Code) → Actor
actor_of number l = record { code = l.code; number = number; store = l.store }

abbrev pub main_actor : Program → Actor
main_actor program = record { code = Some (call_code program 0 program.main 0 []); number = 0; store = λ cell. 0 }

-- ---- what keeps threads apart

-- a thread writes its own private cells, and what is shared; only the serial code has outer variables
abbrev pub MayWrite : (thread : ℕ) → Cell → Type 0
MayWrite thread (Word place) = Unit {0}
MayWrite thread (Register number) = Unit {0}
MayWrite thread (Outer owner depth number) = owner ≡ 0
MayWrite thread (Private owner depth slot) = owner ≡ thread

-- and it reads those of the serial code too
abbrev pub MayRead : (thread : ℕ) → Cell → Type 0
MayRead thread (Private owner depth slot) = (owner ≡ thread) ⊎ (owner ≡ 0)
MayRead thread cell = MayWrite thread cell

-- Only the serial code spawns, and it waits for virtual threads.
abbrev pub MayAsk : (thread : ℕ) → Ask → Type 0
MayAsk thread (Loading cell) = MayRead thread cell
MayAsk thread (Storing cell value) = MayWrite thread cell
MayAsk thread (Adding cell value) = MayWrite thread cell
MayAsk thread (Spawning site low high block) = thread ≡ 0
MayAsk thread Joining = thread ≡ 0
MayAsk thread _ = Unit {0}

abbrev pub is_ending : Ask → Bool
is_ending Ending = true
is_ending _ = false

-- and what is left of a thread is nothing just where that was its end
abbrev pub IsKept : (thread : ℕ) → Next (Option Code) (Unit {0}) → Type 0
IsKept thread (Asks ask left) = MayAsk thread ask × ((reply : ℕ) → is_none (left reply) ≡ is_ending ask)
IsKept thread _ = Unit {0}

-- wherever an actor comes by itself, it keeps to its cells
abbrev pub Keeps : Program → (thread : ℕ) → Actor → Type 0
Keeps program thread a = (steps : ℕ) (part : Log) (end : Actor) → Does (move program thread) steps a part end → IsKept thread (next_of_actor program thread end)

abbrev pub BlockKeeps : Program → Store → Next (Option Code) (Unit {0}) → Type 0
BlockKeeps program store (Asks (Spawning site low high block) left) = (thread number : ℕ) → 0 < thread → Keeps program thread (record { code = Some (block thread); number = number; store = store })
BlockKeeps program store _ = Unit {0}

-- the serial code and the threads that it spawns keep to their cells
pub record ThreadsKeep (program : Program) : Type 0 where
  pub serial : Keeps program 0 (main_actor program)
  pub virtual : (steps : ℕ) (part : Log) (end : Actor) → Does (move program 0) steps (main_actor program) part end → BlockKeeps program end.store (next_of_actor program 0 end)

-- ---- what a spawn makes

abbrev pub IsMade : Program → World → (ℕ → Actor) → Store → Next (Option Code) (Unit {0}) → Type 0
IsMade program w actors store (Asks (Spawning site low high block) left) =
    (k : ℕ) → k < count_between low high →
    (actors (w.threads + k) ≡ record { code = Some (block (w.threads + k)); number = (low + k) % 2 ^ 32; store = store }) ×
    Keeps program (w.threads + k) (actors (w.threads + k))
IsMade program w actors store _ = Unit {0}

abbrev pub Made : Program → World → (ℕ → Actor) → Entry Action → Type 0
Made program w actors e = IsMade program w actors (actors e.actor).store (next_of_actor program e.actor (actors e.actor))
