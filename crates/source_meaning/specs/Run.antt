-- A run of the source: threads that step in any order over one store.
use Rattle.std.specs.Prelude.{ℕ, zero, suc, ◌+◌, ◌%◌, ◌^◌, ◌==◌, Bool, true, false, not, if◌then◌else◌, IsTrue, List, [], ◌∷◌, ◌++◌, length, map, count_by, Option, Some, None, is_none, option_and_then, slice_get, slice_set, slice_index}
use Rattle.std.specs.List.{list_all, filter_map, range_with_len}
use Rattle.std.specs.Option.{option_map_or}
use Rattle.xmt_base.specs.declared.values.Trap.{Trap}
use Rattle.source_meaning.specs.declared.tree.Program.{Program}
use Rattle.source_meaning.specs.Store.{Word, Register, Store, store_with}
use Rattle.source_meaning.specs.Term.{Code}
use Rattle.source_meaning.specs.Next.{Ask, Loading, Storing, Adding, Printing, Spawning, Joining, Ending, Next, Is, Asks, Traps, next_within, next_code}
use Rattle.xmt_base.specs.Operators.{count_between}
use Rattle.source_meaning.specs.Code.{call_code}

pub record Thread : Type 0 where
  -- what is left of its code, or none once it has ended
  pub code : Option Code
  -- its `$`
  pub number : ℕ
  -- the `$` of the outermost virtual thread that it belongs to, or none for the serial code
  pub outermost : Option ℕ
  -- the number of the thread that spawned it, or none for the serial code
  pub parent : Option ℕ

pub record Configuration : Type 0 where
  pub store : Store
  -- by their numbers; thread 0 is the serial code
  pub threads : List Thread
  pub output : List ℕ

-- ---- what a thread does next

-- the end of `main` or of a block is a step of its own, after which the thread has ended
abbrev pub next_of_rest : Program → (t number : ℕ) → Option Code → Next (Option Code) (Unit {0})
next_of_rest program t number None = Is tt
next_of_rest program t number (Some code) =
    next_within Some (next_code number (call_code program t) 0 code) (λ exit. Asks Ending (λ _. None))

abbrev pub next_of_thread : Program → (t : ℕ) → Option Thread → Next (Option Code) (Unit {0})
next_of_thread program t None = Is tt
next_of_thread program t (Some thread) = next_of_rest program t thread.number thread.code

abbrev pub next_of : Program → Configuration → (t : ℕ) → Next (Option Code) (Unit {0})
next_of program c t = next_of_thread program t (slice_get c.threads t)

abbrev pub has_ended : Thread → Bool
has_ended thread = is_none thread.code

-- whether this is the parent
abbrev pub is_child : (t : ℕ) → (parent : Option ℕ) → Bool
is_child t None = false
is_child t (Some parent) = t == parent

-- at its join a thread waits for each of its own children that still lives
abbrev pub waits_for : (t : ℕ) → Thread → Bool
waits_for t thread = if has_ended thread then false else is_child t thread.parent

abbrev pub may_go : (t : ℕ) → List Thread → Ask → Bool
may_go t threads Joining = list_all (λ thread. not (waits_for t thread)) threads
may_go t threads _ = true

abbrev pub is_step : (t : ℕ) → List Thread → Next (Option Code) (Unit {0}) → Bool
is_step t threads (Is result) = false
is_step t threads (Asks ask left) = may_go t threads ask
is_step t threads (Traps kind line) = false

abbrev pub can_step : Program → Configuration → (t : ℕ) → Bool
can_step program c t = is_step t c.threads (next_of program c t)

-- ---- one step

abbrev pub reply : Configuration → Ask → ℕ
reply c (Loading cell) = c.store cell
reply c (Adding cell value) = c.store cell
reply c _ = 0

abbrev pub store_after : Store → Ask → Store
store_after store (Storing cell value) = store_with store cell value
store_after store (Adding cell value) = store_with store cell ((store cell + value) % 2 ^ 32)
store_after store _ = store

abbrev pub text_of : Ask → List ℕ
text_of (Printing text) = text
text_of _ = []

-- the outermost virtual thread of a child with this number
abbrev pub outermost_of : Option ℕ → (number : ℕ) → Option ℕ
outermost_of None number = Some number
outermost_of (Some outermost) number = Some outermost

-- one thread for each number, in order, with the next free numbers of threads
abbrev pub threads_from : (parent : ℕ) → Option ℕ → (block : ℕ → Code) → (first number count : ℕ) → List Thread
threads_from parent outermost block first number zero = []
threads_from parent outermost block first number (suc count) =
    record { code = Some (block first); number = number % 2 ^ 32; outermost = outermost_of outermost (number % 2 ^ 32); parent = Some parent } ∷
    threads_from parent outermost block (suc first) (suc number) count

abbrev pub new_threads : (parent : ℕ) → Option ℕ → (first : ℕ) → Ask → List Thread
new_threads parent outermost first (Spawning site low high block) = threads_from parent outermost block first low (count_between low high)
new_threads parent outermost first _ = []

abbrev pub after_answer : Configuration → (t : ℕ) → Thread → Ask → (ℕ → Option Code) → Configuration
after_answer c t thread ask left =
    record {
      store = store_after c.store ask;
      threads = slice_set c.threads t (record thread { code = left (reply c ask) }) ++ new_threads t thread.outermost (length c.threads) ask;
      output = c.output ++ text_of ask;
    }

abbrev pub after_step : Configuration → (t : ℕ) → Option Thread → Next (Option Code) (Unit {0}) → Configuration
after_step c t (Some thread) (Asks ask left) = if may_go t c.threads ask then after_answer c t thread ask left else c
after_step c t _ _ = c

-- the configuration after one step of a thread; it stays as it is where the thread cannot step
abbrev pub step : Program → Configuration → (t : ℕ) → Configuration
step program c t = after_step c t (slice_get c.threads t) (next_of program c t)

-- ---- runs

-- after the threads of a schedule have stepped in that order
abbrev pub after : Program → Configuration → (schedule : List ℕ) → Configuration
after program c [] = c
after program c (t ∷ schedule) = after program (step program c t) schedule

-- each thread of the schedule can step at its turn
abbrev pub IsLegal : Program → Configuration → (schedule : List ℕ) → Type 0
IsLegal program c [] = Unit {0}
IsLegal program c (t ∷ schedule) = IsTrue (can_step program c t) × IsLegal program (step program c t) schedule

abbrev pub first_has_ended : List Thread → Bool
first_has_ended [] = false
first_has_ended (serial ∷ virtual) = has_ended serial

-- a run has ended once its serial code has
abbrev pub is_over : Configuration → Bool
is_over c = first_has_ended c.threads

-- the numbers of the threads that there have been
abbrev pub thread_numbers : Configuration → List ℕ
thread_numbers c = range_with_len 0 (length c.threads)

-- how many threads can step
abbrev pub ready : Program → Configuration → ℕ
ready program c = count_by (can_step program c) (thread_numbers c)

-- ---- traps

abbrev pub trap_in : Next (Option Code) (Unit {0}) → (outermost : Option ℕ) → Option Trap
trap_in (Traps kind line) outermost = Some (record { kind = kind; line = line; thread = outermost })
trap_in _ outermost = None

abbrev pub trap_of_thread : Program → (t : ℕ) → Thread → Option Trap
trap_of_thread program t thread = trap_in (next_of_rest program t thread.number thread.code) thread.outermost

-- the trap at which a thread stands, if it does
abbrev pub trap_of : Program → Configuration → (t : ℕ) → Option Trap
trap_of program c t = option_and_then (trap_of_thread program t) (slice_get c.threads t)

-- the traps at which threads stand, in order of the threads' numbers
abbrev pub traps : Program → Configuration → List Trap
traps program c = filter_map (trap_of program c) (thread_numbers c)

-- ---- the rising schedule

-- the number of the first thread that a thread waits for, counted from a first number
abbrev pub first_live : (t number : ℕ) → List Thread → Option ℕ
first_live t number [] = None
first_live t number (thread ∷ threads) = if waits_for t thread then Some number else first_live t (suc number) threads

-- the least live thread that a thread waits for
abbrev pub live_child : (t : ℕ) → List Thread → Next (Option Code) (Unit {0}) → Option ℕ
live_child t threads (Asks Joining left) = first_live t 0 threads
live_child t threads _ = None

-- Goes from a waiting thread to the least live thread that it waits for. Each has a greater number than the one before, so there are fewer such turns than threads.
abbrev pub rising_from : Program → Configuration → (turns t : ℕ) → ℕ
rising_from program c zero t = t
rising_from program c (suc turns) t = option_map_or (rising_from program c turns) (live_child t c.threads (next_of program c t)) t

abbrev pub rising_thread : Program → Configuration → ℕ
rising_thread program c = rising_from program c (length c.threads) 0

-- the rising schedule of at most so many steps
abbrev pub rising : Program → Configuration → (steps : ℕ) → List ℕ
rising program c zero = []
rising program c (suc steps) =
    if can_step program c (rising_thread program c)
    then rising_thread program c ∷ rising program (step program c (rising_thread program c)) steps
    else []

-- ---- the beginning

abbrev pub opening_store : Program → (words : List ℕ) → Store
opening_store program words (Word place) = slice_index words place
opening_store program words (Register number) = slice_index (map (λ r. r.opening) program.registers) number
opening_store program words _ = 0

-- a program before its first step, with these words of its globals
abbrev pub start : Program → (words : List ℕ) → Configuration
start program words =
    record {
      store = opening_store program words;
      threads = record { code = Some (call_code program 0 program.main 0 []); number = 0; outermost = None; parent = None } ∷ [];
      output = [];
    }

-- what the words of the globals hold, so many of them
abbrev pub words_held : Store → (count : ℕ) → List ℕ
words_held store count = map (λ place. store (Word place)) (range_with_len 0 count)
