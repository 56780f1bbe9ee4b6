-- What it is for an image to implement a program.
use Rattle.std.specs.Prelude.{◌≡◌, ℕ, ◌+◌, ◌*◌, ◌≤◌, nat_lt, Bool, true, false, not, ◌&&◌, IsTrue, List, length, take, drop, count_by, slice_get, slice_index, Some}
use Rattle.std.specs.Option.{option_map_or}
use Rattle.std.specs.List.{Contains}
use Rattle.xmt_base.specs.declared.values.TrapKind.{TrapKind}
use Rattle.interleaving.specs.Actors.{turns_of}
use Rattle.source_meaning.specs.declared.tree.Program.{Program}
use Rattle.source_meaning.specs.Layout.{all_words, opening_words, opening_registers, symbols_from}
use Rattle.source_meaning.specs.Run as source
use Rattle.source_meaning.specs.Run.{Configuration, has_ended, is_over, start, thread_numbers, words_held}
use Rattle.xmt_isa.specs.declared.image.Image.{Image}
use Rattle.xmt_isa.specs.declared.unit.Unit.{Unit}
use Rattle.xmt_isa.specs.declared.unit.Next.TheVariants as next
use Rattle.xmt_isa.specs.Legal as machine
use Rattle.xmt_isa.specs.Legal.{HasHalted}
use Rattle.xmt_isa.specs.Machine.{Machine, after}
use Rattle.xmt_isa.specs.Opening.{opening}
use Rattle.xmt_isa.specs.Picked.{is_active, is_spawned}
use Rattle.xmt_isa.specs.Step.{next_of}
use Rattle.xmt_isa.specs.Valid.{IsValid}

-- an image has the globals and the registers of a program, with what they open with
pub record OpensWith (image : Image) (program : Program) : Type 0 where
  pub symbols : image.symbols ≡ symbols_from 0 program.globals
  pub words : image.words ≡ opening_words program.globals
  pub registers : image.ps ≡ opening_registers program

-- the words of the globals in the machine's table
abbrev pub data_words : Image → (words : List ℕ) → List ℕ
data_words image words = take (length image.words) (drop 12 words)

-- a program after a schedule, from a memory
abbrev pub reached : Program → (memory schedule : List ℕ) → Configuration
reached program memory schedule = source.after program (start program memory) schedule

-- a virtual thread that has taken a step of the schedule and has not ended
abbrev pub is_under_way : (schedule : List ℕ) → Configuration → (thread : ℕ) → Bool
is_under_way schedule c thread =
    nat_lt 0 thread && (nat_lt 0 (turns_of thread schedule) && option_map_or (λ t. not (has_ended t)) (slice_get c.threads thread) false)

-- What a machine with n control units has done, the source does by a schedule.
pub record Matches (program : Program) (image : Image) (memory : List ℕ) (n : ℕ) (m : Machine) (schedule : List ℕ) : Type 0 where
  pub legal : source.IsLegal program (start program memory) schedule
  -- both have printed the same
  pub printed : (reached program memory schedule).output ≡ m.out
  -- no unit has taken more than 64 steps for each step of the source, and 64
  pub steps : (k : ℕ) (u : Unit) → slice_get m.units k ≡ Some u → u.counts.steps ≤ 64 * (length schedule + 1)
  -- where the machine has ended, so has the source, with the same globals
  pub halted : HasHalted m → IsTrue (is_over (reached program memory schedule)) × (words_held (reached program memory schedule).store (length memory) ≡ data_words image m.words)
  -- where a unit stands at a trap, so does a thread of the source
  pub traps : (k : ℕ) (u : Unit) (kind : TrapKind) → slice_get m.units k ≡ Some u → is_active (is_spawned m.units) u ≡ true → next_of image m.start u ≡ next.Trap kind →
      Contains (source.traps program (reached program memory schedule)) (record { kind = kind; line = slice_index image.lines u.at; thread = u.thread })
  -- with one control unit it is the rising schedule
  pub rising : n ≡ 1 → schedule ≡ source.rising program (start program memory) (length schedule)
  -- no more virtual threads are under way than there are control units
  pub under_way : count_by (is_under_way schedule (reached program memory schedule)) (thread_numbers (reached program memory schedule)) ≤ n

-- Whatever the machine does with the image, from any memory, with any number of control units and in any order, the source does by a schedule.
pub record Implements (program : Program) (image : Image) : Type 0 where
  pub valid : IsValid image
  pub opens : OpensWith image program
  pub runs : (memory : List ℕ) (n : ℕ) (turns : List ℕ) → length memory ≡ all_words program.globals → 1 ≤ n → n ≤ 64 → machine.IsLegal image (opening image memory n) turns →
      (schedule : List ℕ) × Matches program image memory n (after image (opening image memory n) turns) schedule
