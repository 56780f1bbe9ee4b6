-- The source prints what the machine prints, and ends where it ends, with the same globals.
use Rattle.std.proofs.Common.{◌≡◌, sym, ◌∙◌, ap, ℕ, ◌+◌, ◌-◌, ◌*◌, ◌/◌, ◌%◌, ◌<◌, nat_lt, true, false, if◌then◌else◌, IsTrue, List, length, take, drop, slice_index, arith}
use Rattle.xmt_base.specs.declared.values.TrapKind.{TrapKind}
use Rattle.xmt_base.specs.Action.{Word, Register, Outer}
use Rattle.source_meaning.specs.declared.tree.Program.{Program}
use Rattle.source_meaning.specs.Run.{is_over, words_held}
use Rattle.source_meaning.specs.Store as cell
use Rattle.std.specs.Prelude.{Option}
use Rattle.source_log.specs.FromLog.{IsScheduleOf}
use Rattle.source_log.specs.Log.{world_of}
use Rattle.xmt_isa.specs.declared.image.Image.{Image}
use Rattle.xmt_isa.specs.Legal.{HasHalted}
use Rattle.xmt_isa.specs.Machine.{Machine}
use Rattle.xmt_isa.specs.Places.{shared_at}
use Rattle.machine_log.specs.Log as machine
use Rattle.machine_log.specs.Log.{Log, opening_world, after_log}
use Rattle.machine_log.specs.Done.{Parts}
use Rattle.machine_runs.specs.Runs.{IsLogOf}
use Rattle.machine_places.specs.Keeps.{IsShared}
use Rattle.run_law.specs.Cells.{WorldsAgree}
use Rattle.xmt_compile.specs.Implements.{data_words, reached}
use Rattle.xmt_compile.proofs.Lists.{map_part}

-- the word of the table behind the registers
data_place : (image : Image) (place : ℕ) → place < length image.words → shared_at image (12 + place) ≡ Word place
data_place image place less =
    let first : nat_lt (12 + place) 12 ≡ false = grind arith in
    let second : nat_lt (12 + place) (12 + length image.words) ≡ true = grind (arith, less) in
    let back : 12 + place - 12 ≡ place = omega arith in
    ap (λ b. if b then Register (12 + place - 4) else (if nat_lt (12 + place) (12 + length image.words) then Word (12 + place - 12) else Outer ((12 + place - (12 + length image.words)) / image.outer) ((12 + place - (12 + length image.words)) % image.outer))) first
    ∙ ap (λ b. if b then Word (12 + place - 12) else Outer ((12 + place - (12 + length image.words)) / image.outer) ((12 + place - (12 + length image.words)) % image.outer)) second
    ∙ ap Word back

module _ (program : Program) (image : Image) (memory : List ℕ) (m : Machine) (log : Log) (p : Parts) (is_log : IsLogOf image memory m log p)
    (agree : WorldsAgree image (after_log image (opening_world image memory) log) (world_of program memory log))
    (trap : ℕ → Option (TrapKind × ℕ)) (steps : ℕ → ℕ) (schedule : List ℕ) (is_schedule : IsScheduleOf program memory log trap steps schedule) where
  pub printed : (reached program memory schedule).output ≡ m.out
  printed = is_schedule.output ∙ agree.printed ∙ ap (λ (w : machine.World). w.printed) is_log.is_world ∙ sym is_log.printed

  table : (after_log image (opening_world image memory) log).words ≡ m.words
  table = ap (λ (w : machine.World). w.words) is_log.is_world ∙ sym is_log.words

  table_size : length m.words ≡ 12 + length image.words + 257 * image.outer
  table_size = sym (ap length table) ∙ agree.size

  word_at : (place : ℕ) → place < length image.words → (reached program memory schedule).store (cell.Word place) ≡ slice_index m.words (12 + place)
  word_at place less =
      let shared : IsShared image (12 + place) = record { above = omega arith; below = omega (arith, less) } in
      is_schedule.cells (Word place) ∙ ap (world_of program memory log).cells (sym (data_place image place less)) ∙ agree.cells (12 + place) shared ∙ ap (λ words. slice_index words (12 + place)) table

  pub globals : length memory ≡ length image.words → words_held (reached program memory schedule).store (length memory) ≡ data_words image m.words
  globals size =
      let all : length m.words ≡ 12 + length image.words + 257 * image.outer = table_size in
      map_part (λ place. (reached program memory schedule).store (cell.Word place)) m.words (length memory) 0 12 (omega (arith, all, size))
      (λ place less. let none : 0 + place ≡ place = omega arith in ap (λ n. (reached program memory schedule).store (cell.Word n)) none ∙ word_at place (omega (arith, less, size)))
      ∙ ap (λ n. take n (drop 12 m.words)) size

  pub over : HasHalted m → IsTrue (is_over (reached program memory schedule))
  over halted = is_schedule.over ∙ agree.ended 0 ∙ ap (λ (w : machine.World). w.ended 0) is_log.is_world ∙ is_log.halted.0 halted
