-- The words of the table and the cells of the program agree at first.
use Rattle.std.proofs.Common.{◌≡◌, refl, sym, ◌∙◌, ap, ℕ, ◌+◌, ◌-◌, ◌*◌, ◌/◌, ◌%◌, ◌<◌, ◌≤◌, nat_lt, Bool, true, false, if◌then◌else◌, List, ◌++◌, length, replicate, slice_index, arith, append_assoc}
use Rattle.std.proofs.lemmas.Bool.Decides.{nat_tests}
use Rattle.std.proofs.lemmas.List.{get_or_append_left, get_or-append_right, length-append}
use Rattle.xmt_base.specs.Action.{Shared, Word, Register, Outer}
use Rattle.source_meaning.specs.declared.tree.Program.{Program}
use Rattle.source_log.specs.Log as source
use Rattle.xmt_isa.specs.declared.image.Image.{Image}
use Rattle.xmt_isa.specs.Opening.{zeros_of, opening_words}
use Rattle.machine_places.proofs.Units.{zeros-length, zeros-index}
use Rattle.run_law.specs.Cells.{OpensAs, CellsAgree, ProgramsAgreeAtFirst}

module _ (image : Image) (memory : List ℕ) (program : Program) (words : List ℕ) (opens : OpensAs image memory program words) where
  abbrev zeros : List ℕ
  zeros = zeros_of (257 * image.outer)

  grouped : opening_words image memory ≡ replicate 4 0 ++ (image.ps ++ (memory ++ zeros))
  grouped = ap (λ xs. replicate 4 0 ++ xs) (append_assoc image.ps memory zeros)

  size : length (opening_words image memory) ≡ 12 + length image.words + 257 * image.outer
  size =
      let all : length (image.ps ++ (memory ++ zeros)) ≡ length image.ps + length (memory ++ zeros) = length-append image.ps (memory ++ zeros) in
      let rest : length (memory ++ zeros) ≡ length memory + length zeros = length-append memory zeros in
      let last : length zeros ≡ 257 * image.outer = zeros-length (257 * image.outer) in
      let registers : length image.ps ≡ 8 = opens.registers in
      let globals : length memory ≡ length image.words = ap length opens.globals ∙ opens.size in
      let four : length (opening_words image memory) ≡ 4 + length (image.ps ++ (memory ++ zeros)) = ap length grouped ∙ length-append (replicate 4 0) (image.ps ++ (memory ++ zeros)) in
      omega (arith, four, all, rest, last, registers, globals)

  -- the cells of the program at first
  abbrev cells : Shared → ℕ
  cells = (source.opening_world program words).cells

  agree : CellsAgree image (opening_words image memory) cells
  agree word shared = by_register (nat_lt word 12) refl
    where
      above : 4 ≤ word
      above = shared.above

      behind_four : slice_index (opening_words image memory) word ≡ slice_index (image.ps ++ (memory ++ zeros)) (word - 4)
      behind_four = ap (λ xs. slice_index xs word) grouped ∙ get_or-append_right (replicate 4 0) (image.ps ++ (memory ++ zeros)) 4 word 0 refl above

      behind_registers : 12 ≤ word → slice_index (opening_words image memory) word ≡ slice_index (memory ++ zeros) (word - 12)
      behind_registers past =
          let sum : word - 4 - 8 ≡ word - 12 = omega arith in
          behind_four ∙ get_or-append_right image.ps (memory ++ zeros) 8 (word - 4) 0 opens.registers (omega (arith, past)) ∙ ap (slice_index (memory ++ zeros)) sum

      by_data : 12 ≤ word → (b : Bool) → nat_lt word (12 + length image.words) ≡ b →
          cells (if b then Word (word - 12) else Outer ((word - (12 + length image.words)) / image.outer) ((word - (12 + length image.words)) % image.outer)) ≡ slice_index (opening_words image memory) word
      by_data past true e =
          let below : word < 12 + length image.words = grind (arith, nat_tests, e) in
          let count : length memory ≡ length image.words = ap length opens.globals ∙ opens.size in
          sym (behind_registers past ∙ get_or_append_left memory zeros 0 (word - 12) (omega (arith, past, below, count)) ∙ ap (λ m. slice_index m (word - 12)) opens.globals)
      by_data past false e =
          let behind : 12 + length image.words ≤ word = grind (arith, nat_tests, e) in
          let count : length memory ≡ length image.words = ap length opens.globals ∙ opens.size in
          sym (behind_registers past ∙ get_or-append_right memory zeros (length image.words) (word - 12) 0 count (omega (arith, behind)) ∙ zeros-index (257 * image.outer) (word - 12 - length image.words))

      by_register : (b : Bool) → nat_lt word 12 ≡ b →
          cells (if b then Register (word - 4) else (if nat_lt word (12 + length image.words) then Word (word - 12) else Outer ((word - (12 + length image.words)) / image.outer) ((word - (12 + length image.words)) % image.outer))) ≡ slice_index (opening_words image memory) word
      by_register true e =
          let below : word < 12 = grind (arith, nat_tests, e) in
          let registers : length image.ps ≡ 8 = opens.registers in
          opens.opening (word - 4) (omega (arith, above, below)) ∙ sym (behind_four ∙ get_or_append_left image.ps (memory ++ zeros) 0 (word - 4) (omega (arith, above, below, registers)))
      by_register false e = by_data (grind (arith, nat_tests, e)) (nat_lt word (12 + length image.words)) refl

pub all_agree_at_first : ProgramsAgreeAtFirst
all_agree_at_first image memory program words opens =
    record { size = size image memory program words opens; cells = agree image memory program words opens; printed = refl; threads = refl; ended = λ thread. refl }
