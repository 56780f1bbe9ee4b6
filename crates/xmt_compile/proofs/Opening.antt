-- An image with the globals and registers of a program opens as the program does.
use Rattle.std.proofs.Common.{◌≡◌, refl, sym, ◌∙◌, ap, subst, ℕ, suc, zero, ◌+◌, ◌<◌, List, [], ◌∷◌, ◌++◌, map, take, length, replicate, slice_index, length-append, arith}
use Rattle.std.proofs.lemmas.List.{get_or-take, length-take, length-replicate}
use Rattle.std.proofs.lemmas.List.Sums.{sum_by-cons}
use Rattle.source_meaning.specs.declared.tree.GlobalVar.{GlobalVar}
use Rattle.source_meaning.specs.declared.tree.Program.{Program}
use Rattle.source_meaning.specs.Layout.{all_words, symbols_from}
use Rattle.xmt_isa.specs.declared.image.Image.{Image}
use Rattle.xmt_isa.specs.Symbols.{Covers}
use Rattle.xmt_isa.specs.Valid.{IsValid}
use Rattle.run_law.specs.Cells.{OpensAs}
use Rattle.xmt_compile.specs.Implements.{OpensWith}

-- ---- how many words there are

covered : (globals : List GlobalVar) (base to : ℕ) → Covers base (symbols_from base globals) to → base + all_words globals ≡ to
covered [] base to h = (let none : base + 0 ≡ base = omega arith in none ∙ h)
covered (global ∷ globals) base to h =
    let rest : base + global.length + all_words globals ≡ to = covered globals (base + global.length) to h.1 in
    let all : all_words (global ∷ globals) ≡ global.length + all_words globals = sum_by-cons (λ (g : GlobalVar). g.length) global globals in
    omega (arith, rest, all)

module _ (program : Program) (image : Image) (valid : IsValid image) (opens : OpensWith image program) where
  pub words_count : length image.words ≡ all_words program.globals
  words_count =
      let whole : 0 + all_words program.globals ≡ length image.words = covered program.globals 0 (length image.words) (subst (λ symbols. Covers 0 symbols (length image.words)) opens.symbols valid.symbols.are.cover) in
      omega (arith, whole)

-- ---- registers

zeros_at : (n i : ℕ) → slice_index (replicate n 0) i ≡ 0
zeros_at zero i = refl
zeros_at (suc n) zero = refl
zeros_at (suc n) (suc i) = zeros_at n i

with_zeros : (xs : List ℕ) (n i : ℕ) → slice_index xs i ≡ slice_index (xs ++ replicate n 0) i
with_zeros [] n i = sym (zeros_at n i)
with_zeros (x ∷ xs) n zero = refl
with_zeros (x ∷ xs) n (suc i) = with_zeros xs n i

-- eight of a list with eight zeros behind it
eight : (xs : List ℕ) → length (take 8 (xs ++ replicate 8 0)) ≡ 8
eight xs =
    let all : length (xs ++ replicate 8 0) ≡ length xs + length (replicate {A = ℕ} 8 0) = length-append xs (replicate 8 0) in
    let zeros : length (replicate {A = ℕ} 8 0) ≡ 8 = length-replicate {A = ℕ} 8 0 in
    let taken = length-take 8 (xs ++ replicate 8 0) in
    omega (arith, all, zeros, taken)

opens_at : (xs : List ℕ) (i : ℕ) → i < 8 → slice_index xs i ≡ slice_index (take 8 (xs ++ replicate 8 0)) i
opens_at xs i less = with_zeros xs 8 i ∙ sym (get_or-take 8 (xs ++ replicate 8 0) i 0 less)

pub opens_as : (program : Program) (image : Image) → IsValid image → OpensWith image program → (memory : List ℕ) → length memory ≡ all_words program.globals → OpensAs image memory program memory
opens_as program image valid opens memory size =
    record {
      globals = refl;
      size = size ∙ sym (words_count program image valid opens);
      registers = ap length opens.registers ∙ eight (map (λ r. r.opening) program.registers);
      opening = λ number less. opens_at (map (λ r. r.opening) program.registers) number less ∙ ap (λ ps. slice_index ps number) (sym opens.registers);
    }
