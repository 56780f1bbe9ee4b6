-- The image of a well-formed quad program is valid.
use Rattle.std.proofs.Common.{◌≡◌, refl, sym, ◌∙◌, ap, subst, arith, ℕ, suc, ◌+◌, ◌*◌, ◌<◌, ◌≤◌, List, [], ◌∷◌, length, length-append}
use Rattle.std.specs.Prelude.{Bool, ◌^◌, All, sum_by}
use Rattle.std.proofs.lemmas.List.Elements.{All-nil, All-cons}
use Rattle.std.proofs.lemmas.List.Sums.{sum_by-cons, sum_by-take-le, sum_by-le-sum_by}
use Rattle.xmt_base.specs.declared.values.Symbol.{Symbol}
use Rattle.xmt_base.specs.Format.{IsFormat}
use Rattle.xmt_isa.specs.declared.image.FunctionEntry.{FunctionEntry}
use Rattle.xmt_isa.specs.declared.image.Image.{Image}
use Rattle.xmt_isa.specs.declared.image.Instr.{Instr}
use Rattle.xmt_isa.specs.Symbols.{AreSymbols}
use Rattle.xmt_isa.specs.Valid.{IsValid}
use Rattle.xmt_quads.specs.declared.code.Where.TheVariants.{Word, Element, Outer, PsReg}
use Rattle.xmt_quads.specs.declared.code.Quad.{Quad}
use Rattle.xmt_quads.specs.declared.code.Quad.TheVariants as quad
use Rattle.xmt_quads.specs.declared.code.QuadFunction.{QuadFunction}
use Rattle.xmt_quads.specs.declared.code.QuadProgram.{QuadProgram}
use Rattle.xmt_quads.specs.declared.homes.Home.{Home}
use Rattle.xmt_quads.specs.Program.{weight}
use Rattle.xmt_quads.specs.Allocation.{IsAllocationOf, HasOwnSlots}
use Rattle.xmt_quads.specs.WellFormed.{NamesExist, IsWellFormedFunction, IsWellFormed}
use Rattle.quad_images.specs.Instructions.{quad_code, size}
use Rattle.quad_images.specs.Image.{size_of, begins_in, all_own, own_behind, code_from, function_code, codes_from, lines_from, lines_of_all, entries_from, slot_in, IsImageOf}
use Rattle.quad_image_places.proofs.Tails.{sizes_of, length_lines}
use Rattle.quad_image_places.proofs.Laid.{Laid}
use Rattle.quad_image_places.proofs.InImage.{laid}
use Rattle.quad_image_limits.proofs.Instructions.{IsGood, AreGood, both_good, quad_good}
use Rattle.quad_image_limits.proofs.Located.{length_codes, length_entries}
use Rattle.quad_image_limits.proofs.Nesting.{some_code, all_entries, has_regions}
use Rattle.quad_image_limits.proofs.Targets.{in_functions}

-- ---- instructions are as many as the work allows

size_weighs : (q : Quad) → size q ≤ weight q
size_weighs (quad.Load r (Word w)) = omega arith
size_weighs (quad.Load r (Element base o)) = omega arith
size_weighs (quad.Load r (Outer n)) = omega arith
size_weighs (quad.Load r (PsReg n)) = omega arith
size_weighs (quad.Store (Word w) o) = omega arith
size_weighs (quad.Store (Element base i) o) = omega arith
size_weighs (quad.Store (Outer n) o) = omega arith
size_weighs (quad.Store (PsReg n) o) = omega arith
size_weighs (quad.Add r (Word w) o) = omega arith
size_weighs (quad.Add r (Element base i) o) = omega arith
size_weighs (quad.Add r (Outer n) o) = omega arith
size_weighs (quad.Add r (PsReg n) o) = omega arith
size_weighs _ = omega arith

pub sizes_weigh : (functions : List QuadFunction) → sizes_of functions ≤ sum_by (λ f. sum_by weight f.quads) functions
sizes_weigh functions = sum_by-le-sum_by (λ (f : QuadFunction). size_of f.quads) (λ (f : QuadFunction). sum_by weight f.quads) functions (λ f. sum_by-le-sum_by size weight f.quads size_weighs)

all_lines : (functions : List QuadFunction) → All (λ f. length f.lines ≡ length f.quads) functions → length (lines_of_all functions) ≡ sizes_of functions
all_lines [] same = refl
all_lines (f ∷ functions) same =
    let here : length f.lines ≡ length f.quads = same 0 f (omega arith) in
    let rest = all_lines functions (λ k d below. same (suc k) d (omega (arith, below))) in
    omega (arith, length-append (lines_from f.quads f.lines) (lines_of_all functions), length_lines f.quads f.lines here, rest, sum_by-cons (λ (f : QuadFunction). size_of f.quads) f functions)

-- ---- each instruction

module _ (program : QuadProgram) (image : Image) (functions : length image.functions ≡ length program.functions) (texts : length image.texts ≡ length program.texts) (words : length image.words ≡ length program.words) (outer : image.outer ≡ program.outer) where
  code_good : (slot begins : ℕ → ℕ) (own : ℕ → Bool) (f : QuadFunction) (quads : List Quad) → All (NamesExist program f) quads → AreGood program image functions texts words outer (code_from slot begins own quads)
  code_good slot begins own f [] names = tt
  code_good slot begins own f (q ∷ quads) names =
      both_good program image functions texts words outer (quad_code slot begins own q) (code_from slot begins (own_behind own q quads) quads) (quad_good program image functions texts words outer slot begins own f q (names 0 q (omega arith)))
      (code_good slot begins (own_behind own q quads) f quads (λ k d below. names (suc k) d (omega (arith, below))))

  codes_good : (slot : ℕ → ℕ → ℕ) (start number : ℕ) (fs : List QuadFunction) → All (IsWellFormedFunction program) fs → AreGood program image functions texts words outer (codes_from slot start number fs)
  codes_good slot start number [] well = tt
  codes_good slot start number (f ∷ fs) well =
      both_good program image functions texts words outer (function_code (slot number) start f.quads) (codes_from slot (start + size_of f.quads) (number + 1) fs) (code_good (slot number) (begins_in start f.quads) all_own f f.quads (well 0 f (omega arith)).names)
      (codes_good slot (start + size_of f.quads) (number + 1) fs (λ k d below. well (suc k) d (omega (arith, below))))

  each : (P : Instr → Type 0) → ((i : Instr) → IsGood program image functions texts words outer i → P i) → (code : List Instr) → AreGood program image functions texts words outer code → All P code
  each P go [] good = All-nil P
  each P go (i ∷ code) good = All-cons P i code (go i good.0) (each P go code good.1)

-- ---- the image

pub is_valid : (program : QuadProgram) (homes : List (List Home)) (image : Image) → IsWellFormed program → IsAllocationOf program homes → All HasOwnSlots homes → IsImageOf program homes image → IsValid image
is_valid program homes image well allocation own is =
    let there : Laid program (slot_in homes) image = laid program homes image well allocation own is in
    let long : length image.code ≡ sizes_of program.functions = ap (λ (code : List Instr). length code) is.code ∙ length_codes (slot_in homes) 0 0 program.functions in
    let count : length image.functions ≡ length program.functions = ap (λ (es : List FunctionEntry). length es) is.functions ∙ length_entries 0 program.functions in
    let texts : length image.texts ≡ length program.texts = ap (λ (ts : List (List ℕ)). length ts) is.texts in
    let words : length image.words ≡ length program.words = ap (λ (ws : List ℕ). length ws) is.words in
    let good : AreGood program image count texts words is.outer image.code = subst (AreGood program image count texts words is.outer) (sym is.code) (codes_good program image count texts words is.outer (slot_in homes) 0 0 program.functions well.functions) in
    let lines : length image.lines ≡ sizes_of program.functions = ap (λ (ls : List ℕ). length ls) is.lines ∙ all_lines program.functions (λ k d below. (well.functions k d below).lines) in
    let light = well.light in
    let weighs = sizes_weigh program.functions in
    let some = well.some_functions in
    let few = well.few_functions in
    let main = well.main in
    let symbols : length image.symbols ≡ length program.symbols = ap (λ (ss : List Symbol). length ss) is.symbols in
    let symbol_count = well.tables.symbols in
    let text_count = well.tables.texts in
    let outer_count = well.tables.outer in
    let word_count = well.tables.words in
    let outer = is.outer in
    let entry = is.entry in
    record {
      sizes =
          record {
            some_code = first_code program (slot_in homes) image there long is.functions well (omega (arith, some));
            code = omega (arith, long, weighs, light);
            lines = lines ∙ sym long;
            some_functions = omega (arith, count, some);
            functions = omega (arith, count, few);
            texts = omega (arith, texts, text_count);
            symbols = omega (arith, symbols, symbol_count);
            outer = omega (arith, outer, outer_count);
            words = all_words program image words outer word_count;
            entry = omega (arith, entry, count, main);
            slots = subst (λ (entries : List FunctionEntry). All (λ e. e.slots ≤ 512) entries) (sym is.functions) (all_entries (λ e. e.slots ≤ 512) (λ start g. omega arith) 0 program.functions);
          };
      operations = record { each = each program image count texts words is.outer (λ i. (1 ≤ i.op) × (i.op ≤ 45)) (λ i g. (g.low, g.high)) image.code good };
      registers = record { each = each program image count texts words is.outer _ (λ i g. g.registers) image.code good };
      targets = record { each = each program image count texts words is.outer _ (λ i g. g.target) image.code good; in_function = λ starts at. in_functions program (slot_in homes) image there long is.functions well at };
      regions = has_regions program (slot_in homes) image there long is.functions well;
      texts = record { each = subst (All IsFormat) (sym is.texts) well.tables.formats };
      symbols =
          record {
            are = subst (λ (ss : List Symbol). AreSymbols ss (length image.words)) (sym is.symbols) (subst (AreSymbols program.symbols) (sym words) well.tables.names);
            short = subst (λ (ss : List Symbol). All (λ s. length s.name < 2 ^ 32) ss) (sym is.symbols) well.tables.short_names;
            some = subst (λ (ss : List Symbol). All (λ s. 1 ≤ s.length) ss) (sym is.symbols) well.tables.some_words;
          };
    }
  where
    first_code : (program : QuadProgram) (slot : ℕ → ℕ → ℕ) (image : Image) (there : Laid program slot image) (long : length image.code ≡ sizes_of program.functions) (entries : image.functions ≡ entries_from 0 program.functions) → IsWellFormed program → 0 < length program.functions → 1 ≤ length image.code
    first_code program slot image there long entries well some =
        let one = some_code program slot image there long entries well 0 some in
        let most = sum_by-take-le (λ (f : QuadFunction). size_of f.quads) program.functions 1 in
        omega (arith, one, most, long)

    all_words : (program : QuadProgram) (image : Image) → length image.words ≡ length program.words → image.outer ≡ program.outer → length program.words + 257 * program.outer ≤ 2 ^ 20 → length image.words + 257 * image.outer ≤ 2 ^ 20
    all_words program image words outer few = omega (arith, words, outer, few)
