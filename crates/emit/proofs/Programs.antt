-- The functions of a program on their way.
use Rattle.std.proofs.Common.{◌≡◌, sym, ◌∙◌, ap, arith, ℕ, ◌+◌, ◌<◌, List, [], ◌∷◌, ◌++◌, length, length-append, append_assoc, get_or, drop, Option, Some}
use Rattle.std.specs.Prelude.{if◌then◌else◌, slice_get}
use Rattle.std.specs.Option.{option_and_then}
use Rattle.std.proofs.lemmas.List.{drop_more}
use Rattle.std.proofs.lemmas.List.Sums.{sum_by-drop_more}
use Rattle.std.proofs.lemmas.Option.{slice_get-get_or}
use Rattle.xmt_isa.specs.declared.image.FunctionEntry.{FunctionEntry}
use Rattle.xmt_isa.specs.declared.image.Instr.{Instr}
use Rattle.xmt_quads.specs.declared.code.QuadFunction.{QuadFunction}
use Rattle.xmt_quads.specs.declared.homes.Home.{Home}
use Rattle.quad_images.specs.Image.{size_of, begins_in, all_own, slot_of, slot_in, function_code, lines_from, codes_from, lines_of_all, entries_from}
use Rattle.quad_image_places.proofs.Tails.{sizes_of, length_code}
use Rattle.emit.specs.Emitted.{slot_at}

pub slots_are : (homes : List (List Home)) (i : ℕ) (h shown : List Home) → i < length homes → h ≡ get_or homes i h → shown ≡ h → slot_at shown ≡ slot_in homes i
slots_are homes i h shown low home same =
    let there : slice_get homes i ≡ Some shown = slice_get-get_or homes i h low ∙ ap Some (sym home ∙ sym same) in
    let slots : Option (List Home) → ℕ → ℕ = λ o r. slot_of (option_and_then (λ h. slice_get h r) o) in
    ap slots (sym there)

module _ (functions : List QuadFunction) (i : ℕ) (f : QuadFunction) (below : i < length functions) (here : f ≡ get_or functions i f) where
  rest : drop i functions ≡ f ∷ drop (i + 1) functions
  rest = drop_more functions i f below ∙ ap (λ x. x ∷ drop (i + 1) functions) (sym here)

  pub grows : (slot : ℕ → ℕ) (start : ℕ) (now next : List Instr) → next ≡ now ++ function_code slot start f.quads → length next ≡ length now + size_of f.quads
  grows slot start now next pushed = ap (λ (xs : List Instr). length xs) pushed ∙ length-append now (function_code slot start f.quads) ∙ ap (λ n. length now + n) (length_code slot (begins_in start f.quads) f.quads all_own)

  pub instructions_step : (homes : List (List Home)) (slot : ℕ → ℕ) (start : ℕ) (now next whole : List Instr) → slot ≡ slot_in homes i → start ≡ length now → now ++ codes_from (slot_in homes) (length now) i (drop i functions) ≡ whole → next ≡ now ++ function_code slot start f.quads →
      next ++ codes_from (slot_in homes) (length next) (i + 1) (drop (i + 1) functions) ≡ whole
  instructions_step homes slot start now next whole slots is h pushed =
      let part = function_code (slot_in homes i) (length now) f.quads in
      let more = codes_from (slot_in homes) (length now + size_of f.quads) (i + 1) (drop (i + 1) functions) in
      let front : next ≡ now ++ part = pushed ∙ ap (λ slot. now ++ function_code slot start f.quads) slots ∙ ap (λ start. now ++ function_code (slot_in homes i) start f.quads) is in
      ap (λ n. next ++ codes_from (slot_in homes) n (i + 1) (drop (i + 1) functions)) (grows slot start now next pushed) ∙ ap (λ next. next ++ more) front ∙ append_assoc now part more ∙
      ap (λ functions. now ++ codes_from (slot_in homes) (length now) i functions) (sym rest) ∙ h

  pub all_lines_step : (now next whole : List ℕ) → now ++ lines_of_all (drop i functions) ≡ whole → next ≡ now ++ lines_from f.quads f.lines → next ++ lines_of_all (drop (i + 1) functions) ≡ whole
  all_lines_step now next whole h pushed =
      ap (λ next. next ++ lines_of_all (drop (i + 1) functions)) pushed ∙ append_assoc now (lines_from f.quads f.lines) (lines_of_all (drop (i + 1) functions)) ∙ ap (λ functions. now ++ lines_of_all functions) (sym rest) ∙ h

  pub entries_step : (at after : ℕ) (e : FunctionEntry) (now next whole : List FunctionEntry) → e ≡ record { start = at; slots = 512; inner = if f.inner then 1 else 0 } → after ≡ at + size_of f.quads → now ++ entries_from at (drop i functions) ≡ whole → next ≡ now ++ (e ∷ []) →
      next ++ entries_from after (drop (i + 1) functions) ≡ whole
  entries_step at after e now next whole is grown h pushed =
      let entry : FunctionEntry = record { start = at; slots = 512; inner = if f.inner then 1 else 0 } in
      let more = entries_from (at + size_of f.quads) (drop (i + 1) functions) in
      ap (λ after. next ++ entries_from after (drop (i + 1) functions)) grown ∙ ap (λ next. next ++ more) (pushed ∙ ap (λ e. now ++ (e ∷ [])) is) ∙ append_assoc now (entry ∷ []) more ∙
      ap (λ functions. now ++ entries_from at functions) (sym rest) ∙ h

  pub room_step : (at after whole : ℕ) → after ≡ at + size_of f.quads → at + sizes_of (drop i functions) ≡ whole → after + sizes_of (drop (i + 1) functions) ≡ whole
  room_step at after whole grown h =
      let sum = sum_by-drop_more (λ (f : QuadFunction). size_of f.quads) functions i f below in
      let same : size_of (get_or functions i f).quads ≡ size_of f.quads = ap (λ (f : QuadFunction). size_of f.quads) (sym here) in
      omega (arith, sum, same, grown, h)
