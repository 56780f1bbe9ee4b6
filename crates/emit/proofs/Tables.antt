-- Where quads begin, and the code of a function on its way.
use Rattle.std.proofs.Common.{◌≡◌, refl, sym, ◌∙◌, ap, arith, ℕ, zero, suc, ◌+◌, ◌<◌, ◌≤◌, List, [], ◌∷◌, ◌++◌, length, append_assoc, get_or, take, drop, replicate, append-nil}
use Rattle.std.specs.Prelude.{Bool, slice_index}
use Rattle.std.proofs.lemmas.List.{drop_more, drop_all}
use Rattle.std.proofs.lemmas.List.Sums.{sum_by-cons, sum_by-drop_more}
use Rattle.xmt_isa.specs.declared.image.Instr.{Instr}
use Rattle.xmt_quads.specs.declared.code.Where.TheVariants.{Word, Element, Outer, PsReg}
use Rattle.xmt_quads.specs.declared.code.Quad.{Quad}
use Rattle.xmt_quads.specs.declared.code.Quad.TheVariants as quad
use Rattle.quad_images.specs.Instructions.{quad_code, size}
use Rattle.quad_images.specs.Image.{own_behind, size_of, begins_in, code_from, lines_from}
use Rattle.quad_image_places.proofs.Quiet.{length_of}
use Rattle.emit.specs.Emitted.{TargetExists, placed_at, places_from}

-- a quad with its place has the code of the quad
pub placed_code : (slot place : ℕ → ℕ) (own : ℕ → Bool) (q : Quad) → quad_code slot (λ p. p) own (placed_at place q) ≡ quad_code slot place own q
placed_code slot place own (quad.Load r (Word w)) = refl
placed_code slot place own (quad.Load r (Element base i)) = refl
placed_code slot place own (quad.Load r (Outer n)) = refl
placed_code slot place own (quad.Load r (PsReg n)) = refl
placed_code slot place own (quad.Store (Word w) o) = refl
placed_code slot place own (quad.Store (Element base i) o) = refl
placed_code slot place own (quad.Store (Outer n) o) = refl
placed_code slot place own (quad.Store (PsReg n) o) = refl
placed_code slot place own (quad.Add r (Word w) o) = refl
placed_code slot place own (quad.Add r (Element base i) o) = refl
placed_code slot place own (quad.Add r (Outer n) o) = refl
placed_code slot place own (quad.Add r (PsReg n) o) = refl
placed_code slot place own _ = refl

-- the places of a table are those of the positions
places_are : (start : ℕ) (quads : List Quad) (k : ℕ) → k < length quads → get_or (places_from start quads) k 0 ≡ begins_in start quads k
places_are start [] k below = absurd (omega (arith, below))
places_are start (q ∷ quads) zero below = omega arith
places_are start (q ∷ quads) (suc k) below =
    let rest = places_are (start + size q) quads k (omega (arith, below)) in
    let sizes = sum_by-cons size q (take k quads) in
    omega (arith, rest, sizes)

pub length_places : (start : ℕ) (quads : List Quad) → length (places_from start quads) ≡ length quads
length_places start [] = refl
length_places start (q ∷ quads) = ap suc (length_places (start + size q) quads)

same_places : (slot : ℕ → ℕ) (own : ℕ → Bool) (start : ℕ) (quads : List Quad) (q : Quad) → TargetExists (length quads) q → quad_code slot (slice_index (places_from start quads)) own q ≡ quad_code slot (begins_in start quads) own q
same_places slot own start quads q there = sym (placed_code slot (slice_index (places_from start quads)) own q) ∙ ap (quad_code slot (λ p. p) own) (by q there) ∙ placed_code slot (begins_in start quads) own q
  where
    by : (q : Quad) → TargetExists (length quads) q → placed_at (slice_index (places_from start quads)) q ≡ placed_at (begins_in start quads) q
    by (quad.Jump to) there = ap (λ p. quad.Jump p) (places_are start quads to there)
    by (quad.IfZero o to) there = ap (λ p. quad.IfZero o p) (places_are start quads to there)
    by (quad.IfNot o to) there = ap (λ p. quad.IfNot o p) (places_are start quads to there)
    by _ there = refl

-- ---- on the way through a function

-- one quad on
pub code_step : (slot : ℕ → ℕ) (start : ℕ) (quads : List Quad) (i : ℕ) (q : Quad) (own own' : ℕ → Bool) (now next whole : List Instr) → i < length quads → q ≡ get_or quads i q → TargetExists (length quads) q →
    now ++ code_from slot (begins_in start quads) own (drop i quads) ≡ whole → next ≡ now ++ quad_code slot (slice_index (places_from start quads)) own q → ((r : ℕ) → own' r ≡ own_behind own q (drop (i + 1) quads) r) →
    next ++ code_from slot (begins_in start quads) own' (drop (i + 1) quads) ≡ whole
code_step slot start quads i q own own' now next whole below here there h pushed behind =
    let begins = begins_in start quads in
    let part = quad_code slot begins own q in
    let rest : drop i quads ≡ q ∷ drop (i + 1) quads = drop_more quads i q below ∙ ap (λ x. x ∷ drop (i + 1) quads) (sym here) in
    let same : own' ≡ own_behind own q (drop (i + 1) quads) = (λ j r. behind r j) in
    let more : code_from slot begins own' (drop (i + 1) quads) ≡ code_from slot begins (own_behind own q (drop (i + 1) quads)) (drop (i + 1) quads) = ap (λ own. code_from slot begins own (drop (i + 1) quads)) same in
    let front : next ≡ now ++ part = pushed ∙ ap (λ part. now ++ part) (same_places slot own start quads q there) in
    ap (λ next. next ++ code_from slot begins own' (drop (i + 1) quads)) front ∙ ap (λ more. (now ++ part) ++ more) more ∙
    append_assoc now part (code_from slot begins (own_behind own q (drop (i + 1) quads)) (drop (i + 1) quads)) ∙ ap (λ quads. now ++ code_from slot begins own quads) (sym rest) ∙ h

pub code_end : (slot begins : ℕ → ℕ) (own : ℕ → Bool) (quads : List Quad) (i : ℕ) (now whole : List Instr) → length quads ≤ i → now ++ code_from slot begins own (drop i quads) ≡ whole → now ≡ whole
code_end slot begins own quads i now whole past h = sym (append-nil now) ∙ ap (λ quads. now ++ code_from slot begins own quads) (sym (drop_all i quads past)) ∙ h

pub lines_step : (slot place : ℕ → ℕ) (own : ℕ → Bool) (quads : List Quad) (lines : List ℕ) (i : ℕ) (q : Quad) (line : ℕ) (now next whole : List ℕ) → i < length quads → q ≡ get_or quads i q → i < length lines → line ≡ get_or lines i line →
    now ++ lines_from (drop i quads) (drop i lines) ≡ whole → next ≡ now ++ replicate (length (quad_code slot place own q)) line → next ++ lines_from (drop (i + 1) quads) (drop (i + 1) lines) ≡ whole
lines_step slot place own quads lines i q line now next whole below here low there h pushed =
    let rest : drop i quads ≡ q ∷ drop (i + 1) quads = drop_more quads i q below ∙ ap (λ x. x ∷ drop (i + 1) quads) (sym here) in
    let after : drop i lines ≡ line ∷ drop (i + 1) lines = drop_more lines i line low ∙ ap (λ x. x ∷ drop (i + 1) lines) (sym there) in
    let part = replicate (size q) line in
    let more = lines_from (drop (i + 1) quads) (drop (i + 1) lines) in
    let front : next ≡ now ++ part = pushed ∙ ap (λ n. now ++ replicate n line) (length_of slot place own q) in
    ap (λ next. next ++ more) front ∙ append_assoc now part more ∙ ap (λ lines. now ++ lines_from (q ∷ drop (i + 1) quads) lines) (sym after) ∙ ap (λ quads. now ++ lines_from quads (drop i lines)) (sym rest) ∙ h

pub lines_end : (quads : List Quad) (lines : List ℕ) (i : ℕ) (now whole : List ℕ) → length quads ≤ i → now ++ lines_from (drop i quads) (drop i lines) ≡ whole → now ≡ whole
lines_end quads lines i now whole past h = sym (append-nil now) ∙ ap (λ quads. now ++ lines_from quads (drop i lines)) (sym (drop_all i quads past)) ∙ h

-- ---- a table of places on its way

pub places_step : (quads : List Quad) (i at : ℕ) (q : Quad) (now whole : List ℕ) → i < length quads → q ≡ get_or quads i q → now ++ places_from at (drop i quads) ≡ whole → (now ++ (at ∷ [])) ++ places_from (at + size q) (drop (i + 1) quads) ≡ whole
places_step quads i at q now whole below here h =
    let rest : drop i quads ≡ q ∷ drop (i + 1) quads = drop_more quads i q below ∙ ap (λ x. x ∷ drop (i + 1) quads) (sym here) in
    append_assoc now (at ∷ []) (places_from (at + size q) (drop (i + 1) quads)) ∙ ap (λ quads. now ++ places_from at quads) (sym rest) ∙ h

pub places_end : (quads : List Quad) (i at : ℕ) (now whole : List ℕ) → length quads ≤ i → now ++ places_from at (drop i quads) ≡ whole → now ≡ whole
places_end quads i at now whole past h = sym (append-nil now) ∙ ap (λ quads. now ++ places_from at quads) (sym (drop_all i quads past)) ∙ h

pub sizes_step : (quads : List Quad) (i at : ℕ) (q : Quad) (whole : ℕ) → i < length quads → q ≡ get_or quads i q → at + size_of (drop i quads) ≡ whole → at + size q + size_of (drop (i + 1) quads) ≡ whole
sizes_step quads i at q whole below here h =
    let sum = sum_by-drop_more size quads i q below in
    let same : size (get_or quads i q) ≡ size q = ap size (sym here) in
    omega (arith, sum, same, h)

pub size_fits : (quads : List Quad) (i at : ℕ) (q : Quad) (whole : ℕ) → i < length quads → q ≡ get_or quads i q → at + size_of (drop i quads) ≡ whole → at + size q ≤ whole
size_fits quads i at q whole below here h = let next = sizes_step quads i at q whole below here h in omega (arith, next)
