-- The starts of the functions, and what is tested in each.
use Rattle.std.proofs.Common.{◌≡◌, ◌↔◌, ℕ, zero, suc, ◌+◌, ◌<◌, Bool, true, false, not, List, [], ◌∷◌, length, map, All, Option, Some, None, refl, arith}
use Rattle.std.specs.Prelude.{IsTrue, IfSome, IsSomeAnd, slice_get, slice_index}
use Rattle.std.specs.Option.{option_map_or}
use Rattle.std.proofs.Math.ListN.{length-map}
use Rattle.std.proofs.lemmas.Option.{slice_get-get_or}
use Rattle.xmt_isa.specs.declared.image.Image.{Image}
use Rattle.xmt_isa.specs.declared.image.FunctionEntry.{FunctionEntry}
use Rattle.xmt_isa.specs.declared.operation.Operation.{Operation}
use Rattle.xmt_isa.specs.declared.operation.Operation.TheVariants.{Jump, IfZero, IfNot, ReadSlot, WriteSlot, ReadMaster}
use Rattle.xmt_isa.specs.Operation.{operation_of}
use Rattle.xmt_isa.specs.Image.{start_of, operation_at, HasStarts, IsIn, end_of}
use Rattle.xmt_isa.specs.Targets.{HasTargets, FunctionTargetFits, TargetFits}
use Rattle.image_loader.specs.Ranges.{RangeFits, RangesFit, slots_of}
use Rattle.image_loader.proofs.Elements.{no_function}

start_is : (fs : List FunctionEntry) (k : ℕ) → slice_index (map (λ f. f.start) fs) k ≡ option_map_or (λ entry. entry.start) (slice_get fs k) 0
start_is [] k = refl
start_is (f ∷ fs) zero = refl
start_is (f ∷ fs) (suc k) = start_is fs k

pub rises : (image : Image) → HasStarts image → (k : ℕ) → k + 1 < length image.functions → start_of image k < start_of image (k + 1)
rises image h k lt =
    let a = h.rising k (rw length-map lt) in
    rw (← start_is image.functions k, ← start_is image.functions (k + 1)) a

pub lies_inside : (image : Image) → HasStarts image → (k : ℕ) → k < length image.functions → start_of image k < length image.code
lies_inside image h k lt = rw (slice_get-get_or image.functions k no_function lt) (h.inside k no_function lt)

pub starts_hold : (image : Image) → start_of image 0 ≡ 0 → ((k : ℕ) → k < length image.functions → start_of image k < length image.code)
    → ((k : ℕ) → k < length image.functions → k + 1 < length image.functions → start_of image k < start_of image (k + 1)) → HasStarts image
starts_hold image first inside rising = record {
  first = first;
  rising = λ k lt. rw (start_is image.functions k, start_is image.functions (k + 1)) (let lt' : k + 1 < length image.functions = rw length-map at lt in rising k (omega (arith, lt')) lt');
  inside = λ k d lt. (let here = inside k lt in rw (slice_get-get_or image.functions k d lt) at here);
}

-- ---- each instruction, by its place or by its function

slot_of : (o : Option FunctionEntry) (i : ℕ) → i < option_map_or (λ entry. entry.slots) o 0 → IsSomeAnd o (λ entry. i < entry.slots)
slot_of None i lt = absurd (omega (arith, lt))
slot_of (Some entry) i lt = lt

slot_back : (o : Option FunctionEntry) (i : ℕ) → IsSomeAnd o (λ entry. i < entry.slots) → i < option_map_or (λ entry. entry.slots) o 0
slot_back None i h = absurd h
slot_back (Some entry) i h = h

function_target : (image : Image) (at : ℕ) (o : Option Operation) → ((f : ℕ) → IsIn image f at → IfSome o (RangeFits (start_of image f) (end_of image f) (slots_of image f))) → IfSome o (FunctionTargetFits image at)
function_target image at None h = tt
function_target image at (Some (Jump to)) h = λ f inside. (inside.0, (h f inside).0, (h f inside).1)
function_target image at (Some (IfZero b to)) h = λ f inside. (inside.0, (h f inside).0, (h f inside).1)
function_target image at (Some (IfNot b to)) h = λ f inside. (inside.0, (h f inside).0, (h f inside).1)
function_target image at (Some (ReadSlot a i)) h = λ f inside. slot_of (slice_get image.functions f) i (h f inside)
function_target image at (Some (WriteSlot b i)) h = λ f inside. slot_of (slice_get image.functions f) i (h f inside)
function_target image at (Some (ReadMaster a i)) h = λ f inside. slot_of (slice_get image.functions f) i (h f inside)
function_target image at (Some operation) h = tt

range_target : (image : Image) (f at : ℕ) → IsIn image f at → (o : Option Operation) → IfSome o (FunctionTargetFits image at) → IfSome o (RangeFits (start_of image f) (end_of image f) (slots_of image f))
range_target image f at inside None h = tt
range_target image f at inside (Some (Jump to)) h = ((h f inside).1, (h f inside).2)
range_target image f at inside (Some (IfZero b to)) h = ((h f inside).1, (h f inside).2)
range_target image f at inside (Some (IfNot b to)) h = ((h f inside).1, (h f inside).2)
range_target image f at inside (Some (ReadSlot a i)) h = slot_back (slice_get image.functions f) i (h f inside)
range_target image f at inside (Some (WriteSlot b i)) h = slot_back (slice_get image.functions f) i (h f inside)
range_target image f at inside (Some (ReadMaster a i)) h = slot_back (slice_get image.functions f) i (h f inside)
range_target image f at inside (Some operation) h = tt

pub by_place : (image : Image) → ((f : ℕ) → f < length image.functions → RangesFit image f) → (at : ℕ) → IfSome (operation_at image at) (FunctionTargetFits image at)
by_place image h at = function_target image at (operation_at image at) (λ f inside. h f inside.0 at inside.1 inside.2)

pub by_function : (image : Image) → ((at : ℕ) → IfSome (operation_at image at) (FunctionTargetFits image at)) → (f : ℕ) → f < length image.functions → RangesFit image f
by_function image h f lt at from to = range_target image f at (lt, from, to) (operation_at image at) (h at)

-- ---- the whole test

abbrev EachTarget : Image → Type 0
EachTarget image = All (λ i. IfSome (operation_of i) (TargetFits image i.imm)) image.code

pub targets_without_starts : (image : Image) (starts : Bool) → EachTarget image → (IsTrue starts ↔ HasStarts image) → starts ≡ false → IsTrue (not starts) ↔ HasTargets image
targets_without_starts image true each same e = absurd cc
targets_without_starts image false each same e = (λ _. record { each = each; in_function = λ h. (let never : false ≡ true = same.1 h in absurd cc) }, λ _. refl)

pub targets_with_starts : (image : Image) (answer : Bool) → EachTarget image → HasStarts image → (IsTrue answer ↔ ((f : ℕ) → f < length image.functions → RangesFit image f)) → IsTrue answer ↔ HasTargets image
targets_with_starts image answer each starts same = (
  λ e. record { each = each; in_function = λ h. by_place image (same.0 e) },
  λ t. same.1 (by_function image (t.in_function starts)),
)

differ : (b : Bool) → b ≡ false → b ≡ true → ⊥
differ true e f = cc
differ false e f = cc

pub no_targets : (image : Image) (answer : Bool) → answer ≡ false → (IsTrue answer ↔ EachTarget image) → IsTrue answer ↔ HasTargets image
no_targets image answer e same = (λ yes. absurd (differ answer e yes), λ t. same.1 t.each)
