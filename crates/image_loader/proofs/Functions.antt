-- The functions of an image whose starts rise: each instruction stands in one, and each begins with an instruction of its own.
use Rattle.std.proofs.Common.{◌≡◌, ℕ, zero, suc, ◌+◌, ◌<◌, ◌≤◌, length, Option, Some, refl, inl, inr, arith}
use Rattle.std.specs.Prelude.{slice_get}
use Rattle.std.specs.Option.{option_map_or}
use Rattle.std.proofs.lemmas.Bool.{cases_lt}
use Rattle.std.proofs.lemmas.Option.{slice_get-get_or, slice_get_past}
use Rattle.xmt_isa.specs.declared.image.Image.{Image}
use Rattle.xmt_isa.specs.declared.image.FunctionEntry.{FunctionEntry}
use Rattle.xmt_isa.specs.Image.{start_of, end_of, HasStarts, IsIn}
use Rattle.image_loader.proofs.Elements.{no_function}
use Rattle.image_loader.proofs.Starts.{rises, lies_inside}

-- a start is below each later one
pub rises_over : (image : Image) → HasStarts image → (k d : ℕ) → k + suc d < length image.functions → start_of image k < start_of image (k + suc d)
rises_over image h k zero lt = rises image h k lt
rises_over image h k (suc d) lt =
    let first = rises_over image h k d (omega (arith, lt)) in
    let next : start_of image (k + suc d) < start_of image (k + suc d + 1) = rises image h (k + suc d) (omega (arith, lt)) in
    let same : k + suc (suc d) ≡ k + suc d + 1 = omega arith in
    rw same (omega (arith, first, next))

some_start : (o : Option FunctionEntry) (entry : FunctionEntry) (n : ℕ) → o ≡ Some entry → option_map_or (λ next. next.start) o n ≡ option_map_or (λ next. next.start) o 0
some_start o entry n is = rw is refl

-- a function but the last ends where the next one begins
pub end_inner : (image : Image) (k : ℕ) → k + 1 < length image.functions → end_of image k ≡ start_of image (k + 1)
end_inner image k lt = some_start (slice_get image.functions (k + 1)) _ (length image.code) (slice_get-get_or image.functions (k + 1) no_function lt)

pub end_last : (image : Image) (k : ℕ) → length image.functions ≤ k + 1 → end_of image k ≡ length image.code
end_last image k past = rw (slice_get_past image.functions (k + 1) past) refl

-- a function holds its first instruction
pub holds_start : (image : Image) → HasStarts image → (k : ℕ) → k < length image.functions → IsIn image k (start_of image k)
holds_start image h k lt = (
  lt,
  omega arith,
  elim (cases_lt (k + 1) (length image.functions)) [
    | inl more ↦ rw (end_inner image k more) (rises image h k more)
    | inr last ↦ rw (end_last image k last) (lies_inside image h k lt)
  ],
)

-- from a function that doesn't begin behind it on, one holds the instruction
holds_from : (image : Image) (at : ℕ) → at < length image.code → (d k : ℕ) → k + d ≡ length image.functions → 0 < d → start_of image k ≤ at → (function : ℕ) × IsIn image function at
holds_from image at lt zero k sum some below = absurd (omega (arith, some))
holds_from image at lt (suc d) k sum some below =
    elim (cases_lt at (end_of image k)) [
      | inl before ↦ (k, (omega (arith, sum), below, before))
      | inr behind ↦
          elim (cases_lt (k + 1) (length image.functions)) [
            | inl more ↦ holds_from image at lt d (k + 1) (omega (arith, sum)) (omega (arith, sum, more)) (rw (← end_inner image k more) behind)
            | inr last ↦ (let end : end_of image k ≡ length image.code = end_last image k last in absurd (omega (arith, end, behind, lt)))
          ]
    ]

pub holds_each : (image : Image) → HasStarts image → 1 ≤ length image.functions → (at : ℕ) → at < length image.code → (function : ℕ) × IsIn image function at
holds_each image h some at lt = holds_from image at lt (length image.functions) 0 (omega arith) some (rw h.first (omega arith))
