-- Functions of a valid image: one holds an instruction, and all lie in the code.
use Rattle.std.proofs.Common.{◌≡◌, ap, subst, ℕ, suc, ◌+◌, ◌-◌, ◌<◌, ◌≤◌, length, inl, inr, arith}
use Rattle.std.proofs.lemmas.Bool.{cases_lt}
use Rattle.xmt_isa.specs.declared.image.Image.{Image}
use Rattle.xmt_isa.specs.Image.{start_of, end_of, IsIn, HasStarts}
use Rattle.image_loader.proofs.Functions.{rises_over, end_inner, end_last}
use Rattle.image_loader.proofs.Starts.{lies_inside}

-- a function ends with the code at the latest
pub in_code : (image : Image) → HasStarts image → (f at : ℕ) → IsIn image f at → at < length image.code
in_code image h f at inside =
    let before : at < end_of image f = inside.2 in
    elim (cases_lt (f + 1) (length image.functions)) [
      | inl more ↦ (let ends : end_of image f ≡ start_of image (f + 1) = end_inner image f more in
          let below : start_of image (f + 1) < length image.code = lies_inside image h (f + 1) more in
          omega (arith, before, ends, below))
      | inr last ↦ (let ends : end_of image f ≡ length image.code = end_last image f last in omega (arith, before, ends))
    ]

-- what a function holds is before each later one
before_later : (image : Image) → HasStarts image → (f g at : ℕ) → f < g → g < length image.functions → at < end_of image f → at < start_of image g
before_later image h f g at less inside before =
    let ends : end_of image f ≡ start_of image (f + 1) = end_inner image f (omega (arith, less, inside)) in
    elim (cases_lt (f + 1) g) [
      | inl further ↦ (let d : ℕ = g - (f + 2) in
          let sum : f + 1 + suc d ≡ g = omega (arith, further) in
          let up : start_of image (f + 1) < start_of image (f + 1 + suc d) = rises_over image h (f + 1) d (omega (arith, sum, inside)) in
          let above : start_of image (f + 1) < start_of image g = subst (λ (k : ℕ). start_of image (f + 1) < start_of image k) sum up in
          omega (arith, ends, above, before))
      | inr same ↦ (let is : f + 1 ≡ g = omega (arith, same, less) in
          let begins : start_of image (f + 1) ≡ start_of image g = ap (start_of image) is in
          omega (arith, ends, begins, before))
    ]

-- an instruction stands in one function
pub one_function : (image : Image) → HasStarts image → (f g at : ℕ) → IsIn image f at → IsIn image g at → f ≡ g
one_function image h f g at first second =
    elim (cases_lt f g) [
      | inl less ↦ (let before : at < start_of image g = before_later image h f g at less second.0 first.2 in
          let from : start_of image g ≤ at = second.1 in
          absurd (omega (arith, before, from)))
      | inr other ↦ elim (cases_lt g f) [
        | inl less ↦ (let before : at < start_of image f = before_later image h g f at less first.0 second.2 in
            let from : start_of image f ≤ at = first.1 in
            absurd (omega (arith, before, from)))
        | inr more ↦ omega (arith, other, more)
      ]
    ]
