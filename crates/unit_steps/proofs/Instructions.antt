-- The instruction at which a unit stands.
use Rattle.std.proofs.Common.{◌≡◌, refl, sym, ◌∙◌, ap, subst, ℕ, Option, Some, None}
use Rattle.std.specs.Prelude.{IsSomeAnd, slice_get}
use Rattle.std.specs.Option.{option_and_then}
use Rattle.xmt_isa.specs.declared.image.Image.{Image}
use Rattle.xmt_isa.specs.declared.image.Instr.{Instr}
use Rattle.xmt_isa.specs.declared.operation.Operation.{Operation}
use Rattle.xmt_isa.specs.Operation.{operation_of}
use Rattle.xmt_isa.specs.Image.{operation_at}
use Rattle.xmt_isa.specs.Regions.{HasOp}
use Rattle.xmt_isa.specs.Flow.{IsSound}
use Rattle.xmt_isa.specs.Valid.{IsValid}
use Rattle.xmt_isa.proofs.Numbers.{number_of, number_is}
use Rattle.xmt_isa.proofs.Sound.{valid_sound}
use Rattle.machine_places.proofs.Lists.{some_same}

-- the instruction with a number
pub has_instr : (image : Image) (at n : ℕ) → HasOp image at n → (i : Instr) × (slice_get image.code at ≡ Some i) × (i.op ≡ n)
has_instr image at n has = by_instr (slice_get image.code at) refl has
  where
    by_instr : (x : Option Instr) → slice_get image.code at ≡ x → IsSomeAnd x (λ i. i.op ≡ n) → (i : Instr) × (slice_get image.code at ≡ Some i) × (i.op ≡ n)
    by_instr None e h = absurd h
    by_instr (Some i) e h = (i, e, h)

-- the instruction with a meaning
pub instr_at : (image : Image) (at : ℕ) (o : Operation) → operation_at image at ≡ Some o → (i : Instr) × (slice_get image.code at ≡ Some i) × (operation_of i ≡ Some o)
instr_at image at o is = by_instr (slice_get image.code at) refl is
  where
    by_instr : (x : Option Instr) → slice_get image.code at ≡ x → option_and_then operation_of x ≡ Some o → (i : Instr) × (slice_get image.code at ≡ Some i) × (operation_of i ≡ Some o)
    by_instr None e h = cc
    by_instr (Some i) e h = (i, e, h)

pub operation_is : (image : Image) (at : ℕ) (i : Instr) (o : Operation) → slice_get image.code at ≡ Some i → operation_of i ≡ Some o → operation_at image at ≡ Some o
operation_is image at i o here is = ap (option_and_then operation_of) here ∙ is

pub op_at : (image : Image) (at : ℕ) (o : Operation) → operation_at image at ≡ Some o → HasOp image at (number_of o)
op_at image at o is = let r = instr_at image at o is in subst (λ x. IsSomeAnd x (λ i. i.op ≡ number_of o)) (sym r.1) (number_is r.0 o r.2)

-- and it is sound
pub sound_instr : (image : Image) → IsValid image → (at : ℕ) (o : Operation) → operation_at image at ≡ Some o → (i : Instr) × (operation_of i ≡ Some o) × IsSound image at i o
sound_instr image valid at o is =
    let r = instr_at image at o is in
    let s = valid_sound image valid at r.0 r.1 in
    (r.0, r.2, subst (IsSound image at r.0) (some_same s.0 o (sym s.1 ∙ r.2)) s.2)
