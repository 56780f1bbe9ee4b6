-- The master goes on behind the join of its spawn.
use Rattle.std.proofs.Common.{◌≡◌, sym, ◌∙◌, ap, subst, ℕ, ◌+◌, ◌-◌, ◌<◌, ◌==◌, nat_lt, true, false, length, drop, get_or, arith, inl, inr}
use Rattle.std.proofs.lemmas.Bool.Decides.{nat_tests, eqb_tells}
use Rattle.std.specs.Prelude.{IsSomeAnd}
use Rattle.std.specs.List.{position_or_len}
use Rattle.std.proofs.lemmas.Option.{slice_get_within, get_or_from_slice_get, slice_get-get_or}
use Rattle.std.proofs.lemmas.List.{length-drop, get_or-drop}
use Rattle.std.proofs.lemmas.List.Sums.{position_or_len_is}
use Rattle.xmt_isa.specs.declared.image.Image.{Image}
use Rattle.xmt_isa.specs.declared.image.Instr.{Instr}
use Rattle.xmt_isa.specs.Machine.{is_join, behind_join}
use Rattle.xmt_isa.specs.Regions.{IsJoin, IsBlock}
use Rattle.unit_steps.proofs.Instructions.{has_instr}

-- an instruction that is none has another number
other_op : (image : Image) (at : ℕ) (d : Instr) → at < length image.code → (IsJoin image at → ⊥) → is_join (get_or image.code at d) ≡ false
other_op image at d inside differ = elim (eqb_tells (get_or image.code at d).op 45) [
  | inl same ↦ absurd (differ (subst (λ x. IsSomeAnd x (λ i. i.op ≡ 45)) (sym (slice_get-get_or image.code at d inside)) same.1))
  | inr other ↦ other.0
]

-- behind a block the master stands behind its join
pub behind_is : (image : Image) (spawn join : ℕ) → IsBlock image spawn join → behind_join image (spawn + 1) ≡ join + 1
behind_is image spawn join block =
    let order : spawn < join = block.order in
    let last = has_instr image join 45 block.joins in
    let d : Instr = last.0 in
    let within : join < length image.code = slice_get_within image.code join d last.1 in
    let long : length (drop (spawn + 1) image.code) ≡ length image.code - (spawn + 1) = length-drop (spawn + 1) image.code in
    let place : spawn + 1 + (join - (spawn + 1)) ≡ join = omega (arith, order) in
    let first : position_or_len is_join (drop (spawn + 1) image.code) ≡ join - (spawn + 1) =
    position_or_len_is is_join (drop (spawn + 1) image.code) (join - (spawn + 1)) d (omega (arith, long, within))
    (λ k less. ap is_join (get_or-drop (spawn + 1) image.code k d) ∙ other_op image (spawn + 1 + k) d (omega (arith, less, within)) (λ has. block.between (spawn + 1 + k) (omega arith) (omega (arith, less)) (inr has)))
    (λ inside. ap is_join (get_or-drop (spawn + 1) image.code (join - (spawn + 1)) d ∙ ap (λ n. get_or image.code n d) place ∙ get_or_from_slice_get image.code join d d last.1) ∙ ap (λ n. n == 45) last.2) in
    let test : nat_lt (join - (spawn + 1)) (length (drop (spawn + 1) image.code)) ≡ true = (let less : join - (spawn + 1) < length (drop (spawn + 1) image.code) = omega (arith, long, within, order) in grind (arith, nat_tests, less)) in
    rw (first, test) (omega (arith, order))
