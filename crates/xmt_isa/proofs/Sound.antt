-- Each instruction of a valid image is sound.
use Rattle.std.proofs.Common.{◌≡◌, ◌≢◌, ◌⊎◌, ◌↔◌, ℕ, ◌+◌, ◌-◌, ◌≤◌, List, All, Option, Some, sym, subst, ◌∙◌, inl, inr, arith}
use Rattle.std.specs.Prelude.{IfSome, IsSomeAnd, slice_get}
use Rattle.std.proofs.lemmas.Bool.{cases_lt}
use Rattle.std.proofs.lemmas.Option.{slice_get_within, get_or_from_slice_get}
use Rattle.xmt_isa.specs.declared.image.Image.{Image}
use Rattle.xmt_isa.specs.declared.image.Instr.{Instr}
use Rattle.xmt_isa.specs.declared.operation.Operation.{Operation}
use Rattle.xmt_isa.specs.declared.operation.Operation.TheVariants.{Jump, IfZero, IfNot, Return, Spawn, Join}
use Rattle.xmt_isa.specs.Operation.{operation_of}
use Rattle.xmt_isa.specs.Image.{operation_at, end_of}
use Rattle.xmt_isa.specs.Registers.{RegistersFit}
use Rattle.xmt_isa.specs.Targets.{TargetFits, FunctionTargetFits, IsSameFunction}
use Rattle.xmt_isa.specs.Regions.{HasOp, IsJump, IsReturn, IsSpawn, IsJoin, IsBlock, IsInside, HasRegions}
use Rattle.xmt_isa.specs.Flow.{LeadsTo, IsSound}
use Rattle.xmt_isa.specs.Valid.{IsValid}
use Rattle.xmt_isa.proofs.Numbers.{number_of, operation_there, number_is, jump_of, if_zero_of, if_not_of, return_of, spawn_of, join_of}

-- what holds of each element holds of one
each_at : {X : Type 0} (P : X → Type 0) (xs : List X) (at : ℕ) (x : X) → All P xs → slice_get xs at ≡ Some x → P x
each_at P xs at x all here = subst P (get_or_from_slice_get xs at x x here) (all at x (slice_get_within xs at x here))

holds : {X : Type 0} (P : X → Type 0) (o : Option X) (x : X) → o ≡ Some x → IfSome o P → P x
holds P o x is all = let known = rw is at all in known

and_some : {X : Type 0} (P : X → Type 0) (o : Option X) (x : X) → o ≡ Some x → IsSomeAnd o P → P x
and_some P o x is all = let known = rw is at all in known

has : {X : Type 0} (P : X → Type 0) (o : Option X) (x : X) → o ≡ Some x → P x → IsSomeAnd o P
has P o x is here = rw is here

-- the instruction has another number
other_op : (image : Image) (at : ℕ) (i : Instr) (op : ℕ) → slice_get image.code at ≡ Some i → i.op ≢ op → ¬ HasOp image at op
other_op image at i op here differ is = differ (and_some (λ j. j.op ≡ op) (slice_get image.code at) i here is)

-- ---- going on at the next instruction

-- the next one is in the same function, since a function ends with a jump or a return
next_in : (image : Image) → HasRegions image → (at : ℕ) → ¬ IsJump image at → ¬ IsReturn image at → IsSameFunction image at (at + 1)
next_in image regions at no_jump no_return = λ f inside. (
  inside.0,
  omega (arith, inside.1),
  elim (cases_lt (at + 1) (end_of image f)) [
    | inl before ↦ before
    | inr behind ↦
        (let last : end_of image f - 1 ≡ at = omega (arith, behind, inside.2) in
        elim (regions.ends f inside.0) [
          | inl jump ↦ absurd (no_jump (subst (λ (k : ℕ). IsJump image k) last jump))
          | inr return ↦ absurd (no_return (subst (λ (k : ℕ). IsReturn image k) last return))
        ])
  ],
)

-- and in the same blocks, since it isn't theirs that begins or ends here
next_inside : (image : Image) (at : ℕ) → ¬ IsSpawn image at → ¬ IsJoin image at → (spawn join : ℕ) → IsBlock image spawn join → IsInside spawn join at ↔ IsInside spawn join (at + 1)
next_inside image at no_spawn no_join spawn join block = (
  λ inside. (
    omega (arith, inside.0),
    elim (cases_lt at join) [
      | inl before ↦ omega (arith, before)
      | inr behind ↦ (let same : join ≡ at = omega (arith, behind, inside.1) in absurd (no_join (subst (λ (k : ℕ). IsJoin image k) same block.joins)))
    ],
  ),
  λ inside. (
    elim (cases_lt spawn at) [
      | inl behind ↦ behind
      | inr before ↦ (let same : spawn ≡ at = omega (arith, before, inside.0) in absurd (no_spawn (subst (λ (k : ℕ). IsSpawn image k) same block.spawns)))
    ],
    omega (arith, inside.1),
  ),
)

-- ---- where each operation leads

some_is : {X : Type 0} (x y : X) → Some x ≡ Some y → x ≡ y
some_is x y e = cc

-- an instruction that is neither a jump nor a return goes on at the next one
goes_on : (image : Image) → HasRegions image → (at : ℕ) (i : Instr) (operation : Operation) → slice_get image.code at ≡ Some i → operation_of i ≡ Some operation → operation ≢ Jump i.imm → operation ≢ Return → IsSameFunction image at (at + 1)
goes_on image regions at i operation here is no_jump no_return = next_in image regions at
    (other_op image at i 20 here (λ e. no_jump (some_is operation (Jump i.imm) (sym is ∙ jump_of i e))))
    (other_op image at i 24 here (λ e. no_return (some_is operation Return (sym is ∙ return_of i e))))

stays : (image : Image) (at : ℕ) (i : Instr) (operation : Operation) → slice_get image.code at ≡ Some i → operation_of i ≡ Some operation → operation ≢ Spawn i.a i.b i.imm → operation ≢ Join → (spawn join : ℕ) → IsBlock image spawn join → IsInside spawn join at ↔ IsInside spawn join (at + 1)
stays image at i operation here is no_spawn no_join = next_inside image at
    (other_op image at i 44 here (λ e. no_spawn (some_is operation (Spawn i.a i.b i.imm) (sym is ∙ spawn_of i e))))
    (other_op image at i 45 here (λ e. no_join (some_is operation Join (sym is ∙ join_of i e))))

leads_in : (image : Image) → HasRegions image → (at : ℕ) (i : Instr) (operation : Operation) → slice_get image.code at ≡ Some i → operation_of i ≡ Some operation → FunctionTargetFits image at operation → (to : ℕ) → LeadsTo at to operation → IsSameFunction image at to
leads_in image regions at i (Jump target) here is fits to leads = subst (IsSameFunction image at) (sym leads) fits
leads_in image regions at i (IfZero b target) here is fits to leads = elim leads [
  | inl there ↦ subst (IsSameFunction image at) (sym there) fits
  | inr next ↦ subst (IsSameFunction image at) (sym next) (goes_on image regions at i (IfZero b target) here is (λ e. cc) (λ e. cc))
]
leads_in image regions at i (IfNot b target) here is fits to leads = elim leads [
  | inl there ↦ subst (IsSameFunction image at) (sym there) fits
  | inr next ↦ subst (IsSameFunction image at) (sym next) (goes_on image regions at i (IfNot b target) here is (λ e. cc) (λ e. cc))
]
leads_in image regions at i Return here is fits to leads = absurd leads
leads_in image regions at i (Spawn a b mask) here is fits to leads = absurd leads
leads_in image regions at i Join here is fits to leads = absurd leads
leads_in image regions at i operation here is fits to leads = subst (IsSameFunction image at) (sym leads) (goes_on image regions at i operation here is (λ e. cc) (λ e. cc))

-- a jump and its target are inside the same blocks
jumps_inside : (image : Image) → HasRegions image → (at to : ℕ) (i : Instr) → slice_get image.code at ≡ Some i → ((i.op ≡ 20) ⊎ (i.op ≡ 21) ⊎ (i.op ≡ 22)) × (i.imm ≡ to) → (spawn join : ℕ) → IsBlock image spawn join → IsInside spawn join at ↔ IsInside spawn join to
jumps_inside image regions at to i here jump spawn join block =
    regions.jumps spawn join at to block (has (λ j. ((j.op ≡ 20) ⊎ (j.op ≡ 21) ⊎ (j.op ≡ 22)) × (j.imm ≡ to)) (slice_get image.code at) i here jump)

jump_target : (b target : ℕ) (i : Instr) → i.op ≡ 20 → operation_of i ≡ Some (Jump target) → i.imm ≡ target
jump_target b target i op is = let same = sym (jump_of i op) ∙ is in cc

if_zero_target : (b target : ℕ) (i : Instr) → i.op ≡ 21 → operation_of i ≡ Some (IfZero b target) → i.imm ≡ target
if_zero_target b target i op is = let same = sym (if_zero_of i op) ∙ is in cc

if_not_target : (b target : ℕ) (i : Instr) → i.op ≡ 22 → operation_of i ≡ Some (IfNot b target) → i.imm ≡ target
if_not_target b target i op is = let same = sym (if_not_of i op) ∙ is in cc

leads_inside : (image : Image) → HasRegions image → (at : ℕ) (i : Instr) (operation : Operation) → slice_get image.code at ≡ Some i → operation_of i ≡ Some operation → i.op ≡ number_of operation → (to : ℕ) → LeadsTo at to operation → (spawn join : ℕ) → IsBlock image spawn join → IsInside spawn join at ↔ IsInside spawn join to
unfolding number_of
leads_inside image regions at i (Jump target) here is op to leads = jumps_inside image regions at to i here (inl op, jump_target 0 target i op is ∙ sym leads)
leads_inside image regions at i (IfZero b target) here is op to leads = elim leads [
  | inl there ↦ jumps_inside image regions at to i here (inr (inl op), if_zero_target b target i op is ∙ sym there)
  | inr next ↦ subst (λ (k : ℕ). (spawn join : ℕ) → IsBlock image spawn join → IsInside spawn join at ↔ IsInside spawn join k) (sym next) (stays image at i (IfZero b target) here is (λ e. cc) (λ e. cc))
]
leads_inside image regions at i (IfNot b target) here is op to leads = elim leads [
  | inl there ↦ jumps_inside image regions at to i here (inr (inr op), if_not_target b target i op is ∙ sym there)
  | inr next ↦ subst (λ (k : ℕ). (spawn join : ℕ) → IsBlock image spawn join → IsInside spawn join at ↔ IsInside spawn join k) (sym next) (stays image at i (IfNot b target) here is (λ e. cc) (λ e. cc))
]
leads_inside image regions at i Return here is op to leads = absurd leads
leads_inside image regions at i (Spawn a b mask) here is op to leads = absurd leads
leads_inside image regions at i Join here is op to leads = absurd leads
leads_inside image regions at i operation here is op to leads = subst (λ (k : ℕ). (spawn join : ℕ) → IsBlock image spawn join → IsInside spawn join at ↔ IsInside spawn join k) (sym leads) (stays image at i operation here is (λ e. cc) (λ e. cc))

operation_is : (image : Image) (at : ℕ) (i : Instr) (operation : Operation) → slice_get image.code at ≡ Some i → operation_of i ≡ Some operation → operation_at image at ≡ Some operation
operation_is image at i operation here is = rw here is

pub valid_sound : (image : Image) → IsValid image → (at : ℕ) (i : Instr) → slice_get image.code at ≡ Some i → (operation : Operation) × (operation_of i ≡ Some operation) × IsSound image at i operation
valid_sound image valid at i here =
    let numbered = each_at (λ (j : Instr). (1 ≤ j.op) × (j.op ≤ 45)) image.code at i valid.operations.each here in
    let meaning = operation_there i numbered.0 numbered.1 in
    let in_function = holds (FunctionTargetFits image at) (operation_at image at) meaning.0 (operation_is image at i meaning.0 here meaning.1) (valid.targets.in_function valid.regions.starts at) in (
      meaning.0,
      meaning.1,
      record {
        registers = holds (RegistersFit i) (operation_of i) meaning.0 meaning.1 (each_at (λ (j : Instr). IfSome (operation_of j) (RegistersFit j)) image.code at i valid.registers.each here);
        target = holds (TargetFits image i.imm) (operation_of i) meaning.0 meaning.1 (each_at (λ (j : Instr). IfSome (operation_of j) (TargetFits image j.imm)) image.code at i valid.targets.each here);
        in_function = in_function;
        same_function = leads_in image valid.regions at i meaning.0 here meaning.1 in_function;
        same_block = leads_inside image valid.regions at i meaning.0 here meaning.1 (number_is i meaning.0 meaning.1);
      },
    )
