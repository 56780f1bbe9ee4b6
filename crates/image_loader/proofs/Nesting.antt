-- Functions and blocks of a valid image are entered and left at instructions that are there.
use Rattle.std.proofs.Common.{◌≡◌, ◌≢◌, ℕ, suc, ◌+◌, ◌-◌, ◌<◌, ◌≤◌, length, Option, Some, None, sym, ◌∙◌, ap, subst, inl, inr, arith}
use Rattle.std.specs.Prelude.{IsSomeAnd, slice_get}
use Rattle.std.proofs.lemmas.Bool.{cases_lt}
use Rattle.std.proofs.lemmas.Option.{slice_get_cases}
use Rattle.xmt_isa.specs.declared.image.Image.{Image}
use Rattle.xmt_isa.specs.declared.image.Instr.{Instr}
use Rattle.xmt_isa.specs.Image.{start_of, end_of, HasStarts, IsIn}
use Rattle.xmt_isa.specs.Targets.{IsSameFunction}
use Rattle.xmt_isa.specs.Regions.{HasOp, IsJump, IsReturn, IsJoin, IsBlock, IsInBlock, HasRegions}
use Rattle.xmt_isa.specs.Valid.{IsValid}
use Rattle.image_loader.specs.Nesting.{IsNested}
use Rattle.image_loader.proofs.Functions.{rises_over, end_inner, holds_start, holds_each}

-- an instruction has one number
one_op : (o : Option Instr) (op other : ℕ) → IsSomeAnd o (λ i. i.op ≡ op) → IsSomeAnd o (λ i. i.op ≡ other) → op ≡ other
one_op None op other h g = absurd h
one_op (Some i) op other h g = sym h ∙ g

is_there : (o : Option Instr) (op : ℕ) → IsSomeAnd o (λ i. i.op ≡ op) → o ≡ None → ⊥
is_there None op h e = h
is_there (Some i) op h e = cc

-- an instruction that has a number stands in the code
in_code : (image : Image) (at op : ℕ) → HasOp image at op → at < length image.code
in_code image at op h = elim (slice_get_cases image.code at).1 [
  | inl there ↦ there.1
  | inr past ↦ absurd (is_there (slice_get image.code at) op h past.1)
]

-- behind an instruction that neither jumps nor returns the same function goes on
next_in : (image : Image) → HasRegions image → (at : ℕ) → ¬ IsJump image at → ¬ IsReturn image at → IsSameFunction image at (at + 1)
next_in image regions at no_jump no_return = λ f inside. (
  inside.0,
  omega (arith, inside.1),
  elim (cases_lt (at + 1) (end_of image f)) [
    | inl before ↦ before
    | inr behind ↦
        (let last : end_of image f - 1 ≡ at = omega (arith, behind, inside.2) in
        elim (regions.ends f inside.0) [
          | inl jump ↦ absurd (no_jump (subst (λ (k : ℕ). IsJump image k) last jump))
          | inr return ↦ absurd (no_return (subst (λ (k : ℕ). IsReturn image k) last return))
        ])
  ],
)

other : (image : Image) (at op number : ℕ) → HasOp image at op → op ≢ number → ¬ HasOp image at number
other image at op number here differ there = differ (one_op (slice_get image.code at) op number here there)

-- the first instruction of a function is in no block: the block's function would hold it and end before it
outside_start : (image : Image) → HasStarts image → 1 ≤ length image.functions → (f : ℕ) → f < length image.functions → ¬ IsInBlock image (start_of image f)
outside_start image h some f lt (spawn, join, block, inside) =
    let holder = holds_each image h some spawn (in_code image spawn 44 block.spawns) in
    let g : ℕ = holder.0 in
    let here : IsIn image g spawn = holder.1 in
    let there = block.function g here in
    elim (cases_lt g f) [
      | inl before ↦
          (let next = end_inner image g (omega (arith, before, lt)) in
          elim (cases_lt (g + 1) f) [
            | inl further ↦ (let d : ℕ = f - (g + 2) in
                let sum : g + 1 + suc d ≡ f = omega (arith, further) in
                let up : start_of image (g + 1) < start_of image (g + 1 + suc d) = rises_over image h (g + 1) d (rw sum lt) in
                let above : start_of image (g + 1) < start_of image f = subst (λ (k : ℕ). start_of image (g + 1) < start_of image k) sum up in
                absurd (omega (arith, above, next, there.2, inside.1)))
            | inr same ↦ (let is : f ≡ g + 1 = omega (arith, same, before) in
                let start : start_of image f ≡ start_of image (g + 1) = ap (λ k. start_of image k) is in
                absurd (omega (arith, start, next, there.2, inside.1)))
          ])
      | inr behind ↦
          elim (cases_lt f g) [
            | inl less ↦ (let d : ℕ = g - (f + 1) in
                let sum : f + suc d ≡ g = omega (arith, less) in
                let up : start_of image f < start_of image (f + suc d) = rises_over image h f d (rw sum here.0) in
                let above : start_of image f < start_of image g = subst (λ (k : ℕ). start_of image f < start_of image k) sum up in
                absurd (omega (arith, above, here.1, inside.0)))
            | inr not_less ↦ (let is : f ≡ g = omega (arith, not_less, behind) in
                let start : start_of image f ≡ start_of image g = ap (λ k. start_of image k) is in
                absurd (omega (arith, start, here.1, inside.0)))
          ]
    ]

-- nothing behind a join is in a block that begins before it
outside_behind : (image : Image) (spawn join : ℕ) → IsBlock image spawn join → ¬ IsInBlock image (join + 1)
outside_behind image spawn join block (first, last, another, inside) =
    elim (cases_lt first join) [
      | inl before ↦ another.between join before (omega (arith, inside.1)) (inr block.joins)
      | inr behind ↦ (let same : first ≡ join = omega (arith, behind, inside.0) in
          let joins : IsJoin image first = subst (λ (k : ℕ). IsJoin image k) (sym same) block.joins in
          let numbers : 44 ≡ 45 = one_op (slice_get image.code first) 44 45 another.spawns joins in
          absurd (omega (arith, numbers)))
    ]

pub valid_nests : (image : Image) → IsValid image → IsNested image
valid_nests image valid = record {
  holds = holds_each image valid.regions.starts valid.sizes.some_functions;
  call = λ f lt. (holds_start image valid.regions.starts f lt, outside_start image valid.regions.starts valid.sizes.some_functions f lt);
  spawn = λ spawn join block. (
    (omega arith, omega (arith, block.order)),
    next_in image valid.regions spawn (other image spawn 44 20 block.spawns (λ e. omega (arith, e))) (other image spawn 44 24 block.spawns (λ e. omega (arith, e))),
  );
  join = λ spawn join block. (
    λ f inside. next_in image valid.regions join (other image join 45 20 block.joins (λ e. omega (arith, e))) (other image join 45 24 block.joins (λ e. omega (arith, e))) f (block.function f inside),
    outside_behind image spawn join block,
  );
}
