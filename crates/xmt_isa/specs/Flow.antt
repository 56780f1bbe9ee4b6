-- Where a unit goes on in its own frame, and what an instruction of a valid image keeps.
use Rattle.std.specs.Prelude.{◌≡◌, ◌⊎◌, ◌↔◌, ℕ, ◌+◌}
use Rattle.xmt_isa.specs.declared.image.Image.{Image}
use Rattle.xmt_isa.specs.declared.image.Instr.{Instr}
use Rattle.xmt_isa.specs.declared.operation.Operation.{Operation}
use Rattle.xmt_isa.specs.declared.operation.Operation.TheVariants.{Jump, IfZero, IfNot, Return, Spawn, Join}
use Rattle.xmt_isa.specs.Registers.{RegistersFit}
use Rattle.xmt_isa.specs.Targets.{TargetFits, FunctionTargetFits, IsSameFunction}
use Rattle.xmt_isa.specs.Regions.{IsBlock, IsInside}

-- the operation at a place leads there; a spawn leads into its block, a return and a join out of the function and the block
abbrev pub LeadsTo : (at to : ℕ) → Operation → Type 0
LeadsTo at to (Jump target) = to ≡ target
LeadsTo at to (IfZero b target) = (to ≡ target) ⊎ (to ≡ at + 1)
LeadsTo at to (IfNot b target) = (to ≡ target) ⊎ (to ≡ at + 1)
LeadsTo at to Return = ⊥
LeadsTo at to (Spawn a b mask) = ⊥
LeadsTo at to Join = ⊥
LeadsTo at to operation = to ≡ at + 1

-- its registers, its slot, word or text, and the place that it leads to are there: the place in the same function, and in the same block or outside all blocks
pub record IsSound (image : Image) (at : ℕ) (i : Instr) (operation : Operation) : Type 0 where
  pub registers : RegistersFit i operation
  pub target : TargetFits image i.imm operation
  pub in_function : FunctionTargetFits image at operation
  pub same_function : (to : ℕ) → LeadsTo at to operation → IsSameFunction image at to
  pub same_block : (to : ℕ) → LeadsTo at to operation → (spawn join : ℕ) → IsBlock image spawn join → IsInside spawn join at ↔ IsInside spawn join to
