-- What emitting the code of quads does on its way.
use Rattle.std.specs.Prelude.{◌≡◌, ℕ, ◌+◌, ◌<◌, if◌then◌else◌, Bool, true, false, List, [], ◌∷◌, ◌++◌, length, get_or, replicate, Option, Some, None, All, slice_get}
use Rattle.xmt_isa.specs.declared.image.Instr.{Instr}
use Rattle.xmt_quads.specs.declared.code.Quad.{Quad}
use Rattle.xmt_quads.specs.declared.code.Quad.TheVariants as quad
use Rattle.xmt_quads.specs.declared.code.QuadFunction.{QuadFunction}
use Rattle.xmt_quads.specs.declared.homes.Home.{Home}
use Rattle.xmt_quads.specs.WellFormed.{AreBelow}
use Rattle.quad_images.specs.Instructions.{size}
use Rattle.quad_images.specs.Image.{slot_of, slot_in, function_code, lines_from, codes_from, lines_of_all, entries_from}
use Rattle.emit.specs.declared.code.Code.{Code}
use Rattle.emit.specs.declared.blocks.Own.{Own}
use Rattle.emit.specs.declared.image.Built.{Built}

-- these instructions of one line were appended
pub record Appends (old new : Code) (line : ℕ) (part : List Instr) : Type 0 where
  pub instructions : new.code ≡ old.code ++ part
  pub are_lines : new.lines ≡ old.lines ++ replicate (length part) line

-- the slot of a register, by the homes of its function
abbrev pub slot_at : List Home → (register : ℕ) → ℕ
slot_at homes register = slot_of (slice_get homes register)

-- a register lives in the thread's own frame
abbrev pub own_of : Own → (register : ℕ) → Bool
own_of own register = if own.inside then get_or own.written.items register false else true

-- the register that a quad writes
abbrev pub register_of : Quad → Option ℕ
register_of (quad.Copy r o) = Some r
register_of (quad.Unary op r o) = Some r
register_of (quad.Binary op r a b) = Some r
register_of (quad.Dollar r) = Some r
register_of (quad.Load r place) = Some r
register_of (quad.Add r place o) = Some r
register_of (quad.Parameter r place) = Some r
register_of (quad.Result r) = Some r
register_of _ = None

-- where each of these quads begins
abbrev pub places_from : (start : ℕ) → List Quad → List ℕ
places_from start [] = []
places_from start (q ∷ quads) = start ∷ places_from (start + size q) quads

-- what a quad jumps to is one of so many positions
abbrev pub TargetExists : (positions : ℕ) → Quad → Type 0
TargetExists positions (quad.Jump to) = to < positions
TargetExists positions (quad.IfZero o to) = to < positions
TargetExists positions (quad.IfNot o to) = to < positions
TargetExists positions q = Unit {0}

-- a quad with the place that it jumps to
abbrev pub placed_at : (place : ℕ → ℕ) → Quad → Quad
placed_at place (quad.Jump to) = quad.Jump (place to)
placed_at place (quad.IfZero o to) = quad.IfZero o (place to)
placed_at place (quad.IfNot o to) = quad.IfNot o (place to)
placed_at place q = q

abbrev pub ends_block : Quad → Bool
ends_block quad.Join = true
ends_block q = false

abbrev pub begins_block : Quad → Bool
begins_block (quad.Spawn low high) = true
begins_block q = false

-- what is asked of a function
pub record IsEmittable (f : QuadFunction) : Type 0 where
  pub lines : length f.lines ≡ length f.quads
  pub registers : All (AreBelow f.registers) f.quads
  pub targets : All (TargetExists (length f.quads)) f.quads

-- the code of a function was appended
pub record AppendsFunction (old new : Code) (slot : ℕ → ℕ) (start : ℕ) (f : QuadFunction) : Type 0 where
  pub instructions : new.code ≡ old.code ++ function_code slot start f.quads
  pub are_lines : new.lines ≡ old.lines ++ lines_from f.quads f.lines

-- the code of these functions, with where each begins
pub record IsBuilt (homes : List (List Home)) (functions : List QuadFunction) (built : Built) : Type 0 where
  pub instructions : built.code.code ≡ codes_from (slot_in homes) 0 0 functions
  pub are_lines : built.code.lines ≡ lines_of_all functions
  pub entries : built.entries ≡ entries_from 0 functions
