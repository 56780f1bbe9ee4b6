-- Code as it is appended.
use Rattle.std.specs.Prelude.{◌≡◌, ℕ, zero, suc, ◌+◌, Bool, if◌then◌else◌, List, [], ◌∷◌, ◌++◌, map, length, slice_set, Option, None}
use Rattle.source_meaning.specs.declared.tree.Expr.{Expr}
use Rattle.source_meaning.specs.declared.tree.ExprKind.{ExprKind}
use Rattle.source_meaning.specs.declared.tree.ExprKind.TheVariants as expr
use Rattle.source_meaning.specs.declared.tree.Spot.{Spot}
use Rattle.source_meaning.specs.declared.tree.Stmt.{Stmt}
use Rattle.source_meaning.specs.declared.tree.GlobalVar.{GlobalVar}
use Rattle.xmt_base.specs.declared.operators.BinOp.{BinOp}
use Rattle.source_meaning.specs.Layout.{first_word, words_of}
use Rattle.xmt_quads.specs.declared.code.Operand.{Operand}
use Rattle.xmt_quads.specs.declared.code.Operand.TheVariants.{Reg, Literal}
use Rattle.xmt_quads.specs.declared.code.Quad.{Quad}
use Rattle.xmt_quads.specs.declared.code.Quad.TheVariants as quad
use Rattle.quad_code.specs.declared.Access.{Access}
use Rattle.quad_code.specs.Lined.{Lined, lined, one}
use Rattle.quad_code.specs.Rows.{row_of}
use Rattle.quad_code.specs.Functions.{outer_of}
use Rattle.quad_code.specs.Expressions.{held, reading, writing, step_operator, access_of, code_at, spot_at, tested_at, side_at, values_at, arguments_of}
use Rattle.lowering.specs.declared.code.Placed.{Placed}

-- quads with their lines
abbrev pub placed : List Lined → List Placed
placed code = map (λ l. record { quad = l.quad; line = l.line }) code

-- what there was, and this code, put where it ended
abbrev pub with_code : (code : (at : ℕ) → List Lined) → (old : List Placed) → List Placed
with_code code old = old ++ placed (code (length old))

-- this code was appended, put where the old one ended
abbrev pub Appends : (code : (at : ℕ) → List Lined) → (old new : List Placed) → Type 0
Appends code old new = new ≡ old ++ placed (code (length old))

abbrev pub at_line : Quad → (line : ℕ) → Placed
at_line q line = record { quad = q; line = line }

-- the jump of a test, which is made where its value is 0, or where it is another number
abbrev pub jump_unless : (holds : Bool) → Operand → (to : ℕ) → Quad
jump_unless holds o to = if holds then quad.IfZero o to else quad.IfNot o to

-- the code of a choice with its two jumps: one past the first side, and one past the second
abbrev pub choice_closed : List Placed → (skip : ℕ) → (past : (to : ℕ) → Quad) → (jump line : ℕ) → List Placed
choice_closed code skip past jump line =
    slice_set (slice_set code skip (at_line (past (jump + 1)) line)) jump (at_line (quad.Jump (length code)) line)

-- the numbers of so many variables of the function with this body among its shared ones
abbrev pub outer_below : (body : List Stmt) → (slot count : ℕ) → List (Option ℕ)
outer_below body slot zero = []
outer_below body slot (suc count) = outer_of body slot ∷ outer_below body (suc slot) count

abbrev pub outer_numbers : (body : List Stmt) → (count : ℕ) → List (Option ℕ)
outer_numbers body count = outer_below body 0 count

-- the kind of an expression
abbrev pub IsBinary : ExprKind → Type 0
IsBinary (expr.Binary' op left a right b) = Unit {0}
IsBinary _ = ⊥

abbrev pub IsCall : ExprKind → Type 0
IsCall (expr.Call' function shape values) = Unit {0}
IsCall _ = ⊥

abbrev pub IsAssign : ExprKind → Type 0
IsAssign (expr.Assign' p shape e) = Unit {0}
IsAssign _ = ⊥

abbrev pub IsUpdate : ExprKind → Type 0
IsUpdate (expr.Update' op p shape e) = Unit {0}
IsUpdate _ = ⊥

abbrev pub IsStep : ExprKind → Type 0
IsStep (expr.Step p up after) = Unit {0}
IsStep _ = ⊥

abbrev pub IsBoth : ExprKind → Type 0
IsBoth (expr.Both' left a right b) = Unit {0}
IsBoth _ = ⊥

abbrev pub IsEither : ExprKind → Type 0
IsEither (expr.Either' left a right b) = Unit {0}
IsEither _ = ⊥

abbrev pub IsChoose : ExprKind → Type 0
IsChoose (expr.Choose' first test left a right b) = Unit {0}
IsChoose _ = ⊥

-- ---- in a function with this body, over these globals
module _ (globals : List GlobalVar) (body : List Stmt) where
  abbrev pub kind_code : (r line : ℕ) → ExprKind → (at : ℕ) → List Lined
  kind_code r line kind at = code_at (first_word globals) (words_of globals) (outer_of body) at r line kind

  abbrev pub expression_code : (r : ℕ) → Expr → (at : ℕ) → List Lined
  expression_code r e = kind_code r e.at.line e.kind

  abbrev pub spot_code : (r line : ℕ) → Spot → (at : ℕ) → List Lined
  spot_code r line p at = spot_at (first_word globals) (words_of globals) (outer_of body) at r line p

  -- how a place is reached, once its index is in this register
  abbrev pub place_of : (r : ℕ) → Spot → Access
  place_of r p = access_of (first_word globals) (words_of globals) (outer_of body) r p

  -- the quad that reads a place, once its index is in this register
  abbrev pub read_code : (r line : ℕ) → Spot → List Lined
  read_code r line p = one line (reading (r + held p) (place_of r p))

  -- what stands behind the value of an assignment
  abbrev pub assigned_code : (r line : ℕ) → Spot → Operand → List Lined
  assigned_code r line p o = lined line (writing (place_of r p) o) ∷ one line (quad.Copy r o)

  -- what stands behind the value of an update of what was read into this register
  abbrev pub updated_code : (r old line : ℕ) → BinOp → Spot → Operand → List Lined
  updated_code r old line op p o =
      lined line (quad.Binary op old (Reg old) o) ∷ lined line (writing (place_of r p) (Reg old)) ∷ one line (quad.Copy r (Reg old))

  -- what stands behind the index of a step
  abbrev pub stepped_code : (r line : ℕ) → Spot → (up after : Bool) → List Lined
  stepped_code r line p up after =
      let old = r + held p in
      lined line (reading old (place_of r p)) ∷
      lined line (quad.Binary (step_operator up) (old + 1) (Reg old) (Literal 1)) ∷
      lined line (writing (place_of r p) (Reg (old + 1))) ∷
      one line (quad.Copy r (Reg (if after then old else old + 1)))

  abbrev pub tested_code : (r line : ℕ) → Expr → (at : ℕ) → List Lined
  tested_code r line e at = tested_at (first_word globals) (words_of globals) (outer_of body) at r line e

  abbrev pub side_code : (r line : ℕ) → Expr → (at : ℕ) → List Lined
  side_code r line e at = side_at (first_word globals) (words_of globals) (outer_of body) at r line e

  abbrev pub values_code : (r : ℕ) → List Expr → (at : ℕ) → List Lined
  values_code r values at = values_at (first_word globals) (words_of globals) (outer_of body) at r (row_of values)

-- values in registers of their own as arguments, which neither the globals nor the function bears on
abbrev pub arguments_code : (line k r : ℕ) → List Expr → (at : ℕ) → List Lined
arguments_code line k r values at = arguments_of (λ global. 0) (λ global. 0) (λ slot. None) line k r (row_of values)

-- what stands behind the values of a call
abbrev pub call_code : (line r function : ℕ) → List Expr → (at : ℕ) → List Lined
call_code line r function values at =
    arguments_code line 0 r values at ++ lined line (quad.Call function) ∷ one line (quad.Result r)
