-- The code of an expression keeps the block around it.
use Rattle.std.proofs.Common.{◌≡◌, ℕ, ◌+◌, true, Bool, Option, List, ◌∷◌}
use Rattle.std.specs.Prelude.{if◌then◌else◌}
use Rattle.xmt_base.specs.declared.operators.BinOp.TheVariants.{Ne}
use Rattle.source_meaning.specs.declared.tree.ExprKind.{ExprKind, Row_of-Expr, end_of-Expr, more_of-Expr}
use Rattle.source_meaning.specs.declared.tree.ExprKind.TheVariants as expr
use Rattle.source_meaning.specs.declared.tree.Spot.{Spot}
use Rattle.source_meaning.specs.declared.tree.Spot.TheVariants as spot
use Rattle.source_meaning.specs.declared.tree.Program.{Program}
use Rattle.xmt_quads.specs.declared.code.Operand.{Operand}
use Rattle.xmt_quads.specs.declared.code.Operand.TheVariants.{Reg, Literal}
use Rattle.xmt_quads.specs.declared.code.Quad.TheVariants as quad
use Rattle.quad_code.specs.Lined.{Lined, lined, one}
use Rattle.quad_code.specs.declared.Access.{Access}
use Rattle.quad_code.specs.declared.Access.TheVariants.{Own, Common}
use Rattle.quad_code.specs.Expressions.{reading, writing, adding, operand_of, boxed_operand, held, step_operator, access_of, code_at, boxed_at, spot_at, values_at, arguments_of}
use Rattle.quad_code.specs.Known.{Region, Serial, Inner, InBlock, NamesKnown, SpotKnown, AllKnown}
use Rattle.quad_code.specs.Whole.{HasFunction, MayCall}
use Rattle.quad_regions.proofs.Keeps.{Setting, region_of, IsStill, Fits, MayBeCalled, Keeps, nothing, behind, next, last, choice_keeps}

-- ---- reads and writes

pub reading_still : (r : ℕ) (a : Access) → IsStill (reading r a)
reading_still r (Own x) = tt
reading_still r (Common place) = tt

pub reading_fits : (w : Setting) (s : Option ℕ) (r : ℕ) (a : Access) → Fits w s (reading r a)
reading_fits w s r (Own x) = tt
reading_fits w s r (Common place) = tt

pub writing_still : (a : Access) (o : Operand) → IsStill (writing a o)
writing_still (Own x) o = tt
writing_still (Common place) o = tt

pub writing_fits : (w : Setting) (s : Option ℕ) (a : Access) (o : Operand) → Fits w s (writing a o)
writing_fits w s (Own x) o = tt
writing_fits w s (Common place) o = tt

pub read_keeps : {w : Setting} {s : Option ℕ} {at : ℕ} (line r : ℕ) (a : Access) → Keeps w s at (one line (reading r a))
read_keeps {w} {s} line r a = last (lined line (reading r a)) (reading_still r a) (reading_fits w s r a)

pub write_then : {w : Setting} {s : Option ℕ} {at : ℕ} {code : List Lined} (line : ℕ) (a : Access) (o : Operand) → Keeps w s (at + 1) code → Keeps w s at (lined line (writing a o) ∷ code)
write_then {w} {s} line a o rest = next (lined line (writing a o)) (writing_still a o) (writing_fits w s a o) rest

pub read_then : {w : Setting} {s : Option ℕ} {at : ℕ} {code : List Lined} (line r : ℕ) (a : Access) → Keeps w s (at + 1) code → Keeps w s at (lined line (reading r a) ∷ code)
read_then {w} {s} line r a rest = next (lined line (reading r a)) (reading_still r a) (reading_fits w s r a) rest

pub adding_keeps : {w : Setting} {s : Option ℕ} {at : ℕ} (line old : ℕ) (a : Access) (o : Operand) → Keeps w s at (adding line old a o)
adding_keeps line old (Own x) o = next (lined line (quad.Copy old (Reg x))) tt tt (last _ tt tt)
adding_keeps line old (Common place) o = last (lined line (quad.Add old place o)) tt tt

-- ---- expressions

-- In a function of this setting, of a program whose inner functions are these.
module _ (w : Setting) (program : Program) (inner : (function : ℕ) → Bool) (callable : (f values : ℕ) → HasFunction program f values → inner f ≡ true → w.Callable f) where
  may_be_called : (region : Region) (f values : ℕ) → MayCall program inner region f values → MayBeCalled w.Callable region f
  may_be_called Serial f values known = tt
  may_be_called Inner f values known = callable f values known.0 known.1
  may_be_called InBlock f values known = callable f values known.0 known.1

  module _ (base_of size_of : (global : ℕ) → ℕ) (outer : (slot : ℕ) → Option ℕ) (s : Option ℕ) where
    abbrev code : (at r line : ℕ) → ExprKind → List Lined
    code = code_at base_of size_of outer

    abbrev access : (r : ℕ) → Spot → Access
    access = access_of base_of size_of outer

    pub arguments_keep : (at line k r : ℕ) {n : _} (row : Row_of-Expr n) → Keeps w s at (arguments_of base_of size_of outer line k r row)
    arguments_keep at line k r end_of-Expr = nothing
    arguments_keep at line k r (more_of-Expr place kind rest) = next (lined line (quad.Argument k (operand_of r kind))) tt tt (arguments_keep (at + 1) line (k + 1) (r + 1) rest)

    module _ (globals : ℕ) (known : ℕ → Bool) where
      abbrev Names : ExprKind → Type 0
      Names = NamesKnown globals (MayCall program inner (region_of w.inner s)) known

      abbrev AllNames : {n : _} → Row_of-Expr n → Type 0
      AllNames row = AllKnown globals (MayCall program inner (region_of w.inner s)) known row

      mutual
        pub code_keeps : (at r line : ℕ) (kind : ExprKind) → Names kind → Keeps w s at (code at r line kind)
        code_keeps at r line (expr.Number n) h = nothing
        code_keeps at r line expr.Dollar h = last (lined line (quad.Dollar r)) tt tt
        code_keeps at r line (expr.Read p) h = behind (spot_keeps at r line p h) (read_keeps line r (access r p))
        code_keeps at r line (expr.Assign' p shape e) h =
            let value = r + held p in
            behind (spot_keeps at r line p h.0) (behind (boxed_keeps _ value e h.1) (
            write_then line (access r p) (boxed_operand value e) (last (lined line (quad.Copy r (boxed_operand value e))) tt tt)))
        code_keeps at r line (expr.Update' op p shape e) h =
            let old = r + held p in
            behind (spot_keeps at r line p h.0) (behind (read_keeps line old (access r p)) (behind (boxed_keeps _ (old + 1) e h.1) (
            next (lined line (quad.Binary op old (Reg old) (boxed_operand (old + 1) e))) tt tt (
            write_then line (access r p) (Reg old) (last (lined line (quad.Copy r (Reg old))) tt tt)))))
        code_keeps at r line (expr.Step p up after) h =
            let old = r + held p in
            behind (spot_keeps at r line p h) (read_then line old (access r p) (
            next (lined line (quad.Binary (step_operator up) (old + 1) (Reg old) (Literal 1))) tt tt (
            write_then line (access r p) (Reg (old + 1)) (last (lined line (quad.Copy r (Reg (if after then old else old + 1)))) tt tt))))
        code_keeps at r line (expr.Unary' op shape e) h = behind (boxed_keeps at r e h) (last (lined line (quad.Unary op r (boxed_operand r e))) tt tt)
        code_keeps at r line (expr.Binary' op left a right b) h =
            behind (boxed_keeps at r a h.0) (behind (boxed_keeps _ (r + 1) b h.1) (last (lined line (quad.Binary op r (boxed_operand r a) (boxed_operand (r + 1) b))) tt tt))
        code_keeps at r line (expr.Both' left a right b) h =
            behind (boxed_keeps at r a h.0) (choice_keeps line (quad.IfZero (boxed_operand r a)) (λ to. tt) (λ to there. there)
            (λ at. behind (boxed_keeps at r b h.1) (last (lined line (quad.Binary Ne r (boxed_operand r b) (Literal 0))) tt tt))
            (λ at. last (lined line (quad.Copy r (Literal 0))) tt tt))
        code_keeps at r line (expr.Either' left a right b) h =
            behind (boxed_keeps at r a h.0) (choice_keeps line (quad.IfNot (boxed_operand r a)) (λ to. tt) (λ to there. there)
            (λ at. behind (boxed_keeps at r b h.1) (last (lined line (quad.Binary Ne r (boxed_operand r b) (Literal 0))) tt tt))
            (λ at. last (lined line (quad.Copy r (Literal 1))) tt tt))
        code_keeps at r line (expr.Choose' first test left a right b) h =
            behind (boxed_keeps at r test h.0) (choice_keeps line (quad.IfZero (boxed_operand r test)) (λ to. tt) (λ to there. there)
            (λ at. behind (boxed_keeps at r a h.1) (last (lined line (quad.Copy r (boxed_operand r a))) tt tt))
            (λ at. behind (boxed_keeps at r b h.2) (last (lined line (quad.Copy r (boxed_operand r b))) tt tt)))
        code_keeps at r line (expr.Call' function shape values) h =
            behind (values_keep at r values h.1) (behind (arguments_keep _ line 0 r values) (
            next (lined line (quad.Call function)) tt (may_be_called (region_of w.inner s) function _ h.0) (last (lined line (quad.Result r)) tt tt)))

        pub boxed_keeps : (at r : ℕ) {n : _} (row : Row_of-Expr n) → AllNames row → Keeps w s at (boxed_at base_of size_of outer at r row)
        boxed_keeps at r end_of-Expr h = nothing
        boxed_keeps at r (more_of-Expr place kind rest) h = code_keeps at r place.line kind h.0

        pub spot_keeps : (at r line : ℕ) (p : Spot) → SpotKnown globals (MayCall program inner (region_of w.inner s)) known p → Keeps w s at (spot_at base_of size_of outer at r line p)
        spot_keeps at r line (spot.Global g) h = nothing
        spot_keeps at r line (spot.Element' g shape index) h = behind (boxed_keeps at r index h.1) (last (lined line (quad.Test (boxed_operand r index) (size_of g))) tt tt)
        spot_keeps at r line (spot.Register x) h = nothing
        spot_keeps at r line (spot.Local slot) h = nothing

        pub values_keep : (at r : ℕ) {n : _} (row : Row_of-Expr n) → AllNames row → Keeps w s at (values_at base_of size_of outer at r row)
        values_keep at r end_of-Expr h = nothing
        values_keep at r (more_of-Expr place kind rest) h = behind (code_keeps at r place.line kind h.0) (values_keep _ (r + 1) rest h.1)
