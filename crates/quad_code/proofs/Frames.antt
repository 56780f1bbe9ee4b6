-- The cells of a function's variables.
use Rattle.std.proofs.Common.{◌≡◌, refl, ap, arith, ℕ, suc, ◌≤◌, true, false, List, Some, None}
use Rattle.std.specs.Prelude.{◌==◌, Bool}
use Rattle.xmt_base.specs.Action as action
use Rattle.source_meaning.specs.declared.tree.Stmt.{Stmt}
use Rattle.source_meaning.specs.Store.{Cell, Word, Register, Outer, Private, same_cell}
use Rattle.source_meaning.specs.Variables.{own_frame, is_shared, shared_below}
use Rattle.source_meaning.specs.Trace.{shared_of}
use Rattle.quad_code.specs.Functions.{outer_of}
use Rattle.quad_code.proofs.Setting.{IsShallow}

pub own_frame_private : (body : List Stmt) (thread depth slot : ℕ) → outer_of body slot ≡ None → own_frame body thread depth slot ≡ Private thread depth slot
own_frame_private body thread depth slot h = by (is_shared body slot) refl
  where
    by : (b : Bool) → is_shared body slot ≡ b → own_frame body thread depth slot ≡ Private thread depth slot
    by true e = let no : outer_of body slot ≡ Some (shared_below body slot) = rw e refl in cc
    by false e = rw e refl

pub own_frame_outer : (body : List Stmt) (thread depth slot number : ℕ) → outer_of body slot ≡ Some number → shared_of (own_frame body thread depth slot) ≡ Some (action.Outer depth number)
own_frame_outer body thread depth slot number h = by (is_shared body slot) refl
  where
    by : (b : Bool) → is_shared body slot ≡ b → shared_of (own_frame body thread depth slot) ≡ Some (action.Outer depth number)
    by true e =
        let is : outer_of body slot ≡ Some (shared_below body slot) = rw e refl in
        let same : shared_below body slot ≡ number = grind (arith, is, h) in
        rw e (ap (λ n. Some (action.Outer depth n)) same)
    by false e = let no : outer_of body slot ≡ None = rw e refl in cc

pub private_apart : (thread depth slot other : ℕ) → (slot == other) ≡ false → same_cell (Private thread depth slot) (Private thread depth other) ≡ false
private_apart thread depth slot other e = grind (arith, e)

pub own_frame_apart : (body : List Stmt) (thread depth slot other : ℕ) → outer_of body slot ≡ None → outer_of body other ≡ None → (slot == other) ≡ false → same_cell (own_frame body thread depth slot) (own_frame body thread depth other) ≡ false
own_frame_apart body thread depth slot other a b e = rw (own_frame_private body thread depth slot a, own_frame_private body thread depth other b) (private_apart thread depth slot other e)

-- a deeper call's cells are no shallow ones
pub deeper_apart : (thread depth slot : ℕ) (cell : Cell) → IsShallow thread depth cell → same_cell (Private thread (suc depth) slot) cell ≡ false
deeper_apart thread depth slot (Word place) h = absurd h
deeper_apart thread depth slot (Register number) h = absurd h
deeper_apart thread depth slot (Outer t d number) h = absurd h
deeper_apart thread depth slot (Private t d x) h = by (thread == t) refl
  where
    by : (b : Bool) → (thread == t) ≡ b → same_cell (Private thread (suc depth) slot) (Private t d x) ≡ false
    by false e = rw e refl
    by true e =
        let same : t ≡ thread = grind (arith, e) in
        let le : d ≤ depth = h same in
        let other : (suc depth == d) ≡ false = grind (arith, le) in
        rw (e, other) refl

pub shallow_more : (thread depth : ℕ) (cell : Cell) → IsShallow thread depth cell → IsShallow thread (suc depth) cell
shallow_more thread depth (Word place) h = h
shallow_more thread depth (Register number) h = h
shallow_more thread depth (Outer t d number) h = h
shallow_more thread depth (Private t d x) h = λ same. let le : d ≤ depth = h same in omega (arith, le)
