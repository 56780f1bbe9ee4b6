-- A walk over spawns, which looks for one by its number.
use Rattle.std.proofs.Common.{ℕ, zero, suc, ◌≡◌, ◌<◌, ◌+◌, refl, ◌∙◌, ap, sym, subst, arith, List, [], ◌∷◌, ◌++◌, Option, Some, None, length, length-append, drop, drop-cons, get_or}
use Rattle.std.specs.Prelude.{slice_get, ◌&&◌, not}
use Rattle.source_meaning.specs.Inside.{some_in_body, some_in_list}
use Rattle.source_meaning.specs.Variables.{is_declaration, is_write, is_sharing}
use Rattle.source_meaning.proofs.Rows.{some_in_body-items}
use Rattle.source_meaning.specs.declared.tree.Expr.{Expr}
use Rattle.source_meaning.specs.declared.tree.Stmt.{Stmt}
use Rattle.source_meaning.specs.declared.tree.StmtKind.{StmtKind}
use Rattle.source_meaning.specs.declared.tree.StmtKind.TheVariants as stmt
use Rattle.source_meaning.specs.declared.tree.StmtKind.TheBlock.{hidden-the_row-Stmt-0}
use Rattle.source_meaning.specs.Opened.{opened}
use Rattle.spawn_check.specs.declared.written.Walk.{Walk}
use Rattle.spawn_check.specs.declared.written.Walk.TheVariants.{Found, Passed}
use Rattle.spawn_check.specs.Sharing.{spawns_of, spawns_of_row, spawns_of_option, spawns_in, IsNth}

slice_get-append_right : {X : Type 0} (xs ys : List X) (k left : ℕ) (x : X) → k ≡ left + length xs → slice_get ys left ≡ Some x → slice_get (xs ++ ys) k ≡ Some x
slice_get-append_right [] ys k left x e found = let same : k ≡ left = omega arith in ap (slice_get ys) same ∙ found
slice_get-append_right (y ∷ xs) ys zero left x e found = absurd (omega arith)
slice_get-append_right (y ∷ xs) ys (suc k) left x e found = let less : k ≡ left + length xs = omega arith in slice_get-append_right xs ys k left x less found

-- the first spawns are passed
pub nth_behind : (w : Walk) (xs ys : List StmtKind) (k left : ℕ) → k ≡ left + length xs → IsNth w ys left → IsNth w (xs ++ ys) k
nth_behind (Found s) xs ys k left passed is = slice_get-append_right xs ys k left s.now.kind passed is
nth_behind (Passed more) xs ys k left passed is = omega (arith, length-append xs ys, passed, is)

pub nth_same : (w : Walk) (xs ys : List StmtKind) (k : ℕ) → xs ≡ ys → IsNth w ys k → IsNth w xs k
nth_same w xs ys k same is = subst (λ (zs : List StmtKind). IsNth w zs k) (sym same) is

spawns_of_row-items : (body : List Stmt) → spawns_of_row (hidden-the_row-Stmt-0 body) ≡ spawns_in body
unfolding opened
spawns_of_row-items [] = refl
spawns_of_row-items (s ∷ body) = ap (λ rest. spawns_of s.kind ++ rest) (spawns_of_row-items body)

pub spawns_of_block : (body : List Stmt) → spawns_of (stmt.Block body) ≡ spawns_in body
unfolding opened
spawns_of_block body = spawns_of_row-items body

pub spawns_of_if : (choice : Expr) (body : Stmt) (other : Option Stmt) → spawns_of (stmt.If choice body other) ≡ spawns_of body.kind ++ spawns_of_option other
unfolding opened
spawns_of_if choice body None = refl
spawns_of_if choice body (Some other) = refl

pub spawns_of_for : (first : List Stmt) (choice third : Option Expr) (body : Stmt) → spawns_of (stmt.For first choice third body) ≡ spawns_in first ++ spawns_of body.kind
unfolding opened
spawns_of_for first choice third body = ap (λ before. before ++ spawns_of body.kind) (spawns_of_row-items first)

pub spawns_of_spawn : (low high : Expr) (block : List Stmt) → spawns_of (stmt.Spawn low high block) ≡ (stmt.Spawn low high block ∷ []) ++ spawns_in block
unfolding opened
spawns_of_spawn low high block = ap (λ inside. stmt.Spawn low high block ∷ inside) (spawns_of_row-items block)

-- the block of a spawn shares a variable
pub is_sharing_spawn : (slot : ℕ) (low high : Expr) (block : List Stmt) →
    is_sharing slot (stmt.Spawn low high block) ≡ (some_in_list (is_write slot) block && not (some_in_list (is_declaration slot) block))
unfolding opened
is_sharing_spawn slot low high block =
    ap (λ written. written && not (some_in_body (is_declaration slot) (hidden-the_row-Stmt-0 block))) (some_in_body-items (is_write slot) block) ∙
    ap (λ declared. some_in_list (is_write slot) block && not declared) (some_in_body-items (is_declaration slot) block)

-- the statements from a place on begin with that one
pub spawns_in-drop : (body : List Stmt) (i : ℕ) (s : Stmt) → i < length body → s ≡ get_or body i s → spawns_in (drop i body) ≡ spawns_of s.kind ++ spawns_in (drop (i + 1) body)
spawns_in-drop body i s within is =
    let front : drop i body ≡ get_or body i s ∷ drop (suc i) body = drop-cons body i s within in
    let next : suc i ≡ i + 1 = omega arith in
    ap spawns_in front ∙ ap (λ (x : Stmt). spawns_of x.kind ++ spawns_in (drop (suc i) body)) (sym is) ∙ ap (λ n. spawns_of s.kind ++ spawns_in (drop n body)) next
