-- Rows of trees, as lists.
use Rattle.std.proofs.Common.{◌≡◌, ◌≤◌, refl, ap, arith, ℕ, zero, suc, ◌+◌, max, List, [], ◌∷◌, length, drop, map, sum, sym, ◌∙◌}
use Rattle.std.proofs.lemmas.List.Sums.{sum-map, sum_by-cons}
use Rattle.raw_tree.specs.declared.tree.RawExpr.{RawExpr}
use Rattle.raw_tree.specs.declared.tree.RawExprKind.TheVariants as e
use Rattle.raw_tree.specs.declared.tree.RawName.{RawName}
use Rattle.raw_tree.specs.declared.tree.RawExprKind.TheBlock.{hidden-the_row-RawExpr-1}
use Rattle.name_scopes.specs.Opened.{opened}
use Rattle.name_scopes.specs.Size.{nodes, nodes_of_row}
use Rattle.name_scopes.specs.Waiting.{waiting, waiting_of_row, waiting_of_values}

nodes_of_list : (values : List RawExpr) → nodes_of_row (hidden-the_row-RawExpr-1 values) ≡ sum (map (λ a. nodes a.kind) values)
unfolding opened
nodes_of_list [] = refl
nodes_of_list (a ∷ rest) =
    ap (λ n. nodes a.kind + n) (nodes_of_list rest ∙ sum-map (λ a. nodes a.kind) rest)
    ∙ sym (sum_by-cons (λ a. nodes a.kind) a rest) ∙ sym (sum-map (λ a. nodes a.kind) (a ∷ rest))

pub nodes_call : (name : RawName) (values : List RawExpr) → nodes (e.Call name values) ≡ suc (sum (map (λ a. nodes a.kind) values))
unfolding opened
nodes_call name values = ap (λ n. suc n) (nodes_of_list values)

waiting_of_list : (values : List RawExpr) → waiting_of_row (hidden-the_row-RawExpr-1 values) ≡ waiting_of_values values
unfolding opened
waiting_of_list [] = refl
waiting_of_list (a ∷ rest) = ap (λ n. max (waiting a.kind) (1 + n)) (waiting_of_list rest)

pub waiting_call : (name : RawName) (values : List RawExpr) → waiting (e.Call name values) ≡ max 1 (waiting_of_values values)
unfolding opened
waiting_call name values = ap (λ n. max 1 n) (waiting_of_list values)

pub drop_all : {X : Type 0} (n : ℕ) (xs : List X) → length xs ≤ n → drop n xs ≡ []
drop_all zero [] long = refl
drop_all zero (x ∷ xs) long = absurd (omega arith)
drop_all (suc n) [] long = refl
drop_all (suc n) (x ∷ xs) long = drop_all n xs (omega (arith, long))
