-- Which variables the statements of a function declare, in the order of the text.
use Rattle.std.specs.Prelude.{ℕ, ◌≤◌, ◌≢◌, All, AllPairs, List, [], ◌∷◌, ◌++◌}
use Rattle.source_meaning.specs.declared.tree.Stmt.{Stmt}
use Rattle.source_meaning.specs.declared.tree.StmtKind.{StmtKind, Row_of-Stmt, end_of-Stmt, more_of-Stmt, Held-StmtKind-If-2, None', Some'}
use Rattle.source_meaning.specs.declared.tree.StmtKind.TheVariants as stmt
use Rattle.source_meaning.specs.declared.tree.Function.{Function}

abbrev mutual
  pub declared_in : StmtKind → List ℕ
  declared_in (stmt.Declare slot value) = slot ∷ []
  declared_in (stmt.Block' shape body) = declared_in_row body
  declared_in (stmt.If' test shape body other) = declared_in_row body ++ declared_in_else other
  declared_in (stmt.While' test shape body) = declared_in_row body
  declared_in (stmt.Do' shape body test) = declared_in_row body
  declared_in (stmt.For' first_shape first test third shape body) = declared_in_row first ++ declared_in_row body
  declared_in (stmt.Spawn' low high shape block) = declared_in_row block
  declared_in _ = []

  pub declared_in_row : {n : _} → Row_of-Stmt n → List ℕ
  declared_in_row end_of-Stmt = []
  declared_in_row (more_of-Stmt place kind rest) = declared_in kind ++ declared_in_row rest

  pub declared_in_else : Held-StmtKind-If-2 → List ℕ
  declared_in_else None' = []
  declared_in_else (Some' shape body) = declared_in_row body

abbrev pub declared_in_list : List Stmt → List ℕ
declared_in_list [] = []
declared_in_list (s ∷ rest) = declared_in s.kind ++ declared_in_list rest

-- no variable is declared twice, and no parameter is declared
pub record DeclaresOnce (function : Function) : Type 0 where
  pub differ : AllPairs (λ a b. a ≢ b) (declared_in_list function.body)
  pub no_parameter : All (λ slot. function.params ≤ slot) (declared_in_list function.body)
