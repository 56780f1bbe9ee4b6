-- Trees in which each declaration stands among other statements or in the first part of a `for`, as it does in every tree that tokens spell.
-- One that is a branch, or the body of a loop, stands for a block with the declaration in it, which has a node more than is counted in the tree.
use Rattle.std.specs.Prelude.{List, [], ◌∷◌}
use Rattle.raw_tree.specs.declared.tree.RawStmt.{RawStmt}
use Rattle.raw_tree.specs.declared.tree.RawStmtKind.{RawStmtKind, Row_of-RawStmt, end_of-RawStmt, more_of-RawStmt, Held-RawStmtKind-If-2, None', Some'}
use Rattle.raw_tree.specs.declared.tree.RawStmtKind.TheVariants as raw
use Rattle.raw_tree.specs.declared.tree.RawItem.{RawItem}
use Rattle.raw_tree.specs.declared.tree.RawItemKind.{RawItemKind}
use Rattle.raw_tree.specs.declared.tree.RawItemKind.TheVariants as i
use Rattle.raw_tree.specs.declared.tree.RawProgram.{RawProgram}

abbrev pub IsNoDeclaration : RawStmtKind → Type 0
IsNoDeclaration (raw.Decl d) = ⊥
IsNoDeclaration _ = Unit {0}

abbrev mutual
  -- no declaration in the statement is a branch or the body of a loop
  pub HasPlainBranches : RawStmtKind → Type 0
  HasPlainBranches (raw.Block' shape body) = RowHasPlainBranches body
  HasPlainBranches (raw.If' test shape body other) = IsPlainBranch body × IsPlainElse other
  HasPlainBranches (raw.While' test shape body) = IsPlainBranch body
  HasPlainBranches (raw.Do' shape body test) = IsPlainBranch body
  HasPlainBranches (raw.For' begin test third shape body) = IsPlainBranch body
  HasPlainBranches (raw.Spawn' low high shape body) = RowHasPlainBranches body
  HasPlainBranches _ = Unit {0}

  pub IsPlainBranch : {n : _} → Row_of-RawStmt n → Type 0
  IsPlainBranch end_of-RawStmt = Unit {0}
  IsPlainBranch (more_of-RawStmt at kind rest) = IsNoDeclaration kind × HasPlainBranches kind

  pub IsPlainElse : Held-RawStmtKind-If-2 → Type 0
  IsPlainElse None' = Unit {0}
  IsPlainElse (Some' shape body) = IsPlainBranch body

  pub RowHasPlainBranches : {n : _} → Row_of-RawStmt n → Type 0
  RowHasPlainBranches end_of-RawStmt = Unit {0}
  RowHasPlainBranches (more_of-RawStmt at kind rest) = HasPlainBranches kind × RowHasPlainBranches rest

abbrev pub ListHasPlainBranches : List RawStmt → Type 0
ListHasPlainBranches [] = Unit {0}
ListHasPlainBranches (x ∷ rest) = HasPlainBranches x.kind × ListHasPlainBranches rest

abbrev pub ItemHasPlainBranches : RawItemKind → Type 0
ItemHasPlainBranches (i.Function result params body) = ListHasPlainBranches body
ItemHasPlainBranches _ = Unit {0}

abbrev pub ItemsHavePlainBranches : List RawItem → Type 0
ItemsHavePlainBranches [] = Unit {0}
ItemsHavePlainBranches (x ∷ rest) = ItemHasPlainBranches x.kind × ItemsHavePlainBranches rest

abbrev pub TreeHasPlainBranches : RawProgram → Type 0
TreeHasPlainBranches tree = ItemsHavePlainBranches tree.items
