-- What every tree that is read from a source has beside the rules of names and types: names are spelled as names, and texts hold bytes that can be printed.
use Rattle.std.specs.Prelude.{ℕ, ◌^◌, ◌<◌, All, List, [], ◌∷◌, length}
use Rattle.xmt_base.specs.Format.{IsPrintable}
use Rattle.raw_tree.specs.declared.tree.RawStmt.{RawStmt}
use Rattle.raw_tree.specs.declared.tree.RawStmtKind.{RawStmtKind, Row_of-RawStmt, end_of-RawStmt, more_of-RawStmt, Held-RawStmtKind-If-2, None', Some'}
use Rattle.raw_tree.specs.declared.tree.RawStmtKind.TheVariants as raw
use Rattle.raw_tree.specs.declared.tree.RawGlobal.{RawGlobal}
use Rattle.raw_tree.specs.declared.tree.RawItem.{RawItem}
use Rattle.raw_tree.specs.declared.tree.RawItemKind.{RawItemKind}
use Rattle.raw_tree.specs.declared.tree.RawItemKind.TheVariants as i
use Rattle.raw_tree.specs.declared.tree.RawProgram.{RawProgram}
use Rattle.name_faults.specs.Items.{name_of_global}
use Rattle.checked_programs.specs.Checked.{IsShortName}

pub record IsText (text : List ℕ) : Type 0 where
  pub printable : All IsPrintable text
  pub short : length text < 2 ^ 32

abbrev mutual
  -- each text in the statement can be printed
  pub HasTexts : RawStmtKind → Type 0
  HasTexts (raw.Block' shape body) = RowHasTexts body
  HasTexts (raw.If' test shape body other) = RowHasTexts body × ElseHasTexts other
  HasTexts (raw.While' test shape body) = RowHasTexts body
  HasTexts (raw.Do' shape body test) = RowHasTexts body
  HasTexts (raw.For' begin test third shape body) = RowHasTexts body
  HasTexts (raw.Spawn' low high shape body) = RowHasTexts body
  HasTexts (raw.Print text values) = IsText text.bytes
  HasTexts _ = Unit {0}

  pub RowHasTexts : {n : _} → Row_of-RawStmt n → Type 0
  RowHasTexts end_of-RawStmt = Unit {0}
  RowHasTexts (more_of-RawStmt at kind rest) = HasTexts kind × RowHasTexts rest

  pub ElseHasTexts : Held-RawStmtKind-If-2 → Type 0
  ElseHasTexts None' = Unit {0}
  ElseHasTexts (Some' shape body) = RowHasTexts body

abbrev pub ListHasTexts : List RawStmt → Type 0
ListHasTexts [] = Unit {0}
ListHasTexts (x ∷ rest) = HasTexts x.kind × ListHasTexts rest

abbrev pub GlobalsAreSpelled : List RawGlobal → Type 0
GlobalsAreSpelled [] = Unit {0}
GlobalsAreSpelled (global ∷ rest) = IsShortName (name_of_global global).bytes × GlobalsAreSpelled rest

abbrev pub ItemFromSource : RawItemKind → Type 0
ItemFromSource (i.Globals ty all) = GlobalsAreSpelled all
ItemFromSource (i.Function result params body) = ListHasTexts body
ItemFromSource _ = Unit {0}

abbrev pub ItemsFromSource : List RawItem → Type 0
ItemsFromSource [] = Unit {0}
ItemsFromSource (x ∷ rest) = ItemFromSource x.kind × ItemsFromSource rest

abbrev pub IsFromSource : RawProgram → Type 0
IsFromSource tree = ItemsFromSource tree.items
