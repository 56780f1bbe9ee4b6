-- The names and texts of a tree that tokens spell are those of the tokens.
use Rattle.std.proofs.Common.{ℕ, Bool, List, [], ◌∷◌, ◌++◌}
use Rattle.raw_tree.specs.declared.tree.RawStmt.{RawStmt}
use Rattle.raw_tree.specs.declared.tree.RawStmtKind.TheBlock.{hidden-the_row-RawStmt-0}
use Rattle.raw_tree.specs.declared.tree.RawGlobal.{RawGlobal}
use Rattle.raw_tree.specs.declared.tree.RawItem.{RawItem}
use Rattle.raw_tree.specs.Level.{Tokens, Parted, last_one, more_ones}
use Rattle.raw_tree.specs.Statements as stmts
use Rattle.raw_tree.specs.Statements.{SpellsStmt, SpellsBody}
use Rattle.raw_tree.specs.Items as items
use Rattle.raw_tree.specs.Items.{SpellsGlobal, SpellsItem, SpellsItems}
use Rattle.name_scopes.specs.Opened.{opened}
use Rattle.name_faults.specs.Items.{name_of_global}
use Rattle.checked_programs.specs.Checked.{IsShortName}
use Rattle.resolved_programs.specs.FromSource.{HasTexts, RowHasTexts, ListHasTexts, GlobalsAreSpelled, ItemFromSource, ItemsFromSource}
use Rattle.source_trees.specs.Law.{SpelledTreesAreFromSource}
use Rattle.source_trees.proofs.Tokens.{AreGood, tokens_are_good}

module _ (source : List ℕ) where
  front : (x y : Tokens) → AreGood source (x ++ y) → AreGood source x
  front [] y good = tt
  front (t ∷ x) y good = (good.0, front x y good.1)

  rest : (x y : Tokens) → AreGood source (x ++ y) → AreGood source y
  rest [] y good = good
  rest (t ∷ x) y good = rest x y good.1

  rows_have : (body : List RawStmt) → ListHasTexts body → RowHasTexts (hidden-the_row-RawStmt-0 body)
  unfolding opened
  rows_have [] texts = tt
  rows_have (x ∷ more) texts = (texts.0, rows_have more texts.1)

  mutual
    unfolding opened

    statement_has : {open_part : Bool} {n : ℕ} (a : RawStmt) (ts : Tokens) → SpellsStmt source open_part n a ts → AreGood source ts → HasTexts a.kind
    statement_has a ts (stmts.empty e semicolon) good = tt
    statement_has a ts (stmts.value e {x = x} spells semicolon) good = tt
    statement_has a ts (stmts.block o c {body = body} {x = x} opens spells closes) good = rows_have body (body_has body x spells (front x (c ∷ []) good.1))
    statement_has a ts (stmts.if_alone t o c {b = b} {x = x} {y = y} key opens test closes spells) good = (((statement_has b y spells (rest x (c ∷ y) good.1.1).1), tt), tt)
    statement_has a ts (stmts.if_else t o c u {b = b} {d = d} {x = x} {y = y} {z = z} key opens test closes spells other_key other) good =
        let behind = (rest x (c ∷ (y ++ u ∷ z)) good.1.1).1 in
        (((statement_has b y spells (front y (u ∷ z) behind)), tt), ((statement_has d z other (rest y (u ∷ z) behind).1), tt))
    statement_has a ts (stmts.while t o c {b = b} {x = x} {y = y} key opens test closes spells) good = ((statement_has b y spells (rest x (c ∷ y) good.1.1).1), tt)
    statement_has a ts (stmts.do_while t u o c e {b = b} {x = x} {y = y} key spells key_behind opens test closes semicolon) good = ((statement_has b x spells (front x (u ∷ o ∷ (y ++ c ∷ e ∷ [])) good.1)), tt)
    statement_has a ts (stmts.for t o e c {b = b} {v = v} {x = x} {y = y} {z = z} key opens first test semicolon third closes spells) good =
        ((statement_has b z spells (rest y (c ∷ z) (rest x (e ∷ (y ++ c ∷ z)) (rest v (x ++ e ∷ (y ++ c ∷ z)) good.1.1)).1).1), tt)
    statement_has a ts (stmts.break t e key semicolon) good = tt
    statement_has a ts (stmts.continue t e key semicolon) good = tt
    statement_has a ts (stmts.return t e key spells semicolon) good = tt
    statement_has a ts (stmts.spawn t o v c p q {body = body} {x = x} {y = y} {z = z} key opens low comma high closes curly spells closes_curly) good =
        rows_have body (body_has body z spells (front z (q ∷ []) (rest y (c ∷ p ∷ (z ++ q ∷ [])) (rest x (v ∷ (y ++ c ∷ p ∷ (z ++ q ∷ []))) good.1.1).1).1.1))
    statement_has a ts (stmts.ps t o n v b c e key opens first comma second closes semicolon) good = tt
    statement_has a ts (stmts.psm t o n v c e key opens first comma spells closes semicolon) good = tt
    statement_has a ts (stmts.print t o text c e key opens is_text spells closes semicolon) good = good.1.1.0.text is_text

    body_has : {n : ℕ} (body : List RawStmt) (ts : Tokens) → SpellsBody source n body ts → AreGood source ts → ListHasTexts body
    body_has body ts stmts.no_more good = tt
    body_has body ts (stmts.one_declared {rest = more} {x = x} {y = y} spells behind) good = (tt, body_has more y behind (rest x y good))
    body_has body ts (stmts.one_more {b = b} {rest = more} {x = x} {y = y} spells behind) good = (statement_has b x spells (front x y good), body_has more y behind (rest x y good))

  global_has : {n : ℕ} (g : RawGlobal) (ts : Tokens) → SpellsGlobal source n g ts → AreGood source ts → IsShortName (name_of_global g).bytes
  global_has g ts (items.scalar t named opening) good = good.0.name named
  global_has g ts (items.array t o c named opens length closes opening) good = good.0.name named
  global_has g ts (items.array_of_values t o c e named opens closes equal opening) good = good.0.name named

  globals_have : {n : ℕ} (all : List RawGlobal) (ts : Tokens) → Parted RawGlobal (SpellsGlobal source) n all ts → AreGood source ts → GlobalsAreSpelled all
  globals_have all ts (last_one {a = a} one) good = (global_has a ts one good, tt)
  globals_have all ts (more_ones t {a = a} {rest = more} {x = x} {y = y} one comma behind) good = (global_has a x one (front x (t ∷ y) good), globals_have more y behind (rest x (t ∷ y) good).1)

  item_has : {n : ℕ} (a : RawItem) (ts : Tokens) → SpellsItem source n a ts → AreGood source ts → ItemFromSource a.kind
  item_has a ts (items.globals e {all = all} {x = x} {y = y} type spells semicolon) good = globals_have all y spells (front y (e ∷ []) (rest x (y ++ e ∷ []) good))
  item_has a ts (items.registers t e key spells semicolon) good = tt
  item_has a ts (items.int_registers t u e key int spells semicolon) good = tt
  item_has a ts (items.function o c p q {body = body} {x = x} {y = y} {z = z} head opens params closes curly spells closes_curly) good =
      body_has body z spells (front z (q ∷ []) (rest y (c ∷ p ∷ (z ++ q ∷ [])) (rest x (o ∷ (y ++ c ∷ p ∷ (z ++ q ∷ []))) good).1).1.1)
  item_has a ts (items.proto o c e head opens params closes semicolon) good = tt

  items_have : {n : ℕ} (all : List RawItem) (ts : Tokens) → SpellsItems source n all ts → AreGood source ts → ItemsFromSource all
  items_have all ts (items.last_item {a = a} one) good = (item_has a ts one good, tt)
  items_have all ts (items.more_items {a = a} {rest = more} {x = x} {y = y} one behind) good = (item_has a x one (front x y good), items_have more y behind (rest x y good))

pub spelled_trees_are_from_source : SpelledTreesAreFromSource
spelled_trees_are_from_source source ts nesting tree short tokens spells = items_have source tree.items ts spells (tokens_are_good source ts short tokens)
