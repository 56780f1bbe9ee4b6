-- No declaration in a tree that tokens spell is a branch or the body of a loop.
use Rattle.std.proofs.Common.{ℕ, Bool, List, [], ◌∷◌}
use Rattle.raw_tree.specs.declared.tree.RawStmt.{RawStmt}
use Rattle.raw_tree.specs.declared.tree.RawStmtKind.TheBlock.{hidden-the_row-RawStmt-0}
use Rattle.raw_tree.specs.declared.tree.RawItem.{RawItem}
use Rattle.raw_tree.specs.Level.{Tokens}
use Rattle.raw_tree.specs.Statements as stmts
use Rattle.raw_tree.specs.Statements.{SpellsStmt, SpellsBody}
use Rattle.raw_tree.specs.Items as items
use Rattle.raw_tree.specs.Items.{SpellsItem, SpellsItems}
use Rattle.name_scopes.specs.Opened.{opened}
use Rattle.resolved_programs.specs.Branches.{IsNoDeclaration, HasPlainBranches, RowHasPlainBranches, ListHasPlainBranches, ItemHasPlainBranches, ItemsHavePlainBranches}
use Rattle.source_trees.specs.Law.{SpelledTreesHavePlainBranches}

module _ (source : List ℕ) where
  rows_plain : (body : List RawStmt) → ListHasPlainBranches body → RowHasPlainBranches (hidden-the_row-RawStmt-0 body)
  unfolding opened
  rows_plain [] plain = tt
  rows_plain (x ∷ more) plain = (plain.0, rows_plain more plain.1)

  mutual
    unfolding opened

    statement_plain : {open_part : Bool} {n : ℕ} (a : RawStmt) (ts : Tokens) → SpellsStmt source open_part n a ts → IsNoDeclaration a.kind × HasPlainBranches a.kind
    statement_plain a ts (stmts.empty e semicolon) = (tt, tt)
    statement_plain a ts (stmts.value e spells semicolon) = (tt, tt)
    statement_plain a ts (stmts.block o c {body = body} {x = x} opens spells closes) = (tt, rows_plain body (body_plain body x spells))
    statement_plain a ts (stmts.if_alone t o c {b = b} {y = y} key opens test closes spells) = (tt, (statement_plain b y spells, tt))
    statement_plain a ts (stmts.if_else t o c u {b = b} {d = d} {y = y} {z = z} key opens test closes spells other_key other) = (tt, (statement_plain b y spells, statement_plain d z other))
    statement_plain a ts (stmts.while t o c {b = b} {y = y} key opens test closes spells) = (tt, statement_plain b y spells)
    statement_plain a ts (stmts.do_while t u o c e {b = b} {x = x} key spells key_behind opens test closes semicolon) = (tt, statement_plain b x spells)
    statement_plain a ts (stmts.for t o e c {b = b} {z = z} key opens first test semicolon third closes spells) = (tt, statement_plain b z spells)
    statement_plain a ts (stmts.break t e key semicolon) = (tt, tt)
    statement_plain a ts (stmts.continue t e key semicolon) = (tt, tt)
    statement_plain a ts (stmts.return t e key spells semicolon) = (tt, tt)
    statement_plain a ts (stmts.spawn t o v c p q {body = body} {z = z} key opens low comma high closes curly spells closes_curly) = (tt, rows_plain body (body_plain body z spells))
    statement_plain a ts (stmts.ps t o n v b c e key opens first comma second closes semicolon) = (tt, tt)
    statement_plain a ts (stmts.psm t o n v c e key opens first comma spells closes semicolon) = (tt, tt)
    statement_plain a ts (stmts.print t o text c e key opens is_text spells closes semicolon) = (tt, tt)

    body_plain : {n : ℕ} (body : List RawStmt) (ts : Tokens) → SpellsBody source n body ts → ListHasPlainBranches body
    body_plain body ts stmts.no_more = tt
    body_plain body ts (stmts.one_declared {rest = more} {y = y} spells behind) = (tt, body_plain more y behind)
    body_plain body ts (stmts.one_more {b = b} {rest = more} {x = x} {y = y} spells behind) = ((statement_plain b x spells).1, body_plain more y behind)

  item_plain : {n : ℕ} (a : RawItem) (ts : Tokens) → SpellsItem source n a ts → ItemHasPlainBranches a.kind
  item_plain a ts (items.globals e type spells semicolon) = tt
  item_plain a ts (items.registers t e key spells semicolon) = tt
  item_plain a ts (items.int_registers t u e key int spells semicolon) = tt
  item_plain a ts (items.function o c p q {body = body} {z = z} head opens params closes curly spells closes_curly) = body_plain body z spells
  item_plain a ts (items.proto o c e head opens params closes semicolon) = tt

  items_plain : {n : ℕ} (all : List RawItem) (ts : Tokens) → SpellsItems source n all ts → ItemsHavePlainBranches all
  items_plain all ts (items.last_item {a = a} one) = (item_plain a ts one, tt)
  items_plain all ts (items.more_items {a = a} {rest = more} {x = x} {y = y} one behind) = (item_plain a x one, items_plain more y behind)

pub spelled_trees_have_plain_branches : SpelledTreesHavePlainBranches
spelled_trees_have_plain_branches source ts nesting tree spells = items_plain source tree.items ts spells
