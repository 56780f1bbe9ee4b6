-- What the statements of a thin source, the body of its `main` and its globals are spelled as, with nesting and nodes.
use Rattle.std.specs.Prelude.{◌≡◌, ℕ, suc, ◌+◌, ◌≤◌, max, Bool, true, false, List, [], ◌∷◌, ◌++◌}
use Rattle.xmt_base.specs.declared.values.Place.{Place}
use Rattle.source_meaning.specs.declared.tree.Spot.{Spot}
use Rattle.source_meaning.specs.declared.tree.Expr.{Expr}
use Rattle.source_meaning.specs.declared.tree.ExprKind.TheVariants as e
use Rattle.source_meaning.specs.declared.tree.Stmt.{Stmt}
use Rattle.source_meaning.specs.declared.tree.StmtKind.{StmtKind}
use Rattle.source_meaning.specs.declared.tree.StmtKind.TheVariants as stmt
use Rattle.source_meaning.specs.declared.tree.GlobalVar.{GlobalVar}
use Rattle.thin_source.specs.declared.tokens.Mark.TheVariants as m
use Rattle.thin_source.specs.declared.tokens.Token.{Token}
use Rattle.thin_source.specs.declared.tokens.TokenKind.TheVariants as kind
use Rattle.thin_source.specs.Tokens.{Text}
use Rattle.thin_source.specs.Names.{Context, bytes_of, within_block}
use Rattle.thin_source.specs.Grammar.{Tokens, Sum, node, SpellsSpot, Spells}

abbrev pub statement : Place → StmtKind → Stmt
statement p k = record { at = p; kind = k }

-- `%d` and a newline
abbrev pub printed : Text
printed = 37 ∷ 100 ∷ 10 ∷ []

pub data SpellsStmt (c : Context) : ℕ → ℕ → Stmt → Tokens → Type 0 where
  -- place "=" sum ";"
  assignment : (equals semicolon : Token) {i j k l : ℕ} {s : Spot} {p : Place} {a : Expr} {x y : Tokens} →
      SpellsSpot c i k s p x → equals.kind ≡ kind.Mark m.Equals → Spells c j l Sum a y → semicolon.kind ≡ kind.Mark m.Semicolon →
      SpellsStmt c (suc (suc (max i j))) (suc (suc (k + l))) (statement p (stmt.Value (node p (e.Assign s a)))) (x ++ equals ∷ (y ++ semicolon ∷ []))
  -- "printf" "(" Text "," sum ")" ";", outside the block alone
  print : (word opens text comma closes semicolon : Token) {n nodes : ℕ} {a : Expr} {x : Tokens} →
      c.inside ≡ false → word.kind ≡ kind.Printf → opens.kind ≡ kind.Mark m.OpenRound → text.kind ≡ kind.Text → comma.kind ≡ kind.Mark m.Comma →
      Spells c n nodes Sum a x → closes.kind ≡ kind.Mark m.CloseRound → semicolon.kind ≡ kind.Mark m.Semicolon →
      SpellsStmt c (suc n) (suc nodes) (statement word.place (stmt.Print printed (a ∷ []))) (word ∷ opens ∷ text ∷ comma ∷ (x ++ closes ∷ semicolon ∷ []))

-- statements one behind the other
pub data SpellsStmts (c : Context) : ℕ → ℕ → List Stmt → Tokens → Type 0 where
  none : SpellsStmts c 0 0 [] []
  more : {i j k l : ℕ} {s : Stmt} {rest : List Stmt} {x y : Tokens} → SpellsStmt c i k s x → SpellsStmts c j l rest y → SpellsStmts c (max i j) (k + l) (s ∷ rest) (x ++ y)

-- "spawn" "(" sum "," sum ")" "{" { stmt } "}"
pub data SpellsSpawn (c : Context) : ℕ → ℕ → Stmt → Tokens → Type 0 where
  spawn : (word opens comma closes brace closing : Token) {i j n k l nodes : ℕ} {low high : Expr} {block : List Stmt} {x y z : Tokens} →
      word.kind ≡ kind.Spawn → opens.kind ≡ kind.Mark m.OpenRound → Spells c i k Sum low x → comma.kind ≡ kind.Mark m.Comma → Spells c j l Sum high y →
      closes.kind ≡ kind.Mark m.CloseRound → brace.kind ≡ kind.Mark m.OpenBrace → SpellsStmts (within_block c) n nodes block z → closing.kind ≡ kind.Mark m.CloseBrace →
      SpellsSpawn c (suc (max i (max j n))) (suc (k + l + nodes)) (statement word.place (stmt.Spawn low high block))
      (word ∷ opens ∷ (x ++ comma ∷ (y ++ closes ∷ brace ∷ (z ++ closing ∷ []))))

-- { stmt } [ spawn { stmt } ]
pub data SpellsBody (c : Context) : ℕ → ℕ → List Stmt → Tokens → Type 0 where
  serial : {n nodes : ℕ} {body : List Stmt} {x : Tokens} → SpellsStmts c n nodes body x → SpellsBody c n nodes body x
  parallel : {i j n k l nodes : ℕ} {before behind : List Stmt} {s : Stmt} {x y z : Tokens} →
      SpellsStmts c i k before x → SpellsSpawn c j l s y → SpellsStmts c n nodes behind z →
      SpellsBody c (max i (max j n)) (k + l + nodes) (before ++ s ∷ behind) (x ++ (y ++ z))

abbrev pub global : Text → Bool → ℕ → GlobalVar
global name array length = record { name = name; array = array; length = length; constant = false; opening = [] }

-- { "int" Name [ "[" Number "]" ] ";" }
pub data SpellsGlobals (source : Text) : List GlobalVar → Tokens → Type 0 where
  none : SpellsGlobals source [] []
  scalar : (int name semicolon : Token) {rest : List GlobalVar} {x : Tokens} →
      int.kind ≡ kind.Int → name.kind ≡ kind.Name → semicolon.kind ≡ kind.Mark m.Semicolon → SpellsGlobals source rest x →
      SpellsGlobals source (global (bytes_of source name) false 1 ∷ rest) (int ∷ name ∷ semicolon ∷ x)
  array : (int name opens number closes semicolon : Token) {length : ℕ} {rest : List GlobalVar} {x : Tokens} →
      int.kind ≡ kind.Int → name.kind ≡ kind.Name → opens.kind ≡ kind.Mark m.OpenSquare → number.kind ≡ kind.Number length → 1 ≤ length →
      closes.kind ≡ kind.Mark m.CloseSquare → semicolon.kind ≡ kind.Mark m.Semicolon → SpellsGlobals source rest x →
      SpellsGlobals source (global (bytes_of source name) true length ∷ rest) (int ∷ name ∷ opens ∷ number ∷ closes ∷ semicolon ∷ x)

-- the globals, and "main" "(" ")" "{" body "}"
pub data SpellsSource (source : Text) : ℕ → ℕ → List GlobalVar → List Stmt → Tokens → Type 0 where
  whole : (main opens closes brace closing : Token) {n nodes : ℕ} {globals : List GlobalVar} {body : List Stmt} {x y : Tokens} →
      SpellsGlobals source globals x → main.kind ≡ kind.Main → opens.kind ≡ kind.Mark m.OpenRound → closes.kind ≡ kind.Mark m.CloseRound → brace.kind ≡ kind.Mark m.OpenBrace →
      SpellsBody (record { source = source; globals = globals; inside = false }) n nodes body y → closing.kind ≡ kind.Mark m.CloseBrace →
      SpellsSource source n nodes globals body (x ++ main ∷ opens ∷ closes ∷ brace ∷ (y ++ closing ∷ []))
