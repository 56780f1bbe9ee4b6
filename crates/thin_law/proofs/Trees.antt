-- The raw trees that belong to the parts of a thin program, with the nesting and the nodes of each part.
use Rattle.std.proofs.Common.{◌≡◌, ℕ, suc, ◌+◌, ◌≤◌, max, Bool, true, false, List, [], ◌∷◌, ◌++◌, Option, Some, None, codes, subst, arith}
use Rattle.std.specs.List.{position}
use Rattle.std.specs.Str.{bytes_eq}
use Rattle.xmt_base.specs.declared.values.Place.{Place}
use Rattle.xmt_base.specs.declared.operators.BinOp.{BinOp}
use Rattle.xmt_base.specs.declared.operators.BinOp.TheVariants as op
use Rattle.source_meaning.specs.declared.tree.Spot.{Spot}
use Rattle.source_meaning.specs.declared.tree.Spot.TheVariants as spot
use Rattle.source_meaning.specs.declared.tree.Expr.{Expr}
use Rattle.source_meaning.specs.declared.tree.ExprKind.TheVariants as e
use Rattle.source_meaning.specs.declared.tree.Stmt.{Stmt}
use Rattle.source_meaning.specs.declared.tree.StmtKind.TheVariants as s
use Rattle.source_meaning.specs.declared.tree.GlobalVar.{GlobalVar}
use Rattle.thin_source.specs.Names.{of_shape}
use Rattle.thin_source.specs.Grammar.{node}
use Rattle.thin_source.specs.Statements.{statement, printed, global}
use Rattle.xmt_lex.specs.declared.kinds.Mark.{Mark}
use Rattle.xmt_lex.specs.declared.kinds.Mark.TheVariants as m
use Rattle.raw_tree.specs.declared.tree.RawName.{RawName}
use Rattle.raw_tree.specs.declared.tree.RawText.{RawText}
use Rattle.raw_tree.specs.declared.tree.RawSpot.{RawSpot}
use Rattle.raw_tree.specs.declared.tree.RawSpot.TheVariants as raw_spot
use Rattle.raw_tree.specs.declared.tree.RawExpr.{RawExpr}
use Rattle.raw_tree.specs.declared.tree.RawExprKind.TheVariants as raw_e
use Rattle.raw_tree.specs.declared.tree.RawStmt.{RawStmt}
use Rattle.raw_tree.specs.declared.tree.RawStmtKind.TheVariants as raw_s
use Rattle.raw_tree.specs.declared.tree.RawType.{RawType}
use Rattle.raw_tree.specs.declared.tree.RawGlobal.{RawGlobal}
use Rattle.raw_tree.specs.declared.tree.RawGlobal.TheVariants as raw_g
use Rattle.raw_tree.specs.declared.tree.RawResult.TheVariants as head
use Rattle.raw_tree.specs.declared.tree.RawParams.TheVariants as params
use Rattle.raw_tree.specs.declared.tree.RawItem.{RawItem}
use Rattle.raw_tree.specs.declared.tree.RawItemKind.TheVariants as item
use Rattle.raw_tree.specs.Grammar as raw
use Rattle.raw_tree.specs.Statements as raw_code
use Rattle.raw_tree.specs.Items as raw_items

-- the number of the array, or of the scalar, that has this name
abbrev pub number_of : List GlobalVar → (array : Bool) → RawName → Option ℕ
number_of globals array name = of_shape globals array (position (λ global. bytes_eq name.bytes global.name) globals)

-- the mark of an operator
pub data IsMark : BinOp → Mark → Type 0 where
  times : IsMark op.Mul m.Star
  plus : IsMark op.Add m.Plus
  minus : IsMark op.Sub m.Minus

mutual
  pub data OfSpot (globals : List GlobalVar) : ℕ → ℕ → Spot → Place → RawSpot → Type 0 where
    scalar : (name : RawName) {number : ℕ} → number_of globals false name ≡ Some number → OfSpot globals 0 0 (spot.Global number) name.at (raw_spot.Name name)
    element : (name : RawName) {number n nodes : ℕ} {index : Expr} {r : RawExpr} →
        number_of globals true name ≡ Some number → OfExpr globals n nodes index r → OfSpot globals n nodes (spot.Element number index) name.at (raw_spot.Element name r)

  pub data OfExpr (globals : List GlobalVar) : ℕ → ℕ → Expr → RawExpr → Type 0 where
    number : (p : Place) (v : ℕ) → OfExpr globals 1 1 (node p (e.Number v)) (raw.node p (raw_e.Number v))
    dollar : (p : Place) → OfExpr globals 1 1 (node p e.Dollar) (raw.node p raw_e.Dollar)
    read : {n nodes : ℕ} {a : Spot} {p : Place} {r : RawSpot} → OfSpot globals n nodes a p r → OfExpr globals (suc n) (suc nodes) (node p (e.Read a)) (raw.node p (raw_e.Read r))
    brackets : (p : Place) {n nodes : ℕ} {a : Expr} {r : RawExpr} → OfExpr globals n nodes a r → OfExpr globals (suc n) nodes a (raw.node p (raw_e.Brackets r))
    binary : {o : BinOp} {mark : Mark} {i j k l : ℕ} {a b : Expr} {r t : RawExpr} → OfExpr globals i k a r → IsMark o mark → OfExpr globals j l b t →
        OfExpr globals (suc (max i j)) (suc (k + l)) (node a.at (e.Binary o a b)) (raw.node r.at (raw_e.Binary mark r t))

mutual
  -- a statement of nesting at most 200, and its nodes
  pub data OfStmt (globals : List GlobalVar) : ℕ → Stmt → RawStmt → Type 0 where
    assignment : {i j k l : ℕ} {a : Spot} {b : Expr} {p : Place} {r : RawSpot} {t : RawExpr} → OfSpot globals i k a p r → OfExpr globals j l b t → i ≤ 200 → j ≤ 200 →
        OfStmt globals (suc (suc (k + l))) (statement p (s.Value (node p (e.Assign a b)))) (raw_code.statement p (raw_s.Value (raw.node p (raw_e.Assign r m.Equal t))))
    print : (p : Place) (text : RawText) {n nodes : ℕ} {a : Expr} {r : RawExpr} → text.bytes ≡ printed → OfExpr globals n nodes a r → n ≤ 200 →
        OfStmt globals (suc nodes) (statement p (s.Print printed (a ∷ []))) (raw_code.statement p (raw_s.Print text (r ∷ [])))
    spawn : (p : Place) {i j k l nodes : ℕ} {low high : Expr} {r t : RawExpr} {block : List Stmt} {body : List RawStmt} →
        OfExpr globals i k low r → OfExpr globals j l high t → OfStmts globals nodes block body → i ≤ 200 → j ≤ 200 →
        OfStmt globals (suc (k + l + nodes)) (statement p (s.Spawn low high block)) (raw_code.statement p (raw_s.Spawn r t body))

  pub data OfStmts (globals : List GlobalVar) : ℕ → List Stmt → List RawStmt → Type 0 where
    no_more : OfStmts globals 0 [] []
    one_more : {k l : ℕ} {a : Stmt} {r : RawStmt} {rest : List Stmt} {body : List RawStmt} → OfStmt globals k a r → OfStmts globals l rest body → OfStmts globals (k + l) (a ∷ rest) (r ∷ body)

-- `int` alone
abbrev pub int : Place → RawType
int p = record { at = p; qualifiers = [] }

pub data OfGlobal : GlobalVar → RawGlobal → Type 0 where
  variable : (name : RawName) → OfGlobal (global name.bytes false 1) (raw_g.Scalar name None)
  array : (name : RawName) (at : Place) {length : ℕ} → 1 ≤ length → OfGlobal (global name.bytes true length) (raw_g.Array name (raw.node at (raw_e.Number length)) None)

-- some globals, each an item, and `main`; no global has the name of `main`
pub data OfItems (globals : List GlobalVar) : ℕ → List GlobalVar → List Stmt → List RawItem → Type 0 where
  main : (p : Place) (name : RawName) {nodes : ℕ} {body : List Stmt} {trees : List RawStmt} → name.bytes ≡ codes "main" → OfStmts globals nodes body trees →
      OfItems globals nodes [] body (raw_items.item p (item.Function (head.Main name) params.Nothing trees) ∷ [])
  one_global : (p q : Place) {nodes : ℕ} {v : GlobalVar} {g : RawGlobal} {rest : List GlobalVar} {body : List Stmt} {items : List RawItem} → OfGlobal v g → ¬ (v.name ≡ codes "main") → OfItems globals nodes rest body items →
      OfItems globals nodes (v ∷ rest) body (raw_items.item p (item.Globals (int q) (g ∷ [])) ∷ items)

pub together : {globals : List GlobalVar} {k l : ℕ} {a b : List Stmt} {r t : List RawStmt} → OfStmts globals k a r → OfStmts globals l b t → OfStmts globals (k + l) (a ++ b) (r ++ t)
together {globals = globals} {l = l} {b = b} {t = t} no_more second = let same : l ≡ 0 + l = omega arith in subst (λ (n : ℕ). OfStmts globals n b t) same second
together {globals = globals} {l = j} {b = b} {t = t} (one_more {k = k} {l = l} {a = a} {r = r} {rest = rest} {body = body} first others) second =
    let same : k + (l + j) ≡ k + l + j = omega arith in
    subst (λ (n : ℕ). OfStmts globals n (a ∷ (rest ++ b)) (r ∷ (body ++ t))) same (one_more first (together others second))
