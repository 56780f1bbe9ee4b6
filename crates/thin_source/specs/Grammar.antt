-- What expressions of a thin source are spelled as. `Spells c n nodes level tree tokens`: in the context c the tokens spell
-- the tree at that level, the nesting of the tree with its brackets is n, and it has so many nodes.
-- One constructor for each alternative of the grammar.
use Rattle.std.specs.Prelude.{◌≡◌, ℕ, suc, ◌+◌, max, true, false, List, [], ◌∷◌, ◌++◌, Option, Some, None}
use Rattle.xmt_base.specs.declared.values.Place.{Place}
use Rattle.xmt_base.specs.declared.operators.BinOp.{BinOp}
use Rattle.xmt_base.specs.declared.operators.BinOp.TheVariants as op
use Rattle.source_meaning.specs.declared.tree.Spot.{Spot}
use Rattle.source_meaning.specs.declared.tree.Spot.TheVariants as spot
use Rattle.source_meaning.specs.declared.tree.Expr.{Expr}
use Rattle.source_meaning.specs.declared.tree.ExprKind.{ExprKind}
use Rattle.source_meaning.specs.declared.tree.ExprKind.TheVariants as e
use Rattle.thin_source.specs.declared.tokens.Mark.TheVariants as m
use Rattle.thin_source.specs.declared.tokens.Token.{Token}
use Rattle.thin_source.specs.declared.tokens.TokenKind.{TokenKind}
use Rattle.thin_source.specs.declared.tokens.TokenKind.TheVariants as kind
use Rattle.thin_source.specs.Names.{Context, global_of}

abbrev pub Tokens : Type 0
Tokens = List Token

-- An atom, a product of atoms, a sum of products.
pub data Level : Type 0 where
  Atom : Level
  Product : Level
  Sum : Level

-- an expression with the place of its first operand
abbrev pub node : Place → ExprKind → Expr
node p k = record { at = p; kind = k }

-- the operator that a token is in a product, or in a sum
abbrev pub product_op : TokenKind → Option BinOp
product_op (kind.Mark m.Star) = Some op.Mul
product_op _ = None

abbrev pub sum_op : TokenKind → Option BinOp
sum_op (kind.Mark m.Plus) = Some op.Add
sum_op (kind.Mark m.Minus) = Some op.Sub
sum_op _ = None

mutual
  -- the spot that a name begins, the nesting and the nodes of its index, and the place of the name
  pub data SpellsSpot (c : Context) : ℕ → ℕ → Spot → Place → Tokens → Type 0 where
    scalar : (t : Token) {number : ℕ} → t.kind ≡ kind.Name → global_of c false t ≡ Some number → SpellsSpot c 0 0 (spot.Global number) t.place (t ∷ [])
    element : (t opens closes : Token) {number n nodes : ℕ} {index : Expr} {x : Tokens} →
        t.kind ≡ kind.Name → global_of c true t ≡ Some number → opens.kind ≡ kind.Mark m.OpenSquare → Spells c n nodes Sum index x → closes.kind ≡ kind.Mark m.CloseSquare →
        SpellsSpot c n nodes (spot.Element number index) t.place (t ∷ opens ∷ (x ++ closes ∷ []))

  pub data Spells (c : Context) : ℕ → ℕ → Level → Expr → Tokens → Type 0 where
    number : (t : Token) {v : ℕ} → t.kind ≡ kind.Number v → Spells c 1 1 Atom (node t.place (e.Number v)) (t ∷ [])
    -- `$` stands in the block alone
    dollar : (t : Token) → t.kind ≡ kind.Mark m.Dollar → c.inside ≡ true → Spells c 1 1 Atom (node t.place e.Dollar) (t ∷ [])
    read : {n nodes : ℕ} {s : Spot} {p : Place} {x : Tokens} → SpellsSpot c n nodes s p x → Spells c (suc n) (suc nodes) Atom (node p (e.Read s)) x
    brackets : (opens closes : Token) {n nodes : ℕ} {a : Expr} {x : Tokens} →
        opens.kind ≡ kind.Mark m.OpenRound → Spells c n nodes Sum a x → closes.kind ≡ kind.Mark m.CloseRound →
        Spells c (suc n) nodes Atom a (opens ∷ (x ++ closes ∷ []))
    -- operators group to the left
    product : (t : Token) {o : BinOp} {i j k l : ℕ} {a b : Expr} {x y : Tokens} →
        Spells c i k Product a x → product_op t.kind ≡ Some o → Spells c j l Atom b y →
        Spells c (suc (max i j)) (suc (k + l)) Product (node a.at (e.Binary o a b)) (x ++ t ∷ y)
    sum : (t : Token) {o : BinOp} {i j k l : ℕ} {a b : Expr} {x y : Tokens} →
        Spells c i k Sum a x → sum_op t.kind ≡ Some o → Spells c j l Product b y →
        Spells c (suc (max i j)) (suc (k + l)) Sum (node a.at (e.Binary o a b)) (x ++ t ∷ y)
    -- an atom is a product, and a product a sum
    as_product : {n nodes : ℕ} {a : Expr} {x : Tokens} → Spells c n nodes Atom a x → Spells c n nodes Product a x
    as_sum : {n nodes : ℕ} {a : Expr} {x : Tokens} → Spells c n nodes Product a x → Spells c n nodes Sum a x
