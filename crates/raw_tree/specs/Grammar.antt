-- What expressions are spelled as. `Spells source n level tree tokens`: the tokens spell the tree at that level, and the nesting of the tree is n.
-- One constructor for each alternative of the grammar.
use Rattle.std.specs.Prelude.{◌≡◌, ℕ, suc, max, true, List, [], ◌∷◌, ◌++◌}
use Rattle.xmt_base.specs.declared.Place.{Place}
use Rattle.xmt_lex.specs.declared.Token.{Token}
use Rattle.xmt_lex.specs.declared.TokenKind.TheVariants as kind
use Rattle.xmt_lex.specs.declared.kinds.Mark.{Mark}
use Rattle.xmt_lex.specs.declared.kinds.Mark.TheVariants as m
use Rattle.raw_tree.specs.declared.tree.RawName.{RawName}
use Rattle.raw_tree.specs.declared.tree.RawSpot.{RawSpot}
use Rattle.raw_tree.specs.declared.tree.RawSpot.TheVariants as spot
use Rattle.raw_tree.specs.declared.tree.RawExpr.{RawExpr}
use Rattle.raw_tree.specs.declared.tree.RawExprKind.{RawExprKind}
use Rattle.raw_tree.specs.declared.tree.RawExprKind.TheVariants as e
use Rattle.raw_tree.specs.Level.{Tokens, Level, Post, Tight, Cond, Whole, joins_mark, is_prefix, is_step, bytes_of}

-- a node, and a name, with the place of its first token
abbrev pub node : Place → RawExprKind → RawExpr
node p k = record { at = p; kind = k }

abbrev pub name_of : List ℕ → Token → RawName
name_of source t = record { at = t.place; bytes = bytes_of source t }

mutual
  -- a place, and the nesting of its index
  pub data SpellsSpot (source : List ℕ) : ℕ → RawSpot → Place → Tokens → Type 0 where
    name : (t : Token) → t.kind ≡ kind.Name → SpellsSpot source 0 (spot.Name (name_of source t)) t.place (t ∷ [])
    element : (t o c : Token) {n : ℕ} {index : RawExpr} {x : Tokens} →
        t.kind ≡ kind.Name → o.kind ≡ kind.Mark m.OpenSquare → Spells source n Whole index x → c.kind ≡ kind.Mark m.CloseSquare →
        SpellsSpot source n (spot.Element (name_of source t) index) t.place (t ∷ o ∷ (x ++ c ∷ []))

  pub data Spells (source : List ℕ) : ℕ → Level → RawExpr → Tokens → Type 0 where
    number : (t : Token) {v : ℕ} → t.kind ≡ kind.Number v → Spells source 1 Post (node t.place (e.Number v)) (t ∷ [])
    dollar : (t : Token) → t.kind ≡ kind.Mark m.Dollar → Spells source 1 Post (node t.place e.Dollar) (t ∷ [])
    brackets : (o c : Token) {n : ℕ} {a : RawExpr} {x : Tokens} →
        o.kind ≡ kind.Mark m.OpenRound → Spells source n Whole a x → c.kind ≡ kind.Mark m.CloseRound →
        Spells source (suc n) Post (node o.place (e.Brackets a)) (o ∷ (x ++ c ∷ []))
    call : (t o c : Token) {n : ℕ} {values : List RawExpr} {x : Tokens} →
        t.kind ≡ kind.Name → o.kind ≡ kind.Mark m.OpenRound → SpellsValues source n values x → c.kind ≡ kind.Mark m.CloseRound →
        Spells source (suc n) Post (node t.place (e.Call (name_of source t) values)) (t ∷ o ∷ (x ++ c ∷ []))
    read : {n : ℕ} {s : RawSpot} {p : Place} {x : Tokens} → SpellsSpot source n s p x → Spells source (suc n) Post (node p (e.Read s)) x
    step_after : (t : Token) {m : Mark} {n : ℕ} {s : RawSpot} {p : Place} {x : Tokens} →
        SpellsSpot source n s p x → t.kind ≡ kind.Mark m → is_step m ≡ true → Spells source (suc n) Post (node p (e.StepAfter s m)) (x ++ t ∷ [])
    step_before : (t : Token) {m : Mark} {n : ℕ} {s : RawSpot} {p : Place} {x : Tokens} →
        t.kind ≡ kind.Mark m → is_step m ≡ true → SpellsSpot source n s p x → Spells source (suc n) (Tight 0) (node t.place (e.StepBefore m s)) (t ∷ x)
    prefix : (t : Token) {m : Mark} {n : ℕ} {a : RawExpr} {x : Tokens} →
        t.kind ≡ kind.Mark m → is_prefix m ≡ true → Spells source n (Tight 0) a x → Spells source (suc n) (Tight 0) (node t.place (e.Prefix m a)) (t ∷ x)
    -- a binary mark: on its left what its own level spells, on its right what the next tighter one spells
    binary : (t : Token) {m : Mark} {i j k : ℕ} {a b : RawExpr} {x y : Tokens} →
        Spells source i (Tight (suc k)) a x → t.kind ≡ kind.Mark m → joins_mark m ≡ suc (suc k) → Spells source j (Tight k) b y →
        Spells source (suc (max i j)) (Tight (suc k)) (node a.at (e.Binary m a b)) (x ++ t ∷ y)
    choose : (t u : Token) {i j k : ℕ} {a b c : RawExpr} {x y z : Tokens} →
        Spells source i (Tight 10) a x → t.kind ≡ kind.Mark m.Question → Spells source j Whole b y → u.kind ≡ kind.Mark m.Colon → Spells source k Cond c z →
        Spells source (suc (max i (max j k))) Cond (node a.at (e.Choose a b c)) (x ++ t ∷ (y ++ u ∷ z))
    assign : (t : Token) {m : Mark} {i j : ℕ} {s : RawSpot} {p : Place} {b : RawExpr} {x y : Tokens} →
        SpellsSpot source i s p x → t.kind ≡ kind.Mark m → joins_mark m ≡ 13 → Spells source j Whole b y →
        Spells source (suc (max i j)) Whole (node p (e.Assign s m b)) (x ++ t ∷ y)
    -- what a tighter level spells, the next looser one spells
    as_unary : {n : ℕ} {a : RawExpr} {x : Tokens} → Spells source n Post a x → Spells source n (Tight 0) a x
    as_binary : {n k : ℕ} {a : RawExpr} {x : Tokens} → Spells source n (Tight k) a x → Spells source n (Tight (suc k)) a x
    as_cond : {n : ℕ} {a : RawExpr} {x : Tokens} → Spells source n (Tight 10) a x → Spells source n Cond a x
    as_expr : {n : ℕ} {a : RawExpr} {x : Tokens} → Spells source n Cond a x → Spells source n Whole a x

  -- the values of a call, parted by commas
  pub data SpellsValues (source : List ℕ) : ℕ → List RawExpr → Tokens → Type 0 where
    no_values_between : SpellsValues source 0 [] []
    values_between : {n : ℕ} {values : List RawExpr} {x : Tokens} → SpellsList source n values x → SpellsValues source n values x

  pub data SpellsList (source : List ℕ) : ℕ → List RawExpr → Tokens → Type 0 where
    last_value : {n : ℕ} {a : RawExpr} {x : Tokens} → Spells source n Whole a x → SpellsList source n (a ∷ []) x
    more_values : (t : Token) {i j : ℕ} {a : RawExpr} {rest : List RawExpr} {x y : Tokens} →
        Spells source i Whole a x → t.kind ≡ kind.Mark m.Comma → SpellsList source j rest y → SpellsList source (max i j) (a ∷ rest) (x ++ t ∷ y)
