-- What statements and items are spelled as. One constructor for each alternative of the grammar.
-- A declaration stands in a body or as the first part of a `for`, and is no statement.
-- A statement is open where an `else` behind it would belong to it; so an `else` stands only behind a statement that is not open.
use Rattle.std.specs.Prelude.{◌≡◌, ◌==◌, ◌-◌, ◌+◌, ℕ, suc, max, Bool, true, false, if◌then◌else◌, List, [], ◌∷◌, ◌++◌, Option, Some, None, slice_range}
use Rattle.xmt_base.specs.declared.Place.{Place}
use Rattle.xmt_lex.specs.declared.Token.{Token}
use Rattle.xmt_lex.specs.declared.TokenKind.TheVariants as kind
use Rattle.xmt_lex.specs.declared.kinds.Keyword.{Keyword}
use Rattle.xmt_lex.specs.declared.kinds.Keyword.TheVariants as k
use Rattle.xmt_lex.specs.declared.kinds.Mark.{Mark}
use Rattle.xmt_lex.specs.declared.kinds.Mark.TheVariants as m
use Rattle.raw_tree.specs.declared.tree.RawText.{RawText}
use Rattle.raw_tree.specs.declared.tree.RawSpot.{RawSpot}
use Rattle.raw_tree.specs.declared.tree.RawExpr.{RawExpr}
use Rattle.raw_tree.specs.declared.tree.Qualifier.{Qualifier}
use Rattle.raw_tree.specs.declared.tree.Qualifier.TheVariants as q
use Rattle.raw_tree.specs.declared.tree.RawType.{RawType}
use Rattle.raw_tree.specs.declared.tree.RawLocal.{RawLocal}
use Rattle.raw_tree.specs.declared.tree.RawDecl.{RawDecl}
use Rattle.raw_tree.specs.declared.tree.RawFirst.{RawFirst}
use Rattle.raw_tree.specs.declared.tree.RawFirst.TheVariants as first
use Rattle.raw_tree.specs.declared.tree.RawStmt.{RawStmt}
use Rattle.raw_tree.specs.declared.tree.RawStmtKind.{RawStmtKind}
use Rattle.raw_tree.specs.declared.tree.RawStmtKind.TheVariants as s
use Rattle.raw_tree.specs.Level.{Tokens, Level, Whole, Parted}
use Rattle.raw_tree.specs.Grammar.{name_of, Spells, SpellsSpot, SpellsList}

abbrev pub Key : Token → Keyword → Type 0
Key t w = t.kind ≡ kind.Keyword w

abbrev pub Is : Token → Mark → Type 0
Is t mark = t.kind ≡ kind.Mark mark

abbrev pub IsName : Token → Type 0
IsName t = t.kind ≡ kind.Name

-- the byte that an escape stands for
abbrev pub escaped : ℕ → ℕ
escaped b = if b == 110 then 10 else (if b == 116 then 9 else b)

abbrev pub unescaped : Bool → List ℕ → List ℕ
unescaped after [] = []
unescaped true (b ∷ bs) = escaped b ∷ unescaped false bs
unescaped false (b ∷ bs) = if b == 92 then unescaped true bs else b ∷ unescaped false bs

-- the bytes between the quotes
abbrev pub text_of : List ℕ → Token → RawText
text_of source t = record { at = t.place; bytes = unescaped false (slice_range source (t.start + 1) (t.end - 1)) }

abbrev pub statement : Place → RawStmtKind → RawStmt
statement p what = record { at = p; kind = what }

-- the words of a type before its `int`
pub data SpellsWords : List Qualifier → Tokens → Type 0 where
  done : (t : Token) → Key t k.Int → SpellsWords [] (t ∷ [])
  const : (t : Token) {words : List Qualifier} {x : Tokens} → Key t k.Const → SpellsWords words x → SpellsWords (q.Const ∷ words) (t ∷ x)
  volatile : (t : Token) {words : List Qualifier} {x : Tokens} → Key t k.Volatile → SpellsWords words x → SpellsWords (q.Volatile ∷ words) (t ∷ x)

pub data SpellsType : RawType → Tokens → Type 0 where
  words : (t : Token) {ws : List Qualifier} {x : Tokens} → SpellsWords ws (t ∷ x) → SpellsType (record { at = t.place; qualifiers = ws }) (t ∷ x)

module _ (source : List ℕ) where
  -- an opening value behind a `=`, or nothing
  pub data SpellsOpening (l : Level) : ℕ → Option RawExpr → Tokens → Type 0 where
    no_value : SpellsOpening l 0 None []
    a_value : (e : Token) {n : ℕ} {a : RawExpr} {x : Tokens} → Is e m.Equal → Spells source n l a x → SpellsOpening l n (Some a) (e ∷ x)

  -- an expression that may be left out
  pub data SpellsMaybe : ℕ → Option RawExpr → Tokens → Type 0 where
    nothing : SpellsMaybe 0 None []
    just : {n : ℕ} {a : RawExpr} {x : Tokens} → Spells source n Whole a x → SpellsMaybe n (Some a) x

  pub data SpellsLocal : ℕ → RawLocal → Tokens → Type 0 where
    local : (t : Token) {n : ℕ} {opening : Option RawExpr} {x : Tokens} → IsName t → SpellsOpening Whole n opening x → SpellsLocal n (record { name = name_of source t; value = opening }) (t ∷ x)

  pub data SpellsDecl : ℕ → RawDecl → Tokens → Type 0 where
    decl : (e : Token) {n : ℕ} {ty : RawType} {locals : List RawLocal} {x y : Tokens} → SpellsType ty x → Parted RawLocal SpellsLocal n locals y → Is e m.Semicolon →
        SpellsDecl n (record { at = ty.at; ty = ty; locals = locals }) (x ++ (y ++ e ∷ []))

  -- the first part of a `for`, with its semicolon; it is a statement of its own
  pub data SpellsFirst : ℕ → RawFirst → Tokens → Type 0 where
    first_decl : {n : ℕ} {d : RawDecl} {x : Tokens} → SpellsDecl n d x → SpellsFirst (suc n) (first.Decl d) x
    first_value : (e : Token) {n : ℕ} {a : RawExpr} {x : Tokens} → Spells source n Whole a x → Is e m.Semicolon → SpellsFirst (suc n) (first.Value (Some a)) (x ++ e ∷ [])
    first_nothing : (e : Token) → Is e m.Semicolon → SpellsFirst 0 (first.Value None) (e ∷ [])

  -- the values behind a text, each behind a comma
  pub data SpellsBehind : ℕ → List RawExpr → Tokens → Type 0 where
    end : SpellsBehind 0 [] []
    values : (t : Token) {n : ℕ} {all : List RawExpr} {x : Tokens} → Is t m.Comma → SpellsList source n all x → SpellsBehind n all (t ∷ x)

  mutual
    -- a statement, whether it is open, and its nesting
    pub data SpellsStmt : Bool → ℕ → RawStmt → Tokens → Type 0 where
      empty : (e : Token) → Is e m.Semicolon → SpellsStmt false 1 (statement e.place s.Empty) (e ∷ [])
      value : (e : Token) {n : ℕ} {a : RawExpr} {x : Tokens} → Spells source n Whole a x → Is e m.Semicolon → SpellsStmt false (suc n) (statement a.at (s.Value a)) (x ++ e ∷ [])
      block : (o c : Token) {n : ℕ} {body : List RawStmt} {x : Tokens} → Is o m.OpenCurly → SpellsBody n body x → Is c m.CloseCurly → SpellsStmt false (suc n) (statement o.place (s.Block body)) (o ∷ (x ++ c ∷ []))
      if_alone : (t o c : Token) {open_part : Bool} {i j : ℕ} {a : RawExpr} {b : RawStmt} {x y : Tokens} →
          Key t k.If → Is o m.OpenRound → Spells source i Whole a x → Is c m.CloseRound → SpellsStmt open_part j b y →
          SpellsStmt true (suc (max i j)) (statement t.place (s.If a b None)) (t ∷ o ∷ (x ++ c ∷ y))
      if_else : (t o c u : Token) {open_part : Bool} {i j n : ℕ} {a : RawExpr} {b d : RawStmt} {x y z : Tokens} →
          Key t k.If → Is o m.OpenRound → Spells source i Whole a x → Is c m.CloseRound → SpellsStmt false j b y → Key u k.Else → SpellsStmt open_part n d z →
          SpellsStmt open_part (suc (max i (max j n))) (statement t.place (s.If a b (Some d))) (t ∷ o ∷ (x ++ c ∷ (y ++ u ∷ z)))
      while : (t o c : Token) {open_part : Bool} {i j : ℕ} {a : RawExpr} {b : RawStmt} {x y : Tokens} →
          Key t k.While → Is o m.OpenRound → Spells source i Whole a x → Is c m.CloseRound → SpellsStmt open_part j b y →
          SpellsStmt open_part (suc (max i j)) (statement t.place (s.While a b)) (t ∷ o ∷ (x ++ c ∷ y))
      do_while : (t u o c e : Token) {open_part : Bool} {i j : ℕ} {a : RawExpr} {b : RawStmt} {x y : Tokens} →
          Key t k.Do → SpellsStmt open_part i b x → Key u k.While → Is o m.OpenRound → Spells source j Whole a y → Is c m.CloseRound → Is e m.Semicolon →
          SpellsStmt false (suc (max i j)) (statement t.place (s.Do b a)) (t ∷ (x ++ u ∷ o ∷ (y ++ c ∷ e ∷ [])))
      for : (t o e c : Token) {open_part : Bool} {h i j n : ℕ} {f : RawFirst} {test third : Option RawExpr} {b : RawStmt} {v x y z : Tokens} →
          Key t k.For → Is o m.OpenRound → SpellsFirst h f v → SpellsMaybe i test x → Is e m.Semicolon → SpellsMaybe j third y → Is c m.CloseRound → SpellsStmt open_part n b z →
          SpellsStmt open_part (suc (max h (max i (max j n)))) (statement t.place (s.For f test third b)) (t ∷ o ∷ (v ++ (x ++ e ∷ (y ++ c ∷ z))))
      break : (t e : Token) → Key t k.Break → Is e m.Semicolon → SpellsStmt false 1 (statement t.place s.Break) (t ∷ e ∷ [])
      continue : (t e : Token) → Key t k.Continue → Is e m.Semicolon → SpellsStmt false 1 (statement t.place s.Continue) (t ∷ e ∷ [])
      return : (t e : Token) {n : ℕ} {a : Option RawExpr} {x : Tokens} → Key t k.Return → SpellsMaybe n a x → Is e m.Semicolon → SpellsStmt false (suc n) (statement t.place (s.Return a)) (t ∷ (x ++ e ∷ []))
      spawn : (t o v c p q : Token) {i j n : ℕ} {low high : RawExpr} {body : List RawStmt} {x y z : Tokens} →
          Key t k.Spawn → Is o m.OpenRound → Spells source i Whole low x → Is v m.Comma → Spells source j Whole high y → Is c m.CloseRound → Is p m.OpenCurly → SpellsBody n body z → Is q m.CloseCurly →
          SpellsStmt false (suc (max i (max j n))) (statement t.place (s.Spawn low high body)) (t ∷ o ∷ (x ++ v ∷ (y ++ c ∷ p ∷ (z ++ q ∷ []))))
      ps : (t o a v b c e : Token) → Key t k.Ps → Is o m.OpenRound → IsName a → Is v m.Comma → IsName b → Is c m.CloseRound → Is e m.Semicolon →
          SpellsStmt false 1 (statement t.place (s.Ps (name_of source a) (name_of source b))) (t ∷ o ∷ a ∷ v ∷ b ∷ c ∷ e ∷ [])
      psm : (t o a v c e : Token) {n : ℕ} {place : RawSpot} {at : Place} {x : Tokens} → Key t k.Psm → Is o m.OpenRound → IsName a → Is v m.Comma → SpellsSpot source n place at x → Is c m.CloseRound → Is e m.Semicolon →
          SpellsStmt false (suc n) (statement t.place (s.Psm (name_of source a) place)) (t ∷ o ∷ a ∷ v ∷ (x ++ c ∷ e ∷ []))
      print : (t o a c e : Token) {n : ℕ} {all : List RawExpr} {x : Tokens} → Key t k.Printf → Is o m.OpenRound → a.kind ≡ kind.Text → SpellsBehind n all x → Is c m.CloseRound → Is e m.Semicolon →
          SpellsStmt false (suc n) (statement t.place (s.Print (text_of source a) all)) (t ∷ o ∷ a ∷ (x ++ c ∷ e ∷ []))

    -- declarations and statements one behind the other, and the greatest nesting
    pub data SpellsBody : ℕ → List RawStmt → Tokens → Type 0 where
      no_more : SpellsBody 0 [] []
      one_declared : {i j : ℕ} {d : RawDecl} {rest : List RawStmt} {x y : Tokens} → SpellsDecl i d x → SpellsBody j rest y → SpellsBody (max (suc i) j) (statement d.at (s.Decl d) ∷ rest) (x ++ y)
      one_more : {open_part : Bool} {i j : ℕ} {b : RawStmt} {rest : List RawStmt} {x y : Tokens} → SpellsStmt open_part i b x → SpellsBody j rest y → SpellsBody (max i j) (b ∷ rest) (x ++ y)
