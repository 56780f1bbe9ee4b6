-- Reading an expression from the front of some tokens: a tree, its nesting, and the tokens behind it.
-- Depth bounds the nesting, and how deep the reading goes.
use Rattle.std.specs.Prelude.{ℕ, zero, suc, pred, max, length, Bool, true, false, ◌==◌, nat_lt, if◌then◌else◌, List, [], ◌∷◌, ◌++◌, Option, Some, None}
use Rattle.xmt_base.specs.declared.Place.{Place}
use Rattle.xmt_lex.specs.declared.Token.{Token}
use Rattle.xmt_lex.specs.declared.TokenKind.{TokenKind}
use Rattle.xmt_lex.specs.declared.TokenKind.TheVariants as kind
use Rattle.xmt_lex.specs.declared.kinds.Mark.{Mark}
use Rattle.xmt_lex.specs.declared.kinds.Mark.TheVariants as m
use Rattle.raw_tree.specs.declared.tree.RawName.{RawName}
use Rattle.raw_tree.specs.declared.tree.RawSpot.{RawSpot}
use Rattle.raw_tree.specs.declared.tree.RawSpot.TheVariants as spot
use Rattle.raw_tree.specs.declared.tree.RawExpr.{RawExpr}
use Rattle.raw_tree.specs.declared.tree.RawExprKind.{RawExprKind}
use Rattle.raw_tree.specs.declared.tree.RawExprKind.TheVariants as e
use Rattle.raw_tree.specs.Level.{Tokens, joins, Level, Post, Tight, Cond, Whole, is_prefix, is_step}
use Rattle.raw_tree.specs.Grammar.{node, name_of}

-- what was read, its nesting, and the tokens behind it
pub record Got (A : Type 0) : Type 0 where
  pub tree : A
  pub nest : ℕ
  pub rest : Tokens

abbrev pub ReaderOf : Type 0 → Type 0
ReaderOf A = Tokens → Option (Got A)

abbrev pub GotExpr : Type 0
GotExpr = Got RawExpr

abbrev pub GotSpot : Type 0
GotSpot = Got RawSpot

abbrev pub Reader : Type 0
Reader = Tokens → Option GotExpr

abbrev pub got : {A : Type 0} → A → ℕ → Tokens → Option (Got A)
got a n ts = Some (record { tree = a; nest = n; rest = ts })

-- the mark of a token
abbrev pub mark_of : TokenKind → Mark
mark_of (kind.Mark m) = m
mark_of _ = m.Comma

abbrev pub open_square : TokenKind → Bool
open_square (kind.Mark m.OpenSquare) = true
open_square _ = false

abbrev pub close_square : TokenKind → Bool
close_square (kind.Mark m.CloseSquare) = true
close_square _ = false

abbrev pub close_round : TokenKind → Bool
close_round (kind.Mark m.CloseRound) = true
close_round _ = false

abbrev pub open_round : TokenKind → Bool
open_round (kind.Mark m.OpenRound) = true
open_round _ = false

abbrev pub comma : TokenKind → Bool
comma (kind.Mark m.Comma) = true
comma _ = false

abbrev pub colon : TokenKind → Bool
colon (kind.Mark m.Colon) = true
colon _ = false

abbrev pub bracketed : Place → RawExpr → ℕ → Tokens → Option GotExpr
bracketed p a n [] = None
bracketed p a n (c ∷ ts) = if close_round c.kind then got (node p (e.Brackets a)) (suc n) ts else None

abbrev pub in_brackets : Place → Option GotExpr → Option GotExpr
in_brackets p None = None
in_brackets p (Some g) = bracketed p g.tree g.nest g.rest

-- a place, the nesting of its index, and the tokens behind it
abbrev pub indexed_close : RawName → RawExpr → ℕ → Tokens → Option GotSpot
indexed_close name a n [] = None
indexed_close name a n (c ∷ ts) = if close_square c.kind then got (spot.Element name a) n ts else None

abbrev pub indexed : RawName → Option GotExpr → Option GotSpot
indexed name None = None
indexed name (Some g) = indexed_close name g.tree g.nest g.rest

-- what stands behind a name
abbrev pub read_spot : Reader → RawName → Tokens → Option GotSpot
read_spot whole name [] = got (spot.Name name) 0 []
read_spot whole name (o ∷ ts) = if open_square o.kind then indexed name (whole ts) else got (spot.Name name) 0 (o ∷ ts)

abbrev pub is_step_kind : TokenKind → Bool
is_step_kind (kind.Mark m) = is_step m
is_step_kind _ = false

-- a place, or a place and a step behind it
abbrev pub stepped : Place → RawSpot → ℕ → Tokens → Option GotExpr
stepped p s n [] = got (node p (e.Read s)) (suc n) []
stepped p s n (t ∷ ts) = if is_step_kind t.kind then got (node p (e.StepAfter s (mark_of t.kind))) (suc n) ts else got (node p (e.Read s)) (suc n) (t ∷ ts)

abbrev pub stepped_behind : Place → Option GotSpot → Option GotExpr
stepped_behind p None = None
stepped_behind p (Some g) = stepped p g.tree g.nest g.rest

-- the tokens behind one that passes
abbrev pub past : (TokenKind → Bool) → Tokens → Option Tokens
past test [] = None
past test (t ∷ ts) = if test t.kind then Some ts else None

-- one more of a list, and what stands behind it
abbrev pub parted_on : {A : Type 0} → (List A → ℕ → Tokens → Option (Got (List A))) → List A → ℕ → Tokens → Option Tokens → Option (Got (List A))
parted_on more done n ts None = got done n ts
parted_on more done n ts (Some us) = more done n us

abbrev pub parted_step : {A : Type 0} → (List A → ℕ → Tokens → Option (Got (List A))) → List A → ℕ → Option (Got A) → Option (Got (List A))
parted_step more done n None = None
parted_step more done n (Some g) = parted_on more (done ++ g.tree ∷ []) (max n g.nest) g.rest (past comma g.rest)

-- One or more parted by commas, behind those that are done. There are at most as many commas as tokens.
unfoldable pub parted : {A : Type 0} → ReaderOf A → (turns : ℕ) → List A → ℕ → Tokens → Option (Got (List A))
parted one zero done n ts = parted_step (λ all k us. None) done n (one ts)
parted one (suc turns) done n ts = parted_step (parted one turns) done n (one ts)

abbrev pub read_parted : {A : Type 0} → ReaderOf A → ReaderOf (List A)
read_parted one ts = parted one (length ts) [] 0 ts

-- the values of a call behind its `(`, up to and with the `)`
abbrev pub values_close : List RawExpr → ℕ → Tokens → Option (Got (List RawExpr))
values_close values n [] = None
values_close values n (c ∷ ts) = if close_round c.kind then got values n ts else None

abbrev pub values_behind : Option (Got (List RawExpr)) → Option (Got (List RawExpr))
values_behind None = None
values_behind (Some g) = values_close g.tree g.nest g.rest

abbrev pub read_values : Reader → ReaderOf (List RawExpr)
read_values whole [] = None
read_values whole (t ∷ ts) = if close_round t.kind then got [] 0 ts else values_behind (read_parted whole (t ∷ ts))

abbrev pub called : Place → RawName → Option (Got (List RawExpr)) → Option GotExpr
called p name None = None
called p name (Some g) = got (node p (e.Call name g.tree)) (suc g.nest) g.rest

-- behind a name: a call, or a place
abbrev pub named : (source : List ℕ) → Reader → Token → Tokens → Option GotExpr
named source whole t [] = stepped_behind t.place (read_spot whole (name_of source t) [])
named source whole t (o ∷ ts) =
    if open_round o.kind then called t.place (name_of source t) (read_values whole ts)
    else stepped_behind t.place (read_spot whole (name_of source t) (o ∷ ts))

-- what a token begins, alone or with an expression in brackets; whole reads at one depth less
abbrev pub begun : (source : List ℕ) → Reader → Token → TokenKind → Tokens → Option GotExpr
begun source whole t (kind.Number v) ts = got (node t.place (e.Number v)) 1 ts
begun source whole t kind.Name ts = named source whole t ts
begun source whole t (kind.Mark m.Dollar) ts = got (node t.place e.Dollar) 1 ts
begun source whole t (kind.Mark m.OpenRound) ts = in_brackets t.place (whole ts)
begun source whole t _ ts = None

abbrev pub read_post : (source : List ℕ) → Reader → Reader
read_post source whole [] = None
read_post source whole (t ∷ ts) = begun source whole t t.kind ts

abbrev pub prefixed : Place → Mark → Option GotExpr → Option GotExpr
prefixed p m None = None
prefixed p m (Some g) = got (node p (e.Prefix m g.tree)) (suc g.nest) g.rest

abbrev pub stepped_before : Place → Mark → Option GotSpot → Option GotExpr
stepped_before p m None = None
stepped_before p m (Some g) = got (node p (e.StepBefore m g.tree)) (suc g.nest) g.rest

-- the place behind a step
abbrev pub step_spot : (source : List ℕ) → Reader → Token → TokenKind → Tokens → Option GotSpot
step_spot source whole t kind.Name ts = read_spot whole (name_of source t) ts
step_spot source whole t _ ts = None

abbrev pub step_place : (source : List ℕ) → Reader → Tokens → Option GotSpot
step_place source whole [] = None
step_place source whole (t ∷ ts) = step_spot source whole t t.kind ts

-- a unary mark and its operand, or a post; inner reads a unary at one depth less
abbrev pub marked : (source : List ℕ) → Reader → Reader → Token → Mark → Tokens → Option GotExpr
marked source whole inner t m ts =
    if is_prefix m then prefixed t.place m (inner ts)
    else (if is_step m then stepped_before t.place m (step_place source whole ts)
    else begun source whole t (kind.Mark m) ts)

abbrev pub unary_begun : (source : List ℕ) → Reader → Reader → Token → TokenKind → Tokens → Option GotExpr
unary_begun source whole inner t (kind.Mark m) ts = marked source whole inner t m ts
unary_begun source whole inner t k ts = begun source whole t k ts

abbrev pub read_unary : (source : List ℕ) → Reader → Reader → Reader
read_unary source whole inner [] = None
read_unary source whole inner (t ∷ ts) = unary_begun source whole inner t t.kind ts

-- Goes on with the marks of level l behind a tree. Each mark makes the nesting greater, so depth many turns are enough.
unfoldable pub chain : (depth l : ℕ) → Reader → ℕ → RawExpr → ℕ → Tokens → Option GotExpr
chain depth l operand turns a n [] = got a n []
chain depth l operand zero a n (t ∷ ts) = if joins t.kind == l then None else got a n (t ∷ ts)
chain depth l operand (suc turns) a n (t ∷ ts) =
    if joins t.kind == l
    then elim (operand ts) [
      | None ↦ None
      | Some g ↦ elim (nat_lt (max n g.nest) depth) [
        | true ↦ chain depth l operand turns (node a.at (e.Binary (mark_of t.kind) a g.tree)) (suc (max n g.nest)) g.rest
        | false ↦ None
      ]
    ]
    else got a n (t ∷ ts)

abbrev pub chained : (depth l : ℕ) → Reader → Option GotExpr → Option GotExpr
chained depth l operand None = None
chained depth l operand (Some g) = chain depth l operand depth g.tree g.nest g.rest

-- the levels from a unary to `||`
unfoldable pub read_binary : (depth : ℕ) → Reader → ℕ → Reader
read_binary depth read_tight zero ts = read_tight ts
read_binary depth read_tight (suc k) ts = chained depth (suc (suc k)) (read_binary depth read_tight k) (read_binary depth read_tight k ts)

-- `? :` behind a test; whole and last read at one depth less
abbrev pub chosen_last : (depth : ℕ) → RawExpr → ℕ → RawExpr → ℕ → Option GotExpr → Option GotExpr
chosen_last depth a n b k None = None
chosen_last depth a n b k (Some g) = got (node a.at (e.Choose a b g.tree)) (suc (max n (max k g.nest))) g.rest

abbrev pub chosen_colon : (depth : ℕ) → Reader → RawExpr → ℕ → RawExpr → ℕ → Tokens → Option GotExpr
chosen_colon depth last a n b k [] = None
chosen_colon depth last a n b k (t ∷ ts) = if colon t.kind then chosen_last depth a n b k (last ts) else None

abbrev pub chosen_middle : (depth : ℕ) → Reader → RawExpr → ℕ → Option GotExpr → Option GotExpr
chosen_middle depth last a n None = None
chosen_middle depth last a n (Some g) = chosen_colon depth last a n g.tree g.nest g.rest

abbrev pub chosen : (depth : ℕ) → Reader → Reader → RawExpr → ℕ → Tokens → Option GotExpr
chosen depth whole last a n [] = got a n []
chosen depth whole last a n (t ∷ ts) =
    if joins t.kind == 12 then (if nat_lt n depth then chosen_middle depth last a n (whole ts) else None) else got a n (t ∷ ts)

abbrev pub chosen_behind : (depth : ℕ) → Reader → Reader → Option GotExpr → Option GotExpr
chosen_behind depth whole last None = None
chosen_behind depth whole last (Some g) = chosen depth whole last g.tree g.nest g.rest

-- an assignment behind a place
abbrev pub assigned_value : (depth : ℕ) → Place → RawSpot → Mark → ℕ → Option GotExpr → Option GotExpr
assigned_value depth p s m n None = None
assigned_value depth p s m n (Some g) = got (node p (e.Assign s m g.tree)) (suc (max (pred n) g.nest)) g.rest

abbrev pub assigned_kind : (depth : ℕ) → Reader → Place → RawExprKind → Mark → ℕ → Tokens → Option GotExpr
assigned_kind depth whole p (e.Read s) m n ts = assigned_value depth p s m n (whole ts)
assigned_kind depth whole p _ m n ts = None

abbrev pub assigned : (depth : ℕ) → Reader → RawExpr → ℕ → Tokens → Option GotExpr
assigned depth whole a n [] = got a n []
assigned depth whole a n (t ∷ ts) =
    if joins t.kind == 13 then assigned_kind depth whole a.at a.kind (mark_of t.kind) n ts else got a n (t ∷ ts)

abbrev pub assigned_behind : (depth : ℕ) → Reader → Option GotExpr → Option GotExpr
assigned_behind depth whole None = None
assigned_behind depth whole (Some g) = assigned depth whole g.tree g.nest g.rest

-- the readers of one depth
pub record Readers : Type 0 where
  pub of_unary : Reader
  pub of_cond : Reader
  pub of_expr : Reader

abbrev pub read_or : (source : List ℕ) (depth : ℕ) → Readers → Reader
read_or source depth r = read_binary depth (read_unary source r.of_expr r.of_unary) 10

abbrev pub read_cond : (source : List ℕ) (depth : ℕ) → Readers → Reader
read_cond source depth r ts = chosen_behind depth r.of_expr r.of_cond (read_or source depth r ts)

abbrev pub read_expr : (source : List ℕ) (depth : ℕ) → Readers → Reader
read_expr source depth r ts = assigned_behind depth r.of_expr (read_cond source depth r ts)

unfoldable pub readers : (source : List ℕ) (depth : ℕ) → Readers
readers source zero = record { of_unary = λ ts. None; of_cond = λ ts. None; of_expr = λ ts. None }
readers source (suc d) =
    record {
      of_unary = read_unary source (readers source d).of_expr (readers source d).of_unary;
      of_cond = read_cond source (suc d) (readers source d);
      of_expr = read_expr source (suc d) (readers source d);
    }

-- an expression of nesting at most depth
abbrev pub expression : (source : List ℕ) (depth : ℕ) → Reader
expression source depth = (readers source depth).of_expr

-- the reader of a level, at a depth of d + 1
abbrev pub read_at : (source : List ℕ) (d : ℕ) → Level → Reader
read_at source d Post = read_post source (readers source d).of_expr
read_at source d (Tight k) = read_binary (suc d) (read_unary source (readers source d).of_expr (readers source d).of_unary) k
read_at source d Cond = read_cond source (suc d) (readers source d)
read_at source d Whole = read_expr source (suc d) (readers source d)
