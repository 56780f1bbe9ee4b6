-- What a thin source spells by the grammar of the whole language.
use Rattle.std.proofs.Common.{◌≡◌, inl, inr, ℕ, suc, ◌+◌, ◌≤◌, max, false, List, [], ◌∷◌, ◌++◌, append_assoc, refl, sym, ap, ◌∙◌, subst, arith}
use Rattle.std.proofs.lemmas.List.{map-append}
use Rattle.xmt_base.specs.declared.values.Place.{Place}
use Rattle.xmt_base.specs.declared.operators.BinOp.{BinOp}
use Rattle.source_meaning.specs.declared.tree.Spot.{Spot}
use Rattle.source_meaning.specs.declared.tree.Expr.{Expr}
use Rattle.source_meaning.specs.declared.tree.ExprKind.TheVariants as e
use Rattle.source_meaning.specs.declared.tree.Stmt.{Stmt}
use Rattle.thin_source.specs.Tokens.{Text, name_kind}
use Rattle.thin_source.specs.Names as thin_names
use Rattle.thin_source.specs.Names.{within_block}
use Rattle.thin_source.specs.Grammar as thin
use Rattle.thin_source.specs.Statements as code
use Rattle.xmt_lex.specs.declared.TokenKind.TheVariants as kind
use Rattle.xmt_lex.specs.declared.kinds.Mark.{Mark}
use Rattle.xmt_lex.specs.declared.kinds.Mark.TheVariants as m
use Rattle.raw_tree.specs.declared.tree.RawSpot.{RawSpot}
use Rattle.raw_tree.specs.declared.tree.RawExpr.{RawExpr}
use Rattle.raw_tree.specs.declared.tree.RawStmt.{RawStmt}
use Rattle.raw_tree.specs.declared.tree.RawStmtKind.TheVariants as kinds
use Rattle.raw_tree.specs.Level.{Tokens, Level, Post, Tight, Whole, joins_mark}
use Rattle.raw_tree.specs.Grammar as raw
use Rattle.raw_tree.specs.Statements as stmt
use Rattle.thin_law.proofs.SameTokens.{Token, is_text, whole_kind, whole_token, whole_tokens}
use Rattle.thin_law.proofs.Parts.{product_kind, product_mark, sum_mark}
use Rattle.thin_law.proofs.MainWord.{AreSpelled, spelled_parts, text_bytes}
use Rattle.thin_law.proofs.Trees.{IsMark, OfSpot, scalar, element, OfExpr, number, dollar, read, brackets, binary, OfStmt, assignment, print, spawn, OfStmts, no_more, one_more, together}

-- the level of the whole grammar at which a thin level is
abbrev level_of : thin.Level → Level
level_of thin.Atom = Post
level_of thin.Product = Tight 1
level_of thin.Sum = Tight 2

-- thin tokens as an expression, and as a place, of the whole language
pub record IsExpr (c : thin_names.Context) (n nodes : ℕ) (l : Level) (a : Expr) (x : thin.Tokens) : Type 0 where
  pub tree : RawExpr
  pub spelled : raw.Spells c.source n l tree (whole_tokens x)
  pub belongs : OfExpr c.globals n nodes a tree

pub record IsSpot (c : thin_names.Context) (n nodes : ℕ) (a : Spot) (p : Place) (x : thin.Tokens) : Type 0 where
  pub spot : RawSpot
  pub spelled : raw.SpellsSpot c.source n spot p (whole_tokens x)
  pub belongs : OfSpot c.globals n nodes a p spot

pub cut : (x : thin.Tokens) (t : Token) (y : thin.Tokens) → whole_tokens (x ++ t ∷ y) ≡ whole_tokens x ++ whole_token t ∷ whole_tokens y
cut x t y = map-append whole_token x (t ∷ y)

module _ (source : Text) where
  -- what a sum is, any expression is
  pub up_to_ten : {n : ℕ} {a : RawExpr} {x : Tokens} → raw.Spells source n (Tight 2) a x → raw.Spells source n (Tight 10) a x
  up_to_ten sum = raw.as_binary (raw.as_binary (raw.as_binary (raw.as_binary (raw.as_binary (raw.as_binary (raw.as_binary (raw.as_binary sum)))))))

  whole_of : {n : ℕ} {a : RawExpr} {x : Tokens} → raw.Spells source n (Tight 2) a x → raw.Spells source n Whole a x
  whole_of sum = raw.as_expr (raw.as_cond (up_to_ten sum))

module _ (c : thin_names.Context) where
  -- what tokens spell, thin tokens spell that are the same
  expr_of : {n nodes : ℕ} {l : Level} {a : Expr} {r : RawExpr} {us : Tokens} (x : thin.Tokens) → whole_tokens x ≡ us → raw.Spells c.source n l r us → OfExpr c.globals n nodes a r → IsExpr c n nodes l a x
  expr_of {n = n} {l = l} {r = r} x same d belongs = record { tree = r; spelled = subst (raw.Spells c.source n l r) (sym same) d; belongs = belongs }

  spot_of : {n nodes : ℕ} {a : Spot} {p : Place} {r : RawSpot} {us : Tokens} (x : thin.Tokens) → whole_tokens x ≡ us → raw.SpellsSpot c.source n r p us → OfSpot c.globals n nodes a p r → IsSpot c n nodes a p x
  spot_of {n = n} {p = p} {r = r} x same d belongs = record { spot = r; spelled = subst (raw.SpellsSpot c.source n r p) (sym same) d; belongs = belongs }

  joined : (t : Token) (o : BinOp) (mark : Mark) (level : ℕ) {i j k l : ℕ} {a b : Expr} {x y : thin.Tokens} → whole_kind t.kind ≡ kind.Mark mark → joins_mark mark ≡ suc (suc level) → IsMark o mark →
      IsExpr c i k (Tight (suc level)) a x → IsExpr c j l (Tight level) b y → IsExpr c (suc (max i j)) (suc (k + l)) (Tight (suc level)) (thin.node a.at (e.Binary o a b)) (x ++ t ∷ y)
  joined t o mark level {x = x} {y = y} is joins of left right = expr_of (x ++ t ∷ y) (cut x t y) (raw.binary (whole_token t) left.spelled is joins right.spelled) (binary left.belongs of right.belongs)

  as_unary : {n nodes : ℕ} {a : Expr} {x : thin.Tokens} → IsExpr c n nodes Post a x → IsExpr c n nodes (Tight 0) a x
  as_unary {n = n} e = record { tree = e.tree; spelled = raw.as_unary e.spelled; belongs = e.belongs }

  mutual
    unfolding name_kind

    spot_is : {n nodes : ℕ} {s : Spot} {p : Place} {x : thin.Tokens} → thin.SpellsSpot c n nodes s p x → IsSpot c n nodes s p x
    spot_is (thin.scalar t k there) = spot_of (t ∷ []) refl (raw.name (whole_token t) (ap whole_kind k)) (scalar (raw.name_of c.source (whole_token t)) there)
    spot_is (thin.element t o u {x = x} k there ko index kc) =
        let value = value_is index in
        spot_of (t ∷ o ∷ (x ++ u ∷ [])) (ap (λ (us : Tokens). whole_token t ∷ whole_token o ∷ us) (cut x u []))
        (raw.element (whole_token t) (whole_token o) (whole_token u) (ap whole_kind k) (ap whole_kind ko) (whole_of c.source value.spelled) (ap whole_kind kc))
        (element (raw.name_of c.source (whole_token t)) there value.belongs)

    value_is : {n nodes : ℕ} {l : thin.Level} {a : Expr} {x : thin.Tokens} → thin.Spells c n nodes l a x → IsExpr c n nodes (level_of l) a x
    value_is (thin.number t {v = v} k) = expr_of (t ∷ []) refl (raw.number (whole_token t) (ap whole_kind k)) (number t.place v)
    value_is (thin.dollar t k inside) = expr_of (t ∷ []) refl (raw.dollar (whole_token t) (ap whole_kind k)) (dollar t.place)
    value_is (thin.read {x = x} spot) = let place = spot_is spot in expr_of x refl (raw.read place.spelled) (read place.belongs)
    value_is (thin.brackets o u {x = x} ko inner kc) =
        let value = value_is inner in
        expr_of (o ∷ (x ++ u ∷ [])) (ap (λ (us : Tokens). whole_token o ∷ us) (cut x u []))
        (raw.brackets (whole_token o) (whole_token u) (ap whole_kind ko) (whole_of c.source value.spelled) (ap whole_kind kc)) (brackets o.place value.belongs)
    value_is (thin.product t {o = o} left is right) = joined t o m.Star 0 (product_kind t.kind o is) refl (product_mark t.kind o is) (value_is left) (as_unary (value_is right))
    value_is (thin.sum t {o = o} left is right) =
        let first = value_is left in
        let second = value_is right in
        elim (sum_mark t.kind o is) [
          | inl plus ↦ joined t o m.Plus 1 plus.0 refl plus.1 first second
          | inr minus ↦ joined t o m.Minus 1 minus.0 refl minus.1 first second
        ]
    value_is (thin.as_product {x = x} inner) = let value = value_is inner in expr_of x refl (raw.as_binary (raw.as_unary value.spelled)) value.belongs
    value_is (thin.as_sum {x = x} inner) = let value = value_is inner in expr_of x refl (raw.as_binary value.spelled) value.belongs

-- ---- statements

-- thin tokens as a statement, and as statements, of the whole language
pub record IsStmt (c : thin_names.Context) (n nodes : ℕ) (s : Stmt) (x : thin.Tokens) : Type 0 where
  pub tree : RawStmt
  pub spelled : stmt.SpellsStmt c.source false n tree (whole_tokens x)
  pub belongs : n ≤ 200 → AreSpelled c.source x → OfStmt c.globals nodes s tree

pub record IsBody (c : thin_names.Context) (n nodes : ℕ) (body : List Stmt) (x : thin.Tokens) : Type 0 where
  pub trees : List RawStmt
  pub spelled : stmt.SpellsBody c.source n trees (whole_tokens x)
  pub belongs : n ≤ 200 → AreSpelled c.source x → OfStmts c.globals nodes body trees

module _ (c : thin_names.Context) where
  stmt_of : {n nodes : ℕ} {s : Stmt} {r : RawStmt} {us : Tokens} (x : thin.Tokens) → whole_tokens x ≡ us → stmt.SpellsStmt c.source false n r us → (n ≤ 200 → AreSpelled c.source x → OfStmt c.globals nodes s r) → IsStmt c n nodes s x
  stmt_of {n = n} {r = r} x same d belongs = record { tree = r; spelled = subst (stmt.SpellsStmt c.source false n r) (sym same) d; belongs = belongs }

  body_of : {n nodes : ℕ} {body : List Stmt} {trees : List RawStmt} {us : Tokens} (x : thin.Tokens) → whole_tokens x ≡ us → stmt.SpellsBody c.source n trees us → (n ≤ 200 → AreSpelled c.source x → OfStmts c.globals nodes body trees) → IsBody c n nodes body x
  body_of {n = n} {trees = trees} x same d belongs = record { trees = trees; spelled = subst (stmt.SpellsBody c.source n trees) (sym same) d; belongs = belongs }

  statement_is : {n nodes : ℕ} {s : Stmt} {x : thin.Tokens} → code.SpellsStmt c n nodes s x → IsStmt c n nodes s x
  unfolding name_kind
  statement_is (code.assignment equals semicolon {i = i} {j = j} {x = x} {y = y} spot ke value ks) =
      let target = spot_is c spot in
      let written = value_is c value in
      stmt_of (x ++ equals ∷ (y ++ semicolon ∷ []))
      (cut x equals (y ++ semicolon ∷ []) ∙ ap (λ (us : Tokens). whole_tokens x ++ whole_token equals ∷ us) (cut y semicolon []) ∙ sym (append_assoc (whole_tokens x) (whole_token equals ∷ whole_tokens y) (whole_token semicolon ∷ [])))
      (stmt.value (whole_token semicolon) (raw.assign (whole_token equals) target.spelled (ap whole_kind ke) refl (whole_of c.source written.spelled)) (ap whole_kind ks))
      (λ few are. assignment target.belongs written.belongs (omega (arith, few)) (omega (arith, few)))
  statement_is (code.print word o text comma u semicolon {n = n} {x = x} outside kw ko kt kc value kr ks) =
      let shown = value_is c value in
      stmt_of (word ∷ o ∷ text ∷ comma ∷ (x ++ u ∷ semicolon ∷ [])) (ap (λ (us : Tokens). whole_token word ∷ whole_token o ∷ whole_token text ∷ whole_token comma ∷ us) (cut x u (semicolon ∷ [])))
      (stmt.print (whole_token word) (whole_token o) (whole_token text) (whole_token u) (whole_token semicolon) (ap whole_kind kw) (ap whole_kind ko) (ap whole_kind kt)
      (stmt.values (whole_token comma) (ap whole_kind kc) (raw.last_value (whole_of c.source shown.spelled))) (ap whole_kind kr) (ap whole_kind ks))
      (λ few are. print word.place (stmt.text_of c.source (whole_token text)) (text_bytes c.source text are.1.1.0 (ap is_text kt)) shown.belongs (omega (arith, few)))

  statements_are : {n nodes : ℕ} {body : List Stmt} {x : thin.Tokens} → code.SpellsStmts c n nodes body x → IsBody c n nodes body x
  statements_are code.none = body_of [] refl stmt.no_more (λ few are. no_more)
  statements_are (code.more {i = i} {j = j} {x = x} {y = y} first rest) =
      let one = statement_is first in
      let others = statements_are rest in
      body_of (x ++ y) (map-append whole_token x y) (stmt.one_more one.spelled others.spelled)
      (λ few are. let parts = spelled_parts c.source x y are in one_more (one.belongs (omega (arith, few)) parts.0) (others.belongs (omega (arith, few)) parts.1))

module _ (c : thin_names.Context) where
  spawn_is : {n nodes : ℕ} {s : Stmt} {x : thin.Tokens} → code.SpellsSpawn c n nodes s x → IsStmt c n nodes s x
  unfolding name_kind
  spawn_is (code.spawn word o comma u brace closing {i = i} {j = j} {n = n} {x = x} {y = y} {z = z} kw ko low kc high kr kb block kz) =
      let first = value_is c low in
      let last = value_is c high in
      let inside = statements_are (within_block c) block in
      stmt_of c (word ∷ o ∷ (x ++ comma ∷ (y ++ u ∷ brace ∷ (z ++ closing ∷ []))))
      (ap (λ (us : Tokens). whole_token word ∷ whole_token o ∷ us)
      (cut x comma (y ++ u ∷ brace ∷ (z ++ closing ∷ [])) ∙ ap (λ (us : Tokens). whole_tokens x ++ whole_token comma ∷ us)
      (cut y u (brace ∷ (z ++ closing ∷ [])) ∙ ap (λ (us : Tokens). whole_tokens y ++ whole_token u ∷ whole_token brace ∷ us) (cut z closing []))))
      (stmt.spawn (whole_token word) (whole_token o) (whole_token comma) (whole_token u) (whole_token brace) (whole_token closing) (ap whole_kind kw) (ap whole_kind ko) (whole_of c.source first.spelled) (ap whole_kind kc)
      (whole_of c.source last.spelled) (ap whole_kind kr) (ap whole_kind kb) inside.spelled (ap whole_kind kz))
      (λ few are.
      let behind_low = (spelled_parts c.source x (comma ∷ (y ++ u ∷ brace ∷ (z ++ closing ∷ []))) are.1.1).1 in
      let behind_high = (spelled_parts c.source y (u ∷ brace ∷ (z ++ closing ∷ [])) behind_low.1).1 in
      spawn word.place first.belongs last.belongs (inside.belongs (omega (arith, few)) (spelled_parts c.source z (closing ∷ []) behind_high.1.1).0) (omega (arith, few)) (omega (arith, few)))

-- statements behind others
both : (source : Text) {i j : ℕ} {a b : List RawStmt} {x y : Tokens} → stmt.SpellsBody source i a x → stmt.SpellsBody source j b y → stmt.SpellsBody source (max i j) (a ++ b) (x ++ y)
both source {j = j} {b = b} {y = y} stmt.no_more second = let same : j ≡ max 0 j = omega arith in subst (λ (n : ℕ). stmt.SpellsBody source n b y) same second
both source {j = k} {b = b} {y = z} (stmt.one_declared {i = i} {j = j} {d = d} {rest = rest} {x = x} {y = y} first others) second =
    let same : max (suc i) (max j k) ≡ max (max (suc i) j) k = omega arith in
    let s : RawStmt = stmt.statement d.at (kinds.Decl d) in
    subst (λ (n : ℕ). stmt.SpellsBody source n (s ∷ (rest ++ b)) ((x ++ y) ++ z)) same
    (subst (stmt.SpellsBody source (max (suc i) (max j k)) (s ∷ (rest ++ b))) (sym (append_assoc x y z)) (stmt.one_declared first (both source others second)))
both source {j = k} {b = b} {y = z} (stmt.one_more {i = i} {j = j} {b = s} {rest = rest} {x = x} {y = y} first others) second =
    let same : max i (max j k) ≡ max (max i j) k = omega arith in
    subst (λ (n : ℕ). stmt.SpellsBody source n (s ∷ (rest ++ b)) ((x ++ y) ++ z)) same
    (subst (stmt.SpellsBody source (max i (max j k)) (s ∷ (rest ++ b))) (sym (append_assoc x y z)) (stmt.one_more first (both source others second)))

pub body_is : (c : thin_names.Context) {n nodes : ℕ} {body : List Stmt} {x : thin.Tokens} → code.SpellsBody c n nodes body x → IsBody c n nodes body x
body_is c (code.serial statements) = statements_are c statements
body_is c (code.parallel {i = i} {j = j} {n = n} {k = k} {l = l} {nodes = nodes} {before = before} {behind = behind} {s = s} {x = x} {y = y} {z = z} first_part block last_part) =
    let first = statements_are c first_part in
    let one = spawn_is c block in
    let last = statements_are c last_part in
    body_of c (x ++ (y ++ z)) (map-append whole_token x (y ++ z) ∙ ap (λ (us : Tokens). whole_tokens x ++ us) (map-append whole_token y z))
    (both c.source first.spelled (stmt.one_more one.spelled last.spelled))
    (λ few are.
    let parts = spelled_parts c.source x (y ++ z) are in
    let others = spelled_parts c.source y z parts.1 in
    let same : k + (l + nodes) ≡ k + l + nodes = omega arith in
    subst (λ (count : ℕ). OfStmts c.globals count (before ++ s ∷ behind) (first.trees ++ one.tree ∷ last.trees)) same
    (together (first.belongs (omega (arith, few)) parts.0) (one_more (one.belongs (omega (arith, few)) others.0) (last.belongs (omega (arith, few)) others.1))))
