-- The tokens of a thin source stand side by side as those of the whole language may.
use Rattle.std.proofs.Common.{◌≡◌, inl, inr, ℕ, true, List, [], ◌∷◌, ◌++◌, append-nil, refl, sym, ap, ◌∙◌, subst}
use Rattle.xmt_base.specs.declared.values.Place.{Place}
use Rattle.source_meaning.specs.declared.tree.Spot.{Spot}
use Rattle.source_meaning.specs.declared.tree.Expr.{Expr}
use Rattle.source_meaning.specs.declared.tree.Stmt.{Stmt}
use Rattle.source_meaning.specs.declared.tree.GlobalVar.{GlobalVar}
use Rattle.thin_source.specs.Tokens.{Text, name_kind}
use Rattle.thin_source.specs.Names.{Context, within_block}
use Rattle.thin_source.specs.Grammar.{Level, SpellsSpot, scalar, element, Spells, number, dollar, read, brackets, product, sum, as_product, as_sum}
use Rattle.thin_source.specs.Grammar as thin
use Rattle.thin_source.specs.Statements.{SpellsStmt, assignment, print, SpellsStmts, SpellsSpawn, spawn, SpellsBody, serial, parallel, SpellsGlobals, SpellsSource, whole}
use Rattle.thin_source.specs.Statements as code
use Rattle.xmt_lex.specs.declared.TokenKind.{TokenKind}
use Rattle.xmt_lex.specs.declared.TokenKind.TheVariants as kind
use Rattle.xmt_lex.specs.declared.kinds.Keyword.TheVariants as key
use Rattle.xmt_lex.specs.declared.kinds.Mark.{Mark}
use Rattle.xmt_lex.specs.declared.kinds.Mark.TheVariants as m
use Rattle.raw_tree.specs.Level.{Tokens}
use Rattle.thin_law.proofs.SameTokens.{Token, context_of, whole_kind, whole_token, whole_tokens}
use Rattle.thin_law.proofs.Linked.{is_mark_kind, begins_operand, FirstIs, MayStand, AreLinked}
use Rattle.thin_law.proofs.Parts.{over, beside, product_kind, sum_kind}

-- a token of some kind before others
linked_first : (t : Token) (k : TokenKind) (r : Tokens) → whole_kind t.kind ≡ k → MayStand k r → AreLinked r → AreLinked (whole_token t ∷ r)
linked_first t k r is stands linked = (subst (λ (q : TokenKind). MayStand q r) (sym is) stands, linked)

is_mark : (t : Token) (mark : Mark) → whole_kind t.kind ≡ kind.Mark mark → is_mark_kind (whole_kind t.kind) ≡ true
is_mark t mark is = ap is_mark_kind is

begins : (t : Token) (k : TokenKind) → whole_kind t.kind ≡ k → begins_operand k ≡ true → begins_operand (whole_kind t.kind) ≡ true
begins t k is h = ap begins_operand is ∙ h

-- tokens that begin with an operand, before a mark
pub record GoesOn (x : thin.Tokens) (r : Tokens) : Type 0 where
  pub linked : AreLinked (whole_tokens x ++ r)
  pub begins : FirstIs begins_operand (whole_tokens x ++ r)

-- tokens that are an operand before each mark
pub record IsOperand (x : thin.Tokens) : Type 0 where
  pub before : (r : Tokens) → FirstIs is_mark_kind r → AreLinked r → GoesOn x r

-- tokens before any others
pub record StandsBefore (x : thin.Tokens) : Type 0 where
  pub before : (r : Tokens) → AreLinked r → AreLinked (whole_tokens x ++ r)

nothing : StandsBefore []
nothing = record { before = λ r linked. linked }

-- a token behind which anything may stand
one : (t : Token) (k : TokenKind) {x : thin.Tokens} → whole_kind t.kind ≡ k → ((r : Tokens) → MayStand k r) → StandsBefore x → StandsBefore (t ∷ x)
one t k {x = x} is may rest = record { before = λ r linked. linked_first t k (whole_tokens x ++ r) is (may (whole_tokens x ++ r)) (rest.before r linked) }

together : {x y : thin.Tokens} → StandsBefore x → StandsBefore y → StandsBefore (x ++ y)
together {x = x} {y = y} first second = record { before = λ r linked. subst AreLinked (sym (beside x y r)) (first.before (whole_tokens y ++ r) (second.before r linked)) }

-- an operand and a mark
operand : (t : Token) (mark : Mark) {x y : thin.Tokens} → IsOperand x → whole_kind t.kind ≡ kind.Mark mark → StandsBefore (t ∷ y) → StandsBefore (x ++ t ∷ y)
operand t mark {x = x} {y = y} value is rest =
    record { before = λ r linked. subst AreLinked (sym (over x t y r)) ((value.before (whole_token t ∷ (whole_tokens y ++ r)) (is_mark t mark is) (rest.before r linked)).linked) }

-- a token that begins an operand, before what may stand behind any
begun : (t : Token) (k : TokenKind) {x : thin.Tokens} → whole_kind t.kind ≡ k → begins_operand k ≡ true → ((r : Tokens) → MayStand k r) → StandsBefore x → IsOperand (t ∷ x)
begun t k {x = x} is h may rest = record { before = λ r first linked. record { linked = (one t k is may rest).before r linked; begins = begins t k is h } }

-- an operator between operands
joined : (t : Token) (mark : Mark) {x y : thin.Tokens} → whole_kind t.kind ≡ kind.Mark mark → ((r : Tokens) → FirstIs begins_operand r → MayStand (kind.Mark mark) r) → IsOperand x → IsOperand y → IsOperand (x ++ t ∷ y)
joined t mark {x = x} {y = y} is stands left right = record {
  before = λ r first linked.
      let behind = right.before r first linked in
      let whole = left.before (whole_token t ∷ (whole_tokens y ++ r)) (is_mark t mark is) (linked_first t (kind.Mark mark) (whole_tokens y ++ r) is (stands (whole_tokens y ++ r) behind.begins) behind.linked) in
      record { linked = subst AreLinked (sym (over x t y r)) whole.linked; begins = subst (FirstIs begins_operand) (sym (over x t y r)) whole.begins };
}

-- an operand and a closing mark
closed : (closes : Token) (mark : Mark) {x : thin.Tokens} → whole_kind closes.kind ≡ kind.Mark mark → ((r : Tokens) → MayStand (kind.Mark mark) r) → IsOperand x → StandsBefore (x ++ closes ∷ [])
closed closes mark is may inner = operand closes mark inner is (one closes (kind.Mark mark) is may nothing)

module _ (c : Context) where
  mutual
    unfolding name_kind

    spot_linked : {n nodes : ℕ} {s : Spot} {p : Place} {x : thin.Tokens} → SpellsSpot c n nodes s p x → IsOperand x
    spot_linked (scalar t k there) = begun t kind.Name (ap whole_kind k) refl (λ r. tt) nothing
    spot_linked (element t opens closes k there ko index kc) =
        begun t kind.Name (ap whole_kind k) refl (λ r. tt) (one opens (kind.Mark m.OpenSquare) (ap whole_kind ko) (λ r. tt) (closed closes m.CloseSquare (ap whole_kind kc) (λ r. tt) (value_linked index)))

    value_linked : {n nodes : ℕ} {l : Level} {a : Expr} {x : thin.Tokens} → Spells c n nodes l a x → IsOperand x
    value_linked (number t {v = v} k) = record { before = λ r first linked. record { linked = linked_first t (kind.Number v) r (ap whole_kind k) first linked; begins = begins t (kind.Number v) (ap whole_kind k) refl } }
    value_linked (dollar t k inside) = begun t (kind.Mark m.Dollar) (ap whole_kind k) refl (λ r. tt) nothing
    value_linked (read spot) = spot_linked spot
    value_linked (brackets opens closes ko inner kc) = begun opens (kind.Mark m.OpenRound) (ap whole_kind ko) refl (λ r. tt) (closed closes m.CloseRound (ap whole_kind kc) (λ r. tt) (value_linked inner))
    value_linked (product t {o = o} left is right) = joined t m.Star (product_kind t.kind o is) (λ r first. first) (value_linked left) (value_linked right)
    value_linked (sum t {o = o} left is right) =
        elim (sum_kind t.kind o is) [
          | inl plus ↦ joined t m.Plus plus (λ r first. first) (value_linked left) (value_linked right)
          | inr minus ↦ joined t m.Minus minus (λ r first. first) (value_linked left) (value_linked right)
        ]
    value_linked (as_product inner) = value_linked inner
    value_linked (as_sum inner) = value_linked inner

-- ---- statements

-- `=`, the value that is written, and `;`
written : (equals semicolon : Token) {y : thin.Tokens} → whole_kind equals.kind ≡ kind.Mark m.Equal → IsOperand y → whole_kind semicolon.kind ≡ kind.Mark m.Semicolon → StandsBefore (equals ∷ (y ++ semicolon ∷ []))
written equals semicolon {y = y} ke value ks = record {
  before = λ r linked.
      let behind = value.before (whole_token semicolon ∷ r) (is_mark semicolon m.Semicolon ks) (linked_first semicolon (kind.Mark m.Semicolon) r ks tt linked) in
      subst (λ (us : Tokens). AreLinked (whole_token equals ∷ us)) (sym (over y semicolon [] r))
      (linked_first equals (kind.Mark m.Equal) (whole_tokens y ++ (whole_token semicolon ∷ r)) ke behind.begins behind.linked);
}

-- a mark before others
sign : (t : Token) (mark : Mark) {x : thin.Tokens} → whole_kind t.kind ≡ kind.Mark mark → ((r : Tokens) → MayStand (kind.Mark mark) r) → StandsBefore x → StandsBefore (t ∷ x)
sign t mark is may rest = one t (kind.Mark mark) is may rest

module _ (c : Context) where
  statement_linked : {n nodes : ℕ} {s : Stmt} {x : thin.Tokens} → SpellsStmt c n nodes s x → StandsBefore x
  unfolding name_kind
  statement_linked (assignment equals semicolon spot ke value ks) =
      operand equals m.Equal (spot_linked c spot) (ap whole_kind ke) (written equals semicolon (ap whole_kind ke) (value_linked c value) (ap whole_kind ks))
  statement_linked (print word opens text comma closes semicolon outside kw ko kt kc value kr ks) =
      one word (kind.Keyword key.Printf) (ap whole_kind kw) (λ r. tt)
      (sign opens m.OpenRound (ap whole_kind ko) (λ r. tt)
      (one text kind.Text (ap whole_kind kt) (λ r. tt)
      (sign comma m.Comma (ap whole_kind kc) (λ r. tt)
      (operand closes m.CloseRound (value_linked c value) (ap whole_kind kr)
      (sign closes m.CloseRound (ap whole_kind kr) (λ r. tt)
      (sign semicolon m.Semicolon (ap whole_kind ks) (λ r. tt) nothing))))))

  statements_linked : {n nodes : ℕ} {body : List Stmt} {x : thin.Tokens} → SpellsStmts c n nodes body x → StandsBefore x
  statements_linked code.none = nothing
  statements_linked (code.more first rest) = together (statement_linked first) (statements_linked rest)

module _ (c : Context) where
  spawn_linked : {n nodes : ℕ} {s : Stmt} {x : thin.Tokens} → SpellsSpawn c n nodes s x → StandsBefore x
  unfolding name_kind
  spawn_linked (spawn word opens comma closes brace closing kw ko low kc high kr kb block kz) =
      one word (kind.Keyword key.Spawn) (ap whole_kind kw) (λ r. tt)
      (sign opens m.OpenRound (ap whole_kind ko) (λ r. tt)
      (operand comma m.Comma (value_linked c low) (ap whole_kind kc)
      (sign comma m.Comma (ap whole_kind kc) (λ r. tt)
      (operand closes m.CloseRound (value_linked c high) (ap whole_kind kr)
      (sign closes m.CloseRound (ap whole_kind kr) (λ r. tt)
      (sign brace m.OpenCurly (ap whole_kind kb) (λ r. tt)
      (together (statements_linked (within_block c) block)
      (sign closing m.CloseCurly (ap whole_kind kz) (λ r. tt) nothing))))))))

  body_linked : {n nodes : ℕ} {body : List Stmt} {x : thin.Tokens} → SpellsBody c n nodes body x → StandsBefore x
  body_linked (serial statements) = statements_linked c statements
  body_linked (parallel before block behind) = together (statements_linked c before) (together (spawn_linked block) (statements_linked c behind))

-- ---- the source

module _ (source : Text) where
  -- a length and `]`
  counted : (digits closes : Token) (v : ℕ) {x : thin.Tokens} → whole_kind digits.kind ≡ kind.Number v → whole_kind closes.kind ≡ kind.Mark m.CloseSquare → StandsBefore x → StandsBefore (digits ∷ closes ∷ x)
  counted digits closes v {x = x} kl kc rest = record {
    before = λ r linked.
        linked_first digits (kind.Number v) (whole_token closes ∷ (whole_tokens x ++ r)) kl (is_mark closes m.CloseSquare kc) (linked_first closes (kind.Mark m.CloseSquare) (whole_tokens x ++ r) kc tt (rest.before r linked));
  }

  globals_linked : {globals : List GlobalVar} {x : thin.Tokens} → SpellsGlobals source globals x → StandsBefore x
  unfolding name_kind
  globals_linked code.none = nothing
  globals_linked (code.scalar int name semicolon ki kn ks rest) =
      one int (kind.Keyword key.Int) (ap whole_kind ki) (λ r. tt) (one name kind.Name (ap whole_kind kn) (λ r. tt) (sign semicolon m.Semicolon (ap whole_kind ks) (λ r. tt) (globals_linked rest)))
  globals_linked (code.array int name opens digits closes semicolon {length = length} ki kn ko kl some kc ks rest) =
      one int (kind.Keyword key.Int) (ap whole_kind ki) (λ r. tt)
      (one name kind.Name (ap whole_kind kn) (λ r. tt)
      (sign opens m.OpenSquare (ap whole_kind ko) (λ r. tt)
      (counted digits closes length (ap whole_kind kl) (ap whole_kind kc)
      (sign semicolon m.Semicolon (ap whole_kind ks) (λ r. tt) (globals_linked rest)))))

  source_stands : {n nodes : ℕ} {globals : List GlobalVar} {body : List Stmt} {ts : thin.Tokens} → SpellsSource source n nodes globals body ts → StandsBefore ts
  unfolding name_kind
  source_stands (whole main opens closes brace closing {globals = globals} declared km ko kc kb body kz) =
      together (globals_linked declared)
      (one main kind.Name (ap whole_kind km) (λ r. tt)
      (sign opens m.OpenRound (ap whole_kind ko) (λ r. tt)
      (sign closes m.CloseRound (ap whole_kind kc) (λ r. tt)
      (sign brace m.OpenCurly (ap whole_kind kb) (λ r. tt)
      (together (body_linked (context_of source globals) body)
      (sign closing m.CloseCurly (ap whole_kind kz) (λ r. tt) nothing))))))

  pub source_linked : {n nodes : ℕ} {globals : List GlobalVar} {body : List Stmt} {ts : thin.Tokens} → SpellsSource source n nodes globals body ts → AreLinked (whole_tokens ts)
  source_linked {ts = ts} spelled = subst AreLinked (append-nil (whole_tokens ts)) ((source_stands spelled).before [] tt)
