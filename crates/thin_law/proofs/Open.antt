-- Never more than 200 brackets stand open in a thin source.
use Rattle.std.proofs.Common.{◌≡◌, inl, inr, ℕ, ◌+◌, ◌-◌, ◌≤◌, ◌<◌, nat_le, true, false, List, [], ◌∷◌, ◌++◌, append-nil, None, refl, sym, ap, ◌∙◌, arith}
use Rattle.std.proofs.lemmas.Bool.Decides.{nat_tests}
use Rattle.xmt_base.specs.declared.values.Place.{Place}
use Rattle.source_meaning.specs.declared.tree.Spot.{Spot}
use Rattle.source_meaning.specs.declared.tree.Expr.{Expr}
use Rattle.source_meaning.specs.declared.tree.Stmt.{Stmt}
use Rattle.source_meaning.specs.declared.tree.GlobalVar.{GlobalVar}
use Rattle.thin_source.specs.Tokens.{Text, name_kind}
use Rattle.thin_source.specs.Names.{Context, within_block}
use Rattle.thin_source.specs.Grammar.{Level, SpellsSpot, scalar, element, Spells, number, dollar, read, brackets, product, sum, as_product, as_sum}
use Rattle.thin_source.specs.Grammar as thin
use Rattle.thin_source.specs.Statements.{SpellsStmt, assignment, print, SpellsStmts, SpellsSpawn, spawn, SpellsBody, serial, parallel, SpellsGlobals, SpellsSource, whole}
use Rattle.thin_source.specs.Statements as code
use Rattle.xmt_lex.specs.declared.TokenKind.{TokenKind}
use Rattle.xmt_lex.specs.declared.TokenKind.TheVariants as kind
use Rattle.xmt_lex.specs.declared.kinds.Mark.TheVariants as m
use Rattle.raw_tree.specs.Level.{Tokens}
use Rattle.xmt_parse.specs.Deep.{opens, closes, too_deep}
use Rattle.thin_law.proofs.SameTokens.{Token, context_of, whole_kind, whole_tokens}
use Rattle.thin_law.proofs.Parts.{beside, product_kind, sum_kind}

-- where k brackets are open before the tokens, j are open behind them, and never more than 200 between
pub record Leads (k j : ℕ) (x : thin.Tokens) : Type 0 where
  pub on : (r : Tokens) → too_deep k (whole_tokens x ++ r) ≡ too_deep j r

nothing : (k : ℕ) → Leads k k []
nothing k = record { on = λ r. refl }

together : {k j i : ℕ} {x y : thin.Tokens} → Leads k j x → Leads j i y → Leads k i (x ++ y)
together {k = k} {x = x} {y = y} first second = record { on = λ r. ap (too_deep k) (beside x y r) ∙ first.on (whole_tokens y ++ r) ∙ second.on r }

-- an opening bracket
up : (t : Token) (k : ℕ) {j : ℕ} {x : thin.Tokens} → opens (whole_kind t.kind) ≡ true → k < 200 → Leads (k + 1) j x → Leads k j (t ∷ x)
up t k is below rest = let few : nat_le 200 k ≡ false = grind (arith, nat_tests) in record { on = λ r. rw (is, few) (rest.on r) }

-- a closing bracket
down : (t : Token) (k : ℕ) {j : ℕ} {x : thin.Tokens} → opens (whole_kind t.kind) ≡ false → closes (whole_kind t.kind) ≡ true → Leads k j x → Leads (k + 1) j (t ∷ x)
down t k {x = x} other is rest = let less : k + 1 - 1 ≡ k = omega arith in record { on = λ r. rw (other, is) (ap (λ (n : ℕ). too_deep n (whole_tokens x ++ r)) less ∙ rest.on r) }

-- another token
flat : (t : Token) (k : ℕ) {j : ℕ} {x : thin.Tokens} → opens (whole_kind t.kind) ≡ false → closes (whole_kind t.kind) ≡ false → Leads k j x → Leads k j (t ∷ x)
flat t k other neither rest = record { on = λ r. rw (other, neither) (rest.on r) }

-- a token of one kind, which is no bracket
plain : (t : Token) (kind : TokenKind) (k : ℕ) {j : ℕ} {x : thin.Tokens} → whole_kind t.kind ≡ kind → opens kind ≡ false → closes kind ≡ false → Leads k j x → Leads k j (t ∷ x)
plain t kind k is other neither rest = flat t k (ap opens is ∙ other) (ap closes is ∙ neither) rest

module _ (c : Context) where
  some_nesting : {n nodes : ℕ} {l : Level} {a : Expr} {x : thin.Tokens} → Spells c n nodes l a x → 1 ≤ n
  some_nesting (number t k) = omega arith
  some_nesting (dollar t k inside) = omega arith
  some_nesting (read spot) = omega arith
  some_nesting (brackets o u ko inner kc) = omega arith
  some_nesting (product t left is right) = omega arith
  some_nesting (sum t left is right) = omega arith
  some_nesting (as_product inner) = some_nesting inner
  some_nesting (as_sum inner) = some_nesting inner

  mutual
    unfolding name_kind

    spot_open : {n nodes : ℕ} {s : Spot} {p : Place} {x : thin.Tokens} → SpellsSpot c n nodes s p x → (k : ℕ) → k + n ≤ 200 → Leads k k x
    spot_open (scalar t is there) k fits = plain t kind.Name k (ap whole_kind is) refl refl (nothing k)
    spot_open (element t o u is there ko index kc) k fits =
        let some = some_nesting index in
        plain t kind.Name k (ap whole_kind is) refl refl
        (up o k (ap opens (ap whole_kind ko)) (omega (arith, some, fits))
        (together (value_open index (k + 1) (omega (arith, fits)))
        (down u k (ap opens (ap whole_kind kc)) (ap closes (ap whole_kind kc)) (nothing k))))

    value_open : {n nodes : ℕ} {l : Level} {a : Expr} {x : thin.Tokens} → Spells c n nodes l a x → (k : ℕ) → k + n ≤ 201 → Leads k k x
    value_open (number t {v = v} is) k fits = plain t (kind.Number v) k (ap whole_kind is) refl refl (nothing k)
    value_open (dollar t is inside) k fits = plain t (kind.Mark m.Dollar) k (ap whole_kind is) refl refl (nothing k)
    value_open (read spot) k fits = spot_open spot k (omega (arith, fits))
    value_open (brackets o u ko inner kc) k fits =
        let some = some_nesting inner in
        up o k (ap opens (ap whole_kind ko)) (omega (arith, some, fits))
        (together (value_open inner (k + 1) (omega (arith, fits)))
        (down u k (ap opens (ap whole_kind kc)) (ap closes (ap whole_kind kc)) (nothing k)))
    value_open (product t {o = o} left is right) k fits =
        together (value_open left k (omega (arith, fits))) (plain t (kind.Mark m.Star) k (product_kind t.kind o is) refl refl (value_open right k (omega (arith, fits))))
    value_open (sum t {o = o} left is right) k fits =
        let second = value_open right k (omega (arith, fits)) in
        together (value_open left k (omega (arith, fits)))
        (elim (sum_kind t.kind o is) [ inl plus ↦ plain t (kind.Mark m.Plus) k plus refl refl second | inr minus ↦ plain t (kind.Mark m.Minus) k minus refl refl second ])
    value_open (as_product inner) k fits = value_open inner k fits
    value_open (as_sum inner) k fits = value_open inner k fits

  statement_open : {n nodes : ℕ} {s : Stmt} {x : thin.Tokens} → SpellsStmt c n nodes s x → (k : ℕ) → k + n ≤ 201 → Leads k k x
  unfolding name_kind
  statement_open (assignment equals semicolon spot ke value ks) k fits =
      together (spot_open spot k (omega (arith, fits)))
      (plain equals (kind.Mark m.Equal) k (ap whole_kind ke) refl refl
      (together (value_open value k (omega (arith, fits)))
      (plain semicolon (kind.Mark m.Semicolon) k (ap whole_kind ks) refl refl (nothing k))))
  statement_open (print word o text comma u semicolon outside kw ko kt kc value kr ks) k fits =
      let some = some_nesting value in
      flat word k (ap opens (ap whole_kind kw)) (ap closes (ap whole_kind kw))
      (up o k (ap opens (ap whole_kind ko)) (omega (arith, some, fits))
      (plain text kind.Text (k + 1) (ap whole_kind kt) refl refl
      (plain comma (kind.Mark m.Comma) (k + 1) (ap whole_kind kc) refl refl
      (together (value_open value (k + 1) (omega (arith, fits)))
      (down u k (ap opens (ap whole_kind kr)) (ap closes (ap whole_kind kr))
      (plain semicolon (kind.Mark m.Semicolon) k (ap whole_kind ks) refl refl (nothing k)))))))

  statements_open : {n nodes : ℕ} {body : List Stmt} {x : thin.Tokens} → SpellsStmts c n nodes body x → (k : ℕ) → k + n ≤ 201 → Leads k k x
  statements_open code.none k fits = nothing k
  statements_open (code.more first rest) k fits = together (statement_open first k (omega (arith, fits))) (statements_open rest k (omega (arith, fits)))

module _ (c : Context) where
  spawn_open : {n nodes : ℕ} {s : Stmt} {x : thin.Tokens} → SpellsSpawn c n nodes s x → (k : ℕ) → k + n ≤ 201 → Leads k k x
  unfolding name_kind
  spawn_open (spawn word o comma u brace closing kw ko low kc high kr kb block kz) k fits =
      let some = some_nesting c low in
      flat word k (ap opens (ap whole_kind kw)) (ap closes (ap whole_kind kw))
      (up o k (ap opens (ap whole_kind ko)) (omega (arith, some, fits))
      (together (value_open c low (k + 1) (omega (arith, fits)))
      (plain comma (kind.Mark m.Comma) (k + 1) (ap whole_kind kc) refl refl
      (together (value_open c high (k + 1) (omega (arith, fits)))
      (down u k (ap opens (ap whole_kind kr)) (ap closes (ap whole_kind kr))
      (up brace k (ap opens (ap whole_kind kb)) (omega (arith, some, fits))
      (together (statements_open (within_block c) block (k + 1) (omega (arith, fits)))
      (down closing k (ap opens (ap whole_kind kz)) (ap closes (ap whole_kind kz)) (nothing k)))))))))

  body_open : {n nodes : ℕ} {body : List Stmt} {x : thin.Tokens} → SpellsBody c n nodes body x → (k : ℕ) → k + n ≤ 201 → Leads k k x
  body_open (serial statements) k fits = statements_open c statements k fits
  body_open (parallel before block behind) k fits =
      together (statements_open c before k (omega (arith, fits))) (together (spawn_open block k (omega (arith, fits))) (statements_open c behind k (omega (arith, fits))))

-- ---- the source

module _ (source : Text) where
  globals_open : {globals : List GlobalVar} {x : thin.Tokens} → SpellsGlobals source globals x → Leads 0 0 x
  unfolding name_kind
  globals_open code.none = nothing 0
  globals_open (code.scalar int name semicolon ki kn ks rest) =
      flat int 0 (ap opens (ap whole_kind ki)) (ap closes (ap whole_kind ki))
      (plain name kind.Name 0 (ap whole_kind kn) refl refl
      (plain semicolon (kind.Mark m.Semicolon) 0 (ap whole_kind ks) refl refl (globals_open rest)))
  globals_open (code.array int name o digits u semicolon {length = length} ki kn ko kl some kc ks rest) =
      flat int 0 (ap opens (ap whole_kind ki)) (ap closes (ap whole_kind ki))
      (plain name kind.Name 0 (ap whole_kind kn) refl refl
      (up o 0 (ap opens (ap whole_kind ko)) (omega arith)
      (plain digits (kind.Number length) 1 (ap whole_kind kl) refl refl
      (down u 0 (ap opens (ap whole_kind kc)) (ap closes (ap whole_kind kc))
      (plain semicolon (kind.Mark m.Semicolon) 0 (ap whole_kind ks) refl refl (globals_open rest))))))

  source_leads : {n nodes : ℕ} {globals : List GlobalVar} {body : List Stmt} {ts : thin.Tokens} → SpellsSource source n nodes globals body ts → n ≤ 200 → Leads 0 0 ts
  unfolding name_kind
  source_leads (whole main o u brace closing {globals = globals} declared km ko kc kb body kz) few =
      together (globals_open declared)
      (plain main kind.Name 0 (ap whole_kind km) refl refl
      (up o 0 (ap opens (ap whole_kind ko)) (omega arith)
      (down u 0 (ap opens (ap whole_kind kc)) (ap closes (ap whole_kind kc))
      (up brace 0 (ap opens (ap whole_kind kb)) (omega arith)
      (together (body_open (context_of source globals) body 1 (omega (arith, few)))
      (down closing 0 (ap opens (ap whole_kind kz)) (ap closes (ap whole_kind kz)) (nothing 0)))))))

  pub source_open : {n nodes : ℕ} {globals : List GlobalVar} {body : List Stmt} {ts : thin.Tokens} → SpellsSource source n nodes globals body ts → n ≤ 200 → too_deep 0 (whole_tokens ts) ≡ None
  source_open {ts = ts} spelled few = ap (too_deep 0) (sym (append-nil (whole_tokens ts))) ∙ (source_leads spelled few).on []
