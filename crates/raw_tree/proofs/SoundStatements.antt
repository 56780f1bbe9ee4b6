-- Whatever statement is read is spelled by the tokens that were taken.
use Rattle.std.proofs.Common.{◌≡◌, ℕ, zero, suc, pred, max, ◌≤◌, Bool, true, false, cond, List, [], ◌∷◌, ◌++◌, length, append_assoc, append-nil, Option, Some, None, refl, sym, ap, subst, ◌∙◌, arith, ⊎_elim}
use Rattle.std.proofs.lemmas.Option.{same_Some}
use Rattle.xmt_lex.specs.declared.Token.{Token}
use Rattle.xmt_lex.specs.declared.TokenKind.{TokenKind}
use Rattle.xmt_lex.specs.declared.TokenKind.TheVariants as kind
use Rattle.xmt_lex.specs.declared.kinds.Keyword.TheVariants as k
use Rattle.xmt_lex.specs.declared.kinds.Mark.TheVariants as m
use Rattle.raw_tree.specs.declared.tree.Qualifier.{Qualifier}
use Rattle.raw_tree.specs.declared.tree.Qualifier.TheVariants as q
use Rattle.raw_tree.specs.declared.tree.RawName.{RawName}
use Rattle.raw_tree.specs.declared.tree.RawText.{RawText}
use Rattle.raw_tree.specs.declared.tree.RawExpr.{RawExpr}
use Rattle.raw_tree.specs.declared.tree.RawType.{RawType}
use Rattle.raw_tree.specs.declared.tree.RawLocal.{RawLocal}
use Rattle.raw_tree.specs.declared.tree.RawDecl.{RawDecl}
use Rattle.raw_tree.specs.declared.tree.RawFirst.{RawFirst}
use Rattle.raw_tree.specs.declared.tree.RawStmt.{RawStmt}
use Rattle.raw_tree.specs.declared.tree.RawStmtKind.{RawStmtKind}
use Rattle.raw_tree.specs.declared.tree.RawStmtKind.TheVariants as s
use Rattle.raw_tree.specs.Level.{Tokens, Level, Whole}
use Rattle.raw_tree.specs.Grammar.{name_of, Spells}
use Rattle.raw_tree.specs.Statements.{Key, Is, text_of, statement, SpellsWords, done, const, volatile, SpellsType, words, SpellsOpening, no_value, a_value, SpellsMaybe, nothing, just, SpellsLocal, local, SpellsDecl, decl, SpellsFirst, first_decl, first_value, first_nothing, SpellsBehind, end, values, SpellsStmt, empty, value, block, if_alone, if_else, while, do_while, for, break, continue, return, spawn, ps, psm, print, SpellsBody, no_more, one_declared, one_more}
use Rattle.raw_tree.specs.Reading.{Got, GotExpr, ReaderOf, Reader, got, past, comma, open_round, close_round, read_parted, step_place, expression}
use Rattle.raw_tree.specs.ReadingStatements.{after, semicolon, equal, open_curly, close_curly, is_else, is_while, is_name, is_text, begins_type, read_name, read_text, read_word, read_words, read_type, opening_value, opening_at, read_opening, read_local, read_decl, read_round, read_maybe, first_value as first_with, read_first, behind_at, read_behind, body, body_step, read_body, with_else, else_part, read_if, read_while, read_do, read_for, read_return, read_spawn, read_ps, read_psm, read_print, read_block, read_word_alone, read_value, begun_stmt, stmt_of, declare_at, piece_of, read_stmt}
use Rattle.raw_tree.proofs.Parted.{is_comma, past_some, sound_list}
use Rattle.raw_tree.proofs.CompleteStatements.{NoElse}
use Rattle.raw_tree.proofs.Sound.{is_open_round, is_close_round, if_some, chosen_true, Sound, sound, sound_listed, sound_place}

-- ---- what the tests of a token say

pub sure_semicolon : (q : TokenKind) → semicolon q ≡ true → q ≡ kind.Mark m.Semicolon
sure_semicolon (kind.Mark m.Semicolon) h = refl
sure_semicolon _ h = absurd (cc)

pub sure_equal : (q : TokenKind) → equal q ≡ true → q ≡ kind.Mark m.Equal
sure_equal (kind.Mark m.Equal) h = refl
sure_equal _ h = absurd (cc)

pub sure_open_curly : (q : TokenKind) → open_curly q ≡ true → q ≡ kind.Mark m.OpenCurly
sure_open_curly (kind.Mark m.OpenCurly) h = refl
sure_open_curly _ h = absurd (cc)

pub sure_close_curly : (q : TokenKind) → close_curly q ≡ true → q ≡ kind.Mark m.CloseCurly
sure_close_curly (kind.Mark m.CloseCurly) h = refl
sure_close_curly _ h = absurd (cc)

sure_else : (q : TokenKind) → is_else q ≡ true → q ≡ kind.Keyword k.Else
sure_else (kind.Keyword k.Else) h = refl
sure_else _ h = absurd (cc)

sure_while : (q : TokenKind) → is_while q ≡ true → q ≡ kind.Keyword k.While
sure_while (kind.Keyword k.While) h = refl
sure_while _ h = absurd (cc)

pub sure_name : (q : TokenKind) → is_name q ≡ true → q ≡ kind.Name
sure_name kind.Name h = refl
sure_name _ h = absurd (cc)

sure_text : (q : TokenKind) → is_text q ≡ true → q ≡ kind.Text
sure_text kind.Text h = refl
sure_text _ h = absurd (cc)

-- ---- taking an answer apart

pub after_some : {A B : Type 0} (x : Option A) (next : A → Option B) (v : B) → after x next ≡ Some v → (a : A) × (x ≡ Some a) × (next a ≡ Some v)
after_some None next v h = absurd (cc)
after_some (Some a) next v h = (a, refl, h)

opened : (x : Option GotExpr) (g : Got (Option RawExpr)) → opening_value x ≡ Some g → (a : GotExpr) × (x ≡ Some a) × (got (Some a.tree) a.nest a.rest ≡ Some g)
opened None g h = absurd (cc)
opened (Some a) g h = (a, refl, h)

none_else : (r : Tokens) → past is_else r ≡ None → NoElse r
none_else [] h = tt
none_else (t ∷ ts) h = tested (is_else t.kind) refl h
  where
    tested : (b : Bool) → is_else t.kind ≡ b → cond b (Some ts) None ≡ None → is_else t.kind ≡ false
    tested true is found = absurd (cc)
    tested false is found = is

not_open : (p : Bool) (r us : Tokens) (u : Token) → (p ≡ true → NoElse r) → r ≡ u ∷ us → is_else u.kind ≡ true → p ≡ false
not_open true r us u closed is h = let no : is_else u.kind ≡ false = subst NoElse is (closed refl) in absurd (cc)
not_open false r us u closed is h = refl

-- ---- names, texts, types

pub sound_name : (source : List ℕ) (ts : Tokens) (g : Got RawName) → read_name source ts ≡ Some g → (t : Token) × (ts ≡ t ∷ g.rest) × (t.kind ≡ kind.Name) × (g.tree ≡ name_of source t)
sound_name source [] g found = absurd (cc)
sound_name source (t ∷ ts) g found =
    let choice = if_some (is_name t.kind) (got (name_of source t) 0 ts) g found in
    let is = same_Some _ g choice.1 in
    (t, ap (λ (h : Got RawName). t ∷ h.rest) is, sure_name t.kind choice.0, sym (ap (λ (h : Got RawName). h.tree) is))

sound_text : (source : List ℕ) (ts : Tokens) (g : Got RawText) → read_text source ts ≡ Some g → (t : Token) × (ts ≡ t ∷ g.rest) × (t.kind ≡ kind.Text) × (g.tree ≡ text_of source t)
sound_text source [] g found = absurd (cc)
sound_text source (t ∷ ts) g found =
    let choice = if_some (is_text t.kind) (got (text_of source t) 0 ts) g found in
    let is = same_Some _ g choice.1 in
    (t, ap (λ (h : Got RawText). t ∷ h.rest) is, sure_text t.kind choice.0, sym (ap (λ (h : Got RawText). h.tree) is))

abbrev SoundWords : List Qualifier → Tokens → Got (List Qualifier) → Type 0
SoundWords front ts g = (ws : List Qualifier) × (x : Tokens) × (ts ≡ x ++ g.rest) × SpellsWords ws x × (g.tree ≡ front ++ ws)

abbrev WordsBehind : List Qualifier → Token → Tokens → Got (List Qualifier) → Type 0
WordsBehind front t ts g = (ws : List Qualifier) × (y : Tokens) × (ts ≡ y ++ g.rest) × SpellsWords ws (t ∷ y) × (g.tree ≡ front ++ ws)

sound_word : (front : List Qualifier) (t : Token) (w : TokenKind) → t.kind ≡ w → (ts : Tokens) → ((f : List Qualifier) (g : Got (List Qualifier)) → read_words f ts ≡ Some g → SoundWords f ts g) → (g : Got (List Qualifier)) →
    read_word w (λ all. read_words all ts) front ts ≡ Some g → WordsBehind front t ts g
sound_word front t (kind.Keyword k.Int) is ts more g found = subst (WordsBehind front t ts) (same_Some _ g found) ([], [], refl, done t is, sym (append-nil front))
sound_word front t (kind.Keyword k.Const) is ts more g found =
    let rest = more (front ++ q.Const ∷ []) g found in
    (q.Const ∷ rest.0, rest.1, rest.2, const t is rest.3, rest.4 ∙ append_assoc front (q.Const ∷ []) rest.0)
sound_word front t (kind.Keyword k.Volatile) is ts more g found =
    let rest = more (front ++ q.Volatile ∷ []) g found in
    (q.Volatile ∷ rest.0, rest.1, rest.2, volatile t is rest.3, rest.4 ∙ append_assoc front (q.Volatile ∷ []) rest.0)
sound_word front t _ is ts more g found = absurd (cc)

sound_words : (t : Token) (ts : Tokens) (front : List Qualifier) (g : Got (List Qualifier)) → read_words front (t ∷ ts) ≡ Some g → WordsBehind front t ts g
sound_words t [] front g found = sound_word front t t.kind refl [] (λ f h none. absurd (cc)) g found
sound_words t (u ∷ us) front g found =
    sound_word front t t.kind refl (u ∷ us) (λ f h some. let rest = sound_words u us f h some in (rest.0, u ∷ rest.1, ap (λ (w : Tokens). u ∷ w) rest.2, rest.3, rest.4)) g found

pub sound_type : (ts : Tokens) (g : Got RawType) → read_type ts ≡ Some g → (x : Tokens) × (ts ≡ x ++ g.rest) × SpellsType g.tree x
sound_type [] g found = absurd (cc)
sound_type (t ∷ ts) g found =
    let step = after_some (read_words [] (t ∷ ts)) _ g found in
    let all = sound_words t ts [] step.0 step.1 in
    subst (λ (h : Got RawType). (x : Tokens) × (t ∷ ts ≡ x ++ h.rest) × SpellsType h.tree x) (same_Some _ g step.2)
    (t ∷ all.1, ap (λ (w : Tokens). t ∷ w) all.2, subst (λ (ws : List Qualifier). SpellsType (record { at = t.place; qualifiers = ws }) (t ∷ all.1)) (sym all.4) (words t all.3))

-- ---- tokens put together

weave_decl : (ts x b y c us : Tokens) (e : Token) → ts ≡ x ++ b → b ≡ y ++ c → c ≡ e ∷ us → ts ≡ (x ++ (y ++ e ∷ [])) ++ us
weave_decl ts x b y c us e h i j = simp append_assoc (cc)

pub weave_end : (ts x b us : Tokens) (e : Token) → ts ≡ x ++ b → b ≡ e ∷ us → ts ≡ (x ++ e ∷ []) ++ us
weave_end ts x b us e h i = simp append_assoc (cc)

weave_two : (ts x b us : Tokens) (c e : Token) → ts ≡ x ++ b → b ≡ c ∷ e ∷ us → ts ≡ (x ++ c ∷ e ∷ []) ++ us
weave_two ts x b us c e h i = simp append_assoc (cc)

weave_round : (ts x w y us : Tokens) (o c : Token) → ts ≡ o ∷ (x ++ (c ∷ w)) → w ≡ y ++ us → ts ≡ (o ∷ (x ++ c ∷ y)) ++ us
weave_round ts x w y us o c h i = simp append_assoc (cc)

weave_else : (ts x w y v z us : Tokens) (o c u : Token) → ts ≡ o ∷ (x ++ (c ∷ w)) → w ≡ y ++ (u ∷ v) → v ≡ z ++ us → ts ≡ (o ∷ (x ++ c ∷ (y ++ u ∷ z))) ++ us
weave_else ts x w y v z us o c u h i j = simp append_assoc (cc)

weave_do : (ts x b v y w us : Tokens) (u o c e : Token) → ts ≡ x ++ b → b ≡ u ∷ v → v ≡ o ∷ (y ++ (c ∷ w)) → w ≡ e ∷ us → ts ≡ (x ++ u ∷ o ∷ (y ++ c ∷ e ∷ [])) ++ us
weave_do ts x b v y w us u o c e h i j l = simp append_assoc (cc)

weave_for : (ts a v b x d f y w g z us : Tokens) (o e c : Token) → ts ≡ o ∷ a → a ≡ v ++ b → b ≡ x ++ d → d ≡ e ∷ f → f ≡ y ++ w → w ≡ c ∷ g → g ≡ z ++ us → ts ≡ (o ∷ (v ++ (x ++ e ∷ (y ++ c ∷ z)))) ++ us
weave_for ts a v b x d f y w g z us o e c h1 h2 h3 h4 h5 h6 h7 = simp append_assoc (cc)

weave_spawn : (ts a x b d y f g h z us : Tokens) (o v c p l : Token) → ts ≡ o ∷ a → a ≡ x ++ b → b ≡ v ∷ d → d ≡ y ++ f → f ≡ c ∷ g → g ≡ p ∷ h → h ≡ z ++ (l ∷ us) → ts ≡ (o ∷ (x ++ v ∷ (y ++ c ∷ p ∷ (z ++ l ∷ [])))) ++ us
weave_spawn ts a x b d y f g h z us o v c p l h1 h2 h3 h4 h5 h6 h7 = simp append_assoc (cc)

weave_psm : (ts a b d x f g us : Tokens) (o n v c e : Token) → ts ≡ o ∷ a → a ≡ n ∷ b → b ≡ v ∷ d → d ≡ x ++ f → f ≡ c ∷ g → g ≡ e ∷ us → ts ≡ (o ∷ n ∷ v ∷ (x ++ c ∷ e ∷ [])) ++ us
weave_psm ts a b d x f g us o n v c e h1 h2 h3 h4 h5 h6 = simp append_assoc (cc)

weave_print : (ts a b x f g us : Tokens) (o n c e : Token) → ts ≡ o ∷ a → a ≡ n ∷ b → b ≡ x ++ f → f ≡ c ∷ g → g ≡ e ∷ us → ts ≡ (o ∷ n ∷ (x ++ c ∷ e ∷ [])) ++ us
weave_print ts a b x f g us o n c e h1 h2 h3 h4 h5 = simp append_assoc (cc)

weave_body : (ts t-more x b y us : Tokens) (l : Token) → ts ≡ x ++ b → b ≡ y ++ (l ∷ us) → ts ≡ (x ++ y) ++ (l ∷ us)
weave_body ts t-more x b y us l h i = simp append_assoc (cc)

module _ (source : List ℕ) where
  -- ---- declarations

  abbrev pub SoundOpening : Level → ℕ → Tokens → Got (Option RawExpr) → Type 0
  SoundOpening l depth ts g = (x : Tokens) × (ts ≡ x ++ g.rest) × SpellsOpening source l g.nest g.tree x × (g.nest ≤ depth)

  sound_opening_at : (l : Level) (depth : ℕ) (read : Reader) → ((ts : Tokens) (g : GotExpr) → read ts ≡ Some g → Sound source l depth ts g) → (ts : Tokens) (g : Got (Option RawExpr)) (answer : Option Tokens) → past equal ts ≡ answer →
      opening_at read ts answer ≡ Some g → SoundOpening l depth ts g
  sound_opening_at l depth read each ts g None is found = subst (SoundOpening l depth ts) (same_Some _ g found) ([], refl, no_value, omega arith)
  sound_opening_at l depth read each ts g (Some us) is found =
      let taken = past_some equal ts us is in
      let inner = opened (read us) g found in
      let part = each us inner.0 inner.1 in
      subst (SoundOpening l depth ts) (same_Some _ g inner.2) (taken.0 ∷ part.0, taken.1 ∙ ap (λ (w : Tokens). taken.0 ∷ w) part.1, a_value taken.0 (sure_equal taken.0.kind taken.2) part.2, part.3)

  pub sound_opening : (l : Level) (depth : ℕ) (read : Reader) → ((ts : Tokens) (g : GotExpr) → read ts ≡ Some g → Sound source l depth ts g) → (ts : Tokens) (g : Got (Option RawExpr)) → read_opening read ts ≡ Some g → SoundOpening l depth ts g
  sound_opening l depth read each ts g found = sound_opening_at l depth read each ts g (past equal ts) refl found

  abbrev SoundLocal : ℕ → Tokens → Got RawLocal → Type 0
  SoundLocal depth ts g = (x : Tokens) × (ts ≡ x ++ g.rest) × SpellsLocal source g.nest g.tree x × (g.nest ≤ depth)

  sound_local : (depth : ℕ) (ts : Tokens) (g : Got RawLocal) → read_local source (expression source depth) ts ≡ Some g → SoundLocal depth ts g
  sound_local depth ts g found =
      let first_step = after_some (read_name source ts) _ g found in
      let name = sound_name source ts first_step.0 first_step.1 in
      let step = after_some (read_opening (expression source depth) first_step.0.rest) _ g first_step.2 in
      let v = sound_opening Whole depth (expression source depth) (sound source depth) first_step.0.rest step.0 step.1 in
      subst (SoundLocal depth ts) (same_Some _ g step.2) (
        name.0 ∷ v.0,
        name.1 ∙ ap (λ (w : Tokens). name.0 ∷ w) v.1,
        subst (λ (n : RawName). SpellsLocal source step.0.nest (record { name = n; value = step.0.tree }) (name.0 ∷ v.0)) (sym name.3) (local name.0 name.2 v.2),
        v.3,
      )

  abbrev SoundDecl : ℕ → Tokens → Got RawDecl → Type 0
  SoundDecl depth ts g = (x : Tokens) × (ts ≡ x ++ g.rest) × SpellsDecl source g.nest g.tree x × (g.nest ≤ depth)

  sound_decl : (depth : ℕ) (ts : Tokens) (g : Got RawDecl) → read_decl source (expression source depth) ts ≡ Some g → SoundDecl depth ts g
  sound_decl depth ts g found =
      let one = after_some (read_type ts) _ g found in
      let ty = sound_type ts one.0 one.1 in
      let two = after_some (read_parted (read_local source (expression source depth)) one.0.rest) _ g one.2 in
      let all = sound_list RawLocal (SpellsLocal source) (read_local source (expression source depth)) depth (sound_local depth) one.0.rest two.0 two.1 in
      let three = after_some (past semicolon two.0.rest) _ g two.2 in
      let e = past_some semicolon two.0.rest three.0 three.1 in
      subst (SoundDecl depth ts) (same_Some _ g three.2)
      (ty.0 ++ (all.0 ++ e.0 ∷ []), weave_decl ts ty.0 one.0.rest all.0 two.0.rest three.0 e.0 ty.1 all.1 e.1, decl e.0 ty.2 all.2 (sure_semicolon e.0.kind e.2), all.3)

  -- ---- the parts of statements

  abbrev SoundRound : ℕ → Tokens → GotExpr → Type 0
  SoundRound depth ts g = (o : Token) × (c : Token) × (x : Tokens) × (ts ≡ o ∷ (x ++ (c ∷ g.rest))) × Is o m.OpenRound × Spells source g.nest Whole g.tree x × Is c m.CloseRound × (g.nest ≤ depth)

  sound_round : (depth : ℕ) (ts : Tokens) (g : GotExpr) → read_round (expression source depth) ts ≡ Some g → SoundRound depth ts g
  sound_round depth ts g found =
      let one = after_some (past open_round ts) _ g found in
      let o = past_some open_round ts one.0 one.1 in
      let two = after_some (expression source depth one.0) _ g one.2 in
      let a = sound source depth one.0 two.0 two.1 in
      let three = after_some (past close_round two.0.rest) _ g two.2 in
      let c = past_some close_round two.0.rest three.0 three.1 in
      subst (SoundRound depth ts) (same_Some _ g three.2)
      (o.0, c.0, a.0, o.1 ∙ ap (λ (w : Tokens). o.0 ∷ w) (a.1 ∙ ap (λ (w : Tokens). a.0 ++ w) c.1), is_open_round o.0.kind o.2, a.2, is_close_round c.0.kind c.2, a.3)

  abbrev SoundMaybe : ℕ → Tokens → Got (Option RawExpr) → Type 0
  SoundMaybe depth ts g = (x : Tokens) × (ts ≡ x ++ g.rest) × SpellsMaybe source g.nest g.tree x × (g.nest ≤ depth)

  sound_maybe : (stop : TokenKind → Bool) (depth : ℕ) (ts : Tokens) (g : Got (Option RawExpr)) → read_maybe stop (expression source depth) ts ≡ Some g → SoundMaybe depth ts g
  sound_maybe stop depth [] g found = absurd (cc)
  sound_maybe stop depth (t ∷ ts) g found =
      ⊎_elim
      (λ (is, then_it). subst (SoundMaybe depth (t ∷ ts)) (same_Some _ g then_it) ([], refl, nothing, omega arith))
      (λ (other, then_it).
      let inner = opened (expression source depth (t ∷ ts)) g then_it in
      let a = sound source depth (t ∷ ts) inner.0 inner.1 in
      subst (SoundMaybe depth (t ∷ ts)) (same_Some _ g inner.2) (a.0, a.1, just a.2, a.3))
      (chosen_true (stop t.kind) _ _ (Some g) found)

  abbrev SoundFirst : ℕ → Tokens → Got RawFirst → Type 0
  SoundFirst depth ts g = (n : ℕ) × (x : Tokens) × (ts ≡ x ++ g.rest) × SpellsFirst source n g.tree x × (n ≤ suc depth)

  sound_first_value : (depth : ℕ) (ts us : Tokens) (e : Token) (rest : Tokens) {n : ℕ} {v : Option RawExpr} {x : Tokens} → SpellsMaybe source n v x → ts ≡ x ++ rest → rest ≡ e ∷ us → Is e m.Semicolon → n ≤ depth → (g : Got RawFirst) →
      first_with (record { tree = v; nest = n; rest = rest }) us ≡ Some g → SoundFirst depth ts g
  sound_first_value depth ts us e rest nothing split is h fits g found =
      subst (SoundFirst depth ts) (same_Some _ g found) (0, e ∷ [], split ∙ is, first_nothing e h, omega arith)
  sound_first_value depth ts us e rest (just {n = n} {a = a} {x = x} spelled) split is h fits g found =
      subst (SoundFirst depth ts) (same_Some _ g found) (suc n, x ++ e ∷ [], weave_end ts x rest us e split is, first_value e spelled h, omega arith)

  sound_first : (depth : ℕ) (ts : Tokens) (g : Got RawFirst) → read_first source (expression source depth) ts ≡ Some g → SoundFirst depth ts g
  sound_first depth [] g found = absurd (cc)
  sound_first depth (t ∷ ts) g found =
      ⊎_elim
      (λ (is, then_it).
      let one = after_some (read_decl source (expression source depth) (t ∷ ts)) _ g then_it in
      let d = sound_decl depth (t ∷ ts) one.0 one.1 in
      subst (SoundFirst depth (t ∷ ts)) (same_Some _ g one.2) (suc one.0.nest, d.0, d.1, first_decl d.2, omega (arith, d.3)))
      (λ (other, then_it).
      let one = after_some (read_maybe semicolon (expression source depth) (t ∷ ts)) _ g then_it in
      let a = sound_maybe semicolon depth (t ∷ ts) one.0 one.1 in
      let two = after_some (past semicolon one.0.rest) _ g one.2 in
      let e = past_some semicolon one.0.rest two.0 two.1 in
      sound_first_value depth (t ∷ ts) two.0 e.0 one.0.rest a.2 a.1 e.1 (sure_semicolon e.0.kind e.2) a.3 g two.2)
      (chosen_true (begins_type t.kind) _ _ (Some g) found)

  stmt_positive : {p : Bool} {n : ℕ} {b : RawStmt} {x : Tokens} → SpellsStmt source p n b x → 1 ≤ n
  stmt_positive (empty e h) = omega arith
  stmt_positive (value e spelled h) = omega arith
  stmt_positive (block o c h inside d) = omega arith
  stmt_positive (if_alone t o c ht ho test hc branch) = omega arith
  stmt_positive (if_else t o c u ht ho test hc branch hu other) = omega arith
  stmt_positive (while t o c ht ho test hc branch) = omega arith
  stmt_positive (do_while t u o c e ht branch hu ho test hc he) = omega arith
  stmt_positive (for t o e c ht ho f p he q hc branch) = omega arith
  stmt_positive (break t e ht he) = omega arith
  stmt_positive (continue t e ht he) = omega arith
  stmt_positive (return t e ht a he) = omega arith
  stmt_positive (spawn t o v c p z ht ho low hv high hc hp inside hz) = omega arith
  stmt_positive (ps t o a v b c e ht ho ha hv hb hc he) = omega arith
  stmt_positive (psm t o a v c e ht ho ha hv place hc he) = omega arith
  stmt_positive (print t o a c e ht ho ha all hc he) = omega arith

  suc-pred : (d : ℕ) → 1 ≤ d → suc (pred d) ≡ d
  suc-pred zero h = absurd (omega (arith, h))
  suc-pred (suc d) h = refl

  for_fits : (d f a b n : ℕ) → f ≤ suc (pred d) → a ≤ d → b ≤ d → n ≤ d → 1 ≤ n → suc (max f (max a (max b n))) ≤ suc d
  for_fits d f a b n hf ha hb hn some = let top : suc (pred d) ≡ d = suc-pred d (omega (arith, hn, some)) in omega (arith, top, hf, ha, hb, hn)

  abbrev SoundBehind : ℕ → Tokens → Got (List RawExpr) → Type 0
  SoundBehind depth ts g = (x : Tokens) × (ts ≡ x ++ g.rest) × SpellsBehind source g.nest g.tree x × (g.nest ≤ depth)

  sound_behind_at : (depth : ℕ) (ts : Tokens) (g : Got (List RawExpr)) (answer : Option Tokens) → past comma ts ≡ answer → behind_at (expression source depth) ts answer ≡ Some g → SoundBehind depth ts g
  sound_behind_at depth ts g None is found = subst (SoundBehind depth ts) (same_Some _ g found) ([], refl, end, omega arith)
  sound_behind_at depth ts g (Some us) is found =
      let t = past_some comma ts us is in
      let all = sound_listed source depth us g found in
      (t.0 ∷ all.0, t.1 ∙ ap (λ (w : Tokens). t.0 ∷ w) all.1, values t.0 (is_comma t.0.kind t.2) all.2, all.3)

  sound_behind : (depth : ℕ) (ts : Tokens) (g : Got (List RawExpr)) → read_behind (expression source depth) ts ≡ Some g → SoundBehind depth ts g
  sound_behind depth ts g found = sound_behind_at depth ts g (past comma ts) refl found

  -- ---- statements

  -- what was read of these tokens is a statement; where it is open, no `else` is behind it
  abbrev pub SoundStmt : ℕ → Tokens → Got RawStmt → Type 0
  SoundStmt depth ts g = (p : Bool) × (n : ℕ) × (x : Tokens) × (ts ≡ x ++ g.rest) × SpellsStmt source p n g.tree x × (n ≤ depth) × (p ≡ true → NoElse g.rest)

  abbrev IsSoundStmt : ℕ → ReaderOf RawStmt → Type 0
  IsSoundStmt depth inner = (ts : Tokens) (g : Got RawStmt) → inner ts ≡ Some g → SoundStmt depth ts g

  -- what was read of these tokens may stand before what else stands in a body
  abbrev pub SoundPiece : ℕ → Tokens → Got RawStmt → Type 0
  SoundPiece depth ts g = (n : ℕ) × (x : Tokens) × (ts ≡ x ++ g.rest) × ((j : ℕ) (all : List RawStmt) (y : Tokens) → SpellsBody source j all y → SpellsBody source (max n j) (g.tree ∷ all) (x ++ y)) × (n ≤ depth)

  abbrev IsSoundPiece : ℕ → ReaderOf RawStmt → Type 0
  IsSoundPiece depth piece = (ts : Tokens) (g : Got RawStmt) → piece ts ≡ Some g → SoundPiece depth ts g

  sound_declared : (depth : ℕ) (ts : Tokens) (g : Got RawStmt) → declare_at source depth ts ≡ Some g → SoundPiece depth ts g
  sound_declared zero ts g found = absurd (cc)
  sound_declared (suc d) ts g found =
      let one = after_some (read_decl source (expression source d) ts) _ g found in
      let dec = sound_decl d ts one.0 one.1 in
      subst (SoundPiece (suc d) ts) (same_Some _ g one.2) (suc one.0.nest, dec.0, dec.1, λ j all y others. one_declared dec.2 others, omega (arith, dec.3))

  pub sound_piece : (depth : ℕ) (inner : ReaderOf RawStmt) → IsSoundStmt depth inner → IsSoundPiece depth (piece_of source depth inner)
  sound_piece depth inner each [] g found = absurd (cc)
  sound_piece depth inner each (t ∷ ts) g found =
      ⊎_elim
      (λ (is, then_it). sound_declared depth (t ∷ ts) g then_it)
      (λ (other, then_it). let one = each (t ∷ ts) g then_it in (one.1, one.2, one.3, λ j all y others. one_more one.4 others, one.5))
      (chosen_true (begins_type t.kind) _ _ (Some g) found)

  -- declarations and statements, and the `}` behind them
  abbrev pub SoundBody : ℕ → List RawStmt → Tokens → Got (List RawStmt) → Type 0
  SoundBody depth front ts g = (all : List RawStmt) × (n : ℕ) × (x : Tokens) × (l : Token) × (ts ≡ x ++ (l ∷ g.rest)) × SpellsBody source n all x × Is l m.CloseCurly × (g.tree ≡ front ++ all) × (n ≤ depth)

  body_closes : (depth : ℕ) (front : List RawStmt) (t : Token) (ts : Tokens) (g : Got (List RawStmt)) → close_curly t.kind ≡ true → got front 0 ts ≡ Some g → SoundBody depth front (t ∷ ts) g
  body_closes depth front t ts g is found = subst (SoundBody depth front (t ∷ ts)) (same_Some _ g found) ([], 0, [], t, refl, no_more, sure_close_curly t.kind is, sym (append-nil front), omega arith)

  body_goes : (depth : ℕ) (piece : ReaderOf RawStmt) → IsSoundPiece depth piece → (more : List RawStmt → Tokens → Option (Got (List RawStmt))) → ((f : List RawStmt) (us : Tokens) (g : Got (List RawStmt)) → more f us ≡ Some g → SoundBody depth f us g) →
      (front : List RawStmt) (ts : Tokens) (g : Got (List RawStmt)) (answer : Option (Got RawStmt)) → piece ts ≡ answer → body_step more front answer ≡ Some g → SoundBody depth front ts g
  body_goes depth piece each more rest front ts g None is found = absurd (cc)
  body_goes depth piece each more rest front ts g (Some b) is found =
      let one = each ts b is in
      let others = rest (front ++ b.tree ∷ []) b.rest g found in (
        b.tree ∷ others.0,
        max one.0 others.1,
        one.1 ++ others.2,
        others.3,
        weave_body ts ts one.1 b.rest others.2 g.rest others.3 one.2 others.4,
        one.3 others.1 others.0 others.2 others.5,
        others.6,
        others.7 ∙ append_assoc front (b.tree ∷ []) others.0,
        omega (arith, one.4, others.8),
      )

  sound_body : (depth : ℕ) (piece : ReaderOf RawStmt) → IsSoundPiece depth piece → (turns : ℕ) (front : List RawStmt) (ts : Tokens) (g : Got (List RawStmt)) → body piece turns front ts ≡ Some g → SoundBody depth front ts g
  unfolding body
  sound_body depth piece each turns front [] g found = absurd (cc)
  sound_body depth piece each zero front (t ∷ ts) g found =
      let choice = if_some (close_curly t.kind) (got front 0 ts) g found in
      body_closes depth front t ts g choice.0 choice.1
  sound_body depth piece each (suc f) front (t ∷ ts) g found =
      ⊎_elim
      (λ (is, then_it). body_closes depth front t ts g is then_it)
      (λ (other, then_it). body_goes depth piece each (body piece f) (λ all us h more. sound_body depth piece each f all us h more) front (t ∷ ts) g (piece (t ∷ ts)) refl then_it)
      (chosen_true (close_curly t.kind) _ _ (Some g) found)

  pub whole_body : (depth : ℕ) (piece : ReaderOf RawStmt) → IsSoundPiece depth piece → (ts : Tokens) (g : Got (List RawStmt)) → read_body piece ts ≡ Some g →
      (n : ℕ) × (x : Tokens) × (l : Token) × (ts ≡ x ++ (l ∷ g.rest)) × SpellsBody source n g.tree x × Is l m.CloseCurly × (n ≤ depth)
  whole_body depth piece each ts g found =
      let all = sound_body depth piece each (length ts) [] ts g found in
      (all.1, all.2, all.3, all.4, subst (λ (b : List RawStmt). SpellsBody source all.1 b all.2) (sym all.7) all.5, all.6, all.8)

  -- behind the first token
  abbrev Behind : ℕ → Token → Tokens → Got RawStmt → Type 0
  Behind d t ts g = (p : Bool) × (n : ℕ) × (y : Tokens) × (ts ≡ y ++ g.rest) × SpellsStmt source p n g.tree (t ∷ y) × (n ≤ suc d) × (p ≡ true → NoElse g.rest)

  module _ (d : ℕ) (inner : ReaderOf RawStmt) (each : IsSoundStmt d inner) (t : Token) (ts : Tokens) (g : Got RawStmt) where
    sound_block : Is t m.OpenCurly → read_block (piece_of source d inner) t ts ≡ Some g → Behind d t ts g
    sound_block h found =
        let one = after_some (read_body (piece_of source d inner) ts) _ g found in
        let all = whole_body d (piece_of source d inner) (sound_piece d inner each) ts one.0 one.1 in
        subst (Behind d t ts) (same_Some _ g one.2) (false, suc all.0, all.1 ++ all.2 ∷ [], weave_end ts all.1 (all.2 ∷ one.0.rest) one.0.rest all.2 all.3 refl, block t all.2 h all.4 all.5, omega (arith, all.6), λ bad. absurd (cc))

    sound_with_else : (a : GotExpr) (b : Got RawStmt) (us : Tokens) (u : Token) → Key t k.If → SoundRound d ts a → SoundStmt d a.rest b → b.rest ≡ u ∷ us → is_else u.kind ≡ true → (answer : Option (Got RawStmt)) → inner us ≡ answer →
        with_else t a.tree b.tree answer ≡ Some g → Behind d t ts g
    sound_with_else a b us u ht test branch is h None from found = absurd (cc)
    sound_with_else a b us u ht (o, c, x, split, ho, spelled, hc, fits) (p, n, y, split_b, spelled_b, fits_b, closed) is h (Some e) from found =
        let other = each us e from in
        let shut : p ≡ false = not_open p b.rest us u closed is h in
        subst (Behind d t ts) (same_Some _ g found) (
          other.0,
          suc (max a.nest (max n other.1)),
          o ∷ (x ++ c ∷ (y ++ u ∷ other.2)),
          weave_else ts x a.rest y us other.2 e.rest o c u split (split_b ∙ ap (λ (w : Tokens). y ++ w) is) other.3,
          if_else t o c u ht ho spelled hc (subst (λ (z : Bool). SpellsStmt source z n b.tree y) shut spelled_b) (sure_else u.kind h) other.4,
          omega (arith, fits, fits_b, other.5),
          other.6,
        )

    sound_else : (a : GotExpr) (b : Got RawStmt) → Key t k.If → SoundRound d ts a → SoundStmt d a.rest b → (answer : Option Tokens) → past is_else b.rest ≡ answer → else_part inner t a.tree b.tree b.rest answer ≡ Some g → Behind d t ts g
    sound_else a b ht (o, c, x, split, ho, spelled, hc, fits) (p, n, y, split_b, spelled_b, fits_b, closed) None is found =
        subst (Behind d t ts) (same_Some _ g found)
        (true, suc (max a.nest n), o ∷ (x ++ c ∷ y), weave_round ts x a.rest y b.rest o c split split_b, if_alone t o c ht ho spelled hc spelled_b, omega (arith, fits, fits_b), λ h. none_else b.rest is)
    sound_else a b ht test branch (Some us) is found =
        let u = past_some is_else b.rest us is in
        sound_with_else a b us u.0 ht test branch u.1 u.2 (inner us) refl found

    sound_if : Key t k.If → read_if (expression source d) inner t ts ≡ Some g → Behind d t ts g
    sound_if ht found =
        let one = after_some (read_round (expression source d) ts) _ g found in
        let two = after_some (inner one.0.rest) _ g one.2 in
        sound_else one.0 two.0 ht (sound_round d ts one.0 one.1) (each one.0.rest two.0 two.1) (past is_else two.0.rest) refl two.2

    sound_while : Key t k.While → read_while (expression source d) inner t ts ≡ Some g → Behind d t ts g
    sound_while ht found =
        let one = after_some (read_round (expression source d) ts) _ g found in
        let (o, c, x, split, ho, spelled, hc, fits) = sound_round d ts one.0 one.1 in
        let two = after_some (inner one.0.rest) _ g one.2 in
        let b = each one.0.rest two.0 two.1 in
        subst (Behind d t ts) (same_Some _ g two.2)
        (b.0, suc (max one.0.nest b.1), o ∷ (x ++ c ∷ b.2), weave_round ts x one.0.rest b.2 two.0.rest o c split b.3, while t o c ht ho spelled hc b.4, omega (arith, fits, b.5), b.6)

    sound_do : Key t k.Do → read_do (expression source d) inner t ts ≡ Some g → Behind d t ts g
    sound_do ht found =
        let one = after_some (inner ts) _ g found in
        let b = each ts one.0 one.1 in
        let two = after_some (past is_while one.0.rest) _ g one.2 in
        let u = past_some is_while one.0.rest two.0 two.1 in
        let three = after_some (read_round (expression source d) two.0) _ g two.2 in
        let (o, c, y, split, ho, spelled, hc, fits) = sound_round d two.0 three.0 three.1 in
        let four = after_some (past semicolon three.0.rest) _ g three.2 in
        let e = past_some semicolon three.0.rest four.0 four.1 in
        subst (Behind d t ts) (same_Some _ g four.2) (
          false,
          suc (max b.1 three.0.nest),
          b.2 ++ u.0 ∷ o ∷ (y ++ c ∷ e.0 ∷ []),
          weave_do ts b.2 one.0.rest two.0 y three.0.rest four.0 u.0 o c e.0 b.3 u.1 split e.1,
          do_while t u.0 o c e.0 ht b.4 (sure_while u.0.kind u.2) ho spelled hc (sure_semicolon e.0.kind e.2),
          omega (arith, fits, b.5),
          λ bad. absurd (cc),
        )

    sound_for : Key t k.For → read_for source (expression source d) (expression source (pred d)) inner t ts ≡ Some g → Behind d t ts g
    sound_for ht found =
        let one = after_some (past open_round ts) _ g found in
        let o = past_some open_round ts one.0 one.1 in
        let two = after_some (read_first source (expression source (pred d)) one.0) _ g one.2 in
        let f = sound_first (pred d) one.0 two.0 two.1 in
        let three = after_some (read_maybe semicolon (expression source d) two.0.rest) _ g two.2 in
        let a = sound_maybe semicolon d two.0.rest three.0 three.1 in
        let four = after_some (past semicolon three.0.rest) _ g three.2 in
        let e = past_some semicolon three.0.rest four.0 four.1 in
        let five = after_some (read_maybe close_round (expression source d) four.0) _ g four.2 in
        let b = sound_maybe close_round d four.0 five.0 five.1 in
        let six = after_some (past close_round five.0.rest) _ g five.2 in
        let c = past_some close_round five.0.rest six.0 six.1 in
        let seven = after_some (inner six.0) _ g six.2 in
        let loop = each six.0 seven.0 seven.1 in
        subst (Behind d t ts) (same_Some _ g seven.2) (
          loop.0,
          suc (max f.0 (max three.0.nest (max five.0.nest loop.1))),
          o.0 ∷ (f.1 ++ (a.0 ++ e.0 ∷ (b.0 ++ c.0 ∷ loop.2))),
          weave_for ts one.0 f.1 two.0.rest a.0 three.0.rest four.0 b.0 five.0.rest six.0 loop.2 seven.0.rest o.0 e.0 c.0 o.1 f.2 a.1 e.1 b.1 c.1 loop.3,
          for t o.0 e.0 c.0 ht (is_open_round o.0.kind o.2) f.3 a.2 (sure_semicolon e.0.kind e.2) b.2 (is_close_round c.0.kind c.2) loop.4,
          for_fits d f.0 three.0.nest five.0.nest loop.1 f.4 a.3 b.3 loop.5 (stmt_positive loop.4),
          loop.6,
        )

    sound_word_alone : (what : RawStmtKind) → ((e : Token) → Is e m.Semicolon → SpellsStmt source false 1 (statement t.place what) (t ∷ e ∷ [])) → read_word_alone (statement t.place what) ts ≡ Some g → Behind d t ts g
    sound_word_alone what made found =
        let one = after_some (past semicolon ts) _ g found in
        let e = past_some semicolon ts one.0 one.1 in
        subst (Behind d t ts) (same_Some _ g one.2) (false, 1, e.0 ∷ [], e.1, made e.0 (sure_semicolon e.0.kind e.2), omega arith, λ bad. absurd (cc))

    sound_return : Key t k.Return → read_return (expression source d) t ts ≡ Some g → Behind d t ts g
    sound_return ht found =
        let one = after_some (read_maybe semicolon (expression source d) ts) _ g found in
        let a = sound_maybe semicolon d ts one.0 one.1 in
        let two = after_some (past semicolon one.0.rest) _ g one.2 in
        let e = past_some semicolon one.0.rest two.0 two.1 in
        subst (Behind d t ts) (same_Some _ g two.2)
        (false, suc one.0.nest, a.0 ++ e.0 ∷ [], weave_end ts a.0 one.0.rest two.0 e.0 a.1 e.1, return t e.0 ht a.2 (sure_semicolon e.0.kind e.2), omega (arith, a.3), λ bad. absurd (cc))

    sound_spawn : Key t k.Spawn → read_spawn (expression source d) (piece_of source d inner) t ts ≡ Some g → Behind d t ts g
    sound_spawn ht found =
        let one = after_some (past open_round ts) _ g found in
        let o = past_some open_round ts one.0 one.1 in
        let two = after_some (expression source d one.0) _ g one.2 in
        let a = sound source d one.0 two.0 two.1 in
        let three = after_some (past comma two.0.rest) _ g two.2 in
        let v = past_some comma two.0.rest three.0 three.1 in
        let four = after_some (expression source d three.0) _ g three.2 in
        let b = sound source d three.0 four.0 four.1 in
        let five = after_some (past close_round four.0.rest) _ g four.2 in
        let c = past_some close_round four.0.rest five.0 five.1 in
        let six = after_some (past open_curly five.0) _ g five.2 in
        let p = past_some open_curly five.0 six.0 six.1 in
        let seven = after_some (read_body (piece_of source d inner) six.0) _ g six.2 in
        let all = whole_body d (piece_of source d inner) (sound_piece d inner each) six.0 seven.0 seven.1 in
        subst (Behind d t ts) (same_Some _ g seven.2) (
          false,
          suc (max two.0.nest (max four.0.nest all.0)),
          o.0 ∷ (a.0 ++ v.0 ∷ (b.0 ++ c.0 ∷ p.0 ∷ (all.1 ++ all.2 ∷ []))),
          weave_spawn ts one.0 a.0 two.0.rest three.0 b.0 four.0.rest five.0 six.0 all.1 seven.0.rest o.0 v.0 c.0 p.0 all.2 o.1 a.1 v.1 b.1 c.1 p.1 all.3,
          spawn t o.0 v.0 c.0 p.0 all.2 ht (is_open_round o.0.kind o.2) a.2 (is_comma v.0.kind v.2) b.2 (is_close_round c.0.kind c.2) (sure_open_curly p.0.kind p.2) all.4 all.5,
          omega (arith, a.3, b.3, all.6),
          λ bad. absurd (cc),
        )

    sound_ps : Key t k.Ps → read_ps source t ts ≡ Some g → Behind d t ts g
    sound_ps ht found =
        let one = after_some (past open_round ts) _ g found in
        let o = past_some open_round ts one.0 one.1 in
        let two = after_some (read_name source one.0) _ g one.2 in
        let a = sound_name source one.0 two.0 two.1 in
        let three = after_some (past comma two.0.rest) _ g two.2 in
        let v = past_some comma two.0.rest three.0 three.1 in
        let four = after_some (read_name source three.0) _ g three.2 in
        let b = sound_name source three.0 four.0 four.1 in
        let five = after_some (past close_round four.0.rest) _ g four.2 in
        let c = past_some close_round four.0.rest five.0 five.1 in
        let six = after_some (past semicolon five.0) _ g five.2 in
        let e = past_some semicolon five.0 six.0 six.1 in
        subst (Behind d t ts) (same_Some _ g six.2) (
          false,
          1,
          o.0 ∷ a.0 ∷ v.0 ∷ b.0 ∷ c.0 ∷ e.0 ∷ [],
          o.1 ∙ ap (λ (w : Tokens). o.0 ∷ w) (a.1 ∙ ap (λ (w : Tokens). a.0 ∷ w) (v.1 ∙ ap (λ (w : Tokens). v.0 ∷ w) (b.1 ∙ ap (λ (w : Tokens). b.0 ∷ w) (c.1 ∙ ap (λ (w : Tokens). c.0 ∷ w) e.1)))),
          subst (λ (z : RawName). SpellsStmt source false 1 (statement t.place (s.Ps z four.0.tree)) (t ∷ o.0 ∷ a.0 ∷ v.0 ∷ b.0 ∷ c.0 ∷ e.0 ∷ [])) (sym a.3)
              (subst (λ (z : RawName). SpellsStmt source false 1 (statement t.place (s.Ps (name_of source a.0) z)) (t ∷ o.0 ∷ a.0 ∷ v.0 ∷ b.0 ∷ c.0 ∷ e.0 ∷ [])) (sym b.3)
              (ps t o.0 a.0 v.0 b.0 c.0 e.0 ht (is_open_round o.0.kind o.2) a.2 (is_comma v.0.kind v.2) b.2 (is_close_round c.0.kind c.2) (sure_semicolon e.0.kind e.2))),
          omega arith,
          λ bad. absurd (cc),
        )

    sound_psm : Key t k.Psm → read_psm source (expression source d) t ts ≡ Some g → Behind d t ts g
    sound_psm ht found =
        let one = after_some (past open_round ts) _ g found in
        let o = past_some open_round ts one.0 one.1 in
        let two = after_some (read_name source one.0) _ g one.2 in
        let a = sound_name source one.0 two.0 two.1 in
        let three = after_some (past comma two.0.rest) _ g two.2 in
        let v = past_some comma two.0.rest three.0 three.1 in
        let four = after_some (step_place source (expression source d) three.0) _ g three.2 in
        let b = sound_place source d three.0 four.0 four.1 in
        let five = after_some (past close_round four.0.rest) _ g four.2 in
        let c = past_some close_round four.0.rest five.0 five.1 in
        let six = after_some (past semicolon five.0) _ g five.2 in
        let e = past_some semicolon five.0 six.0 six.1 in
        subst (Behind d t ts) (same_Some _ g six.2) (
          false,
          suc four.0.nest,
          o.0 ∷ a.0 ∷ v.0 ∷ (b.1 ++ c.0 ∷ e.0 ∷ []),
          weave_psm ts one.0 two.0.rest three.0 b.1 four.0.rest five.0 six.0 o.0 a.0 v.0 c.0 e.0 o.1 a.1 v.1 b.2 c.1 e.1,
          subst (λ (z : RawName). SpellsStmt source false (suc four.0.nest) (statement t.place (s.Psm z four.0.tree)) (t ∷ o.0 ∷ a.0 ∷ v.0 ∷ (b.1 ++ c.0 ∷ e.0 ∷ []))) (sym a.3)
              (psm t o.0 a.0 v.0 c.0 e.0 ht (is_open_round o.0.kind o.2) a.2 (is_comma v.0.kind v.2) b.3 (is_close_round c.0.kind c.2) (sure_semicolon e.0.kind e.2)),
          omega (arith, b.4),
          λ bad. absurd (cc),
        )

    sound_print : Key t k.Printf → read_print source (expression source d) t ts ≡ Some g → Behind d t ts g
    sound_print ht found =
        let one = after_some (past open_round ts) _ g found in
        let o = past_some open_round ts one.0 one.1 in
        let two = after_some (read_text source one.0) _ g one.2 in
        let a = sound_text source one.0 two.0 two.1 in
        let four = after_some (read_behind (expression source d) two.0.rest) _ g two.2 in
        let b = sound_behind d two.0.rest four.0 four.1 in
        let five = after_some (past close_round four.0.rest) _ g four.2 in
        let c = past_some close_round four.0.rest five.0 five.1 in
        let six = after_some (past semicolon five.0) _ g five.2 in
        let e = past_some semicolon five.0 six.0 six.1 in
        subst (Behind d t ts) (same_Some _ g six.2) (
          false,
          suc four.0.nest,
          o.0 ∷ a.0 ∷ (b.0 ++ c.0 ∷ e.0 ∷ []),
          weave_print ts one.0 two.0.rest b.0 four.0.rest five.0 six.0 o.0 a.0 c.0 e.0 o.1 a.1 b.1 c.1 e.1,
          subst (λ (z : RawText). SpellsStmt source false (suc four.0.nest) (statement t.place (s.Print z four.0.tree)) (t ∷ o.0 ∷ a.0 ∷ (b.0 ++ c.0 ∷ e.0 ∷ []))) (sym a.3)
              (print t o.0 a.0 c.0 e.0 ht (is_open_round o.0.kind o.2) a.2 b.2 (is_close_round c.0.kind c.2) (sure_semicolon e.0.kind e.2)),
          omega (arith, b.3),
          λ bad. absurd (cc),
        )

  -- from the statement's own tokens to those behind its first
  stmt_whole : (d : ℕ) (t : Token) (ts : Tokens) (g : Got RawStmt) → Behind d t ts g → SoundStmt (suc d) (t ∷ ts) g
  stmt_whole d t ts g (p, n, y, split, spelled, fits, closed) = (p, n, t ∷ y, ap (λ (w : Tokens). t ∷ w) split, spelled, fits, closed)

  sound_value : (d : ℕ) (ts : Tokens) (g : Got RawStmt) → read_value (expression source d) ts ≡ Some g → SoundStmt (suc d) ts g
  sound_value d ts g found =
      let one = after_some (expression source d ts) _ g found in
      let a = sound source d ts one.0 one.1 in
      let two = after_some (past semicolon one.0.rest) _ g one.2 in
      let e = past_some semicolon one.0.rest two.0 two.1 in
      subst (SoundStmt (suc d) ts) (same_Some _ g two.2)
      (false, suc one.0.nest, a.0 ++ e.0 ∷ [], weave_end ts a.0 one.0.rest two.0 e.0 a.1 e.1, value e.0 a.2 (sure_semicolon e.0.kind e.2), omega (arith, a.3), λ bad. absurd (cc))

  sound_begun : (d : ℕ) (inner : ReaderOf RawStmt) → IsSoundStmt d inner → (t : Token) (ts : Tokens) (g : Got RawStmt) (w : TokenKind) → t.kind ≡ w → begun_stmt source (expression source d) (expression source (pred d)) inner (piece_of source d inner) t w ts ≡ Some g → SoundStmt (suc d) (t ∷ ts) g
  sound_begun d inner each t ts g (kind.Mark m.Semicolon) is found = subst (SoundStmt (suc d) (t ∷ ts)) (same_Some _ g found) (false, 1, t ∷ [], refl, empty t is, omega arith, λ bad. absurd (cc))
  sound_begun d inner each t ts g (kind.Mark m.OpenCurly) is found = stmt_whole d t ts g (sound_block d inner each t ts g is found)
  sound_begun d inner each t ts g (kind.Keyword k.If) is found = stmt_whole d t ts g (sound_if d inner each t ts g is found)
  sound_begun d inner each t ts g (kind.Keyword k.While) is found = stmt_whole d t ts g (sound_while d inner each t ts g is found)
  sound_begun d inner each t ts g (kind.Keyword k.Do) is found = stmt_whole d t ts g (sound_do d inner each t ts g is found)
  sound_begun d inner each t ts g (kind.Keyword k.For) is found = stmt_whole d t ts g (sound_for d inner each t ts g is found)
  sound_begun d inner each t ts g (kind.Keyword k.Break) is found = stmt_whole d t ts g (sound_word_alone d inner each t ts g s.Break (λ e h. break t e is h) found)
  sound_begun d inner each t ts g (kind.Keyword k.Continue) is found = stmt_whole d t ts g (sound_word_alone d inner each t ts g s.Continue (λ e h. continue t e is h) found)
  sound_begun d inner each t ts g (kind.Keyword k.Return) is found = stmt_whole d t ts g (sound_return d inner each t ts g is found)
  sound_begun d inner each t ts g (kind.Keyword k.Spawn) is found = stmt_whole d t ts g (sound_spawn d inner each t ts g is found)
  sound_begun d inner each t ts g (kind.Keyword k.Ps) is found = stmt_whole d t ts g (sound_ps d inner each t ts g is found)
  sound_begun d inner each t ts g (kind.Keyword k.Psm) is found = stmt_whole d t ts g (sound_psm d inner each t ts g is found)
  sound_begun d inner each t ts g (kind.Keyword k.Printf) is found = stmt_whole d t ts g (sound_print d inner each t ts g is found)
  sound_begun d inner each t ts g (kind.Keyword k.Int) is found = absurd (cc)
  sound_begun d inner each t ts g (kind.Keyword k.Const) is found = absurd (cc)
  sound_begun d inner each t ts g (kind.Keyword k.Volatile) is found = absurd (cc)
  sound_begun d inner each t ts g _ is found = sound_value d (t ∷ ts) g found

  sound_of : (d : ℕ) (inner : ReaderOf RawStmt) → IsSoundStmt d inner → IsSoundStmt (suc d) (stmt_of source (expression source d) (expression source (pred d)) inner (piece_of source d inner))
  sound_of d inner each [] g found = absurd (cc)
  sound_of d inner each (t ∷ ts) g found = sound_begun d inner each t ts g t.kind refl found

  pub sound_stmt : (depth : ℕ) (ts : Tokens) (g : Got RawStmt) → read_stmt source depth ts ≡ Some g → SoundStmt depth ts g
  unfolding read_stmt
  sound_stmt zero ts g found = absurd (cc)
  sound_stmt (suc d) ts g found = sound_of d (read_stmt source d) (sound_stmt d) ts g found
