-- Whatever is read is spelled by the tokens that were taken.
use Rattle.std.proofs.Common.{◌≡◌, ℕ, zero, suc, pred, max, ◌<◌, ◌≤◌, Bool, true, false, nat_lt, ◌==◌, cond, List, [], ◌∷◌, ◌++◌, append_assoc, append-nil, Option, Some, None, refl, sym, ap, subst, ◌∙◌, arith, ◌⊎◌, ⊎_elim, inl, inr}
use Rattle.std.proofs.lemmas.Bool.Decides.{nat_tests}
use Rattle.std.proofs.lemmas.Option.{same_Some}
use Rattle.xmt_base.specs.declared.Place.{Place}
use Rattle.xmt_lex.specs.declared.Token.{Token}
use Rattle.xmt_lex.specs.declared.TokenKind.{TokenKind}
use Rattle.xmt_lex.specs.declared.TokenKind.TheVariants as kind
use Rattle.xmt_lex.specs.declared.kinds.Mark.{Mark}
use Rattle.xmt_lex.specs.declared.kinds.Mark.TheVariants as m
use Rattle.raw_tree.specs.declared.tree.RawSpot.{RawSpot}
use Rattle.raw_tree.specs.declared.tree.RawSpot.TheVariants as spot
use Rattle.raw_tree.specs.declared.tree.RawExpr.{RawExpr}
use Rattle.raw_tree.specs.declared.tree.RawExprKind.{RawExprKind}
use Rattle.raw_tree.specs.declared.tree.RawExprKind.TheVariants as e
use Rattle.raw_tree.specs.Level.{Tokens, Level, Parted, last_one, more_ones, Post, Tight, Cond, Whole, joins, joins_mark, Stops, is_prefix, is_step}
use Rattle.raw_tree.specs.Grammar.{node, name_of, SpellsSpot, name, element, Spells, SpellsValues, no_values_between, values_between, SpellsList, last_value, more_values, number, dollar, brackets, call, read, step_after, step_before, prefix, binary, choose, assign, as_unary, as_binary, as_cond, as_expr}
use Rattle.raw_tree.specs.Reading.{Reader, GotExpr, got, GotSpot, got, chain, chained, chosen, chosen_behind, chosen_middle, chosen_colon, chosen_last, assigned, assigned_behind, assigned_kind, assigned_value, mark_of, open_square, close_square, close_round, colon, read_spot, indexed, indexed_close, stepped, stepped_behind, stepped_before, step_spot, step_place, open_round, Got, read_parted, read_values, values_close, values_behind, called, named, is_step_kind, begun, in_brackets, bracketed, prefixed, marked, unary_begun, read_post, read_unary, read_binary, read_or, read_cond, readers}
use Rattle.raw_tree.proofs.Parted.{sound_list}
use Rattle.raw_tree.proofs.Complete.{complete}

-- ---- what the tests of a token say

pub is_close_round : (k : TokenKind) → close_round k ≡ true → k ≡ kind.Mark m.CloseRound
is_close_round (kind.Mark m.CloseRound) h = refl
is_close_round _ h = absurd (cc)

pub is_close_square : (k : TokenKind) → close_square k ≡ true → k ≡ kind.Mark m.CloseSquare
is_close_square (kind.Mark m.CloseSquare) h = refl
is_close_square _ h = absurd (cc)

pub is_open_square : (k : TokenKind) → open_square k ≡ true → k ≡ kind.Mark m.OpenSquare
is_open_square (kind.Mark m.OpenSquare) h = refl
is_open_square _ h = absurd (cc)

pub is_open_round : (k : TokenKind) → open_round k ≡ true → k ≡ kind.Mark m.OpenRound
is_open_round (kind.Mark m.OpenRound) h = refl
is_open_round _ h = absurd (cc)

is_colon : (k : TokenKind) → colon k ≡ true → k ≡ kind.Mark m.Colon
is_colon (kind.Mark m.Colon) h = refl
is_colon _ h = absurd (cc)

is_question : (k : TokenKind) → joins k ≡ 12 → k ≡ kind.Mark m.Question
is_question (kind.Mark m.Question) h = refl
is_question (kind.Mark _) h = absurd (omega (arith, h))
is_question _ h = absurd (omega (arith, h))

is_a_step : (k : TokenKind) → is_step_kind k ≡ true → (k ≡ kind.Mark (mark_of k)) × (is_step (mark_of k) ≡ true)
is_a_step (kind.Mark m) h = (refl, h)
is_a_step _ h = absurd (cc)

joins_as_mark : (k : TokenKind) → joins k < 14 → (k ≡ kind.Mark (mark_of k)) × (joins_mark (mark_of k) ≡ joins k)
joins_as_mark (kind.Mark m) h = (refl, refl)
joins_as_mark _ h = absurd (omega (arith, h))

-- ---- taking a choice apart

pub chosen_true : {A : Type 0} (b : Bool) (x y z : A) → cond b x y ≡ z → ((b ≡ true) × (x ≡ z)) ⊎ ((b ≡ false) × (y ≡ z))
chosen_true true x y z h = inl (refl, h)
chosen_true false x y z h = inr (refl, h)

pub if_some : {A : Type 0} (b : Bool) (x : Option A) (z : A) → cond b x None ≡ Some z → (b ≡ true) × (x ≡ Some z)
if_some true x z h = (refl, h)
if_some false x z h = absurd (cc)

same_number : (i j : ℕ) → (i == j) ≡ true → i ≡ j
same_number i j h = grind (arith, nat_tests)

is_below : (i j : ℕ) → nat_lt i j ≡ true → i < j
is_below i j h = grind (arith, nat_tests)

unsome : Option GotExpr → GotExpr → GotExpr
unsome None g = g
unsome (Some g) h = g

same_got : (g h : GotExpr) → Some g ≡ Some h → g ≡ h
unfolding unsome
same_got g h is = ap (λ (o : Option GotExpr). unsome o g) is

unsome_spot : Option GotSpot → GotSpot → GotSpot
unsome_spot None g = g
unsome_spot (Some g) h = g

same_spot : (g h : GotSpot) → Some g ≡ Some h → g ≡ h
unfolding unsome_spot
same_spot g h is = ap (λ (o : Option GotSpot). unsome_spot o g) is

fits_true : (b : Bool) (x : Option GotExpr) (g : GotExpr) → elim b [ true ↦ x | false ↦ None ] ≡ Some g → (b ≡ true) × (x ≡ Some g)
fits_true true x g h = (refl, h)
fits_true false x g h = absurd (cc)

module _ (source : List ℕ) where
  -- what was read of these tokens is spelled by those that were taken, and its nesting is at most depth
  abbrev pub Sound : Level → ℕ → Tokens → GotExpr → Type 0
  Sound l depth ts g = (x : Tokens) × (ts ≡ x ++ g.rest) × Spells source g.nest l g.tree x × (g.nest ≤ depth)

  abbrev IsSound : Level → ℕ → Reader → Type 0
  IsSound l depth reader = (ts : Tokens) (g : GotExpr) → reader ts ≡ Some g → Sound l depth ts g

  -- of a place: behind a name
  abbrev pub SoundSpot : ℕ → Token → Tokens → GotSpot → Type 0
  SoundSpot depth t ts g = (x : Tokens) × (ts ≡ x ++ g.rest) × SpellsSpot source g.nest g.tree t.place (t ∷ x) × (g.nest ≤ depth)

  -- a token that closes, behind what was read
  closes : (x rest us : Tokens) (c : Token) (ts : Tokens) → ts ≡ x ++ rest → rest ≡ c ∷ us → ts ≡ (x ++ c ∷ []) ++ us
  closes x rest us c ts is more = is ∙ ap (λ (w : Tokens). x ++ w) more ∙ sym (append_assoc x (c ∷ []) us)

  sound_close_square : (depth : ℕ) (t o : Token) (ts : Tokens) (g : GotExpr) (rest : Tokens) → t.kind ≡ kind.Name → o.kind ≡ kind.Mark m.OpenSquare → Sound Whole depth ts g → g.rest ≡ rest → (h : GotSpot) →
      indexed_close (name_of source t) g.tree g.nest rest ≡ Some h → SoundSpot depth t (o ∷ ts) h
  sound_close_square depth t o ts g [] k ko sound is h found = absurd (cc)
  sound_close_square depth t o ts g (c ∷ us) k ko (x, split, spelled, fits) is h found =
      let choice = if_some (close_square c.kind) (got (spot.Element (name_of source t) g.tree) g.nest us) h found in
      let value = same_spot _ h choice.1 in
      subst (SoundSpot depth t (o ∷ ts)) value
      (o ∷ (x ++ c ∷ []), ap (λ (w : Tokens). o ∷ w) (closes x g.rest us c ts split is), element t o c k ko spelled (is_close_square c.kind choice.0), fits)

  sound_indexed : (depth : ℕ) (t o : Token) (ts : Tokens) (whole : Reader) → t.kind ≡ kind.Name → o.kind ≡ kind.Mark m.OpenSquare → IsSound Whole depth whole → (answer : Option GotExpr) → whole ts ≡ answer → (h : GotSpot) →
      indexed (name_of source t) answer ≡ Some h → SoundSpot depth t (o ∷ ts) h
  sound_indexed depth t o ts whole k ko sound None is h found = absurd (cc)
  sound_indexed depth t o ts whole k ko sound (Some g) is h found = sound_close_square depth t o ts g g.rest k ko (sound ts g is) refl h found

  sound_spot : (depth : ℕ) (whole : Reader) (t : Token) (ts : Tokens) → t.kind ≡ kind.Name → IsSound Whole depth whole → (h : GotSpot) → read_spot whole (name_of source t) ts ≡ Some h → SoundSpot depth t ts h
  sound_spot depth whole t [] k sound h found = subst (SoundSpot depth t []) (same_spot _ h found) ([], refl, name t k, omega arith)
  sound_spot depth whole t (o ∷ ts) k sound h found =
      ⊎_elim
      (λ (square, is). sound_indexed depth t o ts whole k (is_open_square o.kind square) sound (whole ts) refl h is)
      (λ (other, is). subst (SoundSpot depth t (o ∷ ts)) (same_spot _ h is) ([], refl, name t k, omega arith))
      (chosen_true (open_square o.kind) _ _ (Some h) found)

  sound_stepped : (depth : ℕ) (t : Token) (ts : Tokens) (g : GotSpot) (rest : Tokens) → SoundSpot depth t ts g → g.rest ≡ rest → (h : GotExpr) → stepped t.place g.tree g.nest rest ≡ Some h → Sound Post (suc depth) (t ∷ ts) h
  sound_stepped depth t ts g [] (x, split, spelled, fits) is h found =
      subst (Sound Post (suc depth) (t ∷ ts)) (same_got _ h found) (t ∷ x, ap (λ (w : Tokens). t ∷ w) (split ∙ ap (λ (w : Tokens). x ++ w) is), read spelled, omega arith)
  sound_stepped depth t ts g (u ∷ us) (x, split, spelled, fits) is h found =
      ⊎_elim
      (λ (steps, value). subst (Sound Post (suc depth) (t ∷ ts)) (same_got _ h value)
      (t ∷ (x ++ u ∷ []), ap (λ (w : Tokens). t ∷ w) (closes x g.rest us u ts split is), step_after u spelled (is_a_step u.kind steps).0 (is_a_step u.kind steps).1, omega arith))
      (λ (other, value). subst (Sound Post (suc depth) (t ∷ ts)) (same_got _ h value) (t ∷ x, ap (λ (w : Tokens). t ∷ w) (split ∙ ap (λ (w : Tokens). x ++ w) is), read spelled, omega arith))
      (chosen_true (is_step_kind u.kind) _ _ (Some h) found)

  sound_named : (depth : ℕ) (whole : Reader) (t : Token) (ts : Tokens) → t.kind ≡ kind.Name → IsSound Whole depth whole → (answer : Option GotSpot) → read_spot whole (name_of source t) ts ≡ answer → (h : GotExpr) →
      stepped_behind t.place answer ≡ Some h → Sound Post (suc depth) (t ∷ ts) h
  sound_named depth whole t ts k sound None is h found = absurd (cc)
  sound_named depth whole t ts k sound (Some g) is h found = sound_stepped depth t ts g g.rest (sound_spot depth whole t ts k sound g is) refl h found

  pub list_of : {n : ℕ} {values : List RawExpr} {x : Tokens} → Parted RawExpr (λ n a x. Spells source n Whole a x) n values x → SpellsList source n values x
  list_of (last_one h) = last_value h
  list_of (more_ones t h k rest) = more_values t h k (list_of rest)

  abbrev SoundValues : ℕ → Tokens → Got (List RawExpr) → Type 0
  SoundValues depth ts g = (x : Tokens) × (c : Token) × (ts ≡ x ++ (c ∷ g.rest)) × (c.kind ≡ kind.Mark m.CloseRound) × SpellsValues source g.nest g.tree x × (g.nest ≤ depth)

  same_values : (g h : Got (List RawExpr)) → Some g ≡ Some h → g ≡ h
  same_values g h is = same_Some g h is

  sound_values_close : (depth : ℕ) (ts : Tokens) (v : Got (List RawExpr)) (rest : Tokens) (x : Tokens) → ts ≡ x ++ v.rest → SpellsList source v.nest v.tree x → v.nest ≤ depth → v.rest ≡ rest → (g : Got (List RawExpr)) →
      values_close v.tree v.nest rest ≡ Some g → SoundValues depth ts g
  sound_values_close depth ts v [] x split spelled fits is g found = absurd (cc)
  sound_values_close depth ts v (c ∷ us) x split spelled fits is g found =
      let choice = if_some (close_round c.kind) (got v.tree v.nest us) g found in
      subst (SoundValues depth ts) (same_values _ g choice.1) (x, c, split ∙ ap (λ (w : Tokens). x ++ w) is, is_close_round c.kind choice.0, values_between spelled, fits)

  sound_values_behind : (depth : ℕ) (whole : Reader) (ts : Tokens) → IsSound Whole depth whole → (answer : Option (Got (List RawExpr))) → read_parted whole ts ≡ answer → (g : Got (List RawExpr)) →
      values_behind answer ≡ Some g → SoundValues depth ts g
  sound_values_behind depth whole ts sound None is g found = absurd (cc)
  sound_values_behind depth whole ts sound (Some v) is g found =
      let all = sound_list RawExpr (λ n a x. Spells source n Whole a x) whole depth sound ts v is in
      sound_values_close depth ts v v.rest all.0 all.1 (list_of all.2) all.3 refl g found

  sound_values : (depth : ℕ) (whole : Reader) (ts : Tokens) → IsSound Whole depth whole → (g : Got (List RawExpr)) → read_values whole ts ≡ Some g → SoundValues depth ts g
  sound_values depth whole [] sound g found = absurd (cc)
  sound_values depth whole (t ∷ ts) sound g found =
      ⊎_elim
      (λ (closes_at, value). subst (SoundValues depth (t ∷ ts)) (same_values _ g value) ([], t, refl, is_close_round t.kind closes_at, no_values_between, omega arith))
      (λ (other, value). sound_values_behind depth whole (t ∷ ts) sound (read_parted whole (t ∷ ts)) refl g value)
      (chosen_true (close_round t.kind) _ _ (Some g) found)

  sound_called : (depth : ℕ) (whole : Reader) (t o : Token) (ts : Tokens) → t.kind ≡ kind.Name → o.kind ≡ kind.Mark m.OpenRound → IsSound Whole depth whole → (answer : Option (Got (List RawExpr))) → read_values whole ts ≡ answer → (h : GotExpr) →
      called t.place (name_of source t) answer ≡ Some h → Sound Post (suc depth) (t ∷ o ∷ ts) h
  sound_called depth whole t o ts k ko sound None is h found = absurd (cc)
  sound_called depth whole t o ts k ko sound (Some g) is h found =
      let (x, c, split, kc, spelled, fits) = sound_values depth whole ts sound g is in
      subst (Sound Post (suc depth) (t ∷ o ∷ ts)) (same_got _ h found)
      (t ∷ o ∷ (x ++ c ∷ []), ap (λ (w : Tokens). t ∷ o ∷ w) (split ∙ sym (append_assoc x (c ∷ []) g.rest)), call t o c k ko spelled kc, omega arith)

  sound_after_name : (depth : ℕ) (whole : Reader) (t : Token) (ts : Tokens) → t.kind ≡ kind.Name → IsSound Whole depth whole → (h : GotExpr) → named source whole t ts ≡ Some h → Sound Post (suc depth) (t ∷ ts) h
  sound_after_name depth whole t [] k sound h found = sound_named depth whole t [] k sound (read_spot whole (name_of source t) []) refl h found
  sound_after_name depth whole t (o ∷ ts) k sound h found =
      ⊎_elim
      (λ (round, value). sound_called depth whole t o ts k (is_open_round o.kind round) sound (read_values whole ts) refl h value)
      (λ (other, value). sound_named depth whole t (o ∷ ts) k sound (read_spot whole (name_of source t) (o ∷ ts)) refl h value)
      (chosen_true (open_round o.kind) _ _ (Some h) found)

  sound_bracketed : (depth : ℕ) (t : Token) (ts : Tokens) (g : GotExpr) (rest : Tokens) → t.kind ≡ kind.Mark m.OpenRound → Sound Whole depth ts g → g.rest ≡ rest → (h : GotExpr) → bracketed t.place g.tree g.nest rest ≡ Some h → Sound Post (suc depth) (t ∷ ts) h
  sound_bracketed depth t ts g [] k sound is h found = absurd (cc)
  sound_bracketed depth t ts g (c ∷ us) k (x, split, spelled, fits) is h found =
      let choice = if_some (close_round c.kind) (got (node t.place (e.Brackets g.tree)) (suc g.nest) us) h found in
      subst (Sound Post (suc depth) (t ∷ ts)) (same_got _ h choice.1)
      (t ∷ (x ++ c ∷ []), ap (λ (w : Tokens). t ∷ w) (closes x g.rest us c ts split is), brackets t c k spelled (is_close_round c.kind choice.0), omega arith)

  sound_in_brackets : (depth : ℕ) (whole : Reader) (t : Token) (ts : Tokens) → t.kind ≡ kind.Mark m.OpenRound → IsSound Whole depth whole → (answer : Option GotExpr) → whole ts ≡ answer → (h : GotExpr) → in_brackets t.place answer ≡ Some h → Sound Post (suc depth) (t ∷ ts) h
  sound_in_brackets depth whole t ts k sound None is h found = absurd (cc)
  sound_in_brackets depth whole t ts k sound (Some g) is h found = sound_bracketed depth t ts g g.rest k (sound ts g is) refl h found

  sound_begun : (depth : ℕ) (whole : Reader) (t : Token) (k : TokenKind) (ts : Tokens) → t.kind ≡ k → IsSound Whole depth whole → (h : GotExpr) → begun source whole t k ts ≡ Some h → Sound Post (suc depth) (t ∷ ts) h
  sound_begun depth whole t (kind.Number v) ts k sound h found = subst (Sound Post (suc depth) (t ∷ ts)) (same_got _ h found) (t ∷ [], refl, number t k, omega arith)
  sound_begun depth whole t kind.Name ts k sound h found = sound_after_name depth whole t ts k sound h found
  sound_begun depth whole t (kind.Mark m.Dollar) ts k sound h found = subst (Sound Post (suc depth) (t ∷ ts)) (same_got _ h found) (t ∷ [], refl, dollar t k, omega arith)
  sound_begun depth whole t (kind.Mark m.OpenRound) ts k sound h found = sound_in_brackets depth whole t ts k sound (whole ts) refl h found
  sound_begun depth whole t (kind.Mark _) ts k sound h found = absurd (cc)
  sound_begun depth whole t _ ts k sound h found = absurd (cc)

  sound_post : (depth : ℕ) (whole : Reader) → IsSound Whole depth whole → IsSound Post (suc depth) (read_post source whole)
  sound_post depth whole sound [] g found = absurd (cc)
  sound_post depth whole sound (t ∷ ts) g found = sound_begun depth whole t t.kind ts refl sound g found

  post_unary : (depth : ℕ) (ts : Tokens) (g : GotExpr) → Sound Post depth ts g → Sound (Tight 0) depth ts g
  post_unary depth ts g (x, split, spelled, fits) = (x, split, as_unary spelled, fits)

  sound_prefixed : (depth : ℕ) (inner : Reader) (t : Token) (m : Mark) (ts : Tokens) → t.kind ≡ kind.Mark m → is_prefix m ≡ true → IsSound (Tight 0) depth inner → (answer : Option GotExpr) → inner ts ≡ answer → (h : GotExpr) → prefixed t.place m answer ≡ Some h → Sound (Tight 0) (suc depth) (t ∷ ts) h
  sound_prefixed depth inner t m ts k q sound None is h found = absurd (cc)
  sound_prefixed depth inner t m ts k q sound (Some g) is h found =
      let part = sound ts g is in
      subst (Sound (Tight 0) (suc depth) (t ∷ ts)) (same_got _ h found) (t ∷ part.0, ap (λ (w : Tokens). t ∷ w) part.1, prefix t k q part.2, omega (arith, part.3))

  sound_step_spot : (depth : ℕ) (whole : Reader) (u : Token) (k : TokenKind) (ts : Tokens) → u.kind ≡ k → IsSound Whole depth whole → (g : GotSpot) → step_spot source whole u k ts ≡ Some g → SoundSpot depth u ts g
  sound_step_spot depth whole u kind.Name ts k sound g found = sound_spot depth whole u ts k sound g found
  sound_step_spot depth whole u _ ts k sound g found = absurd (cc)

  sound_stepped_before : (depth : ℕ) (whole : Reader) (t : Token) (m : Mark) (ts : Tokens) → t.kind ≡ kind.Mark m → is_step m ≡ true → IsSound Whole depth whole → (answer : Option GotSpot) → step_place source whole ts ≡ answer → (h : GotExpr) →
      stepped_before t.place m answer ≡ Some h → Sound (Tight 0) (suc depth) (t ∷ ts) h
  sound_stepped_before depth whole t m ts k q sound None is h found = absurd (cc)
  sound_stepped_before depth whole t m [] k q sound (Some g) is h found = absurd (cc)
  sound_stepped_before depth whole t m (u ∷ ts) k q sound (Some g) is h found =
      let part = sound_step_spot depth whole u u.kind ts refl sound g is in
      subst (Sound (Tight 0) (suc depth) (t ∷ u ∷ ts)) (same_got _ h found) (t ∷ u ∷ part.0, ap (λ (w : Tokens). t ∷ u ∷ w) part.1, step_before t k q part.2, omega (arith, part.3))

  sound_marked : (depth : ℕ) (whole inner : Reader) (t : Token) (m : Mark) (ts : Tokens) → t.kind ≡ kind.Mark m → IsSound Whole depth whole → IsSound (Tight 0) depth inner → (h : GotExpr) → marked source whole inner t m ts ≡ Some h → Sound (Tight 0) (suc depth) (t ∷ ts) h
  sound_marked depth whole inner t m ts k sound_whole sound_inner h found =
      ⊎_elim
      (λ (is, value). sound_prefixed depth inner t m ts k is sound_inner (inner ts) refl h value)
      (λ (other, value). ⊎_elim
      (λ (is, step). sound_stepped_before depth whole t m ts k is sound_whole (step_place source whole ts) refl h step)
      (λ (still, post). post_unary (suc depth) (t ∷ ts) h (sound_begun depth whole t (kind.Mark m) ts k sound_whole h post))
      (chosen_true (is_step m) _ _ (Some h) value))
      (chosen_true (is_prefix m) _ _ (Some h) found)

  sound_unary_begun : (depth : ℕ) (whole inner : Reader) (t : Token) (k : TokenKind) (ts : Tokens) → t.kind ≡ k → IsSound Whole depth whole → IsSound (Tight 0) depth inner → (h : GotExpr) → unary_begun source whole inner t k ts ≡ Some h → Sound (Tight 0) (suc depth) (t ∷ ts) h
  sound_unary_begun depth whole inner t (kind.Mark m) ts k sound_whole sound_inner h found = sound_marked depth whole inner t m ts k sound_whole sound_inner h found
  sound_unary_begun depth whole inner t other ts k sound_whole sound_inner h found = post_unary (suc depth) (t ∷ ts) h (sound_begun depth whole t other ts k sound_whole h found)

  sound_unary : (depth : ℕ) (whole inner : Reader) → IsSound Whole depth whole → IsSound (Tight 0) depth inner → IsSound (Tight 0) (suc depth) (read_unary source whole inner)
  sound_unary depth whole inner sound_whole sound_inner [] g found = absurd (cc)
  sound_unary depth whole inner sound_whole sound_inner (t ∷ ts) g found = sound_unary_begun depth whole inner t t.kind ts refl sound_whole sound_inner g found

  -- a tree of the level that was read from the front, and what the chain reads behind it
  abbrev Behind : ℕ → ℕ → Tokens → Tokens → GotExpr → Type 0
  Behind k depth front rest g = (y : Tokens) × (rest ≡ y ++ g.rest) × Spells source g.nest (Tight (suc k)) g.tree (front ++ y) × (g.nest ≤ depth)

  abbrev turn_answer : (depth k : ℕ) → Reader → ℕ → RawExpr → ℕ → Token → Option GotExpr → Option GotExpr
  turn_answer depth k op turns a n t answer = elim answer [
    | None ↦ None
    | Some g ↦ elim (nat_lt (max n g.nest) depth) [
      | true ↦ chain depth (suc (suc k)) op turns (node a.at (e.Binary (mark_of t.kind) a g.tree)) (suc (max n g.nest)) g.rest
      | false ↦ None
    ]
  ]

  nothing_more : (k depth n : ℕ) (a : RawExpr) (front rest : Tokens) (g : GotExpr) → Spells source n (Tight (suc k)) a front → n ≤ depth → got a n rest ≡ Some g → Behind k depth front rest g
  nothing_more k depth n a front rest g spelled fits is =
      subst (Behind k depth front rest) (same_got _ g is) ([], refl, subst (Spells source n (Tight (suc k)) a) (sym (append-nil front)) spelled, fits)

  shifted : (k depth : ℕ) (front ts rest x : Tokens) (t : Token) (g : GotExpr) → ts ≡ x ++ rest → Behind k depth (front ++ t ∷ x) rest g → Behind k depth front (t ∷ ts) g
  shifted k depth front ts rest x t g split (y, more, spelled, fits) = (
    t ∷ (x ++ y),
    ap (λ (w : Tokens). t ∷ w) (split ∙ ap (λ (w : Tokens). x ++ w) more ∙ sym (append_assoc x y g.rest)),
    subst (Spells source g.nest (Tight (suc k)) g.tree) (append_assoc front (t ∷ x) y) spelled,
    fits,
  )

  joined_spells : (k n : ℕ) (a : RawExpr) (t : Token) (b : GotExpr) (front x : Tokens) → k < 11 → joins t.kind ≡ suc (suc k) → Spells source n (Tight (suc k)) a front → Spells source b.nest (Tight k) b.tree x →
      Spells source (suc (max n b.nest)) (Tight (suc k)) (node a.at (e.Binary (mark_of t.kind) a b.tree)) (front ++ t ∷ x)
  joined_spells k n a t b front x small is left right =
      let known = joins_as_mark t.kind (omega arith) in
      binary t left known.0 (known.1 ∙ is) right

  -- one turn, where what follows is sound
  sound_turn : (k depth : ℕ) (op : Reader) (turns : ℕ) (a : RawExpr) (n : ℕ) (t : Token) (ts front : Tokens) → k < 11 → IsSound (Tight k) depth op → joins t.kind ≡ suc (suc k) → Spells source n (Tight (suc k)) a front →
      ((b : RawExpr) (i : ℕ) (rest more : Tokens) (g : GotExpr) → Spells source i (Tight (suc k)) b more → i ≤ depth → chain depth (suc (suc k)) op turns b i rest ≡ Some g → Behind k depth more rest g) →
      (answer : Option GotExpr) → op ts ≡ answer → (g : GotExpr) → turn_answer depth k op turns a n t answer ≡ Some g → Behind k depth front (t ∷ ts) g
  sound_turn k depth op turns a n t ts front small sound is spelled further None from g found = absurd (cc)
  sound_turn k depth op turns a n t ts front small sound is spelled further (Some b) from g found =
      let part = sound ts b from in
      let choice = fits_true (nat_lt (max n b.nest) depth) (chain depth (suc (suc k)) op turns (node a.at (e.Binary (mark_of t.kind) a b.tree)) (suc (max n b.nest)) b.rest) g found in
      shifted k depth front ts b.rest part.0 t g part.1
      (further _ (suc (max n b.nest)) b.rest (front ++ t ∷ part.0) g (joined_spells k n a t b front part.0 small is spelled part.2) (is_below (max n b.nest) depth choice.0) choice.1)

  sound_chain : (k depth : ℕ) (op : Reader) → k < 11 → IsSound (Tight k) depth op → (turns : ℕ) (a : RawExpr) (n : ℕ) (rest front : Tokens) (g : GotExpr) → Spells source n (Tight (suc k)) a front → n ≤ depth →
      chain depth (suc (suc k)) op turns a n rest ≡ Some g → Behind k depth front rest g
  unfolding chain
  sound_chain k depth op small sound turns a n [] front g spelled fits found = nothing_more k depth n a front [] g spelled fits found
  sound_chain k depth op small sound zero a n (t ∷ ts) front g spelled fits found =
      ⊎_elim (λ (is, value). absurd (cc)) (λ (other, value). nothing_more k depth n a front (t ∷ ts) g spelled fits value)
      (chosen_true (joins t.kind == suc (suc k)) None (got a n (t ∷ ts)) (Some g) found)
  sound_chain k depth op small sound (suc turns) a n (t ∷ ts) front g spelled fits found =
      ⊎_elim
      (λ (is, value). sound_turn k depth op turns a n t ts front small sound (same_number (joins t.kind) (suc (suc k)) is) spelled
      (λ b i rest more h spells below value. sound_chain k depth op small sound turns b i rest more h spells below value) (op ts) refl g value)
      (λ (other, value). nothing_more k depth n a front (t ∷ ts) g spelled fits value)
      (chosen_true (joins t.kind == suc (suc k)) (turn_answer depth k op turns a n t (op ts)) (got a n (t ∷ ts)) (Some g) found)

  sound_chained : (k depth : ℕ) (op : Reader) → k < 11 → IsSound (Tight k) depth op → (ts : Tokens) (answer : Option GotExpr) → op ts ≡ answer → (g : GotExpr) → chained depth (suc (suc k)) op answer ≡ Some g → Sound (Tight (suc k)) depth ts g
  sound_chained k depth op small sound ts None is g found = absurd (cc)
  sound_chained k depth op small sound ts (Some b) is g found =
      let part = sound ts b is in
      let more = sound_chain k depth op small sound depth b.tree b.nest b.rest part.0 g (as_binary part.2) part.3 found in
      (part.0 ++ more.0, part.1 ∙ ap (λ (w : Tokens). part.0 ++ w) more.1 ∙ sym (append_assoc part.0 more.0 g.rest), more.2, more.3)

  sound_binary : (depth : ℕ) (tight : Reader) → IsSound (Tight 0) depth tight → (k : ℕ) → k < 12 → IsSound (Tight k) depth (read_binary depth tight k)
  unfolding read_binary
  sound_binary depth tight sound zero small ts g found = sound ts g found
  sound_binary depth tight sound (suc k) small ts g found =
      sound_chained k depth (read_binary depth tight k) (omega arith) (sound_binary depth tight sound k (omega arith)) ts (read_binary depth tight k ts) refl g found

  -- `? :`
  tight_cond : (depth : ℕ) (ts : Tokens) (g : GotExpr) → Sound (Tight 10) depth ts g → Sound Cond depth ts g
  tight_cond depth ts g (x, split, spelled, fits) = (x, split, as_cond spelled, fits)

  cond_whole : (depth : ℕ) (ts : Tokens) (g : GotExpr) → Sound Cond depth ts g → Sound Whole depth ts g
  cond_whole depth ts g (x, split, spelled, fits) = (x, split, as_expr spelled, fits)

  three : (x y z r : Tokens) (t u : Token) → x ++ (t ∷ (y ++ (u ∷ (z ++ r)))) ≡ (x ++ t ∷ (y ++ u ∷ z)) ++ r
  three x y z r t u = ap (λ (w : Tokens). x ++ (t ∷ w)) (sym (append_assoc y (u ∷ z) r)) ∙ sym (append_assoc x (t ∷ (y ++ u ∷ z)) r)

  sound_last : (d : ℕ) (last : Reader) (ts us : Tokens) (t u : Token) (a b : GotExpr) → t.kind ≡ kind.Mark m.Question → u.kind ≡ kind.Mark m.Colon → a.nest < suc d → Sound (Tight 10) (suc d) ts a → (xs : Tokens) → a.rest ≡ t ∷ xs →
      Sound Whole d xs b → b.rest ≡ u ∷ us → IsSound Cond d last → (answer : Option GotExpr) → last us ≡ answer → (g : GotExpr) → chosen_last (suc d) a.tree a.nest b.tree b.nest answer ≡ Some g → Sound Cond (suc d) ts g
  sound_last d last ts us t u a b question is_colon_mark small first xs behind_a middle behind_b sound None is g found = absurd (cc)
  sound_last d last ts us t u a b question is_colon_mark small (x, split, spelled, fits) xs behind_a (y, split_b, spelled_b, fits_b) behind_b sound (Some c) is g found =
      let part = sound us c is in
      let tail : b.rest ≡ u ∷ (part.0 ++ c.rest) = behind_b ∙ ap (λ (w : Tokens). u ∷ w) part.1 in
      let inner : a.rest ≡ t ∷ (y ++ (u ∷ (part.0 ++ c.rest))) = behind_a ∙ ap (λ (w : Tokens). t ∷ w) (split_b ∙ ap (λ (w : Tokens). y ++ w) tail) in
      subst (Sound Cond (suc d) ts) (same_got _ g found)
      (x ++ t ∷ (y ++ u ∷ part.0), split ∙ ap (λ (w : Tokens). x ++ w) inner ∙ three x y part.0 c.rest t u, choose t u spelled question spelled_b is_colon_mark part.2, omega (arith, part.3, fits_b, small))

  sound_colon : (d : ℕ) (last : Reader) (ts : Tokens) (t : Token) (a b : GotExpr) → t.kind ≡ kind.Mark m.Question → a.nest < suc d → Sound (Tight 10) (suc d) ts a → (xs : Tokens) → a.rest ≡ t ∷ xs → Sound Whole d xs b → (rest : Tokens) → b.rest ≡ rest →
      IsSound Cond d last → (g : GotExpr) → chosen_colon (suc d) last a.tree a.nest b.tree b.nest rest ≡ Some g → Sound Cond (suc d) ts g
  sound_colon d last ts t a b question small first xs behind_a middle [] behind_b sound g found = absurd (cc)
  sound_colon d last ts t a b question small first xs behind_a middle (u ∷ us) behind_b sound g found =
      let choice = if_some (colon u.kind) (chosen_last (suc d) a.tree a.nest b.tree b.nest (last us)) g found in
      sound_last d last ts us t u a b question (is_colon u.kind choice.0) small first xs behind_a middle behind_b sound (last us) refl g choice.1

  sound_middle : (d : ℕ) (whole last : Reader) (ts : Tokens) (t : Token) (a : GotExpr) → t.kind ≡ kind.Mark m.Question → a.nest < suc d → Sound (Tight 10) (suc d) ts a → (xs : Tokens) → a.rest ≡ t ∷ xs → IsSound Whole d whole → IsSound Cond d last →
      (answer : Option GotExpr) → whole xs ≡ answer → (g : GotExpr) → chosen_middle (suc d) last a.tree a.nest answer ≡ Some g → Sound Cond (suc d) ts g
  sound_middle d whole last ts t a question small first xs behind_a sound_whole sound_cond None is g found = absurd (cc)
  sound_middle d whole last ts t a question small first xs behind_a sound_whole sound_cond (Some b) is g found =
      sound_colon d last ts t a b question small first xs behind_a (sound_whole xs b is) b.rest refl sound_cond g found

  sound_chosen : (d : ℕ) (whole last : Reader) (ts : Tokens) (a : GotExpr) → Sound (Tight 10) (suc d) ts a → IsSound Whole d whole → IsSound Cond d last → (rest : Tokens) → a.rest ≡ rest → (g : GotExpr) →
      chosen (suc d) whole last a.tree a.nest rest ≡ Some g → Sound Cond (suc d) ts g
  sound_chosen d whole last ts a (x, split, spelled, fits) sound_whole sound_cond [] is g found =
      subst (Sound Cond (suc d) ts) (same_got _ g found) (x, split ∙ ap (λ (w : Tokens). x ++ w) is, as_cond spelled, fits)
  sound_chosen d whole last ts a (x, split, spelled, fits) sound_whole sound_cond (t ∷ xs) is g found =
      ⊎_elim
      (λ (question, value).
      let choice = if_some (nat_lt a.nest (suc d)) (chosen_middle (suc d) last a.tree a.nest (whole xs)) g value in
      sound_middle d whole last ts t a (is_question t.kind (same_number (joins t.kind) 12 question)) (is_below a.nest (suc d) choice.0) (x, split, spelled, fits) xs is sound_whole sound_cond (whole xs) refl g choice.1)
      (λ (other, value). subst (Sound Cond (suc d) ts) (same_got _ g value) (x, split ∙ ap (λ (w : Tokens). x ++ w) is, as_cond spelled, fits))
      (chosen_true (joins t.kind == 12) _ _ (Some g) found)

  sound_chosen_behind : (d : ℕ) (whole last op : Reader) (ts : Tokens) → IsSound (Tight 10) (suc d) op → IsSound Whole d whole → IsSound Cond d last → (answer : Option GotExpr) → op ts ≡ answer → (g : GotExpr) →
      chosen_behind (suc d) whole last answer ≡ Some g → Sound Cond (suc d) ts g
  sound_chosen_behind d whole last op ts sound sound_whole sound_cond None is g found = absurd (cc)
  sound_chosen_behind d whole last op ts sound sound_whole sound_cond (Some a) is g found = sound_chosen d whole last ts a (sound ts a is) sound_whole sound_cond a.rest refl g found

  -- an assignment: what was read as an expression is a place
  spot_of : RawExprKind → Option RawSpot
  spot_of (e.Read s) = Some s
  spot_of _ = None

  spot_known : (a : RawExpr) (p : Place) (s : RawSpot) → a ≡ node p (e.Read s) → spot_of a.kind ≡ Some s
  unfolding spot_of
  spot_known a p s is = ap (λ (b : RawExpr). spot_of b.kind) is

  unsome_name : RawSpot → Option RawSpot → RawSpot
  unsome_name s None = s
  unsome_name s (Some r) = r

  place_in : {n : ℕ} {l : Level} {a : RawExpr} {x : Tokens} → Spells source n l a x → (p : Place) (s : RawSpot) → a ≡ node p (e.Read s) → (i : ℕ) × (n ≡ suc i) × SpellsSpot source i s p x
  unfolding spot_of unsome_name
  place_in (number t k) p s is = let h = spot_known _ p s is in absurd (cc)
  place_in (dollar t k) p s is = let h = spot_known _ p s is in absurd (cc)
  place_in (brackets o c k h q) p s is = let h = spot_known _ p s is in absurd (cc)
  place_in (call t o c k q h r) p s is = let h = spot_known _ p s is in absurd (cc)
  place_in (read {n = n} {s = r} {p = q} {x = x} place) p s is =
      let spots : r ≡ s = ap (unsome_name r) (spot_known (node q (e.Read r)) p s is) in
      let places : q ≡ p = ap (λ (b : RawExpr). b.at) is in
      (n, refl, subst (λ (v : RawSpot). SpellsSpot source n v p x) spots (subst (λ (v : Place). SpellsSpot source n r v x) places place))
  place_in (step_after t h k q) p s is = let h' = spot_known _ p s is in absurd (cc)
  place_in (step_before t k q h) p s is = let h' = spot_known _ p s is in absurd (cc)
  place_in (prefix t k q h) p s is = let h' = spot_known _ p s is in absurd (cc)
  place_in (binary t h k q g) p s is = let h' = spot_known _ p s is in absurd (cc)
  place_in (choose t u h k g q i) p s is = let h' = spot_known _ p s is in absurd (cc)
  place_in (assign t h k q g) p s is = let h' = spot_known _ p s is in absurd (cc)
  place_in (as_unary h) p s is = place_in h p s is
  place_in (as_binary h) p s is = place_in h p s is
  place_in (as_cond h) p s is = place_in h p s is
  place_in (as_expr h) p s is = place_in h p s is

  sound_value : (d : ℕ) (whole : Reader) (ts xs : Tokens) (t : Token) (a : GotExpr) (s : RawSpot) → joins t.kind ≡ 13 → Sound Cond (suc d) ts a → a.rest ≡ t ∷ xs → a.tree ≡ node a.tree.at (e.Read s) → IsSound Whole d whole →
      (answer : Option GotExpr) → whole xs ≡ answer → (g : GotExpr) → assigned_value (suc d) a.tree.at s (mark_of t.kind) a.nest answer ≡ Some g → Sound Whole (suc d) ts g
  sound_value d whole ts xs t a s joined place behind is sound None from g found = absurd (cc)
  sound_value d whole ts xs t a s joined (x, split, spelled, fits) behind is sound (Some c) from g found =
      let part = sound xs c from in
      let place = place_in spelled a.tree.at s is in
      let index : pred a.nest ≡ place.0 = ap pred place.1 in
      let known = joins_as_mark t.kind (omega arith) in
      let whole_spelled : Spells source (suc (max (pred a.nest) c.nest)) Whole (node a.tree.at (e.Assign s (mark_of t.kind) c.tree)) (x ++ t ∷ part.0) =
      subst (λ (n : ℕ). Spells source (suc (max n c.nest)) Whole (node a.tree.at (e.Assign s (mark_of t.kind) c.tree)) (x ++ t ∷ part.0)) (sym index) (assign t place.2 known.0 (known.1 ∙ joined) part.2) in
      subst (Sound Whole (suc d) ts) (same_got _ g found)
      (x ++ t ∷ part.0, split ∙ ap (λ (w : Tokens). x ++ w) (behind ∙ ap (λ (w : Tokens). t ∷ w) part.1) ∙ sym (append_assoc x (t ∷ part.0) c.rest), whole_spelled, omega (arith, part.3, fits, place.1, index))

  sound_kind : (d : ℕ) (whole : Reader) (ts xs : Tokens) (t : Token) (a : GotExpr) → joins t.kind ≡ 13 → Sound Cond (suc d) ts a → a.rest ≡ t ∷ xs → IsSound Whole d whole → (k : RawExprKind) → a.tree.kind ≡ k → (g : GotExpr) →
      assigned_kind (suc d) whole a.tree.at k (mark_of t.kind) a.nest xs ≡ Some g → Sound Whole (suc d) ts g
  sound_kind d whole ts xs t a joined place behind sound (e.Read s) is g found = sound_value d whole ts xs t a s joined place behind (ap (node a.tree.at) is) sound (whole xs) refl g found
  sound_kind d whole ts xs t a joined place behind sound _ is g found = absurd (cc)

  sound_assigned : (d : ℕ) (whole : Reader) (ts : Tokens) (a : GotExpr) → Sound Cond (suc d) ts a → IsSound Whole d whole → (rest : Tokens) → a.rest ≡ rest → (g : GotExpr) → assigned (suc d) whole a.tree a.nest rest ≡ Some g → Sound Whole (suc d) ts g
  sound_assigned d whole ts a (x, split, spelled, fits) sound [] is g found = subst (Sound Whole (suc d) ts) (same_got _ g found) (x, split ∙ ap (λ (w : Tokens). x ++ w) is, as_expr spelled, fits)
  sound_assigned d whole ts a (x, split, spelled, fits) sound (t ∷ xs) is g found =
      ⊎_elim
      (λ (assigns, value). sound_kind d whole ts xs t a (same_number (joins t.kind) 13 assigns) (x, split, spelled, fits) is sound a.tree.kind refl g value)
      (λ (other, value). subst (Sound Whole (suc d) ts) (same_got _ g value) (x, split ∙ ap (λ (w : Tokens). x ++ w) is, as_expr spelled, fits))
      (chosen_true (joins t.kind == 13) _ _ (Some g) found)

  sound_assigned_behind : (d : ℕ) (whole op : Reader) (ts : Tokens) → IsSound Cond (suc d) op → IsSound Whole d whole → (answer : Option GotExpr) → op ts ≡ answer → (g : GotExpr) → assigned_behind (suc d) whole answer ≡ Some g → Sound Whole (suc d) ts g
  sound_assigned_behind d whole op ts sound sound_whole None is g found = absurd (cc)
  sound_assigned_behind d whole op ts sound sound_whole (Some a) is g found = sound_assigned d whole ts a (sound ts a is) sound_whole a.rest refl g found

  abbrev AllSound : ℕ → Type 0
  AllSound depth = IsSound (Tight 0) depth (readers source depth).of_unary × IsSound Cond depth (readers source depth).of_cond × IsSound Whole depth (readers source depth).of_expr

  all_sound : (depth : ℕ) → AllSound depth
  unfolding readers
  all_sound zero = (λ ts g found. absurd (cc), λ ts g found. absurd (cc), λ ts g found. absurd (cc))
  all_sound (suc d) =
      let less = all_sound d in
      let r = readers source d in
      let for_unary : IsSound (Tight 0) (suc d) (read_unary source r.of_expr r.of_unary) = sound_unary d r.of_expr r.of_unary less.2 less.0 in
      let for_or : IsSound (Tight 10) (suc d) (read_or source (suc d) r) = sound_binary (suc d) (read_unary source r.of_expr r.of_unary) for_unary 10 (omega arith) in
      let for_cond : IsSound Cond (suc d) (read_cond source (suc d) r) = λ ts g found. sound_chosen_behind d r.of_expr r.of_cond (read_or source (suc d) r) ts for_or less.2 less.1 (read_or source (suc d) r ts) refl g found in
      (for_unary, for_cond, λ ts g found. sound_assigned_behind d r.of_expr (read_cond source (suc d) r) ts for_cond less.2 (read_cond source (suc d) r ts) refl g found)

  -- what is read is spelled by the tokens that were taken, with its nesting, which is at most the depth
  pub sound : (depth : ℕ) (ts : Tokens) (g : GotExpr) → (readers source depth).of_expr ts ≡ Some g → Sound Whole depth ts g
  sound depth ts g found = (all_sound depth).2 ts g found

  pub sound_constant : (depth : ℕ) (ts : Tokens) (g : GotExpr) → (readers source depth).of_cond ts ≡ Some g → Sound Cond depth ts g
  sound_constant depth ts g found = (all_sound depth).1 ts g found

  pub sound_listed : (depth : ℕ) (ts : Tokens) (g : Got (List RawExpr)) → read_parted (readers source depth).of_expr ts ≡ Some g → (x : Tokens) × (ts ≡ x ++ g.rest) × SpellsList source g.nest g.tree x × (g.nest ≤ depth)
  sound_listed depth ts g found =
      let all = sound_list RawExpr (λ n a x. Spells source n Whole a x) (readers source depth).of_expr depth (sound depth) ts g found in
      (all.0, all.1, list_of all.2, all.3)

  pub sound_place : (depth : ℕ) (ts : Tokens) (g : GotSpot) → step_place source (readers source depth).of_expr ts ≡ Some g → (p : Place) × (x : Tokens) × (ts ≡ x ++ g.rest) × SpellsSpot source g.nest g.tree p x × (g.nest ≤ depth)
  sound_place depth [] g found = absurd (cc)
  sound_place depth (u ∷ ts) g found =
      let part = sound_step_spot depth (readers source depth).of_expr u u.kind ts refl (sound depth) g found in
      (u.place, u ∷ part.0, ap (λ (w : Tokens). u ∷ w) part.1, part.2, part.3)

  -- where nothing is read, no front is spelled behind which nothing goes on
  pub none_spelled : (depth : ℕ) (ts : Tokens) → (readers source depth).of_expr ts ≡ None → (n : ℕ) (a : RawExpr) (x r : Tokens) → Spells source n Whole a x → n ≤ depth → Stops 13 r → ts ≡ x ++ r → ⊥
  none_spelled depth ts nothing n a x r spelled fits stops split =
      let read_so = complete source depth n a x r spelled fits stops in
      let both : None ≡ got a n r = sym nothing ∙ ap (readers source depth).of_expr split ∙ read_so in
      absurd (cc)
