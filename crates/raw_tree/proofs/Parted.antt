-- Lists that are parted by commas: what is spelled is read, and what is read is spelled.
use Rattle.std.proofs.Common.{◌≡◌, ℕ, zero, suc, max, ◌≤◌, true, false, cond, List, [], ◌∷◌, ◌++◌, length, length-append, append_assoc, Bool, Option, Some, None, refl, sym, ap, subst, ◌∙◌, arith}
use Rattle.std.proofs.lemmas.Option.{same_Some}
use Rattle.xmt_lex.specs.declared.Token.{Token}
use Rattle.xmt_lex.specs.declared.TokenKind.{TokenKind}
use Rattle.xmt_lex.specs.declared.TokenKind.TheVariants as kind
use Rattle.xmt_lex.specs.declared.kinds.Mark.TheVariants as m
use Rattle.raw_tree.specs.Level.{Tokens, Parted, last_one, more_ones}
use Rattle.raw_tree.specs.Reading.{Got, ReaderOf, got, past, comma, parted, parted_step, parted_on, read_parted}

-- ---- steps on tokens

pub is_comma : (k : TokenKind) → comma k ≡ true → k ≡ kind.Mark m.Comma
is_comma (kind.Mark m.Comma) h = refl
is_comma _ h = absurd (cc)

-- a token that was taken
pub past_some : (test : TokenKind → Bool) (ts us : Tokens) → past test ts ≡ Some us → (t : Token) × (ts ≡ t ∷ us) × (test t.kind ≡ true)
past_some test [] us h = absurd (cc)
past_some test (t ∷ ts) us h = taken (test t.kind) refl h
  where
    taken : (b : Bool) → test t.kind ≡ b → cond b (Some ts) None ≡ Some us → (u : Token) × (t ∷ ts ≡ u ∷ us) × (test u.kind ≡ true)
    taken true is found = (t, ap (λ (w : Tokens). t ∷ w) (same_Some ts us found), is)
    taken false is found = absurd (cc)

pub got_same : {A : Type 0} (a b : A) (i j : ℕ) (r : Tokens) → a ≡ b → i ≡ j → got a i r ≡ got b j r
got_same a b i j r is nests = ap (λ x. got x i r) is ∙ ap (λ (n : ℕ). got b n r) nests

-- what is read and what stands behind it, then a token and more
pub joined : (ts x us y rest behind : Tokens) (t : Token) → ts ≡ x ++ behind → behind ≡ t ∷ us → us ≡ y ++ rest → ts ≡ (x ++ t ∷ y) ++ rest
joined ts x us y rest behind t first next last = first ∙ ap (λ (w : Tokens). x ++ w) (next ∙ ap (λ (w : Tokens). t ∷ w) last) ∙ sym (append_assoc x (t ∷ y) rest)

abbrev pub NoComma : Tokens → Type 0
NoComma [] = Unit {0}
NoComma (t ∷ ts) = comma t.kind ≡ false

no_comma : (r : Tokens) → NoComma r → past comma r ≡ None
no_comma [] h = refl
no_comma (t ∷ ts) h = rw h

a_comma : (t : Token) (ts : Tokens) → t.kind ≡ kind.Mark m.Comma → past comma (t ∷ ts) ≡ Some ts
a_comma t ts k = rw k

module _ (A : Type 0) (S : ℕ → A → Tokens → Type 0) (one : ReaderOf A) (depth : ℕ) where
  -- ---- what is spelled is read

  last_read : (turns : ℕ) (done : List A) (base n : ℕ) (a : A) (ts r : Tokens) → one ts ≡ got a n r → NoComma r → parted one turns done base ts ≡ got (done ++ a ∷ []) (max base n) r
  unfolding parted
  last_read zero done base n a ts r found ends = rw (found, no_comma r ends)
  last_read (suc f) done base n a ts r found ends = rw (found, no_comma r ends)

  more_read : (f : ℕ) (done : List A) (base n : ℕ) (a : A) (ts us : Tokens) (t : Token) → one ts ≡ got a n (t ∷ us) → t.kind ≡ kind.Mark m.Comma → parted one (suc f) done base ts ≡ parted one f (done ++ a ∷ []) (max base n) us
  unfolding parted
  more_read f done base n a ts us t found k =
      ap (parted_step (parted one f) done base) found ∙ ap (parted_on (parted one f) (done ++ a ∷ []) (max base n) (t ∷ us)) (a_comma t us k)

  pub complete_parted : (Stop : Tokens → Type 0) → ((n : ℕ) (a : A) (x r : Tokens) → S n a x → n ≤ depth → Stop r → one (x ++ r) ≡ got a n r) →
      ((t : Token) (ts : Tokens) → t.kind ≡ kind.Mark m.Comma → Stop (t ∷ ts)) → {n : ℕ} {all : List A} {x : Tokens} → Parted A S n all x →
      (turns : ℕ) (done : List A) (base : ℕ) (r : Tokens) → length x ≤ turns → n ≤ depth → Stop r → NoComma r → parted one turns done base (x ++ r) ≡ got (done ++ all) (max base n) r
  complete_parted Stop each at_comma (last_one {n = n} {a = a} {x = x} h) turns done base r long fits stop ends =
      last_read turns done base n a (x ++ r) r (each n a x r h fits stop) ends
  complete_parted Stop each at_comma (more_ones t {i = i} {j = j} {a = a} {rest = rest} {x = x} {y = y} h k others) zero done base r long fits stop ends =
      absurd (omega (arith, length-append x (t ∷ y), long))
  complete_parted Stop each at_comma (more_ones t {i = i} {j = j} {a = a} {rest = rest} {x = x} {y = y} h k others) (suc f) done base r long fits stop ends =
      ap (parted one (suc f) done base) (append_assoc x (t ∷ y) r)
      ∙ more_read f done base i a (x ++ (t ∷ (y ++ r))) (y ++ r) t (each i a x (t ∷ (y ++ r)) h (omega arith) (at_comma t (y ++ r) k)) k
      ∙ complete_parted Stop each at_comma others f (done ++ a ∷ []) (max base i) r (omega (arith, length-append x (t ∷ y), long)) (omega arith) stop ends
      ∙ got_same ((done ++ a ∷ []) ++ rest) (done ++ a ∷ rest) (max (max base i) j) (max base (max i j)) r (append_assoc done (a ∷ []) rest) (omega arith)

  pub complete_list : (Stop : Tokens → Type 0) → ((n : ℕ) (a : A) (x r : Tokens) → S n a x → n ≤ depth → Stop r → one (x ++ r) ≡ got a n r) →
      ((t : Token) (ts : Tokens) → t.kind ≡ kind.Mark m.Comma → Stop (t ∷ ts)) → {n : ℕ} {all : List A} {x : Tokens} → Parted A S n all x →
      (r : Tokens) → n ≤ depth → Stop r → NoComma r → read_parted one (x ++ r) ≡ got all n r
  complete_list Stop each at_comma {n = n} {all = all} {x = x} h r fits stop ends =
      complete_parted Stop each at_comma h (length (x ++ r)) [] 0 r (omega (arith, length-append x r)) fits stop ends ∙ got_same all all (max 0 n) n r refl (omega arith)

  -- ---- what is read is spelled

  abbrev pub SoundOne : Tokens → Got A → Type 0
  SoundOne ts g = (x : Tokens) × (ts ≡ x ++ g.rest) × S g.nest g.tree x × (g.nest ≤ depth)

  abbrev pub SoundList : List A → ℕ → Tokens → Got (List A) → Type 0
  SoundList done base ts g = (all : List A) × (n : ℕ) × (x : Tokens) × (ts ≡ x ++ g.rest) × Parted A S n all x × (g.tree ≡ done ++ all) × (g.nest ≡ max base n) × (n ≤ depth)

  abbrev SoundMore : (List A → ℕ → Tokens → Option (Got (List A))) → Type 0
  SoundMore more = (done : List A) (base : ℕ) (ts : Tokens) (g : Got (List A)) → more done base ts ≡ Some g → SoundList done base ts g

  sound_on : (more : List A → ℕ → Tokens → Option (Got (List A))) → SoundMore more → (done : List A) (base : ℕ) (ts : Tokens) (a : Got A) (g : Got (List A)) → SoundOne ts a →
      (answer : Option Tokens) → past comma a.rest ≡ answer → parted_on more (done ++ a.tree ∷ []) (max base a.nest) a.rest answer ≡ Some g → SoundList done base ts g
  sound_on more sound done base ts a g (x, split, spelled, fits) None is found =
      subst (SoundList done base ts) (same_Some _ g found) (a.tree ∷ [], a.nest, x, split, last_one spelled, refl, refl, fits)
  sound_on more sound done base ts a g (x, split, spelled, fits) (Some us) is found =
      let taken = past_some comma a.rest us is in
      let rest = sound (done ++ a.tree ∷ []) (max base a.nest) us g found in (
        a.tree ∷ rest.0,
        max a.nest rest.1,
        x ++ taken.0 ∷ rest.2,
        joined ts x us rest.2 g.rest a.rest taken.0 split taken.1 rest.3,
        more_ones taken.0 spelled (is_comma taken.0.kind taken.2) rest.4,
        rest.5 ∙ append_assoc done (a.tree ∷ []) rest.0,
        omega (arith, rest.6),
        omega (arith, fits, rest.7),
      )

  sound_step : (more : List A → ℕ → Tokens → Option (Got (List A))) → SoundMore more → ((ts : Tokens) (g : Got A) → one ts ≡ Some g → SoundOne ts g) → (done : List A) (base : ℕ) (ts : Tokens) (g : Got (List A)) →
      (answer : Option (Got A)) → one ts ≡ answer → parted_step more done base answer ≡ Some g → SoundList done base ts g
  sound_step more sound each done base ts g None is found = absurd (cc)
  sound_step more sound each done base ts g (Some a) is found = sound_on more sound done base ts a g (each ts a is) (past comma a.rest) refl found

  pub sound_parted : ((ts : Tokens) (g : Got A) → one ts ≡ Some g → SoundOne ts g) → (turns : ℕ) (done : List A) (base : ℕ) (ts : Tokens) (g : Got (List A)) → parted one turns done base ts ≡ Some g → SoundList done base ts g
  unfolding parted
  sound_parted each zero done base ts g found = sound_step (λ all k us. None) (λ all k us h none. absurd (cc)) each done base ts g (one ts) refl found
  sound_parted each (suc f) done base ts g found = sound_step (parted one f) (λ all k us h more. sound_parted each f all k us h more) each done base ts g (one ts) refl found

  pub sound_list : ((ts : Tokens) (g : Got A) → one ts ≡ Some g → SoundOne ts g) → (ts : Tokens) (g : Got (List A)) → read_parted one ts ≡ Some g → (x : Tokens) × (ts ≡ x ++ g.rest) × Parted A S g.nest g.tree x × (g.nest ≤ depth)
  sound_list each ts g found =
      let all = sound_parted each (length ts) [] 0 ts g found in
      let nests : g.nest ≡ all.1 = omega (arith, all.6) in
      (all.2, all.3, subst (λ (n : ℕ). Parted A S n g.tree all.2) (sym nests) (subst (λ (trees : List A). Parted A S all.1 trees all.2) (sym all.5) all.4), omega (arith, nests, all.7))
