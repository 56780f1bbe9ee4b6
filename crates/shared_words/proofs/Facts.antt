-- For callers: what follows for the entries of one number.
use Rattle.std.proofs.Common.{◌≡◌, ◌≢◌, ℕ, ⊎_elim, Bool, true, false, cond, not, ◌||◌, nat_eq, filter, ne_eqb, List, [], ◌∷◌, ◌++◌, Contains, refl, sym, ap, ◌∙◌, subst, append-nil, append_assoc, eq-eqb}
use Rattle.std.proofs.lemmas.List.Elements.{All-contains, filter-append}
use Rattle.shared_words.specs.declared.log.Entry.{Entry}
use Rattle.shared_words.specs.declared.log.History.{History}
use Rattle.shared_words.specs.History.{own, is_act, acts}
use Rattle.shared_words.specs.Passes.{Appends, Begins}
use Rattle.shared_words.proofs.Lists.{in_nothing, in_cons}
use Rattle.shared_words.proofs.Histories.{own-append, own_other, own_first}

pub own_single : (e : Entry) → own e.number (e ∷ []) ≡ e ∷ []
own_single e = ap (λ (b : Bool). cond b (e ∷ []) []) (eq-eqb e.number e.number refl)

module _ {numbers : List ℕ} {before after : History} {e : Entry} (a : Appends numbers before after e) where
  own_old : (n : ℕ) → Contains numbers n → own n after.entries ≡ own n before.entries ++ own n (e ∷ [])
  own_old n c = ap (own n) a.entries ∙ (own-append n (before.entries ++ a.between) (e ∷ []) ∙ ap (λ w. w ++ own n (e ∷ []))
      (own-append n before.entries a.between ∙ (ap (λ w. own n before.entries ++ w) (All-contains (λ m. own m a.between ≡ []) numbers n a.others c) ∙ append-nil (own n before.entries))))

  -- the entries of the pass grow by the new one
  pub own_grows : Contains numbers e.number → own e.number after.entries ≡ own e.number before.entries ++ e ∷ []
  own_grows c = own_old e.number c ∙ ap (λ w. own e.number before.entries ++ w) (own_single e)

  -- those with another of its numbers stay
  pub own_stays : (n : ℕ) → Contains numbers n → e.number ≢ n → own n after.entries ≡ own n before.entries
  own_stays n c other = own_old n c ∙ (ap (λ w. own n before.entries ++ w) (own_other n e other) ∙ append-nil (own n before.entries))

  pub appends_begins : Begins before after
  appends_begins = record { opened = a.opened; entries = (a.between ++ e ∷ [], sym (append_assoc before.entries a.between (e ∷ [])) ∙ sym a.entries) }

pub begins_self : (h : History) → Begins h h
begins_self h = record { opened = refl; entries = ([], append-nil h.entries) }

pub begins_on : {g h i : History} → Begins g h → Begins h i → Begins g i
begins_on {g} a b = record { opened = b.opened ∙ a.opened; entries = (a.entries.0 ++ b.entries.0, sym (append_assoc g.entries a.entries.0 b.entries.0) ∙ (ap (λ w. w ++ b.entries.0) a.entries.1 ∙ b.entries.1)) }

-- an entry of a list is one of its number's
pub own_some : (e : Entry) (es : List Entry) → Contains es e → own e.number es ≡ [] → ⊥
own_some e [] c none = in_nothing e c
own_some e (x ∷ es) c none = ⊎_elim (λ (q : x ≡ e). own_first x es (subst (λ (z : Entry). own z.number (x ∷ es) ≡ []) (sym q) none))
    (λ d. own_some e es d (nothing_of (own e.number (x ∷ [])) (own e.number es) (sym (own-append e.number (x ∷ []) es) ∙ none))) (in_cons x es e c)
  where
    nothing_of : (xs ys : List Entry) → xs ++ ys ≡ [] → ys ≡ []
    nothing_of [] ys h = h
    nothing_of (y ∷ xs) ys h = absurd (cc h)

-- what came after a beginning, where the beginning has nothing of a number
pub own_after : (n : ℕ) (old new : List Entry) → own n old ≡ [] → own n new ≡ own n (old ++ new)
own_after n old new none = sym (own-append n old new ∙ ap (λ w. w ++ own n new) none)

-- an entry is an act but at the words 0 and 3
pub act_at : (e : Entry) → e.place ≢ 0 → e.place ≢ 3 → is_act e ≡ true
act_at e some other = ap (λ b. not (b || nat_eq e.place 3)) (ne_eqb e.place 0 some) ∙ ap (λ b. not b) (ne_eqb e.place 3 other)

-- the acts of a number grow by an act
pub acts_grow : (n : ℕ) (old new : List Entry) (e : Entry) → own n new ≡ own n old ++ e ∷ [] → is_act e ≡ true → acts n new ≡ acts n old ++ e ∷ []
acts_grow n old new e is act = ap (filter is_act) is ∙ (filter-append is_act (own n old) (e ∷ []) ∙ ap (λ (b : Bool). acts n old ++ cond b (e ∷ []) []) act)

-- by another entry they stay
pub acts_stay : (n : ℕ) (old new : List Entry) (e : Entry) → own n new ≡ own n old ++ e ∷ [] → is_act e ≡ false → acts n new ≡ acts n old
acts_stay n old new e is act =
    ap (filter is_act) is ∙ (filter-append is_act (own n old) (e ∷ []) ∙ (ap (λ (b : Bool). acts n old ++ cond b (e ∷ []) []) act ∙ append-nil (acts n old)))
