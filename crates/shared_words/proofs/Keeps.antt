-- Each step keeps the rule of the words.
use Rattle.std.proofs.Common.{◌≡◌, ◌≢◌, ℕ, zero, suc, ◌+◌, ◌-◌, ◌%◌, ◌^◌, ◌<◌, ◌≤◌, ◌⊎◌, inl, inr, ⊎_elim, true, false, List, [], ◌∷◌, ◌++◌, length, set, slice_index, nat_eq, Contains, Option, Some, None, refl, sym, ap, ◌∙◌, subst, arith, append-nil, length-append, length-set, get_or-set_other, get_or-set_same, mod-eq_of_lt}
use Rattle.std.specs.List.{IsDistinct}
use Rattle.std.proofs.lemmas.List.Sums.{sum_by-append}
use Rattle.std.proofs.lemmas.List.Elements.{Contains-append_left, Contains-append_right, Contains-append_cases, Contains-push, Contains-push_cases}
use mathlib.Core.Option.{some, some-injective, some-ne-none}
use mathlib.Core.List.{IsPrefix}
use lib.ListN.{get_elem?}
use lib.Seq.{set-get_or}
use Rattle.atomic_table.specs.Table.{State, Me, Step, keeps, stepped, opening, Allows, Splits, Joins}
use Rattle.atomic_table.proofs.Lists.{at_set, at_snoc, set_else}
use Rattle.shared_words.specs.declared.log.Action.{Action}
use Rattle.shared_words.specs.declared.log.Action.TheVariants.{Add}
use Rattle.shared_words.specs.declared.log.Entry.{Entry}
use Rattle.shared_words.specs.declared.log.History.{History}
use Rattle.shared_words.specs.declared.log.Known.{Known}
use Rattle.shared_words.specs.declared.rule.Part.{Part}
use Rattle.shared_words.specs.declared.rule.View.{View}
use Rattle.shared_words.specs.History.{entry_of, words_by, words_after_entry, AllReplied, own, IsLegal}
use Rattle.shared_words.specs.Passes.{IsEnrolled, IsSole, Appends, Accesses, Enrols, Merges, Ends, writer}
use Rattle.shared_words.specs.Rule.{view_of, known_of, opener, numbers_of, taken_numbers, Saw, TakenFits, Fits, AllFit, Apart, rooms, Kept, IsWhole, WritesWithOwn}
use Rattle.shared_words.specs.Steps.{Accessed, Drew, Looked, giver, given, taker, spent_view}
use Rattle.shared_words.proofs.Lists.{in_nothing, in_here, in_cons, all_of, total_set, term_le, prefix_more, prefix_self, distinct_nil, distinct_cons, distinct_append, distinct_apart, all_below}
use Rattle.shared_words.proofs.Histories.{words_after-push, replied-push, own-push_other, own_rest, own_first}

pub opens : {S : Type 0} (ws : List ℕ) (room : ℕ) → 0 < length ws → slice_index ws 0 ≡ 0 → room ≤ 2 ^ 63 → Kept {S = S} ws (opening ws [] (opener ws room))
opens ws room long none_yet small = record {
  entries = [];
  replied = tt;
  some_word = long;
  words = refl;
  numbered = λ e c. absurd (in_nothing e c);
  fit = fit;
  apart = apart;
  room = omega arith;
}
  where
    v : View
    v = opener ws room

    fits : Fits ws [] (slice_index ws 0) v
    fits = record { opened_is = λ _. refl; saw = record { begins = prefix_self []; inside = λ n c. refl }; taken_fits = tt; distinct = distinct_nil; below = λ n c. absurd (in_nothing n c) }

    fit : AllFit ws [] (slice_index ws 0) (v ∷ [])
    fit zero u e = subst (Fits ws [] (slice_index ws 0)) (some-injective v u e) fits
    fit (suc i) u e = absurd (some-ne-none u (sym e))

    apart : Apart (v ∷ [])
    apart zero zero u w ne a b n c d = absurd (ne refl)
    apart zero (suc j) u w ne a b n c d = absurd (some-ne-none w (sym b))
    apart (suc i) j u w ne a b n c d = absurd (some-ne-none u (sym a))

-- views one of which changes
module _ (opened : List ℕ) where
  fit_set : (es : List Entry) (n : ℕ) (vs : List View) (id : ℕ) (w : View) → Fits opened es n w → ((j : ℕ) (u : View) → j ≢ id → get_elem? vs j ≡ some u → Fits opened es n u) → AllFit opened es n (set vs id w)
  fit_set es n vs id w mine others j u e = ⊎_elim (λ (t : (j ≡ id) × (w ≡ u)). subst (Fits opened es n) t.1 mine) (λ (t : (j ≢ id) × (get_elem? vs j ≡ some u)). others j u t.0 t.1) (at_set vs id j w u e)

  -- a history that grew by an entry of another's number
  saw_more : (es : List Entry) (e : Entry) (numbers : List ℕ) (seen : List Entry) → (Contains numbers e.number → ⊥) → Saw es numbers seen → Saw (es ++ e ∷ []) numbers seen
  saw_more es e numbers seen other saw = record {
    begins = prefix_more seen es (e ∷ []) saw.begins;
    inside = λ n c. own-push_other n es e (λ (q : e.number ≡ n). other (subst (Contains numbers) (sym q) c)) ∙ saw.inside n c;
  }

  taken_more : (es : List Entry) (e : Entry) (t : Option Part) → (Contains (taken_numbers t) e.number → ⊥) → TakenFits opened es t → TakenFits opened (es ++ e ∷ []) t
  taken_more es e None other f = tt
  taken_more es e (Some p) other f = record { opened_is = f.opened_is; saw = saw_more es e p.numbers p.seen.entries other f.saw }

  fits_more : (es : List Entry) (e : Entry) (n n' : ℕ) (u : View) → n ≤ n' → (Contains (numbers_of u) e.number → ⊥) → Fits opened es n u → Fits opened (es ++ e ∷ []) n' u
  fits_more es e n n' u le other f = record {
    opened_is = f.opened_is;
    saw = saw_more es e u.known.numbers u.known.seen.entries (λ c. other (Contains-append_right (taken_numbers u.taken) u.known.numbers e.number c)) f.saw;
    taken_fits = taken_more es e u.taken (λ c. other (Contains-append_left (taken_numbers u.taken) u.known.numbers e.number c)) f.taken_fits;
    distinct = f.distinct;
    below = λ q c. let l = f.below q c in omega arith;
  }

apart_set : (vs : List View) (id : ℕ) (w : View) → Apart vs → ((n : ℕ) → Contains (numbers_of w) n → (j : ℕ) (u : View) → j ≢ id → get_elem? vs j ≡ some u → Contains (numbers_of u) n → ⊥) → Apart (set vs id w)
apart_set vs id w apart mine i j u u' ne a b n c d = go (at_set vs id i w u a) (at_set vs id j w u' b)
  where
    go : ((i ≡ id) × (w ≡ u)) ⊎ ((i ≢ id) × (get_elem? vs i ≡ some u)) → ((j ≡ id) × (w ≡ u')) ⊎ ((j ≢ id) × (get_elem? vs j ≡ some u')) → ⊥
    go (inl p) (inl q) = ne (p.0 ∙ sym q.0)
    go (inl p) (inr q) = mine n (subst (λ (z : View). Contains (numbers_of z) n) (sym p.1) c) j u' q.0 q.1 d
    go (inr p) (inl q) = mine n (subst (λ (z : View). Contains (numbers_of z) n) (sym q.1) d) i u p.0 p.1 c
    go (inr p) (inr q) = apart i j u u' ne p.1 q.1 n c d

-- a list in which no number of its entries stands
none_own : (numbers : List ℕ) (es : List Entry) → ((e : Entry) → Contains es e → Contains numbers e.number) → ((n : ℕ) → Contains numbers n → own n es ≡ []) → es ≡ []
none_own numbers [] all none = refl
none_own numbers (e ∷ es) all none = absurd (own_first e es (none e.number (all e (in_here e es))))

plain_numbers : (v : View) → v.taken ≡ None → numbers_of v ≡ v.known.numbers
plain_numbers v e = ap (λ t. taken_numbers t ++ v.known.numbers) e

-- a view of the same numbers and seen list
same_fits : (opened : List ℕ) (es : List Entry) (n room : ℕ) (v : View) → Fits opened es n v → Fits opened es n record v { known = record v.known { room = room } }
same_fits opened es n room v f = record { opened_is = f.opened_is; saw = f.saw; taken_fits = f.taken_fits; distinct = f.distinct; below = f.below }

-- what a view knows once it has seen the whole history
abbrev look_known : View → List Entry → Known
look_known v es = known_of (numbers_of v) v.known.writes_with v.known.room v.known.seen.opened es

writes_more : (o : Option ℕ) (xs ys : List ℕ) → WritesWithOwn o ys → WritesWithOwn o (xs ++ ys)
writes_more None xs ys w = tt
writes_more (Some n) xs ys w = Contains-append_right xs ys n w

module _ {S : Type 0} where
  -- a view between calls
  pub plain_view : (me : Me S View) → IsWhole me → me.0 ≡ view_of me.0.known
  plain_view me whole = λ i. record { live = whole.live i; known = me.0.known; taken = whole.none_taken i }

module _ {S : Type 0} (opened : List ℕ) where
  abbrev count : State S View → ℕ
  count s = slice_index s.words 0

  -- a step after which the history has one entry more, and the view has seen it
  appended : (s : State S View) (k : Kept opened s) (id : ℕ) (v : View) (known : Known) (e : Entry) (i x : ℕ) (cs : List (ℕ × S))
      → get_elem? s.views id ≡ some v
      → words_after_entry s.words e ≡ set s.words i x
      → e.reply ≡ slice_index s.words e.place
      → count s ≤ slice_index (set s.words i x) 0
      → e.number < slice_index (set s.words i x) 0
      → ((j : ℕ) (u : View) → j ≢ id → get_elem? s.views j ≡ some u → Contains (numbers_of u) e.number → ⊥)
      → ((n : ℕ) → Contains known.numbers n → Contains (numbers_of v) n ⊎ (e.number ≡ n))
      → IsDistinct nat_eq known.numbers
      → known.seen.opened ≡ opened
      → known.seen.entries ≡ k.entries ++ e ∷ []
      → slice_index (set s.words i x) 0 + known.room ≤ count s + v.known.room
      → Kept opened (stepped s i x id cs (view_of known) keeps)
  appended s k id v known e i x cs at words reply grows small others mine distinct opened_is seen room = record {
    entries = es';
    replied = replied-push opened k.entries e k.replied (reply ∙ ap (λ ws. slice_index ws e.place) k.words);
    some_word = let l = k.some_word in omega (arith, length-set s.words i x);
    words = sym words ∙ (ap (λ ws. words_after_entry ws e) k.words ∙ sym (words_after-push opened k.entries e));
    numbered = λ y c. ⊎_elim (λ d. let l = k.numbered y d in omega arith) (λ (q : e ≡ y). subst (λ (z : Entry). z.number < n') q small) (Contains-push_cases k.entries e y c);
    fit = fit_set opened es' n' s.views id w fits (λ j u ne b. fits_more opened k.entries e (count s) n' u grows (others j u ne b) (k.fit j u b));
    apart = apart_set s.views id w k.apart (λ n c j u ne b d. ⊎_elim (λ m. k.apart id j v u (λ q. ne (sym q)) at b n m d) (λ (q : e.number ≡ n). others j u ne b (subst (Contains (numbers_of u)) (sym q) d)) (mine n c));
    room = let t = total_set (λ (z : View). z.known.room) s.views id v w at in let r = k.room in omega arith;
  }
    where
      w : View
      w = view_of known

      es' : List Entry
      es' = k.entries ++ e ∷ []

      n' : ℕ
      n' = slice_index (set s.words i x) 0

      fits : Fits opened es' n' w
      fits = record {
        opened_is = λ _. opened_is;
        saw = record { begins = subst (λ (z : List Entry). IsPrefix z es') (sym seen) (prefix_self es'); inside = λ n c. ap (own n) (sym seen) };
        taken_fits = tt;
        distinct = distinct;
        below = λ n c. ⊎_elim (λ m. let l = (k.fit id v at).below n m in omega arith) (λ (q : e.number ≡ n). subst (λ (z : ℕ). z < n') q small) (mine n c);
      }

  -- a view that has all numbers, given out and to come, has those of all entries
  covers : (s : State S View) (k : Kept opened s) (id : ℕ) (v : View) → get_elem? s.views id ≡ some v → length (numbers_of v) + v.known.room ≡ 2 ^ 63
      → (e : Entry) → Contains k.entries e → Contains (numbers_of v) e.number
  covers s k id v at sole e c =
      let f = k.fit id v at in
      let r = k.room in
      let t = term_le (λ (z : View). z.known.room) s.views id v at in
      all_below (numbers_of v) (count s) f.distinct f.below (omega arith) e.number (k.numbered e c)

  -- what stands between what a view has seen and the end of the history
  since : (s : State S View) (k : Kept opened s) (id : ℕ) (v : View) → get_elem? s.views id ≡ some v → List Entry
  since s k id v at = (k.fit id v at).saw.begins.0

  since_is : (s : State S View) (k : Kept opened s) (id : ℕ) (v : View) (at : get_elem? s.views id ≡ some v) → v.known.seen.entries ++ since s k id v at ≡ k.entries
  unfolding since
  since_is s k id v at = (k.fit id v at).saw.begins.1

  since_others : (s : State S View) (k : Kept opened s) (id : ℕ) (v : View) (at : get_elem? s.views id ≡ some v) (n : ℕ) → Contains v.known.numbers n → own n (since s k id v at) ≡ []
  since_others s k id v at n c = own_rest n v.known.seen.entries (since s k id v at) (ap (own n) (since_is s k id v at) ∙ (k.fit id v at).saw.inside n c)

  -- the new entry stands behind all that a view had seen
  abbrev new_entry : (s : State S View) (k : Kept opened s) (id : ℕ) (v : View) → get_elem? s.views id ≡ some v → (known : Known) (e : Entry)
      → known.seen.opened ≡ v.known.seen.opened → known.seen.entries ≡ k.entries ++ e ∷ [] → IsLegal known.seen → Appends v.known.numbers v.known.seen known.seen e
  new_entry s k id v at known e opened_is seen legal = record {
    between = since s k id v at;
    opened = opened_is;
    entries = seen ∙ ap (λ z. z ++ e ∷ []) (sym (since_is s k id v at));
    legal = legal;
    others = all_of (λ m. own m (since s k id v at) ≡ []) v.known.numbers (since_others s k id v at);
  }

  by_own : (s : State S View) (k : Kept opened s) (id : ℕ) (v : View) → get_elem? s.views id ≡ some v → v.taken ≡ None → IsSole v.known → (e : Entry) → Contains k.entries e → Contains v.known.numbers e.number
  by_own s k id v at none sole e c = let p = plain_numbers v none in
      subst (λ (z : List ℕ). Contains z e.number) p (covers s k id v at (ap (λ (z : List ℕ). length z + v.known.room) p ∙ sole) e c)

  -- a sole view has seen all
  sole_seen : (s : State S View) (k : Kept opened s) (id : ℕ) (v : View) → get_elem? s.views id ≡ some v → v.taken ≡ None → IsSole v.known → v.known.seen.entries ≡ k.entries
  sole_seen s k id v at none sole =
      let is = since_is s k id v at in
      let nothing = none_own v.known.numbers (since s k id v at)
      (λ e c. by_own s k id v at none sole e (subst (λ (z : List Entry). Contains z e) is (Contains-append_right v.known.seen.entries (since s k id v at) e c))) (since_others s k id v at) in
      sym (append-nil v.known.seen.entries) ∙ (ap (λ w. v.known.seen.entries ++ w) (sym nothing) ∙ is)

  -- an access of a pass with the number n
  pub accesses : (slots id i d : ℕ) (me : Me S View) (act : Action) (f : ℕ → ℕ) → IsWhole me → IsEnrolled me.0.known → 0 < i
      → ((ws : List ℕ) → words_by act i d ws ≡ set ws i (f (slice_index ws i)))
      → (st : Step S) → st.word ≡ i → st.first ≡ d
      → Allows (Kept opened) slots id me i f (Accessed act st me)
  accesses slots id i d me act f whole enrolled inside effect st word_is first_is s k _ at _ =
      (w, keeps, tt, kept, told)
    where
      v : View
      v = me.0

      n : ℕ
      n = writer v.known

      r : ℕ
      r = slice_index s.words i

      e : Entry
      e = entry_of n act i d r

      known : Known
      known = record v.known { seen = record { opened = v.known.seen.opened; entries = k.entries ++ e ∷ [] } }

      w : View
      w = view_of known

      fit : Fits opened k.entries (count s) v
      fit = k.fit id v at

      mine : Contains v.known.numbers n
      mine = let o = subst (λ (z : Option ℕ). WritesWithOwn z v.known.numbers) enrolled.1 whole.writes in
          subst (λ (z : Option ℕ). Contains v.known.numbers (Rattle.std.specs.Prelude.unwrap_or z 0)) (sym enrolled.1) o

      in_view : (m : ℕ) → Contains v.known.numbers m → Contains (numbers_of v) m
      in_view m c = Contains-append_right (taken_numbers v.taken) v.known.numbers m c

      first_word : slice_index (set s.words i (f r)) 0 ≡ count s
      first_word = get_or-set_other s.words i 0 (f r) 0 (λ q. omega arith)

      opened_is : v.known.seen.opened ≡ opened
      opened_is = fit.opened_is whole.live

      kept : Kept opened (stepped s i (f r) id me.1 w keeps)
      kept = appended s k id v known e i (f r) me.1 at (effect s.words) refl (omega (arith, first_word))
          (let l = fit.below n (in_view n mine) in omega (arith, first_word))
          (λ j u ne b c. k.apart id j v u (λ q. ne (sym q)) at b n (in_view n mine) c)
          (λ m c. inl (in_view m c))
          (subst (IsDistinct nat_eq) (plain_numbers v whole.none_taken) fit.distinct)
          opened_is refl (omega (arith, first_word))

      legal : IsLegal known.seen
      legal = subst (λ (z : List ℕ). AllReplied z (k.entries ++ e ∷ [])) (sym opened_is) (replied-push opened k.entries e k.replied (ap (λ ws. slice_index ws i) k.words))

      made : Accesses v.known known act i d r
      made = record {
        same = refl;
        writes = record {
          appends = new_entry s k id v at known e refl refl legal;
          sole = λ sole. ap (λ z. z ++ e ∷ []) (sym (sole_seen s k id v at whole.none_taken sole));
          whole = λ sole. all_of (λ y. Contains v.known.numbers y.number) (k.entries ++ e ∷ [])
              (λ y c. ⊎_elim (by_own s k id v at whole.none_taken sole y) (λ (q : e ≡ y). subst (λ (z : Entry). Contains v.known.numbers z.number) q mine) (Contains-push_cases k.entries e y c));
        };
      }

      told : Accessed act st me r (w, me.1)
      told = (
        record { live = refl; none_taken = refl; no_slot = whole.no_slot; writes = whole.writes },
        subst (λ (z : ℕ). Accesses v.known known act z st.first r) (sym word_is) (subst (λ (z : ℕ). Accesses v.known known act i z r) (sym first_is) made),
      )

  -- an enrolment
  pub enrols : (slots id : ℕ) (me : Me S View) → IsWhole me → 0 < me.0.known.room → (st : Step S)
      → Allows (Kept opened) slots id me 0 (λ n. (n + 1) % 2 ^ 64) (Drew st me)
  enrols slots id me whole some_room st s k _ at _ =
      (w, keeps, tt, kept, (record { live = refl; none_taken = refl; no_slot = whole.no_slot; writes = Contains-push v.known.numbers n }, made))
    where
      v : View
      v = me.0

      n : ℕ
      n = count s

      e : Entry
      e = entry_of n Add 0 1 n

      known : Known
      known = known_of (v.known.numbers ++ n ∷ []) (Some n) (v.known.room - 1) v.known.seen.opened (k.entries ++ e ∷ [])

      w : View
      w = view_of known

      fit : Fits opened k.entries n v
      fit = k.fit id v at

      small : n + v.known.room ≤ 2 ^ 63
      small = let r = k.room in let t = term_le (λ (z : View). z.known.room) s.views id v at in omega arith

      x : ℕ
      x = (n + 1) % 2 ^ 64

      next : x ≡ n + 1
      next = mod-eq_of_lt (omega arith)

      first_word : slice_index (set s.words 0 x) 0 ≡ x
      first_word = get_or-set_same s.words 0 x 0 k.some_word

      opened_is : v.known.seen.opened ≡ opened
      opened_is = fit.opened_is whole.live

      numbers_is : numbers_of v ≡ v.known.numbers
      numbers_is = plain_numbers v whole.none_taken

      kept : Kept opened (stepped s 0 x id me.1 w keeps)
      kept = appended s k id v known e 0 x me.1 at refl refl (omega (arith, first_word, next))
          (omega (arith, first_word, next))
          (λ j u ne b c. let l = (k.fit j u b).below n c in absurd (omega arith))
          (λ m c. ⊎_elim (λ d. inl (Contains-append_right (taken_numbers v.taken) v.known.numbers m d)) inr (Contains-push_cases v.known.numbers n m c))
          (distinct_append v.known.numbers (n ∷ []) (subst (IsDistinct nat_eq) numbers_is fit.distinct) (distinct_cons n [] (in_nothing n) distinct_nil)
          (λ m c d. let l = fit.below m (Contains-append_right (taken_numbers v.taken) v.known.numbers m c) in
          ⊎_elim (λ (q : n ≡ m). absurd (omega arith)) (in_nothing m) (in_cons n [] m d)))
          opened_is refl (omega (arith, first_word, next))

      legal : IsLegal known.seen
      legal = subst (λ (z : List ℕ). AllReplied z (k.entries ++ e ∷ [])) (sym opened_is) (replied-push opened k.entries e k.replied (ap (λ ws. slice_index ws 0) k.words))

      made : Enrols v.known known n
      made = record {
        same = refl;
        room = omega arith;
        fresh = λ c. let l = fit.below n (Contains-append_right (taken_numbers v.taken) v.known.numbers n c) in omega arith;
        writes = record {
          appends = new_entry s k id v at known e refl refl legal;
          sole = λ sole. ap (λ z. z ++ e ∷ []) (sym (sole_seen s k id v at whole.none_taken sole));
          whole = λ sole. all_of (λ y. Contains known.numbers y.number) (k.entries ++ e ∷ [])
              (λ y c. ⊎_elim (λ d. Contains-append_left v.known.numbers (n ∷ []) y.number (by_own s k id v at whole.none_taken (omega (arith, length-append v.known.numbers (n ∷ []))) y d))
              (λ (q : e ≡ y). subst (λ (z : Entry). Contains known.numbers z.number) q (Contains-push v.known.numbers n)) (Contains-push_cases k.entries e y c));
        };
        new = λ y c q. let l = k.numbered y (subst (λ (z : List Entry). Contains z y) (since_is s k id v at) c) in omega arith;
      }

  -- the last words
  pub closes : (s : State S View) (k : Kept opened s) (id : ℕ) (me : Me S View) → IsWhole me → get_elem? s.views id ≡ some me.0 → Ends me.0.known s.words
  closes s k id me whole at =
      let v : View = me.0 in
      let opened_is = (k.fit id v at).opened_is whole.live in
      let h : History = record { opened = opened; entries = k.entries } in record {
        history = h;
        begins = record { opened = sym opened_is; entries = (k.fit id v at).saw.begins };
        legal = k.replied;
        words_are = k.words;
        sole = λ sole. λ i. record { opened = sym opened_is i; entries = sym (sole_seen s k id v at whole.none_taken sole) i };
      }

  -- the same words, history and views but for the views
  seats : (s : State S View) (k : Kept opened s) (views : List View) → AllFit opened k.entries (count s) views → Apart views → rooms views ≤ rooms s.views
      → Kept opened record { words = s.words; homes = s.homes; views = views }
  seats s k views fit apart room = record {
    entries = k.entries;
    replied = k.replied;
    some_word = k.some_word;
    words = k.words;
    numbered = k.numbered;
    fit = fit;
    apart = apart;
    room = let r = k.room in omega arith;
  }

  -- a cut of a view
  pub splits : (id amount : ℕ) (v : View) → v.live ≡ true → amount ≤ v.known.room → Splits (Kept {S = S} opened) id v (giver amount v) (given amount v)
  splits id amount v live enough s k at = seats s k views fit apart room
    where
      old : List View
      old = set s.views id (giver amount v)

      views : List View
      views = old ++ given amount v ∷ []

      f : Fits opened k.entries (count s) v
      f = k.fit id v at

      old_fit : AllFit opened k.entries (count s) old
      old_fit = fit_set opened k.entries (count s) s.views id (giver amount v) (same_fits opened k.entries (count s) (v.known.room - amount) v f) (λ j u ne b. k.fit j u b)

      given_fits : Fits opened k.entries (count s) (given amount v)
      given_fits = record {
        opened_is = λ _. f.opened_is live;
        saw = record { begins = f.saw.begins; inside = λ n c. absurd (in_nothing n c) };
        taken_fits = tt;
        distinct = distinct_nil;
        below = λ n c. absurd (in_nothing n c);
      }

      fit : AllFit opened k.entries (count s) views
      fit j u b = ⊎_elim (old_fit j u) (λ (q : given amount v ≡ u). subst (Fits opened k.entries (count s)) q given_fits) (at_snoc old (given amount v) u j b)

      old_apart : Apart old
      old_apart = apart_set s.views id (giver amount v) k.apart (λ n c j u ne b d. k.apart id j v u (λ q. ne (sym q)) at b n c d)

      apart : Apart views
      apart i j u w ne a b n c d = go (at_snoc old (given amount v) u i a) (at_snoc old (given amount v) w j b)
        where
          go : (get_elem? old i ≡ some u) ⊎ (given amount v ≡ u) → (get_elem? old j ≡ some w) ⊎ (given amount v ≡ w) → ⊥
          go (inl p) (inl q) = old_apart i j u w ne p q n c d
          go (inr p) q = in_nothing n (subst (λ (z : View). Contains (numbers_of z) n) (sym p) c)
          go p (inr q) = in_nothing n (subst (λ (z : View). Contains (numbers_of z) n) (sym q) d)

      room : rooms views ≤ rooms s.views
      room = let t = total_set (λ (z : View). z.known.room) s.views id v (giver amount v) at in
          omega (arith, sum_by-append (λ (z : View). z.known.room) old (given amount v ∷ []))

  -- a view that takes in another
  pub joins : (id : ℕ) (v : View) (other : ℕ) (w : View) → v.taken ≡ None → w.taken ≡ None → w.live ≡ true → Joins (Kept {S = S} opened) id v other w (taker v w) spent_view
  joins id v other w none none' live s k at ne there = seats s k views fit apart room
    where
      both : View
      both = taker v w

      old : List View
      old = set s.views id both

      views : List View
      views = set old other spent_view

      at' : get_elem? s.views other ≡ some w
      at' = sym (set_else s.views id other both ne) ∙ there

      f : Fits opened k.entries (count s) v
      f = k.fit id v at

      g : Fits opened k.entries (count s) w
      g = k.fit other w at'

      v_is : numbers_of v ≡ v.known.numbers
      v_is = plain_numbers v none

      w_is : numbers_of w ≡ w.known.numbers
      w_is = plain_numbers w none'

      -- the numbers of both, by whose they were
      whose : (n : ℕ) → Contains (numbers_of both) n → Contains (numbers_of w) n ⊎ Contains (numbers_of v) n
      whose n c = ⊎_elim (λ d. inl (subst (λ (z : List ℕ). Contains z n) (sym w_is) d)) (λ d. inr (subst (λ (z : List ℕ). Contains z n) (sym v_is) d)) (Contains-append_cases w.known.numbers v.known.numbers n c)

      both_fits : Fits opened k.entries (count s) both
      both_fits = record {
        opened_is = f.opened_is;
        saw = f.saw;
        taken_fits = record { opened_is = g.opened_is live; saw = g.saw };
        distinct = distinct_append w.known.numbers v.known.numbers (subst (IsDistinct nat_eq) w_is g.distinct) (subst (IsDistinct nat_eq) v_is f.distinct)
            (λ n c d. k.apart other id w v ne at' at n (subst (λ (z : List ℕ). Contains z n) (sym w_is) c) (subst (λ (z : List ℕ). Contains z n) (sym v_is) d));
        below = λ n c. ⊎_elim (g.below n) (f.below n) (whose n c);
      }

      old_fit : AllFit opened k.entries (count s) old
      old_fit = fit_set opened k.entries (count s) s.views id both both_fits (λ j u _ b. k.fit j u b)

      spent_fits : Fits opened k.entries (count s) spent_view
      spent_fits = record {
        opened_is = λ (q : false ≡ true). absurd cc;
        saw = record { begins = (k.entries, refl); inside = λ n c. absurd (in_nothing n c) };
        taken_fits = tt;
        distinct = distinct_nil;
        below = λ n c. absurd (in_nothing n c);
      }

      fit : AllFit opened k.entries (count s) views
      fit = fit_set opened k.entries (count s) old other spent_view spent_fits (λ j u _ b. old_fit j u b)

      -- a view other than the two has no number of both
      beside : (j : ℕ) (u : View) → j ≢ id → j ≢ other → get_elem? s.views j ≡ some u → (n : ℕ) → Contains (numbers_of both) n → Contains (numbers_of u) n → ⊥
      beside j u ne' ne'' b n c d = ⊎_elim (λ e. k.apart other j w u (λ q. ne'' (sym q)) at' b n e d) (λ e. k.apart id j v u (λ q. ne' (sym q)) at b n e d) (whose n c)

      apart : Apart views
      apart i j u u' ne' a b n c d = go (at_set old other i spent_view u a) (at_set old other j spent_view u' b)
        where
          inner : i ≢ other → j ≢ other → ((i ≡ id) × (both ≡ u)) ⊎ ((i ≢ id) × (get_elem? s.views i ≡ some u)) → ((j ≡ id) × (both ≡ u')) ⊎ ((j ≢ id) × (get_elem? s.views j ≡ some u')) → ⊥
          inner x y (inl p) (inl q) = ne' (p.0 ∙ sym q.0)
          inner x y (inl p) (inr q) = beside j u' q.0 y q.1 n (subst (λ (z : View). Contains (numbers_of z) n) (sym p.1) c) d
          inner x y (inr p) (inl q) = beside i u p.0 x p.1 n (subst (λ (z : View). Contains (numbers_of z) n) (sym q.1) d) c
          inner x y (inr p) (inr q) = k.apart i j u u' ne' p.1 q.1 n c d

          go : ((i ≡ other) × (spent_view ≡ u)) ⊎ ((i ≢ other) × (get_elem? old i ≡ some u)) → ((j ≡ other) × (spent_view ≡ u')) ⊎ ((j ≢ other) × (get_elem? old j ≡ some u')) → ⊥
          go (inl p) q = in_nothing n (subst (λ (z : View). Contains (numbers_of z) n) (sym p.1) c)
          go p (inl q) = in_nothing n (subst (λ (z : View). Contains (numbers_of z) n) (sym q.1) d)
          go (inr p) (inr q) = inner p.0 q.0 (at_set s.views id i both u p.1) (at_set s.views id j both u' q.1)

      room : rooms views ≤ rooms s.views
      room = let t = total_set (λ (z : View). z.known.room) s.views id v both at in
          let t' = total_set (λ (z : View). z.known.room) old other w spent_view there in omega arith

  -- a look at the whole history
  pub looks : (slots id : ℕ) (me : Me S View) → me.0.live ≡ true → me.1 ≡ [] → (st : Step S) → Allows (Kept opened) slots id me 0 (λ n. n) (Looked st me)
  looks slots id me live no_slot st s k _ at _ = (w, keeps, tt, kept, told)
    where
      v : View
      v = me.0

      w : View
      w = view_of (look_known v k.entries)

      f : Fits opened k.entries (count s) v
      f = k.fit id v at

      w_fits : Fits opened k.entries (count s) w
      w_fits = record {
        opened_is = λ _. f.opened_is live;
        saw = record { begins = prefix_self k.entries; inside = λ n c. refl };
        taken_fits = tt;
        distinct = f.distinct;
        below = f.below;
      }

      views : List View
      views = set s.views id w

      kept : Kept opened (stepped s 0 (count s) id me.1 w keeps)
      kept = subst (λ (ws : List ℕ). Kept opened record { words = ws; homes = s.homes; views = views }) (sym (set-get_or s.words 0 0))
          (seats s k views (fit_set opened k.entries (count s) s.views id w w_fits (λ j u _ b. k.fit j u b))
          (apart_set s.views id w k.apart (λ n c j u ne b d. k.apart id j v u (λ q. ne (sym q)) at b n c d))
          (let t = total_set (λ (z : View). z.known.room) s.views id v w at in omega arith))

      told : (before from : Known) → v ≡ taker (view_of before) (view_of from) → WritesWithOwn before.writes_with before.numbers → IsWhole (w, me.1) × Merges before from w.known
      told before from is writes =
          let both : View = taker (view_of before) (view_of from) in
          let g : Fits opened k.entries (count s) both = subst (Fits opened k.entries (count s)) is f in
          let opened_is : before.seen.opened ≡ opened = g.opened_is refl in
          let all : length (numbers_of both) + both.known.room ≡ 2 ^ 63 → (e : Entry) → Contains k.entries e → Contains (numbers_of both) e.number =
          subst (λ (z : View). length (numbers_of z) + z.known.room ≡ 2 ^ 63 → (e : Entry) → Contains k.entries e → Contains (numbers_of z) e.number) is (covers s k id v at) in
          let merges : Merges before from (look_known both k.entries) = record {
            same = refl;
            apart = λ n c d. distinct_apart from.numbers before.numbers g.distinct n d c;
            begins = record { opened = refl; entries = g.saw.begins };
            from_begins = record { opened = opened_is ∙ sym g.taken_fits.opened_is; entries = g.taken_fits.saw.begins };
            legal = subst (λ (z : List ℕ). AllReplied z k.entries) (sym opened_is) k.replied;
            own_kept = all_of (λ n. own n k.entries ≡ own n before.seen.entries) before.numbers g.saw.inside;
            from_own_kept = all_of (λ n. own n k.entries ≡ own n from.seen.entries) from.numbers g.taken_fits.saw.inside;
            whole = λ sole. all_of (λ e. Contains (numbers_of both) e.number) k.entries (all sole);
          } in
          let writes' : WritesWithOwn both.known.writes_with (numbers_of both) = writes_more before.writes_with from.numbers before.numbers writes in (
            record { live = refl; none_taken = refl; no_slot = no_slot; writes = subst (λ (z : View). WritesWithOwn z.known.writes_with (numbers_of z)) (sym is) writes' },
            subst (λ (z : View). Merges before from (look_known z k.entries)) (sym is) merges,
          )
