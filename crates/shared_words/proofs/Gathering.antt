-- What a pass knows that took in the passes of callers.
use Rattle.std.proofs.Common.{◌≡◌, ◌≢◌, ℕ, ◌+◌, ◌<◌, ◌⊎◌, inl, inr, ⊎_elim, List, [], ◌∷◌, ◌++◌, length, nat_eq, Contains, Some, unwrap_or, refl, sym, ap, ◌∙◌, subst, arith, length-append}
use Rattle.std.specs.List.{IsDistinct}
use Rattle.std.proofs.lemmas.List.Elements.{All-contains, Contains-append_left, Contains-append_right, Contains-append_cases}
use Rattle.shared_words.specs.declared.log.Action.{Action}
use Rattle.shared_words.specs.declared.log.Entry.{Entry}
use Rattle.shared_words.specs.declared.log.History.{History}
use Rattle.shared_words.specs.declared.log.Known.{Known}
use Rattle.shared_words.specs.History.{entry_of, enrolment, own, IsLegal}
use Rattle.shared_words.specs.Passes.{IsSole, AllBy, Accesses, Enrols, Begins, Merges, writer}
use Rattle.shared_words.specs.Sections.{unnumbered, Gathers, AllOwnRuns, Ran, AllRan, Section}
use Rattle.shared_words.proofs.Lists.{in_nothing, in_here, in_more, in_cons, distinct_nil, distinct_cons}
use Rattle.shared_words.proofs.Histories.{own-append, own_other, own_rest}
use Rattle.shared_words.proofs.Facts.{begins_self, begins_on, own_single, own_some, own_after, own_grows, appends_begins}

own_none : (n : ℕ) (es : List Entry) → ((e : Entry) → Contains es e → e.number ≢ n) → own n es ≡ []
own_none n [] other = refl
own_none n (e ∷ es) other = own-append n (e ∷ []) es ∙ (ap (λ w. w ++ own n es) (own_other n e (other e (in_here e es))) ∙ own_none n es (λ x c. other x (in_more e es x c)))

pub gathers-append : (p : Known) (ks ls : List Known) (k after : Known) → Gathers p ks k → Gathers k ls after → Gathers p (ks ++ ls) after
gathers-append p [] ls k after is g = subst (λ (z : Known). Gathers z ls after) (sym is) g
gathers-append p (x ∷ ks) ls k after g h = (g.0, g.1, gathers-append g.0 ks ls k after g.2 h)

module _ {U : Type 0} (Local : U → List Entry → U → Type 0) where
  pub starts : (k k' : Known) (n : ℕ) (u : U) → k ≡ unnumbered k.seen → Enrols k k' n → Local u [] u → Ran Local k.seen n k' u u
  starts k k' n u ready e still =
      let a = e.writes.appends in
      let none : own n (k.seen.entries ++ a.between) ≡ [] = own_none n (k.seen.entries ++ a.between) e.new in record {
        numbers = ap (λ (z : Known). z.numbers) e.same ∙ ap (λ (z : Known). z.numbers ++ n ∷ []) ready;
        room = omega (arith, e.room, ap (λ (z : Known). z.room) ready);
        begins = appends_begins a;
        new = own_none n k.seen.entries (λ x c. e.new x (Contains-append_left k.seen.entries a.between x c));
        run = record {
          made = [];
          are = ap (own n) a.entries ∙ (own-append n (k.seen.entries ++ a.between) (enrolment n ∷ []) ∙ (ap (λ w. w ++ own n (enrolment n ∷ [])) none ∙ own_single (enrolment n)));
          steps = still;
        };
      }

  pub record Collected (k after : Known) (numbers : List ℕ) (totals afters : List U) : Type 0 where
    pub begins : Begins k.seen after.seen
    pub room : after.room ≡ k.room
    pub writes_with : after.writes_with ≡ k.writes_with
    pub count : length after.numbers ≡ length k.numbers + length totals
    pub kept : (n : ℕ) → Contains k.numbers n → Contains after.numbers n × (own n after.seen.entries ≡ own n k.seen.entries)
    pub apart : (n : ℕ) → Contains k.numbers n → Contains numbers n → ⊥
    pub distinct : IsDistinct nat_eq numbers
    pub runs : AllOwnRuns Local after.seen.entries numbers totals afters
    pub only : (n : ℕ) → Contains after.numbers n → Contains k.numbers n ⊎ Contains numbers n
    pub whole : 0 < length totals → IsSole after → AllBy after.numbers after.seen.entries
    pub legal : 0 < length totals → IsLegal after.seen

  -- the last merge tells of the whole history
  at_end : {k f mid after : Known} (seen : History) → Merges k f mid → (ns : List ℕ) (fs : List Known) (us vs : List U) → AllRan Local seen ns fs us vs → Gathers mid fs after → Collected mid after ns us vs
      → (IsSole after → AllBy after.numbers after.seen.entries) × IsLegal after.seen
  at_end seen m [] [] [] [] ran is t = subst (λ (z : Known). (IsSole z → AllBy z.numbers z.seen.entries) × IsLegal z.seen) is (m.whole, m.legal)
  at_end seen m (n ∷ ns) (f ∷ fs) (u ∷ us) (v ∷ vs) ran is t = (t.whole (omega arith), t.legal (omega arith))
  at_end seen m _ _ _ _ ran is t = absurd ran

  pub collected : (seen : History) (k : Known) (ns : List ℕ) (fs : List Known) (us vs : List U) (after : Known) → AllRan Local seen ns fs us vs → Gathers k fs after → Collected k after ns us vs
  collected seen k [] [] [] [] after ran is = subst (λ z. Collected k z [] [] []) is record {
    begins = begins_self k.seen;
    room = refl;
    writes_with = refl;
    count = omega arith;
    kept = λ n c. (c, refl);
    apart = λ n c d. in_nothing n d;
    distinct = distinct_nil;
    runs = tt;
    only = λ n c. inl c;
    whole = λ l. absurd (omega arith);
    legal = λ l. absurd (omega arith);
  }
  collected seen k (n ∷ ns) (f ∷ fs) (u ∷ us) (v ∷ vs) after ran gathers =
      let mid = gathers.0 in
      let m : Merges k f mid = gathers.1 in
      let numbers_are : mid.numbers ≡ f.numbers ++ k.numbers = ap (λ (z : Known). z.numbers) m.same in
      let r : Ran Local seen n f u v = ran.0 in
      let t : Collected mid after ns us vs = collected seen mid ns fs us vs after ran.1 gathers.2 in
      let mine : Contains f.numbers n = subst (λ (z : List ℕ). Contains z n) (sym r.numbers) (in_here n []) in
      let from_k : (q : ℕ) → Contains k.numbers q → Contains mid.numbers q = λ q c. subst (λ (z : List ℕ). Contains z q) (sym numbers_are) (Contains-append_right f.numbers k.numbers q c) in
      let from_f : (q : ℕ) → Contains f.numbers q → Contains mid.numbers q = λ q c. subst (λ (z : List ℕ). Contains z q) (sym numbers_are) (Contains-append_left f.numbers k.numbers q c) in
      let same : own n after.seen.entries ≡ own n f.seen.entries = (t.kept n (from_f n mine)).1 ∙ All-contains (λ q. own q mid.seen.entries ≡ own q f.seen.entries) f.numbers n m.from_own_kept mine in
      record {
        begins = begins_on m.begins t.begins;
        room = t.room ∙ (ap (λ (z : Known). z.room) m.same ∙ (ap (λ (z : ℕ). k.room + z) r.room ∙ omega arith));
        writes_with = t.writes_with ∙ ap (λ (z : Known). z.writes_with) m.same;
        count = omega (arith, t.count, ap length numbers_are, length-append f.numbers k.numbers, ap length r.numbers);
        kept = λ q c. ((t.kept q (from_k q c)).0, (t.kept q (from_k q c)).1 ∙ All-contains (λ p. own p mid.seen.entries ≡ own p k.seen.entries) k.numbers q m.own_kept c);
        apart = λ q c d. ⊎_elim (λ (s : n ≡ q). m.apart q c (subst (Contains f.numbers) s mine)) (t.apart q (from_k q c)) (in_cons n ns q d);
        distinct = distinct_cons n ns (t.apart n (from_f n mine)) t.distinct;
        runs = (record { made = r.run.made; are = same ∙ r.run.are; steps = r.run.steps }, t.runs);
        only = λ q c. ⊎_elim (λ d. ⊎_elim (λ e. inr (subst (λ (z : List ℕ). Contains z q → Contains (n ∷ ns) q) (sym r.numbers) (λ g. ⊎_elim (λ (s : n ≡ q). subst (Contains (n ∷ ns)) s (in_here n ns)) (λ h. absurd (in_nothing q h)) (in_cons n [] q g)) e)) inl
            (Contains-append_cases f.numbers k.numbers q (subst (λ (z : List ℕ). Contains z q) numbers_are d))) (λ d. inr (in_more n ns q d)) (t.only q c);
        whole = λ _. (at_end seen m ns fs us vs ran.1 gathers.2 t).0;
        legal = λ _. (at_end seen m ns fs us vs ran.1 gathers.2 t).1;
      }
  collected seen k _ _ _ _ after ran is = absurd ran

  -- the entries of each number among the new ones
  new_runs : (seen : History) (new whole : List Entry) → seen.entries ++ new ≡ whole → (ns : List ℕ) (fs : List Known) (us vs : List U) → AllRan Local seen ns fs us vs → AllOwnRuns Local whole ns us vs → AllOwnRuns Local new ns us vs
  new_runs seen new whole is [] [] [] [] ran runs = tt
  new_runs seen new whole is (n ∷ ns) (f ∷ fs) (u ∷ us) (v ∷ vs) ran runs = (
    record { made = runs.0.made; are = own_after n seen.entries new ran.0.new ∙ (ap (own n) is ∙ runs.0.are); steps = runs.0.steps },
    new_runs seen new whole is ns fs us vs ran.1 runs.1,
  )
  new_runs seen new whole is _ _ _ _ ran runs = absurd ran

  -- a section, where the pass gave each worker room 1
  pub sections : (before k after : Known) (ns : List ℕ) (fs : List Known) (us vs : List U) → k ≡ record before { room = k.room } → k.room + length us ≡ before.room → 0 < length us → IsSole before
      → AllRan Local before.seen ns fs us vs → Gathers k fs after → Section Local before after us vs
  sections before k after ns fs us vs same room some sole ran gathers =
      let seen_same : k.seen ≡ before.seen = ap (λ (z : Known). z.seen) same in
      let numbers_same : k.numbers ≡ before.numbers = ap (λ (z : Known). z.numbers) same in
      let t : Collected k after ns us vs = collected before.seen k ns fs us vs after ran gathers in
      let begins : Begins before.seen after.seen = subst (λ (z : History). Begins z after.seen) seen_same t.begins in
      let new : List Entry = begins.entries.0 in
      let sole' : IsSole after = omega (arith, t.count, t.room, ap length numbers_same) in
      let other : (e : Entry) → Contains new e → Contains k.numbers e.number → ⊥ = λ e c d.
      own_some e new c (own_rest e.number before.seen.entries new (ap (own e.number) begins.entries.1 ∙ ((t.kept e.number d).1 ∙ ap (λ (z : History). own e.number z.entries) seen_same))) in
      record {
        numbers = ns;
        new = new;
        opened = begins.opened;
        entries = sym begins.entries.1;
        legal = t.legal some;
        distinct = t.distinct;
        runs = new_runs before.seen new after.seen.entries begins.entries.1 ns fs us vs ran t.runs;
        only = λ e c. ⊎_elim (λ d. absurd (other e c d)) (λ d. d)
            (t.only e.number (All-contains (λ (z : Entry). Contains after.numbers z.number) after.seen.entries e (t.whole some sole') (subst (λ (z : List Entry). Contains z e) begins.entries.1 (Contains-append_right before.seen.entries new e c))));
        sole = sole';
        room = omega (arith, t.room);
        writes_with = t.writes_with ∙ ap (λ (z : Known). z.writes_with) same;
      }

  -- a run goes on by an access
  pub goes_on : (seen : History) (k k' : Known) (n : ℕ) (u v v' : U) (act : Action) (place operand reply : ℕ) → k.writes_with ≡ Some n → Ran Local seen n k u v → Accesses k k' act place operand reply
      → ((made : List Entry) → Local u made v → Local u (made ++ entry_of n act place operand reply ∷ []) v') → Ran Local seen n k' u v'
  goes_on seen k k' n u v v' act place operand reply writes ran access step =
      let is : writer k ≡ n = ap (λ o. unwrap_or o 0) writes in
      let mine : Contains k.numbers (writer k) = subst (λ (z : ℕ × List ℕ). Contains z.1 z.0) (λ i. (sym is i, sym ran.numbers i)) (in_here n []) in
      let grown = own_grows access.writes.appends mine in
      let grown' : own n k'.seen.entries ≡ own n k.seen.entries ++ entry_of n act place operand reply ∷ [] =
      subst (λ (z : ℕ). own z k'.seen.entries ≡ own z k.seen.entries ++ entry_of z act place operand reply ∷ []) is grown in record {
        numbers = ap (λ (z : Known). z.numbers) access.same ∙ ran.numbers;
        room = ap (λ (z : Known). z.room) access.same ∙ ran.room;
        begins = begins_on ran.begins (appends_begins access.writes.appends);
        new = ran.new;
        run = record {
          made = ran.run.made ++ entry_of n act place operand reply ∷ [];
          are = grown' ∙ ap (λ w. w ++ entry_of n act place operand reply ∷ []) ran.run.are;
          steps = step ran.run.made ran.run.steps;
        };
      }
