-- From a history to an order of requests.
use Rattle.std.proofs.Common.{◌≡◌, refl, sym, ◌∙◌, ap, subst, ℕ, suc, zero, ◌+◌, ◌%◌, ◌^◌, ◌<◌, ◌≤◌, ◌==◌, nat_lt, Bool, true, false, List, [], ◌∷◌, length, slice_index, slice_set, arith, ◌⊎◌, inl, inr}
use Rattle.std.proofs.lemmas.Bool.Decides.{nat_tests}
use Rattle.std.proofs.lemmas.List.{length-set, get_or-set_same, get_or-set_other}
use Rattle.shared_words.specs.declared.log.Action.{Action}
use Rattle.shared_words.specs.declared.log.Action.TheVariants.{Load, Store, Add}
use Rattle.shared_words.specs.declared.log.Entry as accesses
use Rattle.shared_words.specs.History.{words_by, words_after_entry, words_after, AllReplied}
use Rattle.interleaving.specs.Actors.{world_after, IsLawfulBy}
use Rattle.interleaving.proofs.Interleave.{eq_of}
use Rattle.interleaving.proofs.Grows.{differs}
use Rattle.xmt_isa.specs.Step.{more}
use Rattle.machine_sections.specs.Merge.{Cells, after_cell, IsTold}
use Rattle.machine_sections.proofs.Merges.{all_sections_merge}
use Rattle.machine_histories.specs.Histories.{IsAllowed, AreAllowed, draws_in, served_by, order_of, Agrees, KeepsFirst, HistoriesMerge}

index-same : (xs : List ℕ) (d x : ℕ) → d < length xs → slice_index (slice_set xs d x) d ≡ x
index-same xs d x inside = get_or-set_same xs d x 0 inside

index-other : (xs : List ℕ) (d x i : ℕ) → (d ≡ i → ⊥) → slice_index (slice_set xs d x) i ≡ slice_index xs i
index-other xs d x i differ = get_or-set_other xs d i x 0 (λ e. differ (sym e))

index-past : (xs : List ℕ) (i : ℕ) → length xs ≤ i → slice_index xs i ≡ 0
index-past [] i past = refl
index-past (y ∷ xs) zero past = absurd (omega (arith, past))
index-past (y ∷ xs) (suc i) past = index-past xs i (omega (arith, past))

-- a write of the same number in 32 and in 64 bits
agree_set : (words : List ℕ) (c : Cells) (place x y : ℕ) → Agrees words c → 4 ≤ place → x ≡ y % 2 ^ 32 → Agrees (slice_set words place y) (record c { words = slice_set c.words place x })
agree_set words c place x y a far same =
    record {
      size = length-set c.words place x ∙ a.size ∙ sym (length-set words place y);
      each = λ i later. by_test i later (place == i) refl;
      drawn = a.drawn ∙ sym (index-other words place y 1 (λ e. omega (arith, e, far)));
      long = subst (λ n. 4 ≤ n) (sym (length-set words place y)) a.long;
    }
  where
    by_inside : (i : ℕ) → place ≡ i → (b : Bool) → nat_lt i (length words) ≡ b → slice_index (slice_set c.words place x) i ≡ slice_index (slice_set words place y) i % 2 ^ 32
    by_inside i here true e =
        let inside : i < length words = grind (arith, nat_tests, e) in
        let size : length c.words ≡ length words = a.size in
        ap (slice_index (slice_set c.words place x)) (sym here) ∙ index-same c.words place x (omega (arith, size, here, inside)) ∙ same
        ∙ ap (λ n. n % 2 ^ 32) (sym (ap (slice_index (slice_set words place y)) (sym here) ∙ index-same words place y (omega (arith, here, inside))))
    by_inside i here false e =
        let past : length words ≤ i = grind (arith, nat_tests, e) in
        let size : length c.words ≡ length words = a.size in
        let size_c : length (slice_set c.words place x) ≡ length c.words = length-set c.words place x in
        let size_w : length (slice_set words place y) ≡ length words = length-set words place y in
        index-past (slice_set c.words place x) i (omega (arith, size, size_c, past)) ∙ ap (λ n. n % 2 ^ 32) (sym (index-past (slice_set words place y) i (omega (arith, size_w, past))))

    by_test : (i : ℕ) → 4 ≤ i → (b : Bool) → (place == i) ≡ b → slice_index (slice_set c.words place x) i ≡ slice_index (slice_set words place y) i % 2 ^ 32
    by_test i later true e = by_inside i (eq_of place i e) (nat_lt i (length words)) refl
    by_test i later false e = index-other c.words place x i (differs place i e) ∙ a.each i later ∙ ap (λ n. n % 2 ^ 32) (sym (index-other words place y i (differs place i e)))

sum_32 : (a b d : ℕ) → a ≡ b % 2 ^ 32 → (a + d) % 2 ^ 32 ≡ ((b + d) % 2 ^ 64) % 2 ^ 32
sum_32 a b d h = omega (arith, h)

small_32 : (a : ℕ) → a < 2 ^ 32 → a ≡ a % 2 ^ 32
small_32 a h = omega (arith, h)

-- ---- one access

-- another access than a draw leaves word 1
word_1 : (words : List ℕ) (access : Action) (place operand : ℕ) → (place ≡ 1 → ⊥) → slice_index (words_by access place operand words) 1 ≡ slice_index words 1
word_1 words Load place operand other = refl
word_1 words Store place operand other = index-other words place operand 1 other
word_1 words Add place operand other = index-other words place ((slice_index words place + operand) % 2 ^ 64) 1 other

skipped_set : (words : List ℕ) (c : Cells) (place x : ℕ) → Agrees words c → (place ≡ 0) ⊎ (place ≡ 3) → Agrees (slice_set words place x) c
skipped_set words c place x a at =
    record {
      size = a.size ∙ sym (length-set words place x);
      each = λ i later. a.each i later ∙ ap (λ n. n % 2 ^ 32) (sym (index-other words place x i (λ e. elim at [ inl h ↦ omega (arith, e, h, later) | inr h ↦ omega (arith, e, h, later) ])));
      drawn = a.drawn ∙ sym (index-other words place x 1 (λ e. elim at [ inl h ↦ omega (arith, e, h) | inr h ↦ omega (arith, e, h) ]));
      long = subst (λ n. 4 ≤ n) (sym (length-set words place x)) a.long;
    }

skipped : (words : List ℕ) (c : Cells) (access : Action) (place operand : ℕ) → Agrees words c → (place ≡ 0) ⊎ (place ≡ 3) → Agrees (words_by access place operand words) c
skipped words c Load place operand a at = a
skipped words c Store place operand a at = skipped_set words c place operand a at
skipped words c Add place operand a at = skipped_set words c place ((slice_index words place + operand) % 2 ^ 64) a at

-- an access of a word of the machine
reaches : (words : List ℕ) (c : Cells) (count unit : ℕ) (access : Action) (place operand reply : ℕ) → Agrees words c → 4 ≤ place → operand < 2 ^ 32 → unit < count → reply ≡ slice_index words place →
    IsTold count c (served_by unit access place operand reply) × Agrees (words_by access place operand words) (after_cell c (served_by unit access place operand reply))
reaches words c count unit Load place operand reply a far small inside is = ((inside, ap (λ n. n % 2 ^ 32) is ∙ sym (a.each place far), tt), a)
reaches words c count unit Store place operand reply a far small inside is = ((inside, refl, tt), agree_set words c place operand operand a far (small_32 operand small))
reaches words c count unit Add place operand reply a far small inside is = (
  (inside, ap (λ n. n % 2 ^ 32) is ∙ sym (a.each place far), tt),
  agree_set words c place ((slice_index c.words place + operand) % 2 ^ 32) ((slice_index words place + operand) % 2 ^ 64) a far (sum_32 (slice_index c.words place) (slice_index words place) operand (a.each place far)),
)

-- a draw
draws_one : (words : List ℕ) (c : Cells) → Agrees words c → slice_index words 1 + 1 < 2 ^ 64 → Agrees (slice_set words 1 ((slice_index words 1 + 1) % 2 ^ 64)) (record c { drawn = more c.drawn })
draws_one words c a room =
    let drawn : c.drawn ≡ slice_index words 1 = a.drawn in
    let long : 4 ≤ length words = a.long in
    let next : (slice_index words 1 + 1) % 2 ^ 64 ≡ more c.drawn = omega (arith, drawn, room) in
    record {
      size = a.size ∙ sym (length-set words 1 ((slice_index words 1 + 1) % 2 ^ 64));
      each = λ i later. a.each i later ∙ ap (λ n. n % 2 ^ 32) (sym (index-other words 1 ((slice_index words 1 + 1) % 2 ^ 64) i (λ e. omega (arith, e, later))));
      drawn = sym (index-same words 1 ((slice_index words 1 + 1) % 2 ^ 64) (omega (arith, long)) ∙ next);
      long = subst (λ n. 4 ≤ n) (sym (length-set words 1 ((slice_index words 1 + 1) % 2 ^ 64))) long;
    }

-- an access of a word of the machine leaves the first four
reach_keeps : (c : Cells) (unit : ℕ) (access : Action) (place operand reply : ℕ) → 4 ≤ place → KeepsFirst c.words (after_cell c (served_by unit access place operand reply)).words
reach_keeps c unit Load place operand reply far i low = refl
reach_keeps c unit Store place operand reply far i low = index-other c.words place operand i (λ e. omega (arith, e, far, low))
reach_keeps c unit Add place operand reply far i low = index-other c.words place ((slice_index c.words place + operand) % 2 ^ 32) i (λ e. omega (arith, e, far, low))

-- ---- all accesses

module _ (unit_of : ℕ → ℕ) (count : ℕ) where
  abbrev Ordered : List ℕ → Cells → List accesses.Entry → Type 0
  Ordered words c h = IsLawfulBy after_cell (IsTold count) c (order_of unit_of h) × Agrees (words_after words h) (world_after after_cell c (order_of unit_of h))
      × KeepsFirst c.words (world_after after_cell c (order_of unit_of h)).words

  ordered : (h : List accesses.Entry) (words : List ℕ) (c : Cells) → Agrees words c → AllReplied words h → AreAllowed unit_of count h → slice_index words 1 + draws_in h < 2 ^ 64 → Ordered words c h
  ordered [] words c a legal allowed room = (tt, a, λ i low. refl)
  ordered (e ∷ h) words c a legal allowed room = by_kind allowed.0
      (λ d b. ordered h (words_after_entry words e) d b legal.1 allowed.1)
    where
      by_kind : IsAllowed unit_of count e → ((d : Cells) → Agrees (words_after_entry words e) d → slice_index (words_after_entry words e) 1 + draws_in h < 2 ^ 64 → Ordered (words_after_entry words e) d h) → Ordered words c (e ∷ h)
      by_kind (inl k) go =
          let far : 4 ≤ e.place = k.0 in
          let test : nat_lt 3 e.place ≡ true = grind (arith, nat_tests, far) in
          let no_draw : (e.place == 1) ≡ false = grind (arith, far) in
          let r = reaches words c count (unit_of e.number) e.action e.place e.operand e.reply a k.0 k.1 k.2 legal.0 in
          let kept : slice_index (words_after_entry words e) 1 ≡ slice_index words 1 = word_1 words e.action e.place e.operand (λ h. omega (arith, h, far)) in
          let room_here : slice_index words 1 + (0 + draws_in h) < 2 ^ 64 = rw no_draw at room in
          let rest = go (after_cell c (served_by (unit_of e.number) e.action e.place e.operand e.reply)) r.1 (omega (arith, kept, room_here)) in
          rw test ((r.0, rest.0), rest.1, λ i low. rest.2 i low ∙ reach_keeps c (unit_of e.number) e.action e.place e.operand e.reply far i low)
      by_kind (inr (inl k)) go =
          let test : nat_lt 3 e.place ≡ false = let one : e.place ≡ 1 = k.0 in grind (arith, nat_tests, one) in
          let draw : (e.place == 1) ≡ true = let one : e.place ≡ 1 = k.0 in grind (arith, one) in
          let room_here : slice_index words 1 + (1 + draws_in h) < 2 ^ 64 = rw draw at room in
          let after : words_after_entry words e ≡ slice_set words 1 ((slice_index words 1 + 1) % 2 ^ 64) = rw (k.1, k.0, k.2) refl in
          let long : 4 ≤ length words = a.long in
          let word : slice_index (words_after_entry words e) 1 ≡ (slice_index words 1 + 1) % 2 ^ 64 = ap (λ ws. slice_index ws 1) after ∙ index-same words 1 ((slice_index words 1 + 1) % 2 ^ 64) (omega (arith, long)) in
          let b : Agrees (words_after_entry words e) (record c { drawn = more c.drawn }) = subst (λ ws. Agrees ws (record c { drawn = more c.drawn })) (sym after) (draws_one words c a (omega (arith, room_here))) in
          let rest = go (record c { drawn = more c.drawn }) b (omega (arith, word, room_here)) in
          let reply : e.reply ≡ c.drawn = legal.0 ∙ ap (slice_index words) k.0 ∙ sym a.drawn in
          rw (test, draw) (((k.3, reply, tt), rest.0), rest.1, rest.2)
      by_kind (inr (inr k)) go =
          let test : nat_lt 3 e.place ≡ false = elim k [ inl h ↦ grind (arith, nat_tests, h) | inr h ↦ grind (arith, nat_tests, h) ] in
          let draw : (e.place == 1) ≡ false = elim k [ inl h ↦ grind (arith, h) | inr h ↦ grind (arith, h) ] in
          let kept : slice_index (words_after_entry words e) 1 ≡ slice_index words 1 = word_1 words e.action e.place e.operand (λ h. elim k [ inl g ↦ omega (arith, h, g) | inr g ↦ omega (arith, h, g) ]) in
          let room_here : slice_index words 1 + (0 + draws_in h) < 2 ^ 64 = rw draw at room in
          rw (test, draw) (go c (skipped words c e.action e.place e.operand a k) (omega (arith, kept, room_here)))

pub all_histories_merge : HistoriesMerge
all_histories_merge image m master rest words h unit_of ends opened agrees legal allowed room each =
    let r = ordered unit_of (length rest) h words (record { words = m.words; drawn = m.drawn }) agrees legal allowed room in
    (world_after after_cell (record { words = m.words; drawn = m.drawn }) (order_of unit_of h), r.1, all_sections_merge image m master rest (order_of unit_of h) ends opened r.0 each, r.2)
