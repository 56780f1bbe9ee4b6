-- What marks say of the positions where a register is live.
use Rattle.std.proofs.Common.{ℕ, zero, suc, ◌≡◌, ◌<◌, ◌≤◌, ◌+◌, ◌⊎◌, refl, ◌∙◌, ap, sym, subst, arith, Bool, true, false, List, [], ◌∷◌, Some, length, drop, get_or, get_or-set_other, drop-cons, inl, inr}
use Rattle.std.specs.Prelude.{◌&&◌, ◌||◌, not, slice_get, Contains}
use Rattle.std.specs.Bool.{OnFalse}
use Rattle.std.proofs.Math.ListN.{set, replicate}
use Rattle.std.proofs.lemmas.List.{get_or-replicate, length-replicate, drop_all}
use Rattle.std.proofs.lemmas.Option.{slice_get_within, get_or_from_slice_get}
use Rattle.std.proofs.lemmas.Bool.{or_cases, false≢true, cases_eq, cases_lt, and_parts, not-true, both_ways}
use Rattle.xmt_quads.specs.declared.code.Quad.{Quad}
use Rattle.xmt_quads.specs.declared.code.Quad.TheVariants as quad
use Rattle.xmt_quads.specs.Program.{quads_to_join, behind_join}
use Rattle.xmt_quads.specs.Live.{reads, writes, leads_to, IsLive, is_read, is_kept}
use Rattle.liveness.specs.Marking.{is_marked, leads_on, passes, is_due_at, behind_from, AreSound, AreClosed, count_of_marked}
use Rattle.liveness.specs.Live.{AreLivePositions}

-- ---- marks and their number

pub count_of_marked-set : (marks : List Bool) (i : ℕ) → i < length marks → get_or marks i false ≡ false → count_of_marked (set marks i true) ≡ suc (count_of_marked marks)
count_of_marked-set [] i within unmarked = absurd (omega arith)
count_of_marked-set (true ∷ marks) zero within unmarked = absurd (false≢true (sym unmarked))
count_of_marked-set (false ∷ marks) zero within unmarked = refl
count_of_marked-set (true ∷ marks) (suc i) within unmarked = ap suc (count_of_marked-set marks i (omega arith) unmarked)
count_of_marked-set (false ∷ marks) (suc i) within unmarked = count_of_marked-set marks i (omega arith) unmarked

pub count_of_marked-le-length : (marks : List Bool) → count_of_marked marks ≤ length marks
count_of_marked-le-length [] = omega arith
count_of_marked-le-length (true ∷ marks) = let rest : count_of_marked marks ≤ length marks = count_of_marked-le-length marks in omega arith
count_of_marked-le-length (false ∷ marks) = let rest : count_of_marked marks ≤ length marks = count_of_marked-le-length marks in omega arith

none_is_marked : (n f : ℕ) → get_or (replicate n false) f false ≡ false
none_is_marked n f = elim (cases_lt f n) [ inl below ↦ get_or-replicate n f false false below | inr above ↦ past (replicate n false) f (omega (arith, length-replicate n false)) ] where
  past : (marks : List Bool) (i : ℕ) → length marks ≤ i → get_or marks i false ≡ false
  past [] i above = refl
  past (m ∷ marks) zero above = absurd (omega arith)
  past (m ∷ marks) (suc i) above = past marks i (omega arith)

pub on_false : (b : Bool) (P : Type 0) → (b ≡ false → P) → OnFalse b P
on_false true P given = tt
on_false false P given = given refl

or_left : (x y : Bool) → x ≡ true → (x || y) ≡ true
or_left true y is = refl
or_left false y is = absurd (false≢true is)

or_right : (x y : Bool) → y ≡ true → (x || y) ≡ true
or_right true y is = refl
or_right false y is = is

and_both : (x y : Bool) → x ≡ false → y ≡ true → (not x && y) ≡ true
and_both true y is_not is = absurd (false≢true (sym is_not))
and_both false y is_not is = is

some_same : {x y : Quad} → Some x ≡ Some y → x ≡ y
some_same e = cc

-- ---- a few places

at_first : (x : ℕ) (xs : List ℕ) → Contains (x ∷ xs) x
at_first x xs = (0, omega arith, refl)

at_second : (x y : ℕ) → Contains (x ∷ y ∷ []) y
at_second x y = (1, omega arith, refl)

in_none : (x : ℕ) → Contains [] x → ⊥
in_none x (k, within, is) = omega (arith, within)

in_one : (x y : ℕ) → Contains (x ∷ []) y → x ≡ y
in_one x y (zero, within, is) = is
in_one x y (suc k, within, is) = absurd (omega (arith, within))

in_two : (x z y : ℕ) → Contains (x ∷ z ∷ []) y → (x ≡ y) ⊎ (z ≡ y)
in_two x z y (zero, within, is) = inl is
in_two x z y (suc zero, within, is) = inr is
in_two x z y (suc (suc k), within, is) = absurd (omega (arith, within))

-- ---- the position behind the next join

to_join : (q : Quad) (at : ℕ) (rest : List Quad) → behind_from q (at + 1) (at + 1 + quads_to_join rest + 1) ≡ at + quads_to_join (q ∷ rest) + 1
to_join quad.Join at rest = omega arith
to_join _ at rest = omega arith

pub behind_here : (quads : List Quad) (at : ℕ) (q : Quad) → slice_get quads at ≡ Some q → behind_from q (at + 1) (behind_join quads (at + 1)) ≡ behind_join quads at
behind_here quads at q here =
    let within : at < length quads = slice_get_within quads at q here in
    let next : suc at ≡ at + 1 = omega arith in
    let split : drop at quads ≡ q ∷ drop (at + 1) quads =
    drop-cons quads at q within ∙ ap (λ x. x ∷ drop (suc at) quads) (get_or_from_slice_get quads at q q here) ∙ ap (λ n. q ∷ drop n quads) next
    in
    to_join q at (drop (at + 1) quads) ∙ ap (λ (rest : List Quad). at + quads_to_join rest + 1) (sym split)

pub behind_end : (quads : List Quad) → length quads + 1 ≡ behind_join quads (length quads)
behind_end quads =
    let none : quads_to_join (drop (length quads) quads) ≡ 0 = ap quads_to_join (drop_all (length quads) quads (omega arith)) in
    omega (arith, none)

module _ (quads : List Quad) (r : ℕ) where
  pub unmarked_sound : (n : ℕ) → AreSound quads r (replicate n false)
  unmarked_sound n = record { live = λ at marked. absurd (both_ways (get_or (replicate n false) at false) (none_is_marked n at) marked) }

  pub sound_with_one_more : (marks : List Bool) (i : ℕ) → i < length marks → AreSound quads r marks → IsLive quads r i → AreSound quads r (set marks i true)
  sound_with_one_more marks i within sound live = record {
    live = λ at marked. elim (cases_eq at i) [
      | inl same ↦ subst (λ g. IsLive quads r g) (sym same) live
      | inr other ↦ sound.live at (sym (get_or-set_other marks i at true false other) ∙ marked)
    ];
  }

  module _ (marks : List Bool) where
    -- a marked position to which a quad leads
    abbrev Marked : (at : ℕ) → Quad → Type 0
    Marked at q = (to : ℕ) × Contains (leads_to quads at q) to × (is_marked marks to ≡ true)

    first_or_second : (x y : ℕ) → (is_marked marks x || is_marked marks y) ≡ true → (to : ℕ) × Contains (x ∷ y ∷ []) to × (is_marked marks to ≡ true)
    first_or_second x y on = elim (or_cases (is_marked marks x) (is_marked marks y) on) [
      | inl here ↦ (x, at_first x (y ∷ []), here)
      | inr there ↦ (y, at_second x y, there)
    ]

    leads : (at : ℕ) (q : Quad) → leads_on marks (at + 1) (behind_join quads at) q ≡ true → Marked at q
    leads at (quad.Jump to) on = (to, at_first to [], on)
    leads at (quad.IfZero o to) on = first_or_second to (at + 1) on
    leads at (quad.IfNot o to) on = first_or_second to (at + 1) on
    leads at (quad.Return o) on = absurd (false≢true on)
    leads at (quad.Spawn low high) on = first_or_second (at + 1) (behind_join quads at) on
    leads at quad.Join on = absurd (false≢true on)
    leads at _ on = (at + 1, at_first (at + 1) [], on)

    -- the position to which it leads is one of two
    one_of_two : (x y to : ℕ) → Contains (x ∷ y ∷ []) to → is_marked marks to ≡ true → (is_marked marks x || is_marked marks y) ≡ true
    one_of_two x y to among marked = elim (in_two x y to among) [
      | inl first ↦ or_left (is_marked marks x) (is_marked marks y) (ap (is_marked marks) first ∙ marked)
      | inr second ↦ or_right (is_marked marks x) (is_marked marks y) (ap (is_marked marks) second ∙ marked)
    ]

    led : (at to : ℕ) (q : Quad) → Contains (leads_to quads at q) to → is_marked marks to ≡ true → leads_on marks (at + 1) (behind_join quads at) q ≡ true
    led at to (quad.Jump target) among marked = ap (is_marked marks) (in_one target to among) ∙ marked
    led at to (quad.IfZero o target) among marked = one_of_two target (at + 1) to among marked
    led at to (quad.IfNot o target) among marked = one_of_two target (at + 1) to among marked
    led at to (quad.Return o) among marked = absurd (in_none to among)
    led at to (quad.Spawn low high) among marked = one_of_two (at + 1) (behind_join quads at) to among marked
    led at to quad.Join among marked = absurd (in_none to among)
    led at to _ among marked = ap (is_marked marks) (in_one (at + 1) to among) ∙ marked

    passes_live : (at : ℕ) (q : Quad) → slice_get quads at ≡ Some q → AreSound quads r marks → passes r marks (at + 1) (behind_join quads at) q ≡ true → IsLive quads r at
    passes_live at q here sound passed = elim (or_cases (reads r q) (not (writes r q) && leads_on marks (at + 1) (behind_join quads at) q) passed) [
      | inl read ↦ is_read at q here read
      | inr kept ↦
          let parts = and_parts (not (writes r q)) (leads_on marks (at + 1) (behind_join quads at) q) kept in
          let on = leads at q parts.1 in
          is_kept at on.0 q here (not-true (writes r q) parts.0) on.1 (sound.live on.0 on.2)
    ]

    -- ---- a step of the loop

    pub due_live : (at behind : ℕ) (q : Quad) → slice_get quads at ≡ Some q → behind ≡ behind_join quads at → AreSound quads r marks → is_due_at r marks at behind q ≡ true → IsLive quads r at
    due_live at behind q here is sound due =
        passes_live at q here sound
        (sym (ap (λ b. passes r marks (at + 1) b q) is) ∙ (and_parts (not (is_marked marks at)) (passes r marks (at + 1) behind q) due).1)

    pub due_unmarked : (at behind : ℕ) (q : Quad) → is_due_at r marks at behind q ≡ true → is_marked marks at ≡ false
    due_unmarked at behind q due = not-true (is_marked marks at) (and_parts (not (is_marked marks at)) (passes r marks (at + 1) behind q) due).0

    -- from this position on the marks are closed
    abbrev pub ClosedFrom : ℕ → Type 0
    ClosedFrom from = (at : ℕ) (q : Quad) → from ≤ at → slice_get quads at ≡ Some q → passes r marks (at + 1) (behind_join quads at) q ≡ true → is_marked marks at ≡ true

    closed_here : (marked passed : Bool) → (not marked && passed) ≡ false → passed ≡ true → marked ≡ true
    closed_here true passed calm is = refl
    closed_here false passed calm is = absurd (both_ways passed calm is)

    pub closed_one_more : (i behind : ℕ) (item : Quad) → slice_get quads i ≡ Some item → behind ≡ behind_join quads i → is_due_at r marks i behind item ≡ false → ClosedFrom (i + 1) → ClosedFrom i
    closed_one_more i behind item is at_join calm closed at q from here passed = elim (cases_eq at i) [
      | inl same ↦
          let items : q ≡ item = some_same (sym here ∙ ap (slice_get quads) same ∙ is) in
          ap (is_marked marks) same ∙
          closed_here (is_marked marks i) (passes r marks (i + 1) behind item) calm
          (ap (λ b. passes r marks (i + 1) b item) at_join ∙ sym (ap (λ n. passes r marks (n + 1) (behind_join quads n) item) same) ∙ sym (ap (passes r marks (at + 1) (behind_join quads at)) items) ∙ passed)
      | inr other ↦ closed at q (omega (arith, from, other)) here passed
    ]

    pub closed_past : ClosedFrom (length quads)
    closed_past at q from here passed = let within : at < length quads = slice_get_within quads at q here in absurd (omega (arith, within, from))

    pub closed_at_first : (i : ℕ) → i ≤ 0 → ClosedFrom i → AreClosed quads r marks
    closed_at_first i first closed = record { marked = λ at q here passed. closed at q (omega (arith, first)) here passed }

    -- ---- closed marks

    marked_if_live : AreClosed quads r marks → (at : ℕ) → IsLive quads r at → is_marked marks at ≡ true
    marked_if_live closed place (is_read at q here read) =
        closed.marked at q here (or_left (reads r q) (not (writes r q) && leads_on marks (at + 1) (behind_join quads at) q) read)
    marked_if_live closed place (is_kept at to q here kept among rest) =
        let on : leads_on marks (at + 1) (behind_join quads at) q ≡ true = led at to q among (marked_if_live closed to rest) in
        closed.marked at q here
        (or_right (reads r q) (not (writes r q) && leads_on marks (at + 1) (behind_join quads at) q) (and_both (writes r q) (leads_on marks (at + 1) (behind_join quads at) q) kept on))

    pub exact_from_both : AreSound quads r marks → AreClosed quads r marks → AreLivePositions quads r marks
    exact_from_both sound closed = record { exactly = λ at. (sound.live at, marked_if_live closed at) }
