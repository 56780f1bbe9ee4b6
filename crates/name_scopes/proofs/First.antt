-- The first of some breaches.
use Rattle.std.proofs.Common.{◌≡◌, refl, sym, ◌∙◌, ap, subst, arith, ℕ, inl, inr, Bool, true, false, cond, Option, Some, None}
use Rattle.std.specs.Prelude.{nat_lt, ◌==◌, ◌&&◌, ◌||◌}
use Rattle.std.proofs.lemmas.Bool.Decides.{nat_tests}
use Rattle.name_scopes.specs.declared.fault.Fault.{Fault}
use Rattle.name_scopes.specs.Fault.{rank, is_before, earlier, Faults, none, one, both, IsAmong, IsFirst, IsFirstOf, first}

-- the order by place and table, on its numbers
abbrev before : (l c r l' c' r' : ℕ) → Bool
before l c r l' c' r' = nat_lt l l' || (l == l' && (nat_lt c c' || (c == c' && nat_lt r r')))

before_none : (l c r : ℕ) → before l c r l c r ≡ false
before_none l c r = grind (arith, nat_tests)

before_trans : (l c r l' c' r' l'' c'' r'' : ℕ) → before l c r l' c' r' ≡ true → before l' c' r' l'' c'' r'' ≡ true → before l c r l'' c'' r'' ≡ true
before_trans l c r l' c' r' l'' c'' r'' a b = grind (arith, nat_tests)

before_not : (l c r l' c' r' l'' c'' r'' : ℕ) → before l c r l' c' r' ≡ false → before l' c' r' l'' c'' r'' ≡ false → before l c r l'' c'' r'' ≡ false
before_not l c r l' c' r' l'' c'' r'' a b = grind (arith, nat_tests)

fault_trans : (a b c : Fault) → is_before a b ≡ true → is_before b c ≡ true → is_before a c ≡ true
fault_trans a b c = before_trans a.place.line a.place.column (rank a.kind) b.place.line b.place.column (rank b.kind) c.place.line c.place.column (rank c.kind)

fault_not : (a b c : Fault) → is_before a b ≡ false → is_before b c ≡ false → is_before a c ≡ false
fault_not a b c = before_not a.place.line a.place.column (rank a.kind) b.place.line b.place.column (rank b.kind) c.place.line c.place.column (rank c.kind)

fault_none : (a : Fault) → is_before a a ≡ false
fault_none a = before_none a.place.line a.place.column (rank a.kind)

assoc_cases : {X : Type 0} (s t u : Bool) (a b c : X) → (s ≡ true → t ≡ true → u ≡ true) → (s ≡ false → t ≡ false → u ≡ false) →
    cond s (cond t c b) (cond u c a) ≡ cond t (cond u c a) (cond s b a)
assoc_cases true true true a b c up down = refl
assoc_cases true true false a b c up down = absurd (let clash : false ≡ true = up refl refl in cc)
assoc_cases true false u a b c up down = refl
assoc_cases false true u a b c up down = refl
assoc_cases false false true a b c up down = absurd (let clash : true ≡ false = down refl refl in cc)
assoc_cases false false false a b c up down = refl

left_cases : (s : Bool) (a b c : Fault) → cond (is_before c (cond s b a)) c (cond s b a) ≡ cond s (cond (is_before c b) c b) (cond (is_before c a) c a)
left_cases true a b c = refl
left_cases false a b c = refl

right_cases : (t : Bool) (a b c : Fault) → cond (is_before (cond t c b) a) (cond t c b) a ≡ cond t (cond (is_before c a) c a) (cond (is_before b a) b a)
right_cases true a b c = refl
right_cases false a b c = refl

pub earlier_assoc : (a b c : Option Fault) → earlier (earlier a b) c ≡ earlier a (earlier b c)
earlier_assoc None b c = refl
earlier_assoc (Some a) None c = refl
earlier_assoc (Some a) (Some b) None = refl
earlier_assoc (Some a) (Some b) (Some c) =
    ap (λ f. Some f)
    (left_cases (is_before b a) a b c
    ∙ assoc_cases (is_before b a) (is_before c b) (is_before c a) a b c (λ x y. fault_trans c b a y x) (λ x y. fault_not c b a y x)
    ∙ sym (right_cases (is_before c b) a b c))

pub earlier_none : (a : Option Fault) → earlier a None ≡ a
earlier_none None = refl
earlier_none (Some a) = refl

-- ---- the first is first

Holds : Faults → Option Fault → Type 0
Holds fs None = (f : Fault) → IsAmong f fs → ⊥
Holds fs (Some f) = IsFirst fs f

both_holds : (a b : Faults) (x y : Option Fault) → Holds a x → Holds b y → Holds (both a b) (earlier x y)
unfolding Holds
both_holds a b None None p q = λ f. λ among. elim among [ inl here ↦ p f here | inr there ↦ q f there ]
both_holds a b None (Some y) p q = record {
  among = inr q.among;
  least = λ g among. elim among [ inl here ↦ absurd (p g here) | inr there ↦ q.least g there ];
}
both_holds a b (Some x) None p q = record {
  among = inl p.among;
  least = λ g among. elim among [ inl here ↦ p.least g here | inr there ↦ absurd (q g there) ];
}
both_holds a b (Some x) (Some y) p q = choose (is_before y x) refl
  where
    unless : (g : Fault) (t : Bool) → is_before g y ≡ t → is_before y x ≡ true → is_before g x ≡ false → is_before g y ≡ false
    unless g false is behind here = is
    unless g true is behind here = absurd (let clash : true ≡ false = sym (fault_trans g y x is behind) ∙ here in cc)

    choose : (t : Bool) → is_before y x ≡ t → IsFirst (both a b) (cond t y x)
    choose true is = record {
      among = inr q.among;
      least = λ g among. elim among [ inl here ↦ unless g (is_before g y) refl is (p.least g here) | inr there ↦ q.least g there ];
    }
    choose false is = record {
      among = inl p.among;
      least = λ g among. elim among [ inl here ↦ p.least g here | inr there ↦ fault_not g y x (q.least g there) is ];
    }

holds : (fs : Faults) → Holds fs (first fs)
unfolding Holds
holds none = λ f among. among
holds (one what place) = record { among = refl; least = λ g among. subst (λ (h : Fault). is_before h (record { kind = what; place = place }) ≡ false) (sym among) (fault_none (record { kind = what; place = place })) }
holds (both a b) = both_holds a b (first a) (first b) (holds a) (holds b)

-- where nothing is first, nothing is broken
pub none_among : (fs : Faults) → first fs ≡ None → (f : Fault) → IsAmong f fs → ⊥
unfolding Holds
none_among fs is = subst (Holds fs) is (holds fs)

pub first_among : (fs : Faults) (f : Fault) → first fs ≡ Some f → IsFirst fs f
unfolding Holds
first_among fs f is = subst (Holds fs) is (holds fs)

pub first_of : (fs : Faults) (found : Option Fault) → found ≡ first fs → IsFirstOf fs found
first_of fs None is = none_among fs (sym is)
first_of fs (Some f) is = first_among fs f (sym is)
