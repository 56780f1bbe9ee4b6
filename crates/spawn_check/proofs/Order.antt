-- The order of refusals.
use Rattle.std.proofs.Common.{ℕ, ◌≡◌, ◌≤◌, Bool, true, false, nat_lt, arith}
use Rattle.std.specs.Prelude.{◌==◌, ◌&&◌, ◌||◌}
use Rattle.std.proofs.lemmas.Bool.Decides.{nat_tests}
use Rattle.xmt_base.specs.declared.Place.{Place}
use Rattle.spawn_check.specs.declared.refusal.SpawnKind.{SpawnKind}
use Rattle.spawn_check.specs.declared.refusal.SpawnRefusal.{SpawnRefusal}
use Rattle.spawn_check.specs.Table.{line_of, is_before}

-- by three numbers, the first before the second before the third
abbrev before : (line column kind line' column' kind' : ℕ) → Bool
before l c k l' c' k' = nat_lt l l' || (l == l' && (nat_lt c c' || (c == c' && nat_lt k k')))

before_itself : (l c k : ℕ) → before l c k l c k ≡ false
before_itself l c k = grind (arith, nat_tests)

at_one_place : (l c k k' : ℕ) → k' ≤ k → before l c k l c k' ≡ false
at_one_place l c k k' later = grind (arith, nat_tests)

before_reversed : (l c k l' c' k' : ℕ) → before l c k l' c' k' ≡ true → before l' c' k' l c k ≡ false
before_reversed l c k l' c' k' e = grind (arith, nat_tests)

before_chained : (l c k l' c' k' l'' c'' k'' : ℕ) → before l c k l' c' k' ≡ false → before l' c' k' l'' c'' k'' ≡ false → before l c k l'' c'' k'' ≡ false
before_chained l c k l' c' k' l'' c'' k'' e e' = grind (arith, nat_tests)

pub not_before_itself : (r : SpawnRefusal) → is_before r r ≡ false
not_before_itself r = before_itself r.place.line r.place.column (line_of r.kind)

pub not_before_at : (place : Place) (kind kind' : SpawnKind) → line_of kind' ≤ line_of kind → is_before (record { kind = kind; place = place }) (record { kind = kind'; place = place }) ≡ false
not_before_at place kind kind' later = at_one_place place.line place.column (line_of kind) (line_of kind') later

pub not_before_reversed : (a b : SpawnRefusal) → is_before a b ≡ true → is_before b a ≡ false
not_before_reversed a b e = before_reversed a.place.line a.place.column (line_of a.kind) b.place.line b.place.column (line_of b.kind) e

pub not_before_chained : (a b c : SpawnRefusal) → is_before a b ≡ false → is_before b c ≡ false → is_before a c ≡ false
not_before_chained a b c e e' =
    before_chained a.place.line a.place.column (line_of a.kind) b.place.line b.place.column (line_of b.kind) c.place.line c.place.column (line_of c.kind) e e'
