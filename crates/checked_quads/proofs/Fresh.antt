-- Variables that are declared one behind the other, none of which is known before.
use Rattle.std.proofs.Common.{◌≡◌, refl, sym, ◌∙◌, ap, subst, arith, ℕ, suc, Bool, true, false, List, [], ◌∷◌, ◌++◌, get_or, ◌⊎◌, inl, inr}
use Rattle.std.proofs.lemmas.Bool.{true≢false, false≢true, or_cases, or_left, or_right, eqb-true}
use Rattle.std.specs.Prelude.{All, AllPairs, ◌≢◌, ◌==◌, ◌||◌}
use Rattle.std.proofs.lemmas.List.Elements.{All-head, All-tail}
use Rattle.source_meaning.specs.declared.tree.StmtKind.{StmtKind, Row_of-Stmt, end_of-Stmt, more_of-Stmt, Held-StmtKind-If-2, None', Some'}
use Rattle.source_meaning.specs.declared.tree.StmtKind.TheVariants as stmt
use Rattle.source_meaning.specs.Inside.{some_below, some_in_body, some_in_other}
use Rattle.source_meaning.specs.Variables.{is_declaration, is_declared_in}
use Rattle.checked_programs.specs.Fits.{Known, behind, behind_row}
use Rattle.checked_programs.specs.Declares.{declared_in, declared_in_row, declared_in_else}

-- with one more known variable
abbrev pub with_one : Known → ℕ → Known
with_one known slot = λ x. known x || (x == slot)

abbrev pub with_all : Known → List ℕ → Known
with_all known [] = known
with_all known (slot ∷ rest) = with_all (with_one known slot) rest

abbrev pub Fresh : Known → List ℕ → Type 0
Fresh known [] = Unit {0}
Fresh known (slot ∷ rest) = (known slot ≡ false) × Fresh (with_one known slot) rest

-- ---- fewer known variables

abbrev pub Below : Known → Known → Type 0
Below less more = (x : ℕ) → less x ≡ true → more x ≡ true

with_one_below : (less more : Known) (slot : ℕ) → Below less more → Below (with_one less slot) (with_one more slot)
with_one_below less more slot below x is = chosen (or_cases (less x) (x == slot) is)
  where
    chosen : (less x ≡ true) ⊎ ((x == slot) ≡ true) → (more x || (x == slot)) ≡ true
    chosen (inl known) = or_left (more x) (x == slot) (below x known)
    chosen (inr same) = or_right (more x) (x == slot) same

not_known : (less more : Known) (x : ℕ) → Below less more → more x ≡ false → less x ≡ false
not_known less more x below none = chosen (less x) refl
  where
    chosen : (b : Bool) → less x ≡ b → less x ≡ false
    chosen true is = absurd (true≢false (sym (below x is) ∙ none))
    chosen false is = is

pub fresh_below : (less more : Known) (slots : List ℕ) → Below less more → Fresh more slots → Fresh less slots
fresh_below less more [] below fresh = tt
fresh_below less more (slot ∷ rest) below fresh = (not_known less more slot below fresh.0, fresh_below (with_one less slot) (with_one more slot) rest (with_one_below less more slot below) fresh.1)

pub with_all_above : (known : Known) (slots : List ℕ) → Below known (with_all known slots)
with_all_above known [] x is = is
with_all_above known (slot ∷ rest) x is = with_all_above (with_one known slot) rest x (or_left (known x) (x == slot) is)

with_all_below : (less more : Known) (slots : List ℕ) → Below less more → Below (with_all less slots) (with_all more slots)
with_all_below less more [] below = below
with_all_below less more (slot ∷ rest) below = with_all_below (with_one less slot) (with_one more slot) rest (with_one_below less more slot below)

-- ---- one list behind another

pub fresh_front : (known : Known) (front rest : List ℕ) → Fresh known (front ++ rest) → Fresh known front
fresh_front known [] rest fresh = tt
fresh_front known (slot ∷ front) rest fresh = (fresh.0, fresh_front (with_one known slot) front rest fresh.1)

pub fresh_rest : (known : Known) (front rest : List ℕ) → Fresh known (front ++ rest) → Fresh (with_all known front) rest
fresh_rest known [] rest fresh = fresh
fresh_rest known (slot ∷ front) rest fresh = fresh_rest (with_one known slot) front rest fresh.1

pub fresh_behind : (known : Known) (front rest : List ℕ) → Fresh known (front ++ rest) → Fresh known rest
fresh_behind known front rest fresh = fresh_below known (with_all known front) rest (with_all_above known front) (fresh_rest known front rest fresh)

-- what a statement makes known is among what it declares
behind_below : (known : Known) (kind : StmtKind) → Below (behind known kind) (with_all known (declared_in kind))
behind_below known stmt.Empty x is = is
behind_below known (stmt.Value e) x is = is
behind_below known (stmt.Declare slot value) x is = is
behind_below known (stmt.Block' shape body) x is = with_all_above known (declared_in_row body) x is
behind_below known (stmt.If' test shape body other) x is = with_all_above known (declared_in_row body ++ declared_in_else other) x is
behind_below known (stmt.While' test shape body) x is = with_all_above known (declared_in_row body) x is
behind_below known (stmt.Do' shape body test) x is = with_all_above known (declared_in_row body) x is
behind_below known (stmt.For' first_shape first test third shape body) x is = with_all_above known (declared_in_row first ++ declared_in_row body) x is
behind_below known stmt.Break x is = is
behind_below known stmt.Continue x is = is
behind_below known (stmt.Return value) x is = is
behind_below known (stmt.Spawn' low high shape block) x is = with_all_above known (declared_in_row block) x is
behind_below known (stmt.Ps v r) x is = is
behind_below known (stmt.Psm v p) x is = is
behind_below known (stmt.Print text values) x is = is

-- behind a statement the variables that the rest declares are still fresh
pub fresh_next : (known : Known) (kind : StmtKind) (rest : List ℕ) → Fresh known (declared_in kind ++ rest) → Fresh (behind known kind) rest
fresh_next known kind rest fresh = fresh_below (behind known kind) (with_all known (declared_in kind)) rest (behind_below known kind) (fresh_rest known (declared_in kind) rest fresh)

with_all_append : (known : Known) (front rest : List ℕ) → with_all known (front ++ rest) ≡ with_all (with_all known front) rest
with_all_append known [] rest = refl
with_all_append known (slot ∷ front) rest = with_all_append (with_one known slot) front rest

behind_row_below : (known : Known) {n : _} (row : Row_of-Stmt n) → Below (behind_row known row) (with_all known (declared_in_row row))
behind_row_below known end_of-Stmt x is = is
behind_row_below known (more_of-Stmt place kind rest) x is =
    subst (λ (k : Known). k x ≡ true) (sym (with_all_append known (declared_in kind) (declared_in_row rest)))
    (with_all_below (behind known kind) (with_all known (declared_in kind)) (declared_in_row rest) (behind_below known kind) x (behind_row_below (behind known kind) rest x is))

pub fresh_behind_row : (known : Known) {n : _} (row : Row_of-Stmt n) (rest : List ℕ) → Fresh known (declared_in_row row ++ rest) → Fresh (behind_row known row) rest
fresh_behind_row known row rest fresh = fresh_below (behind_row known row) (with_all known (declared_in_row row)) rest (behind_row_below known row) (fresh_rest known (declared_in_row row) rest fresh)

-- ---- what is declared is not known before

module _ (x : ℕ) where
  pub declared_here : (known : Known) (kind : StmtKind) → is_declaration x kind ≡ true → Fresh known (declared_in kind) → known x ≡ false
  declared_here known stmt.Empty is fresh = absurd (false≢true is)
  declared_here known (stmt.Value e) is fresh = absurd (false≢true is)
  declared_here known (stmt.Declare slot value) is fresh = ap known (eqb-true x slot is) ∙ fresh.0
  declared_here known (stmt.Block' shape body) is fresh = absurd (false≢true is)
  declared_here known (stmt.If' test shape body other) is fresh = absurd (false≢true is)
  declared_here known (stmt.While' test shape body) is fresh = absurd (false≢true is)
  declared_here known (stmt.Do' shape body test) is fresh = absurd (false≢true is)
  declared_here known (stmt.For' first_shape first test third shape body) is fresh = absurd (false≢true is)
  declared_here known stmt.Break is fresh = absurd (false≢true is)
  declared_here known stmt.Continue is fresh = absurd (false≢true is)
  declared_here known (stmt.Return value) is fresh = absurd (false≢true is)
  declared_here known (stmt.Spawn' low high shape block) is fresh = absurd (false≢true is)
  declared_here known (stmt.Ps v r) is fresh = absurd (false≢true is)
  declared_here known (stmt.Psm v p) is fresh = absurd (false≢true is)
  declared_here known (stmt.Print text values) is fresh = absurd (false≢true is)

  one_of : (known : Known) (a b : Bool) (front rest : List ℕ) → (a || b) ≡ true → Fresh known (front ++ rest) → (a ≡ true → Fresh known front → known x ≡ false) →
      (b ≡ true → Fresh known rest → known x ≡ false) → known x ≡ false
  one_of known a b front rest is fresh left right = chosen (or_cases a b is)
    where
      chosen : (a ≡ true) ⊎ (b ≡ true) → known x ≡ false
      chosen (inl here) = left here (fresh_front known front rest fresh)
      chosen (inr there) = right there (fresh_behind known front rest fresh)

  either_way : (known : Known) (a b : Bool) → (a || b) ≡ true → (a ≡ true → known x ≡ false) → (b ≡ true → known x ≡ false) → known x ≡ false
  either_way known a b is left right = chosen (or_cases a b is)
    where
      chosen : (a ≡ true) ⊎ (b ≡ true) → known x ≡ false
      chosen (inl here) = left here
      chosen (inr there) = right there

  mutual
    pub declared_below : (known : Known) (kind : StmtKind) → some_below (is_declaration x) kind ≡ true → Fresh known (declared_in kind) → known x ≡ false
    declared_below known stmt.Empty is fresh = absurd (false≢true is)
    declared_below known (stmt.Value e) is fresh = absurd (false≢true is)
    declared_below known (stmt.Declare slot value) is fresh = absurd (false≢true is)
    declared_below known (stmt.Block' shape body) is fresh = declared_before known body is fresh
    declared_below known (stmt.If' test shape body other) is fresh =
        one_of known (some_in_body (is_declaration x) body) (some_in_other (is_declaration x) other) (declared_in_row body) (declared_in_else other) is fresh
        (λ here new. declared_before known body here new) (λ here new. declared_in_other known other here new)
    declared_below known (stmt.While' test shape body) is fresh = declared_before known body is fresh
    declared_below known (stmt.Do' shape body test) is fresh = declared_before known body is fresh
    declared_below known (stmt.For' first_shape first test third shape body) is fresh =
        one_of known (some_in_body (is_declaration x) first) (some_in_body (is_declaration x) body) (declared_in_row first) (declared_in_row body) is fresh
        (λ here new. declared_before known first here new) (λ here new. declared_before known body here new)
    declared_below known stmt.Break is fresh = absurd (false≢true is)
    declared_below known stmt.Continue is fresh = absurd (false≢true is)
    declared_below known (stmt.Return value) is fresh = absurd (false≢true is)
    declared_below known (stmt.Spawn' low high shape block) is fresh = declared_before known block is fresh
    declared_below known (stmt.Ps v r) is fresh = absurd (false≢true is)
    declared_below known (stmt.Psm v p) is fresh = absurd (false≢true is)
    declared_below known (stmt.Print text values) is fresh = absurd (false≢true is)

    pub declared_before : (known : Known) {n : _} (row : Row_of-Stmt n) → is_declared_in x row ≡ true → Fresh known (declared_in_row row) → known x ≡ false
    declared_before known end_of-Stmt is fresh = absurd (false≢true is)
    declared_before known (more_of-Stmt place kind rest) is fresh =
        one_of known (is_declaration x kind || some_below (is_declaration x) kind) (some_in_body (is_declaration x) rest) (declared_in kind) (declared_in_row rest) is fresh
        (λ here new. either_way known (is_declaration x kind) (some_below (is_declaration x) kind) here (λ own. declared_here known kind own new) (λ deep. declared_below known kind deep new))
        (λ here new. declared_before known rest here new)

    pub declared_in_other : (known : Known) (other : Held-StmtKind-If-2) → some_in_other (is_declaration x) other ≡ true → Fresh known (declared_in_else other) → known x ≡ false
    declared_in_other known None' is fresh = absurd (false≢true is)
    declared_in_other known (Some' shape body) is fresh = declared_before known body is fresh

-- ---- at the start of a function

tail_pairs : (slot : ℕ) (rest : List ℕ) → AllPairs (λ a b. a ≢ b) (slot ∷ rest) → AllPairs (λ a b. a ≢ b) rest
tail_pairs slot rest pairs i j d less within = pairs (suc i) (suc j) d (omega (arith, less)) (omega (arith, within))

differs_from : (slot : ℕ) (rest : List ℕ) → AllPairs (λ a b. a ≢ b) (slot ∷ rest) → All (λ other. slot ≢ other) rest
differs_from slot rest pairs k d within = pairs 0 (suc k) d (omega arith) (omega (arith, within))

other_number : (a b : ℕ) → (a ≡ b → ⊥) → (b == a) ≡ false
other_number a b apart = chosen (b == a) refl
  where
    chosen : (t : Bool) → (b == a) ≡ t → (b == a) ≡ false
    chosen true is = absurd (apart (sym (eqb-true b a is)))
    chosen false is = is

pub all_fresh : (known : Known) (slots : List ℕ) → AllPairs (λ a b. a ≢ b) slots → All (λ slot. known slot ≡ false) slots → Fresh known slots
all_fresh known [] pairs none = tt
all_fresh known (slot ∷ rest) pairs none = (
  All-head (λ s. known s ≡ false) slot rest none,
  all_fresh (with_one known slot) rest (tail_pairs slot rest pairs)
      (λ k d within. neither (known (get_or rest k d)) (get_or rest k d == slot) (All-tail (λ s. known s ≡ false) slot rest none k d within)
      (other_number slot (get_or rest k d) (differs_from slot rest pairs k d within))),
)
  where
    neither : (a b : Bool) → a ≡ false → b ≡ false → (a || b) ≡ false
    neither true b is other = is
    neither false b is other = other
