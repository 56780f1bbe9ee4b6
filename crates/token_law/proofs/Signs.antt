-- The table of marks: the first with which bytes begin is the longest.
use Rattle.std.proofs.Common.{◌≡◌, ℕ, ◌≤◌, ◌<◌, ◌==◌, ◌&&◌, nat_le, nat_lt, not, Bool, true, false, cond, List, [], ◌∷◌, ◌++◌, length, take, drop, take-append-drop, slice_index, Some, refl, sym, ap, ◌∙◌, subst, arith}
use Rattle.std.proofs.lemmas.Bool.Decides.{nat_tests}
use Rattle.std.proofs.Math.Seq.{take-append_seam}
use Rattle.std.specs.List.{list_all}
use Rattle.std.specs.Str.{bytes_eq}
use Rattle.std.proofs.lemmas.Slice.Eq.{bytes_eq-Decides}
use Rattle.xmt_lex.specs.declared.TokenKind.TheVariants as kind
use Rattle.xmt_lex.specs.declared.kinds.Mark.{Mark}
use Rattle.xmt_lex.specs.declared.scan.Class.TheVariants as class
use Rattle.xmt_lex.specs.declared.scan.Piece.{Piece}
use Rattle.xmt_lex.specs.declared.scan.Piece.TheVariants as piece
use Rattle.xmt_lex.specs.Tables.{marks}
use Rattle.xmt_lex.specs.Lex.{Text, is_in, lookup, begins, mark_in, mark}
use Rattle.token_law.proofs.Bytes.{both}

-- how many bytes a piece takes; a fault takes none
abbrev pub piece_size : Piece → ℕ
piece_size (piece.Nothing n) = n
piece_size (piece.Word n) = n
piece_size (piece.Whole n k) = n
piece_size (piece.Bad k at) = 0

abbrev pub IsBad : Piece → Type 0
IsBad (piece.Bad k at) = Unit {0}
IsBad _ = ⊥

abbrev Table : Type 0
Table = List (Text × Mark)

same : (v w : Text) → bytes_eq v w ≡ true → v ≡ w
same v w h = (bytes_eq-Decides v w).0 h

equal : (v w : Text) → v ≡ w → bytes_eq v w ≡ true
equal v w h = (bytes_eq-Decides v w).1 h

-- a test of each spelling in a table holds of what is found there
listed : (p : Text → Bool) (table : Table) (w : Text) (k : Mark) → list_all (λ e. p e.0) table ≡ true → lookup table w ≡ Some k → p w ≡ true
listed p [] w k all found = absurd (cc)
listed p (e ∷ es) w k all found = by (listed p es w k ((both (p e.0) (list_all (λ d. p d.0) es) all).1)) (bytes_eq w e.0) refl found
  where
    by : (lookup es w ≡ Some k → p w ≡ true) → (t : Bool) → bytes_eq w e.0 ≡ t → cond t (Some e.1) (lookup es w) ≡ Some k → p w ≡ true
    by rest true is h = ap p (same w e.0 is) ∙ (both (p e.0) (list_all (λ d. p d.0) es) all).0
    by rest false is h = rest h

-- ---- what a table's marks are

-- the first byte begins nothing else
abbrev begins_sign : Text → Bool
begins_sign w = not (is_in class.Blank (slice_index w 0)) && (not (is_in class.Digit (slice_index w 0)) && (not (is_in class.Word (slice_index w 0)) && (not (slice_index w 0 == 34) && (not (slice_index w 0 == 35) && nat_lt 0 (length w)))))

abbrev pub IsSignByte : ℕ → Type 0
IsSignByte b = (is_in class.Blank b ≡ false) × (is_in class.Digit b ≡ false) × (is_in class.Word b ≡ false) × ((b == 34) ≡ false) × ((b == 35) ≡ false)

no : (t : Bool) → not t ≡ true → t ≡ false
no true h = absurd (cc)
no false h = refl

pub sign_byte : (w : Text) (k : Mark) → lookup marks w ≡ Some k → IsSignByte (slice_index w 0) × (0 < length w)
unfolding marks
sign_byte w k found =
    let all : begins_sign w ≡ true = listed begins_sign marks w k refl found in
    let b = slice_index w 0 in
    let one = both (not (is_in class.Blank (slice_index w 0))) _ all in
    let two = both (not (is_in class.Digit (slice_index w 0))) _ one.1 in
    let three = both (not (is_in class.Word (slice_index w 0))) _ two.1 in
    let four = both (not (slice_index w 0 == 34)) _ three.1 in
    let five = both (not (slice_index w 0 == 35)) (nat_lt 0 (length w)) four.1 in
    ((no _ one.0, no _ two.0, no _ three.0, no _ four.0, no _ five.0), more five.1)
  where
    more : nat_lt 0 (length w) ≡ true → 0 < length w
    more h = grind (arith, nat_tests)

-- no mark is longer than one that stands before it
abbrev descends : Table → Bool
descends [] = true
descends (e ∷ es) = list_all (λ d. nat_le (length d.0) (length e.0)) es && descends es

-- ---- the mark in front

pub data MarkFront (table : Table) (z : Text) : Type 0 where
  found : (w y : Text) (k : Mark) → z ≡ w ++ y → lookup table w ≡ Some k → mark_in table z ≡ piece.Whole (length w) (kind.Mark k) → MarkFront table z
  none : IsBad (mark_in table z) → MarkFront table z

begun : (w y : Text) → begins (w ++ y) w ≡ true
begun w y = equal (take (length w) (w ++ y)) w (take-append_seam w y)

mark_front : (table : Table) (z : Text) → MarkFront table z
mark_front [] z = none tt
mark_front (e ∷ es) z = by (mark_front es z) (begins z e.0) refl
  where
    behind : begins z e.0 ≡ false → MarkFront es z → MarkFront (e ∷ es) z
    behind is (none bad) = none (subst IsBad (sym (ap (λ (t : Bool). cond t (piece.Whole (length e.0) (kind.Mark e.1)) (mark_in es z)) is)) bad)
    behind is (found w y k split entry seen) = found w y k split (other (bytes_eq w e.0) refl) (ap (λ (t : Bool). cond t (piece.Whole (length e.0) (kind.Mark e.1)) (mark_in es z)) is ∙ seen)
      where
        other : (t : Bool) → bytes_eq w e.0 ≡ t → cond t (Some e.1) (lookup es w) ≡ Some k
        other false h = entry
        other true h =
            let first : begins z w ≡ true = ap (λ (v : Text). begins v w) split ∙ begun w y in
            absurd (let wrong : true ≡ false = sym first ∙ ap (begins z) (same w e.0 h) ∙ is in cc)

    by : MarkFront es z → (t : Bool) → begins z e.0 ≡ t → MarkFront (e ∷ es) z
    by rest true is =
        found e.0 (drop (length e.0) z) e.1 (sym (take-append-drop (length e.0) z) ∙ ap (λ (v : Text). v ++ drop (length e.0) z) (same (take (length e.0) z) e.0 is))
        (ap (λ (t : Bool). cond t (Some e.1) (lookup es e.0)) (equal e.0 e.0 refl)) (ap (λ (t : Bool). cond t (piece.Whole (length e.0) (kind.Mark e.1)) (mark_in es z)) is)
    by rest false is = behind is rest

-- a mark in front is no longer than the first one that is found, and where it is as long, it is that one
pub record Fits (w : Text) (k : Mark) (p : Piece) : Type 0 where
  pub short : length w ≤ piece_size p
  pub exact : length w ≡ piece_size p → p ≡ piece.Whole (length w) (kind.Mark k)

at_most : (m n : ℕ) → nat_le m n ≡ true → m ≤ n
at_most m n h = grind (arith, nat_tests)

sign_fits : (table : Table) (w y : Text) (k : Mark) → descends table ≡ true → lookup table w ≡ Some k → Fits w k (mark_in table (w ++ y))
sign_fits [] w y k down entry = absurd (cc)
sign_fits (e ∷ es) w y k down entry = by (λ more. sign_fits es w y k parts.1 more) (begins (w ++ y) e.0) (bytes_eq w e.0) refl refl entry
  where
    parts : (list_all (λ d. nat_le (length d.0) (length e.0)) es ≡ true) × (descends es ≡ true)
    parts = both (list_all (λ d. nat_le (length d.0) (length e.0)) es) (descends es) down

    here : begins (w ++ y) e.0 ≡ true → mark_in (e ∷ es) (w ++ y) ≡ piece.Whole (length e.0) (kind.Mark e.1)
    here is = ap (λ (t : Bool). cond t (piece.Whole (length e.0) (kind.Mark e.1)) (mark_in es (w ++ y))) is

    by : (lookup es w ≡ Some k → Fits w k (mark_in es (w ++ y))) → (t same_bytes : Bool) → begins (w ++ y) e.0 ≡ t → bytes_eq w e.0 ≡ same_bytes → cond same_bytes (Some e.1) (lookup es w) ≡ Some k → Fits w k (mark_in (e ∷ es) (w ++ y))
    by rest true true is equals h =
        let long : length w ≡ length e.0 = ap length (same w e.0 equals) in
        let mark_is : e.1 ≡ k = cc in
        subst (Fits w k) (sym (here is)) (record { short = omega (arith, long); exact = λ _. ap (λ (n : ℕ). piece.Whole n (kind.Mark e.1)) (sym long) ∙ ap (λ (m : Mark). piece.Whole (length w) (kind.Mark m)) mark_is })
    by rest true false is equals h =
        let less : length w ≤ length e.0 = at_most (length w) (length e.0) (listed (λ v. nat_le (length v) (length e.0)) es w k parts.0 h) in
        subst (Fits w k) (sym (here is)) (record {
          short = less;
          exact = λ long.
              let front : w ≡ e.0 = sym (take-append_seam w y) ∙ ap (λ (n : ℕ). take n (w ++ y)) long ∙ same (take (length e.0) (w ++ y)) e.0 is in
              absurd (let wrong : true ≡ false = sym (equal w e.0 front) ∙ equals in cc);
        })
    by rest false true is equals h = let first : begins (w ++ y) e.0 ≡ true = ap (begins (w ++ y)) (sym (same w e.0 equals)) ∙ begun w y in absurd (let wrong : true ≡ false = sym first ∙ is in cc)
    by rest false false is equals h = subst (Fits w k) (sym (ap (λ (t : Bool). cond t (piece.Whole (length e.0) (kind.Mark e.1)) (mark_in es (w ++ y))) is)) (rest h)

pub mark_found : (z : Text) → MarkFront marks z
mark_found z = mark_front marks z

pub mark_fits : (w y : Text) (k : Mark) → lookup marks w ≡ Some k → Fits w k (mark (w ++ y))
unfolding mark marks
mark_fits w y k entry = sign_fits marks w y k refl entry
