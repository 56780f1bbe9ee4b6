-- The bytes of the words and of the text of a thin source.
use Rattle.std.proofs.Common.{◌≡◌, ℕ, ◌+◌, ◌-◌, ◌^◌, ◌≤◌, ◌==◌, ◌&&◌, nat_lt, Bool, true, false, cond, [], ◌∷◌, ◌++◌, length, length-append, append_assoc, take, drop, Option, Some, None, codes, refl, sym, ap, ◌∙◌, subst, arith}
use Rattle.std.specs.Prelude.{slice_range}
use Rattle.std.specs.Char.{is_ascii_digit}
use Rattle.std.specs.List.{list_all}
use Rattle.std.specs.Str.{bytes_eq}
use Rattle.std.proofs.lemmas.Slice.Eq.{bytes_eq-Decides}
use Rattle.std.proofs.lemmas.List.{drop-drop, drop-take, take-take}
use Rattle.std.proofs.Math.Seq.{drop-append_seam, take-append_seam}
use Rattle.xmt_base.specs.declared.values.Place.{Place}
use Rattle.xmt_base.specs.Name.{is_name, is_name_start, is_name_part}
use Rattle.thin_source.specs.Tokens.{Text, text_rest, is_empty, is_mark, is_spelling, decimal_value, number_kind, name_kind, word_kind, mark_of, mark_kind, kind_of, token, AreTokens, end, blank, taken, TokensOf}
use Rattle.thin_source.specs.Names.{bytes_of}
use Rattle.thin_source.specs.Grammar.{Tokens}
use Rattle.thin_source.specs.Statements.{printed}
use Rattle.raw_tree.specs.Statements.{unescaped, text_of}
use Rattle.token_law.proofs.Bytes.{same_byte}
use Rattle.thin_law.proofs.SameTokens.{Kind, Token, whole_token, begins, is_text}

no_name : (w : Text) (t : Bool) → is_name w ≡ t → name_kind w ≡ word_kind (codes "main") → w ≡ codes "main"
unfolding name_kind
no_name w true is h = let other = rw is at h in absurd (cc)
no_name w false is h = let other = rw is at h in absurd (cc)

of_word : (w : Text) → word_kind w ≡ word_kind (codes "main") → w ≡ codes "main"
of_word w h = by (bytes_eq w (codes "int")) (bytes_eq w (codes "main")) (bytes_eq w (codes "spawn")) (bytes_eq w (codes "printf")) refl h
  where
    by : (first second third fourth : Bool) → bytes_eq w (codes "main") ≡ second →
        cond first (word_kind (codes "int")) (cond second (word_kind (codes "main")) (cond third (word_kind (codes "spawn")) (cond fourth (word_kind (codes "printf")) (name_kind w)))) ≡ word_kind (codes "main") → w ≡ codes "main"
    by true second third fourth _ h = absurd (cc)
    by false true third fourth is h = (bytes_eq-Decides w (codes "main")).0 is
    by false false true fourth _ h = absurd (cc)
    by false false false true _ h = absurd (cc)
    by false false false false _ h = no_name w (is_name w) refl h

no_number : (v : ℕ) (small : Bool) → nat_lt v (2 ^ 31) ≡ small → (w : Text) → number_kind v ≡ word_kind (codes "main") → w ≡ codes "main"
no_number v true is w h = let other = rw is at h in absurd (cc)
no_number v false is w h = let other = rw is at h in absurd (cc)

no_mark : (found : Option _) (w : Text) → mark_kind found ≡ word_kind (codes "main") → w ≡ codes "main"
no_mark None w h = absurd (cc)
no_mark (Some mark) w h = absurd (cc)

-- only "main" is the word `main`
of_kind : (w : Text) → kind_of w ≡ word_kind (codes "main") → w ≡ codes "main"
of_kind [] h = absurd (cc)
of_kind (b ∷ bs) h = by (is_name_start b) (is_ascii_digit b) (b == 34) h
  where
    by : (start digit quote : Bool) → cond start (word_kind (b ∷ bs)) (cond digit (number_kind (decimal_value 0 (b ∷ bs))) (cond quote (kind_of (34 ∷ [])) (mark_kind (mark_of b)))) ≡ word_kind (codes "main") → (b ∷ bs) ≡ codes "main"
    by true digit quote h = of_word (b ∷ bs) h
    by false true quote h = no_number (decimal_value 0 (b ∷ bs)) (nat_lt (decimal_value 0 (b ∷ bs)) (2 ^ 31)) refl (b ∷ bs) h
    by false false true h = absurd (cc)
    by false false false h = no_mark (mark_of b) (b ∷ bs) h

-- a token is what its bytes spell
pub record IsSpelling (source : Text) (t : Token) : Type 0 where
  pub spelling : is_spelling (bytes_of source t) ≡ true
  pub of_kind : kind_of (bytes_of source t) ≡ Some t.kind
  pub long : t.end ≡ t.start + length (bytes_of source t)

abbrev pub AreSpelled : Text → Tokens → Type 0
AreSpelled source [] = Unit {0}
AreSpelled source (t ∷ ts) = IsSpelling source t × AreSpelled source ts

pub spelled_parts : (source : Text) (x y : Tokens) → AreSpelled source (x ++ y) → AreSpelled source x × AreSpelled source y
spelled_parts source [] y h = (tt, h)
spelled_parts source (t ∷ x) y h = let parts = spelled_parts source x y h.1 in ((h.0, parts.0), parts.1)

-- the bytes w behind front
bytes_there : (front w z : Text) → slice_range (front ++ (w ++ z)) (length front) (length front + length w) ≡ w
bytes_there front w z =
    let many : length front + length w - length front ≡ length w = omega arith in
    ap (take (length front + length w - length front)) (drop-append_seam front (w ++ z)) ∙ ap (λ n. take n (w ++ z)) many ∙ take-append_seam w z

-- the token that those bytes are
there : (source front w z : Text) (at : ℕ) (p : Place) (k : _) → source ≡ front ++ (w ++ z) → length front ≡ at → is_spelling w ≡ true → kind_of w ≡ Some k → IsSpelling source (token at p w k)
there source front w z at p k is long spelling is_kind =
    let bytes : slice_range source at (at + length w) ≡ w = ap (λ s. slice_range s at (at + length w)) is ∙ ap (λ n. slice_range (front ++ (w ++ z)) n (n + length w)) (sym long) ∙ bytes_there front w z in
    record { spelling = ap is_spelling bytes ∙ spelling; of_kind = ap kind_of bytes ∙ is_kind; long = ap (λ s. at + length s) (sym bytes) }

spelled_from : (source front : Text) {at : ℕ} {p : Place} {z : Text} {ts : Tokens} → AreTokens at p z ts → source ≡ front ++ z → length front ≡ at → AreSpelled source ts
spelled_from source front end is long = tt
spelled_from source front (blank {at = at} b {z = z} is_blank rest) is long =
    spelled_from source (front ++ b ∷ []) rest (is ∙ sym (append_assoc front (b ∷ []) z)) (omega (arith, length-append front (b ∷ []), long))
spelled_from source front (taken {at = at} {p = p} w z k longest is_kind rest) is long =
    (there source front w z at p k is long longest.0 is_kind, spelled_from source (front ++ w) rest (is ∙ sym (append_assoc front w z)) (omega (arith, length-append front w, long)))

pub tokens_are_spelled : (source : Text) (ts : Tokens) → TokensOf source ts → AreSpelled source ts
tokens_are_spelled source ts are = spelled_from source [] are refl refl

behind : (source : Text) (x : Tokens) (t : Token) (y : Tokens) → AreSpelled source (x ++ t ∷ y) → kind_of (bytes_of source t) ≡ Some t.kind
behind source [] t y h = h.0.of_kind
behind source (u ∷ x) t y h = behind source x t y h.1

pub main_bytes : (source : Text) (x : Tokens) (t : Token) (y : Tokens) → TokensOf source (x ++ t ∷ y) → Some t.kind ≡ word_kind (codes "main") → bytes_of source t ≡ codes "main"
main_bytes source x t y are is = of_kind (bytes_of source t) (behind source x t y (tokens_are_spelled source (x ++ t ∷ y) are) ∙ is)

-- ---- names

abbrev begins_one : Option Kind → Bool
begins_one None = false
begins_one (Some k) = begins k

-- a token that begins a statement, as a name does, isn't the word `main`
pub no_main : (source : Text) (t : Token) → IsSpelling source t → begins t.kind ≡ true → ¬ (bytes_of source t ≡ codes "main")
no_main source t spelled is same =
    let main : kind_of (codes "main") ≡ Some t.kind = ap kind_of (sym same) ∙ spelled.of_kind in
    let clash : false ≡ true = ap begins_one main ∙ is in
    absurd (cc)

-- ---- the text

abbrev text_in : Option Kind → Bool
text_in None = false
text_in (Some k) = is_text k

no_text_name : (w : Text) (t : Bool) → is_name w ≡ t → text_in (name_kind w) ≡ false
unfolding name_kind
no_text_name w true is = rw is refl
no_text_name w false is = rw is refl

no_text_word : (w : Text) → text_in (word_kind w) ≡ false
no_text_word w = by (bytes_eq w (codes "int")) (bytes_eq w (codes "main")) (bytes_eq w (codes "spawn")) (bytes_eq w (codes "printf"))
  where
    by : (first second third fourth : Bool) →
        text_in (cond first (word_kind (codes "int")) (cond second (word_kind (codes "main")) (cond third (word_kind (codes "spawn")) (cond fourth (word_kind (codes "printf")) (name_kind w))))) ≡ false
    by true second third fourth = refl
    by false true third fourth = refl
    by false false true fourth = refl
    by false false false true = refl
    by false false false false = no_text_name w (is_name w) refl

no_text_number : (v : ℕ) (small : Bool) → nat_lt v (2 ^ 31) ≡ small → text_in (number_kind v) ≡ false
no_text_number v true is = rw is refl
no_text_number v false is = rw is refl

no_text_mark : (found : Option _) → text_in (mark_kind found) ≡ false
no_text_mark None = refl
no_text_mark (Some mark) = refl

-- only one spelling is a text
text_is : (w : Text) → is_spelling w ≡ true → text_in (kind_of w) ≡ true → w ≡ 34 ∷ text_rest
text_is [] spelling is = absurd (cc)
text_is (b ∷ bs) spelling is = by (is_name_start b) (is_ascii_digit b) (b == 34) (b == 48) refl refl refl is spelling
  where
    by : (start digit quote nought : Bool) → is_ascii_digit b ≡ digit → (b == 34) ≡ quote → (b == 48) ≡ nought →
        text_in (cond start (word_kind (b ∷ bs)) (cond digit (number_kind (decimal_value 0 (b ∷ bs))) (cond quote (kind_of (34 ∷ [])) (mark_kind (mark_of b))))) ≡ true →
        cond start (list_all is_name_part bs) (cond nought (is_empty bs) (cond digit (list_all is_ascii_digit bs) (cond quote (bytes_eq bs text_rest) (is_mark b && is_empty bs)))) ≡ true →
        (b ∷ bs) ≡ 34 ∷ text_rest
    by true digit quote nought _ _ _ is spelling = let no = no_text_word (b ∷ bs) in absurd (cc)
    by false true quote nought _ _ _ is spelling = let no = no_text_number (decimal_value 0 (b ∷ bs)) (nat_lt (decimal_value 0 (b ∷ bs)) (2 ^ 31)) refl in absurd (cc)
    by false false true true none _ nought is spelling = let no : is_ascii_digit 48 ≡ false = subst (λ (c : ℕ). is_ascii_digit c ≡ false) (same_byte b 48 nought) none in absurd (cc)
    by false false true false _ quote _ is spelling = ap (λ (c : ℕ). c ∷ bs) (same_byte b 34 quote) ∙ ap (λ (v : Text). 34 ∷ v) ((bytes_eq-Decides bs text_rest).0 spelling)
    by false false false nought _ _ _ is spelling = let no = no_text_mark (mark_of b) in absurd (cc)

-- what is left of a slice without its ends
inner : (source w : Text) (from to : ℕ) → slice_range source from to ≡ w → to ≡ from + length w → 2 ≤ length w → slice_range source (from + 1) (to - 1) ≡ take (length w - 2) (drop 1 w)
inner source w from to is long some =
    let size : to - from ≡ 1 + (length w - 1) = omega arith in
    let less : to - 1 - (from + 1) ≡ length w - 2 = omega arith in
    let same : take (1 + (length w - 1)) (drop from source) ≡ w = ap (λ n. take n (drop from source)) (sym size) ∙ is in
    ap (λ n. take n (drop (from + 1) source)) less
    ∙ ap (take (length w - 2)) (sym (drop-drop 1 from source))
    ∙ sym (take-take (length w - 2) (length w - 1) (drop 1 (drop from source)) (omega arith))
    ∙ ap (take (length w - 2)) (sym (drop-take 1 (length w - 1) (drop from source)) ∙ ap (drop 1) same)

pub text_bytes : (source : Text) (t : Token) → IsSpelling source t → is_text t.kind ≡ true → (text_of source (whole_token t)).bytes ≡ printed
text_bytes source t spelled is =
    let same = text_is (bytes_of source t) spelled.spelling (ap text_in spelled.of_kind ∙ is) in
    let long : t.end ≡ t.start + length (34 ∷ text_rest) = spelled.long ∙ ap (λ w. t.start + length w) same in
    ap (unescaped false) (inner source (34 ∷ text_rest) t.start t.end same long (omega arith))
