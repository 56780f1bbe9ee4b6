-- The bytes of names and of texts among the tokens of a source.
use Rattle.std.proofs.Common.{◌≡◌, refl, sym, ◌∙◌, ap, subst, arith, ℕ, suc, ◌+◌, ◌-◌, ◌^◌, ◌≤◌, Bool, true, false, List, [], ◌∷◌, ◌++◌, length, length-append, append_assoc, take, drop, Option, Some, None, ◌⊎◌, inl, inr}
use Rattle.std.proofs.lemmas.Bool.{true≢false, false≢true, or_cases, and_parts, or_from, eqb-true, not-true}
use Rattle.std.specs.Prelude.{All, map, not, ◌&&◌, ◌||◌, ◌==◌, nat_le, if◌then◌else◌, slice_range}
use Rattle.std.specs.List.{list_all, list_any}
use Rattle.std.specs.Str.{bytes_eq}
use Rattle.std.proofs.Math.Seq.{drop-append_seam, take-append_seam}
use Rattle.std.proofs.lemmas.Bool.Decides.{nat_tests}
use Rattle.std.proofs.lemmas.Slice.Eq.{bytes_eq-Decides}
use Rattle.std.proofs.lemmas.List.Elements.{All-nil, All-cons}
use Rattle.xmt_base.specs.Name.{keywords, is_name_start, is_name_part, is_keyword, is_word, is_name}
use Rattle.xmt_base.specs.Format.{IsPrintable}
use Rattle.xmt_lex.specs.declared.Spot.{Spot}
use Rattle.xmt_lex.specs.declared.Token.{Token}
use Rattle.xmt_lex.specs.declared.TokenKind.{TokenKind}
use Rattle.xmt_lex.specs.declared.TokenKind.TheVariants as kind
use Rattle.xmt_lex.specs.declared.kinds.Keyword.{Keyword}
use Rattle.xmt_lex.specs.declared.scan.Class.TheVariants as class
use Rattle.xmt_lex.specs.Tables as table
use Rattle.xmt_lex.specs.Lex.{Text, behind, along, is_in, lookup, keyword_of, kind_of_keyword, kind_of_defined, kind_of_word, is_escape, token_at, first_spot}
use Rattle.token_law.specs.Spelling.{Shape, Word, Spells, word, quoted, is_text_byte, IsTextBody, none, byte, escape}
use Rattle.token_law.specs.Longest as law
use Rattle.token_law.specs.Longest.{IsToken, AreTokens}
use Rattle.token_law.proofs.Bytes.{word_byte}
use Rattle.raw_tree.specs.Level.{Tokens, bytes_of}
use Rattle.raw_tree.specs.Statements.{escaped, unescaped}
use Rattle.checked_programs.specs.Checked.{IsShortName}
use Rattle.resolved_programs.specs.FromSource.{IsText}

-- ---- bytes in the middle of a source

slice_middle : (front middle back : List ℕ) (i j : ℕ) → i ≡ length front → j ≡ i + length middle → slice_range (front ++ (middle ++ back)) i j ≡ middle
slice_middle front middle back i j at to =
    let size : j - i ≡ length middle = omega arith in
    ap (λ n. take n (drop i (front ++ (middle ++ back)))) size ∙ ap (λ n. take (length middle) (drop n (front ++ (middle ++ back)))) at
    ∙ ap (take (length middle)) (drop-append_seam front (middle ++ back)) ∙ take-append_seam middle back

behind_at : (s : Spot) (b : ℕ) → (behind s b).at ≡ s.at + 1
behind_at s b = by_test (b == 10)
  where
    by_test : (t : Bool) →
        let next : Spot = if t then record { at = s.at + 1; place = record { line = s.place.line + 1; column = 1 }; fresh = true }
        else record { at = s.at + 1; place = record { line = s.place.line; column = s.place.column + 1 }; fresh = s.fresh && (b == 32 || b == 9) } in
        next.at ≡ s.at + 1
    by_test true = refl
    by_test false = refl

along_at : (s : Spot) (w : Text) → (along s w).at ≡ s.at + length w
along_at s [] = omega arith
along_at s (b ∷ w) = omega (arith, along_at (behind s b) w, behind_at s b)

-- ---- names

same_bytes : (a b : List ℕ) → bytes_eq a b ≡ true → a ≡ b
same_bytes a b = (bytes_eq-Decides a b).0

equal_bytes : (a b : List ℕ) → a ≡ b → bytes_eq a b ≡ true
equal_bytes a b = (bytes_eq-Decides a b).1

turned : (a b : List ℕ) → bytes_eq a b ≡ false → bytes_eq b a ≡ false
turned a b apart = chosen (bytes_eq b a) refl
  where
    chosen : (t : Bool) → bytes_eq b a ≡ t → bytes_eq b a ≡ false
    chosen true is = absurd (true≢false (sym (equal_bytes a b (sym (same_bytes b a is))) ∙ apart))
    chosen false is = is

both_tables : map (λ (e : List ℕ × Keyword). e.0) table.keywords ≡ keywords
unfolding table.keywords
both_tables = refl

no_entry : (es : List (List ℕ × Keyword)) (w : List ℕ) → lookup es w ≡ None → list_any (λ key. bytes_eq key w) (map (λ (e : List ℕ × Keyword). e.0) es) ≡ false
no_entry [] w is = refl
no_entry (e ∷ es) w is = chosen (bytes_eq w e.0) refl is (λ found. no_entry es w found)
  where
    chosen : (t : Bool) → bytes_eq w e.0 ≡ t → (if t then Some e.1 else lookup es w) ≡ None →
        (lookup es w ≡ None → list_any (λ key. bytes_eq key w) (map (λ (e : List ℕ × Keyword). e.0) es) ≡ false) → list_any (λ key. bytes_eq key w) (map (λ (e : List ℕ × Keyword). e.0) (e ∷ es)) ≡ false
    chosen true is found behind = absurd (let wrong : Some e.1 ≡ None = found in cc)
    chosen false is found behind = or_from (bytes_eq e.0 w) (list_any (λ key. bytes_eq key w) (map (λ (e : List ℕ × Keyword). e.0) es)) (turned w e.0 is) (behind found)

no_keyword : (w : List ℕ) → keyword_of w ≡ None → is_keyword w ≡ false
unfolding keyword_of
no_keyword w is = ap (list_any (λ key. bytes_eq key w)) (sym both_tables) ∙ no_entry table.keywords w is

-- a word that is a name is in no table
name_in_none : (defined : List (Text × ℕ)) (w : Text) → kind_of_word defined w ≡ kind.Name → keyword_of w ≡ None
name_in_none defined w is = by_definition (lookup defined w) is
  where
    by_keyword : (o : Option Keyword) → kind_of_keyword o ≡ kind.Name → o ≡ None
    by_keyword None is = refl
    by_keyword (Some k) is = absurd (let wrong : kind.Keyword k ≡ kind.Name = is in cc)

    by_definition : (o : Option ℕ) → kind_of_defined o w ≡ kind.Name → keyword_of w ≡ None
    by_definition None is = by_keyword (keyword_of w) is
    by_definition (Some v) is = absurd (let wrong : kind.Number v ≡ kind.Name = is in cc)

-- nor is a word a text
no_text : (defined : List (Text × ℕ)) (w : Text) → kind_of_word defined w ≡ kind.Text → ⊥
no_text defined w is = by_definition (lookup defined w) is
  where
    by_keyword : (o : Option Keyword) → kind_of_keyword o ≡ kind.Text → ⊥
    by_keyword None is = cc
    by_keyword (Some k) is = cc

    by_definition : (o : Option ℕ) → kind_of_defined o w ≡ kind.Text → ⊥
    by_definition None is = by_keyword (keyword_of w) is
    by_definition (Some v) is = cc

parts : (w : List ℕ) → list_all (is_in class.Word) w ≡ true → list_all is_name_part w ≡ true
parts [] is = refl
parts (b ∷ w) is = both (is_in class.Word b) (list_all (is_in class.Word) w) (is_name_part b) (list_all is_name_part w) is (word_byte b) (λ rest. parts w rest)
  where
    both : (a more b others : Bool) → (a && more) ≡ true → a ≡ b → (more ≡ true → others ≡ true) → (b && others) ≡ true
    both true true b others is same behind = ap (λ t. t && others) (sym same) ∙ behind refl
    both true false b others is same behind = absurd (false≢true is)
    both false more b others is same behind = absurd (false≢true is)

is_word_of : (w : List ℕ) → Spells Word w → is_word w ≡ true
is_word_of w (word b rest start all) = both (is_name_start b) (list_all is_name_part rest) start (parts rest all)
  where
    both : (a b : Bool) → a ≡ true → b ≡ true → (a && b) ≡ true
    both true b is other = other
    both false b is other = absurd (false≢true is)

named : (defined : List (Text × ℕ)) (w : Text) → Spells Word w → kind_of_word defined w ≡ kind.Name → is_name w ≡ true
named defined w spells is = both (is_word w) (is_keyword w) (is_word_of w spells) (no_keyword w (name_in_none defined w is))
  where
    both : (a b : Bool) → a ≡ true → b ≡ false → (a && not b) ≡ true
    both a true is other = absurd (true≢false other)
    both a false is other = ap (λ t. t && true) is

-- ---- texts

in_range : (b : ℕ) → 32 ≤ b → b ≤ 126 → IsPrintable b
in_range b low high = inr (inr (low, high))

-- an escape stands for a tab, a newline, a quote or a `\`
escaped_printable : (b : ℕ) → is_escape b ≡ true → IsPrintable (escaped b)
escaped_printable b is = by_tests (b == 110) (b == 116) refl refl
  where
    last : ((b == 92) ≡ true) ⊎ ((b == 34) ≡ true) → IsPrintable b
    last (inl same) = let is : b ≡ 92 = eqb-true b 92 same in in_range b (omega arith) (omega arith)
    last (inr same) = let is : b ≡ 34 = eqb-true b 34 same in in_range b (omega arith) (omega arith)

    by_tests : (p q : Bool) → (b == 110) ≡ p → (b == 116) ≡ q → IsPrintable (if p then 10 else (if q then 9 else b))
    by_tests true q first second = inr (inl refl)
    by_tests false true first second = inl refl
    by_tests false false first second = last (or_cases (b == 92) (b == 34) (ap (λ t. (t || b == 92) || b == 34) (sym (ap (λ t. t || b == 116) first ∙ second)) ∙ is))

byte_printable : (b : ℕ) → is_text_byte b ≡ true → IsPrintable b
byte_printable b is =
    let front = (and_parts (nat_le 32 b && nat_le b 126 && not (b == 34)) (not (b == 92)) is).0 in
    let range = (and_parts (nat_le 32 b && nat_le b 126) (not (b == 34)) front).0 in
    let bounds = and_parts (nat_le 32 b) (nat_le b 126) range in
    in_range b (low b bounds.0) (high b bounds.1)
  where
    low : (b : ℕ) → nat_le 32 b ≡ true → 32 ≤ b
    low b is = grind (arith, nat_tests)

    high : (b : ℕ) → nat_le b 126 ≡ true → b ≤ 126
    high b is = grind (arith, nat_tests)

no_escape : (b : ℕ) → is_text_byte b ≡ true → (b == 92) ≡ false
no_escape b is = not-true (b == 92) (and_parts (nat_le 32 b && nat_le b 126 && not (b == 34)) (not (b == 92)) is).1

text_printable : (w : Text) → IsTextBody w → All IsPrintable (unescaped false w)
text_printable w none = All-nil IsPrintable
text_printable w (byte b {w = rest} is body) =
    subst (λ t. All IsPrintable (if t then unescaped true rest else b ∷ unescaped false rest)) (sym (no_escape b is))
    (All-cons IsPrintable b (unescaped false rest) (byte_printable b is) (text_printable rest body))
text_printable w (escape b {w = rest} is body) = All-cons IsPrintable (escaped b) (unescaped false rest) (escaped_printable b is) (text_printable rest body)

text_short : (w : Text) → IsTextBody w → length (unescaped false w) ≤ length w
text_short w none = omega arith
text_short w (byte b {w = rest} is body) =
    subst (λ t. length (if t then unescaped true rest else b ∷ unescaped false rest) ≤ suc (length rest)) (sym (no_escape b is)) (omega (arith, text_short rest body))
text_short w (escape b {w = rest} is body) = omega (arith, text_short rest body)

-- ---- tokens

pub record IsGood (source : List ℕ) (t : Token) : Type 0 where
  pub name : t.kind ≡ kind.Name → IsShortName (bytes_of source t)
  pub text : t.kind ≡ kind.Text → IsText (unescaped false (slice_range source (t.start + 1) (t.end - 1)))

abbrev pub AreGood : List ℕ → Tokens → Type 0
AreGood source [] = Unit {0}
AreGood source (t ∷ ts) = IsGood source t × AreGood source ts

own_bytes : (source done w z : List ℕ) (s : Spot) (k : TokenKind) → source ≡ done ++ (w ++ z) → s.at ≡ length done → bytes_of source (token_at s (length w) k) ≡ w
own_bytes source done w z s k is at = ap (λ xs. slice_range xs s.at (s.at + length w)) is ∙ slice_middle done w z s.at (s.at + length w) at refl

inner_bytes : (source done w z : List ℕ) (s : Spot) → source ≡ done ++ ((34 ∷ (w ++ 34 ∷ [])) ++ z) → s.at ≡ length done →
    slice_range source (s.at + 1) (s.at + length (34 ∷ (w ++ 34 ∷ [])) - 1) ≡ w
inner_bytes source done w z s is at =
    let long : length (34 ∷ (w ++ 34 ∷ [])) ≡ length w + 2 = omega (arith, length-append w (34 ∷ [])) in
    let moved : source ≡ (done ++ 34 ∷ []) ++ (w ++ (34 ∷ z)) =
    is ∙ ap (λ xs. done ++ (34 ∷ xs)) (append_assoc w (34 ∷ []) z) ∙ sym (append_assoc done (34 ∷ []) (w ++ (34 ∷ z))) in
    ap (λ xs. slice_range xs (s.at + 1) (s.at + length (34 ∷ (w ++ 34 ∷ [])) - 1)) moved
    ∙ slice_middle (done ++ 34 ∷ []) w (34 ∷ z) (s.at + 1) (s.at + length (34 ∷ (w ++ 34 ∷ [])) - 1) (omega (arith, length-append done (34 ∷ []), at)) (omega (arith, long))

short_part : (source done w z : List ℕ) → source ≡ done ++ (w ++ z) → length source ≤ 2 ^ 20 → length w ≤ 2 ^ 20
short_part source done w z is short = omega (arith, ap length is, length-append done (w ++ z), length-append w z, short)

good_token : (source done w z : List ℕ) (s : Spot) (defined : List (Text × ℕ)) (shape : Shape) (k : TokenKind) → length source ≤ 2 ^ 20 → source ≡ done ++ (w ++ z) → s.at ≡ length done →
    Spells shape w → IsToken defined shape w k → IsGood source (token_at s (length w) k)
good_token source done w z s defined shape k short is at spells (law.word _) =
    record {
      name = λ named_so. subst IsShortName (sym (own_bytes source done w z s (kind_of_word defined w) is at))
          (record { spelled = named defined w spells named_so; short = omega (arith, short_part source done w z is short) });
      text = λ text_so. absurd (no_text defined w text_so);
    }
good_token source done w z s defined shape k short is at spells (law.number _ v number below) =
    record { name = λ so. absurd (let wrong : kind.Number v ≡ kind.Name = so in cc); text = λ so. absurd (let wrong : kind.Number v ≡ kind.Text = so in cc) }
good_token source done w z s defined shape k short is at (quoted inside body) (law.text _) =
    record {
      name = λ so. absurd (let wrong : kind.Text ≡ kind.Name = so in cc);
      text = λ so. subst (λ xs. IsText (unescaped false xs)) (sym (inner_bytes source done inside z s is at))
          (record { printable = text_printable inside body; short = omega (arith, text_short inside body, short_part source done (34 ∷ (inside ++ 34 ∷ [])) z is short, length-append inside (34 ∷ [])) });
    }
good_token source done w z s defined shape k short is at spells (law.mark _ mark) =
    record { name = λ so. absurd (let wrong : kind.Mark mark ≡ kind.Name = so in cc); text = λ so. absurd (let wrong : kind.Mark mark ≡ kind.Text = so in cc) }

all_good : (source done rest : List ℕ) (s : Spot) (defined : List (Text × ℕ)) (ts : Tokens) → length source ≤ 2 ^ 20 → source ≡ done ++ rest → s.at ≡ length done → AreTokens defined s rest ts → AreGood source ts
all_good source done rest s defined ts short is at law.end = tt
all_good source done rest s defined ts short is at (law.parting shape w z longest parts more) =
    all_good source (done ++ w) z (along s w) defined ts short (is ∙ sym (append_assoc done w z)) (omega (arith, along_at s w, at, length-append done w)) more
all_good source done rest s defined ts short is at (law.token shape w z k longest one more) = (
  good_token source done w z s defined shape k short is at longest.spells one,
  all_good source (done ++ w) z (along s w) defined _ short (is ∙ sym (append_assoc done w z)) (omega (arith, along_at s w, at, length-append done w)) more,
)
all_good source done rest s defined ts short is at (law.hashed w z said fresh all ends line adds more) =
    all_good source (done ++ (35 ∷ w)) z (along s (35 ∷ w)) _ ts short (is ∙ sym (append_assoc done (35 ∷ w) z)) (omega (arith, along_at s (35 ∷ w), at, length-append done (35 ∷ w))) more

pub tokens_are_good : (source : List ℕ) (ts : Tokens) → length source ≤ 2 ^ 20 → AreTokens [] first_spot source ts → AreGood source ts
tokens_are_good source ts short tokens = all_good source [] source first_spot [] ts short refl refl tokens
