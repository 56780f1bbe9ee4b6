-- The tokens of the lexer, and those of the table.
use Rattle.std.proofs.Common.{◌≡◌, ℕ, zero, suc, ◌+◌, ◌≤◌, ◌<◌, ◌==◌, ◌&&◌, Bool, true, false, not, cond, List, [], ◌∷◌, ◌++◌, length, length-append, take, drop, take-append-drop, slice_index, Option, Some, None, Result, Ok, Err, Vec, refl, sym, ap, ◌∙◌, subst, arith}
use Rattle.std.proofs.Math.Seq.{take-append_seam, drop-append_seam}
use Rattle.std.specs.List.{list_all}
use Rattle.xmt_base.specs.declared.Place.{Place}
use Rattle.xmt_lex.specs.declared.LexKind.{LexKind}
use Rattle.xmt_lex.specs.declared.LexKind.TheVariants as bad
use Rattle.std.specs.declared.alloc.Global.{Global}
use Rattle.xmt_lex.specs.declared.LexRefusal.{LexRefusal}
use Rattle.xmt_lex.specs.declared.LexRefusal.TheVariants as lexing
use Rattle.xmt_lex.specs.declared.Spot.{Spot}
use Rattle.xmt_lex.specs.declared.Token.{Token}
use Rattle.xmt_lex.specs.declared.TokenKind.{TokenKind}
use Rattle.xmt_lex.specs.declared.TokenKind.TheVariants as kind
use Rattle.xmt_lex.specs.declared.scan.Class.TheVariants as class
use Rattle.xmt_lex.specs.declared.scan.Piece.{Piece}
use Rattle.xmt_lex.specs.declared.scan.Piece.TheVariants as piece
use Rattle.xmt_lex.specs.Tables.{marks}
use Rattle.xmt_lex.specs.Lex.{Text, is_in, run, lookup, kind_of_word, number_of, numbered, piece_of, Said, hash_line, Step, Fault, Reads, taken, step, token_at, along, first_spot, behind_token, tokens_from, tokens, Tokens, Lexes}
use Rattle.xmt_lex.specs.Lex as lex
use Rattle.xmt_lex.proofs.Walk.{goes_on, stops}
use Rattle.token_law.specs.Spelling.{Shape, Blanks, Comment, OpenComment, Word, Numeral, Quoted, Sign, IsLongest}
use Rattle.token_law.specs.Longest.{IsParting, IsToken, word, number, text, Adds, nothing, name, EndsLine, AreTokens, end, parting, token, HasAnswer}
use Rattle.token_law.specs.Longest as longest
use Rattle.token_law.proofs.Bytes.{same_byte, both, run_on, run_over, run_all}
use Rattle.token_law.proofs.Signs.{IsBad}
use Rattle.token_law.proofs.HashLines.{lines_read, lines_found}
use Rattle.token_law.proofs.Numbers.{numbers_read, numbers_found}
use Rattle.token_law.proofs.Front.{size, FitsFront, fits_front}
use Rattle.token_law.proofs.View.{View, stands, view, longest_stands, longest_found}
use Rattle.token_law.proofs.View as view_of

-- ---- whatever the table has, the lexer reads

hash_size : (z : Text) → size (35 ∷ z) ≡ 0
unfolding lex.mark marks
hash_size z = refl

-- a byte that begins a spelling is no `#`
no_hash : (shape : Shape) (w y : Text) → IsLongest shape w y → (slice_index (w ++ y) 0 == 35) ≡ false
no_hash shape w y long = by (w ++ y) (fits_front long.spells y)
  where
    at : (b : ℕ) (z : Text) → FitsFront shape w (b ∷ z) → (t : Bool) → (b == 35) ≡ t → t ≡ false
    at b z fits false is = refl
    at b z fits true is =
        let none : size (b ∷ z) ≡ 0 = ap (λ (c : ℕ). size (c ∷ z)) (same_byte b 35 is) ∙ hash_size z in
        absurd (omega (arith, fits.some, fits.short, none))

    by : (z : Text) → FitsFront shape w z → (slice_index z 0 == 35) ≡ false
    by [] fits = refl
    by (b ∷ z) fits = at b z fits (b == 35) refl

stepped : (defined : List (Text × ℕ)) (s : Spot) (z : Text) (p : Piece) → (slice_index z 0 == 35) ≡ false → piece_of z ≡ p → step defined s z ≡ taken defined s z p
unfolding step
stepped defined s z p other is = rw (other, is)

parting_step : (defined : List (Text × ℕ)) (s : Spot) (shape : Shape) (w z : Text) → IsLongest shape w z → IsParting shape → step defined s (w ++ z) ≡ Reads (length w) None defined
parting_step defined s Blanks w z long parts = stepped defined s (w ++ z) (piece.Nothing (length w)) (no_hash Blanks w z long) (longest_found Blanks w z long)
parting_step defined s Comment w z long parts = stepped defined s (w ++ z) (piece.Nothing (length w)) (no_hash Comment w z long) (longest_found Comment w z long)
parting_step defined s OpenComment w z long parts = absurd parts
parting_step defined s Word w z long parts = absurd parts
parting_step defined s Numeral w z long parts = absurd parts
parting_step defined s Quoted w z long parts = absurd parts
parting_step defined s (Sign k) w z long parts = absurd parts

token_step : {defined : List (Text × ℕ)} {shape : Shape} {w : Text} {k : TokenKind} (s : Spot) (z : Text) → IsToken defined shape w k → IsLongest shape w z → step defined s (w ++ z) ≡ Reads (length w) (Some (token_at s (length w) k)) defined
token_step {defined = defined} s z (word w) long =
    stepped defined s (w ++ z) (piece.Word (length w)) (no_hash Word w z long) (longest_found Word w z long)
    ∙ ap (λ (v : Text). Reads (length w) (Some (token_at s (length w) (kind_of_word defined v))) defined) (take-append_seam w z)
token_step {defined = defined} s z (number w v is small) long =
    stepped defined s (w ++ z) (piece.Whole (length w) (kind.Number v)) (no_hash Numeral w z long) (longest_found Numeral w z long ∙ ap (numbered (length w)) (numbers_read w v is small))
token_step {defined = defined} s z (text w) long = stepped defined s (w ++ z) (piece.Whole (length w) kind.Text) (no_hash Quoted w z long) (longest_found Quoted w z long)
token_step {defined = defined} s z (longest.mark w k) long = stepped defined s (w ++ z) (piece.Whole (length w) (kind.Mark k)) (no_hash (Sign k) w z long) (longest_found (Sign k) w z long)

-- some bytes are read
on : (defined after : List (Text × ℕ)) (s : Spot) (w z : Text) (t : Option Token) → step defined s (w ++ z) ≡ Reads (length w) t after → 0 < length w →
    tokens_from defined s zero (w ++ z) ≡ behind_token t (tokens_from after (along s w) zero z)
on defined after s w z t read some =
    goes_on defined s (w ++ z) (length w) t after read some (omega (arith, some, length-append w z))
    ∙ ap (λ (v : Text). behind_token t (tokens_from after (along s v) zero (drop (length w) (w ++ z)))) (take-append_seam w z)
    ∙ ap (λ (v : Text). behind_token t (tokens_from after (along s w) zero v)) (drop-append_seam w z)

-- ---- hash lines

line_over : (z : Text) → EndsLine z → run class.Line z ≡ 0
line_over [] ends = refl
line_over (b ∷ z) ends = ap (λ (c : ℕ). run class.Line (c ∷ z)) ends

line_is : (w z : Text) → list_all (is_in class.Line) w ≡ true → EndsLine z → run class.Line (35 ∷ (w ++ z)) ≡ length (35 ∷ w)
line_is w z all ends = run_on (is_in class.Line) 35 (w ++ z) refl ∙ ap suc (run_over (is_in class.Line) w z all (line_over z ends))

-- what is read at a hash line
hash_read : (defined : List (Text × ℕ)) (s : Spot) (w z : Text) → s.fresh ≡ true → list_all (is_in class.Line) w ≡ true → EndsLine z →
    step defined s (35 ∷ (w ++ z)) ≡ lex.hashed defined s (length (35 ∷ w)) (hash_line (35 ∷ w))
unfolding step
hash_read defined s w z fresh all ends =
    ap (λ (t : Bool). cond t (lex.hashed defined s (run class.Line (35 ∷ (w ++ z))) (hash_line (take (run class.Line (35 ∷ (w ++ z))) (35 ∷ (w ++ z))))) (taken defined s (35 ∷ (w ++ z)) (piece_of (35 ∷ (w ++ z))))) fresh
    ∙ ap (λ (n : ℕ). lex.hashed defined s n (hash_line (take n (35 ∷ (w ++ z))))) (line_is w z all ends)
    ∙ ap (λ (v : Text). lex.hashed defined s (length (35 ∷ w)) (hash_line v)) (take-append_seam (35 ∷ w) z)

adds_read : {defined after : List (Text × ℕ)} {said : Said} (s : Spot) (n : ℕ) → Adds defined said after → lex.hashed defined s n (Some said) ≡ Reads n None after
adds_read s n nothing = refl
adds_read {defined = defined} s n (name entry absent) = ap (lex.added defined s n entry) absent

-- ---- the whole

pub complete : {defined : List (Text × ℕ)} {s : Spot} {z : Text} {ts : List Token} → AreTokens defined s z ts → tokens_from defined s zero z ≡ Ok ts
unfolding tokens_from
complete end = refl
complete (parting {defined = defined} {s = s} shape w z long parts rest) = on defined defined s w z None (parting_step defined s shape w z long parts) ((fits_front long.spells z).some) ∙ complete rest
complete (token {defined = defined} {s = s} shape w z k long is rest) =
    on defined defined s w z (Some (token_at s (length w) k)) (token_step s z is long) ((fits_front long.spells z).some) ∙ ap (behind_token (Some (token_at s (length w) k))) (complete rest)
complete (longest.hashed {defined = defined} {after = after} {s = s} w z said fresh all ends found adds rest) =
    on defined after s (35 ∷ w) z None (hash_read defined s w z fresh all ends ∙ ap (lex.hashed defined s (length (35 ∷ w))) (lines_read found) ∙ adds_read s (length (35 ∷ w)) adds) (omega arith) ∙ complete rest

-- ---- whatever the lexer reads, the table has

abbrev IsSound : Text → Type 0
IsSound z = (defined : List (Text × ℕ)) (s : Spot) (ts : List Token) → tokens_from defined s zero z ≡ Ok ts → AreTokens defined s z ts

-- tokens behind one
record Behind (t : Token) (all : Tokens) (ts : List Token) : Type 0 where
  rest : List Token
  is : all ≡ Ok rest
  whole : t ∷ rest ≡ ts

behind_ok : (t : Token) (all : Tokens) (ts : List Token) → behind_token (Some t) all ≡ Ok ts → Behind t all ts
behind_ok t (Ok us) ts h = record { rest = us; is = refl; whole = cc }
behind_ok t (Err e) ts h = absurd (cc)

abbrev err : LexKind → Place → Tokens
err k p = Err (k, p)

faulty : (defined : List (Text × ℕ)) (s : Spot) (b : ℕ) (z : Text) (k : LexKind) (p : Place) (ts : List Token) → step defined s (b ∷ z) ≡ Fault k p → tokens_from defined s zero (b ∷ z) ≡ Ok ts → ⊥
faulty defined s b z k p ts fault is = let both_are : err k p ≡ Ok ts = sym (stops defined s (b ∷ z) k p fault (omega arith)) ∙ is in absurd (cc)

sound_token : (defined : List (Text × ℕ)) (s : Spot) (ts : List Token) (shape : Shape) (w u : Text) (k : TokenKind) → IsLongest shape w u → IsToken defined shape w k → IsSound u → tokens_from defined s zero (w ++ u) ≡ Ok ts → AreTokens defined s (w ++ u) ts
sound_token defined s ts shape w u k long is more all =
    let read : behind_token (Some (token_at s (length w) k)) (tokens_from defined (along s w) zero u) ≡ Ok ts = sym (on defined defined s w u (Some (token_at s (length w) k)) (token_step s u is long) ((fits_front long.spells u).some)) ∙ all in
    let rest = behind_ok (token_at s (length w) k) (tokens_from defined (along s w) zero u) ts read in
    subst (AreTokens defined s (w ++ u)) rest.whole (token shape w u k long is (more defined (along s w) rest.rest rest.is))

sound_parting : (defined : List (Text × ℕ)) (s : Spot) (ts : List Token) (shape : Shape) (w u : Text) → IsLongest shape w u → IsParting shape → IsSound u → tokens_from defined s zero (w ++ u) ≡ Ok ts → AreTokens defined s (w ++ u) ts
sound_parting defined s ts shape w u long parts more all =
    parting shape w u long parts (more defined (along s w) ts (sym (on defined defined s w u None (parting_step defined s shape w u long parts) ((fits_front long.spells u).some)) ∙ all))

-- what stands in front of some bytes, where it is no hash line
plain_step : (defined : List (Text × ℕ)) (s : Spot) (z : Text) (p : Piece) → (slice_index z 0 == 35 && s.fresh) ≡ false → piece_of z ≡ p → step defined s z ≡ taken defined s z p
unfolding step
plain_step defined s z p other is = rw (other, is)

module _ (defined : List (Text × ℕ)) (s : Spot) (ts : List Token) where
  numeral_sound : (w u : Text) → IsLongest Numeral w u → (found : Option ℕ) → number_of w ≡ found → step defined s (w ++ u) ≡ taken defined s (w ++ u) (numbered (length w) found) → 0 < length w → IsSound u →
      tokens_from defined s zero (w ++ u) ≡ Ok ts → AreTokens defined s (w ++ u) ts
  numeral_sound w u long (Some v) is reads some more all = let it = numbers_found w v is in sound_token defined s ts Numeral w u (kind.Number v) long (number w v it.number it.small) more all
  numeral_sound [] u long None is reads some more all = absurd (omega (arith, some))
  numeral_sound (b ∷ w) u long None is reads some more all = absurd (faulty defined s b (w ++ u) bad.BadNumber (along s []).place ts reads all)

  open_sound : (w u : Text) → step defined s (w ++ u) ≡ taken defined s (w ++ u) (piece.Bad bad.OpenComment 0) → 0 < length w → tokens_from defined s zero (w ++ u) ≡ Ok ts → AreTokens defined s (w ++ u) ts
  open_sound [] u reads some all = absurd (omega (arith, some))
  open_sound (b ∷ w) u reads some all = absurd (faulty defined s b (w ++ u) bad.OpenComment (along s []).place ts reads all)

  spelled_sound : (shape : Shape) (w u : Text) → IsLongest shape w u → (slice_index (w ++ u) 0 == 35 && s.fresh) ≡ false → 0 < length w → IsSound u → tokens_from defined s zero (w ++ u) ≡ Ok ts → AreTokens defined s (w ++ u) ts
  spelled_sound Blanks w u long other some more all = sound_parting defined s ts Blanks w u long tt more all
  spelled_sound Comment w u long other some more all = sound_parting defined s ts Comment w u long tt more all
  spelled_sound OpenComment w u long other some more all = open_sound w u (plain_step defined s (w ++ u) (piece.Bad bad.OpenComment 0) other (longest_found OpenComment w u long)) some all
  spelled_sound Word w u long other some more all = sound_token defined s ts Word w u (kind_of_word defined w) long (word w) more all
  spelled_sound Numeral w u long other some more all = numeral_sound w u long (number_of w) refl (plain_step defined s (w ++ u) (numbered (length w) (number_of w)) other (longest_found Numeral w u long)) some more all
  spelled_sound Quoted w u long other some more all = sound_token defined s ts Quoted w u kind.Text long (text w) more all
  spelled_sound (Sign k) w u long other some more all = sound_token defined s ts (Sign k) w u (kind.Mark k) long (longest.mark w k) more all

  bad_sound : (b : ℕ) (z : Text) (p : Piece) → IsBad p → step defined s (b ∷ z) ≡ taken defined s (b ∷ z) p → tokens_from defined s zero (b ∷ z) ≡ Ok ts → AreTokens defined s (b ∷ z) ts
  bad_sound b z (piece.Nothing n) h reads all = absurd h
  bad_sound b z (piece.Word n) h reads all = absurd h
  bad_sound b z (piece.Whole n k) h reads all = absurd h
  bad_sound b z (piece.Bad k at) h reads all = absurd (faulty defined s b z k (along s (take at (b ∷ z))).place ts reads all)

  plain_sound : (b : ℕ) (z : Text) → (slice_index (b ∷ z) 0 == 35 && s.fresh) ≡ false → View (b ∷ z) → ((w u : Text) → (b ∷ z) ≡ w ++ u → 0 < length w → IsSound u) → tokens_from defined s zero (b ∷ z) ≡ Ok ts → AreTokens defined s (b ∷ z) ts
  plain_sound b z other (stands shape w u split spelled sized shaped seen) more all =
      let whole : size (w ++ u) ≡ length w = ap size (sym split) ∙ sized in
      let some : 0 < length w = (fits_front spelled u).some in
      subst (λ (v : Text). AreTokens defined s v ts) (sym split)
      (spelled_sound shape w u (longest_stands shape w u spelled whole) (ap (λ (v : Text). slice_index v 0 == 35 && s.fresh) (sym split) ∙ other) some (more w u split some) (ap (tokens_from defined s zero) (sym split) ∙ all))
  plain_sound b z other (view_of.nothing empty is) more all = bad_sound b z (piece_of (b ∷ z)) is (plain_step defined s (b ∷ z) (piece_of (b ∷ z)) other refl) all

  -- a hash line, and what stands behind it
  line_sound : (w u : Text) → s.fresh ≡ true → list_all (is_in class.Line) w ≡ true → EndsLine u → (said : Option Said) → hash_line (35 ∷ w) ≡ said → IsSound u → tokens_from defined s zero (35 ∷ (w ++ u)) ≡ Ok ts → AreTokens defined s (35 ∷ (w ++ u)) ts
  line_sound w u fresh line ends None found more all =
      absurd (faulty defined s 35 (w ++ u) bad.HashLine s.place ts (hash_read defined s w u fresh line ends ∙ ap (lex.hashed defined s (length (35 ∷ w))) found) all)
  line_sound w u fresh line ends (Some None) found more all =
      let reads = hash_read defined s w u fresh line ends ∙ ap (lex.hashed defined s (length (35 ∷ w))) found in
      longest.hashed w u None fresh line ends (lines_found w None found) nothing (more defined (along s (35 ∷ w)) ts (sym (on defined defined s (35 ∷ w) u None reads (omega arith)) ∙ all))
  line_sound w u fresh line ends (Some (Some entry)) found more all = by (lookup defined entry.0) refl
    where
      reads : step defined s (35 ∷ (w ++ u)) ≡ lex.added defined s (length (35 ∷ w)) entry (lookup defined entry.0)
      reads = hash_read defined s w u fresh line ends ∙ ap (lex.hashed defined s (length (35 ∷ w))) found

      by : (old : Option ℕ) → lookup defined entry.0 ≡ old → AreTokens defined s (35 ∷ (w ++ u)) ts
      by None absent =
          let after = defined ++ entry ∷ [] in
          longest.hashed w u (Some entry) fresh line ends (lines_found w (Some entry) found) (name entry absent)
          (more (defined ++ entry ∷ []) (along s (35 ∷ w)) ts (sym (on defined (defined ++ entry ∷ []) s (35 ∷ w) u None (reads ∙ ap (lex.added defined s (length (35 ∷ w)) entry) absent) (omega arith)) ∙ all))
      by (Some v) there = absurd (faulty defined s 35 (w ++ u) bad.HashLine s.place ts (reads ∙ ap (lex.added defined s (length (35 ∷ w)) entry) there) all)

ends_line : (z : Text) → EndsLine (drop (run class.Line z) z)
ends_line [] = tt
ends_line (b ∷ z) = by (b == 10) refl (ends_line z)
  where
    by : (t : Bool) → (b == 10) ≡ t → EndsLine (drop (run class.Line z) z) → EndsLine (drop (run class.Line (b ∷ z)) (b ∷ z))
    by true is rest = subst (λ (t : Bool). EndsLine (drop (cond (not t) (1 + run class.Line z) 0) (b ∷ z))) (sym is) (same_byte b 10 is)
    by false is rest =
        let one_more : suc (run class.Line z) ≡ 1 + run class.Line z = omega arith in
        subst (λ (t : Bool). EndsLine (drop (cond (not t) (1 + run class.Line z) 0) (b ∷ z))) (sym is) (subst (λ (n : ℕ). EndsLine (drop n (b ∷ z))) one_more rest)

-- the bytes behind some are sound
abbrev AreSoundBehind : Text → Type 0
AreSoundBehind z = (w u : Text) → z ≡ w ++ u → 0 < length w → IsSound u

first_sound : (b : ℕ) (z : Text) → AreSoundBehind (b ∷ z) → IsSound (b ∷ z)
first_sound b z more defined s ts all = by (b == 35 && s.fresh) refl
  where
    by : (t : Bool) → (b == 35 && s.fresh) ≡ t → AreTokens defined s (b ∷ z) ts
    by false other = plain_sound defined s ts b z other (view (b ∷ z)) more all
    by true hash =
        let parts = both (b == 35) s.fresh hash in
        let line = take (run class.Line z) z in
        let behind = drop (run class.Line z) z in
        let split : (b ∷ z) ≡ (35 ∷ take (run class.Line z) z) ++ drop (run class.Line z) z = ap (λ (c : ℕ). c ∷ z) (same_byte b 35 parts.0) ∙ ap (λ (v : Text). 35 ∷ v) (sym (take-append-drop (run class.Line z) z)) in
        subst (λ (v : Text). AreTokens defined s v ts) (sym split)
        (line_sound defined s ts (take (run class.Line z) z) (drop (run class.Line z) z) parts.1 (run_all (is_in class.Line) z) (ends_line z) (hash_line (35 ∷ take (run class.Line z) z)) refl
        (more (35 ∷ take (run class.Line z) z) (drop (run class.Line z) z) split (omega arith)) (ap (tokens_from defined s zero) (sym split) ∙ all))

no_tokens : IsSound []
unfolding tokens_from
no_tokens defined s ts all = let same : [] ≡ ts = cc in subst (AreTokens defined s []) same end

sound_within : (n : ℕ) (z : Text) → length z ≤ n → IsSound z
sound_within n [] few = no_tokens
sound_within zero (b ∷ z) few = absurd (omega (arith, few))
sound_within (suc n) (b ∷ z) few = first_sound b z (λ w u split some. sound_within n u (omega (arith, few, some, ap length split, length-append w u)))

pub sound : (z : Text) → IsSound z
sound z = sound_within (length z) z (omega arith)

pub tokens_are : (source : Text) (ts : List Token) → (tokens source ≡ Ok ts → AreTokens [] first_spot source ts) × (AreTokens [] first_spot source ts → tokens source ≡ Ok ts)
tokens_are source ts = (λ all. sound source [] first_spot ts all, λ are. complete are)

pub answer_is : (source : Text) (answer : Result (Vec Token Global) LexRefusal) → Lexes answer (tokens source) → HasAnswer source answer
answer_is source (Ok ts) lexes = sound source [] first_spot ts.items lexes
answer_is source (Err (lexing.Refused k p)) lexes = λ ts are. let both_are : err k p ≡ Ok ts = sym lexes ∙ complete are in absurd (cc)
answer_is source (Err lexing.NoMemory) lexes = tt
