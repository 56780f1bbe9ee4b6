-- The lexer of the whole language finds the tokens of a thin source.
use Rattle.std.proofs.Common.{◌≡◌, ℕ, zero, ◌+◌, ◌<◌, [], ◌∷◌, ◌++◌, length, drop, slice_index, Some, Ok, refl, ap, ◌∙◌, arith, true, length-append}
use Rattle.std.proofs.Math.Seq.{take-append_seam, drop-append_seam}
use Rattle.xmt_base.specs.declared.Place.{Place}
use Rattle.thin_source.specs.Tokens.{Text, is_spelling, IsLongest, kind_of, AreTokens, end, blank, taken}
use Rattle.thin_source.specs.Tokens as thin_tokens
use Rattle.thin_source.specs.Grammar as thin
use Rattle.xmt_lex.specs.declared.Spot.{Spot}
use Rattle.xmt_lex.specs.Lex.{behind, along, token_at, behind_token, tokens_from}
use Rattle.xmt_lex.proofs.Walk.{goes_on}
use Rattle.thin_law.proofs.SameTokens.{Kind, whole_kind, whole_tokens}
use Rattle.thin_law.proofs.Bytes.{plain_spelling}
use Rattle.thin_law.proofs.Pieces.{MayFollow}
use Rattle.thin_law.proofs.Steps.{reads, along_plain, behind_byte, reads_blank}
use Rattle.thin_law.proofs.Linked.{AreLinked, follows}

some_bytes : (w : Text) → is_spelling w ≡ true → 0 < length w
some_bytes [] h = absurd (cc)
some_bytes (b ∷ w) h = omega arith

-- behind one token of the whole language
one_read : (s : Spot) (w z : Text) (k : Kind) → IsLongest w z → kind_of w ≡ Some k → MayFollow (whole_kind k) (slice_index z 0) →
    tokens_from [] s zero (w ++ z) ≡ behind_token (Some (token_at s (length w) (whole_kind k))) (tokens_from [] (along s w) zero z)
one_read s w z k long of_kind stands =
    let some = some_bytes w long.0 in
    goes_on [] s (w ++ z) (length w) (Some (token_at s (length w) (whole_kind k))) [] (reads s w z k long of_kind stands) some (omega (arith, some, length-append w z))
    ∙ ap (λ (v : Text). behind_token (Some (token_at s (length w) (whole_kind k))) (tokens_from [] (along s v) zero (drop (length w) (w ++ z)))) (take-append_seam w z)
    ∙ ap (λ (v : Text). behind_token (Some (token_at s (length w) (whole_kind k))) (tokens_from [] (along s w) zero v)) (drop-append_seam w z)

pub lexed : {at : ℕ} {p : Place} {z : Text} {ts : thin.Tokens} → AreTokens at p z ts → AreLinked (whole_tokens ts) → (s : Spot) → s.at ≡ at → s.place ≡ p → tokens_from [] s zero z ≡ Ok (whole_tokens ts)
unfolding tokens_from
lexed end linked s is_at is_place = refl
lexed (blank b {z = z} h rest) linked s is_at is_place =
    let after = behind_byte s b in
    reads_blank s b z h ∙ lexed rest linked (behind s b) (after.0 ∙ ap (λ (n : ℕ). n + 1) is_at) (after.1 ∙ ap (λ (q : Place). thin_tokens.behind q b) is_place)
lexed (taken w z k {ts = ts} long of_kind rest) linked s is_at is_place =
    let after = along_plain s w (plain_spelling w long.0) in
    one_read s w z k long of_kind (follows (whole_kind k) rest linked.0)
    ∙ ap (behind_token (Some (token_at s (length w) (whole_kind k)))) (lexed rest linked.1 (along s w) (after.0 ∙ ap (λ (n : ℕ). n + length w) is_at) (after.1 ∙ ap (λ (q : Place). thin_tokens.along q w) is_place))
    ∙ (λ i. Ok (record { start = is_at i; end = is_at i + length w; place = is_place i; kind = whole_kind k } ∷ whole_tokens ts))
