-- The text in front.
use Rattle.std.proofs.Common.{◌≡◌, ℕ, ◌+◌, ◌-◌, ◌==◌, ◌&&◌, nat_le, not, Bool, true, false, cond, [], ◌∷◌, ◌++◌, length, refl, sym, ap, ◌∙◌, subst, arith}
use Rattle.std.proofs.lemmas.Bool.Decides.{nat_tests}
use Rattle.xmt_lex.specs.declared.LexKind.TheVariants as bad
use Rattle.xmt_lex.specs.declared.TokenKind.TheVariants as kind
use Rattle.xmt_lex.specs.declared.scan.Piece.{Piece}
use Rattle.xmt_lex.specs.declared.scan.Piece.TheVariants as piece
use Rattle.xmt_lex.specs.Lex.{Text, is_escape, text_from}
use Rattle.token_law.specs.Spelling.{is_text_byte, IsTextBody, none, byte, escape}
use Rattle.token_law.proofs.Bytes.{same_byte, both}
use Rattle.token_law.proofs.Signs.{IsBad}

off : (t : Bool) → not t ≡ true → t ≡ false
off true h = absurd (cc)
off false h = refl

-- what is read at a byte between quotes
abbrev at_byte : (quote slash newline plain : Bool) → Piece → Piece → Piece → Piece → Piece → Piece
at_byte quote slash newline plain a b c d e = cond quote a (cond slash b (cond newline c (cond plain d e)))

plain_byte : (quote slash newline plain : Bool) (a b c d e : Piece) → quote ≡ false → slash ≡ false → newline ≡ false → plain ≡ true → at_byte quote slash newline plain a b c d e ≡ d
plain_byte quote slash newline plain a b c d e p q r s = rw (p, q, r, s)

no_newline : (b : ℕ) → (nat_le 32 b && nat_le b 126) ≡ true → (b == 10) ≡ false
no_newline b h = grind (arith, nat_tests)

-- a text byte is read
pub byte_read : (b at : ℕ) (z : Text) → is_text_byte b ≡ true → text_from false at (b ∷ z) ≡ text_from false (at + 1) z
byte_read b at z h =
    let outer = both (nat_le 32 b && nat_le b 126 && not (b == 34)) (not (b == 92)) h in
    let inner = both (nat_le 32 b && nat_le b 126) (not (b == 34)) outer.0 in
    plain_byte (b == 34) (b == 92) (b == 10) (nat_le 32 b && nat_le b 126) _ _ _ _ _ (off (b == 34) inner.1) (off (b == 92) outer.1) (no_newline b inner.0) inner.0

escape_read : (b at : ℕ) (z : Text) → is_escape b ≡ true → text_from true at (b ∷ z) ≡ text_from false (at + 1) z
escape_read b at z h = ap (λ (t : Bool). cond t (text_from false (at + 1) z) (piece.Bad bad.BadEscape (at - 1))) h

abbrev whole : ℕ → Piece
whole n = piece.Whole n kind.Text

-- a text is read to its closing quote
pub text_reads : {w : Text} → IsTextBody w → (at : ℕ) (y : Text) → text_from false at (w ++ 34 ∷ y) ≡ whole (at + length w + 1)
text_reads none at y = ap whole (let far : at + 1 ≡ at + 0 + 1 = omega arith in far)
text_reads (byte b {w = w} h rest) at y =
    byte_read b at (w ++ 34 ∷ y) h ∙ text_reads rest (at + 1) y ∙ ap whole (let far : at + 1 + length w + 1 ≡ at + length (b ∷ w) + 1 = omega arith in far)
text_reads (escape b {w = w} h rest) at y =
    escape_read b (at + 1) (w ++ 34 ∷ y) h ∙ text_reads rest (at + 1 + 1) y ∙ ap whole (let far : at + 1 + 1 + length w + 1 ≡ at + length (92 ∷ b ∷ w) + 1 = omega arith in far)

-- the text in front of some bytes, or a fault
pub data TextFront (at : ℕ) (z : Text) : Type 0 where
  found : (w y : Text) → z ≡ w ++ 34 ∷ y → IsTextBody w → TextFront at z
  fault : IsBad (text_from false at z) → TextFront at z

one_longer : (b at : ℕ) (z : Text) → is_text_byte b ≡ true → TextFront (at + 1) z → TextFront at (b ∷ z)
one_longer b at z h (found w y split body) = found (b ∷ w) y (ap (λ (v : Text). b ∷ v) split) (byte b h body)
one_longer b at z h (fault is) = fault (subst IsBad (sym (byte_read b at z h)) is)

two_longer : (b at : ℕ) (z : Text) → is_escape b ≡ true → TextFront (at + 1 + 1) z → TextFront at (92 ∷ b ∷ z)
two_longer b at z h (found w y split body) = found (92 ∷ b ∷ w) y (ap (λ (v : Text). 92 ∷ b ∷ v) split) (escape b h body)
two_longer b at z h (fault is) = fault (subst IsBad (sym (escape_read b (at + 1) z h)) is)

plain_is : (range quote slash : Bool) → range ≡ true → quote ≡ false → slash ≡ false → (range && not quote && not slash) ≡ true
plain_is range quote slash p q r = rw (p, q, r)

abbrev seen : ℕ → ℕ → Text → Piece
seen b at z = text_from false at (b ∷ z)

byte_front : (b at : ℕ) (z : Text) (quote slash newline plain : Bool) → (b == 34) ≡ quote → (b == 92) ≡ slash → (b == 10) ≡ newline → (nat_le 32 b && nat_le b 126) ≡ plain →
    TextFront (at + 1) z → ((b == 92) ≡ true → TextFront at (b ∷ z)) → TextFront at (b ∷ z)
byte_front b at z true slash newline plain is _ _ _ rest escaped = found [] z (ap (λ (c : ℕ). c ∷ z) (same_byte b 34 is)) none
byte_front b at z false true newline plain _ is _ _ rest escaped = escaped is
byte_front b at z false false true plain q s n _ rest escaped =
    fault (subst IsBad (sym (at_newline (b == 34) (b == 92) (b == 10) (nat_le 32 b && nat_le b 126) _ _ _ _ _ q s n)) tt)
  where
    at_newline : (quote slash newline plain : Bool) (a b c d e : Piece) → quote ≡ false → slash ≡ false → newline ≡ true → at_byte quote slash newline plain a b c d e ≡ c
    at_newline quote slash newline plain a b c d e p q r = rw (p, q, r)
byte_front b at z false false false true q s n p rest escaped = one_longer b at z (plain_is (nat_le 32 b && nat_le b 126) (b == 34) (b == 92) p q s) rest
byte_front b at z false false false false q s n p rest escaped =
    fault (subst IsBad (sym (at_other (b == 34) (b == 92) (b == 10) (nat_le 32 b && nat_le b 126) _ _ _ _ _ q s n p)) tt)
  where
    at_other : (quote slash newline plain : Bool) (a b c d e : Piece) → quote ≡ false → slash ≡ false → newline ≡ false → plain ≡ false → at_byte quote slash newline plain a b c d e ≡ e
    at_other quote slash newline plain a b c d e p q r s = rw (p, q, r, s)

escape_front : (b at : ℕ) (z : Text) (t : Bool) → is_escape b ≡ t → TextFront (at + 1 + 1) z → TextFront at (92 ∷ b ∷ z)
escape_front b at z true is rest = two_longer b at z is rest
escape_front b at z false is rest = fault (subst IsBad (sym (ap (λ (t : Bool). cond t (text_from false (at + 1 + 1) z) (piece.Bad bad.BadEscape (at + 1 - 1))) is)) tt)

-- behind a `\`
behind_slash : (b at : ℕ) (z : Text) → (b == 92) ≡ true → TextFront at (92 ∷ z) → TextFront at (b ∷ z)
behind_slash b at z is front = subst (λ (c : ℕ). TextFront at (c ∷ z)) (sym (same_byte b 92 is)) front

pub text_front : (at : ℕ) (z : Text) → TextFront at z
text_front at [] = fault tt
text_front at (b ∷ []) = byte_front b at [] (b == 34) (b == 92) (b == 10) (nat_le 32 b && nat_le b 126) refl refl refl refl (text_front (at + 1) []) (λ is. behind_slash b at [] is (fault tt))
text_front at (b ∷ c ∷ z) =
    byte_front b at (c ∷ z) (b == 34) (b == 92) (b == 10) (nat_le 32 b && nat_le b 126) refl refl refl refl (text_front (at + 1) (c ∷ z)) (λ is. behind_slash b at (c ∷ z) is (escape_front c at z (is_escape c) refl (text_front (at + 1 + 1) z)))
