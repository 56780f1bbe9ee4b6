-- The tokens of a source: from left to right, at each place the longest of what is spelled there.
use Rattle.std.specs.Prelude.{◌≡◌, ℕ, ◌<◌, ◌^◌, true, List, [], ◌∷◌, ◌++◌, length, Some, None, Result, Ok, Err, Vec}
use Rattle.std.specs.declared.alloc.Global.{Global}
use Rattle.std.specs.List.{list_all}
use Rattle.xmt_lex.specs.declared.LexRefusal.{LexRefusal}
use Rattle.xmt_lex.specs.declared.LexRefusal.TheVariants as lexing
use Rattle.xmt_lex.specs.declared.Spot.{Spot}
use Rattle.xmt_lex.specs.declared.Token.{Token}
use Rattle.xmt_lex.specs.declared.TokenKind.{TokenKind}
use Rattle.xmt_lex.specs.declared.TokenKind.TheVariants as kind
use Rattle.xmt_lex.specs.declared.kinds.Mark.{Mark}
use Rattle.xmt_lex.specs.declared.scan.Class.TheVariants as class
use Rattle.xmt_lex.specs.Lex.{Text, is_in, lookup, kind_of_word, along, token_at, Said, first_spot, tokens, Lexes}
use Rattle.token_law.specs.HashLine.{IsHashLine}
use Rattle.token_law.specs.Spelling.{Shape, Blanks, Comment, Word, Numeral, Quoted, Sign, IsNumber, IsLongest}

-- blanks and comments part tokens
abbrev pub IsParting : Shape → Type 0
IsParting Blanks = Unit {0}
IsParting Comment = Unit {0}
IsParting _ = ⊥

-- the token that a spelling is, under the definitions that stand before it
pub data IsToken (defined : List (Text × ℕ)) : Shape → Text → TokenKind → Type 0 where
  word : (w : Text) → IsToken defined Word w (kind_of_word defined w)
  number : (w : Text) (v : ℕ) → IsNumber w v → v < 2 ^ 32 → IsToken defined Numeral w (kind.Number v)
  text : (w : Text) → IsToken defined Quoted w kind.Text
  mark : (w : Text) (mark : Mark) → IsToken defined (Sign mark) w (kind.Mark mark)

-- what a hash line adds to the definitions; no name is defined twice
pub data Adds (defined : List (Text × ℕ)) : Said → List (Text × ℕ) → Type 0 where
  nothing : Adds defined None defined
  name : (entry : Text × ℕ) → lookup defined entry.0 ≡ None → Adds defined (Some entry) (defined ++ entry ∷ [])

-- nothing stands behind, or a newline
abbrev pub EndsLine : Text → Type 0
EndsLine [] = Unit {0}
EndsLine (b ∷ z) = b ≡ 10

-- the bytes from a spot on are parted into these tokens, blanks, comments and hash lines
pub data AreTokens : List (Text × ℕ) → Spot → Text → List Token → Type 0 where
  end : {defined : List (Text × ℕ)} {s : Spot} → AreTokens defined s [] []
  parting : {defined : List (Text × ℕ)} {s : Spot} {ts : List Token} (shape : Shape) (w z : Text) →
      IsLongest shape w z → IsParting shape → AreTokens defined (along s w) z ts → AreTokens defined s (w ++ z) ts
  token : {defined : List (Text × ℕ)} {s : Spot} {ts : List Token} (shape : Shape) (w z : Text) (k : TokenKind) →
      IsLongest shape w z → IsToken defined shape w k → AreTokens defined (along s w) z ts → AreTokens defined s (w ++ z) (token_at s (length w) k ∷ ts)
  -- a `#` before which only spaces and tabs stand on its line, and the rest of the line
  hashed : {defined after : List (Text × ℕ)} {s : Spot} {ts : List Token} (w z : Text) (said : Said) →
      s.fresh ≡ true → list_all (is_in class.Line) w ≡ true → EndsLine z → IsHashLine (35 ∷ w) said → Adds defined said after →
      AreTokens after (along s (35 ∷ w)) z ts → AreTokens defined s (35 ∷ (w ++ z)) ts

-- the tokens of the lexer are these
abbrev pub TokensAreLongest : Type 0
TokensAreLongest = (source : Text) (ts : List Token) → (tokens source ≡ Ok ts → AreTokens [] first_spot source ts) × (AreTokens [] first_spot source ts → tokens source ≡ Ok ts)

-- the tokens that the lexer answers are these, and what it refuses has none; want of memory is free
abbrev pub HasAnswer : Text → Result (Vec Token Global) LexRefusal → Type 0
HasAnswer source (Ok ts) = AreTokens [] first_spot source ts.items
HasAnswer source (Err (lexing.Refused k p)) = (ts : List Token) → ¬ AreTokens [] first_spot source ts
HasAnswer source (Err lexing.NoMemory) = Unit {0}

abbrev pub AnswersAreLongest : Type 0
AnswersAreLongest = (source : Text) (answer : Result (Vec Token Global) LexRefusal) → Lexes answer (tokens source) → HasAnswer source answer
