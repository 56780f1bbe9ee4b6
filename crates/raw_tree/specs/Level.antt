-- The levels of the grammar, and which tokens go on with what stands before.
use Rattle.std.specs.Prelude.{◌≡◌, ◌<◌, ℕ, suc, max, Bool, true, false, List, [], ◌∷◌, ◌++◌, slice_range}
use Rattle.xmt_lex.specs.declared.Token.{Token}
use Rattle.xmt_lex.specs.declared.TokenKind.{TokenKind}
use Rattle.xmt_lex.specs.declared.TokenKind.TheVariants as kind
use Rattle.xmt_lex.specs.declared.kinds.Mark.{Mark}
use Rattle.xmt_lex.specs.declared.kinds.Mark.TheVariants as m

abbrev pub Tokens : Type 0
Tokens = List Token

-- The levels of an expression. `Tight 0` is a unary, `Tight k` the level of the binary marks of rank k + 1, from `* / %` at 2 to `||` at 11.
pub data Level : Type 0 where
  Post : Level
  Tight : ℕ → Level
  Cond : Level
  Whole : Level

-- what goes on with an expression of a level has at most its rank
abbrev pub rank : Level → ℕ
rank Post = 0
rank (Tight k) = suc k
rank Cond = 12
rank Whole = 13

-- the rank of the level at which a mark goes on with what stands before it; 14 where it never does
abbrev pub joins_mark : Mark → ℕ
joins_mark m.OpenSquare = 0
joins_mark m.OpenRound = 0
joins_mark m.PlusPlus = 0
joins_mark m.MinusMinus = 0
joins_mark m.Star = 2
joins_mark m.Slash = 2
joins_mark m.Percent = 2
joins_mark m.Plus = 3
joins_mark m.Minus = 3
joins_mark m.Shl = 4
joins_mark m.Shr = 4
joins_mark m.Less = 5
joins_mark m.LessEqual = 5
joins_mark m.More = 5
joins_mark m.MoreEqual = 5
joins_mark m.EqualEqual = 6
joins_mark m.NotEqual = 6
joins_mark m.And = 7
joins_mark m.Caret = 8
joins_mark m.Or = 9
joins_mark m.AndAnd = 10
joins_mark m.OrOr = 11
joins_mark m.Question = 12
joins_mark m.Equal = 13
joins_mark m.PlusEqual = 13
joins_mark m.MinusEqual = 13
joins_mark m.StarEqual = 13
joins_mark m.SlashEqual = 13
joins_mark m.PercentEqual = 13
joins_mark m.ShlEqual = 13
joins_mark m.ShrEqual = 13
joins_mark m.AndEqual = 13
joins_mark m.OrEqual = 13
joins_mark m.CaretEqual = 13
joins_mark _ = 14

abbrev pub joins : TokenKind → ℕ
joins (kind.Mark m) = joins_mark m
joins _ = 14

-- the tokens do not go on with something of at most this rank
abbrev pub Stops : ℕ → Tokens → Type 0
Stops l [] = Unit {0}
Stops l (t ∷ ts) = l < joins t.kind

abbrev pub is_prefix : Mark → Bool
is_prefix m.Minus = true
is_prefix m.Plus = true
is_prefix m.Not = true
is_prefix m.Tilde = true
is_prefix _ = false

abbrev pub is_step : Mark → Bool
is_step m.PlusPlus = true
is_step m.MinusMinus = true
is_step _ = false

-- the bytes of a token
abbrev pub bytes_of : List ℕ → Token → List ℕ
bytes_of source t = slice_range source t.start t.end

-- one or more of S, parted by commas, and the greatest nesting
pub data Parted (A : Type 0) (S : ℕ → A → Tokens → Type 0) : ℕ → List A → Tokens → Type 0 where
  last_one : {n : ℕ} {a : A} {x : Tokens} → S n a x → Parted A S n (a ∷ []) x
  more_ones : (t : Token) {i j : ℕ} {a : A} {rest : List A} {x y : Tokens} → S i a x → t.kind ≡ kind.Mark m.Comma → Parted A S j rest y → Parted A S (max i j) (a ∷ rest) (x ++ t ∷ y)
