-- Small sources, and their tokens by the table.
use Rattle.std.proofs.Common.{◌≡◌, ℕ, List, [], ◌∷◌, ◌++◌, refl, sym, ◌∙◌, Ok, Err, codes}
use Rattle.xmt_base.specs.declared.Place.{Place}
use Rattle.xmt_lex.specs.declared.LexKind.{LexKind}
use Rattle.xmt_lex.specs.declared.LexKind.TheVariants as bad
use Rattle.xmt_lex.specs.declared.Token.{Token}
use Rattle.xmt_lex.specs.declared.TokenKind.{TokenKind}
use Rattle.xmt_lex.specs.declared.TokenKind.TheVariants as kind
use Rattle.xmt_lex.specs.declared.kinds.Keyword.TheVariants as key
use Rattle.xmt_lex.specs.declared.kinds.Mark.TheVariants as m
use Rattle.xmt_lex.specs.Tables.{keywords, marks}
use Rattle.xmt_lex.specs.Lex.{Tokens, tokens, tokens_from, first_spot, step, hash_line, piece_of, keyword_of, number_of, mark}
use Rattle.token_law.specs.Longest.{AreTokens}
use Rattle.token_law.proofs.Parted.{sound, complete}

abbrev token : ℕ → ℕ → ℕ → ℕ → TokenKind → Token
token from to l c what = record { start = from; end = to; place = record { line = l; column = c }; kind = what }

abbrev place : ℕ → ℕ → Place
place l c = record { line = l; column = c }

-- `<<=` is one mark, and `+++` is `++` and `+`
longest_marks : AreTokens [] first_spot (codes "a<<=b+++3") (token 0 1 1 1 kind.Name ∷ token 1 4 1 2 (kind.Mark m.ShlEqual) ∷ token 4 5 1 5 kind.Name ∷ token 5 7 1 6 (kind.Mark m.PlusPlus) ∷ token 7 8 1 8 (kind.Mark m.Plus) ∷ token 8 9 1 9 (kind.Number 3) ∷ [])
unfolding tokens_from step piece_of keyword_of number_of mark keywords marks
longest_marks = sound (codes "a<<=b+++3") [] first_spot _ refl

-- `intx` is one name, and comments part tokens
parted : AreTokens [] first_spot (codes "intx/*1*/int//2") (token 0 4 1 1 kind.Name ∷ token 9 12 1 10 (kind.Keyword key.Int) ∷ [])
unfolding tokens_from step piece_of keyword_of number_of mark keywords marks
parted = sound (codes "intx/*1*/int//2") [] first_spot _ refl

-- a name that a hash line defines
defined : AreTokens [] first_spot (codes "#define N -2 // two" ++ 10 ∷ codes "N") (token 20 21 2 1 (kind.Number 4294967294) ∷ [])
unfolding tokens_from step hash_line piece_of keyword_of number_of mark keywords marks
defined = sound (codes "#define N -2 // two" ++ 10 ∷ codes "N") [] first_spot _ refl

abbrev fault : LexKind → Place → Tokens
fault k p = Err (k, p)

-- `5u` is no number, and not a number and a name
suffixed : (ts : List Token) → AreTokens [] first_spot (codes "x = 5u;") ts → ⊥
unfolding tokens_from step piece_of keyword_of number_of mark keywords marks
suffixed ts are = let refused : tokens (codes "x = 5u;") ≡ fault bad.BadNumber (place 1 5) = refl in let both : fault bad.BadNumber (place 1 5) ≡ Ok ts = sym refused ∙ complete are in absurd (cc)
