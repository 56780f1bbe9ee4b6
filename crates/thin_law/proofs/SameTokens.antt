-- Thin tokens as tokens of the whole language.
use Rattle.std.proofs.Common.{Bool, true, false, List, map, Option, Some, None}
use Rattle.source_meaning.specs.declared.tree.GlobalVar.{GlobalVar}
use Rattle.thin_source.specs.declared.tokens.Token as thin
use Rattle.thin_source.specs.declared.tokens.TokenKind as thin_kind
use Rattle.thin_source.specs.declared.tokens.TokenKind.TheVariants as is
use Rattle.thin_source.specs.declared.tokens.Mark as thin_mark
use Rattle.thin_source.specs.declared.tokens.Mark.TheVariants as of
use Rattle.thin_source.specs.Tokens.{Text}
use Rattle.thin_source.specs.Names.{Context}
use Rattle.thin_source.specs.Grammar.{Tokens}
use Rattle.xmt_lex.specs.declared.Token as lex
use Rattle.xmt_lex.specs.declared.TokenKind.{TokenKind}
use Rattle.xmt_lex.specs.declared.TokenKind.TheVariants as kind
use Rattle.xmt_lex.specs.declared.kinds.Keyword.TheVariants as key
use Rattle.xmt_lex.specs.declared.kinds.Mark.{Mark}
use Rattle.xmt_lex.specs.declared.kinds.Mark.TheVariants as m
use Rattle.raw_tree.specs.Level as raw

-- a thin token, and its kind
abbrev pub Kind : Type 0
Kind = thin_kind.TokenKind

abbrev pub Token : Type 0
Token = thin.Token

abbrev pub whole_mark : thin_mark.Mark → Mark
whole_mark of.OpenRound = m.OpenRound
whole_mark of.CloseRound = m.CloseRound
whole_mark of.OpenSquare = m.OpenSquare
whole_mark of.CloseSquare = m.CloseSquare
whole_mark of.OpenBrace = m.OpenCurly
whole_mark of.CloseBrace = m.CloseCurly
whole_mark of.Semicolon = m.Semicolon
whole_mark of.Comma = m.Comma
whole_mark of.Dollar = m.Dollar
whole_mark of.Equals = m.Equal
whole_mark of.Plus = m.Plus
whole_mark of.Minus = m.Minus
whole_mark of.Star = m.Star

-- the kind in the whole language; `main` is a name there
abbrev pub whole_kind : Kind → TokenKind
whole_kind is.Name = kind.Name
whole_kind (is.Number v) = kind.Number v
whole_kind is.Int = kind.Keyword key.Int
whole_kind is.Main = kind.Name
whole_kind is.Spawn = kind.Keyword key.Spawn
whole_kind is.Printf = kind.Keyword key.Printf
whole_kind is.Text = kind.Text
whole_kind (is.Mark mark) = kind.Mark (whole_mark mark)

-- the same bytes as a token of the whole language
abbrev pub whole_token : Token → lex.Token
whole_token t = record { start = t.start; end = t.end; place = t.place; kind = whole_kind t.kind }

abbrev pub whole_tokens : Tokens → raw.Tokens
whole_tokens ts = map whole_token ts

-- the kind of a spelling
abbrev pub kind_in : Option Kind → TokenKind
kind_in None = kind.Name
kind_in (Some k) = whole_kind k

-- whether a token of the kind begins a statement
abbrev pub begins : Kind → Bool
begins is.Name = true
begins is.Printf = true
begins _ = false

abbrev pub is_text : Kind → Bool
is_text is.Text = true
is_text _ = false

-- what stands round the body of `main`
abbrev pub context_of : Text → List GlobalVar → Context
context_of source globals = record { source = source; globals = globals; inside = false }
