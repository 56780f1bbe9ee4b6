-- Open brackets.
use Rattle.std.specs.Prelude.{ℕ, ◌+◌, ◌-◌, Bool, true, false, nat_le, if◌then◌else◌, [], ◌∷◌, Option, Some, None}
use Rattle.xmt_base.specs.declared.Place.{Place}
use Rattle.xmt_lex.specs.declared.TokenKind.{TokenKind}
use Rattle.xmt_lex.specs.declared.TokenKind.TheVariants as kind
use Rattle.xmt_lex.specs.declared.kinds.Mark.TheVariants as m
use Rattle.raw_tree.specs.Level.{Tokens}

abbrev pub opens : TokenKind → Bool
opens (kind.Mark m.OpenRound) = true
opens (kind.Mark m.OpenSquare) = true
opens (kind.Mark m.OpenCurly) = true
opens _ = false

abbrev pub closes : TokenKind → Bool
closes (kind.Mark m.CloseRound) = true
closes (kind.Mark m.CloseSquare) = true
closes (kind.Mark m.CloseCurly) = true
closes _ = false

-- the place of the first token at which more than 200 brackets stand open, where so many are open before the tokens
abbrev pub too_deep : ℕ → Tokens → Option Place
too_deep open_now [] = None
too_deep open_now (t ∷ ts) =
    if opens t.kind then (if nat_le 200 open_now then Some t.place else too_deep (open_now + 1) ts)
    else (if closes t.kind then too_deep (open_now - 1) ts else too_deep open_now ts)
