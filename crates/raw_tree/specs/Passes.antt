-- The test that a token of one spelling passes.
use Rattle.std.specs.Prelude.{Bool}
use Rattle.xmt_lex.specs.declared.TokenKind.{TokenKind}
use Rattle.raw_tree.specs.declared.kinds.Expected.{Expected}
use Rattle.raw_tree.specs.declared.kinds.Expected.TheVariants as expected
use Rattle.raw_tree.specs.Reading.{comma, open_round, close_round, open_square, close_square}
use Rattle.raw_tree.specs.ReadingStatements.{semicolon, equal, open_curly, close_curly, is_else, is_while}
use Rattle.raw_tree.specs.ReadingItems.{is_int, is_void}

abbrev pub passes : Expected → TokenKind → Bool
passes expected.Semicolon = semicolon
passes expected.Comma = comma
passes expected.Equal = equal
passes expected.OpenRound = open_round
passes expected.CloseRound = close_round
passes expected.OpenSquare = open_square
passes expected.CloseSquare = close_square
passes expected.OpenCurly = open_curly
passes expected.CloseCurly = close_curly
passes expected.Else = is_else
passes expected.While = is_while
passes expected.Int = is_int
passes expected.Void = is_void
