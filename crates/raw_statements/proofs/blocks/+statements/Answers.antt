use Rattle.std.proofs.Common.{◌≡◌, ℕ, pred, [], ◌∷◌, ◌++◌, ap, ◌∙◌, arith}
use Rattle.raw_tree.specs.declared.tree.RawStmt.{RawStmt}
use Rattle.xmt_lex.specs.declared.kinds.Keyword.TheVariants as k
use Rattle.xmt_lex.specs.declared.kinds.Mark.TheVariants as m
use Rattle.std.proofs.lemmas.Result.{err_from_is_err_and}
use Rattle.raw_tree.specs.Gives.{view}
use Rattle.raw_tree.specs.Reading.{expression}
use Rattle.raw_tree.specs.ReadingStatements.{read_stmt, read_piece, read_body}
use Rattle.raw_statements.proofs.Turns.{stmt_deepest, stmt_deeper, piece_empty, body_exit, body_end, body_ends_none, body_turn, begun_for, begun_block}
use Rattle.raw_statements.proofs.blocks.+statements.Goals as goal

pub read_statement-returns-then-depth-eq0 : goal.read_statement-returns-then-depth-eq0
read_statement-returns-then-depth-eq0 t c = stmt_deepest c.args.source.now c.args.depth c.args.ts.now c.if-depth-eq0.true

pub read_statement-returns-else-depth-eq0 : goal.read_statement-returns-else-depth-eq0
read_statement-returns-else-depth-eq0 t c = rw (stmt_deeper c.args.source.now c.args.depth c.args.ts.now (omega (arith, c.if-depth-eq0.false))) c.begun.ensures

pub read_body-returns-in-Some : goal.read_body-returns-in-Some
read_body-returns-in-Some t c =
    let piece = read_piece c.args.source.now c.args.d in
    body_end piece (piece_empty c.args.source.now c.args.d) c.parts.turns c.parts.all c.parts.left.now c.in-Some.rest.now (read_body piece c.args.ts.now) c.parts.invariant c.in-Some.ensures

pub read_body-returns-then-turns-eq0 : goal.read_body-returns-then-turns-eq0
read_body-returns-then-turns-eq0 t c =
    let piece = read_piece c.args.source.now c.args.d in
    body_ends_none piece (piece_empty c.args.source.now c.args.d) c.parts.turns c.parts.all c.parts.left.now (read_body piece c.args.ts.now) c.parts.invariant c.in-None.ensures c.if-turns-eq0.true

pub read_body-returns-in_err-one-in-None : goal.read_body-returns-in_err-one-in-None
read_body-returns-in_err-one-in-None t c =
    let piece = read_piece c.args.source.now c.args.d in
    let p = err_from_is_err_and c.from_residual.result c.from_residual.ensures.1 in
    body_exit piece (piece_empty c.args.source.now c.args.d) c.parts.turns c.parts.all c.parts.left.now (read_body piece c.args.ts.now) c.from_residual.result p.1 p.2 c.parts.invariant c.in-None.ensures c.in_err-one-in-None.ensures

pub read_body-parts-preserved : goal.read_body-parts-preserved
read_body-parts-preserved t c =
    let piece = read_piece c.args.source.now c.args.d in
    body_turn piece (piece_empty c.args.source.now c.args.d) c.parts.turns c.parts.all c.parts.left.now (read_body piece c.args.ts.now) (view c.in_ok-one-in-None.one) c.push.new.self
    c.parts.invariant c.in-None.ensures (omega (arith, c.if-turns-eq0.false)) c.in_ok-one-in-None.ensures (c.in_ok-push-in-None.ensures.ok ∙ ap (λ (a : RawStmt). c.parts.all ++ a ∷ []) c.into_inner.ensures)

is_for : (t : ℕ) (c : goal.begun-After-read_for t) → c.in-Keyword-For.field-0 ≡ k.For
is_for t c = rw c.in-Keyword-For.is at c.in-Keyword-For.field-0-is

pub begun-returns-in-Keyword-For : goal.begun-returns-in-Keyword-For
begun-returns-in-Keyword-For t c =
    begun_for c.args.source.now (expression c.args.source.now c.args.d) (expression c.args.source.now (pred c.args.d)) (read_stmt c.args.source.now c.args.d) (read_piece c.args.source.now c.args.d) c.args.ts.now _ _ c.read_for.result c.in-len1-up.len_at_least c.in-Keyword-For.is (is_for t c) c.read_for.ensures

is_open : (t : ℕ) (c : goal.begun-After-read_block t) → c.in-Mark-OpenCurly.field-0 ≡ m.OpenCurly
is_open t c = rw c.in-Mark-OpenCurly.is at c.in-Mark-OpenCurly.field-0-is

pub begun-returns-in-Mark-OpenCurly : goal.begun-returns-in-Mark-OpenCurly
begun-returns-in-Mark-OpenCurly t c =
    begun_block c.args.source.now (expression c.args.source.now c.args.d) (expression c.args.source.now (pred c.args.d)) (read_stmt c.args.source.now c.args.d) (read_piece c.args.source.now c.args.d) c.args.ts.now _ _ c.read_block.result
    c.in-len1-up.len_at_least c.in-Mark-OpenCurly.is (is_open t c) c.read_block.ensures
