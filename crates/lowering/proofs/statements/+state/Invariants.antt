use Rattle.lowering.proofs.Sequels.{Goes}
use Rattle.lowering.proofs.statements.+state.Given as goal

-- what is appended for the rest makes the whole
abbrev pub invariant-emit_statements-loop-s : goal.invariant-emit_statements-loop-s
invariant-emit_statements-loop-s l =
    Goes l.tables.globals.now l.tables.body.now l.r l.exits l.body l.s-index l.fn.code.items l.code.items l.fn.texts.list l.texts.list
