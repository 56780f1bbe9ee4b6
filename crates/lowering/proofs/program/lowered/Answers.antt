use Rattle.std.proofs.Common.{◌∙◌, ap}
use Rattle.source_meaning.specs.Layout.{symbols_from, opening_words}
use Rattle.lowering.proofs.Programs.{program_made}
use Rattle.lowering.proofs.program.lowered.Goals as goal

pub lower_all-requires-clause-functions : goal.lower_all-requires-clause-functions
lower_all-requires-clause-functions c = c.requires.limits.functions

pub lower_all-requires-clause-symbols : goal.lower_all-requires-clause-symbols
lower_all-requires-clause-symbols c = c.as_slice.ensures ∙ c.in_ok-symbols.ensures ∙ ap (symbols_from 0) c.as_slice-globals.ensures

pub returns : goal.returns
returns c =
    program_made c.args.program.now c.in_ok-functions.functions c.new.result c.lower_all.new.texts.list
    c.in_ok-symbols.symbols c.in_ok-words.words c.register_values.result c.outer_words.result
    c.new.ensures c.in_ok-functions.ensures
    (c.in_ok-symbols.ensures ∙ ap (symbols_from 0) c.as_slice-globals.ensures)
    (c.in_ok-words.ensures ∙ ap opening_words c.as_slice-globals.ensures) c.register_values.ensures c.outer_words.ensures
