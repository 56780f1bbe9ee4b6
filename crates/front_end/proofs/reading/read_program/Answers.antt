use Rattle.front_end.proofs.Refused.{names_refused, program_checked}
use Rattle.front_end.proofs.Few.{few_functions}
use Rattle.front_end.proofs.reading.read_program.Goals as goal

pub check_program-requires : goal.check_program-requires
check_program-requires c = few_functions c.args.tree.now c.in-Ok.program c.in-Ok.ensures

pub returns-in-Err : goal.returns-in-Err
returns-in-Err c =
    names_refused c.args.source.now c.args.tokens.now c.args.tree.now c.in-Err.refusal c.of_names.result c.requires.tokens c.requires.tree c.of_names.ensures c.in-Err.ensures

pub returns-in-Ok : goal.returns-in-Ok
returns-in-Ok c =
    program_checked c.args.source.now c.args.tokens.now c.args.tree.now c.in-Ok.program c.check_program.result c.requires.tokens c.requires.tree c.in-Ok.ensures
    c.check_program.ensures
