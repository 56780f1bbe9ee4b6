use Rattle.std.proofs.Common.{◌∙◌}
use Rattle.xmt_lex.proofs.Lookup.{found}
use Rattle.xmt_lex.proofs.names.Names.find.Goals as goal

pub returns : goal.returns
returns c = c.copied.ensures ∙ c.get.ensures.value ∙ found c.args.w.now c.args.self.now.values.entries
