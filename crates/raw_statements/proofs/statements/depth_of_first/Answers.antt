use Rattle.std.proofs.Common.{◌∙◌}
use Rattle.std.proofs.Math.Numerals.{sub-one}
use Rattle.raw_statements.proofs.statements.depth_of_first.Goals as goal

pub returns-clause-value : goal.returns-clause-value
returns-clause-value c = c.saturating_sub.ensures ∙ sub-one c.args.d
