use Rattle.std.proofs.Common.{◌∙◌, sym}
use Rattle.xmt_cli.proofs.Decimals.{refused}
use Rattle.xmt_cli.proofs.numbers.number_in.Goals as goal

pub returns-in-Err-clause-number : goal.returns-in-Err-clause-number
returns-in-Err-clause-number c = sym (refused c.args.low c.args.high c.args.text.now c.parse.result _ c.ranges.high.fits (sym c.all_digits.ensures ∙ c.if-not-all_digits.false) c.parse.ensures.value.0 c.in-Err.is)
