use Rattle.xmt_base.specs.Name.{is_name}
use Rattle.xmt_lex.proofs.Lookup.{same_test}
use Rattle.xmt_lex.proofs.hash.is_a_name.Goals as goal

pub returns : goal.returns
returns c = same_test c.is_name.result (is_name c.args.w.now) c.is_name.ensures
