use Rattle.std.proofs.Common.{lit<, sym}
use Rattle.std.proofs.lemmas.Str.Pattern.{split_once_first}
use Rattle.xmt_cli.proofs.Walks.{no_value, whole_front}
use Rattle.xmt_cli.proofs.texts.split_at_equals.Goals as goal

pub returns-in-None-clause-front : goal.returns-in-None-clause-front
returns-in-None-clause-front c = let first = split_once_first 61 c.args.text.now c.split_once.result c.split_once.ensures.cases (lit< tt) in whole_front c.args.text.now (rw c.in-None.is at first)

pub returns-in-None-clause-behind : goal.returns-in-None-clause-behind
returns-in-None-clause-behind c = let first = split_once_first 61 c.args.text.now c.split_once.result c.split_once.ensures.cases (lit< tt) in sym (no_value c.args.text.now (rw c.in-None.is at first))
