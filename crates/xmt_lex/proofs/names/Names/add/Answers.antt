use Rattle.std.proofs.Common.{map, ap, ◌∙◌}
use Rattle.xmt_lex.proofs.Lookup.{entry_of, added}
use Rattle.xmt_lex.proofs.names.Names.add.Goals as goal

pub returns : goal.returns
returns c =
    ap (map entry_of) c.in_ok-insert.ensures.entries
    ∙ added c.args.self.now.values c.in_ok-word.word c.args.w.now c.args.value c.in_ok-word.ensures.items c.requires
