use Rattle.std.proofs.Common.{arith}
use Rattle.shared_words.proofs.Keeps.{opens}
use Rattle.shared_words.proofs.table.Words.open.Goals as goal

pub of_words-requires : goal.of_words-requires
of_words-requires c = rw c.as_slice.ensures.value (opens c.args.words.items c.args.room (omega arith) c.requires.none_drawn c.requires.room)
