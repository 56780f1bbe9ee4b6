use Rattle.token_law.proofs.Parted.{tokens_are, answer_is}
use Rattle.token_law.proofs.tokens_are_longest.Goals as goal

pub returns : goal.returns
returns c = record { tokens = λ source ts. tokens_are source ts; answers = λ source answer lexes. answer_is source answer lexes }
