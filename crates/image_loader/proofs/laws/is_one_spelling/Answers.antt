use Rattle.std.proofs.Common.{◌∙◌, sym}
use Rattle.image_loader.proofs.laws.is_one_spelling.Goals as goal

pub returns : goal.returns
returns c = λ image bytes others a b. a.spelled ∙ sym b.spelled
