use Rattle.image_loader.proofs.Nesting.{valid_nests}
use Rattle.image_loader.proofs.laws.valid_images_nest.Goals as goal

pub returns : goal.returns
returns c = valid_nests
