use Rattle.image_loader.proofs.Records.{one_image}
use Rattle.image_loader.proofs.laws.is_one_image.Goals as goal

pub returns : goal.returns
returns c = one_image
