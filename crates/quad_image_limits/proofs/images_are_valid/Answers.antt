use Rattle.quad_image_limits.proofs.Valid.{is_valid}
use Rattle.quad_image_limits.proofs.images_are_valid.Goals as goal

pub returns : goal.returns
returns c = is_valid
