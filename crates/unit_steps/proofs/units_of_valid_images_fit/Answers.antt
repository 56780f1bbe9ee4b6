use Rattle.unit_steps.proofs.Keeps.{keeps_fit}
use Rattle.unit_steps.proofs.units_of_valid_images_fit.Goals as goal

pub returns : goal.returns
returns c = keeps_fit
