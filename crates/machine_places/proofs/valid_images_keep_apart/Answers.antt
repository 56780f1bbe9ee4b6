use Rattle.machine_places.proofs.Fits.{keeps_apart}
use Rattle.machine_places.proofs.Shared.{keeps_to_shared}
use Rattle.machine_places.proofs.valid_images_keep_apart.Goals as goal

pub returns : goal.returns
returns c = record { apart = keeps_apart; shared = keeps_to_shared }
