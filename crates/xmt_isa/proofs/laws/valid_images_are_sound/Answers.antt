use Rattle.xmt_isa.proofs.Sound.{valid_sound}
use Rattle.xmt_isa.proofs.laws.valid_images_are_sound.Goals as goal

pub returns : goal.returns
returns c = valid_sound
