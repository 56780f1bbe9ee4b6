use Rattle.quad_regions.proofs.Whole
use Rattle.quad_regions.proofs.quads_have_regions.Goals as goal

pub returns : goal.returns
returns c = Whole.quads_have_regions
