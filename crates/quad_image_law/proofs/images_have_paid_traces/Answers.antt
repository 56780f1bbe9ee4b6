use Rattle.quad_image_law.proofs.Traces.{paid_traces}
use Rattle.quad_image_law.proofs.images_have_paid_traces.Goals as goal

pub returns : goal.returns
returns c = paid_traces
