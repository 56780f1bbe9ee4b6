use Rattle.xmt_compile.proofs.compiler.compile.Goals as goal

pub image_of-requires : goal.image_of-requires
image_of-requires c = record { checked = c.in-Ok.ensures.checked; limits = c.in-Ok.ensures.limits; nodes = c.in-Ok.ensures.nodes; words = c.in-Ok.ensures.answer.few_words }
