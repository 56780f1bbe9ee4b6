use Rattle.quad_tests.proofs.code_tests.quads_of.Goals as goal

pub lower-requires : goal.lower-requires
lower-requires c = record { checked = c.in-Ok.ensures.checked; limits = c.in-Ok.ensures.limits; nodes = c.in-Ok.ensures.nodes; words = c.in-Ok.ensures.answer.few_words }
