use Rattle.std.proofs.Common.{sym, subst, All}
use Rattle.spawn_join.specs.Worked.{IsDue}
use Rattle.section_tests.proofs.tests.run.Goals as goal

pub section-requires-clause-due : goal.section-requires-clause-due
section-requires-clause-due g c κs within =
    let image = c.in_ok-image.image in
    let start = c.in_ok-start.start in
    subst (λ ws. All (λ w. IsDue image start c.args.budget w.unit) ws) (sym c.as_mut_slice.ensures.value) (λ k d below. c.in_ok-workers.ensures.new k d below image start c.args.budget)
