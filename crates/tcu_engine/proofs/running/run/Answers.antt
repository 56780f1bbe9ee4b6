use Rattle.std.proofs.Common.{◌≡◌, true, false, refl, sym, subst, arith}
use Rattle.xmt_isa.specs.declared.unit.Unit.{Unit}
use Rattle.xmt_isa.specs.Fits.{UnitFits}
use Rattle.unit_steps.specs.Keeps.{HasStart}
use Rattle.tcu_engine.proofs.Runs.{place_of, turned, ran}
use Rattle.tcu_engine.proofs.running.run.Goals as goal

no_step : false ≡ true → ⊥
no_step is = cc

pub look_at-requires-clause-places : goal.look_at-requires-clause-places
look_at-requires-clause-places c =
    let before = c.loop-done.invariant in
    let same = c.if-not-step.ensures.unit in
    λ asked live asks. place_of c.args.image.now c.args.start.now c.step.new.unit c.requires.valid
    (subst (λ (v : Unit). HasStart c.args.image.now c.args.start.now v) (sym same) before.start)
    (subst (λ (v : Unit). UnitFits c.args.image.now c.args.start.now v) (sym same) before.fits) asked live asks

pub look_at-requires-2-clause-places : goal.look_at-requires-2-clause-places
look_at-requires-2-clause-places c = λ asked live asks. place_of c.args.image.now c.args.start.now c.loop-done.unit c.requires.valid c.loop-done.invariant.start c.loop-done.invariant.fits asked live asks

pub returns-then-not-step-clause-run : goal.returns-then-not-step-clause-run
returns-then-not-step-clause-run c =
    let before = c.loop-done.invariant in
    ran c.args.image.now c.args.start.now c.args.budget c.args.most c.loop-done.done c.args.unit.now c.loop-done.unit c.step.new.unit c.look_at.result before.few before.alone c.if-not-step.ensures.unit
    (λ does. absurd (no_step (c.if-not-step.ensures.local.1 does))) before.within c.look_at.ensures

pub loop-done-preserved : goal.loop-done-preserved
loop-done-preserved c =
    let before = c.loop-done.invariant in
    let after = turned c.args.image.now c.args.start.now c.args.budget c.loop-done.done c.args.unit.now c.loop-done.unit c.step.new.unit c.requires.valid before.alone before.fits before.start before.free
    (c.if-not-step.ensures.local.0 refl) c.if-not-step.ensures.unit (c.if-not-step.ensures.steps refl) in
    record {
      few = omega arith;
      alone = after.alone;
      fits = after.fits;
      start = after.has;
      free = after.free;
      begun = after.begun;
      within = after.within;
    }
