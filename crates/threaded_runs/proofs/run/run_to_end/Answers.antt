use Rattle.std.proofs.Common.{◌≡◌, refl, sym, ◌∙◌, [], vec_len, arith}
use Rattle.xmt_host.proofs.Later.{then_prints}
use Rattle.machine_turns.specs.View.{machine_of}
use Rattle.threaded_runs.proofs.Ends.{has_begun, come_on, come_turned, ended_here, ended_inside, cut_short}
use Rattle.threaded_runs.proofs.run.run_to_end.Goals as goal

pub turns-init : goal.turns-init
turns-init g c = record {
  some = c.requires.some;
  few = c.requires.few;
  come = has_begun c.args.image.now c.args.budget c.args.machine.now (g.H.Host.told c.args.host.now).out c.requires.kept c.requires.serial c.requires.numbered (sym c.args.machine.now.words.ok.0 ∙ c.requires.long);
  only = record { later = omega arith; steady = refl; no_fault = λ is. refl; taken = refl; files = refl; err = refl };
}

pub returns-in-Some-clause-ended : goal.returns-in-Some-clause-ended
returns-in-Some-clause-ended g c =
    let come = come_on c.args.image.now c.args.budget (machine_of c.args.machine.now []) c.turns.machine c.run_on.new.machine _ _ c.turns.invariant.come c.run_on.ensures.on c.run_on.ensures.spawned in
    ended_here c.args.image.now c.args.budget (machine_of c.args.machine.now []) c.run_on.new.machine c.in-Some.end _ _ come c.in-Some.ensures.end

pub go_on-requires-clause-numbered : goal.go_on-requires-clause-numbered
go_on-requires-clause-numbered g c κs within =
    let come = come_on c.args.image.now c.args.budget (machine_of c.args.machine.now []) c.turns.machine c.run_on.new.machine _ _ c.turns.invariant.come c.run_on.ensures.on c.run_on.ensures.spawned in
    come.numbered

pub go_on-requires-clause-long : goal.go_on-requires-clause-long
go_on-requires-clause-long g c κs within =
    let come = come_on c.args.image.now c.args.budget (machine_of c.args.machine.now []) c.turns.machine c.run_on.new.machine _ _ c.turns.invariant.come c.run_on.ensures.on c.run_on.ensures.spawned in
    c.run_on.new.machine.words.ok.0 ∙ come.long

pub turns-preserved : goal.turns-preserved
turns-preserved g c =
    let before = c.turns.invariant in
    let come = come_on c.args.image.now c.args.budget (machine_of c.args.machine.now []) c.turns.machine c.run_on.new.machine _ _ before.come c.run_on.ensures.on c.run_on.ensures.spawned in
    let seats : vec_len c.go_on.new.machine.seats ≡ vec_len c.turns.machine.seats = c.in-Ok-None.ensures.seats ∙ c.run_on.ensures.len in
    record {
      some = omega (arith, seats, before.some);
      few = omega (arith, seats, before.few);
      come = come_turned c.args.image.now c.args.budget (machine_of c.args.machine.now []) c.run_on.new.machine c.go_on.new.machine _ _ _ come (rw c.in-Ok-None.field-0-is at c.in-Ok-None.ensures.on);
      only = then_prints _ _ _ before.only c.go_on.ensures.only;
    }

pub returns-in-Ok-Some-clause-ended : goal.returns-in-Ok-Some-clause-ended
returns-in-Ok-Some-clause-ended g c =
    let come = come_on c.args.image.now c.args.budget (machine_of c.args.machine.now []) c.turns.machine c.run_on.new.machine _ _ c.turns.invariant.come c.run_on.ensures.on c.run_on.ensures.spawned in
    let inside = rw c.in-Ok-Some.field-0-is at c.in-Ok-Some.ensures.on in
    ended_inside c.args.image.now c.args.budget (machine_of c.args.machine.now []) c.run_on.new.machine c.in-Ok-Some.end _ _ _ _ come inside.0 inside.1

pub returns-in-Err-clause-cut : goal.returns-in-Err-clause-cut
returns-in-Err-clause-cut g c =
    let come = come_on c.args.image.now c.args.budget (machine_of c.args.machine.now []) c.turns.machine c.run_on.new.machine _ _ c.turns.invariant.come c.run_on.ensures.on c.run_on.ensures.spawned in
    cut_short c.args.image.now c.args.budget (machine_of c.args.machine.now []) c.run_on.new.machine _ _ _ come (c.in_default.ensures.goes refl) c.in-Err.ensures.cut
