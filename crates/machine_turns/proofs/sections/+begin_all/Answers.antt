use Rattle.std.proofs.Common.{arith}
use Rattle.machine_turns.specs.Kept.{IsIdle}
use Rattle.machine_turns.proofs.Idle.{all_first, all_rest}
use Rattle.machine_turns.proofs.sections.+begin_all.Goals as goal

pub begin_one-requires-clause-idle : goal.begin_one-requires-clause-idle
begin_one-requires-clause-idle t c = all_first (IsIdle c.args.image.now c.args.budget) _ _ _ c.in-Some.ensures.cases.0 c.requires.idle

pub begin_all-requires : goal.begin_all-requires
begin_all-requires t c =
    let shorter = c.in-Some.ensures.cases.1 in
    (omega (arith, shorter, c.decreases), (c.requires.fits, (all_rest (IsIdle c.args.image.now c.args.budget) _ _ _ c.in-Some.ensures.cases.0 c.requires.idle)))
