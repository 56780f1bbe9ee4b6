use Rattle.unit_steps.specs.Steps.{StandsAtTrap}
use Rattle.std.proofs.Common.{rules}
use Rattle.tcu_engine.proofs.trap.trap_at.Goals as goal

pub returns-in-Trap-clause-none : goal.returns-in-Trap-clause-none
returns-in-Trap-clause-none c =
    let stands : StandsAtTrap c.args.image.now c.args.start.now c.args.unit.now c.trap_of.result = search rules in
    (λ is. cc, λ none. absurd (none c.trap_of.result stands))
