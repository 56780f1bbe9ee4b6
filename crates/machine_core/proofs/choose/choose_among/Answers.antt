use Rattle.std.proofs.Common.{◌∙◌, ap, sym, option_copied, slice_get}
use Rattle.machine_turns.proofs.Choices.{find_none}
use Rattle.machine_turns.proofs.Seen.{some_more}
use Rattle.machine_core.proofs.choose.choose_among.Goals as goal

pub returns-in-None-find_spent-clause-turn : goal.returns-in-None-find_spent-clause-turn
returns-in-None-find_spent-clause-turn c = λ k steps.
    let trapped = sym (rw c.as_slice-seats.ensures.value at c.find_trapped.ensures) ∙ ap option_copied c.in-None.is in
    let spent = sym (rw c.as_slice-seats.ensures.value at c.find_spent.ensures) ∙ ap option_copied c.in-None-find_spent.is in
    some_more (slice_get c.args.machine.now.seats.items k) _ _
    (λ s there active. record {
      active = active;
      untrapped = find_none _ c.args.machine.now.seats.items k s trapped there;
      unspent = find_none _ c.args.machine.now.seats.items k s spent there;
    })
    (rw c.as_slice-seats.ensures.value at (c.pick.ensures.active k steps))
