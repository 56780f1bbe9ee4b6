use Rattle.std.proofs.Common.{◌≡◌, refl, true}
use Rattle.tcu_engine.specs.Asks.{is_request}
use Rattle.tcu_engine.specs.declared.ask.Ask.TheVariants.{Print}
use Rattle.machine_turns.specs.declared.machine.Machine as kept
use Rattle.machine_turns.proofs.Moved.{turning_may, turning_asks}
use Rattle.machine_turns.proofs.Turned.{cut_printing, kept_printing, turns_printing}
use Rattle.machine_turns.proofs.turn.print_in.Goals as goal

pub piece_in-requires-clause-may : goal.piece_in-requires-clause-may
piece_in-requires-clause-may g c = turning_may c.args.image.now c.args.budget c.args.machine.now c.args.k (Print c.args.text) c.requires.kept c.requires.asks

pub piece_in-requires-clause-prints : goal.piece_in-requires-clause-prints
piece_in-requires-clause-prints g c = turning_asks c.args.machine.now c.args.k (Print c.args.text) (λ a. a ≡ Print c.args.text) c.requires.asks refl

pub reply_in-requires-clause-may : goal.reply_in-requires-clause-may
reply_in-requires-clause-may g c = turning_may c.args.image.now c.args.budget c.args.machine.now c.args.k (Print c.args.text) c.requires.kept c.requires.asks

pub reply_in-requires-clause-asks : goal.reply_in-requires-clause-asks
reply_in-requires-clause-asks g c = turning_asks c.args.machine.now c.args.k (Print c.args.text) (λ a. is_request a ≡ true) c.requires.asks refl

pub returns-in-Err-print_all-clause-cut : goal.returns-in-Err-print_all-clause-cut
returns-in-Err-print_all-clause-cut g c = cut_printing c.args.image.now c.args.budget c.args.k c.args.machine.now c.args.text c.in-Ok.bytes.items c.requires.kept c.requires.asks c.in-Ok.ensures _ _ (rw c.as_slice.ensures.value at c.in-Err-print_all.ensures.part)

pub returns-clause-kept : goal.returns-clause-kept
returns-clause-kept g c = kept_printing c.args.image.now c.args.budget c.args.k c.args.machine.now c.args.text c.in-Ok.bytes.items c.requires.kept c.requires.asks c.in-Ok.ensures _ c.reply_in.ensures.replaced refl refl refl refl

pub returns-clause-ok : goal.returns-clause-ok
returns-clause-ok g c =
    let new : kept.Machine = record { seats = c.reply_in.new.seats; words = c.args.machine.now.words; drawn = c.args.machine.now.drawn; start = c.args.machine.now.start; spawned = c.args.machine.now.spawned } in
    turns_printing c.args.image.now c.args.budget c.args.k c.args.machine.now c.args.text c.in-Ok.bytes.items c.requires.kept c.requires.asks c.in-Ok.ensures new c.reply_in.ensures.replaced refl refl refl refl _ _ (rw c.as_slice.ensures.value at c.in-Ok-print_all.ensures.ok)
