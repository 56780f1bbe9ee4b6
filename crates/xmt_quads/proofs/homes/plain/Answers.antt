use Rattle.std.proofs.Common.{◌≡◌, ◌∙◌, ap, arith, length, take_all}
use Rattle.std.specs.Prelude.{◌≤◌}
use Rattle.xmt_quads.proofs.OwnSlots.{own_slots, is_allocation, has_own_slots}
use Rattle.xmt_quads.proofs.homes.plain.Goals as goal

all_of : (c : goal.After-loop-function) → c.loop-function.homes ≡ own_slots c.args.program.now.functions
all_of c =
    let functions = c.args.program.now.functions in
    let past : length functions ≤ c.loop-function.function-index = omega (arith, c.loop-function-test.false, ap (λ (xs : _). length xs) c.as_slice-function-items.ensures) in
    c.loop-function.invariant ∙ ap own_slots (take_all c.loop-function.function-index functions past)

pub returns : goal.returns
returns c =
    record {
      allocation = is_allocation c.args.program.now c.loop-function.homes (all_of c) c.requires;
      own_slots = has_own_slots c.args.program.now.functions c.loop-function.homes (all_of c);
    }
