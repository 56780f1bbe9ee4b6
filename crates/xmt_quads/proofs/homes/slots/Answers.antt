use Rattle.std.proofs.Common.{sym, arith, ◌∙◌, ap, ◌∷◌, [], ◌++◌}
use Rattle.std.proofs.lemmas.List.FromFn.{map-range_with_len_more}
use Rattle.xmt_quads.specs.declared.homes.Home.TheVariants.{Slot}
use Rattle.xmt_quads.proofs.homes.slots.Goals as goal

pub loop-slot-preserved : goal.loop-slot-preserved
loop-slot-preserved c =
    c.in_ok-push.ensures.ok ∙ ap (λ homes. homes ++ Slot c.loop-slot.slot ∷ []) c.loop-slot.invariant ∙
    sym (map-range_with_len_more (λ slot. Slot slot) 0 c.loop-slot.slot c.loop-slot.slot (omega arith))
