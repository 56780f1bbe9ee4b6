use Rattle.std.proofs.Common.{◌≡◌, ◌<◌, ◌+◌, ◌∙◌, ap, sym, subst, arith, Bool, [], ◌∷◌, ◌++◌, Some, length, get_or}
use Rattle.std.specs.Prelude.{slice_get, if◌then◌else◌}
use Rattle.std.proofs.lemmas.Option.{slice_get-get_or}
use Rattle.xmt_quads.specs.declared.code.Operand.TheVariants.{Reg}
use Rattle.xmt_quads.specs.declared.code.Quad.{Quad}
use Rattle.xmt_quads.specs.declared.code.Quad.TheVariants.{Copy}
use Rattle.xmt_quads.specs.Program.{is_spawn}
use Rattle.broadcast.proofs.Sites.{AreAddedBefore, spawn_added, no_spawn_added, all_added}
use Rattle.broadcast.proofs.spawns.push_masks.Goals as goal
use Rattle.broadcast.proofs.spawns.push_masks.Goals.{then-is_spawn+in_ok-push, else-is_spawn}

abbrev first : Quad
first = Copy 0 (Reg 0)

pub loop-at-preserved : goal.loop-at-preserved
loop-at-preserved c =
    let quads = c.args.quads.now in
    let positions = c.args.positions.now in
    let before = c.args.masks.now.items in
    let i = c.loop-at.at in
    let q = get_or quads i first in
    let within : i < length quads = omega (arith, c.loop-at-test.true) in
    let here : slice_get quads i ≡ Some q = slice_get-get_or quads i first within in
    elim c.if-is_spawn.branch [
      | then-is_spawn+in_ok-push w ↦
          let one : is_spawn q ≡ 1 = sym c.is_spawn.ensures ∙ ap (λ (b : Bool). if b then 1 else 0) w.if-is_spawn.true in
          let same : c.if-is_spawn.masks.items ≡ c.loop-at.masks.items ++ w.mask_at.result ∷ [] = ap (λ masks. masks.items) w.masks-is ∙ w.in_ok-push.ensures.items in
          subst (AreAddedBefore quads (i + 1) positions before) (sym same)
          (spawn_added quads positions before i w.mask_at.result q c.loop-at.masks.items here one w.mask_at.ensures c.loop-at.invariant)
      | else-is_spawn w ↦
          let none : is_spawn q ≡ 0 = sym c.is_spawn.ensures ∙ ap (λ (b : Bool). if b then 1 else 0) w.if-is_spawn.false in
          subst (λ masks. AreAddedBefore quads (i + 1) positions before masks.items) (sym w.masks-is)
          (no_spawn_added quads positions before i q c.loop-at.masks.items here none c.loop-at.invariant)
    ]

pub returns : goal.returns
returns c = all_added c.args.quads.now c.args.positions.now c.args.masks.now.items c.loop-at.at c.loop-at.masks.items (omega (arith, c.loop-at-test.false)) c.loop-at.invariant
