use Rattle.std.proofs.Common.{◌≡◌, ◌||◌, sym, ◌∙◌, ap, arith, ◌+◌, ◌<◌, false, length, get_or, drop}
use Rattle.std.specs.Prelude.{All}
use Rattle.std.proofs.lemmas.List.{get_or_default}
use Rattle.xmt_quads.specs.declared.code.Operand.TheVariants.{Reg}
use Rattle.xmt_quads.specs.declared.code.Quad.{Quad}
use Rattle.xmt_quads.specs.declared.code.Quad.TheVariants.{Copy}
use Rattle.xmt_quads.specs.WellFormed.{AreBelow}
use Rattle.quad_images.specs.Image.{written_in}
use Rattle.emit.proofs.Marks.{marks_none, marks_some, register_low}
use Rattle.emit.proofs.blocks.mark.Goals.{in-Some, in_default}
use Rattle.emit.proofs.blocks.mark.Goals as goal

abbrev first : Quad
first = Copy 0 (Reg 0)

pub bounds-written-r : goal.bounds-written-r
bounds-written-r c =
    let q = get_or c.args.quads.now c.loop-q.q-index first in
    let below : c.loop-q.q-index < length c.args.quads.now = omega (arith, c.loop-q-test.true) in
    let required : All (AreBelow (length c.args.written.now)) c.args.quads.now = c.requires in
    let low : c.in-Some.r < length c.args.written.now = register_low (length c.args.written.now) q c.in-Some.r (required c.loop-q.q-index first below) (sym c.written_by.ensures ∙ c.in-Some.is) in
    omega (arith, low)

pub loop-q-preserved : goal.loop-q-preserved
loop-q-preserved c =
    λ r.
    let q = get_or c.args.quads.now c.loop-q.q-index first in
    let i = c.loop-q.q-index in
    let below : i < length c.args.quads.now = omega (arith, c.loop-q-test.true) in
    let here : q ≡ get_or c.args.quads.now i q = get_or_default c.args.quads.now i first q below in
    let required : All (AreBelow (length c.args.written.now)) c.args.quads.now = c.requires in
    elim c.match-written_by.branch [
      | in-Some w ↦
          (let some = sym c.written_by.ensures ∙ w.in-Some.is in
          let low : w.in-Some.r < length c.args.written.now = register_low (length c.args.written.now) q w.in-Some.r (required i first below) some in
          ap (λ marks. get_or marks r false || written_in (drop (i + 1) c.args.quads.now) r) w.written-is ∙
          marks_some c.loop-q.written c.args.quads.now i r q w.in-Some.r _ below here (sym c.ends_block.ensures ∙ c.if-ends_block.false) some (omega (arith, low)) (c.loop-q.invariant r))
      | in_default w ↦
          ap (λ marks. get_or marks r false || written_in (drop (i + 1) c.args.quads.now) r) w.written-is ∙
          marks_none c.loop-q.written c.args.quads.now i r q _ below here (sym c.ends_block.ensures ∙ c.if-ends_block.false) (sym c.written_by.ensures ∙ w.in_default.is) (c.loop-q.invariant r)
    ]
