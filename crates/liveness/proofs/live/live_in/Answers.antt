use Rattle.std.proofs.Common.{◌≡◌, ◌+◌, ◌∙◌, ap, sym, subst, arith, List, ◌∷◌, [], ◌++◌}
use Rattle.xmt_quads.specs.declared.code.Quad.{Quad}
use Rattle.liveness.specs.Operands.{AreReadBelow}
use Rattle.liveness.proofs.Rising.{AreLiveBelow, with_live, without, not_live, live_at_end}
use Rattle.liveness.proofs.live.live_in.Goals as goal
use Rattle.liveness.proofs.live.live_in.Goals.{then-branch+in_ok-push, else-branch}

pub loop-register-preserved : goal.loop-register-preserved
loop-register-preserved c =
    let quads = c.as_slice-quads.result.now in
    let at = c.args.at in
    let r = c.loop-register.register in
    elim c.if-branch.branch [
      | then-branch+in_ok-push w ↦
          let same : c.if-branch.registers.items ≡ c.loop-register.registers.items ++ r ∷ [] = ap (λ registers. registers.items) w.registers-is ∙ w.in_ok-push.ensures.items in
          subst (AreLiveBelow quads at (r + 1)) (sym same)
          (with_live quads at r c.loop-register.registers.items (c.in_ok-is_live.ensures.0 w.if-branch.true) c.loop-register.invariant)
      | else-branch w ↦
          subst (λ registers. AreLiveBelow quads at (r + 1) registers.items) (sym w.registers-is)
          (without quads at r c.loop-register.registers.items (not_live quads r at c.in_ok-is_live.field-0 c.in_ok-is_live.ensures w.if-branch.false) c.loop-register.invariant)
    ]

pub returns : goal.returns
returns c =
    let read : AreReadBelow c.args.function.now.quads c.read_bound-register-end.result = subst (λ (quads : List Quad). AreReadBelow quads c.read_bound-register-end.result) c.as_slice-quads.ensures c.read_bound-register-end.ensures.above in
    live_at_end c.args.function.now.quads c.args.at c.loop-register.register c.read_bound-register-end.result c.loop-register.registers.items (omega (arith, c.loop-register-test.false)) read
    (subst (λ (quads : List Quad). AreLiveBelow quads c.args.at c.loop-register.register c.loop-register.registers.items) c.as_slice-quads.ensures c.loop-register.invariant)
