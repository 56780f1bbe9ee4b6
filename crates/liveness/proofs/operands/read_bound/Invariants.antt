use Rattle.std.proofs.Common.{ℕ, ◌<◌, ◌≤◌, ◌^◌, ◌≡◌, true, Some}
use Rattle.std.specs.Prelude.{slice_get}
use Rattle.xmt_quads.specs.declared.code.Quad.{Quad}
use Rattle.xmt_quads.specs.Live.{reads}
use Rattle.liveness.proofs.operands.read_bound.Given as goal

abbrev pub invariant-loop-quad : goal.invariant-loop-quad
invariant-loop-quad l = record {
  before : (at r : ℕ) (q : Quad) → at < l.quad-index → slice_get l.quads at ≡ Some q → reads r q ≡ true → r < l.bound;
  fits : l.bound ≤ 2 ^ 32;
}
