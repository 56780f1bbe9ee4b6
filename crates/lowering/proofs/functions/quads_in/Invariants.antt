use Rattle.std.proofs.Common.{◌≡◌, ◌++◌, drop, map}
use Rattle.lowering.specs.declared.code.Placed.{Placed}
use Rattle.lowering.proofs.functions.quads_in.Given as goal

-- with those of the rest they are all
abbrev pub invariant-loop-placed : goal.invariant-loop-placed
invariant-loop-placed l = l.quads ++ map (λ (p : Placed). p.quad) (drop l.placed-index l.code) ≡ map (λ (p : Placed). p.quad) l.code
