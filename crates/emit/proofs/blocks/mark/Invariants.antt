use Rattle.std.proofs.Common.{◌≡◌, ◌||◌, ℕ, false, get_or, drop}
use Rattle.quad_images.specs.Image.{written_in}
use Rattle.emit.proofs.blocks.mark.Given as goal

-- what is marked and what is still to come is what it was
abbrev pub invariant-loop-q : goal.invariant-loop-q
invariant-loop-q l = (r : ℕ) → (get_or l.written r false || written_in (drop l.q-index l.quads) r) ≡ (get_or l.initial.written r false || written_in l.quads r)
