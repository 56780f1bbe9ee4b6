use Rattle.std.proofs.Common.{◌≡◌, ◌+◌, ◌++◌, drop}
use Rattle.quad_images.specs.Image.{size_of}
use Rattle.emit.specs.Emitted.{places_from}
use Rattle.emit.proofs.functions.places_of.Given as goal

-- the places so far, and those still to come
abbrev pub invariant-loop-q : goal.invariant-loop-q
invariant-loop-q l = record {
  whole : l.places.items ++ places_from l.at (drop l.q-index l.quads) ≡ places_from l.fn.start l.quads;
  room : l.at + size_of (drop l.q-index l.quads) ≡ l.fn.start + size_of l.quads;
}
