use Rattle.std.proofs.Common.{◌≡◌, ◌+◌, ◌++◌, length, drop}
use Rattle.std.specs.Prelude.{sum_by}
use Rattle.xmt_quads.specs.declared.code.QuadFunction.{QuadFunction}
use Rattle.quad_images.specs.Image.{size_of, slot_in, codes_from, lines_of_all, entries_from}
use Rattle.emit.proofs.image.build.Given as goal

-- the functions so far, and those still to come
abbrev pub invariant-loop-i : goal.invariant-loop-i
invariant-loop-i l = record {
  instructions : l.code.code ++ codes_from (slot_in l.homes) (length l.code.code) l.i (drop l.i l.functions) ≡ codes_from (slot_in l.homes) 0 0 l.functions;
  are_lines : l.code.lines ++ lines_of_all (drop l.i l.functions) ≡ lines_of_all l.functions;
  begins : l.entries ++ entries_from (length l.code.code) (drop l.i l.functions) ≡ entries_from 0 l.functions;
  room : length l.code.code + sum_by (λ (f : QuadFunction). size_of f.quads) (drop l.i l.functions) ≡ sum_by (λ (f : QuadFunction). size_of f.quads) l.functions;
}
