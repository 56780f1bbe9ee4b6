use Rattle.std.proofs.Common.{◌≡◌, ◌++◌, drop}
use Rattle.quad_images.specs.Image.{code_from, begins_in, function_code, lines_from}
use Rattle.emit.specs.Emitted.{slot_at, own_of}
use Rattle.emit.proofs.functions.push_function.Given as goal

-- the code so far, and that still to come
abbrev pub invariant-loop-i : goal.invariant-loop-i
invariant-loop-i l = record {
  instructions : l.code.code ++ code_from (slot_at l.homes) (begins_in l.start l.f.quads) (own_of l.own) (drop l.i l.f.quads) ≡ l.initial.code.code ++ function_code (slot_at l.homes) l.start l.f.quads;
  are_lines : l.code.lines ++ lines_from (drop l.i l.f.quads) (drop l.i l.f.lines) ≡ l.initial.code.lines ++ lines_from l.f.quads l.f.lines;
}
