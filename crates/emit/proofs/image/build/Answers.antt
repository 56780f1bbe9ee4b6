use Rattle.std.proofs.Common.{Bool, ℕ, ◌≡◌, ◌∙◌, ap, arith, ◌+◌, ◌<◌, length}
use Rattle.std.specs.Prelude.{if◌then◌else◌}
use Rattle.xmt_isa.specs.declared.image.FunctionEntry.{FunctionEntry}
use Rattle.xmt_quads.specs.declared.code.QuadFunction.{QuadFunction}
use Rattle.quad_images.specs.Image.{size_of}
use Rattle.emit.specs.Emitted.{slot_at}
use Rattle.emit.proofs.Programs.{slots_are, grows, instructions_step, all_lines_step, entries_step, room_step}
use Rattle.emit.proofs.image.build.Goals as goal

abbrev entry_at : ℕ → Bool → FunctionEntry
entry_at n inner = record { start = n; slots = 512; inner = if inner then 1 else 0 }

pub loop-i-preserved : goal.loop-i-preserved
loop-i-preserved c =
    let functions = c.args.functions.now in
    let i = c.loop-i.i in
    let f : QuadFunction = c.index-functions-i.result in
    let below : i < length functions = omega (arith, c.loop-i-test.true) in
    let here = c.index-functions-i.is in
    let each = c.requires.one_each in
    let low : i < length c.args.homes.now = omega (arith, below, each) in
    let pushed = c.in_ok-push_function.ensures in
    let slots = slots_are c.args.homes.now i c.index-homes-i.result c.as_slice.result.now low c.index-homes-i.is c.as_slice.ensures in
    let now = c.loop-i.code.code in
    let next = c.push_function.new.code.code in
    let start = c.len-start.ensures in
    let grown : length next ≡ length now + size_of f.quads = grows functions i f below here (slot_at c.as_slice.result.now) c.len-start.result now next pushed.instructions in
    record {
      instructions = instructions_step functions i f below here c.args.homes.now (slot_at c.as_slice.result.now) c.len-start.result now next _ slots start c.loop-i.invariant.instructions pushed.instructions;
      are_lines = all_lines_step functions i f below here c.loop-i.code.lines c.push_function.new.code.lines _ c.loop-i.invariant.are_lines pushed.are_lines;
      begins = entries_step functions i f below here (length now) (length next) c.entry.result c.loop-i.entries c.push.new.self _ (c.entry.ensures ∙ ap (λ n. entry_at n f.inner) start) grown c.loop-i.invariant.begins c.in_ok-push.ensures.ok;
      room = room_step functions i f below here (length now) (length next) _ grown c.loop-i.invariant.room;
    }
