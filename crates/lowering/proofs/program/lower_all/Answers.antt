use Rattle.std.proofs.Common.{subst, List}
use Rattle.source_meaning.specs.declared.tree.Function.{Function}
use Rattle.spawn_check.specs.declared.things.Sought.TheVariants as sought
use Rattle.spawn_check.specs.Marking.{AreExact}
use Rattle.lowering.proofs.program.lower_all.Goals as goal

pub returns : goal.returns
returns c =
    let same = c.as_slice-functions.ensures in
    record {
      prints = c.marks_of-prints.result;
      spawns = c.marks_of-spawns.result;
      are_prints = subst (λ (fs : List Function). AreExact fs sought.Print c.marks_of-prints.result) same c.marks_of-prints.ensures;
      are_spawns = subst (λ (fs : List Function). AreExact fs sought.Spawn c.marks_of-spawns.result) same c.marks_of-spawns.ensures;
      functions = c.in_ok-made.ensures;
    }
