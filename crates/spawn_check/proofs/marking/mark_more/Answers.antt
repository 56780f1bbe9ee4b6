use Rattle.std.proofs.Common.{◌≡◌, ◌<◌, ◌+◌, ◌∙◌, ap, sym, subst, refl, arith, length, true, false, Bool, List, Some, get_or}
use Rattle.std.proofs.Math.ListN.{set}
use Rattle.std.proofs.lemmas.Bool.{both_ways}
use Rattle.std.proofs.lemmas.Option.{slice_get_read}
use Rattle.std.specs.Prelude.{slice_get}
use Rattle.spawn_check.specs.Marking.{is_due_at, AreSound, AreClosed, count_of_marked}
use Rattle.spawn_check.proofs.MarkedFunctions.{count_of_marked-set, due_unmarked, due_reaches, sound_with_one_more, ClosedBelow, closed_one_more, closed_at_end, on_false}
use Rattle.spawn_check.proofs.marking.mark_more.Goals as goal
use Rattle.spawn_check.proofs.marking.mark_more.Goals.{then-is_due, else-is_due}

pub loop-number-preserved : goal.loop-number-preserved
loop-number-preserved c =
    let functions = c.args.functions.now in
    let what = c.args.what in
    let marks = c.loop-number.marks in
    let number = c.loop-number.number in
    let item = c.index-functions-number.result in
    let within : number < length functions = omega arith in
    let room : number < length marks = omega (arith, c.loop-number.auto.marks, c.requires.room) in
    let is : slice_get functions number ≡ Some item = slice_get_read functions (length functions) number item refl within c.index-functions-number.is in
    elim c.if-is_due.branch [
      | then-is_due w ↦
          let due : is_due_at item number what marks ≡ true = sym c.is_due.ensures ∙ w.if-is_due.true in
          let unmarked : get_or marks number false ≡ false = due_unmarked functions what marks number item due in
          let more : count_of_marked c.if-is_due.marks ≡ count_of_marked marks + 1 =
          let grown = count_of_marked-set marks number room unmarked in
          let same : count_of_marked c.if-is_due.marks ≡ count_of_marked (set marks number true) = ap count_of_marked w.marks-is in
          omega (arith, grown, same)
          in record {
            sound =
                subst (λ (m : List Bool). AreSound functions what m) (sym w.marks-is)
                (sound_with_one_more functions what marks number room c.loop-number.invariant.sound (due_reaches functions what marks number item is c.loop-number.invariant.sound due));
            kept = omega (arith, more, c.loop-number.invariant.kept);
            grown = λ marked. omega (arith, more, c.loop-number.invariant.kept);
            closed = λ none. absurd (both_ways c.if-is_due.more none w.more-is);
          }
      | else-is_due w ↦
          let calm : is_due_at item number what marks ≡ false = sym c.is_due.ensures ∙ w.if-is_due.false in
          let same : count_of_marked c.if-is_due.marks ≡ count_of_marked marks = ap count_of_marked w.marks-is in
          record {
            sound = subst (λ (m : List Bool). AreSound functions what m) (sym w.marks-is) c.loop-number.invariant.sound;
            kept = omega (arith, same, c.loop-number.invariant.kept);
            grown = λ marked. let before = c.loop-number.invariant.grown (sym w.more-is ∙ marked) in omega (arith, same, before);
            closed = λ none.
                subst (λ (m : List Bool). ClosedBelow functions what m (number + 1)) (sym w.marks-is)
                (closed_one_more functions what marks number item is calm (c.loop-number.invariant.closed (sym w.more-is ∙ none)));
          }
    ]

pub returns-clause-closed : goal.returns-clause-closed
returns-clause-closed c =
    on_false c.loop-number.more (AreClosed c.args.functions.now c.args.what c.loop-number.marks)
    (λ none. closed_at_end c.args.functions.now c.args.what c.loop-number.marks c.loop-number.number c.loop-number-test.false (c.loop-number.invariant.closed none))
