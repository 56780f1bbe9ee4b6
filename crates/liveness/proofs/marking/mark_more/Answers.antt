use Rattle.std.proofs.Common.{ℕ, ◌≡◌, ◌<◌, ◌+◌, ◌-◌, ◌∙◌, ap, sym, subst, arith, length, true, false, List, Some, get_or, length-set}
use Rattle.std.proofs.Math.ListN.{set}
use Rattle.std.specs.Prelude.{slice_get}
use Rattle.std.proofs.lemmas.Bool.{false≢true}
use Rattle.std.proofs.lemmas.Option.{slice_get-get_or}
use Rattle.xmt_quads.specs.declared.code.Operand.TheVariants.{Reg}
use Rattle.xmt_quads.specs.declared.code.Quad.{Quad}
use Rattle.xmt_quads.specs.declared.code.Quad.TheVariants.{Copy}
use Rattle.xmt_quads.specs.Program.{behind_join}
use Rattle.liveness.specs.Marking.{is_due_at, behind_from, AreClosed, count_of_marked}
use Rattle.liveness.proofs.Marks.{behind_end, behind_here, count_of_marked-set, due_unmarked, due_live, sound_with_one_more, ClosedFrom, closed_past, closed_one_more, closed_at_first, on_false}
use Rattle.liveness.proofs.marking.mark_more.Goals as goal

abbrev first : Quad
first = Copy 0 (Reg 0)

next_behind : (quads : List Quad) (at behind result : ℕ) (q : Quad) → 0 < at → slice_get quads (at - 1) ≡ Some q → behind ≡ behind_join quads at → result ≡ behind_from q (at - 1 + 1) behind → result ≡ behind_join quads (at - 1)
next_behind quads at behind result q more here is given =
    let next : at ≡ at - 1 + 1 = omega arith in
    given ∙ ap (behind_from q (at - 1 + 1)) (is ∙ ap (behind_join quads) next) ∙ behind_here quads (at - 1) q here

pub loop-at-init : goal.loop-at-init
loop-at-init c = record {
  within = omega arith;
  room = c.requires.room;
  behind = behind_end c.args.quads.now;
  sound = c.requires.sound;
  kept = omega arith;
  grown = λ marked. absurd (false≢true marked);
  closed = λ none. closed_past c.args.quads.now c.args.register c.args.marks.now;
}

pub loop-at-preserved-then-is_due : goal.loop-at-preserved-then-is_due
loop-at-preserved-then-is_due c =
    let quads = c.args.quads.now in
    let marks = c.loop-at.marks in
    let i = c.loop-at.at - 1 in
    let q = get_or quads i first in
    let positive : 0 < c.loop-at.at = omega (arith, c.loop-at-test.true) in
    let within : i < length quads = omega (arith, positive, c.loop-at.invariant.within) in
    let room : i < length marks = omega (arith, within, c.loop-at.invariant.room) in
    let here : slice_get quads i ≡ Some q = slice_get-get_or quads i first within in
    let behind : c.behind_from-behind.result ≡ behind_join quads i = next_behind quads c.loop-at.at c.loop-at.behind c.behind_from-behind.result q positive here c.loop-at.invariant.behind c.behind_from-behind.ensures in
    let due : is_due_at c.args.register marks i c.behind_from-behind.result q ≡ true = sym c.is_due.ensures ∙ c.if-is_due.true in
    let more : count_of_marked (set marks i true) ≡ count_of_marked marks + 1 =
    let grown = count_of_marked-set marks i room (due_unmarked quads c.args.register marks i c.behind_from-behind.result q due) in
    omega (arith, grown)
    in record {
      within = omega (arith, within);
      room = omega (arith, length-set marks i true, c.loop-at.invariant.room);
      behind = behind;
      sound = sound_with_one_more quads c.args.register marks i room c.loop-at.invariant.sound (due_live quads c.args.register marks i c.behind_from-behind.result q here behind c.loop-at.invariant.sound due);
      kept = omega (arith, more, c.loop-at.invariant.kept);
      grown = λ marked. omega (arith, more, c.loop-at.invariant.kept);
      closed = λ none. absurd (false≢true (sym none));
    }

pub loop-at-preserved : goal.loop-at-preserved
loop-at-preserved c =
    let quads = c.args.quads.now in
    let marks = c.loop-at.marks in
    let i = c.loop-at.at - 1 in
    let q = get_or quads i first in
    let positive : 0 < c.loop-at.at = omega (arith, c.loop-at-test.true) in
    let within : i < length quads = omega (arith, positive, c.loop-at.invariant.within) in
    let next : c.loop-at.at ≡ i + 1 = omega (arith, positive) in
    let here : slice_get quads i ≡ Some q = slice_get-get_or quads i first within in
    let behind : c.behind_from-behind.result ≡ behind_join quads i = next_behind quads c.loop-at.at c.loop-at.behind c.behind_from-behind.result q positive here c.loop-at.invariant.behind c.behind_from-behind.ensures in
    let calm : is_due_at c.args.register marks i c.behind_from-behind.result q ≡ false = sym c.is_due.ensures ∙ c.if-is_due.false in
    record {
      within = omega (arith, within);
      room = c.loop-at.invariant.room;
      behind = behind;
      sound = c.loop-at.invariant.sound;
      kept = c.loop-at.invariant.kept;
      grown = c.loop-at.invariant.grown;
      closed = λ none.
          closed_one_more quads c.args.register marks i c.behind_from-behind.result q here behind calm
          (subst (ClosedFrom quads c.args.register marks) next (c.loop-at.invariant.closed none));
    }

pub returns-clause-closed : goal.returns-clause-closed
returns-clause-closed c =
    on_false c.loop-at.more (AreClosed c.args.quads.now c.args.register c.loop-at.marks)
    (λ none. closed_at_first c.args.quads.now c.args.register c.loop-at.marks c.loop-at.at (omega (arith, c.loop-at-test.false)) (c.loop-at.invariant.closed none))
