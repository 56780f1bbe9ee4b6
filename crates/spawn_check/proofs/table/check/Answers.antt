use Rattle.std.proofs.Common.{refl}
use Rattle.std.proofs.lemmas.Bool.{false≢true}
use Rattle.spawn_check.specs.declared.things.Marks.{Marks}
use Rattle.spawn_check.proofs.FirstMet.{none_met_by, first_met_by}
use Rattle.spawn_check.proofs.table.check.Goals as goal

pub returns-in-None-clause-accepted : goal.returns-in-None-clause-accepted
returns-in-None-clause-accepted c =
    let marks : Marks = record { prints = c.marks_of.result; spawns = c.marks_of-2.result } in
    let none = none_met_by marks c.args.program.now c.as_slice-functions.result.now c.as_slice-functions.ensures c.marks_of.ensures c.marks_of-2.ensures c.in-None.ensures in
    (λ accepted. none, λ accepted. refl)

pub returns-in-Some-clause-accepted : goal.returns-in-Some-clause-accepted
returns-in-Some-clause-accepted c =
    let marks : Marks = record { prints = c.marks_of.result; spawns = c.marks_of-2.result } in
    let refusal = c.in-Some.refusal in
    let first = first_met_by marks c.args.program.now c.as_slice-functions.result.now c.as_slice-functions.ensures c.marks_of.ensures c.marks_of-2.ensures refusal c.in-Some.ensures in
    (λ never. absurd (false≢true never), λ none. absurd (none refusal.kind refusal.place first.met))

pub returns-in-Some-clause-refused : goal.returns-in-Some-clause-refused
returns-in-Some-clause-refused c =
    let marks : Marks = record { prints = c.marks_of.result; spawns = c.marks_of-2.result } in
    first_met_by marks c.args.program.now c.as_slice-functions.result.now c.as_slice-functions.ensures c.marks_of.ensures c.marks_of-2.ensures c.in-Some.refusal c.in-Some.ensures
