use Rattle.std.proofs.Common.{◌≡◌, ◌∙◌, refl, sym, ap, subst, arith, ◌≤◌, ◌∷◌, length, map, slice_get, slice_index, slice_index_or, List, vec_len}
use Rattle.xmt_isa.specs.Machine.{broadcast}
use Rattle.machine_turns.specs.declared.machine.Machine.{Machine}
use Rattle.machine_turns.specs.declared.seats.Seat.{Seat}
use Rattle.spawn_join.specs.declared.end.SectionEnd.{SectionEnd}
use Rattle.spawn_join.specs.declared.worker.Worker.{Worker}
use Rattle.spawn_join.specs.Ends.{SectionGives}
use Rattle.threaded_runs.specs.Sections.{GoesOn}
use Rattle.threaded_runs.specs.Units.{seat_again}
use Rattle.threaded_runs.specs.Words.{Widens}
use Rattle.threaded_runs.proofs.Spawned.{start_fits, workers_due}
use Rattle.threaded_runs.proofs.Joined.{joined}
use Rattle.threaded_runs.proofs.Inside.{trapped_inside, spent_inside}
use Rattle.threaded_runs.proofs.Handed.{taken_are, put_back, may_go_on, has_run, left_long}
use Rattle.threaded_runs.proofs.Places.{there_is}
use Rattle.threaded_runs.proofs.sections.run_section.Goals as goal

pub section-words-requires-clause-start : goal.section-words-requires-clause-start
section-words-requires-clause-start g c κs within =
    let first : c.index.result.now ≡ c.requires.kept.master = c.index.ensures ∙ ap (λ (xs : List Seat). slice_index_or xs 0 c.index.result.now) c.requires.kept.are in
    start_fits c.args.image.now c.args.budget c.args.machine.now c.args.ask c.requires.kept c.requires.serial c.requires.asks c.broadcast.new.start (c.in_ok-broadcast.ensures ∙ ap (λ (s : Seat). broadcast s.unit c.args.ask) first)

pub section-words-requires-clause-due : goal.section-words-requires-clause-due
section-words-requires-clause-due g c κs within =
    let same = c.deref_mut.ensures.value ∙ taken_are c.args.image.now c.args.budget c.args.machine.now c.args.ask c.requires.kept c.requires.serial c.requires.asks c.in_ok-workers.workers.items c.in_ok-workers.ensures.taken in
    λ k d inside.
    workers_due c.args.image.now c.args.budget c.args.machine.now c.args.ask c.requires.kept c.requires.serial c.requires.asks c.broadcast.new.start k (slice_index_or c.deref_mut.result.now k d)
    (ap (λ (xs : List Worker). slice_get xs k) (sym same) ∙ there_is c.deref_mut.result.now k d inside)

pub go_on-requires-clause-size : goal.go_on-requires-clause-size
go_on-requires-clause-size g c =
    let gives : SectionGives c.args.image.now c.broadcast.new.start c.args.budget c.in_ok-words.words.items c.deref_mut.result.now c.section-words.new.workers c.section-words.result.0.items c.section-words.result.1 = c.section-words.ensures in
    let all = subst (λ (e : SectionEnd). SectionGives c.args.image.now c.broadcast.new.start c.args.budget c.in_ok-words.words.items c.deref_mut.result.now c.section-words.new.workers c.section-words.result.0.items e) c.in-All.is gives in
    let widens : Widens c.args.machine.now.words.items c.in_ok-words.words.items = c.in_ok-words.ensures in
    let size : length c.section-words.result.0.items ≡ length c.args.machine.now.words.items = left_long c.args.image.now c.broadcast.new.start c.in_ok-words.words.items c.deref_mut.result.now c.section-words.new.workers c.section-words.result.0.items all.0 ∙ widens.size in
    omega (arith, size)

pub go_on-requires-clause-may : goal.go_on-requires-clause-may
go_on-requires-clause-may g c =
    let size : length c.section-words.new.workers ≡ length c.deref_mut.result.now = c.section-words.auto.workers in
    let lent : c.deref_mut.result.now ≡ c.in_ok-workers.workers.items = c.deref_mut.ensures.value in
    let whole : length c.deref_mut.result.now ≡ vec_len c.in_ok-workers.workers = c.deref_mut.ensures.len in
    let same_size : length c.deref_mut.result.now ≡ length c.in_ok-workers.workers.items = ap length lent in
    let put : c.put_units.new.seats.items ≡ c.requires.kept.master ∷ map seat_again c.section-words.new.workers =
    put_back c.args.machine.now.seats.items c.put_units.new.seats.items c.take_units.new.seats.items c.requires.kept.master c.requires.kept.others c.section-words.new.workers c.in_ok-workers.workers.items c.in_ok-workers.workers.len
    c.requires.kept.are c.in_ok-workers.ensures.left (omega (arith, whole, same_size)) (omega (arith, size, same_size)) c.in_ok-put_units.ensures in
    may_go_on c.args.image.now c.args.budget c.args.machine.now c.args.ask c.requires.kept c.requires.serial c.requires.asks c.broadcast.new.start c.put_units.new.seats.items c.section-words.new.workers put

pub returns-in-All-clause-section : goal.returns-in-All-clause-section
returns-in-All-clause-section g c =
    let first : c.index.result.now ≡ c.requires.kept.master = c.index.ensures ∙ ap (λ (xs : List Seat). slice_index_or xs 0 c.index.result.now) c.requires.kept.are in
    let is_start : c.broadcast.new.start ≡ broadcast c.requires.kept.master.unit c.args.ask = c.in_ok-broadcast.ensures ∙ ap (λ (s : Seat). broadcast s.unit c.args.ask) first in
    let gives : SectionGives c.args.image.now c.broadcast.new.start c.args.budget c.in_ok-words.words.items c.deref_mut.result.now c.section-words.new.workers c.section-words.result.0.items c.section-words.result.1 = c.section-words.ensures in
    let all = subst (λ (e : SectionEnd). SectionGives c.args.image.now c.broadcast.new.start c.args.budget c.in_ok-words.words.items c.deref_mut.result.now c.section-words.new.workers c.section-words.result.0.items e) c.in-All.is gives in
    let widens : Widens c.args.machine.now.words.items c.in_ok-words.words.items = c.in_ok-words.ensures in
    let left_size : length c.section-words.result.0.items ≡ length c.args.machine.now.words.items = left_long c.args.image.now c.broadcast.new.start c.in_ok-words.words.items c.deref_mut.result.now c.section-words.new.workers c.section-words.result.0.items all.0 ∙ widens.size in
    let size : length c.section-words.new.workers ≡ length c.deref_mut.result.now = c.section-words.auto.workers in
    let lent : c.deref_mut.result.now ≡ c.in_ok-workers.workers.items = c.deref_mut.ensures.value in
    let whole : length c.deref_mut.result.now ≡ vec_len c.in_ok-workers.workers = c.deref_mut.ensures.len in
    let same_size : length c.deref_mut.result.now ≡ length c.in_ok-workers.workers.items = ap length lent in
    let put : c.put_units.new.seats.items ≡ c.requires.kept.master ∷ map seat_again c.section-words.new.workers =
    put_back c.args.machine.now.seats.items c.put_units.new.seats.items c.take_units.new.seats.items c.requires.kept.master c.requires.kept.others c.section-words.new.workers c.in_ok-workers.workers.items c.in_ok-workers.workers.len
    c.requires.kept.are c.in_ok-workers.ensures.left (omega (arith, whole, same_size)) (omega (arith, size, same_size)) c.in_ok-put_units.ensures in
    let mid : Machine = record { seats = c.put_units.new.seats; words = c.args.machine.now.words; drawn = c.args.machine.now.drawn; start = c.broadcast.new.start; spawned = c.args.machine.now.spawned } in
    let goes : GoesOn c.args.image.now c.args.budget mid c.section-words.result.0.items c.go_on.new.machine = c.go_on.ensures.goes in
    let drawn : c.drawn_of-drawn.result ≡ slice_index c.section-words.result.0.items 1 = c.drawn_of-drawn.ensures in
    let long : 4 ≤ length c.args.machine.now.words.items = omega (arith, c.requires.long) in
    let few : length c.args.machine.now.seats.items ≤ 65 = omega (arith, c.requires.few) in
    let run = has_run c.args.image.now c.args.budget c.args.machine.now c.args.ask c.requires.kept c.requires.serial c.requires.asks c.broadcast.new.start c.in_ok-words.words.items c.deref_mut.result.now c.section-words.new.workers
    c.section-words.result.0.items c.requires.numbered few is_start widens long c.ranges.budget.fits (lent ∙ c.in_ok-workers.ensures.taken) size (omega (arith, drawn, c.drawn_of-drawn.type_inv)) all.0 all.1 in
    joined c.args.image.now c.args.budget c.args.machine.now c.args.ask c.requires.kept c.requires.serial c.requires.asks c.broadcast.new.start c.in_ok-words.words.items c.section-words.new.workers c.section-words.result.0.items
    run all.2 mid c.go_on.new.machine put refl refl left_size goes

pub returns-in-Trap-clause-section : goal.returns-in-Trap-clause-section
returns-in-Trap-clause-section g c =
    let first : c.index.result.now ≡ c.requires.kept.master = c.index.ensures ∙ ap (λ (xs : List Seat). slice_index_or xs 0 c.index.result.now) c.requires.kept.are in
    let is_start : c.broadcast.new.start ≡ broadcast c.requires.kept.master.unit c.args.ask = c.in_ok-broadcast.ensures ∙ ap (λ (s : Seat). broadcast s.unit c.args.ask) first in
    let gives : SectionGives c.args.image.now c.broadcast.new.start c.args.budget c.in_ok-words.words.items c.deref_mut.result.now c.section-words.new.workers c.section-words.result.0.items c.section-words.result.1 = c.section-words.ensures in
    let all = subst (λ (e : SectionEnd). SectionGives c.args.image.now c.broadcast.new.start c.args.budget c.in_ok-words.words.items c.deref_mut.result.now c.section-words.new.workers c.section-words.result.0.items e) c.in-Trap.is gives in
    let widens : Widens c.args.machine.now.words.items c.in_ok-words.words.items = c.in_ok-words.ensures in
    let size : length c.section-words.new.workers ≡ length c.deref_mut.result.now = c.section-words.auto.workers in
    let lent : c.deref_mut.result.now ≡ c.in_ok-workers.workers.items = c.deref_mut.ensures.value in
    let same_size : length c.deref_mut.result.now ≡ length c.in_ok-workers.workers.items = ap length lent in
    let drawn : c.drawn_of-drawn.result ≡ slice_index c.section-words.result.0.items 1 = c.drawn_of-drawn.ensures in
    let long : 4 ≤ length c.args.machine.now.words.items = omega (arith, c.requires.long) in
    let few : length c.args.machine.now.seats.items ≤ 65 = omega (arith, c.requires.few) in
    let run = has_run c.args.image.now c.args.budget c.args.machine.now c.args.ask c.requires.kept c.requires.serial c.requires.asks c.broadcast.new.start c.in_ok-words.words.items c.deref_mut.result.now c.section-words.new.workers
    c.section-words.result.0.items c.requires.numbered few is_start widens long c.ranges.budget.fits (lent ∙ c.in_ok-workers.ensures.taken) size (omega (arith, drawn, c.drawn_of-drawn.type_inv)) all.0 all.1 in
    trapped_inside c.args.image.now c.args.budget c.args.machine.now c.args.ask c.requires.kept c.requires.serial c.requires.asks c.broadcast.new.start c.in_ok-words.words.items c.section-words.new.workers c.section-words.result.0.items
    run c.in-Trap.field-0 c.in-Trap.trap all.2

pub returns-in-Spent-clause-section : goal.returns-in-Spent-clause-section
returns-in-Spent-clause-section g c =
    let first : c.index.result.now ≡ c.requires.kept.master = c.index.ensures ∙ ap (λ (xs : List Seat). slice_index_or xs 0 c.index.result.now) c.requires.kept.are in
    let is_start : c.broadcast.new.start ≡ broadcast c.requires.kept.master.unit c.args.ask = c.in_ok-broadcast.ensures ∙ ap (λ (s : Seat). broadcast s.unit c.args.ask) first in
    let gives : SectionGives c.args.image.now c.broadcast.new.start c.args.budget c.in_ok-words.words.items c.deref_mut.result.now c.section-words.new.workers c.section-words.result.0.items c.section-words.result.1 = c.section-words.ensures in
    let all = subst (λ (e : SectionEnd). SectionGives c.args.image.now c.broadcast.new.start c.args.budget c.in_ok-words.words.items c.deref_mut.result.now c.section-words.new.workers c.section-words.result.0.items e) c.in-Spent.is gives in
    let widens : Widens c.args.machine.now.words.items c.in_ok-words.words.items = c.in_ok-words.ensures in
    let size : length c.section-words.new.workers ≡ length c.deref_mut.result.now = c.section-words.auto.workers in
    let lent : c.deref_mut.result.now ≡ c.in_ok-workers.workers.items = c.deref_mut.ensures.value in
    let same_size : length c.deref_mut.result.now ≡ length c.in_ok-workers.workers.items = ap length lent in
    let drawn : c.drawn_of-drawn.result ≡ slice_index c.section-words.result.0.items 1 = c.drawn_of-drawn.ensures in
    let long : 4 ≤ length c.args.machine.now.words.items = omega (arith, c.requires.long) in
    let few : length c.args.machine.now.seats.items ≤ 65 = omega (arith, c.requires.few) in
    let run = has_run c.args.image.now c.args.budget c.args.machine.now c.args.ask c.requires.kept c.requires.serial c.requires.asks c.broadcast.new.start c.in_ok-words.words.items c.deref_mut.result.now c.section-words.new.workers
    c.section-words.result.0.items c.requires.numbered few is_start widens long c.ranges.budget.fits (lent ∙ c.in_ok-workers.ensures.taken) size (omega (arith, drawn, c.drawn_of-drawn.type_inv)) all.0 all.1 in
    spent_inside c.args.image.now c.args.budget c.args.machine.now c.args.ask c.requires.kept c.requires.serial c.requires.asks c.broadcast.new.start c.in_ok-words.words.items c.section-words.new.workers c.section-words.result.0.items
    run c.in-Spent.number all.2 all.3
