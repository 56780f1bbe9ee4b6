use Rattle.std.proofs.Common.{◌≡◌, ◌∙◌, ap, subst, slice_index_or, arith}
use Rattle.shared_words.specs.declared.log.History.{History}
use Rattle.shared_words.specs.declared.log.Known.{Known}
use Rattle.spawn_join.specs.Worked.{IsGiven, opening}
use Rattle.spawn_join.proofs.Worked.{ready_given, pass_ran, ran_at_once, have_finished}
use Rattle.spawn_join.proofs.at_once.run_at_once.Goals as goal

pub work_at_once-requires-clause-ready : goal.work_at_once-requires-clause-ready
work_at_once-requires-clause-ready g c κs within = λ k d below.
    ready_given c.args.image.now c.args.start.now c.args.budget c.in-Ok.words c.in-Ok.pass.known.seen (slice_index_or c.args.workers.now k d) (slice_index_or c.give_passes.new.workers k d)
    (c.requires.due k d (omega (arith, below, c.give_passes.auto.workers))) (c.give_passes.ensures.given k d (omega (arith, below, c.give_passes.auto.workers)))

pub take_passes-requires-clause-worked : goal.take_passes-requires-clause-worked
take_passes-requires-clause-worked g c = λ k d below.
    pass_ran c.args.image.now c.args.start.now c.args.budget c.in-Ok.words c.in-Ok.pass.known.seen (slice_index_or c.args.workers.now k d) (slice_index_or c.give_passes.new.workers k d) (slice_index_or c.work_at_once.new.workers k d)
    (c.give_passes.ensures.given k d (omega (arith, below, c.give_passes.auto.workers, c.work_at_once.auto.workers))) (c.work_at_once.ensures k d (omega (arith, below, c.work_at_once.auto.workers)))

pub returns-in-Ok-clause-run : goal.returns-in-Ok-clause-run
returns-in-Ok-clause-run g c =
    let known : c.in-Ok.pass.known ≡ opening c.args.words.items = c.in-Ok.ensures.known in
    let seen : c.in-Ok.pass.known.seen ≡ (opening c.args.words.items).seen = ap (λ (k : Known). k.seen) known in
    ran_at_once c.args.image.now c.args.start.now c.args.budget c.in-Ok.words c.args.words.items c.args.workers.now c.give_passes.new.workers c.work_at_once.new.workers c.take_passes.new.workers
    c.give_passes.auto.workers c.work_at_once.auto.workers c.take_passes.auto.workers
    (λ i d below. subst (λ (h : History). IsGiven c.in-Ok.words h (slice_index_or c.args.workers.now i d) (slice_index_or c.give_passes.new.workers i d)) seen (c.give_passes.ensures.given i d below))
    c.work_at_once.ensures c.take_passes.ensures.taken
    c.give_passes.new.pass.known c.take_passes.new.pass.known c.close.result.items
    (c.give_passes.ensures.left ∙ ap (λ (z : Known). record z { room = c.give_passes.new.pass.known.room }) known)
    (c.give_passes.ensures.room ∙ ap (λ (z : Known). z.room) known)
    c.requires.some c.take_passes.ensures.gathers c.close.ensures.words

pub returns-in-Ok-clause-finished : goal.returns-in-Ok-clause-finished
returns-in-Ok-clause-finished g c =
    let known : c.in-Ok.pass.known ≡ opening c.args.words.items = c.in-Ok.ensures.known in
    let seen : c.in-Ok.pass.known.seen ≡ (opening c.args.words.items).seen = ap (λ (k : Known). k.seen) known in
    have_finished c.args.image.now c.args.start.now c.args.budget c.in-Ok.words c.args.words.items c.args.workers.now c.give_passes.new.workers c.work_at_once.new.workers c.take_passes.new.workers
    c.give_passes.auto.workers c.work_at_once.auto.workers c.take_passes.auto.workers
    (λ i d below. subst (λ (h : History). IsGiven c.in-Ok.words h (slice_index_or c.args.workers.now i d) (slice_index_or c.give_passes.new.workers i d)) seen (c.give_passes.ensures.given i d below))
    c.work_at_once.ensures c.take_passes.ensures.taken
