use Rattle.std.proofs.Common.{arith, ◌≡◌, ◌≤◌, length}
use Rattle.threaded_runs.proofs.Widths.{widens_first, widens_push, widens_end}
use Rattle.threaded_runs.proofs.words.widen.Goals as goal

pub loop-place-init : goal.loop-place-init
loop-place-init c = widens_first _ _ c.in_ok-wide.ensures.items

pub loop-place-preserved : goal.loop-place-preserved
loop-place-preserved c = widens_push _ _ _ c.loop-place.place c.word_at.result c.loop-place.invariant c.word_at.ensures c.in_ok-push.ensures.items

pub returns : goal.returns
returns c =
    let long : 4 ≤ c.len-place-end.result = omega (arith, c.len-place-end.ensures, c.requires.long) in
    let near : c.loop-place.place ≤ c.len-place-end.result = c.loop-place.auto.place-end long in
    let all : c.loop-place.place ≡ length c.args.words.now.items = omega (arith, near, c.loop-place-test.false, c.len-place-end.ensures) in
    widens_end _ _ c.loop-place.place c.loop-place.invariant all (λ i inside. c.type_inv.words i 0 inside)
