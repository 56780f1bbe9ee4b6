use Rattle.std.proofs.Common.{arith, drop, ◌≡◌, ◌∙◌, ◌^◌, ◌-◌, min, max, ℕ, ap, sym}
use Rattle.std.proofs.lemmas.List.{at_drop_all}
use Rattle.tree_measures.specs.Waiting.{waiting_in, waiting_behind_list}
use Rattle.tree_measures.proofs.Rows.{waiting_of_call}
use Rattle.tree_measures.proofs.waits.+waiting.Goals as goal

-- at least one, capped either before or after
capped : (n : ℕ) → max (min n (2 ^ 64 - 1)) 1 ≡ min (max 1 n) (2 ^ 64 - 1)
capped n = omega arith

pub waiting-returns-in-Call : goal.waiting-returns-in-Call
waiting-returns-in-Call t c =
    c.max-in-Call.ensures ∙ ap (λ n. max n 1) c.waiting_of_values.ensures ∙
    ap (λ values. max (min (waiting_behind_list 0 values) (2 ^ 64 - 1)) 1) c.as_slice.ensures ∙
    capped (waiting_behind_list 0 c.in-Call.values) ∙
    sym (ap (λ kind. min (waiting_in kind) (2 ^ 64 - 1)) c.in-Call.is ∙ ap (λ n. min n (2 ^ 64 - 1)) (waiting_of_call c.in-Call.field-0 c.in-Call.values))

pub waiting_of_values-returns : goal.waiting_of_values-returns
waiting_of_values-returns t c =
    let none : waiting_behind_list c.loop-value.value-index (drop c.loop-value.value-index c.args.values.now) ≡ 0 = at_drop_all (waiting_behind_list c.loop-value.value-index) c.args.values.now c.loop-value.value-index c.loop-value-test.false in
    omega (arith, none, c.loop-value.invariant.most, c.loop-value.invariant.range)
