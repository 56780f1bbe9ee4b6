use Rattle.std.proofs.Common.{◌≡◌, ◌≤◌, ◌<◌, ◌+◌, ◌^◌, ℕ, max, List, drop, length, arith, ap, ◌∙◌}
use Rattle.xmt_base.specs.Counters.{capped}
use Rattle.raw_tree.specs.declared.tree.RawExpr.{RawExpr}
use Rattle.name_scopes.specs.Waiting as spec
use Rattle.name_scopes.proofs.Rows.{waiting_call, drop_all}
use Rattle.name_scopes.proofs.size.+waiting.Goals as goal

pub waiting-returns-in-Call : goal.waiting-returns-in-Call
waiting-returns-in-Call t c =
    let is = ap spec.waiting c.in-Call.is ∙ waiting_call c.in-Call.field-0 c.in-Call.values in
    let same = ap spec.waiting_of_values c.as_slice.ensures in
    omega (arith, is, same, c.max-in-Call.ensures, c.waiting_of_values.ensures)

ended : (most before index x : ℕ) (values : List RawExpr) → before ≤ most → most < 2 ^ 64 → length values ≤ index →
    capped (max most (before + spec.waiting_of_values (drop index values))) ≡ x → most ≡ x
ended most before index x values less fits long is =
    let none : spec.waiting_of_values (drop index values) ≡ 0 = ap spec.waiting_of_values (drop_all index values long) in
    omega (arith, none, is)

pub waiting_of_values-returns : goal.waiting_of_values-returns
waiting_of_values-returns t c =
    ended c.loop-e.most c.loop-e.before c.loop-e.e-index (capped (spec.waiting_of_values c.args.values.now)) c.args.values.now
    c.loop-e.invariant.before c.loop-e.invariant.fits c.loop-e-test.false c.loop-e.invariant.rest
