use Rattle.std.proofs.Common.{◌∙◌, ap, take, length}
use Rattle.name_scopes.specs.Locals.{Env}
use Rattle.name_faults.specs.Statements.{after_all}
use Rattle.name_faults.specs.Items.{declare_params}
use Rattle.name_faults.proofs.Kept.{kept_function}
use Rattle.name_faults.proofs.items.function_faults.Goals as goal

pub returns-clause-declared : goal.returns-clause-declared
returns-clause-declared c =
    let before : Env = record { declared = c.args.locals.now.scope.declared; variables = Rattle.std.specs.Prelude.[] } in
    let start = ap (λ vs. declare_params c.args.params.now (record { declared = c.args.locals.now.scope.declared; variables = vs })) c.new.ensures in
    ap (λ (e : Env). e.declared) c.in_ok-leave.ensures.env
    ∙ ap (λ n. take n c.statements.new.locals.scope.declared) c.len-start.ensures
    ∙ ap (λ (e : Env). take (length before.declared) e.declared) (c.in_ok-inside.ensures.env ∙ ap (after_all c.args.body.now) (c.in_ok-doubles.ensures.env ∙ start))
    ∙ kept_function c.args.params.now c.args.body.now before
