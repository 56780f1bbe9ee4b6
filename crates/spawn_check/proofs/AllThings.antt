-- To go over a tree thing by thing is to go over the list of its things.
use Rattle.std.proofs.Common.{◌≡◌, refl, ◌∙◌, ap, sym, List, [], ◌∷◌, ◌++◌, Option, Some, None}
use Rattle.std.specs.List.{fold}
use Rattle.std.proofs.lemmas.List.Sums.{fold-append}
use Rattle.xmt_base.specs.declared.Place.{Place}
use Rattle.source_meaning.specs.declared.tree.Expr.{Expr}
use Rattle.source_meaning.specs.declared.tree.ExprKind.{ExprKind, Row_of-Expr, end_of-Expr, more_of-Expr}
use Rattle.source_meaning.specs.declared.tree.ExprKind.TheVariants as expr
use Rattle.source_meaning.specs.declared.tree.Spot.{Spot}
use Rattle.source_meaning.specs.declared.tree.Spot.TheVariants as spot
use Rattle.source_meaning.specs.declared.tree.Stmt.{Stmt}
use Rattle.source_meaning.specs.declared.tree.StmtKind.{StmtKind, Row_of-Stmt, end_of-Stmt, more_of-Stmt, Held-StmtKind-If-2, None', Some'}
use Rattle.source_meaning.specs.declared.tree.StmtKind.TheVariants as stmt
use Rattle.source_meaning.specs.declared.tree.Function.{Function}
use Rattle.spawn_check.specs.declared.refusal.SpawnRefusal.{SpawnRefusal}
use Rattle.spawn_check.specs.declared.things.Thing.TheVariants as thing
use Rattle.spawn_check.specs.declared.things.Around.{Around}
use Rattle.spawn_check.specs.Things.{Occurrence}
use Rattle.spawn_check.specs.declared.things.Marks.{Marks}
use Rattle.spawn_check.specs.Things.{serial, in_block, in_loop, occurrence, of_expression, of_spot, of_row, of_values, of_option, of_statement, of_body, of_other, of_statements, of_functions, single}
use Rattle.spawn_check.specs.First.{Change, unchanged, one_behind_other, by_thing, first_with}

module _ (marks : Marks) where
  abbrev Things : Type 0
  Things = List Occurrence

  abbrev behind : Things → Things → Things
  behind before rest = before ++ rest

  -- the change goes over these things
  abbrev GoesOver : Change → Things → Type 0
  GoesOver change things = (first : Option SpawnRefusal) → change first ≡ fold (first_with marks) first things

  none : GoesOver unchanged []
  none first = refl

  one : (o : Occurrence) → GoesOver (by_thing marks o) (single o)
  one o first = refl

  both : (f g : Change) (before rest : Things) → GoesOver f before → GoesOver g rest → GoesOver (one_behind_other f g) (before ++ rest)
  both f g before rest over over' first =
      over' (f first) ∙ ap (λ middle. fold (first_with marks) middle rest) (over first) ∙ sym (fold-append (first_with marks) first before rest)

  abbrev change_of_expression : Around → Place → ExprKind → Change
  change_of_expression = of_expression unchanged one_behind_other (by_thing marks)

  abbrev list_of_expression : Around → Place → ExprKind → Things
  list_of_expression = of_expression [] behind single

  abbrev change_of_spot : Around → Spot → Change
  change_of_spot = of_spot unchanged one_behind_other (by_thing marks)

  abbrev list_of_spot : Around → Spot → Things
  list_of_spot = of_spot [] behind single

  abbrev change_of_row : Around → {n : _} → Row_of-Expr n → Change
  change_of_row around row = of_row unchanged one_behind_other (by_thing marks) around row

  abbrev list_of_row : Around → {n : _} → Row_of-Expr n → Things
  list_of_row around row = of_row [] behind single around row

  mutual
    over_expression : (around : Around) (place : Place) (kind : ExprKind) → GoesOver (change_of_expression around place kind) (list_of_expression around place kind)
    over_expression around place (expr.Number n) = none
    over_expression around place expr.Dollar = one (occurrence thing.Dollar place around)
    over_expression around place (expr.Read p) = over_spot around p
    over_expression around place (expr.Assign' p shape e) = both (change_of_spot around p) (change_of_row around e) (list_of_spot around p) (list_of_row around e) (over_spot around p) (over_row around e)
    over_expression around place (expr.Update' op p shape e) = both (change_of_spot around p) (change_of_row around e) (list_of_spot around p) (list_of_row around e) (over_spot around p) (over_row around e)
    over_expression around place (expr.Step p up after) = over_spot around p
    over_expression around place (expr.Unary' op shape e) = over_row around e
    over_expression around place (expr.Binary' op left a right b) = both (change_of_row around a) (change_of_row around b) (list_of_row around a) (list_of_row around b) (over_row around a) (over_row around b)
    over_expression around place (expr.Both' left a right b) = both (change_of_row around a) (change_of_row around b) (list_of_row around a) (list_of_row around b) (over_row around a) (over_row around b)
    over_expression around place (expr.Either' left a right b) = both (change_of_row around a) (change_of_row around b) (list_of_row around a) (list_of_row around b) (over_row around a) (over_row around b)
    over_expression around place (expr.Choose' first choice left a right b) =
        both (change_of_row around choice) (one_behind_other (change_of_row around a) (change_of_row around b)) (list_of_row around choice) (list_of_row around a ++ list_of_row around b)
        (over_row around choice)
        (both (change_of_row around a) (change_of_row around b) (list_of_row around a) (list_of_row around b) (over_row around a) (over_row around b))
    over_expression around place (expr.Call' function shape values) =
        both (by_thing marks (occurrence (thing.Call function) place around)) (change_of_row around values) (single (occurrence (thing.Call function) place around)) (list_of_row around values)
        (one (occurrence (thing.Call function) place around)) (over_row around values)

    over_spot : (around : Around) (p : Spot) → GoesOver (change_of_spot around p) (list_of_spot around p)
    over_spot around (spot.Global g) = none
    over_spot around (spot.Element' g shape index) = over_row around index
    over_spot around (spot.Register r) = none
    over_spot around (spot.Local slot) = none

    over_row : (around : Around) → {n : _} → (row : Row_of-Expr n) → GoesOver (change_of_row around row) (list_of_row around row)
    over_row around end_of-Expr = none
    over_row around (more_of-Expr place kind rest) =
        both (change_of_expression around place kind) (change_of_row around rest) (list_of_expression around place kind) (list_of_row around rest) (over_expression around place kind) (over_row around rest)

  abbrev change_of_values : Around → List Expr → Change
  change_of_values = of_values unchanged one_behind_other (by_thing marks)

  abbrev list_of_values : Around → List Expr → Things
  list_of_values = of_values [] behind single

  over_values : (around : Around) (values : List Expr) → GoesOver (change_of_values around values) (list_of_values around values)
  over_values around [] = none
  over_values around (e ∷ rest) =
      both (change_of_expression around e.at e.kind) (change_of_values around rest) (list_of_expression around e.at e.kind) (list_of_values around rest) (over_expression around e.at e.kind) (over_values around rest)

  abbrev change_of_option : Around → Option Expr → Change
  change_of_option = of_option unchanged one_behind_other (by_thing marks)

  abbrev list_of_option : Around → Option Expr → Things
  list_of_option = of_option [] behind single

  over_option : (around : Around) (e : Option Expr) → GoesOver (change_of_option around e) (list_of_option around e)
  over_option around None = none
  over_option around (Some e) = over_expression around e.at e.kind

  abbrev change_of_statement : Around → Place → StmtKind → Change
  change_of_statement = of_statement unchanged one_behind_other (by_thing marks)

  abbrev list_of_statement : Around → Place → StmtKind → Things
  list_of_statement = of_statement [] behind single

  abbrev change_of_body : Around → {n : _} → Row_of-Stmt n → Change
  change_of_body around row = of_body unchanged one_behind_other (by_thing marks) around row

  abbrev list_of_body : Around → {n : _} → Row_of-Stmt n → Things
  list_of_body around row = of_body [] behind single around row

  abbrev change_of_other : Around → Held-StmtKind-If-2 → Change
  change_of_other = of_other unchanged one_behind_other (by_thing marks)

  abbrev list_of_other : Around → Held-StmtKind-If-2 → Things
  list_of_other = of_other [] behind single

  mutual
    over_statement : (around : Around) (place : Place) (kind : StmtKind) → GoesOver (change_of_statement around place kind) (list_of_statement around place kind)
    over_statement around place stmt.Empty = none
    over_statement around place (stmt.Value e) = over_expression around e.at e.kind
    over_statement around place (stmt.Declare slot value) = over_option around value
    over_statement around place (stmt.Block' shape body) = over_body around body
    over_statement around place (stmt.If' choice shape body other) =
        both (change_of_expression around choice.at choice.kind) (one_behind_other (change_of_body around body) (change_of_other around other))
        (list_of_expression around choice.at choice.kind) (list_of_body around body ++ list_of_other around other)
        (over_expression around choice.at choice.kind)
        (both (change_of_body around body) (change_of_other around other) (list_of_body around body) (list_of_other around other) (over_body around body) (over_other around other))
    over_statement around place (stmt.While' choice shape body) =
        both (change_of_expression around choice.at choice.kind) (change_of_body (in_loop around) body) (list_of_expression around choice.at choice.kind) (list_of_body (in_loop around) body)
        (over_expression around choice.at choice.kind) (over_body (in_loop around) body)
    over_statement around place (stmt.Do' shape body choice) =
        both (change_of_body (in_loop around) body) (change_of_expression around choice.at choice.kind) (list_of_body (in_loop around) body) (list_of_expression around choice.at choice.kind)
        (over_body (in_loop around) body) (over_expression around choice.at choice.kind)
    over_statement around place (stmt.For' first_shape start choice third shape body) =
        both (change_of_body around start) (one_behind_other (change_of_option around choice) (one_behind_other (change_of_option around third) (change_of_body (in_loop around) body)))
        (list_of_body around start) (list_of_option around choice ++ (list_of_option around third ++ list_of_body (in_loop around) body))
        (over_body around start)
        (both (change_of_option around choice) (one_behind_other (change_of_option around third) (change_of_body (in_loop around) body))
        (list_of_option around choice) (list_of_option around third ++ list_of_body (in_loop around) body)
        (over_option around choice)
        (both (change_of_option around third) (change_of_body (in_loop around) body) (list_of_option around third) (list_of_body (in_loop around) body)
        (over_option around third) (over_body (in_loop around) body)))
    over_statement around place stmt.Break = one (occurrence thing.Jump place around)
    over_statement around place stmt.Continue = one (occurrence thing.Jump place around)
    over_statement around place (stmt.Return value) =
        both (by_thing marks (occurrence thing.Return place around)) (change_of_option around value) (single (occurrence thing.Return place around)) (list_of_option around value)
        (one (occurrence thing.Return place around)) (over_option around value)
    over_statement around place (stmt.Spawn' low high shape block) =
        both (by_thing marks (occurrence thing.Spawn place around))
        (one_behind_other (change_of_expression around low.at low.kind) (one_behind_other (change_of_expression around high.at high.kind) (change_of_body in_block block)))
        (single (occurrence thing.Spawn place around))
        (list_of_expression around low.at low.kind ++ (list_of_expression around high.at high.kind ++ list_of_body in_block block))
        (one (occurrence thing.Spawn place around))
        (both (change_of_expression around low.at low.kind) (one_behind_other (change_of_expression around high.at high.kind) (change_of_body in_block block))
        (list_of_expression around low.at low.kind) (list_of_expression around high.at high.kind ++ list_of_body in_block block)
        (over_expression around low.at low.kind)
        (both (change_of_expression around high.at high.kind) (change_of_body in_block block) (list_of_expression around high.at high.kind) (list_of_body in_block block)
        (over_expression around high.at high.kind) (over_body in_block block)))
    over_statement around place (stmt.Ps v r) = over_spot around v
    over_statement around place (stmt.Psm v p) = both (change_of_spot around v) (change_of_spot around p) (list_of_spot around v) (list_of_spot around p) (over_spot around v) (over_spot around p)
    over_statement around place (stmt.Print text values) =
        both (by_thing marks (occurrence thing.Print place around)) (change_of_values around values) (single (occurrence thing.Print place around)) (list_of_values around values)
        (one (occurrence thing.Print place around)) (over_values around values)

    over_body : (around : Around) → {n : _} → (row : Row_of-Stmt n) → GoesOver (change_of_body around row) (list_of_body around row)
    over_body around end_of-Stmt = none
    over_body around (more_of-Stmt place kind rest) =
        both (change_of_statement around place kind) (change_of_body around rest) (list_of_statement around place kind) (list_of_body around rest) (over_statement around place kind) (over_body around rest)

    over_other : (around : Around) (other : Held-StmtKind-If-2) → GoesOver (change_of_other around other) (list_of_other around other)
    over_other around None' = none
    over_other around (Some' shape body) = over_body around body

  abbrev change_of_statements : Around → List Stmt → Change
  change_of_statements = of_statements unchanged one_behind_other (by_thing marks)

  abbrev list_of_statements : Around → List Stmt → Things
  list_of_statements = of_statements [] behind single

  over_statements : (around : Around) (body : List Stmt) → GoesOver (change_of_statements around body) (list_of_statements around body)
  over_statements around [] = none
  over_statements around (s ∷ rest) =
      both (change_of_statement around s.at s.kind) (change_of_statements around rest) (list_of_statement around s.at s.kind) (list_of_statements around rest) (over_statement around s.at s.kind) (over_statements around rest)

  pub over_functions : (functions : List Function) → GoesOver (of_functions unchanged one_behind_other (by_thing marks) functions) (of_functions [] behind single functions)
  over_functions [] = none
  over_functions (function ∷ rest) =
      both (change_of_statements serial function.body) (of_functions unchanged one_behind_other (by_thing marks) rest) (list_of_statements serial function.body) (of_functions [] behind single rest)
      (over_statements serial function.body) (over_functions rest)
