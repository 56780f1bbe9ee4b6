-- What the rules of spawn blocks speak of, and what stands around it.
use Rattle.std.specs.Prelude.{Bool, true, false, List, [], ◌∷◌, ◌++◌, Option, Some, None}
use Rattle.std.specs.List.{Contains}
use Rattle.xmt_base.specs.declared.Place.{Place}
use Rattle.source_meaning.specs.declared.tree.Expr.{Expr}
use Rattle.source_meaning.specs.declared.tree.ExprKind.{ExprKind, Row_of-Expr, end_of-Expr, more_of-Expr}
use Rattle.source_meaning.specs.declared.tree.ExprKind.TheVariants as expr
use Rattle.source_meaning.specs.declared.tree.Spot.{Spot}
use Rattle.source_meaning.specs.declared.tree.Spot.TheVariants as spot
use Rattle.source_meaning.specs.declared.tree.Stmt.{Stmt}
use Rattle.source_meaning.specs.declared.tree.StmtKind.{StmtKind, Row_of-Stmt, end_of-Stmt, more_of-Stmt, Held-StmtKind-If-2, None', Some'}
use Rattle.source_meaning.specs.declared.tree.StmtKind.TheVariants as stmt
use Rattle.source_meaning.specs.declared.tree.Function.{Function}
use Rattle.source_meaning.specs.declared.tree.Program.{Program}
use Rattle.spawn_check.specs.declared.things.Thing.{Thing}
use Rattle.spawn_check.specs.declared.things.Thing.TheVariants as thing
use Rattle.spawn_check.specs.declared.things.Around.{Around}

-- ---- what stands around a thing

-- the body of a function: no block and no loop
abbrev pub serial : Around
serial = record { inside = false; looped = false }

-- a spawn block, in which no loop from outside counts
abbrev pub in_block : Around
in_block = record { inside = true; looped = false }

-- the body of a loop
abbrev pub in_loop : Around → Around
in_loop around = record { inside = around.inside; looped = true }

-- a thing where it stands
pub record Occurrence : Type 0 where
  pub thing : Thing
  pub place : Place
  pub around : Around

abbrev pub occurrence : Thing → Place → Around → Occurrence
occurrence thing place around = record { thing = thing; place = place; around = around }

-- ---- all things, from left to right, each as `one` says, joined by `join`. The bounds of a spawn stand outside its block, and the first part of a
-- `for` outside its loop

module _ {M : Type 0} (none : M) (join : M → M → M) (one : Occurrence → M) where
  abbrev mutual
    pub of_expression : Around → Place → ExprKind → M
    of_expression around place expr.Dollar = one (occurrence thing.Dollar place around)
    of_expression around place (expr.Read p) = of_spot around p
    of_expression around place (expr.Assign' p shape e) = join (of_spot around p) (of_row around e)
    of_expression around place (expr.Update' op p shape e) = join (of_spot around p) (of_row around e)
    of_expression around place (expr.Step p up after) = of_spot around p
    of_expression around place (expr.Unary' op shape e) = of_row around e
    of_expression around place (expr.Binary' op left a right b) = join (of_row around a) (of_row around b)
    of_expression around place (expr.Both' left a right b) = join (of_row around a) (of_row around b)
    of_expression around place (expr.Either' left a right b) = join (of_row around a) (of_row around b)
    of_expression around place (expr.Choose' first choice left a right b) = join (of_row around choice) (join (of_row around a) (of_row around b))
    of_expression around place (expr.Call' function shape values) = join (one (occurrence (thing.Call function) place around)) (of_row around values)
    of_expression around place _ = none

    pub of_spot : Around → Spot → M
    of_spot around (spot.Element' g shape index) = of_row around index
    of_spot around _ = none

    pub of_row : Around → {n : _} → Row_of-Expr n → M
    of_row around end_of-Expr = none
    of_row around (more_of-Expr place kind rest) = join (of_expression around place kind) (of_row around rest)

  abbrev pub of_values : Around → List Expr → M
  of_values around [] = none
  of_values around (e ∷ rest) = join (of_expression around e.at e.kind) (of_values around rest)

  abbrev pub of_option : Around → Option Expr → M
  of_option around None = none
  of_option around (Some e) = of_expression around e.at e.kind

  abbrev mutual
    pub of_statement : Around → Place → StmtKind → M
    of_statement around place (stmt.Value e) = of_expression around e.at e.kind
    of_statement around place (stmt.Declare slot value) = of_option around value
    of_statement around place (stmt.Block' shape body) = of_body around body
    of_statement around place (stmt.If' choice shape body other) =
        join (of_expression around choice.at choice.kind) (join (of_body around body) (of_other around other))
    of_statement around place (stmt.While' choice shape body) = join (of_expression around choice.at choice.kind) (of_body (in_loop around) body)
    of_statement around place (stmt.Do' shape body choice) = join (of_body (in_loop around) body) (of_expression around choice.at choice.kind)
    of_statement around place (stmt.For' first_shape first choice third shape body) =
        join (of_body around first) (join (of_option around choice) (join (of_option around third) (of_body (in_loop around) body)))
    of_statement around place stmt.Break = one (occurrence thing.Jump place around)
    of_statement around place stmt.Continue = one (occurrence thing.Jump place around)
    of_statement around place (stmt.Return value) = join (one (occurrence thing.Return place around)) (of_option around value)
    of_statement around place (stmt.Spawn' low high shape block) =
        join (one (occurrence thing.Spawn place around))
        (join (of_expression around low.at low.kind) (join (of_expression around high.at high.kind) (of_body in_block block)))
    of_statement around place (stmt.Ps v r) = of_spot around v
    of_statement around place (stmt.Psm v p) = join (of_spot around v) (of_spot around p)
    of_statement around place (stmt.Print text values) = join (one (occurrence thing.Print place around)) (of_values around values)
    of_statement around place _ = none

    pub of_body : Around → {n : _} → Row_of-Stmt n → M
    of_body around end_of-Stmt = none
    of_body around (more_of-Stmt place kind rest) = join (of_statement around place kind) (of_body around rest)

    pub of_other : Around → Held-StmtKind-If-2 → M
    of_other around None' = none
    of_other around (Some' shape body) = of_body around body

  abbrev pub of_statements : Around → List Stmt → M
  of_statements around [] = none
  of_statements around (s ∷ rest) = join (of_statement around s.at s.kind) (of_statements around rest)

  abbrev pub of_functions : List Function → M
  of_functions [] = none
  of_functions (function ∷ rest) = join (of_statements serial function.body) (of_functions rest)

-- ---- the things of a program

abbrev pub single : Occurrence → List Occurrence
single o = o ∷ []

abbrev pub occurrences : Program → List Occurrence
occurrences program = of_functions [] (λ before behind. before ++ behind) single program.functions

-- the thing stands in the program at this place, inside a block or not, and with a loop around it, inside the same block or function, or not
pub record Stands (program : Program) (thing : Thing) (place : Place) (inside looped : Bool) : Type 0 where
  pub found : Contains (occurrences program) (occurrence thing place (record { inside = inside; looped = looped }))
