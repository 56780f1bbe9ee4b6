-- What is broken in the parts of statements, and what is in reach behind them.
use Rattle.std.specs.Prelude.{Bool, true, false, List, length, Option, Some, None}
use Rattle.raw_tree.specs.declared.tree.RawExpr.{RawExpr}
use Rattle.raw_tree.specs.declared.tree.RawFirst.{RawFirst}
use Rattle.raw_tree.specs.declared.tree.RawStmt.{RawStmt}
use Rattle.name_scopes.specs.declared.scope.Declared.{Declared}
use Rattle.name_scopes.specs.Fault.{Faults, none, both}
use Rattle.name_scopes.specs.Locals.{Env, left}
use Rattle.name_faults.specs.Expressions.{whole, whole_option}
use Rattle.name_faults.specs.Statements.{after, after_all, after_first, first_faults, statement_faults, statements_faults}

-- behind a statement, or statements, that are a scope of their own
abbrev pub behind : RawStmt → Env → Env
behind body env = left (length env.declared) (after body.kind env)

abbrev pub behind_all : List RawStmt → Env → Env
behind_all body env = left (length env.declared) (after_all body env)

abbrev pub after_other : Option RawStmt → Env → Env
after_other None env = env
after_other (Some body) env = behind body env

abbrev pub after_for : RawFirst → RawStmt → Env → Env
after_for begin body env = left (length env.declared) (behind body (after_first begin env))

-- the test and the third part of a loop
abbrev pub steps_faults : (test third : Option RawExpr) → List Declared → Faults
steps_faults test third ds = both (whole_option ds true test) (whole_option ds false third)

-- in a function whose calls have a value or have none
module _ (value : Bool) where
  abbrev pub inner_faults : RawStmt → Env → Faults
  inner_faults body env = statement_faults value (length env.declared) body.at body.kind env

  abbrev pub block_faults : List RawStmt → Env → Faults
  block_faults body env = statements_faults value (length env.declared) body env

  abbrev pub other_faults : Option RawStmt → Env → Faults
  other_faults None env = none
  other_faults (Some body) env = inner_faults body env

  abbrev pub while_faults : (test : RawExpr) → RawStmt → Env → Faults
  while_faults test body env = both (whole env.declared true test) (inner_faults body env)

  abbrev pub do_faults : RawStmt → (test : RawExpr) → Env → Faults
  do_faults body test env = both (inner_faults body env) (whole env.declared true test)

  abbrev pub for_faults : RawFirst → (test third : Option RawExpr) → RawStmt → Env → Faults
  for_faults begin test third body env =
      let inside = after_first begin env in
      both (first_faults (length env.declared) begin env) (both (steps_faults test third inside.declared) (inner_faults body inside))
