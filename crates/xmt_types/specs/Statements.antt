-- What the parts of statements stand for, and what is in reach behind them.
use Rattle.std.specs.Prelude.{List, length, Option, Some, None}
use Rattle.xmt_base.specs.declared.values.Place.{Place}
use Rattle.raw_tree.specs.declared.tree.RawExpr.{RawExpr}
use Rattle.raw_tree.specs.declared.tree.RawName.{RawName}
use Rattle.raw_tree.specs.declared.tree.RawSpot.{RawSpot}
use Rattle.raw_tree.specs.declared.tree.RawFirst.{RawFirst}
use Rattle.raw_tree.specs.declared.tree.RawStmt.{RawStmt}
use Rattle.source_meaning.specs.declared.tree.Stmt.{Stmt}
use Rattle.source_meaning.specs.declared.tree.StmtKind.TheVariants as s
use Rattle.name_scopes.specs.declared.scope.Declared.{Declared}
use Rattle.name_scopes.specs.Locals.{Env, left}
use Rattle.name_faults.specs.Expressions.{meaning}
use Rattle.name_faults.specs.Statements.{after, after_all, after_first}
use Rattle.typed_programs.specs.Expressions.{variable, register_number, typed_spot, expression, option}
use Rattle.typed_programs.specs.Statements as spec
use Rattle.xmt_types.specs.declared.statements.ForHead.{ForHead}
use Rattle.xmt_types.specs.declared.statements.IfHead.{IfHead}
use Rattle.xmt_types.specs.declared.statements.LoopParts.{LoopParts}
use Rattle.xmt_types.specs.declared.statements.SpawnBounds.{SpawnBounds}

-- behind a statement, or statements, that are a scope of their own
abbrev pub behind : RawStmt → Env → Env
behind body env = left (length env.declared) (after body.kind env)

abbrev pub behind_all : List RawStmt → Env → Env
behind_all body env = left (length env.declared) (after_all body env)

abbrev pub typed : RawStmt → Env → Stmt
typed body env = spec.typed body.at body.kind env

-- the branch behind `else`, where there is one
abbrev pub after_other : Option RawStmt → Env → Env
after_other None env = env
after_other (Some body) env = behind body env

abbrev pub other_of : Option RawStmt → Env → Option Stmt
other_of None env = None
other_of (Some body) env = Some (typed body env)

abbrev pub if_head : RawExpr → RawStmt → Env → IfHead
if_head test body env = record { test = expression env.declared test; body = typed body env }

abbrev pub while_loop : Place → RawExpr → RawStmt → Env → Stmt
while_loop at test body env = spec.statement at (s.While (expression env.declared test) (typed body env))

abbrev pub do_loop : Place → RawStmt → RawExpr → Env → Stmt
do_loop at body test env = spec.statement at (s.Do (typed body env) (expression env.declared test))

abbrev pub steps : Option RawExpr → Option RawExpr → List Declared → LoopParts
steps test third ds = record { test = option ds test; third = option ds third }

abbrev pub for_head : RawFirst → Option RawExpr → Option RawExpr → Env → ForHead
for_head begin test third env =
    record {
      first = spec.first_of begin env;
      test = option (after_first begin env).declared test;
      third = option (after_first begin env).declared third;
    }

abbrev pub after_for : RawFirst → RawStmt → Env → Env
after_for begin body env = left (length env.declared) (behind body (after_first begin env))

abbrev pub looped : Place → ForHead → Stmt → Stmt
looped at head body = spec.statement at (s.For head.first head.test head.third body)

abbrev pub for_loop : Place → RawFirst → Option RawExpr → Option RawExpr → RawStmt → Env → Stmt
for_loop at begin test third body env = looped at (for_head begin test third env) (typed body (after_first begin env))

abbrev pub bounds : RawExpr → RawExpr → List Declared → SpawnBounds
bounds low high ds = record { low = expression ds low; high = expression ds high }

abbrev pub spawn_block : Place → RawExpr → RawExpr → List RawStmt → Env → Stmt
spawn_block at low high body env =
    spec.statement at (s.Spawn (expression env.declared low) (expression env.declared high) (spec.typed_all body env))

abbrev pub sum : Place → RawName → RawName → List Declared → Stmt
sum at name register ds = spec.statement at (s.Ps (variable (meaning ds name)) (register_number (meaning ds register)))

abbrev pub memory_sum : Place → RawName → RawSpot → List Declared → Stmt
memory_sum at name place ds = spec.statement at (s.Psm (variable (meaning ds name)) (typed_spot ds place))
