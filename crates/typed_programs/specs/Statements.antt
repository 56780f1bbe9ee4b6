-- The typed statements that raw ones stand for. A declaration of several names is a statement for each name, at that name.
use Rattle.std.specs.Prelude.{Bool, List, [], ◌∷◌, ◌++◌, length, Option, Some, None}
use Rattle.xmt_base.specs.declared.values.Place.{Place}
use Rattle.raw_tree.specs.declared.tree.RawExpr.{RawExpr}
use Rattle.raw_tree.specs.declared.tree.RawLocal.{RawLocal}
use Rattle.raw_tree.specs.declared.tree.RawDecl.{RawDecl}
use Rattle.raw_tree.specs.declared.tree.RawFirst.{RawFirst}
use Rattle.raw_tree.specs.declared.tree.RawFirst.TheVariants as begins
use Rattle.raw_tree.specs.declared.tree.RawStmt.{RawStmt}
use Rattle.raw_tree.specs.declared.tree.RawStmtKind.{RawStmtKind, Row_of-RawStmt, end_of-RawStmt, more_of-RawStmt, Held-RawStmtKind-If-2, None', Some'}
use Rattle.raw_tree.specs.declared.tree.RawStmtKind.TheVariants as raw
use Rattle.source_meaning.specs.declared.tree.Stmt.{Stmt}
use Rattle.source_meaning.specs.declared.tree.StmtKind.{StmtKind}
use Rattle.source_meaning.specs.declared.tree.StmtKind.TheVariants as s
use Rattle.name_scopes.specs.declared.scope.Declared.{Declared}
use Rattle.name_scopes.specs.Locals.{Env, declare_local, is_constant}
use Rattle.name_faults.specs.Expressions.{meaning}
use Rattle.name_faults.specs.Statements.{after, after_inner, after_first}
use Rattle.typed_programs.specs.Expressions.{number, variable, register_number, typed_spot, expression, expressions, option}

abbrev pub statement : Place → StmtKind → Stmt
statement at kind = record { at = at; kind = kind }

-- a variable takes the next number; its initial value doesn't know it yet
abbrev pub declare : RawLocal → Env → Stmt
declare l env = statement l.name.at (s.Declare (number (length env.variables)) (option env.declared l.value))

abbrev pub declares : (constant : Bool) → List RawLocal → Env → List Stmt
declares constant [] env = []
declares constant (l ∷ rest) env = declare l env ∷ declares constant rest (declare_local constant l.name env)

abbrev pub declares_of : RawDecl → Env → List Stmt
declares_of d env = declares (is_constant d.ty.qualifiers) d.locals env

abbrev pub first_value : List Declared → Option RawExpr → List Stmt
first_value ds None = []
first_value ds (Some a) = statement a.at (s.Value (expression ds a)) ∷ []

abbrev pub first_of : RawFirst → Env → List Stmt
first_of (begins.Decl d) env = declares_of d env
first_of (begins.Value v) env = first_value env.declared v

-- among other statements a declaration is one for each of its names, and any other statement is itself
abbrev pub among : RawStmtKind → Env → Stmt → List Stmt
among (raw.Decl d) env itself = declares_of d env
among _ env itself = itself ∷ []

abbrev mutual
  -- what a statement stands for where one statement is wanted: a declaration is a block of its own there
  pub typed : Place → RawStmtKind → Env → Stmt
  typed at (raw.Block' shape body) env = statement at (s.Block (typed_row body env))
  typed at (raw.Decl d) env = statement at (s.Block (declares_of d env))
  typed at raw.Empty env = statement at s.Empty
  typed at (raw.Value a) env = statement at (s.Value (expression env.declared a))
  typed at (raw.If' test shape body other) env =
      statement at (s.If (expression env.declared test) (typed_inner body env) (typed_held other (after_inner body env)))
  typed at (raw.While' test shape body) env = statement at (s.While (expression env.declared test) (typed_inner body env))
  typed at (raw.Do' shape body test) env = statement at (s.Do (typed_inner body env) (expression env.declared test))
  typed at (raw.For' begin test third shape body) env =
      statement at (s.For (first_of begin env) (option (after_first begin env).declared test) (option (after_first begin env).declared third) (typed_inner body (after_first begin env)))
  typed at raw.Break env = statement at s.Break
  typed at raw.Continue env = statement at s.Continue
  typed at (raw.Return v) env = statement at (s.Return (option env.declared v))
  typed at (raw.Spawn' low high shape body) env = statement at (s.Spawn (expression env.declared low) (expression env.declared high) (typed_row body env))
  typed at (raw.Ps v r) env = statement at (s.Ps (variable (meaning env.declared v)) (register_number (meaning env.declared r)))
  typed at (raw.Psm v p) env = statement at (s.Psm (variable (meaning env.declared v)) (typed_spot env.declared p))
  typed at (raw.Print text values) env = statement at (s.Print text.bytes (expressions env.declared values))

  pub typed_inner : {n : _} → Row_of-RawStmt n → Env → Stmt
  typed_inner end_of-RawStmt env = statement (record { line = 0; column = 0 }) s.Empty
  typed_inner (more_of-RawStmt at kind rest) env = typed at kind env

  pub typed_held : Held-RawStmtKind-If-2 → Env → Option Stmt
  typed_held None' env = None
  typed_held (Some' shape body) env = Some (typed_inner body env)

  -- statements one behind the other
  pub typed_row : {n : _} → Row_of-RawStmt n → Env → List Stmt
  typed_row end_of-RawStmt env = []
  typed_row (more_of-RawStmt at kind rest) env = among kind env (typed at kind env) ++ typed_row rest (after kind env)

-- what a statement stands for among others
abbrev pub pieces : Place → RawStmtKind → Env → List Stmt
pieces at kind env = among kind env (typed at kind env)

abbrev pub typed_all : List RawStmt → Env → List Stmt
typed_all [] env = []
typed_all (x ∷ rest) env = pieces x.at x.kind env ++ typed_all rest (after x.kind env)
