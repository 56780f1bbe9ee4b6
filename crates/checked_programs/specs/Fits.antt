-- What is asked of the names in a function: each stands for a thing of its kind that is there, and each variable is known where it is used.
use Rattle.std.specs.Prelude.{◌≡◌, ℕ, suc, ◌<◌, ◌==◌, nat_lt, Bool, true, false, ◌||◌, List, [], ◌∷◌, length, Option, Some, None, slice_get}
use Rattle.xmt_base.specs.Format.{IsFormat, directives}
use Rattle.source_meaning.specs.declared.tree.Expr.{Expr}
use Rattle.source_meaning.specs.declared.tree.ExprKind.{ExprKind, Row_of-Expr, end_of-Expr, more_of-Expr}
use Rattle.source_meaning.specs.declared.tree.ExprKind.TheVariants as expr
use Rattle.source_meaning.specs.declared.tree.Spot.{Spot}
use Rattle.source_meaning.specs.declared.tree.Spot.TheVariants as spot
use Rattle.source_meaning.specs.declared.tree.Stmt.{Stmt}
use Rattle.source_meaning.specs.declared.tree.StmtKind.{StmtKind, Row_of-Stmt, end_of-Stmt, more_of-Stmt, Held-StmtKind-If-2, None', Some'}
use Rattle.source_meaning.specs.declared.tree.StmtKind.TheVariants as stmt
use Rattle.source_meaning.specs.declared.tree.GlobalVar.{GlobalVar}
use Rattle.source_meaning.specs.declared.tree.Function.{Function}
use Rattle.source_meaning.specs.declared.tree.Program.{Program}

-- the program has this global, which is an array or a scalar
pub record HasGlobal (program : Program) (array : Bool) (g : ℕ) : Type 0 where
  pub global : GlobalVar
  pub found : slice_get program.globals g ≡ Some global
  pub kind : global.array ≡ array

abbrev pub HasRegister : Program → (r : ℕ) → Type 0
HasRegister program r = r < length program.registers

-- the program has this function, which has so many parameters
pub record HasFunction (program : Program) (f params : ℕ) : Type 0 where
  pub function : Function
  pub found : slice_get program.functions f ≡ Some function
  pub counts : params ≡ function.params

-- which variables are known: the parameters, and those that are declared before in the same or an enclosing list of statements
abbrev pub Known : Type 0
Known = ℕ → Bool

-- a declaration makes its variable known behind it
abbrev pub behind : Known → StmtKind → Known
behind known (stmt.Declare slot value) = λ x. known x || (x == slot)
behind known _ = known

abbrev pub behind_row : Known → {n : _} → Row_of-Stmt n → Known
behind_row known end_of-Stmt = known
behind_row known (more_of-Stmt place kind rest) = behind_row (behind known kind) rest

abbrev pub behind_list : Known → List Stmt → Known
behind_list known [] = known
behind_list known (s ∷ rest) = behind_list (behind known s.kind) rest

abbrev pub row_length : {n : _} → Row_of-Expr n → ℕ
row_length end_of-Expr = 0
row_length (more_of-Expr place kind rest) = suc (row_length rest)

module _ (program : Program) where
  -- ---- expressions

  abbrev mutual
    -- each spot names what is there, and each call has one value for each parameter of its function
    pub ExpressionFits : Known → ExprKind → Type 0
    ExpressionFits known (expr.Read p) = SpotFits known p
    ExpressionFits known (expr.Assign' p shape e) = SpotFits known p × RowFits known e
    ExpressionFits known (expr.Update' op p shape e) = SpotFits known p × RowFits known e
    ExpressionFits known (expr.Step p up after) = SpotFits known p
    ExpressionFits known (expr.Unary' op shape e) = RowFits known e
    ExpressionFits known (expr.Binary' op left a right b) = RowFits known a × RowFits known b
    ExpressionFits known (expr.Both' left a right b) = RowFits known a × RowFits known b
    ExpressionFits known (expr.Either' left a right b) = RowFits known a × RowFits known b
    ExpressionFits known (expr.Choose' first test left a right b) = RowFits known test × RowFits known a × RowFits known b
    ExpressionFits known (expr.Call' function shape values) = HasFunction program function (row_length values) × RowFits known values
    ExpressionFits known _ = Unit {0}

    -- a global by itself is a scalar, one with an index an array, and a variable is known
    pub SpotFits : Known → Spot → Type 0
    SpotFits known (spot.Global g) = HasGlobal program false g
    SpotFits known (spot.Element' g shape index) = HasGlobal program true g × RowFits known index
    SpotFits known (spot.Register r) = HasRegister program r
    SpotFits known (spot.Local slot) = known slot ≡ true

    pub RowFits : Known → {n : _} → Row_of-Expr n → Type 0
    RowFits known end_of-Expr = Unit {0}
    RowFits known (more_of-Expr place kind rest) = ExpressionFits known kind × RowFits known rest

  abbrev pub OptionFits : Known → Option Expr → Type 0
  OptionFits known None = Unit {0}
  OptionFits known (Some e) = ExpressionFits known e.kind

  abbrev pub ValuesFit : Known → List Expr → Type 0
  ValuesFit known [] = Unit {0}
  ValuesFit known (e ∷ rest) = ExpressionFits known e.kind × ValuesFit known rest

  -- ---- prefix-sums

  -- the spot that `ps` or `psm` reads and writes: a scalar global or a known variable
  abbrev pub SummedFits : Known → Spot → Type 0
  SummedFits known (spot.Global g) = HasGlobal program false g
  SummedFits known (spot.Local slot) = known slot ≡ true
  SummedFits known _ = ⊥

  -- the place to which `psm` adds: no register
  abbrev pub PlaceFits : Known → Spot → Type 0
  PlaceFits known (spot.Register r) = ⊥
  PlaceFits known p = SpotFits known p

  -- ---- statements of a function with so many variables

  module _ (variables : ℕ) where
    abbrev mutual
      -- the names of each expression fit; a print has a text that can be printed, and one value for each number in it
      pub StatementFits : Known → StmtKind → Type 0
      StatementFits known stmt.Empty = Unit {0}
      StatementFits known (stmt.Value e) = ExpressionFits known e.kind
      StatementFits known (stmt.Declare slot value) = (slot < variables) × OptionFits known value
      StatementFits known (stmt.Block' shape body) = RowsFit known body
      StatementFits known (stmt.If' test shape body other) = ExpressionFits known test.kind × RowsFit known body × ElseFits known other
      StatementFits known (stmt.While' test shape body) = ExpressionFits known test.kind × RowsFit known body
      StatementFits known (stmt.Do' shape body test) = RowsFit known body × ExpressionFits known test.kind
      StatementFits known (stmt.For' first_shape first test third shape body) =
          RowsFit known first × OptionFits (behind_row known first) test × OptionFits (behind_row known first) third × RowsFit (behind_row known first) body
      StatementFits known stmt.Break = Unit {0}
      StatementFits known stmt.Continue = Unit {0}
      StatementFits known (stmt.Return value) = OptionFits known value
      StatementFits known (stmt.Spawn' low high shape block) = ExpressionFits known low.kind × ExpressionFits known high.kind × RowsFit known block
      StatementFits known (stmt.Ps v r) = SummedFits known v × HasRegister program r
      StatementFits known (stmt.Psm v p) = SummedFits known v × PlaceFits known p
      StatementFits known (stmt.Print text values) = IsFormat text × (directives false text ≡ length values) × ValuesFit known values

      pub RowsFit : Known → {n : _} → Row_of-Stmt n → Type 0
      RowsFit known end_of-Stmt = Unit {0}
      RowsFit known (more_of-Stmt place kind rest) = StatementFits known kind × RowsFit (behind known kind) rest

      pub ElseFits : Known → Held-StmtKind-If-2 → Type 0
      ElseFits known None' = Unit {0}
      ElseFits known (Some' shape body) = RowsFit known body

    abbrev pub ListFits : Known → List Stmt → Type 0
    ListFits known [] = Unit {0}
    ListFits known (s ∷ rest) = StatementFits known s.kind × ListFits (behind known s.kind) rest

  -- at its start a function knows its parameters
  abbrev pub BodyFits : Function → Type 0
  BodyFits function = ListFits function.variables (λ x. nat_lt x function.params) function.body
