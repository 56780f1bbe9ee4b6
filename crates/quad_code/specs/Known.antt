-- What is asked of the names in a function: each stands for something that is there, and each variable is declared before it is used.
use Rattle.std.specs.Prelude.{◌≡◌, ℕ, ◌<◌, ◌≤◌, ◌==◌, nat_lt, Bool, true, false, ◌&&◌, ◌||◌, length, Option, Some, None}
use Rattle.xmt_base.specs.Format.{directives}
use Rattle.source_meaning.specs.declared.tree.Expr.{Expr}
use Rattle.source_meaning.specs.declared.tree.ExprKind.{ExprKind, Row_of-Expr, end_of-Expr, more_of-Expr}
use Rattle.source_meaning.specs.declared.tree.ExprKind.TheVariants as expr
use Rattle.source_meaning.specs.declared.tree.Spot.{Spot}
use Rattle.source_meaning.specs.declared.tree.Spot.TheVariants as spot
use Rattle.source_meaning.specs.declared.tree.StmtKind.{StmtKind, Row_of-Stmt, end_of-Stmt, more_of-Stmt, Held-StmtKind-If-2, None', Some'}
use Rattle.source_meaning.specs.declared.tree.StmtKind.TheVariants as stmt
use Rattle.source_meaning.specs.Variables.{is_declared_in}
use Rattle.quad_code.specs.Rows.{row_of, row_length}

-- So many globals, and which functions may be called with so many values.
module _ (globals : ℕ) (MayCall : (function values : ℕ) → Type 0) where
  abbrev mutual
    -- each global and each register is there, each variable is a known one, and each call has the values that its function wants
    pub NamesKnown : (known : ℕ → Bool) → ExprKind → Type 0
    NamesKnown k (expr.Read p) = SpotKnown k p
    NamesKnown k (expr.Assign' p shape e) = SpotKnown k p × AllKnown k e
    NamesKnown k (expr.Update' op p shape e) = SpotKnown k p × AllKnown k e
    NamesKnown k (expr.Step p up after) = SpotKnown k p
    NamesKnown k (expr.Unary' op shape e) = AllKnown k e
    NamesKnown k (expr.Binary' op left a right b) = AllKnown k a × AllKnown k b
    NamesKnown k (expr.Both' left a right b) = AllKnown k a × AllKnown k b
    NamesKnown k (expr.Either' left a right b) = AllKnown k a × AllKnown k b
    NamesKnown k (expr.Choose' first test left a right b) = AllKnown k test × AllKnown k a × AllKnown k b
    NamesKnown k (expr.Call' function shape values) = MayCall function (row_length values) × AllKnown k values
    NamesKnown k _ = Unit {0}

    pub SpotKnown : (known : ℕ → Bool) → Spot → Type 0
    SpotKnown k (spot.Global x) = x < globals
    SpotKnown k (spot.Element' x shape index) = (x < globals) × AllKnown k index
    SpotKnown k (spot.Register x) = x < 8
    SpotKnown k (spot.Local slot) = k slot ≡ true

    pub AllKnown : (known : ℕ → Bool) → {n : _} → Row_of-Expr n → Type 0
    AllKnown k end_of-Expr = Unit {0}
    AllKnown k (more_of-Expr place kind rest) = NamesKnown k kind × AllKnown k rest

  abbrev pub OptionKnown : (known : ℕ → Bool) → Option Expr → Type 0
  OptionKnown k None = Unit {0}
  OptionKnown k (Some e) = NamesKnown k e.kind

-- the variable of a prefix-sum, which is a global or a known variable
abbrev pub SummedKnown : (globals : ℕ) → (known : ℕ → Bool) → Spot → Type 0
SummedKnown globals k (spot.Global x) = x < globals
SummedKnown globals k (spot.Local slot) = k slot ≡ true
SummedKnown globals k _ = ⊥

-- the variables that are known behind a statement, of so many: a declaration adds its own
abbrev pub declared : (variables : ℕ) → (known : ℕ → Bool) → StmtKind → (ℕ → Bool)
declared v k (stmt.Declare slot value) = λ x. k x || ((x == slot) && nat_lt x v)
declared v k _ = k

abbrev pub all_declared : (variables : ℕ) → (known : ℕ → Bool) → {n : _} → Row_of-Stmt n → (ℕ → Bool)
all_declared v k end_of-Stmt = k
all_declared v k (more_of-Stmt place kind rest) = all_declared v (declared v k kind) rest

-- A variable that a block declares is not known before, and no other block shares it.
abbrev pub OwnVariables : (outer : (slot : ℕ) → Option ℕ) (known : ℕ → Bool) → {n : _} → Row_of-Stmt n → Type 0
OwnVariables outer k block = (x : ℕ) → is_declared_in x block ≡ true → (k x ≡ false) × (outer x ≡ None)

-- where statements run
pub data Region : Type 0 where
  -- in serial code alone
  Serial : Region
  -- in a function that blocks may call
  Inner : Region
  -- in a block
  InBlock : Region

abbrev pub MayReturn : Region → Type 0
MayReturn InBlock = ⊥
MayReturn _ = Unit {0}

-- Of a function with so many variables, and the number of each that is shared.
module _ (globals : ℕ) (MayCall : Region → (function values : ℕ) → Type 0) (variables : ℕ) (outer : (slot : ℕ) → Option ℕ) where
  abbrev mutual
    -- Each name is known there. A `break` or a `continue` stands in a loop, a print has its values, and a return stands in no block, and prints and spawns in serial code alone.
    pub StatementKnown : (known : ℕ → Bool) → (loop : Bool) → Region → StmtKind → Type 0
    StatementKnown k loop region stmt.Empty = Unit {0}
    StatementKnown k loop region (stmt.Value e) = NamesKnown globals (MayCall region) k e.kind
    StatementKnown k loop region (stmt.Declare slot value) = (slot < variables) × OptionKnown globals (MayCall region) k value
    StatementKnown k loop region (stmt.Block' shape body) = SequenceKnown k loop region body
    StatementKnown k loop region (stmt.If' test shape body other) = NamesKnown globals (MayCall region) k test.kind × SequenceKnown k loop region body × ElseKnown k loop region other
    StatementKnown k loop region (stmt.While' test shape body) = NamesKnown globals (MayCall region) k test.kind × SequenceKnown k true region body
    StatementKnown k loop region (stmt.Do' shape body test) = NamesKnown globals (MayCall region) k test.kind × SequenceKnown k true region body
    StatementKnown k loop region (stmt.For' first_shape first test third shape body) =
        SequenceKnown k loop region first ×
        OptionKnown globals (MayCall region) (all_declared variables k first) test ×
        OptionKnown globals (MayCall region) (all_declared variables k first) third × SequenceKnown (all_declared variables k first) true region body
    StatementKnown k loop region stmt.Break = loop ≡ true
    StatementKnown k loop region stmt.Continue = loop ≡ true
    StatementKnown k loop region (stmt.Return value) = OptionKnown globals (MayCall region) k value × MayReturn region
    StatementKnown k loop region (stmt.Spawn' low high shape body) =
        NamesKnown globals (MayCall region) k low.kind × NamesKnown globals (MayCall region) k high.kind × OwnVariables outer k body × SequenceKnown k false InBlock body × (region ≡ Serial)
    StatementKnown k loop region (stmt.Print text values) =
        AllKnown globals (MayCall region) k (row_of values) × (directives false text ≡ length values) × (length values ≤ 16) × (region ≡ Serial)
    StatementKnown k loop region (stmt.Ps v r) = SummedKnown globals k v × (r < 8)
    StatementKnown k loop region (stmt.Psm v p) = SummedKnown globals k v × SpotKnown globals (MayCall region) k p

    pub SequenceKnown : (known : ℕ → Bool) → (loop : Bool) → Region → {n : _} → Row_of-Stmt n → Type 0
    SequenceKnown k loop region end_of-Stmt = Unit {0}
    SequenceKnown k loop region (more_of-Stmt place kind rest) = StatementKnown k loop region kind × SequenceKnown (declared variables k kind) loop region rest

    pub ElseKnown : (known : ℕ → Bool) → (loop : Bool) → Region → Held-StmtKind-If-2 → Type 0
    ElseKnown k loop region None' = Unit {0}
    ElseKnown k loop region (Some' shape body) = SequenceKnown k loop region body
