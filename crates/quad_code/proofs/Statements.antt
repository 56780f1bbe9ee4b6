-- The quads of every statement keep to the source, if those of expressions do.
use Rattle.std.proofs.Common.{◌≡◌, ℕ, ◌<◌, true, Option, Some, None}
use Rattle.std.specs.Prelude.{Bool}
use Rattle.source_meaning.specs.declared.tree.Expr.{Expr}
use Rattle.source_meaning.specs.declared.tree.ExprKind.{ExprKind, Row_of-Expr, end_of-Expr, more_of-Expr}
use Rattle.source_meaning.specs.declared.tree.Spot.{Spot}
use Rattle.source_meaning.specs.declared.tree.Spot.TheVariants as spot
use Rattle.source_meaning.specs.declared.tree.StmtKind.{StmtKind, Row_of-Stmt, end_of-Stmt, more_of-Stmt, Held-StmtKind-If-2, None', Some'}
use Rattle.source_meaning.specs.declared.tree.StmtKind.TheVariants as stmt
use Rattle.source_meaning.specs.Next.{Next}
use Rattle.quad_code.proofs.Setting.{Setting}
use Rattle.quad_code.proofs.Kept.{Kept, KeptBox, KeptSpot, empty_kept}
use Rattle.quad_code.proofs.Writes.{global_kept, register_kept, local_kept, element_kept}
use Rattle.quad_code.proofs.KeptCode.{knowing, after, after_all, KeptCode, KeptSequence, nothing_kept, more_kept}
use Rattle.quad_code.proofs.Plain.{KeptElse, KeptOption, empty_statement_kept, value_kept, block_kept, break_kept, continue_kept, return_kept, declare_kept, if_kept}
use Rattle.quad_code.specs.Rows.{row_of}
use Rattle.quad_code.proofs.Simulation.{AllKept}
use Rattle.quad_code.proofs.Sums.{ps_kept, psm_kept}
use Rattle.quad_code.proofs.Prints.{print_kept}
use Rattle.quad_code.proofs.Spawns.{spawn_kept}
use Rattle.quad_code.proofs.Loops.{while_kept, for_kept, do_kept}

-- Whatever variables are known, the quads of each expression keep to the source.
module _ (s : Setting) {U S : Type 0} (whole : U → Next U S) (kept : (known : ℕ → Bool) (knows : (x : ℕ) → known x ≡ true → x < s.variables) (line : ℕ) (k : ExprKind) → Kept (knowing s known knows) whole line k) where
  option_kept : (known : ℕ → Bool) (knows : (x : ℕ) → known x ≡ true → x < s.variables) (e : Option Expr) → KeptOption (knowing s known knows) whole e
  option_kept known knows None = tt
  option_kept known knows (Some e) = kept known knows e.at.line e.kind

  all_kept : {m : _} (row : Row_of-Expr m) (known : ℕ → Bool) (knows : (x : ℕ) → known x ≡ true → x < s.variables) → AllKept (knowing s known knows) whole row
  all_kept end_of-Expr known knows = tt
  all_kept (more_of-Expr place kind rest) known knows = (kept known knows place.line kind, all_kept rest known knows)

  box_kept : {m : _} (row : Row_of-Expr m) (known : ℕ → Bool) (knows : (x : ℕ) → known x ≡ true → x < s.variables) → KeptBox (knowing s known knows) whole row
  box_kept end_of-Expr known knows r c n credit at p from rich stands below fits go = empty_kept (knowing s known knows) whole r c n credit at p from rich stands below fits go
  box_kept (more_of-Expr place kind rest) known knows r c n credit at p from rich stands below fits go = kept known knows place.line kind r c n credit at p from rich stands below.0 fits go

  spot_kept : (known : ℕ → Bool) (knows : (x : ℕ) → known x ≡ true → x < s.variables) (line : ℕ) (p : Spot) → KeptSpot (knowing s known knows) whole line p
  spot_kept known knows line (spot.Global g) = global_kept (knowing s known knows) whole line g
  spot_kept known knows line (spot.Element' g shape index) = element_kept (knowing s known knows) whole line g shape index (box_kept index known knows)
  spot_kept known knows line (spot.Register x) = register_kept (knowing s known knows) whole line x
  spot_kept known knows line (spot.Local slot) = local_kept (knowing s known knows) whole line slot

  mutual
    pub statement_kept : (line : ℕ) (k : StmtKind) (known : ℕ → Bool) (knows : (x : ℕ) → known x ≡ true → x < s.variables) → KeptCode (knowing s known knows) whole line k
    statement_kept line stmt.Empty known knows = empty_statement_kept (knowing s known knows) whole line
    statement_kept line (stmt.Value e) known knows = value_kept (knowing s known knows) whole line e (kept known knows e.at.line e.kind)
    statement_kept line (stmt.Declare slot value) known knows = declare_kept (knowing s known knows) whole line slot value (option_kept known knows value)
    statement_kept line (stmt.Block' shape body) known knows = block_kept (knowing s known knows) whole line shape body (sequence_kept body known knows)
    statement_kept line (stmt.If' test shape body other) known knows = if_kept (knowing s known knows) whole line test shape body other (kept known knows test.at.line test.kind) (sequence_kept body known knows) (else_kept other known knows)
    statement_kept line (stmt.While' test shape body) known knows = while_kept (knowing s known knows) whole line test shape body (kept known knows test.at.line test.kind) (sequence_kept body known knows)
    statement_kept line (stmt.Do' shape body test) known knows = do_kept (knowing s known knows) whole line shape body test (sequence_kept body known knows) (kept known knows test.at.line test.kind)
    statement_kept line (stmt.For' first_shape first test third shape body) known knows =
        let t = after_all (knowing s known knows) first in
        for_kept (knowing s known knows) whole line first_shape first test third shape body (sequence_kept first known knows) (option_kept t.known t.known_low test) (option_kept t.known t.known_low third) (sequence_kept body t.known t.known_low)
    statement_kept line stmt.Break known knows = break_kept (knowing s known knows) whole line
    statement_kept line stmt.Continue known knows = continue_kept (knowing s known knows) whole line
    statement_kept line (stmt.Return value) known knows = return_kept (knowing s known knows) whole line value (option_kept known knows value)
    statement_kept line (stmt.Spawn' low high shape body) known knows = spawn_kept (knowing s known knows) whole line low high shape body (kept known knows low.at.line low.kind) (kept known knows high.at.line high.kind)
    statement_kept line (stmt.Ps v r) known knows = ps_kept (knowing s known knows) whole line v r
    statement_kept line (stmt.Psm v place) known knows = psm_kept (knowing s known knows) whole line v place (spot_kept known knows line place)
    statement_kept line (stmt.Print text values) known knows = print_kept (knowing s known knows) whole line text values (all_kept (row_of values) known knows)

    pub sequence_kept : {m : _} (row : Row_of-Stmt m) (known : ℕ → Bool) (knows : (x : ℕ) → known x ≡ true → x < s.variables) → KeptSequence (knowing s known knows) whole row
    sequence_kept end_of-Stmt known knows = λ c n credit l at leave again met loop p x rich spare stands below fits e leads. nothing_kept (knowing s known knows) whole c n credit l at leave again met loop p x rich spare stands below fits e leads
    sequence_kept (more_of-Stmt place kind rest) known knows =
        let t = after (knowing s known knows) kind in
        λ c n credit l at leave again met loop p x rich spare stands below fits e leads.
        more_kept (knowing s known knows) whole place kind rest (statement_kept place.line kind known knows) (sequence_kept rest t.known t.known_low) c n credit l at leave again met loop p x rich spare stands below fits e leads

    else_kept : (other : Held-StmtKind-If-2) (known : ℕ → Bool) (knows : (x : ℕ) → known x ≡ true → x < s.variables) → KeptElse (knowing s known knows) whole other
    else_kept None' known knows = tt
    else_kept (Some' shape body) known knows = sequence_kept body known knows
