-- The code of a statement keeps the block around it, where a `break` and a `continue` go to places with the same block around.
use Rattle.std.proofs.Common.{◌≡◌, ℕ, ◌+◌, true, false, Bool, Option, Some, None, List}
use Rattle.source_meaning.specs.declared.tree.Expr.{Expr}
use Rattle.source_meaning.specs.declared.tree.StmtKind.{StmtKind, Row_of-Stmt, end_of-Stmt, more_of-Stmt, Held-StmtKind-If-2, None', Some'}
use Rattle.source_meaning.specs.declared.tree.StmtKind.TheVariants as stmt
use Rattle.source_meaning.specs.declared.tree.Spot.{Spot}
use Rattle.source_meaning.specs.declared.tree.Spot.TheVariants as spot
use Rattle.source_meaning.specs.declared.tree.Program.{Program}
use Rattle.xmt_quads.specs.declared.code.Operand.TheVariants.{Reg}
use Rattle.xmt_quads.specs.declared.code.Quad.TheVariants as quad
use Rattle.quad_code.specs.Lined.{Prints, lined}
use Rattle.quad_code.specs.Rows.{row_of}
use Rattle.quad_code.specs.Expressions.{operand_of, held, access_of, access_of_slot, code_at}
use Rattle.quad_code.specs.Statements.{Counts, behind_all, in_spawn, option_operand, option_at, print_at, sum_at, statement_at, sequence_at, else_at}
use Rattle.quad_code.specs.Statements as statements
use Rattle.quad_code.specs.Known.{Serial, NamesKnown, SpotKnown, AllKnown, OptionKnown, declared, all_declared, StatementKnown, SequenceKnown, ElseKnown}
use Rattle.quad_code.specs.Whole.{HasFunction, MayCall}
use Rattle.quad_regions.proofs.Keeps.{Setting, region_of, Keeps, nothing, behind, last, choice_keeps, loop_keeps, do_keeps, spawn_keeps}
use Rattle.quad_regions.proofs.Expressions.{write_then, read_then, adding_keeps, arguments_keep, code_keeps, spot_keeps, values_keep}

-- Where a loop stands around, its `break` and its `continue` go to places with this block around.
pub record Leads (w : Setting) (s : Option ℕ) (loop : Bool) (leave again : ℕ) : Type 0 where
  pub leaves : loop ≡ true → w.around leave ≡ s
  pub begins : loop ≡ true → w.around again ≡ s

pub no_loop : (w : Setting) (s : Option ℕ) (leave again : ℕ) → Leads w s false leave again
no_loop w s leave again = record { leaves = λ e. cc; begins = λ e. cc }

in_loop : (w : Setting) (s : Option ℕ) (leave again : ℕ) → w.around leave ≡ s → w.around again ≡ s → Leads w s true leave again
in_loop w s leave again leaves begins = record { leaves = λ e. leaves; begins = λ e. begins }

-- In a function of this setting, with these variables.
module _ (w : Setting) (program : Program) (inner : (function : ℕ) → Bool) (callable : (f values : ℕ) → HasFunction program f values → inner f ≡ true → w.Callable f) (base_of size_of : (global : ℕ) → ℕ) (outer : (slot : ℕ) → Option ℕ) (globals variables : ℕ) where
  abbrev MayCallIn : (s : Option ℕ) → (function values : ℕ) → Type 0
  MayCallIn s = MayCall program inner (region_of w.inner s)

  expression_keeps : (s : Option ℕ) (k : ℕ → Bool) (at r : ℕ) (e : Expr) → NamesKnown globals (MayCallIn s) k e.kind → Keeps w s at (code_at base_of size_of outer at r e.at.line e.kind)
  expression_keeps s k at r e h = code_keeps w program inner callable base_of size_of outer s globals k at r e.at.line e.kind h

  option_keeps : (s : Option ℕ) (k : ℕ → Bool) (at : ℕ) (value : Option Expr) → OptionKnown globals (MayCallIn s) k value → Keeps w s at (option_at base_of size_of outer variables at value)
  option_keeps s k at None h = nothing
  option_keeps s k at (Some e) h = expression_keeps s k at variables e h

  print_keeps : (s : Option ℕ) (k : ℕ → Bool) (at line number : ℕ) (text : List ℕ) (values : List Expr) → AllKnown globals (MayCallIn s) k (row_of values) → region_of w.inner s ≡ Serial →
      Keeps w s at (print_at base_of size_of outer variables at line number text values)
  print_keeps s k at line number text values h serial =
      behind (values_keep w program inner callable base_of size_of outer s globals k at variables (row_of values) h)
      (behind (arguments_keep w program inner callable base_of size_of outer s _ line 0 variables (row_of values)) (last (record { quad = quad.Print number; line = line; note = Prints text }) tt serial))

  sum_keeps : (s : Option ℕ) (k : ℕ → Bool) (at line : ℕ) (v p : Spot) → SpotKnown globals (MayCallIn s) k p → Keeps w s at (sum_at base_of size_of outer variables at line v p)
  sum_keeps s k at line v p h =
      let old = variables + 1 + held p in
      let here = access_of base_of size_of outer variables v in
      read_then line variables here (
      behind (spot_keeps w program inner callable base_of size_of outer s globals k (at + 1) (variables + 1) line p h) (
      behind (adding_keeps line old (access_of base_of size_of outer (variables + 1) p) (Reg variables)) (write_then line here (Reg old) nothing)))

  mutual
    pub statement_keeps : (s : Option ℕ) (k : ℕ → Bool) (loop : Bool) (at leave again : ℕ) (n : Counts) (line : ℕ) (kind : StmtKind) → StatementKnown globals (MayCall program inner) variables outer k loop (region_of w.inner s) kind → Leads w s loop leave again →
        Keeps w s at (statement_at base_of size_of outer variables at leave again n line kind)
    statement_keeps s k loop at leave again n line stmt.Empty h leads = nothing
    statement_keeps s k loop at leave again n line (stmt.Value e) h leads = expression_keeps s k at variables e h
    statement_keeps s k loop at leave again n line (stmt.Declare slot value) h leads =
        behind (option_keeps s k at value h.1) (write_then line (access_of_slot slot (outer slot)) (option_operand variables 0 value) nothing)
    statement_keeps s k loop at leave again n line (stmt.Block' shape body) h leads = sequence_keeps s k loop at leave again n body h leads
    statement_keeps s k loop at leave again n line (stmt.If' test shape body other) h leads =
        behind (expression_keeps s k at variables test h.0) (choice_keeps line (quad.IfZero (operand_of variables test.kind)) (λ to. tt) (λ to there. there)
        (λ at. sequence_keeps s k loop at leave again n body h.1 leads) (λ at. else_keeps s k loop at leave again (behind_all n body) other h.2 leads))
    statement_keeps s k loop at leave again n line (stmt.While' test shape body) h leads =
        loop_keeps line (operand_of variables test.kind) (λ at. expression_keeps s k at variables test h.0)
        (λ at leave again leaves begins. sequence_keeps s k true at leave again n body h.1 (in_loop w s leave again leaves begins)) (λ at. nothing)
    statement_keeps s k loop at leave again n line (stmt.Do' shape body test) h leads =
        do_keeps line (operand_of variables test.kind) (λ at. expression_keeps s k at variables test h.0)
        (λ at leave again leaves begins. sequence_keeps s k true at leave again n body h.1 (in_loop w s leave again leaves begins))
    statement_keeps s k loop at leave again n line (stmt.For' first_shape first test third shape body) h leads =
        behind (sequence_keeps s k loop at leave again n first h.0 leads) (
        loop_keeps line (option_operand variables 1 test) (λ at. option_keeps s (all_declared variables k first) at test h.1)
        (λ at leave again leaves begins. sequence_keeps s (all_declared variables k first) true at leave again (behind_all n first) body h.3 (in_loop w s leave again leaves begins))
        (λ at. option_keeps s (all_declared variables k first) at third h.2))
    statement_keeps s k loop at leave again n line stmt.Break h leads = last (lined line (quad.Jump leave)) tt (leads.leaves h)
    statement_keeps s k loop at leave again n line stmt.Continue h leads = last (lined line (quad.Jump again)) tt (leads.begins h)
    statement_keeps s k loop at leave again n line (stmt.Return value) h leads =
        behind (option_keeps s k at value h.0) (last (lined line (quad.Return (option_operand variables 0 value))) tt h.1)
    statement_keeps s k loop at leave again n line (stmt.Spawn' low high shape body) h leads =
        behind (expression_keeps s k at variables low h.0) (behind (expression_keeps s k _ (variables + 1) high h.1) (
        spawn_keeps line n.spawned (operand_of variables low.kind) (operand_of (variables + 1) high.kind)
        (λ at. sequence_at base_of size_of outer variables at leave again (in_spawn n) body) h.4
        (sequence_keeps (Some _) k false _ leave again (in_spawn n) body h.3 (no_loop w (Some _) leave again))))
    statement_keeps s k loop at leave again n line (stmt.Ps v r) h leads = sum_keeps s k at line v (spot.Register r) h.1
    statement_keeps s k loop at leave again n line (stmt.Psm v p) h leads = sum_keeps s k at line v p h.1
    statement_keeps s k loop at leave again n line (stmt.Print text values) h leads = print_keeps s k at line n.printed text values h.0 h.3

    pub sequence_keeps : (s : Option ℕ) (k : ℕ → Bool) (loop : Bool) (at leave again : ℕ) (n : Counts) {m : _} (row : Row_of-Stmt m) → SequenceKnown globals (MayCall program inner) variables outer k loop (region_of w.inner s) row → Leads w s loop leave again →
        Keeps w s at (sequence_at base_of size_of outer variables at leave again n row)
    sequence_keeps s k loop at leave again n end_of-Stmt h leads = nothing
    sequence_keeps s k loop at leave again n (more_of-Stmt place kind rest) h leads =
        behind (statement_keeps s k loop at leave again n place.line kind h.0 leads) (sequence_keeps s (declared variables k kind) loop _ leave again (statements.behind n kind) rest h.1 leads)

    else_keeps : (s : Option ℕ) (k : ℕ → Bool) (loop : Bool) (at leave again : ℕ) (n : Counts) (other : Held-StmtKind-If-2) → ElseKnown globals (MayCall program inner) variables outer k loop (region_of w.inner s) other → Leads w s loop leave again →
        Keeps w s at (else_at base_of size_of outer variables at leave again n other)
    else_keeps s k loop at leave again n None' h leads = nothing
    else_keeps s k loop at leave again n (Some' shape body) h leads = sequence_keeps s k loop at leave again n body h leads
