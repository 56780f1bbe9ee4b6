-- The worked log meets what the law asks, so the law gives it a schedule.
use Rattle.std.proofs.Common.{◌≡◌, refl, subst, ℕ, suc, zero, ◌<◌, ◌==◌, List, [], ◌∷◌, ◌++◌, Bool, true, false, Some, None, Option, inl, arith, slice_get, length}
use Rattle.xmt_base.specs.declared.values.TrapKind.{TrapKind}
use Rattle.source_meaning.specs.declared.tree.Function.{Function}
use Rattle.source_meaning.specs.declared.tree.Stmt.{Stmt}
use Rattle.source_meaning.specs.declared.tree.StmtKind.TheVariants as stmt
use Rattle.source_meaning.specs.declared.tree.StmtKind.TheBlock.{hidden-the_row-Stmt-0}
use Rattle.source_meaning.specs.declared.tree.Spot.TheVariants as spot
use Rattle.source_meaning.specs.Variables.{is_shared}
use Rattle.source_log.specs.Checked.{any_declares}
use Rattle.std.specs.Prelude.{codes}
use Rattle.source_meaning.specs.Run.{start, after}
use Rattle.source_meaning.specs.Trace.{traces_in}
use Rattle.std.specs.Fmt.{digits}
use Rattle.source_meaning.specs.Opened.{opened}
use Rattle.source_meaning.proofs.Written.{s, number}
use Rattle.interleaving.specs.Actors.{part_of}
use Rattle.interleaving.specs.Starts.{start_of}
use Rattle.interleaving.specs.Parts.{actions_of, replies_of}
use Rattle.source_log.specs.Checked.{ListBlocksAre, IsPlainBlock, IsPlain}
use Rattle.source_log.specs.FromLog.{DoTheirParts, IsScheduleOf}
use Rattle.source_log.proofs.FromLog.{each_log_has_a_schedule}
use Rattle.source_log.proofs.RowLog.{main, program, log, entry, lawful, two_others}

block : List Stmt
block = s (stmt.Declare 0 (Some (number 1))) ∷ s (stmt.Ps (spot.Local 0) 0) ∷ []

none : ℕ → Bool
none f = false

no_trap : ℕ → Option (TrapKind × ℕ)
no_trap t = None

five : ℕ → ℕ
five t = 5

no_other : (slot : ℕ) → any_declares slot (hidden-the_row-Stmt-0 block) ≡ true → is_shared main.body slot ≡ false
unfolding main program opened digits block
no_other zero h = refl
no_other (suc slot) h = let never : (suc slot == 0) ≡ false = grind arith in rw never refl

blocks : (f : ℕ) (function : Function) → slice_get program.functions f ≡ Some function → ListBlocksAre (IsPlainBlock (λ f. none f ≡ true) function.body) function.body
unfolding main program opened digits none block
blocks zero function there =
    let same : main ≡ function = cc in
    subst (λ x. ListBlocksAre (IsPlainBlock (λ f. none f ≡ true) x.body) x.body) same (((tt, (tt, tt)), (λ f h. h), no_other), (tt, tt))
blocks (suc f) function there = cc

plain : IsPlain program (λ f. none f ≡ true)
unfolding none
plain = record { blocks = blocks; called = λ f function there may. cc }

parts : DoTheirParts program [] log no_trap five
unfolding main program log entry opened digits no_trap five
parts = record { lawful = lawful; traces = traces; waits = inl (two_others _ _ refl refl refl) }
  where
    traces : (t : ℕ) → t < 3 → traces_in program t (start_of log t) (replies_of (part_of t log)) (actions_of (part_of t log) ++ []) 5
    traces zero less = (_, _, refl, inl refl)
    traces (suc zero) less = (0, [], _, _, refl, refl, (0, omega arith, refl), refl, (_, _, refl, inl refl))
    traces (suc (suc zero)) less = (0, [], _, _, refl, refl, (1, omega arith, refl), refl, (_, _, refl, inl refl))
    traces (suc (suc (suc t))) less = absurd (grind (arith, less))

found : (schedule : List ℕ) × IsScheduleOf program [] log no_trap five schedule
found = each_log_has_a_schedule program none [] log no_trap five plain parts

-- the schedule has as many steps as the threads have by themselves, and prints what the log prints
long : length found.0 ≡ 15
unfolding main program log entry opened digits no_trap five
long = found.1.long

prints : (after program (start program []) found.0).output ≡ codes "2\n"
unfolding main program log entry opened digits
prints = found.1.output
