-- `int d(int k) { if (k == 0) return 0; return 1 + d(k - 1); } main() { printf("%d\n", d(n)); }`: with 255 it calls down to depth 256 and prints 255, and with 256 it stands at the trap of the 257th call. Shown call by call, since so deep a run is too long to compute.
use Rattle.std.proofs.Common.{◌≡◌, refl, sym, ◌∙◌, ap, subst, arith, ℕ, suc, zero, ◌+◌, ◌*◌, ◌%◌, ◌^◌, ◌-◌, ◌<◌, ◌==◌, List, [], ◌∷◌, ◌++◌, true, false, Option, Some, None, is_some, replicate}
use Rattle.std.specs.Prelude.{codes, nat_lt}
use Rattle.xmt_base.specs.declared.operators.BinOp.TheVariants as op
use Rattle.xmt_base.specs.declared.values.TrapKind.TheVariants.{CallDepth}
use Rattle.source_meaning.specs.declared.tree.Program.{Program}
use Rattle.source_meaning.specs.declared.tree.Expr.{Expr}
use Rattle.source_meaning.specs.declared.tree.ExprKind.TheVariants as expr
use Rattle.source_meaning.specs.declared.tree.Spot.TheVariants as spot
use Rattle.source_meaning.specs.declared.tree.StmtKind.TheVariants as stmt
use Rattle.source_meaning.specs.Store.{Cell, Private, Store, store_with}
use Rattle.source_meaning.specs.Term.{Term, Value, Read, At, Binary, Call, Entered, End, More, Code, Done, Then, If, Set, Return, Print}
use Rattle.xmt_base.specs.Operators.{binary_value}
use Rattle.xmt_base.specs.Text.{piece}
use Rattle.std.specs.Fmt.{digits}
use Rattle.source_meaning.specs.Next.{Next, Is, Asks, Traps, Printing, Ending, Ends, Returns, next, next_within, next_after, quiet_step, operator_step, call_value}
use Rattle.source_meaning.specs.Code.{call_code}
use Rattle.source_meaning.specs.Run.{Configuration, next_of_rest, start, after, IsLegal, trap_in, trap_of}
use Rattle.source_meaning.specs.Trace.{Local}
use Rattle.source_meaning.proofs.Commute.{same_cell-refl}
use Rattle.source_meaning.proofs.Laws.{after-append, run_of_part}
use Rattle.source_meaning.proofs.Runs.{Runs, runs_on}
use Rattle.source_meaning.proofs.Unseen.{unseen_run}
use Rattle.source_meaning.proofs.Within.{all_surrounded, run_within}
use Rattle.source_meaning.specs.Opened.{opened}
use Rattle.source_meaning.proofs.Written.{e, s, number, read, binary, function}

k : Expr
k = read (spot.Local 0)

program : ℕ → Program
unfolding k
program n = record {
  globals = [];
  registers = [];
  functions =
      record {
        name = codes "d";
        value = true;
        params = 1;
        variables = 1;
        body =
            s (stmt.If (binary op.Eq k (number 0)) (s (stmt.Return (Some (number 0)))) None) ∷
            s (stmt.Return (Some (binary op.Add (number 1) (e (expr.Call 0 (binary op.Sub k (number 1) ∷ [])))))) ∷ [];
      } ∷
      function (codes "main") 0 (s (stmt.Print (codes "%d\n") (e (expr.Call 0 (number n ∷ [])) ∷ [])) ∷ [])
      ∷ [];
  main = 1;
}

-- ---- the code of a call of `d`

-- where `d` has its parameter
abbrev cell : (depth : ℕ) → Cell
cell depth = Private 0 depth 0

abbrev stop : Code
stop = Then (Return (Value 0)) Done

-- `return 1 + d(k - 1);`
abbrev again : (depth : ℕ) → Code
again depth = Then (Return (Binary 1 op.Add (Value 1) (Call 1 0 (More (Binary 1 op.Sub (Read (At (cell depth))) (Value 1)) End)))) Done

abbrev branch : (depth : ℕ) → Term → Code
branch depth test = Then (If test stop Done) (again depth)

abbrev entered : (depth v : ℕ) → Code
entered depth v = Then (Set (At (cell depth)) (Value v)) (branch depth (Binary 1 op.Eq (Read (At (cell depth))) (Value 0)))

body_is : (n depth v : ℕ) → call_code (program n) 0 0 depth (v ∷ []) ≡ entered depth v
unfolding opened digits program k
body_is n depth v = refl

-- a call with a value
abbrev call : (v : ℕ) → Term
call v = Call 1 0 (More (Value v) End)

-- what stands around the call inside `d`
abbrev around : Term → Term
around e = Entered (Then (Return (Binary 1 op.Add (Value 1) e)) Done)

abbrev at : Term → Store → Local Term
at code store = record { code = code; store = store; replies = [] }

kept : (store : Store) (x : Cell) (v : ℕ) → store_with store x v x ≡ v
kept store x v = rw (same_cell-refl x) refl

one_less : (m : ℕ) → m < 256 → (suc m + (2 ^ 32 - 1)) % 2 ^ 32 ≡ m
one_less m small = omega (arith, small)

one_more : (m : ℕ) → m < 256 → (1 + m) % 2 ^ 32 ≡ suc m
one_more m small = omega (arith, small)

-- ---- one call, in the serial code and at a depth, where this is the code of each call
module _ (code : (function depth : ℕ) → List ℕ → Code) (is_entered : (depth v : ℕ) → code 0 depth (v ∷ []) ≡ entered depth v) (depth : ℕ) where
  abbrev here : Local Term → (work : ℕ) → Local Term → Type 0
  here first work last = Runs (next 0 code depth) first [] work last

  on : (first mid last : Local Term) (i j : ℕ) → here first i mid → here mid j last → here first (i + j) last
  on first mid last i j begins goes = runs_on (next 0 code depth) first mid last [] [] i j begins goes

  enters : (v : ℕ) (store : Store) → nat_lt depth 256 ≡ true → here (at (call v) store) 1 (at (Entered (entered (suc depth) v)) store)
  enters v store deep = rw (deep, is_entered (suc depth) v) refl

  -- the call, the parameter and the read
  begins : (v : ℕ) (store : Store) → nat_lt depth 256 ≡ true →
      here (at (call v) store) 3 (at (Entered (branch (suc depth) (Binary 1 op.Eq (Value v) (Value 0)))) (store_with store (cell (suc depth)) v))
  begins v store deep =
      on (at (call v) store) (at (Entered (entered (suc depth) v)) store) (at (Entered (branch (suc depth) (Binary 1 op.Eq (Value v) (Value 0)))) (store_with store (cell (suc depth)) v)) 1 2
      (enters v store deep)
      (ap (λ x. Some ([], at (Entered (branch (suc depth) (Binary 1 op.Eq (Value x) (Value 0)))) (store_with store (cell (suc depth)) v))) (kept store (cell (suc depth)) v))

  -- with 0 it returns 0
  ends : (store : Store) → nat_lt depth 256 ≡ true → here (at (call 0) store) 6 (at (Value 0) (store_with store (cell (suc depth)) 0))
  ends store deep =
      on (at (call 0) store) (at (Entered (branch (suc depth) (Binary 1 op.Eq (Value 0) (Value 0)))) (store_with store (cell (suc depth)) 0)) (at (Value 0) (store_with store (cell (suc depth)) 0)) 3 3
      (begins 0 store deep) refl

  -- with another number it comes to the call inside
  chooses : (m : ℕ) (store : Store) → here (at (Entered (branch (suc depth) (Binary 1 op.Eq (Value (suc m)) (Value 0)))) store) 2 (at (Entered (Then Done (again (suc depth)))) store)
  chooses m store = let never : (suc m == 0) ≡ false = grind arith in rw never refl

  counts_down : (m : ℕ) (store : Store) → m < 256 → store (cell (suc depth)) ≡ suc m → here (at (Entered (Then Done (again (suc depth)))) store) 2 (at (around (call m)) store)
  counts_down m store small holds =
      ap (λ x. Some ([], at (around (call ((x + (2 ^ 32 - 1)) % 2 ^ 32))) store)) holds ∙
      ap (λ x. Some ([], at (around (call x)) store)) (one_less m small)

  descends : (m : ℕ) (store : Store) → nat_lt depth 256 ≡ true → m < 256 → here (at (call (suc m)) store) 7 (at (around (call m)) (store_with store (cell (suc depth)) (suc m)))
  descends m store deep small =
      let after_write = store_with store (cell (suc depth)) (suc m) in
      on (at (call (suc m)) store) (at (Entered (Then Done (again (suc depth)))) after_write) (at (around (call m)) after_write) 5 2
      (on (at (call (suc m)) store) (at (Entered (branch (suc depth) (Binary 1 op.Eq (Value (suc m)) (Value 0)))) after_write) (at (Entered (Then Done (again (suc depth)))) after_write) 3 2
      (begins (suc m) store deep) (chooses m after_write))
      (counts_down m after_write small (kept store (cell (suc depth)) (suc m)))

  returns : (m : ℕ) (store : Store) → m < 256 → here (at (around (Value m)) store) 2 (at (Value (suc m)) store)
  returns m store small = ap (λ x. Some ([], at (Value x) store)) (one_more m small)

-- ---- a call inside `d`

module _ (code : (function depth : ℕ) → List ℕ → Code) (depth : ℕ) where
  -- behind the call's value
  abbrev behind : (value : ℕ) → Next Term ℕ
  behind value = next 0 code depth (around (Value value))

  by_part : (part : Next Term ℕ) →
      next_within Entered (next_within (λ a. Then a Done) (next_within Return (next_within (Binary 1 op.Add (Value 1)) part (λ y. operator_step 1 (binary_value op.Add 1 y))) (λ v. Is (Returns v))) (λ exit. next_after exit (Is Ends))) (λ exit. quiet_step (Value (call_value exit))) ≡
      next_within around part behind
  by_part (Is value) = refl
  by_part (Asks ask left) = refl
  by_part (Traps kind line) = refl

  next_around : (e : Term) → next 0 code depth (around e) ≡ next_within around (next 0 code (suc depth) e) behind
  next_around e = by_part (next 0 code (suc depth) e)

  inside : (e end : Term) (store left : Store) (work : ℕ) → Runs (next 0 code (suc depth)) (at e store) [] work (at end left) → Runs (next 0 code depth) (at (around e) store) [] work (at (around end) left)
  inside e end store left work runs =
      run_within (next 0 code (suc depth)) (next 0 code depth) around behind next_around work (at e store) (ap is_some runs) ∙ ap (all_surrounded around) runs

-- ---- all calls

module _ (code : (function depth : ℕ) → List ℕ → Code) (is_entered : (depth v : ℕ) → code 0 depth (v ∷ []) ≡ entered depth v) where
  is_below : (depth : ℕ) → depth < 256 → nat_lt depth 256 ≡ true
  is_below depth small = grind (arith, small)

  -- `d(m)` comes to m, where all its calls are allowed
  comes_to : (m depth : ℕ) (store : Store) → depth + m < 256 → (left : Store) × Runs (next 0 code depth) (at (call m) store) [] (6 + 9 * m) (at (Value m) left)
  comes_to zero depth store small = (store_with store (cell (suc depth)) 0, ends code is_entered depth store (is_below depth (omega (arith, small))))
  comes_to (suc m) depth store small =
      let after_write = store_with store (cell (suc depth)) (suc m) in
      let rest = comes_to m (suc depth) after_write (omega (arith, small)) in
      let down = descends code is_entered depth m store (is_below depth (omega (arith, small))) (omega (arith, small)) in
      let through = inside code depth (call m) (Value m) after_write rest.0 (6 + 9 * m) rest.1 in
      let up = returns code is_entered depth m rest.0 (omega (arith, small)) in
      let to_value = on code is_entered depth (at (call (suc m)) store) (at (around (call m)) after_write) (at (around (Value m)) rest.0) 7 (6 + 9 * m) down through in
      let whole = on code is_entered depth (at (call (suc m)) store) (at (around (Value m)) rest.0) (at (Value (suc m)) rest.0) (7 + (6 + 9 * m)) 2 to_value up in
      let count : 7 + (6 + 9 * m) + 2 ≡ 6 + 9 * suc m = omega arith in
      (rest.0, subst (λ work. Runs (next 0 code depth) (at (call (suc m)) store) [] work (at (Value (suc m)) rest.0)) count whole)

  -- one call too many comes to stand at the trap
  comes_to_trap : (m depth : ℕ) (store : Store) → depth + m ≡ 256 → (e : Term) × (left : Store) × Runs (next 0 code depth) (at (call m) store) [] (7 * m) (at e left) × (next 0 code depth e ≡ Traps CallDepth 1)
  comes_to_trap zero depth store deep =
      let too_deep : nat_lt depth 256 ≡ false = grind (arith, deep) in
      (call 0, store, refl, rw too_deep refl)
  comes_to_trap (suc m) depth store deep =
      let after_write = store_with store (cell (suc depth)) (suc m) in
      let rest = comes_to_trap m (suc depth) after_write (omega (arith, deep)) in
      let down = descends code is_entered depth m store (is_below depth (omega (arith, deep))) (omega (arith, deep)) in
      let through = inside code depth (call m) rest.0 after_write rest.1 (7 * m) rest.2 in
      let whole = on code is_entered depth (at (call (suc m)) store) (at (around (call m)) after_write) (at (around rest.0) rest.1) 7 (7 * m) down through in
      let count : 7 + 7 * m ≡ 7 * suc m = omega arith in (
        around rest.0,
        rest.1,
        subst (λ work. Runs (next 0 code depth) (at (call (suc m)) store) [] work (at (around rest.0) rest.1)) count whole,
        next_around code depth rest.0 ∙ ap (λ part. next_within around part (behind code depth)) rest.3,
      )

-- ---- the program

-- what stands around the call in `main`
abbrev printing : Term → Option Code
printing e = Some (Then (Print (codes "%d\n") (More e End)) Done)

abbrev behind_call : (n value : ℕ) → Next (Option Code) (Unit {0})
behind_call n value = next_of_rest (program n) 0 0 (printing (Value value))

by_value : (n : ℕ) (part : Next Term ℕ) →
    next_within Some (next_within (λ a. Then a Done) (next_within (Print (codes "%d\n")) (next_within (λ e. More e End) part (λ v. next_within (More (Value v)) (Is []) (λ vs. Is (v ∷ vs)))) (λ vs. Asks (Printing (piece (codes "%d\n") vs)) (λ _. Done))) (λ exit. next_after exit (Is Ends))) (λ exit. Asks Ending (λ _. None)) ≡
    next_within printing part (behind_call n)
by_value n (Is value) = refl
by_value n (Asks ask left) = refl
by_value n (Traps kind line) = refl

next_printing : (n : ℕ) (e : Term) → next_of_rest (program n) 0 0 (printing e) ≡ next_within printing (next 0 (call_code (program n) 0) 0 e) (behind_call n)
next_printing n e = by_value n (next 0 (call_code (program n) 0) 0 e)

begins_printing : (n : ℕ) → start (program n) [] ≡ record { store = (start (program n) []).store; threads = record { code = printing (call n); number = 0; outermost = None; parent = None } ∷ []; output = [] }
unfolding opened digits program
begins_printing n = refl

-- the configuration of the serial code alone
abbrev alone : Option Code → Store → Configuration
alone code store = record { store = store; threads = record { code = code; number = 0; outermost = None; parent = None } ∷ []; output = [] }

-- what the call does by itself, it does in the configuration
runs_there : (n work : ℕ) (e : Term) (left : Store) → Runs (next 0 (call_code (program n) 0) 0) (at (call n) (start (program n) []).store) [] work (at e left) → IsLegal (program n) (start (program n) []) (replicate work 0) × (after (program n) (start (program n) []) (replicate work 0) ≡ alone (printing e) left)
runs_there n work e left runs =
    let c = alone (printing (call n)) (start (program n) []).store in
    let whole = run_of_part (program n) 0 0 0 printing (behind_call n) (next_printing n) work (call n) e (start (program n) []).store left [] [] [] runs in
    let unseen = unseen_run (program n) c 0 (record { code = printing (call n); number = 0; outermost = None; parent = None }) work (record { code = printing e; store = left; replies = [] }) refl refl whole in
    subst (λ d. IsLegal (program n) d (replicate work 0) × (after (program n) d (replicate work 0) ≡ alone (printing e) left)) (sym (begins_printing n)) unseen

-- `d(255)` is allowed, and 255 is printed
prints_255 : (after (program 255) (start (program 255) []) (replicate (6 + 9 * 255) 0 ++ 0 ∷ [])).output ≡ codes "255\n"
unfolding digits
prints_255 =
    let calls = comes_to (call_code (program 255) 0) (body_is 255) 255 0 (start (program 255) []).store (omega arith) in
    ap (λ c. c.output) (after-append (program 255) (start (program 255) []) (replicate (6 + 9 * 255) 0) (0 ∷ [])) ∙
    ap (λ c. (after (program 255) c (0 ∷ [])).output) (runs_there 255 (6 + 9 * 255) (Value 255) calls.0 calls.1).1

-- `d(256)` comes to stand at the trap of a call at depth 256
traps_with_256 : trap_of (program 256) (after (program 256) (start (program 256) []) (replicate (7 * 256) 0)) 0 ≡ Some (record { kind = CallDepth; line = 1; thread = None })
traps_with_256 =
    let calls = comes_to_trap (call_code (program 256) 0) (body_is 256) 256 0 (start (program 256) []).store (omega arith) in
    ap (λ c. trap_of (program 256) c 0) (runs_there 256 (7 * 256) calls.0 calls.1 calls.2).1 ∙
    ap (λ next. trap_in next None) (next_printing 256 calls.0 ∙ ap (λ part. next_within printing part (behind_call 256)) calls.3)

-- both schedules are legal
legal_with_255 : IsLegal (program 255) (start (program 255) []) (replicate (6 + 9 * 255) 0)
legal_with_255 =
    let calls = comes_to (call_code (program 255) 0) (body_is 255) 255 0 (start (program 255) []).store (omega arith) in
    (runs_there 255 (6 + 9 * 255) (Value 255) calls.0 calls.1).0

legal_with_256 : IsLegal (program 256) (start (program 256) []) (replicate (7 * 256) 0)
legal_with_256 =
    let calls = comes_to_trap (call_code (program 256) 0) (body_is 256) 256 0 (start (program 256) []).store (omega arith) in
    (runs_there 256 (7 * 256) calls.0 calls.1 calls.2).0
