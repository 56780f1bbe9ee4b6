-- The shared variables of a function are among its variables, and there is an outer word for each.
use Rattle.std.proofs.Common.{◌≡◌, refl, sym, ◌∙◌, ap, subst, arith, ℕ, zero, suc, ◌≤◌, ◌<◌, Bool, true, false, if◌then◌else◌, List, [], ◌∷◌, Option, Some, None, ◌⊎◌, inl, inr, All}
use Rattle.std.specs.Prelude.{nat_lt, ◌==◌, length, slice_get}
use Rattle.std.specs.Option.{unwrap_or}
use Rattle.std.proofs.lemmas.Bool.{eqb-true, le-ltb}
use Rattle.std.proofs.lemmas.List.Elements.{All-head, All-tail}
use Rattle.source_meaning.specs.declared.tree.Stmt.{Stmt}
use Rattle.source_meaning.specs.declared.tree.StmtKind.{StmtKind, Row_of-Stmt, end_of-Stmt, more_of-Stmt, Held-StmtKind-If-2, None', Some'}
use Rattle.source_meaning.specs.declared.tree.StmtKind.TheVariants as stmt
use Rattle.source_meaning.specs.declared.tree.Function.{Function}
use Rattle.source_meaning.specs.declared.tree.Program.{Program}
use Rattle.source_meaning.specs.Inside.{some_in_body, some_in_other, some_statement}
use Rattle.source_meaning.specs.Variables.{is_declaration, is_sharing, is_shared, shared_below}
use Rattle.spawn_check.specs.Words.{shared_in, outer_words}
use Rattle.checked_programs.specs.Limits.{FunctionIsWithinLimits}
use Rattle.quad_code.specs.Known as quads
use Rattle.quad_code.specs.Known.{Region, Serial, InBlock, StatementKnown, SequenceKnown, ElseKnown}
use Rattle.quad_code.specs.Rows.{rows_of}
use Rattle.quad_code.specs.Functions.{outer_of}
use Rattle.quad_code.specs.Whole.{MayCall, IsKnown}
use Rattle.checked_quads.proofs.Unwritten.{neither, unshared_rows}
use Rattle.lowered_quads.proofs.Lists.{in_rows}

-- ---- no number from that of the variables on is declared

module _ (globals : ℕ) (MayCall : Region → (function values : ℕ) → Type 0) (variables : ℕ) (outer : (slot : ℕ) → Option ℕ) (x : ℕ) (past : variables ≤ x) where
  other : (slot : ℕ) → slot < variables → (x == slot) ≡ false
  other slot low = chosen (x == slot) refl
    where
      chosen : (t : Bool) → (x == slot) ≡ t → (x == slot) ≡ false
      chosen true is = let same : x ≡ slot = eqb-true x slot is in absurd (omega (arith, low, past, same))
      chosen false is = is

  mutual
    undeclared : (l : ℕ → Bool) (loop : Bool) (region : Region) (kind : StmtKind) → StatementKnown globals MayCall variables outer l loop region kind → some_statement (is_declaration x) kind ≡ false
    undeclared l loop region stmt.Empty known = refl
    undeclared l loop region (stmt.Value e) known = refl
    undeclared l loop region (stmt.Declare slot value) known = neither (other slot known.0) refl
    undeclared l loop region (stmt.Block' shape body) known = undeclared_rows l loop region body known
    undeclared l loop region (stmt.If' test shape body last) known = neither (undeclared_rows l loop region body known.1) (undeclared_else l loop region last known.2)
    undeclared l loop region (stmt.While' test shape body) known = undeclared_rows l true region body known.1
    undeclared l loop region (stmt.Do' shape body test) known = undeclared_rows l true region body known.1
    undeclared l loop region (stmt.For' first_shape first test third shape body) known = neither (undeclared_rows l loop region first known.0) (undeclared_rows (quads.all_declared variables l first) true region body known.3)
    undeclared l loop region stmt.Break known = refl
    undeclared l loop region stmt.Continue known = refl
    undeclared l loop region (stmt.Return value) known = refl
    undeclared l loop region (stmt.Spawn' low high shape body) known = undeclared_rows l false InBlock body known.3
    undeclared l loop region (stmt.Ps v r) known = refl
    undeclared l loop region (stmt.Psm v p) known = refl
    undeclared l loop region (stmt.Print text values) known = refl

    pub undeclared_rows : (l : ℕ → Bool) (loop : Bool) (region : Region) {n : _} (row : Row_of-Stmt n) → SequenceKnown globals MayCall variables outer l loop region row → some_in_body (is_declaration x) row ≡ false
    undeclared_rows l loop region end_of-Stmt known = refl
    undeclared_rows l loop region (more_of-Stmt place kind rest) known = neither (undeclared l loop region kind known.0) (undeclared_rows (quads.declared variables l kind) loop region rest known.1)

    undeclared_else : (l : ℕ → Bool) (loop : Bool) (region : Region) (last : Held-StmtKind-If-2) → ElseKnown globals MayCall variables outer l loop region last → some_in_other (is_declaration x) last ≡ false
    undeclared_else l loop region None' known = refl
    undeclared_else l loop region (Some' shape body) known = undeclared_rows l loop region body known

-- ---- numbers of shared variables

few_shared : (body : List Stmt) (slot : ℕ) → shared_below body slot ≤ slot
few_shared body zero = omega arith
few_shared body (suc slot) = by (is_shared body slot) (few_shared body slot)
  where
    by : (t : Bool) → shared_below body slot ≤ slot → (if t then suc (shared_below body slot) else shared_below body slot) ≤ suc slot
    by true few = omega (arith, few)
    by false few = omega (arith, few)

shared_next : (body : List Stmt) (slot : ℕ) → shared_below body slot ≤ shared_below body (suc slot)
shared_next body slot = by (is_shared body slot)
  where
    by : (t : Bool) → shared_below body slot ≤ (if t then suc (shared_below body slot) else shared_below body slot)
    by true = omega arith
    by false = omega arith

shared_grows : (body : List Stmt) (low high : ℕ) → low ≤ high → shared_below body low ≤ shared_below body high
shared_grows body low zero h = let same : low ≡ zero = omega (arith, h) in subst (λ n. shared_below body n ≤ shared_below body zero) (sym same) (omega arith)
shared_grows body low (suc high) h = elim (or_last low high h) [
  | inl below ↦ omega (arith, shared_grows body low high below, shared_next body high)
  | inr same ↦ subst (λ n. shared_below body n ≤ shared_below body (suc high)) (sym same) (omega arith)
]
  where
    or_last : (low high : ℕ) → low ≤ suc high → (low ≤ high) ⊎ (low ≡ suc high)
    or_last zero high h = inl (omega arith)
    or_last (suc low) zero h = inr (omega (arith, h))
    or_last (suc low) (suc high) h = elim (or_last low high (omega (arith, h))) [ inl below ↦ inl (omega (arith, below)) | inr same ↦ inr (ap suc same) ]

past_or_low : (slot variables : ℕ) → (variables ≤ slot) ⊎ (slot < variables)
past_or_low slot zero = inl (omega arith)
past_or_low zero (suc variables) = inr (omega arith)
past_or_low (suc slot) (suc variables) = elim (past_or_low slot variables) [ inl past ↦ inl (omega (arith, past)) | inr low ↦ inr (omega (arith, low)) ]

module _ (program : Program) (inner : (function : ℕ) → Bool) (known : IsKnown program inner) (f : ℕ) (function : Function) (found : slice_get program.functions f ≡ Some function) where
  unshared_past : (slot : ℕ) → function.variables ≤ slot → is_shared function.body slot ≡ false
  unshared_past slot past =
      let calls = MayCall program inner in
      let l : ℕ → Bool = λ x. nat_lt x function.params in
      let unknown : l slot ≡ false = le-ltb slot function.params (omega (arith, past, known.params f function found)) in
      let body = known.serial f function found in
      sym (in_rows (is_sharing slot) function.body)
      ∙ unshared_rows (length program.globals) slot calls function.variables (outer_of function.body) l false Serial (rows_of function.body) unknown body
      (undeclared_rows (length program.globals) calls function.variables (outer_of function.body) slot past l false Serial (rows_of function.body) body)

  shared_low : (slot : ℕ) → is_shared function.body slot ≡ true → slot < function.variables
  shared_low slot shared = elim (past_or_low slot function.variables) [ inl past ↦ absurd (let unshared = unshared_past slot past in let clash : true ≡ false = sym shared ∙ unshared in cc) | inr low ↦ low ]

  -- the number of a shared variable is below their count
  pub number_below : (slot number : ℕ) → outer_of function.body slot ≡ Some number → number < shared_in function
  number_below slot number is = by (is_shared function.body slot) refl
    where
      by : (t : Bool) → is_shared function.body slot ≡ t → number < shared_in function
      by false shared = absurd (let clash : None ≡ Some number = sym (ap (λ t. if t then Some (shared_below function.body slot) else None) shared) ∙ is in cc)
      by true shared =
          let this : Some (shared_below function.body slot) ≡ Some number = sym (ap (λ t. if t then Some (shared_below function.body slot) else None) shared) ∙ is in
          let number_is : shared_below function.body slot ≡ number = ap (λ o. unwrap_or o 0) this in
          let next : suc (shared_below function.body slot) ≡ shared_below function.body (suc slot) = sym (ap (λ t. if t then suc (shared_below function.body slot) else shared_below function.body slot) shared) in
          let grows : shared_below function.body (suc slot) ≤ shared_in function = shared_grows function.body (suc slot) function.variables (shared_low slot shared) in
          omega (arith, number_is, next, grows)

pub shared_fit : (functions : List Function) (f : ℕ) (function : Function) → slice_get functions f ≡ Some function → shared_in function ≤ outer_words functions
shared_fit [] f function found = absurd (let clash : None ≡ Some function = found in cc)
shared_fit (g ∷ rest) zero function found = let same : g ≡ function = ap (λ o. unwrap_or o g) found in subst (λ (h : Function). shared_in h ≤ outer_words (g ∷ rest)) same (grind arith)
shared_fit (g ∷ rest) (suc f) function found = let more = shared_fit rest f function found in grind (arith, more)

pub few_outer : (functions : List Function) → All FunctionIsWithinLimits functions → outer_words functions ≤ 200
few_outer [] all = omega arith
few_outer (g ∷ rest) all =
    let here : shared_in g ≤ g.variables = few_shared g.body g.variables in
    let limit = (All-head FunctionIsWithinLimits g rest all).variables in
    let more = few_outer rest (All-tail FunctionIsWithinLimits g rest all) in
    grind (arith, here, limit, more)
