-- Where nothing stands that is barred from a region.
use Rattle.std.proofs.Common.{◌≡◌, refl, sym, ◌∙◌, ℕ, Bool, true, false, List, Some, ◌⊎◌, inl, inr}
use Rattle.std.proofs.lemmas.Bool.{true≢false, false≢true, or_cases, eq-eqb, not-true}
use Rattle.std.specs.Prelude.{slice_get}
use Rattle.source_meaning.specs.declared.tree.ExprKind.{ExprKind}
use Rattle.source_meaning.specs.declared.tree.ExprKind.TheVariants as expr
use Rattle.source_meaning.specs.declared.tree.Stmt.{Stmt}
use Rattle.source_meaning.specs.declared.tree.StmtKind.{StmtKind}
use Rattle.source_meaning.specs.declared.tree.StmtKind.TheVariants as stmt
use Rattle.source_meaning.specs.declared.tree.Function.{Function}
use Rattle.source_meaning.specs.declared.tree.Program.{Program}
use Rattle.source_meaning.specs.Inside.{some_of_statement, some_in_list}
use Rattle.source_meaning.specs.Variables.{is_sharing, is_shared}
use Rattle.spawn_check.specs.Calls.{is_call, calls}
use Rattle.spawn_check.proofs.Lifting.{Leads, leads_of_statement, leads_in_list}
use Rattle.quad_code.specs.Known.{Region, Serial, Inner, InBlock}
use Rattle.checked_quads.specs.Inner.{is_serial, Reaches, itself, by_call, AreInner}
use Rattle.checked_quads.proofs.Rules.{serial_in, is_outside, outside_in, is_barred}

-- why a statement is barred
data Cause : Type 0 where
  print_or_spawn : Cause
  outside : (function : ℕ) → Cause

abbrev test_of : Cause → StmtKind → Bool
test_of print_or_spawn = is_serial
test_of (outside g) = some_of_statement (is_call g)

abbrev IsOutside : (inner : (function : ℕ) → Bool) → Region → (g : ℕ) → Type 0
IsOutside inner region g = (region ≡ Inner) × (inner g ≡ false)

abbrev IsCause : (inner : (function : ℕ) → Bool) → Region → Cause → Type 0
IsCause inner region print_or_spawn = region ≡ Inner
IsCause inner region (outside g) = IsOutside inner region g

module _ (inner : (function : ℕ) → Bool) where
  each_outside : (kind : ExprKind) → Leads (IsOutside inner Inner) (is_outside inner kind) (λ g. is_call g kind)
  each_outside (expr.Number n) is = absurd (false≢true is)
  each_outside expr.Dollar is = absurd (false≢true is)
  each_outside (expr.Read s) is = absurd (false≢true is)
  each_outside (expr.Assign' s shape e) is = absurd (false≢true is)
  each_outside (expr.Update' op s shape e) is = absurd (false≢true is)
  each_outside (expr.Step s up after) is = absurd (false≢true is)
  each_outside (expr.Unary' op shape e) is = absurd (false≢true is)
  each_outside (expr.Binary' op left a right b) is = absurd (false≢true is)
  each_outside (expr.Both' left a right b) is = absurd (false≢true is)
  each_outside (expr.Either' left a right b) is = absurd (false≢true is)
  each_outside (expr.Choose' first test left a right b) is = absurd (false≢true is)
  each_outside (expr.Call' f shape values) is = (f, (refl, not-true (inner f) is), eq-eqb f f refl)

  each_call : (region : Region) (kind : ExprKind) → Leads (IsOutside inner region) (outside_in inner region kind) (λ g. is_call g kind)
  each_call Inner kind is = each_outside kind is
  each_call Serial kind is = absurd (false≢true is)
  each_call InBlock kind is = absurd (false≢true is)

  serial_cause : (region : Region) (s : StmtKind) → serial_in region s ≡ true → (region ≡ Inner) × (is_serial s ≡ true)
  serial_cause Inner s is = (refl, is)
  serial_cause Serial s is = absurd (false≢true is)
  serial_cause InBlock s is = absurd (false≢true is)

  each_barred : (region : Region) (s : StmtKind) → Leads (IsCause inner region) (is_barred inner region s) (λ c. test_of c s)
  each_barred region s is = chosen (or_cases (serial_in region s) (some_of_statement (outside_in inner region) s) is)
    where
      called : (g : ℕ) × IsOutside inner region g × (some_of_statement (is_call g) s ≡ true) → (c : Cause) × IsCause inner region c × (test_of c s ≡ true)
      called (g, good, is) = (outside g, good, is)

      printed : (region ≡ Inner) × (is_serial s ≡ true) → (c : Cause) × IsCause inner region c × (test_of c s ≡ true)
      printed (good, is) = (print_or_spawn, good, is)

      chosen : (serial_in region s ≡ true) ⊎ (some_of_statement (outside_in inner region) s ≡ true) → (c : Cause) × IsCause inner region c × (test_of c s ≡ true)
      chosen (inl is) = printed (serial_cause region s is)
      chosen (inr is) = called (leads_of_statement (IsOutside inner region) (outside_in inner region) is_call (each_call region) s is)

  none_barred : (region : Region) (body : List Stmt) → ((c : Cause) → IsCause inner region c → some_in_list (test_of c) body ≡ false) → some_in_list (is_barred inner region) body ≡ false
  none_barred region body none = chosen (some_in_list (is_barred inner region) body) refl
    where
      met : (c : Cause) × IsCause inner region c × (some_in_list (test_of c) body ≡ true) → some_in_list (is_barred inner region) body ≡ false
      met (c, good, is) = absurd (true≢false (sym is ∙ none c good))

      chosen : (t : Bool) → some_in_list (is_barred inner region) body ≡ t → some_in_list (is_barred inner region) body ≡ false
      chosen false is = is
      chosen true is = met (leads_in_list (IsCause inner region) (is_barred inner region) test_of (each_barred region) body is)

  -- nothing is barred from serial code
  pub none_in_serial : (body : List Stmt) → some_in_list (is_barred inner Serial) body ≡ false
  none_in_serial body = none_barred Serial body by_cause
    where
      not_inner : {A : Type 0} → Serial ≡ Inner → A
      not_inner is = absurd cc

      by_cause : (c : Cause) → IsCause inner Serial c → some_in_list (test_of c) body ≡ false
      by_cause print_or_spawn good = not_inner good
      by_cause (outside g) good = not_inner good.0

  -- a function that blocks may call prints and spawns nothing, and calls such functions alone
  module _ (p : Program) (are_inner : AreInner p inner) (f : ℕ) (function : Function) (found : slice_get p.functions f ≡ Some function) (may : inner f ≡ true) where
    reaches_none : Reaches p.functions is_serial f → ⊥
    reaches_none = (are_inner f).0 may

    no_serial : some_in_list is_serial function.body ≡ false
    no_serial = chosen (some_in_list is_serial function.body) refl
      where
        chosen : (t : Bool) → some_in_list is_serial function.body ≡ t → some_in_list is_serial function.body ≡ false
        chosen false is = is
        chosen true is = absurd (reaches_none (itself function found is))

    no_call : (g : ℕ) → inner g ≡ false → calls g function.body ≡ false
    no_call g not_inner = chosen (calls g function.body) refl
      where
        chosen : (t : Bool) → calls g function.body ≡ t → calls g function.body ≡ false
        chosen false is = is
        chosen true is = absurd (true≢false (sym ((are_inner g).1 (λ reached. reaches_none (by_call function found is reached))) ∙ not_inner))

    pub none_in_inner : some_in_list (is_barred inner Inner) function.body ≡ false
    none_in_inner = none_barred Inner function.body by_cause
      where
        by_cause : (c : Cause) → IsCause inner Inner c → some_in_list (test_of c) function.body ≡ false
        by_cause print_or_spawn good = no_serial
        by_cause (outside g) good = no_call g good.1

    each_sharing : (slot : ℕ) (s : StmtKind) → Leads (λ (none : Bool). Unit {0}) (is_sharing slot s) (λ none. is_serial s)
    each_sharing slot stmt.Empty is = absurd (false≢true is)
    each_sharing slot (stmt.Value e) is = absurd (false≢true is)
    each_sharing slot (stmt.Declare other value) is = absurd (false≢true is)
    each_sharing slot (stmt.Block' shape body) is = absurd (false≢true is)
    each_sharing slot (stmt.If' test shape body other) is = absurd (false≢true is)
    each_sharing slot (stmt.While' test shape body) is = absurd (false≢true is)
    each_sharing slot (stmt.Do' shape body test) is = absurd (false≢true is)
    each_sharing slot (stmt.For' first_shape first test third shape body) is = absurd (false≢true is)
    each_sharing slot stmt.Break is = absurd (false≢true is)
    each_sharing slot stmt.Continue is = absurd (false≢true is)
    each_sharing slot (stmt.Return value) is = absurd (false≢true is)
    each_sharing slot (stmt.Spawn' low high shape block) is = (true, tt, refl)
    each_sharing slot (stmt.Ps v r) is = absurd (false≢true is)
    each_sharing slot (stmt.Psm v x) is = absurd (false≢true is)
    each_sharing slot (stmt.Print text values) is = absurd (false≢true is)

    -- it shares no variable, since it has no block
    pub shares_none : (slot : ℕ) → is_shared function.body slot ≡ false
    shares_none slot = chosen (is_shared function.body slot) refl
      where
        met : (none : Bool) × Unit {0} × (some_in_list is_serial function.body ≡ true) → is_shared function.body slot ≡ false
        met (none, u, is) = absurd (true≢false (sym is ∙ no_serial))

        chosen : (t : Bool) → is_shared function.body slot ≡ t → is_shared function.body slot ≡ false
        chosen false is = is
        chosen true is = met (leads_in_list (λ (none : Bool). Unit {0}) (is_sharing slot) (λ none. is_serial) (each_sharing slot) function.body is)
