-- The laws on checked programs.
use Rattle.std.proofs.Common.{length, ◌∙◌, ◌++◌, ◌≡◌, refl, sym, ap, subst, arith, ℕ, zero, suc, ◌≤◌, Bool, true, false, List, [], ◌∷◌, Some, None}
use Rattle.std.proofs.lemmas.Bool.{le-ltb}
use Rattle.std.specs.Prelude.{All, Contains, ◌||◌, nat_lt, slice_get, if◌then◌else◌}
use Rattle.std.specs.Option.{unwrap_or}
use Rattle.std.proofs.lemmas.List.Elements.{All-head, All-tail, All-weaker, Contains-append_left, Contains-append_right}
use Rattle.source_meaning.specs.declared.tree.GlobalVar.{GlobalVar}
use Rattle.source_meaning.specs.declared.tree.Stmt.{Stmt}
use Rattle.source_meaning.specs.declared.tree.StmtKind.{StmtKind}
use Rattle.source_meaning.specs.declared.tree.Function.{Function}
use Rattle.source_meaning.specs.declared.tree.Program.{Program}
use Rattle.source_meaning.specs.Layout.{HasRoom}
use Rattle.source_meaning.specs.Inside.{some_statement, some_in_body, some_in_list}
use Rattle.source_meaning.specs.Variables.{is_sharing, is_shared, shared_below}
use Rattle.spawn_check.specs.Things.{single, of_functions, occurrences}
use Rattle.checked_programs.specs.Fits.{BodyFits}
use Rattle.checked_programs.specs.Declares.{declared_in, declared_in_row, declared_in_list, DeclaresOnce}
use Rattle.checked_programs.specs.Limits.{FunctionIsWithinLimits}
use Rattle.checked_programs.specs.Checked.{HasLength, IsChecked}
use Rattle.quad_code.specs.Known.{Region, Serial, Inner, SequenceKnown}
use Rattle.quad_code.specs.Rows.{rows_of}
use Rattle.quad_code.specs.Functions.{outer_of}
use Rattle.quad_code.specs.Whole.{MayCall, BodyKnown}
use Rattle.checked_quads.specs.Inner.{AreInner}
use Rattle.checked_quads.specs.Law.{CheckedProgramsAreKnown, CheckedProgramsHaveWords}
use Rattle.checked_quads.proofs.Rules.{Within, around_at, in_list, is_barred}
use Rattle.checked_quads.proofs.Fresh.{Fresh, all_fresh, declared_before}
use Rattle.checked_quads.proofs.Statements.{known_list}
use Rattle.checked_quads.proofs.OwnBlocks.{declares_in_block, block_rows, own_rows}
use Rattle.checked_quads.proofs.Numbers.{renumbered_rows}
use Rattle.checked_quads.proofs.Barred.{none_in_serial, none_in_inner, shares_none}

-- what holds of each element holds of the one at a place
at_place : {X : Type 0} (P : X → Type 0) (xs : List X) (n : ℕ) (x : X) → All P xs → slice_get xs n ≡ Some x → P x
at_place P [] n x all found = absurd (let clash : None ≡ Some x = found in cc)
at_place P (y ∷ xs) zero x all found = subst P (ap (λ o. unwrap_or o y) found) (All-head P y xs all)
at_place P (y ∷ xs) (suc n) x all found = at_place P xs n x (All-tail P y xs all) found

-- the things of a function's body are things of the program
function_within : (functions : List Function) (f : ℕ) (function : Function) → slice_get functions f ≡ Some function →
    Within (in_list (around_at Serial false) function.body) (of_functions [] (λ before behind. before ++ behind) single functions)
function_within [] f function found = absurd (let clash : None ≡ Some function = found in cc)
function_within (g ∷ rest) zero function found =
    let same : g ≡ function = ap (λ o. unwrap_or o g) found in
    record {
      holds = λ x is. Contains-append_left (in_list (around_at Serial false) g.body) (of_functions [] (λ before behind. before ++ behind) single rest) x
          (subst (λ (h : Function). Contains (in_list (around_at Serial false) h.body) x) (sym same) is);
    }
function_within (g ∷ rest) (suc f) function found =
    let inside = function_within rest f function found in
    record {
      holds = λ x is. Contains-append_right (in_list (around_at Serial false) g.body) (of_functions [] (λ before behind. before ++ behind) single rest) x (inside.holds x is);
    }

in_rows : (test : StmtKind → Bool) (body : List Stmt) → some_in_body test (rows_of body) ≡ some_in_list test body
in_rows test [] = refl
in_rows test (s ∷ rest) = ap (λ found. some_statement test s.kind || found) (in_rows test rest)

declared_rows : (body : List Stmt) → declared_in_row (rows_of body) ≡ declared_in_list body
declared_rows [] = refl
declared_rows (s ∷ rest) = ap (λ slots. declared_in s.kind ++ slots) (declared_rows rest)

module _ (p : Program) (inner : (function : ℕ) → Bool) (checked : IsChecked p) (few_registers : length p.registers ≤ 8) (are_inner : AreInner p inner) where
  module _ (f : ℕ) (function : Function) (found : slice_get p.functions f ≡ Some function) where
    fresh : Fresh (λ x. nat_lt x function.params) (declared_in_list function.body)
    fresh =
        let once = at_place DeclaresOnce p.functions f function checked.declared_once found in
        all_fresh (λ x. nat_lt x function.params) (declared_in_list function.body) once.differ
        (All-weaker (λ slot. function.params ≤ slot) (λ slot. nat_lt slot function.params ≡ false) (λ slot above. le-ltb slot function.params above) (declared_in_list function.body) once.no_parameter)

    fresh_rows : Fresh (λ x. nat_lt x function.params) (declared_in_row (rows_of function.body))
    fresh_rows = subst (Fresh (λ x. nat_lt x function.params)) (sym (declared_rows function.body)) fresh

    -- with no number for a shared variable
    unnumbered : (region : Region) → Within (in_list (around_at region false) function.body) (occurrences p) → some_in_list (is_barred inner region) function.body ≡ false →
        SequenceKnown (length p.globals) (MayCall p inner) function.variables (λ x. None) (λ x. nat_lt x function.params) false region (rows_of function.body)
    unnumbered region within none =
        known_list p checked.blocks few_registers inner are_inner function.variables (λ x. None) (λ x. refl) region false (λ x. nat_lt x function.params) (λ x. nat_lt x function.params) (λ x. refl)
        function.body within none (at_place (BodyFits p) p.functions f function checked.bodies found) fresh

    -- a variable that a block declares is not shared
    alone : (region : Region) → SequenceKnown (length p.globals) (MayCall p inner) function.variables (λ x. None) (λ x. nat_lt x function.params) false region (rows_of function.body) →
        (x : ℕ) → some_in_body (declares_in_block x) (rows_of function.body) ≡ true → outer_of function.body x ≡ None
    alone region known x is =
        let unknown : nat_lt x function.params ≡ false = declared_before x (λ y. nat_lt y function.params) (rows_of function.body) (block_rows x (rows_of function.body) is) fresh_rows in
        let none : is_shared function.body x ≡ false =
        sym (in_rows (is_sharing x) function.body)
        ∙ own_rows x (length p.globals) (MayCall p inner) function.variables (λ y. None) (λ y. nat_lt y function.params) (λ y. nat_lt y function.params) false region (rows_of function.body) unknown known fresh_rows is in
        ap (λ t. if t then Some (shared_below function.body x) else None) none

    body_known : (region : Region) → Within (in_list (around_at region false) function.body) (occurrences p) → some_in_list (is_barred inner region) function.body ≡ false → BodyKnown p inner region function
    body_known region within none =
        let known = unnumbered region within none in
        renumbered_rows (length p.globals) (MayCall p inner) function.variables (λ x. None) (outer_of function.body) (λ x. nat_lt x function.params) false region (rows_of function.body) known (alone region known)

    known_serial : BodyKnown p inner Serial function
    known_serial = body_known Serial (function_within p.functions f function found) (none_in_serial inner function.body)

    known_inner : inner f ≡ true → BodyKnown p inner Inner function
    known_inner may = body_known Inner (function_within p.functions f function found) (none_in_inner inner p are_inner f function found may)

pub checked_programs_are_known : CheckedProgramsAreKnown
checked_programs_are_known p inner checked limits are_inner =
    record {
      main = record { function = checked.main.function; found = checked.main.found; counts = checked.main.counts };
      few_params = λ f function found. omega (arith, (at_place FunctionIsWithinLimits p.functions f function limits.each_function found).parameters);
      params = λ f function found. at_place (λ (g : Function). g.params ≤ g.variables) p.functions f function checked.parameters found;
      serial = λ f function found. known_serial p inner checked limits.registers are_inner f function found;
      called = λ f function found may. known_inner p inner checked limits.registers are_inner f function found may;
      unshared = λ f function found may. shares_none inner p are_inner f function found may;
      room = All-weaker HasLength HasRoom (λ g has. has.room) p.globals checked.lengths;
    }

pub checked_programs_have_words : CheckedProgramsHaveWords
checked_programs_have_words p checked few = record { some = All-weaker HasLength (λ (g : GlobalVar). 1 ≤ g.length) (λ g has. has.some) p.globals checked.lengths; few = few }
