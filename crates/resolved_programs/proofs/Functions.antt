-- The functions of a program whose names are all there: what their bodies name is there, and they keep to the limits.
use Rattle.std.proofs.Common.{◌≡◌, ◌∙◌, ap, arith, ℕ, ◌+◌, ◌<◌, ◌≤◌, Bool, true, List, [], ◌∷◌, ◌++◌, length, length-append, Option, Some, None}
use Rattle.std.proofs.lemmas.Bool.{lt-ltb}
use Rattle.std.proofs.lemmas.List.{length-map}
use Rattle.std.specs.Prelude.{All, nat_lt, map}
use Rattle.std.proofs.lemmas.List.Elements.{All-nil, All-cons, All-weaker}
use Rattle.xmt_base.specs.declared.values.Place.{Place}
use Rattle.raw_tree.specs.declared.tree.RawName.{RawName}
use Rattle.raw_tree.specs.declared.tree.RawParam.{RawParam}
use Rattle.raw_tree.specs.declared.tree.RawResult.{RawResult}
use Rattle.raw_tree.specs.declared.tree.RawStmt.{RawStmt}
use Rattle.raw_tree.specs.declared.tree.RawItem.{RawItem}
use Rattle.raw_tree.specs.declared.tree.RawItemKind.{RawItemKind}
use Rattle.raw_tree.specs.declared.tree.RawItemKind.TheVariants as i
use Rattle.source_meaning.specs.declared.tree.Function.{Function}
use Rattle.source_meaning.specs.declared.tree.Program.{Program}
use Rattle.name_scopes.specs.declared.fault.Which.TheVariants as which
use Rattle.name_scopes.specs.declared.scope.Meaning.TheVariants as means
use Rattle.name_scopes.specs.declared.scope.Declared.{Declared}
use Rattle.name_scopes.specs.Scope.{look}
use Rattle.name_scopes.specs.Locals.{Env, is_constant}
use Rattle.name_faults.specs.Nodes.{params_of}
use Rattle.name_faults.specs.Statements.{after_all}
use Rattle.name_faults.specs.Items.{has_value, declare_named, declare_param, declare_params, place_of_param, function_faults, item_faults, items_faults}
use Rattle.typed_programs.specs.Expressions.{number}
use Rattle.typed_programs.specs.Items.{at_start, function, functions_of, all_of}
use Rattle.checked_programs.specs.Fits.{Known, BodyFits}
use Rattle.checked_programs.specs.Declares.{declared_in_list, DeclaresOnce}
use Rattle.checked_programs.specs.Limits.{FunctionIsWithinLimits}
use Rattle.resolved_programs.specs.FromSource.{ListHasTexts, ItemFromSource, ItemsFromSource}
use Rattle.resolved_programs.proofs.NoFaults.{IsEmpty, few}
use Rattle.resolved_programs.proofs.Meanings.{NamesFit}
use Rattle.resolved_programs.proofs.FileNames.{small}
use Rattle.resolved_programs.proofs.Growth.{grown_all}
use Rattle.resolved_programs.proofs.Statements.{names_append, body_fits}
use Rattle.resolved_programs.proofs.StatementWaiting.{body_short}
use Rattle.resolved_programs.proofs.Numbered.{numbered_body, not_below, differ}

abbrev parameters_known : (count : ℕ) → Known
parameters_known count = λ x. nat_lt x (number count)

module _ (p : Program) (count : ℕ) (few_params : count ≤ 8) where
  -- parameters that are declared are known
  record Begins (e : Env) : Type 0 where
    names : NamesFit p (parameters_known count) e.declared
    variables : length e.variables ≡ count

  param_known : (n : ℕ) → n < count → parameters_known count (number n) ≡ true
  param_known n less = ap (λ m. nat_lt m (number count)) (small n (omega (arith, less))) ∙ ap (nat_lt n) (small count (omega arith)) ∙ lt-ltb n count less

  named_fits : (constant : Bool) (at : Place) (name : Option RawName) (e : Env) → length e.variables < count → NamesFit p (parameters_known count) e.declared →
      NamesFit p (parameters_known count) (declare_named constant at name e).declared
  named_fits constant at None e less names = names
  named_fits constant at (Some name) e less names =
      names_append p (parameters_known count) e.declared
      (record { name = name.bytes; binding = record { place = length e.declared; meaning = means.Local (length e.variables) constant }; hidden = look e.declared name.bytes } ∷ [])
      names (param_known (length e.variables) less, tt)

  one_variable : (constant : Bool) (at : Place) (name : Option RawName) (e : Env) → length (declare_named constant at name e).variables ≡ length e.variables + 1
  one_variable constant at None e = omega (arith, length-append e.variables (at ∷ []))
  one_variable constant at (Some name) e = omega (arith, length-append e.variables (name.at ∷ []))

  begins : (params : List RawParam) (e : Env) → length e.variables + length params ≡ count → NamesFit p (parameters_known count) e.declared → Begins (declare_params params e)
  begins [] e all names = record { names = names; variables = omega arith }
  begins (param ∷ rest) e all names =
      begins rest (declare_param param e) (omega (arith, all, one_variable (is_constant param.ty.qualifiers) param.ty.at param.name e))
      (named_fits (is_constant param.ty.qualifiers) param.ty.at param.name e (omega (arith, all)) names)

-- what is asked of one function
pub record IsSound (p : Program) (f : Function) : Type 0 where
  pub parameters : f.params ≤ f.variables
  pub body : BodyFits p f
  pub once : DeclaresOnce f
  pub limits : FunctionIsWithinLimits f

module _ (p : Program) (ds : List Declared) (names : (k : Known) → NamesFit p k ds) where
  function_is_sound : (result : RawResult) (params : List RawParam) (body : List RawStmt) → ListHasTexts body → IsEmpty (function_faults ds result params body) → IsSound p (function ds result params body)
  function_is_sound result params body from sound =
      let few_params : length params ≤ 8 = omega (arith, few 8 (map place_of_param params) which.Parameters sound.1.1.0, length-map params place_of_param) in
      let few_variables = few 200 (after_all body (at_start ds params)).variables which.Variables sound.1.1.1 in
      let start = begins p (length params) few_params params (record { declared = ds; variables = [] }) (omega arith) (names (parameters_known (length params))) in
      let grown = (grown_all body (at_start ds params)).variables in
      let all_variables : number (length (after_all body (at_start ds params)).variables) ≡ length (after_all body (at_start ds params)).variables =
      small (length (after_all body (at_start ds params)).variables) (omega (arith, few_variables)) in
      let all_params : number (length params) ≡ length params = small (length params) (omega (arith, few_params)) in
      let numbered = numbered_body body (at_start ds params) in
      let slots = declared_in_list (function ds result params body).body in
      record {
        parameters = omega (arith, all_params, all_variables, grown, start.variables);
        body = body_fits p (number (length (after_all body (at_start ds params)).variables)) (has_value result) (parameters_known (length params)) (length ds) body (at_start ds params) from start.names sound.1.0
            (omega (arith, all_variables));
        once = record {
          differ = differ (length (at_start ds params).variables) (length (after_all body (at_start ds params)).variables) slots numbered few_variables;
          no_parameter = All-weaker (λ slot. length (at_start ds params).variables ≤ slot) (λ slot. number (length params) ≤ slot) (λ slot above. omega (arith, above, all_params, start.variables)) slots
              (not_below (length (at_start ds params).variables) (length (after_all body (at_start ds params)).variables) slots numbered few_variables);
        };
        limits = record {
          variables = omega (arith, all_variables, few_variables);
          parameters = omega (arith, all_params, few_params);
          waiting = body_short (has_value result) (length ds) body (at_start ds params) sound.1.0;
        };
      }

  pub functions_are_sound : (items : List RawItem) → ItemsFromSource items → IsEmpty (items_faults ds items) → All (IsSound p) (all_of (functions_of ds) items)
  functions_are_sound [] from sound = All-nil (IsSound p)
  functions_are_sound (x ∷ rest) from sound = by_kind x.kind from.0 sound.0 (functions_are_sound rest from.1 sound.1)
    where
      by_kind : (kind : RawItemKind) → ItemFromSource kind → IsEmpty (item_faults ds kind) → All (IsSound p) (all_of (functions_of ds) rest) → All (IsSound p) (functions_of ds kind ++ all_of (functions_of ds) rest)
      by_kind (i.Globals ty all) from sound behind = behind
      by_kind (i.Registers int all) from sound behind = behind
      by_kind (i.Function result params body) from sound behind =
          All-cons (IsSound p) (function ds result (params_of params) body) (all_of (functions_of ds) rest) (function_is_sound result (params_of params) body from sound) behind
      by_kind (i.Proto result params) from sound behind = behind
