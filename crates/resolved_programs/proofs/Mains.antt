-- `main` stands for a function without parameters.
use Rattle.std.proofs.Common.{◌≡◌, sym, ◌∙◌, ap, subst, ℕ, Bool, true, false, List, [], ◌∷◌, length, Some, ◌⊎◌, inl, inr}
use Rattle.std.proofs.lemmas.Bool.{or_cases, and_parts, eqb-true}
use Rattle.std.specs.Prelude.{codes, is_some, ◌==◌}
use Rattle.std.specs.Str.{bytes_eq}
use Rattle.std.proofs.lemmas.Slice.Eq.{bytes_eq-Decides}
use Rattle.raw_tree.specs.declared.tree.RawItem.{RawItem}
use Rattle.raw_tree.specs.declared.tree.RawItemKind.{RawItemKind}
use Rattle.raw_tree.specs.declared.tree.RawItemKind.TheVariants as i
use Rattle.source_meaning.specs.declared.tree.Program.{Program}
use Rattle.name_scopes.specs.declared.fault.NameKind.TheVariants as kinds
use Rattle.name_scopes.specs.declared.scope.Meaning.TheVariants as means
use Rattle.name_scopes.specs.declared.scope.Declared.{Declared}
use Rattle.name_scopes.specs.Scope.{look}
use Rattle.name_faults.specs.Expressions.{meaning_of}
use Rattle.name_faults.specs.Nodes.{params_of}
use Rattle.name_faults.specs.Items.{Names, enter, enter_all, name_of_head, has_value, again, again_all, is_main, has_main}
use Rattle.typed_programs.specs.Expressions.{function_number}
use Rattle.typed_programs.specs.Items.{main_of}
use Rattle.checked_programs.specs.Fits.{Known, HasFunction}
use Rattle.resolved_programs.proofs.NoFaults.{IsEmpty, fails}
use Rattle.resolved_programs.proofs.Meanings.{NamesFit, AnyFits, looked_fits}
use Rattle.resolved_programs.proofs.Looks.{declared_first, stays_in_items}

-- the name stands for a function without parameters
pub record StandsForMain (ds : List Declared) : Type 0 where
  pub number : ℕ
  pub value : Bool
  pub place : ℕ
  pub found : look ds (codes "main") ≡ Some (record { place = place; meaning = means.Function number value 0 })

declared_main : (kind : RawItemKind) (rest : List RawItem) (file : Names) → is_main kind ≡ true → IsEmpty (again kind file) → StandsForMain (enter_all rest (enter kind file)).declared
declared_main (i.Globals ty all) rest file is sound = absurd (let clash : false ≡ true = is in cc)
declared_main (i.Registers int all) rest file is sound = absurd (let clash : false ≡ true = is in cc)
declared_main (i.Proto result params) rest file is sound = absurd (let clash : false ≡ true = is in cc)
declared_main (i.Function result params body) rest file is sound =
    let holds = and_parts (bytes_eq (name_of_head result).bytes (codes "main")) (length (params_of params) == 0) is in
    let named : (name_of_head result).bytes ≡ codes "main" = (bytes_eq-Decides (name_of_head result).bytes (codes "main")).0 holds.0 in
    let none : length (params_of params) ≡ 0 = eqb-true (length (params_of params)) 0 holds.1 in
    let new = fails (is_some (look file.declared (name_of_head result).bytes)) kinds.Double (name_of_head result).at sound in
    let here = declared_first (name_of_head result) (means.Function (length file.functions) (has_value result) (length (params_of params))) file.declared new in
    let kept = stays_in_items rest (enter (i.Function result params body) file) (name_of_head result).bytes
    (record { place = length file.declared; meaning = means.Function (length file.functions) (has_value result) (length (params_of params)) }) here in
    record {
      number = length file.functions;
      value = has_value result;
      place = length file.declared;
      found = ap (look (enter_all rest (enter (i.Function result params body) file)).declared) (sym named) ∙ kept
          ∙ ap (λ n. Some (record { place = length file.declared; meaning = means.Function (length file.functions) (has_value result) n })) none;
    }

main_chosen : (x : RawItem) (rest : List RawItem) (file : Names) → (is_main x.kind ≡ true) ⊎ (has_main rest ≡ true) → IsEmpty (again x.kind file) →
    (has_main rest ≡ true → StandsForMain (enter_all rest (enter x.kind file)).declared) → StandsForMain (enter_all rest (enter x.kind file)).declared
main_chosen x rest file (inl here) sound behind = declared_main x.kind rest file here sound
main_chosen x rest file (inr later) sound behind = behind later

pub main_among : (items : List RawItem) (file : Names) → has_main items ≡ true → IsEmpty (again_all items file) → StandsForMain (enter_all items file).declared
main_among [] file is sound = absurd (let clash : false ≡ true = is in cc)
main_among (x ∷ rest) file is sound =
    main_chosen x rest file (or_cases (is_main x.kind) (has_main rest) is) sound.0 (λ later. main_among rest (enter x.kind file) later sound.1)

pub main_fits : (p : Program) (k : Known) (ds : List Declared) → NamesFit p k ds → StandsForMain ds → HasFunction p (main_of ds) 0
main_fits p k ds names main =
    let meant = ap meaning_of main.found in
    let fit = subst (AnyFits p k) meant (looked_fits p k ds (codes "main") names) in
    subst (λ f. HasFunction p f 0) (sym (ap function_number meant)) fit
