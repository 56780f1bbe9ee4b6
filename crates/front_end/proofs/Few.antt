-- A tree that breaks no rule has at most 1,000 functions.
use Rattle.std.proofs.Common.{◌≡◌, ◌∙◌, ap, refl, inl, inr, ℕ, ◌+◌, ◌≤◌, ◌<◌, length, List, [], ◌∷◌, ◌++◌, Option, Some, None, Bool, arith}
use Rattle.std.specs.Prelude.{slice_get, get_or, ◌⊎◌}
use Rattle.std.proofs.lemmas.List.{length-append}
use Rattle.std.proofs.lemmas.Option.{slice_get_cases}
use Rattle.xmt_base.specs.declared.Place.{Place}
use Rattle.raw_tree.specs.declared.tree.RawGlobal.{RawGlobal}
use Rattle.raw_tree.specs.declared.tree.RawRegister.{RawRegister}
use Rattle.raw_tree.specs.declared.tree.RawItem.{RawItem}
use Rattle.raw_tree.specs.declared.tree.RawItemKind.{RawItemKind}
use Rattle.raw_tree.specs.declared.tree.RawItemKind.TheVariants as i
use Rattle.raw_tree.specs.declared.tree.RawProgram.{RawProgram}
use Rattle.name_scopes.specs.declared.fault.Which.{Which}
use Rattle.name_scopes.specs.declared.fault.Which.TheVariants as which
use Rattle.name_scopes.specs.declared.fault.NameKind.TheVariants as kind
use Rattle.name_scopes.specs.declared.fault.Fault.{Fault}
use Rattle.name_scopes.specs.declared.scope.Declared.{Declared}
use Rattle.name_scopes.specs.Fault.{IsAmong, past_limit, over}
use Rattle.name_scopes.specs.Locals.{is_constant}
use Rattle.name_faults.specs.Items.{Names, no_names, enter, enter_all, enter_globals, enter_registers, enter_global, enter_register}
use Rattle.typed_programs.specs.Items.{Resolves, program, all_of, functions_of, names_of_file}
use Rattle.source_meaning.specs.declared.tree.Program.{Program}

-- ---- each function is entered once

globals_keep : (constant : Bool) (all : List RawGlobal) (file : Names) → (enter_globals constant all file).functions ≡ file.functions
globals_keep constant [] file = refl
globals_keep constant (g ∷ rest) file = globals_keep constant rest (enter_global constant g file)

registers_keep : (all : List RawRegister) (file : Names) → (enter_registers all file).functions ≡ file.functions
registers_keep [] file = refl
registers_keep (r ∷ rest) file = registers_keep rest (enter_register r file)

one_more : (ds : List Declared) (kind : RawItemKind) (file : Names) → length (enter kind file).functions ≡ length file.functions + length (functions_of ds kind)
one_more ds (i.Globals ty all) file = ap length (globals_keep (is_constant ty.qualifiers) all file) ∙ omega arith
one_more ds (i.Registers int all) file = ap length (registers_keep all file) ∙ omega arith
one_more ds (i.Function result params body) file = length-append file.functions _
one_more ds (i.Proto result params) file = omega arith

entered : (ds : List Declared) (items : List RawItem) (file : Names) → length (enter_all items file).functions ≡ length file.functions + length (all_of (functions_of ds) items)
entered ds [] file = omega arith
entered ds (x ∷ rest) file =
    let more = entered ds rest (enter x.kind file) in
    let here = one_more ds x.kind file in
    let parts : length (functions_of ds x.kind ++ all_of (functions_of ds) rest) ≡ length (functions_of ds x.kind) + length (all_of (functions_of ds) rest) = length-append (functions_of ds x.kind) (all_of (functions_of ds) rest) in
    omega (arith, more, here, parts)

-- ---- the limit

some_past : (what : Which) (o : Option Place) → ((fault : Fault) → ¬ IsAmong fault (past_limit what o)) → o ≡ None
some_past what None none = refl
some_past what (Some place) none = absurd (none (record { kind = kind.TooMany what; place = place }) refl)

within : (limit : ℕ) (what : Which) (places : List Place) → ((fault : Fault) → ¬ IsAmong fault (over limit what places)) → length places ≤ limit
within limit what places none = by_cases (slice_get_cases places limit).1
  where
    by_cases : ((x : Place) × (limit < length places) × (slice_get places limit ≡ Some x) × (get_or places limit x ≡ x)) ⊎ ((length places ≤ limit) × (slice_get places limit ≡ None)) →
        length places ≤ limit
    by_cases (inl (x, inside, is, rest)) = let no : slice_get places limit ≡ None = some_past what (slice_get places limit) none in absurd cc
    by_cases (inr (short, is)) = short

pub few_functions : (tree : RawProgram) (p : Program) → Resolves tree p → length p.functions ≤ 1000
few_functions tree p resolved =
    let file : Names = enter_all tree.items no_names in
    let few : length file.functions ≤ 1000 = within 1000 which.Functions file.functions (λ fault among. resolved.sound fault (inr (inr (inl (inr (inl among)))))) in
    let all = entered (names_of_file tree) tree.items no_names in
    let same : length p.functions ≡ length (program tree).functions = ap (λ (q : Program). length q.functions) resolved.same in
    omega (arith, few, all, same)
