-- Each name that a file declares stands for a thing that is there.
use Rattle.std.proofs.Common.{◌≡◌, refl, sym, ◌∙◌, ap, arith, ℕ, ◌+◌, ◌<◌, ◌≤◌, Bool, true, false, List, [], ◌∷◌, ◌++◌, length, length-append, append_assoc, Some}
use Rattle.std.proofs.lemmas.List.{length-map}
use Rattle.std.specs.Prelude.{map, is_some, if◌then◌else◌, slice_get}
use Rattle.raw_tree.specs.declared.tree.RawName.{RawName}
use Rattle.raw_tree.specs.declared.tree.RawStmt.{RawStmt}
use Rattle.raw_tree.specs.declared.tree.RawParam.{RawParam}
use Rattle.raw_tree.specs.declared.tree.RawResult.{RawResult}
use Rattle.raw_tree.specs.declared.tree.RawGlobal.{RawGlobal}
use Rattle.raw_tree.specs.declared.tree.RawGlobal.TheVariants as g
use Rattle.raw_tree.specs.declared.tree.RawRegister.{RawRegister}
use Rattle.raw_tree.specs.declared.tree.RawItem.{RawItem}
use Rattle.raw_tree.specs.declared.tree.RawItemKind.{RawItemKind}
use Rattle.raw_tree.specs.declared.tree.RawItemKind.TheVariants as i
use Rattle.source_meaning.specs.declared.tree.GlobalVar.{GlobalVar}
use Rattle.source_meaning.specs.declared.tree.Register.{Register}
use Rattle.source_meaning.specs.declared.tree.Function.{Function}
use Rattle.source_meaning.specs.declared.tree.Program.{Program}
use Rattle.name_scopes.specs.declared.fault.Which.TheVariants as which
use Rattle.name_scopes.specs.declared.scope.Meaning.{Meaning}
use Rattle.name_scopes.specs.declared.scope.Meaning.TheVariants as means
use Rattle.name_scopes.specs.declared.scope.Declared.{Declared}
use Rattle.name_scopes.specs.Scope.{look, declare}
use Rattle.name_scopes.specs.Locals.{is_constant}
use Rattle.name_faults.specs.Nodes.{params_of}
use Rattle.name_faults.specs.Items.{Names, declare_first, enter_global, enter_register, enter_globals, enter_registers, enter, enter_all, name_of_global, meaning_of_global, name_of_head, has_value, item_faults, items_faults, function_faults, place_of_param}
use Rattle.typed_programs.specs.Expressions.{number}
use Rattle.typed_programs.specs.Items.{global, register, function, globals_of, registers_of, functions_of, all_of}
use Rattle.checked_programs.specs.Fits.{Known, HasFunction}
use Rattle.resolved_programs.proofs.NoFaults.{IsEmpty, few}
use Rattle.resolved_programs.proofs.Meanings.{MeaningFits, NamesFit}
use Rattle.resolved_programs.proofs.Statements.{names_append}
use Rattle.resolved_programs.proofs.Reached.{Reached, reached_next}

-- a small number is within 32 bits
pub small : (n : ℕ) → n ≤ 4096 → number n ≡ n
small n few = omega arith

at_length : {X : Type 0} (xs : List X) (x : X) (rest : List X) → slice_get (xs ++ x ∷ rest) (length xs) ≡ Some x
at_length [] x rest = refl
at_length (y ∷ xs) x rest = at_length xs x rest

found_at : {X : Type 0} (all xs : List X) (x : X) (rest : List X) (n : ℕ) → all ≡ xs ++ (x ∷ rest) → n ≡ length xs → length all ≤ 4096 → slice_get all (number n) ≡ Some x
found_at all xs x rest n is at few =
    let long : length all ≡ length xs + length (x ∷ rest) = ap length is ∙ length-append xs (x ∷ rest) in
    let same : number n ≡ length xs = small n (omega (arith, long, at, few)) ∙ at in
    ap (slice_get all) same ∙ ap (λ ys. slice_get ys (length xs)) is ∙ at_length xs x rest

shifted : {X : Type 0} (all xs : List X) (x : X) (rest : List X) → all ≡ xs ++ (x ∷ rest) → all ≡ (xs ++ x ∷ []) ++ rest
shifted all xs x rest is = is ∙ sym (append_assoc xs (x ∷ []) rest)

one_longer : {X Y : Type 0} (places : List X) (at : X) (xs : List Y) (x : Y) → length places ≡ length xs → length (places ++ at ∷ []) ≡ length (xs ++ x ∷ [])
one_longer places at xs x same = omega (arith, length-append places (at ∷ []), length-append xs (x ∷ []), same)

module _ (p : Program) (k : Known) where
  first_fits : (name : RawName) (what : Meaning) (ds : List Declared) → NamesFit p k ds → MeaningFits p k what → NamesFit p k (declare_first name what ds)
  first_fits name what ds names fit = chosen (is_some (look ds name.bytes))
    where
      chosen : (t : Bool) → NamesFit p k (if t then ds else declare name.bytes what ds)
      chosen true = names
      chosen false = names_append p k ds (record { name = name.bytes; binding = record { place = length ds; meaning = what }; hidden = look ds name.bytes } ∷ []) names (fit, tt)

  global_fits : (constant : Bool) (x : RawGlobal) (rest gs : List GlobalVar) (n : ℕ) → p.globals ≡ gs ++ (global constant x ∷ rest) → n ≡ length gs → length p.globals ≤ 4096 →
      MeaningFits p k (meaning_of_global n constant x)
  global_fits constant (g.Scalar name value) rest gs n is at few =
      record { global = global constant (g.Scalar name value); found = found_at p.globals gs (global constant (g.Scalar name value)) rest n is at few; kind = refl }
  global_fits constant (g.Array name words values) rest gs n is at few =
      record { global = global constant (g.Array name words values); found = found_at p.globals gs (global constant (g.Array name words values)) rest n is at few; kind = refl }
  global_fits constant (g.Open name values) rest gs n is at few =
      record { global = global constant (g.Open name values); found = found_at p.globals gs (global constant (g.Open name values)) rest n is at few; kind = refl }

  globals_fit : (constant : Bool) (all : List RawGlobal) (more gs : List GlobalVar) (file : Names) → p.globals ≡ gs ++ (map (global constant) all ++ more) → length file.globals ≡ length gs →
      length p.globals ≤ 4096 → NamesFit p k file.declared → NamesFit p k (enter_globals constant all file).declared
  globals_fit constant [] more gs file is at few names = names
  globals_fit constant (x ∷ rest) more gs file is at few names =
      globals_fit constant rest more (gs ++ global constant x ∷ []) (enter_global constant x file)
      (shifted p.globals gs (global constant x) (map (global constant) rest ++ more) is)
      (one_longer file.globals (name_of_global x).at gs (global constant x) at) few
      (first_fits (name_of_global x) (meaning_of_global (length file.globals) constant x) file.declared names
      (global_fits constant x (map (global constant) rest ++ more) gs (length file.globals) is at few))

  registers_fit : (all : List RawRegister) (more rs : List Register) (file : Names) → p.registers ≡ rs ++ (map register all ++ more) → length file.registers ≡ length rs →
      length p.registers ≤ 8 → NamesFit p k file.declared → NamesFit p k (enter_registers all file).declared
  registers_fit [] more rs file is at few names = names
  registers_fit (x ∷ rest) more rs file is at few names =
      let long : length p.registers ≡ length rs + length (register x ∷ (map register rest ++ more)) = ap length is ∙ length-append rs (register x ∷ (map register rest ++ more)) in
      let below : length file.registers < length p.registers = omega (arith, long, at) in
      let same = small (length file.registers) (omega (arith, below, few)) in
      registers_fit rest more (rs ++ register x ∷ []) (enter_register x file)
      (shifted p.registers rs (register x) (map register rest ++ more) is)
      (one_longer file.registers x.name.at rs (register x) at) few
      (first_fits x.name (means.Register (length file.registers)) file.declared names (omega (arith, same, below)))

  -- a function has at most 8 parameters
  few_params : (ds : List Declared) (result : RawResult) (params : List RawParam) (body : List RawStmt) → IsEmpty (function_faults ds result params body) → length params ≤ 8
  few_params ds result params body sound = omega (arith, few 8 (map place_of_param params) which.Parameters sound.1.1.0, length-map params place_of_param)

  function_fits : (ds : List Declared) (result : RawResult) (params : List RawParam) (body : List RawStmt) (rest fs : List Function) (n : ℕ) →
      p.functions ≡ fs ++ (function ds result params body ∷ rest) → n ≡ length fs → length p.functions ≤ 1000 → length params ≤ 8 → HasFunction p (number n) (length params)
  function_fits ds result params body rest fs n is at few few_params =
      record {
        function = function ds result params body;
        found = found_at p.functions fs (function ds result params body) rest n is at (omega (arith, few));
        counts = sym (small (length params) (omega (arith, few_params)));
      }

  module _ (ds : List Declared) (few_globals : length p.globals ≤ 4096) (few_registers : length p.registers ≤ 8) (few_functions : length p.functions ≤ 1000) where
    item_fits : (x : RawItem) (rest : List RawItem) (file : Names) → Reached p ds (x ∷ rest) file → IsEmpty (items_faults ds (x ∷ rest)) → NamesFit p k file.declared →
        NamesFit p k (enter x.kind file).declared
    item_fits x rest file reached sound names = by_kind x.kind reached.globals reached.registers reached.functions sound.0
      where
        by_kind : (kind : RawItemKind) → p.globals ≡ reached.gs ++ (globals_of kind ++ all_of globals_of rest) → p.registers ≡ reached.rs ++ (registers_of kind ++ all_of registers_of rest) →
            p.functions ≡ reached.fs ++ (functions_of ds kind ++ all_of (functions_of ds) rest) → IsEmpty (item_faults ds kind) → NamesFit p k (enter kind file).declared
        by_kind (i.Globals ty all) globals registers functions sound =
            globals_fit (is_constant ty.qualifiers) all (all_of globals_of rest) reached.gs file globals reached.at_globals few_globals names
        by_kind (i.Registers int all) globals registers functions sound = registers_fit all (all_of registers_of rest) reached.rs file registers reached.at_registers few_registers names
        by_kind (i.Function result params body) globals registers functions sound =
            first_fits (name_of_head result) (means.Function (length file.functions) (has_value result) (length (params_of params))) file.declared names
            (function_fits ds result (params_of params) body (all_of (functions_of ds) rest) reached.fs (length file.functions) functions reached.at_functions few_functions
            (few_params ds result (params_of params) body sound))
        by_kind (i.Proto result params) globals registers functions sound = names

    pub items_fit : (rest : List RawItem) (file : Names) → Reached p ds rest file → IsEmpty (items_faults ds rest) → NamesFit p k file.declared → NamesFit p k (enter_all rest file).declared
    items_fit [] file reached sound names = names
    items_fit (x ∷ rest) file reached sound names =
        items_fit rest (enter x.kind file) (reached_next p ds x rest file reached) sound.1 (item_fits x rest file reached sound names)
