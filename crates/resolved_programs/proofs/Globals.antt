-- The globals of a program: their names differ and are spelled as names, and each has a length.
use Rattle.std.proofs.Common.{◌≡◌, refl, sym, ◌∙◌, ap, subst, arith, ℕ, ◌^◌, ◌≤◌, Bool, true, false, List, [], ◌∷◌, ◌++◌, length, append_assoc, get_or, Option, Some, None}
use Rattle.std.proofs.lemmas.Bool.{true≢false, false≢true, and_parts, ltb-false, ltb-true}
use Rattle.std.proofs.lemmas.List.{length-map}
use Rattle.std.specs.Prelude.{All, AllPairs, ◌≢◌, map, sum, nat_lt, ◌==◌, is_some, is_none, if◌then◌else◌}
use Rattle.std.specs.Option.{unwrap_or}
use Rattle.std.proofs.lemmas.Bool.Decides.{nat_tests}
use Rattle.std.proofs.lemmas.List.Elements.{All-nil, All-cons, All-append, All-push, All-weaker}
use Rattle.std.proofs.lemmas.List.Quantifiers.{all_pairs_push}
use Rattle.raw_tree.specs.declared.tree.RawName.{RawName}
use Rattle.raw_tree.specs.declared.tree.RawValues.{RawValues}
use Rattle.raw_tree.specs.declared.tree.RawGlobal.{RawGlobal}
use Rattle.raw_tree.specs.declared.tree.RawGlobal.TheVariants as g
use Rattle.raw_tree.specs.declared.tree.RawItem.{RawItem}
use Rattle.raw_tree.specs.declared.tree.RawItemKind.{RawItemKind}
use Rattle.raw_tree.specs.declared.tree.RawItemKind.TheVariants as i
use Rattle.source_meaning.specs.declared.tree.GlobalVar.{GlobalVar}
use Rattle.name_scopes.specs.declared.fault.NameKind.TheVariants as kinds
use Rattle.name_scopes.specs.declared.scope.Binding.{Binding}
use Rattle.name_scopes.specs.declared.scope.Declared.{Declared}
use Rattle.name_scopes.specs.Scope.{look}
use Rattle.name_scopes.specs.Constant.{constant}
use Rattle.name_scopes.specs.Locals.{is_constant}
use Rattle.name_faults.specs.Nodes.{nodes_of_global, nodes_of_item, nodes_of_items}
use Rattle.name_faults.specs.Items.{Names, enter_global, enter_globals, enter, name_of_global, meaning_of_global, again_globals, again, again_all, is_length, room, length_fault, initial_faults, global_faults, globals_faults, item_faults, items_faults}
use Rattle.typed_programs.specs.Items.{value_of, values_of, global, globals_of, all_of}
use Rattle.checked_programs.specs.Checked.{IsShortName, HasLength}
use Rattle.resolved_programs.specs.FromSource.{GlobalsAreSpelled, ItemFromSource, ItemsFromSource}
use Rattle.resolved_programs.proofs.NoFaults.{IsEmpty, fails, holds_not}
use Rattle.resolved_programs.proofs.Growth.{none_more}
use Rattle.resolved_programs.proofs.StatementNodes.{sum_more}
use Rattle.resolved_programs.proofs.Looks.{stays, stays_in_item, declared_first}

-- ---- names

abbrev Differ : List GlobalVar → Type 0
Differ gs = AllPairs (λ (a b : GlobalVar). a.name ≢ b.name) gs

-- each of these is declared in the file
abbrev AreDeclared : Names → List GlobalVar → Type 0
AreDeclared file gs = All (λ (x : GlobalVar). is_some (look file.declared x.name) ≡ true) gs

same_name : (constant : Bool) (x : RawGlobal) → (global constant x).name ≡ (name_of_global x).bytes
same_name constant (g.Scalar name value) = refl
same_name constant (g.Array name words values) = refl
same_name constant (g.Open name values) = refl

-- what stays declared
some_stays : (old new : List Declared) → ((name : List ℕ) (b : Binding) → look old name ≡ Some b → look new name ≡ Some b) → (name : List ℕ) → is_some (look old name) ≡ true → is_some (look new name) ≡ true
some_stays old new stay name some = found (look old name) refl some
  where
    found : (o : Option Binding) → look old name ≡ o → is_some o ≡ true → is_some (look new name) ≡ true
    found (Some b) is some = ap is_some (stay name b is)
    found None is some = absurd (false≢true some)

new_differs : (ds : List Declared) (a b : List ℕ) → is_some (look ds a) ≡ true → is_some (look ds b) ≡ false → a ≡ b → ⊥
new_differs ds a b some none same = absurd (true≢false (sym some ∙ ap (λ name. is_some (look ds name)) same ∙ none))

-- the names of more globals differ, and all are declared
record Further (file : Names) (gs : List GlobalVar) : Type 0 where
  differ : Differ gs
  declared : AreDeclared file gs

further_one : (constant : Bool) (x : RawGlobal) (file : Names) (gs : List GlobalVar) → is_some (look file.declared (name_of_global x).bytes) ≡ false → Further file gs →
    Further (enter_global constant x file) (gs ++ global constant x ∷ [])
further_one constant x file gs none before =
    let own : is_some (look file.declared (global constant x).name) ≡ false = ap (λ name. is_some (look file.declared name)) (same_name constant x) ∙ none in
    let kept : (name : List ℕ) → is_some (look file.declared name) ≡ true → is_some (look (enter_global constant x file).declared name) ≡ true =
    some_stays file.declared (enter_global constant x file).declared (stays (name_of_global x) (meaning_of_global (length file.globals) constant x) file.declared) in
    let here : is_some (look (enter_global constant x file).declared (global constant x).name) ≡ true =
    ap (λ name. is_some (look (enter_global constant x file).declared name)) (same_name constant x)
    ∙ ap is_some (declared_first (name_of_global x) (meaning_of_global (length file.globals) constant x) file.declared none) in
    record {
      differ = all_pairs_push (λ (a b : GlobalVar). a.name ≢ b.name) gs (global constant x) before.differ
          (λ n d below same. new_differs file.declared (get_or gs n d).name (global constant x).name (before.declared n d below) own same);
      declared = All-push (λ (y : GlobalVar). is_some (look (enter_global constant x file).declared y.name) ≡ true) gs (global constant x)
          (All-weaker (λ (y : GlobalVar). is_some (look file.declared y.name) ≡ true) (λ (y : GlobalVar). is_some (look (enter_global constant x file).declared y.name) ≡ true)
          (λ y some. kept y.name some) gs before.declared) here;
    }

further_globals : (constant : Bool) (all : List RawGlobal) (file : Names) (gs : List GlobalVar) → IsEmpty (again_globals constant all file) → Further file gs →
    Further (enter_globals constant all file) (gs ++ map (global constant) all)
further_globals constant [] file gs sound before = subst (Further file) (none_more gs) before
further_globals constant (x ∷ rest) file gs sound before =
    let new = fails (is_some (look file.declared (name_of_global x).bytes)) kinds.Double (name_of_global x).at sound.0 in
    subst (Further (enter_globals constant rest (enter_global constant x file))) (append_assoc gs (global constant x ∷ []) (map (global constant) rest))
    (further_globals constant rest (enter_global constant x file) (gs ++ global constant x ∷ []) sound.1 (further_one constant x file gs new before))

kept_declared : (kind : RawItemKind) (file : Names) (gs : List GlobalVar) → Further file gs → Further (enter kind file) gs
kept_declared kind file gs before =
    record {
      differ = before.differ;
      declared = All-weaker (λ (y : GlobalVar). is_some (look file.declared y.name) ≡ true) (λ (y : GlobalVar). is_some (look (enter kind file).declared y.name) ≡ true)
          (λ y some. some_stays file.declared (enter kind file).declared (stays_in_item kind file) y.name some) gs before.declared;
    }

names_differ : (rest : List RawItem) (file : Names) (gs : List GlobalVar) → IsEmpty (again_all rest file) → Further file gs → Differ (gs ++ all_of globals_of rest)
names_differ [] file gs sound before = subst Differ (none_more gs) before.differ
names_differ (x ∷ rest) file gs sound before = by_kind x.kind sound.0 (λ gs further. names_differ rest (enter x.kind file) gs sound.1 further)
  where
    by_kind : (kind : RawItemKind) → IsEmpty (again kind file) → ((gs : List GlobalVar) → Further (enter kind file) gs → Differ (gs ++ all_of globals_of rest)) →
        Differ (gs ++ (globals_of kind ++ all_of globals_of rest))
    by_kind (i.Globals ty all) sound behind =
        subst Differ (append_assoc gs (map (global (is_constant ty.qualifiers)) all) (all_of globals_of rest))
        (behind (gs ++ map (global (is_constant ty.qualifiers)) all) (further_globals (is_constant ty.qualifiers) all file gs sound before))
    by_kind (i.Registers int all) sound behind = behind gs (kept_declared (i.Registers int all) file gs before)
    by_kind (i.Function result params body) sound behind = behind gs (kept_declared (i.Function result params body) file gs before)
    by_kind (i.Proto result params) sound behind = behind gs (kept_declared (i.Proto result params) file gs before)

pub globals_differ : (items : List RawItem) (file : Names) → IsEmpty (again_all items file) → Differ (all_of globals_of items)
globals_differ items file sound = names_differ items file [] sound (record { differ = λ n m d less within. absurd (omega arith); declared = All-nil (λ (x : GlobalVar). is_some (look file.declared x.name) ≡ true) })

-- ---- spelled

abbrev pub HasShortName : GlobalVar → Type 0
HasShortName x = IsShortName x.name

named_all : (constant : Bool) (all : List RawGlobal) → GlobalsAreSpelled all → All HasShortName (map (global constant) all)
named_all constant [] from = All-nil HasShortName
named_all constant (x ∷ rest) from = All-cons HasShortName (global constant x) (map (global constant) rest) (subst IsShortName (sym (same_name constant x)) from.0) (named_all constant rest from.1)

pub globals_named : (items : List RawItem) → ItemsFromSource items → All HasShortName (all_of globals_of items)
globals_named [] from = All-nil HasShortName
globals_named (x ∷ rest) from = by_kind x.kind from.0 (globals_named rest from.1)
  where
    by_kind : (kind : RawItemKind) → ItemFromSource kind → All HasShortName (all_of globals_of rest) → All HasShortName (globals_of kind ++ all_of globals_of rest)
    by_kind (i.Globals ty all) from behind =
        All-append HasShortName (map (global (is_constant ty.qualifiers)) all) (all_of globals_of rest) (named_all (is_constant ty.qualifiers) all from) behind
    by_kind (i.Registers int all) from behind = behind
    by_kind (i.Function result params body) from behind = behind
    by_kind (i.Proto result params) from behind = behind

-- ---- lengths

is_not_none : (n : ℕ) → (n == 0) ≡ false → 1 ≤ n
is_not_none n is = grind (arith, nat_tests)

room_of : (n : ℕ) → nat_lt n (2 ^ 31) ≡ true → room n ≡ n
room_of n is = ap (λ t. if t then n else 0) is

-- an array's length, and how many values open it
record OpensWithin (length count : ℕ) : Type 0 where
  some : 1 ≤ length
  within : count ≤ length

array_opens : (ds : List Declared) (name : RawName) (o : Option ℕ) (values : Option RawValues) → is_none o ≡ false → IsEmpty (length_fault name o) → IsEmpty (initial_faults ds name o values) →
    OpensWithin (unwrap_or o 0) (length (values_of values))
array_opens ds name None values constant_length sound initial = absurd (true≢false constant_length)
array_opens ds name (Some n) values constant_length sound initial = opened_by values initial
  where
    opened_by : (values : Option RawValues) → IsEmpty (initial_faults ds name (Some n) values) → OpensWithin n (length (values_of values))
    opened_by None initial = record { some = ltb-true 0 n (and_parts (nat_lt 0 n) (nat_lt n (2 ^ 31)) (holds_not (is_length n) kinds.BadLength name.at sound)).0; within = omega arith }
    opened_by (Some all) initial =
        let bounds = and_parts (nat_lt 0 n) (nat_lt n (2 ^ 31)) (holds_not (is_length n) kinds.BadLength name.at sound) in
        let few = ltb-false (room n) (length all.values) (fails (nat_lt (room n) (length all.values)) kinds.WrongCount name.at initial.0) in
        record { some = ltb-true 0 n bounds.0; within = omega (arith, few, room_of n bounds.1, length-map all.values value_of) }

length_one : (ds : List Declared) (constant_words : Bool) (x : RawGlobal) → IsEmpty (global_faults ds x) → nodes_of_global x ≤ 65536 → HasLength (global constant_words x)
length_one ds c (g.Scalar name None) sound few = record { some = omega arith; room = omega arith; scalar = λ is. refl }
length_one ds c (g.Scalar name (Some value)) sound few = record { some = omega arith; room = omega arith; scalar = λ is. refl }
length_one ds c (g.Array name words values) sound few =
    let opens = array_opens ds name (constant words.kind) values (fails (is_none (constant words.kind)) kinds.NotConstant words.at sound.0.0.1) sound.0.1 sound.1 in
    record { some = opens.some; room = opens.within; scalar = λ is. absurd (true≢false is) }
length_one ds c (g.Open name values) sound few =
    let some = is_not_none (length values.values) (fails (length values.values == 0) kinds.BadLength name.at sound.0) in
    record { some = omega arith; room = omega (arith, length-map values.values value_of); scalar = λ is. absurd (true≢false is) }

lengths_all : (ds : List Declared) (c : Bool) (all : List RawGlobal) → IsEmpty (globals_faults ds all) → sum (map nodes_of_global all) ≤ 65536 → All HasLength (map (global c) all)
lengths_all ds c [] sound few = All-nil HasLength
lengths_all ds c (x ∷ rest) sound few =
    let more = sum_more nodes_of_global x rest in
    All-cons HasLength (global c x) (map (global c) rest) (length_one ds c x sound.0 (omega arith)) (lengths_all ds c rest sound.1 (omega arith))

pub globals_lengths : (ds : List Declared) (items : List RawItem) → IsEmpty (items_faults ds items) → nodes_of_items items ≤ 65536 → All HasLength (all_of globals_of items)
globals_lengths ds [] sound few = All-nil HasLength
globals_lengths ds (x ∷ rest) sound few =
    let more = sum_more (λ (y : RawItem). nodes_of_item y.kind) x rest in
    by_kind x.kind sound.0 (omega arith) (globals_lengths ds rest sound.1 (omega arith))
  where
    by_kind : (kind : RawItemKind) → IsEmpty (item_faults ds kind) → nodes_of_item kind ≤ 65536 → All HasLength (all_of globals_of rest) → All HasLength (globals_of kind ++ all_of globals_of rest)
    by_kind (i.Globals ty all) sound few behind =
        All-append HasLength (map (global (is_constant ty.qualifiers)) all) (all_of globals_of rest) (lengths_all ds (is_constant ty.qualifiers) all sound few) behind
    by_kind (i.Registers int all) sound few behind = behind
    by_kind (i.Function result params body) sound few behind = behind
    by_kind (i.Proto result params) sound few behind = behind
