-- Where no rule is broken, each global has a word, and a word for each value that it opens with.
use Rattle.std.proofs.Common.{◌≡◌, ◌≤◌, ◌+◌, refl, sym, ◌∙◌, ap, subst, inl, inr, arith, ℕ, Bool, true, false, List, [], ◌∷◌, map, length, Option, Some, None, not}
use Rattle.std.specs.Prelude.{◌==◌, nat_lt, All, sum, sum_by, is_none}
use Rattle.std.specs.Option.{unwrap_or}
use Rattle.std.proofs.lemmas.Bool.Decides.{nat_tests}
use Rattle.std.proofs.lemmas.List.{length-map}
use Rattle.std.proofs.lemmas.List.Elements.{All-nil, All-cons, All-append, All-weaker}
use Rattle.std.proofs.lemmas.List.Sums.{sum-map, sum_by-cons}
use Rattle.xmt_base.specs.declared.values.Place.{Place}
use Rattle.raw_tree.specs.declared.tree.RawExpr.{RawExpr}
use Rattle.raw_tree.specs.declared.tree.RawName.{RawName}
use Rattle.raw_tree.specs.declared.tree.RawValues.{RawValues}
use Rattle.raw_tree.specs.declared.tree.RawGlobal.{RawGlobal}
use Rattle.raw_tree.specs.declared.tree.RawGlobal.TheVariants as g
use Rattle.raw_tree.specs.declared.tree.RawItem.{RawItem}
use Rattle.raw_tree.specs.declared.tree.RawItemKind.{RawItemKind}
use Rattle.raw_tree.specs.declared.tree.RawItemKind.TheVariants as i
use Rattle.raw_tree.specs.declared.tree.RawProgram.{RawProgram}
use Rattle.source_meaning.specs.declared.tree.GlobalVar.{GlobalVar}
use Rattle.source_meaning.specs.declared.tree.Program.{Program}
use Rattle.source_meaning.specs.Layout.{HasRoom}
use Rattle.name_scopes.specs.declared.fault.Fault.{Fault}
use Rattle.name_scopes.specs.declared.fault.Which.TheVariants as which
use Rattle.name_scopes.specs.declared.fault.NameKind.{NameKind}
use Rattle.name_scopes.specs.declared.fault.NameKind.TheVariants as kind
use Rattle.name_scopes.specs.declared.scope.Declared.{Declared}
use Rattle.name_scopes.specs.Constant.{constant}
use Rattle.name_scopes.specs.Fault.{Faults, both, when, IsAmong}
use Rattle.name_scopes.specs.Locals.{is_constant}
use Rattle.name_faults.specs.Nodes.{nodes_of_global, nodes_of_item, nodes_of_items}
use Rattle.name_faults.specs.Expressions.{constant_faults}
use Rattle.name_faults.specs.Items.{is_length, room, length_fault, initial_faults, global_faults, globals_faults, item_faults, items_faults, program_faults}
use Rattle.typed_programs.specs.Items.{value_of, global, globals_of, all_of, program, names_of_file, Resolves}

-- none of these is broken
record Sound (faults : Faults) : Type 0 where
  nothing : (fault : Fault) → ¬ IsAmong fault faults

left : {a b : Faults} → Sound (both a b) → Sound a
left sound = record { nothing = λ fault among. sound.nothing fault (inl among) }

right : {a b : Faults} → Sound (both a b) → Sound b
right sound = record { nothing = λ fault among. sound.nothing fault (inr among) }

passed : (test : Bool) (what : NameKind) (place : Place) → Sound (when test what place) → test ≡ false
passed true what place sound = absurd (sound.nothing (record { kind = what; place = place }) refl)
passed false what place sound = refl

different : {A : Type 0} → true ≡ false → A
different is = cc

not_false : (test : Bool) → not test ≡ false → test ≡ true
not_false true is = refl
not_false false is = different is

-- a global is at least one word long and has room for its values
record Fits (x : GlobalVar) : Type 0 where
  some : 1 ≤ x.length
  room : HasRoom x

long : (n : ℕ) → is_length n ≡ true → 1 ≤ n
long n is = grind (arith, nat_tests, is)

enough : (n count : ℕ) → nat_lt (room n) count ≡ false → count ≤ n
enough n count is = grind (arith, nat_tests, is)

full_array : (c : Bool) (ds : List Declared) (name : RawName) (words : RawExpr) (n : ℕ) (values : Option RawValues) → constant words.kind ≡ Some n →
    Sound (initial_faults ds name (Some n) values) → HasRoom (global c (g.Array name words values))
full_array c ds name words n None is sound = omega arith
full_array c ds name words n (Some all) is sound =
    let fits : length all.values ≤ n = enough n (length all.values) (passed (nat_lt (room n) (length all.values)) kind.WrongCount name.at (left sound)) in
    let known : value_of words ≡ n = ap (λ o. unwrap_or o 0) is in
    let same : length (map value_of all.values) ≡ length all.values = length-map all.values value_of in
    omega arith

array_fits : (c : Bool) (ds : List Declared) (name : RawName) (words : RawExpr) (values : Option RawValues) (n : Option ℕ) → constant words.kind ≡ n →
    Sound (both (constant_faults ds words) (length_fault name (constant words.kind))) → Sound (initial_faults ds name (constant words.kind) values) →
    Fits (global c (g.Array name words values))
array_fits c ds name words values None is words_sound values_sound =
    let some : is_none (constant words.kind) ≡ false = passed (is_none (constant words.kind)) kind.NotConstant words.at (right (left words_sound)) in
    different (sym (ap (λ (o : Option ℕ). is_none o) is) ∙ some)
array_fits c ds name words values (Some n) is words_sound values_sound =
    let length_sound = subst (λ o. Sound (length_fault name o)) is (right words_sound) in
    let rest_sound = subst (λ o. Sound (initial_faults ds name o values)) is values_sound in
    let least : 1 ≤ n = long n (not_false (is_length n) (passed (not (is_length n)) kind.BadLength name.at length_sound)) in
    let known : value_of words ≡ n = ap (λ o. unwrap_or o 0) is in
    record { some = omega arith; room = full_array c ds name words n values is rest_sound }

global_fits : (c : Bool) (ds : List Declared) (x : RawGlobal) → nodes_of_global x ≤ 65536 → Sound (global_faults ds x) → Fits (global c x)
global_fits c ds (g.Scalar name None) small sound = record { some = omega arith; room = omega arith }
global_fits c ds (g.Scalar name (Some a)) small sound = record { some = omega arith; room = omega arith }
global_fits c ds (g.Array name words values) small sound = array_fits c ds name words values (constant words.kind) refl (left sound) (right sound)
global_fits c ds (g.Open name all) small sound =
    let any : (length all.values == 0) ≡ false = passed (length all.values == 0) kind.BadLength name.at (left sound) in
    let least : 1 ≤ length all.values = grind (arith, nat_tests, any) in
    let same : length (map value_of all.values) ≡ length all.values = length-map all.values value_of in
    record { some = omega arith; room = omega arith }

globals_fit : (c : Bool) (ds : List Declared) (all : List RawGlobal) → sum_by nodes_of_global all ≤ 65536 → Sound (globals_faults ds all) → All Fits (map (global c) all)
globals_fit c ds [] small sound = All-nil Fits
globals_fit c ds (x ∷ rest) small sound =
    let parts : sum_by nodes_of_global (x ∷ rest) ≡ nodes_of_global x + sum_by nodes_of_global rest = sum_by-cons nodes_of_global x rest in
    All-cons Fits (global c x) (map (global c) rest)
    (global_fits c ds x (omega arith) (left sound))
    (globals_fit c ds rest (omega arith) (right sound))

item_fits : (ds : List Declared) (what : RawItemKind) → nodes_of_item what ≤ 65536 → Sound (item_faults ds what) → All Fits (globals_of what)
item_fits ds (i.Globals ty all) small sound =
    let same : sum (map nodes_of_global all) ≡ sum_by nodes_of_global all = sum-map nodes_of_global all in
    globals_fit (is_constant ty.qualifiers) ds all (omega arith) sound
item_fits ds (i.Registers int all) small sound = All-nil Fits
item_fits ds (i.Function result params body) small sound = All-nil Fits
item_fits ds (i.Proto result params) small sound = All-nil Fits

abbrev item_nodes : RawItem → ℕ
item_nodes x = nodes_of_item x.kind

items_fit : (ds : List Declared) (items : List RawItem) → sum_by item_nodes items ≤ 65536 → Sound (items_faults ds items) → All Fits (all_of globals_of items)
items_fit ds [] small sound = All-nil Fits
items_fit ds (x ∷ rest) small sound =
    let parts : sum_by item_nodes (x ∷ rest) ≡ item_nodes x + sum_by item_nodes rest = sum_by-cons item_nodes x rest in
    All-append Fits (globals_of x.kind) (all_of globals_of rest)
    (item_fits ds x.kind (omega arith) (left sound))
    (items_fit ds rest (omega arith) (right sound))

few : (n : ℕ) → nat_lt 65536 n ≡ false → n ≤ 65536
few n is = grind (arith, nat_tests, is)

program_fits : (tree : RawProgram) → Sound (program_faults tree) → All Fits (program tree).globals
program_fits tree sound =
    let small : nodes_of_items tree.items ≤ 65536 = few (nodes_of_items tree.items) (passed (nat_lt 65536 (nodes_of_items tree.items)) (kind.TooMany which.Nodes) tree.end (left (right (right (right sound))))) in
    let same : nodes_of_items tree.items ≡ sum_by item_nodes tree.items = sum-map item_nodes tree.items in
    items_fit (names_of_file tree) tree.items (omega arith) (left (right sound))

-- each global has a word for each value that it opens with
pub room_of_globals : (tree : RawProgram) (result : Program) → Resolves tree result → All HasRoom result.globals
room_of_globals tree result is =
    let fits = All-weaker Fits HasRoom (λ x f. f.room) (program tree).globals (program_fits tree (record { nothing = is.sound })) in
    subst (λ (p : Program). All HasRoom p.globals) (sym is.same) fits

-- each global has a word
pub words_of_globals : (tree : RawProgram) (result : Program) → Resolves tree result → All (λ (x : GlobalVar). 1 ≤ x.length) result.globals
words_of_globals tree result is =
    let fits = All-weaker Fits (λ (x : GlobalVar). 1 ≤ x.length) (λ x f. f.some) (program tree).globals (program_fits tree (record { nothing = is.sound })) in
    subst (λ (p : Program). All (λ (x : GlobalVar). 1 ≤ x.length) p.globals) (sym is.same) fits
