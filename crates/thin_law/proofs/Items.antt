-- The items of a thin source: what they declare, what they stand for, and that nothing is broken in them.
use Rattle.std.proofs.Common.{◌≡◌, refl, sym, ◌∙◌, ap, arith, ℕ, suc, ◌+◌, ◌<◌, ◌≤◌, ◌^◌, Bool, true, false, List, [], ◌∷◌, length, length-append, Option, Some, None, codes}
use Rattle.std.specs.Prelude.{not, is_some, slice_index_or, sum, map}
use Rattle.std.specs.Str.{bytes_eq}
use Rattle.std.proofs.lemmas.List.Sums.{sum-map, sum_by-cons}
use Rattle.std.proofs.lemmas.Bool.Decides.{nat_tests}
use Rattle.std.proofs.lemmas.Slice.Eq.{bytes_eq-Decides}
use Rattle.xmt_base.specs.declared.values.Place.{Place}
use Rattle.source_meaning.specs.declared.tree.Stmt.{Stmt}
use Rattle.source_meaning.specs.declared.tree.GlobalVar.{GlobalVar}
use Rattle.source_meaning.specs.declared.tree.Function.{Function}
use Rattle.source_meaning.specs.Layout.{all_words}
use Rattle.thin_source.specs.Thin.{NamesDiffer}
use Rattle.raw_tree.specs.declared.tree.RawName.{RawName}
use Rattle.raw_tree.specs.declared.tree.RawStmt.{RawStmt}
use Rattle.raw_tree.specs.declared.tree.RawGlobal.{RawGlobal}
use Rattle.raw_tree.specs.declared.tree.RawResult.TheVariants as head
use Rattle.raw_tree.specs.declared.tree.RawParams.TheVariants as params
use Rattle.raw_tree.specs.declared.tree.RawItem.{RawItem}
use Rattle.raw_tree.specs.declared.tree.RawItemKind.TheVariants as kinds
use Rattle.raw_tree.specs.Items.{item}
use Rattle.name_scopes.specs.declared.fault.Which.TheVariants as which
use Rattle.name_scopes.specs.declared.fault.NameKind.TheVariants as kind
use Rattle.name_scopes.specs.declared.scope.Meaning.{Meaning}
use Rattle.name_scopes.specs.declared.scope.Meaning.TheVariants as means
use Rattle.name_scopes.specs.declared.scope.Binding.{Binding}
use Rattle.name_scopes.specs.declared.scope.Declared.{Declared}
use Rattle.name_scopes.specs.Scope.{look}
use Rattle.name_scopes.specs.Locals.{Env}
use Rattle.name_faults.specs.Expressions.{meaning_of}
use Rattle.name_faults.specs.Statements.{after_all}
use Rattle.name_faults.specs.Nodes.{nodes_of_global, nodes_of_item, nodes_of_items}
use Rattle.name_faults.specs.Items.{Names, name_of_global, meaning_of_global, enter_global, enter_all, again_fault, again_all, is_length, global_faults, items_faults, has_main}
use Rattle.typed_programs.specs.Expressions.{number}
use Rattle.typed_programs.specs.Statements.{typed_all}
use Rattle.typed_programs.specs.Items.{global, globals_of, registers_of, functions_of, all_of}
use Rattle.thin_law.proofs.Trees as of
use Rattle.thin_law.proofs.Trees.{OfGlobal, OfItems}
use Rattle.thin_law.proofs.Clean.{IsClean, nothing, neither, holds_not, within_limit}
use Rattle.thin_law.proofs.Found.{or_else, if_named, or_else_assoc, first_counts, meaning_at, find}
use Rattle.thin_law.proofs.Expressions.{IsFound}
use Rattle.thin_law.proofs.Statements.{inside, same_stmts}

-- ---- one global

-- how a raw global stands to the thin one
record IsSameGlobal (v : GlobalVar) (g : RawGlobal) : Type 0 where
  named : (name_of_global g).bytes ≡ v.name
  meaning : (n : ℕ) → meaning_of_global n false g ≡ meaning_at n v
  typed : global false g ≡ v
  counted : sum (map nodes_of_global (g ∷ [])) ≡ 1
  clean : (ds : List Declared) → v.length ≤ 2 ^ 20 → IsClean (global_faults ds g)

long : (n : ℕ) → 1 ≤ n → n ≤ 2 ^ 20 → not (is_length n) ≡ false
long n some few = grind (arith, nat_tests)

same_global : {v : GlobalVar} {g : RawGlobal} → OfGlobal v g → IsSameGlobal v g
same_global (of.variable name) = record { named = refl; meaning = λ n. refl; typed = refl; counted = refl; clean = λ ds few. nothing }
same_global (of.array name at {length = n} some) =
    record {
      named = refl;
      meaning = λ n. refl;
      typed = refl;
      counted = refl;
      clean = λ ds few. neither (neither (neither nothing nothing) (holds_not (not (is_length n)) kind.BadLength name.at (long n some few))) nothing;
    }

-- ---- what is declared

abbrev function_at : (number : ℕ) → Meaning
function_at number = means.Function number true 0

-- behind one global
behind_global : {v : GlobalVar} {g : RawGlobal} → OfGlobal v g → (file : Names) (name : List ℕ) →
    meaning_of (look (enter_global false g file).declared name) ≡ or_else (meaning_of (look file.declared name)) (if_named (bytes_eq name v.name) (meaning_at (length file.globals) v))
behind_global {v = v} {g = g} of_global file name =
    let is = same_global of_global in
    first_counts (name_of_global g) (meaning_of_global (length file.globals) false g) file.declared name
    ∙ ap (λ bytes. or_else (meaning_of (look file.declared name)) (if_named (bytes_eq name bytes) (meaning_of_global (length file.globals) false g))) is.named
    ∙ ap (λ m. or_else (meaning_of (look file.declared name)) (if_named (bytes_eq name v.name) m)) (is.meaning (length file.globals))

one_longer : (file : Names) (g : RawGlobal) → length (enter_global false g file).globals ≡ suc (length file.globals)
one_longer file g = omega (arith, length-append file.globals ((name_of_global g).at ∷ []))

-- names that differ
pub apart : (a b : List ℕ) → ¬ (a ≡ b) → bytes_eq a b ≡ false
apart a b differ = by (bytes_eq a b) refl
  where
    by : (is : Bool) → bytes_eq a b ≡ is → is ≡ false
    by false is = refl
    by true is = absurd (differ ((bytes_eq-Decides a b).0 is))

module _ (all : List GlobalVar) where
  pub declared : {count : ℕ} {globals : List GlobalVar} {body : List Stmt} {items : List RawItem} → OfItems all count globals body items → (file : Names) (name : List ℕ) →
      meaning_of (look (enter_all items file).declared name)
      ≡ or_else (meaning_of (look file.declared name)) (or_else (find (length file.globals) globals name) (if_named (bytes_eq name (codes "main")) (function_at (length file.functions))))
  declared (of.main p word is body) file name =
      first_counts word (function_at (length file.functions)) file.declared name
      ∙ ap (λ bytes. or_else (meaning_of (look file.declared name)) (if_named (bytes_eq name bytes) (function_at (length file.functions)))) is
  declared (of.one_global p q {v = v} {g = g} {rest = rest} of_global other items) file name =
      let next = enter_global false g file in
      let found = meaning_of (look file.declared name) in
      let this = if_named (bytes_eq name v.name) (meaning_at (length file.globals) v) in
      let last = if_named (bytes_eq name (codes "main")) (function_at (length file.functions)) in
      declared items next name
      ∙ ap (λ front. or_else front (or_else (find (length next.globals) rest name) last)) (behind_global of_global file name)
      ∙ ap (λ n. or_else (or_else found this) (or_else (find n rest name) last)) (one_longer file g)
      ∙ or_else_assoc found this (or_else (find (suc (length file.globals)) rest name) last)
      ∙ ap (or_else found) (sym (or_else_assoc this (find (suc (length file.globals)) rest name) last))

  -- how many globals and functions there are
  pub globals_in : {count : ℕ} {globals : List GlobalVar} {body : List Stmt} {items : List RawItem} → OfItems all count globals body items → (file : Names) → length (enter_all items file).globals ≡ length file.globals + length globals
  globals_in (of.main p word is body) file = omega arith
  globals_in (of.one_global p q {g = g} of_global other items) file = omega (arith, globals_in items (enter_global false g file), one_longer file g)

  pub functions_in : {count : ℕ} {globals : List GlobalVar} {body : List Stmt} {items : List RawItem} → OfItems all count globals body items → (file : Names) → length (enter_all items file).functions ≡ length file.functions + 1
  functions_in (of.main p word is body) file = omega (arith, length-append file.functions (word.at ∷ []))
  functions_in (of.one_global p q {g = g} of_global other items) file = functions_in items (enter_global false g file)

  pub registers_in : {count : ℕ} {globals : List GlobalVar} {body : List Stmt} {items : List RawItem} → OfItems all count globals body items → (file : Names) → (enter_all items file).registers ≡ file.registers
  registers_in (of.main p word is body) file = refl
  registers_in (of.one_global p q {g = g} of_global other items) file = registers_in items (enter_global false g file)

  -- no global has the name of `main`
  pub main_alone : {count : ℕ} {globals : List GlobalVar} {body : List Stmt} {items : List RawItem} → OfItems all count globals body items → (n : ℕ) → find n globals (codes "main") ≡ None
  main_alone (of.main p word is body) n = refl
  main_alone (of.one_global p q {v = v} {rest = rest} of_global other items) n =
      ap (λ is. or_else (if_named is (meaning_at n v)) (find (suc n) rest (codes "main"))) (apart (codes "main") v.name (λ same. other (sym same))) ∙ main_alone items (suc n)

-- ---- no name is declared twice

new_name : (name : RawName) (ds : List Declared) → meaning_of (look ds name.bytes) ≡ None → IsClean (again_fault name ds)
new_name name ds is = holds_not (is_some (look ds name.bytes)) kind.Double name.at (by (look ds name.bytes) is)
  where
    by : (found : Option Binding) → meaning_of found ≡ None → is_some found ≡ false
    by None is = refl
    by (Some b) is = absurd (cc)

-- none of these names is declared
abbrev AreNew : List GlobalVar → Names → Type 0
AreNew globals file = (i : ℕ) (d : GlobalVar) → i < length globals → meaning_of (look file.declared (slice_index_or globals i d).name) ≡ None

module _ (all : List GlobalVar) where
  pub once : {count : ℕ} {globals : List GlobalVar} {body : List Stmt} {items : List RawItem} → OfItems all count globals body items → (file : Names) →
      NamesDiffer globals → AreNew globals file → meaning_of (look file.declared (codes "main")) ≡ None → IsClean (again_all items file)
  once (of.main p word is body) file differ are_new main_new = neither (new_name word file.declared (ap (λ bytes. meaning_of (look file.declared bytes)) is ∙ main_new)) nothing
  once (of.one_global p q {v = v} {g = g} {rest = rest} of_global other items) file differ are_new main_new =
      let next = enter_global false g file in
      let named = (same_global of_global).named in
      neither (neither (new_name (name_of_global g) file.declared (ap (λ bytes. meaning_of (look file.declared bytes)) named ∙ are_new 0 v (omega arith))) nothing)
      (once items next (λ i j d before within. differ (suc i) (suc j) d (omega arith) (omega arith)) (others_new next refl)
      (still (codes "main") main_new (apart (codes "main") v.name (λ same. other (sym same)))))
    where
      -- what isn't declared yet, and has another name
      still : (name : List ℕ) → meaning_of (look file.declared name) ≡ None → bytes_eq name v.name ≡ false → meaning_of (look (enter_global false g file).declared name) ≡ None
      still name none is =
          behind_global of_global file name ∙ ap (λ found. or_else found (if_named (bytes_eq name v.name) (meaning_at (length file.globals) v))) none
          ∙ ap (λ same. if_named same (meaning_at (length file.globals) v)) is

      others_new : (next : Names) → next ≡ enter_global false g file → AreNew rest next
      others_new next is i d within =
          ap (λ (names : Names). meaning_of (look names.declared (slice_index_or rest i d).name)) is
          ∙ still (slice_index_or rest i d).name (are_new (suc i) d (omega arith)) (apart (slice_index_or rest i d).name v.name (λ same. differ 0 (suc i) d (omega arith) (omega arith) (sym same)))

-- ---- the items

few_in : (v : GlobalVar) (rest : List GlobalVar) → all_words (v ∷ rest) ≡ v.length + all_words rest
few_in v rest = sum_by-cons (λ (global : GlobalVar). global.length) v rest

nodes_behind : (x : RawItem) (rest : List RawItem) → nodes_of_items (x ∷ rest) ≡ nodes_of_item x.kind + nodes_of_items rest
nodes_behind x rest =
    sum-map (λ (y : RawItem). nodes_of_item y.kind) (x ∷ rest) ∙ sum_by-cons (λ (y : RawItem). nodes_of_item y.kind) x rest
    ∙ ap (λ n. nodes_of_item x.kind + n) (sym (sum-map (λ (y : RawItem). nodes_of_item y.kind) rest))

-- `main`, with this body
abbrev pub main_function : List Stmt → Function
main_function body = record { name = codes "main"; value = true; params = 0; variables = 0; body = body }

abbrev main_item : Place → RawName → List RawStmt → RawItem
main_item p name body = item p (kinds.Function (head.Main name) params.Nothing body)

abbrev global_item : Place → Place → RawGlobal → RawItem
global_item p q g = item p (kinds.Globals (of.int q) (g ∷ []))

-- how items stand to globals and the body of `main`
pub record AreSameItems (ds : List Declared) (count : ℕ) (globals : List GlobalVar) (body : List Stmt) (items : List RawItem) : Type 0 where
  pub globals_typed : all_of globals_of items ≡ globals
  pub registers_typed : all_of registers_of items ≡ []
  pub functions_typed : all_of (functions_of ds) items ≡ main_function body ∷ []
  pub clean : IsClean (items_faults ds items)
  pub counted : nodes_of_items items ≡ length globals + suc count
  pub has_main : has_main items ≡ true

module _ (all : List GlobalVar) (ds : List Declared) (found : IsFound all ds) where
  pub same_items : {count : ℕ} {globals : List GlobalVar} {body : List Stmt} {items : List RawItem} → OfItems all count globals body items → all_words globals ≤ 2 ^ 20 → AreSameItems ds count globals body items
  same_items (of.main p word {trees = trees} is body) few =
      let inner = same_stmts all ds found body in
      record {
        globals_typed = refl;
        registers_typed = refl;
        functions_typed =
            ap (λ name. record { name = name; value = true; params = 0; variables = number (length (after_all trees (inside ds)).variables); body = typed_all trees (inside ds) } ∷ []) is
            ∙ ap (λ (env : Env). record { name = codes "main"; value = true; params = 0; variables = number (length env.variables); body = typed_all trees (inside ds) } ∷ []) inner.stays
            ∙ ap (λ made. main_function made ∷ []) inner.typed;
        clean = neither (neither nothing (neither (inner.clean true (length ds)) (neither (within_limit 8 which.Parameters [] (omega arith)) (within_limit 200 which.Variables (after_all trees (inside ds)).variables (no_variables (after_all trees (inside ds)) inner.stays))))) nothing;
        counted = omega (arith, nodes_behind (main_item p word trees) [], inner.counted);
        has_main = rw ((bytes_eq-Decides word.bytes (codes "main")).1 is) refl;
      }
    where
      no_variables : (env : Env) → env ≡ inside ds → length env.variables ≤ 200
      no_variables env is = let none : length env.variables ≡ 0 = ap (λ (e : Env). length e.variables) is in omega arith
  same_items (of.one_global p q {v = v} {g = g} {rest = rest} {items = items} of_global other behind) few =
      let this = same_global of_global in
      let size = few_in v rest in
      let others = same_items behind (omega (arith, size)) in
      record {
        globals_typed = ap (λ w. w ∷ all_of globals_of items) this.typed ∙ ap (λ made. v ∷ made) others.globals_typed;
        registers_typed = others.registers_typed;
        functions_typed = others.functions_typed;
        clean = neither (neither (this.clean ds (omega (arith, size))) nothing) others.clean;
        counted = omega (arith, nodes_behind (global_item p q g) items, this.counted, others.counted);
        has_main = others.has_main;
      }
