-- A thin source as a tree of the whole language.
use Rattle.std.proofs.Common.{◌≡◌, refl, sym, ◌∙◌, ap, subst, arith, ℕ, ◌+◌, ◌≤◌, ◌^◌, true, false, List, [], length, Option, Some, Ok, codes}
use Rattle.std.specs.Prelude.{nat_lt, not}
use Rattle.std.specs.Str.{bytes_eq}
use Rattle.xmt_base.specs.declared.values.Place.{Place}
use Rattle.source_meaning.specs.declared.tree.Program.{Program}
use Rattle.source_meaning.specs.declared.tree.Stmt.{Stmt}
use Rattle.source_meaning.specs.declared.tree.GlobalVar.{GlobalVar}
use Rattle.source_meaning.specs.Layout.{all_words}
use Rattle.thin_source.specs.Tokens.{Text}
use Rattle.thin_source.specs.Thin.{IsThin, NamesDiffer, main_program}
use Rattle.xmt_lex.specs.Lex as lex
use Rattle.raw_tree.specs.declared.tree.RawItem.{RawItem}
use Rattle.raw_tree.specs.declared.tree.RawProgram.{RawProgram}
use Rattle.raw_tree.specs.Level.{Tokens}
use Rattle.raw_tree.proofs.Program.{one_program}
use Rattle.xmt_parse.specs.Law.{IsSpelled}
use Rattle.name_scopes.specs.declared.fault.Which.TheVariants as which
use Rattle.name_scopes.specs.declared.fault.NameKind.TheVariants as kind
use Rattle.name_scopes.specs.declared.scope.Meaning.{Meaning}
use Rattle.name_scopes.specs.declared.scope.Meaning.TheVariants as means
use Rattle.name_scopes.specs.declared.scope.Declared.{Declared}
use Rattle.name_scopes.specs.Scope.{look}
use Rattle.name_faults.specs.Expressions.{meaning_of}
use Rattle.name_faults.specs.Nodes.{nodes_of_items}
use Rattle.name_faults.specs.Items.{no_names, enter_all, has_main, program_faults}
use Rattle.typed_programs.specs.Expressions.{function_number}
use Rattle.typed_programs.specs.Items.{Resolves}
use Rattle.thin_law.proofs.Trees.{OfItems}
use Rattle.thin_law.proofs.Spelled.{thin_items}
use Rattle.thin_law.proofs.Clean.{IsClean, neither, holds_not, within_limit, not_less}
use Rattle.thin_law.proofs.Found.{or_else, if_named, find, of_kind, named}
use Rattle.thin_law.proofs.Expressions.{IsFound}
use Rattle.thin_law.proofs.Items.{declared, globals_in, functions_in, registers_in, main_alone, once, same_items}

abbrev names_of : List RawItem → List Declared
names_of items = (enter_all items no_names).declared

-- the only function, if it has this name
abbrev if_main : List ℕ → Option Meaning
if_main name = if_named (bytes_eq name (codes "main")) (means.Function 0 true 0)

module _ (globals : List GlobalVar) (count : ℕ) (body : List Stmt) (items : List RawItem) (belongs : OfItems globals count globals body items) where
  -- a name that is found among the globals
  known : (name : List ℕ) (m : Meaning) → find 0 globals name ≡ Some m → meaning_of (look (names_of items) name) ≡ Some m
  known name m is = declared globals belongs no_names name ∙ ap (λ found. or_else found (if_main name)) is

  found : length globals ≤ 4096 → IsFound globals (names_of items)
  found few =
      record {
        few = few;
        scalar = λ name number there. (let at = named globals false name number there in (known name.bytes (of_kind false number) at.0, at.1));
        array = λ name number there. (let at = named globals true name number there in (known name.bytes (of_kind true number) at.0, at.1));
      }

  -- `main` is the only function
  main_number : function_number (meaning_of (look (names_of items) (codes "main"))) ≡ 0
  main_number = ap function_number (declared globals belongs no_names (codes "main") ∙ ap (λ found. or_else found (if_main (codes "main"))) (main_alone globals belongs 0))

  resolved : length globals ≤ 4096 → all_words globals ≤ 2 ^ 20 → NamesDiffer globals → count + length globals + 1 ≤ 65536 → (end : Place) → Resolves (record { items = items; end = end }) (main_program globals body)
  resolved few_globals few_words differ few_nodes end =
      let is = same_items globals (names_of items) (found few_globals) belongs few_words in
      let file = enter_all items no_names in
      let clean : IsClean (program_faults (record { items = items; end = end })) =
      neither (once globals belongs no_names differ (λ i d within. refl) refl)
      (neither is.clean
      (neither
      (neither (within_limit 4096 which.Globals file.globals (omega (arith, globals_in globals belongs no_names)))
      (neither (within_limit 1000 which.Functions file.functions (omega (arith, functions_in globals belongs no_names)))
      (within_limit 8 which.Registers file.registers (few_registers file.registers (registers_in globals belongs no_names)))))
      (neither (holds_not (nat_lt 65536 (nodes_of_items items)) (kind.TooMany which.Nodes) end (not_less 65536 (nodes_of_items items) (omega (arith, is.counted))))
      (holds_not (not (has_main items)) kind.NoMain end (ap not is.has_main)))))
      in
      record {
        sound = clean.clean;
        same = sym (λ i. record { globals = is.globals_typed i; registers = is.registers_typed i; functions = is.functions_typed i; main = main_number i });
      }
    where
      few_registers : (places : List Place) → places ≡ [] → length places ≤ 8
      few_registers places is = let none : length places ≡ 0 = ap length is in omega arith

pub resolves : (source : Text) (program : Program) → IsThin source program → (tokens : Tokens) → lex.tokens source ≡ Ok tokens → (tree : RawProgram) → IsSpelled source tokens tree.items → Resolves tree program
resolves source program thin tokens are tree spelled =
    let whole = thin_items source program thin in
    let both : Ok whole.tokens ≡ Ok tokens = sym whole.are_tokens ∙ are in
    let same : whole.tokens ≡ tokens = cc in
    let here = subst (λ ts. IsSpelled source ts whole.items) same whole.spelled in
    let one : whole.items ≡ tree.items = one_program source here.0 spelled.0 whole.items tree.items tokens here.1 spelled.1 in
    let done = resolved thin.globals thin.nodes thin.body whole.items whole.belongs thin.few_globals thin.few_words thin.names_differ thin.few_nodes tree.end in
    subst (λ p. Resolves tree p) (sym thin.is_program) (subst (λ items. Resolves (record { items = items; end = tree.end }) (main_program thin.globals thin.body)) one done)
