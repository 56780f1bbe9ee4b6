-- The law on resolved programs.
use Rattle.std.proofs.Common.{refl, sym, subst, arith, ◌≤◌, false, [], length}
use Rattle.std.proofs.lemmas.Bool.{ltb-false}
use Rattle.std.specs.Prelude.{All, nat_lt}
use Rattle.std.proofs.lemmas.List.Elements.{All-weaker}
use Rattle.raw_tree.specs.declared.tree.RawProgram.{RawProgram}
use Rattle.source_meaning.specs.declared.tree.Function.{Function}
use Rattle.name_scopes.specs.declared.fault.Which.TheVariants as which
use Rattle.name_scopes.specs.declared.fault.NameKind.TheVariants as kinds
use Rattle.name_faults.specs.Nodes.{nodes_of_items}
use Rattle.name_faults.specs.Items.{enter_all, no_names, has_main, program_faults}
use Rattle.spawn_check.specs.Table.{MeetsNone}
use Rattle.typed_programs.specs.Items.{names_of_file, program}
use Rattle.checked_programs.specs.Fits.{Known, BodyFits}
use Rattle.checked_programs.specs.Declares.{DeclaresOnce}
use Rattle.checked_programs.specs.Limits.{FunctionIsWithinLimits, IsWithinLimits, HasFewNodes}
use Rattle.checked_programs.specs.Checked.{IsChecked}
use Rattle.resolved_programs.specs.FromSource.{IsFromSource}
use Rattle.resolved_programs.specs.Law.{ResolvedProgramsAreChecked, ResolvedProgramsKeepLimits, ResolvedProgramsHaveFewNodes}
use Rattle.resolved_programs.proofs.NoFaults.{IsEmpty, nothing_among, few, fails, holds_not}
use Rattle.resolved_programs.proofs.Meanings.{NamesFit}
use Rattle.resolved_programs.proofs.Reached.{Reached, reached_end, HasCounts, counts_at_end}
use Rattle.resolved_programs.proofs.FileNames.{items_fit}
use Rattle.resolved_programs.proofs.Mains.{main_among, main_fits}
use Rattle.resolved_programs.proofs.Globals.{globals_differ, globals_named, globals_lengths}
use Rattle.resolved_programs.proofs.Functions.{IsSound, functions_are_sound}
use Rattle.resolved_programs.proofs.ProgramNodes.{all_items}

module _ (tree : RawProgram) where
  start : Reached (program tree) (names_of_file tree) tree.items no_names
  start = record { gs = []; rs = []; fs = []; globals = refl; registers = refl; functions = refl; at_globals = refl; at_registers = refl; at_functions = refl }

  counts : HasCounts (program tree) (names_of_file tree) (enter_all tree.items no_names)
  counts = counts_at_end (program tree) (names_of_file tree) (enter_all tree.items no_names) (reached_end (program tree) (names_of_file tree) tree.items no_names start)

  -- as many of each as the limits allow
  record AreFew : Type 0 where
    globals : length (program tree).globals ≤ 4096
    registers : length (program tree).registers ≤ 8
    functions : length (program tree).functions ≤ 1000
    nodes : nodes_of_items tree.items ≤ 65536

  are_few : IsEmpty (program_faults tree) → AreFew
  are_few sound =
      record {
        globals = omega (arith, counts.globals, few 4096 (enter_all tree.items no_names).globals which.Globals sound.1.1.0.0);
        registers = omega (arith, counts.registers, few 8 (enter_all tree.items no_names).registers which.Registers sound.1.1.0.1.1);
        functions = omega (arith, counts.functions, few 1000 (enter_all tree.items no_names).functions which.Functions sound.1.1.0.1.0);
        nodes = ltb-false 65536 (nodes_of_items tree.items) (fails (nat_lt 65536 (nodes_of_items tree.items)) (kinds.TooMany which.Nodes) tree.end sound.1.1.1.0);
      }

  names_are_there : IsEmpty (program_faults tree) → (k : Known) → NamesFit (program tree) k (names_of_file tree)
  names_are_there sound k =
      let all = are_few sound in
      items_fit (program tree) k (names_of_file tree) all.globals all.registers all.functions tree.items no_names start sound.1.0 tt

  all_sound : IsFromSource tree → IsEmpty (program_faults tree) → All (IsSound (program tree)) (program tree).functions
  all_sound from sound = functions_are_sound (program tree) (names_of_file tree) (names_are_there sound) tree.items from sound.1.0

  is_checked : IsFromSource tree → IsEmpty (program_faults tree) → MeetsNone (program tree) → IsChecked (program tree)
  is_checked from sound blocks =
      let main = main_among tree.items no_names (holds_not (has_main tree.items) kinds.NoMain tree.end sound.1.1.1.1) sound.0 in
      let functions = all_sound from sound in
      record {
        main = main_fits (program tree) (λ x. false) (names_of_file tree) (names_are_there sound (λ x. false)) main;
        parameters = All-weaker (IsSound (program tree)) (λ (f : Function). f.params ≤ f.variables) (λ f is. is.parameters) (program tree).functions functions;
        bodies = All-weaker (IsSound (program tree)) (BodyFits (program tree)) (λ f is. is.body) (program tree).functions functions;
        declared_once = All-weaker (IsSound (program tree)) DeclaresOnce (λ f is. is.once) (program tree).functions functions;
        named = globals_named tree.items from;
        names_differ = globals_differ tree.items no_names sound.0;
        lengths = globals_lengths (names_of_file tree) tree.items sound.1.0 (are_few sound).nodes;
        blocks = blocks;
      }

  is_within_limits : IsFromSource tree → IsEmpty (program_faults tree) → IsWithinLimits (program tree)
  is_within_limits from sound =
      let all = are_few sound in
      record {
        globals = all.globals;
        registers = all.registers;
        functions = all.functions;
        each_function = All-weaker (IsSound (program tree)) FunctionIsWithinLimits (λ f is. is.limits) (program tree).functions (all_sound from sound);
      }

pub resolved_programs_are_checked : ResolvedProgramsAreChecked
resolved_programs_are_checked tree p from resolves blocks =
    let made = is_checked tree from (nothing_among (program_faults tree) resolves.sound) (subst MeetsNone resolves.same blocks) in
    subst IsChecked (sym resolves.same) made

pub resolved_programs_keep_limits : ResolvedProgramsKeepLimits
resolved_programs_keep_limits tree p from resolves =
    subst IsWithinLimits (sym resolves.same) (is_within_limits tree from (nothing_among (program_faults tree) resolves.sound))

pub resolved_programs_have_few_nodes : ResolvedProgramsHaveFewNodes
resolved_programs_have_few_nodes tree p plain resolves =
    let few = are_few tree (nothing_among (program_faults tree) resolves.sound) in
    let made : HasFewNodes (program tree) = omega (arith, all_items (names_of_file tree) tree.items plain, few.nodes) in
    subst HasFewNodes (sym resolves.same) made
