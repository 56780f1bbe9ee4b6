-- The quads to which a checked program is lowered are well formed.
use Rattle.std.proofs.Common.{◌≡◌, refl, sym, ◌∙◌, ap, subst, arith, ℕ, suc, ◌+◌, ◌≤◌, ◌<◌, ◌^◌, List, [], ◌∷◌, length, map, Some, All}
use Rattle.std.specs.Prelude.{slice_get}
use Rattle.std.proofs.lemmas.List.{length-map}
use Rattle.std.proofs.lemmas.List.Elements.{All-weaker}
use Rattle.std.proofs.lemmas.Option.{slice_get_within}
use Rattle.xmt_base.specs.Format.{IsFormat}
use Rattle.xmt_base.specs.Name.{IsName}
use Rattle.xmt_base.specs.declared.values.Symbol.{Symbol}
use Rattle.source_meaning.specs.declared.tree.GlobalVar.{GlobalVar}
use Rattle.source_meaning.specs.declared.tree.Function.{Function}
use Rattle.source_meaning.specs.declared.tree.Program.{Program}
use Rattle.source_meaning.specs.Layout.{all_words, symbols_from, HasRoom}
use Rattle.checked_programs.specs.Checked.{HasLength, IsShortName}
use Rattle.checked_programs.specs.Limits.{FunctionIsWithinLimits}
use Rattle.xmt_isa.specs.Symbols.{AreSymbols, Covers}
use Rattle.xmt_quads.specs.declared.code.Quad.{Quad}
use Rattle.xmt_quads.specs.declared.code.QuadFunction.{QuadFunction}
use Rattle.xmt_quads.specs.declared.code.QuadProgram.{QuadProgram}
use Rattle.xmt_quads.specs.Regions.{HasRegions}
use Rattle.xmt_quads.specs.WellFormed.{AreBelow, HasTables, HasLiveRegisters, IsWellFormedFunction, IsWellFormed}
use Rattle.quad_code.specs.Lined.{Lined}
use Rattle.quad_code.specs.Rows.{rows_of}
use Rattle.quad_code.specs.Statements.{Counts, behind_all}
use Rattle.quad_code.specs.Functions.{outer_of}
use Rattle.quad_code.specs.Whole.{codes_from, codes_of, IsKnown}
use Rattle.quad_limits.specs.Limits.{HasWords}
use Rattle.quad_limits.specs.Waiting.{function_registers}
use Rattle.quad_limits.proofs.StatementWeights.{quads_are_light}
use Rattle.quad_limits.proofs.StatementRegisters.{registers_are_few}
use Rattle.quad_limits.proofs.ProgramNames.{names_are_there}
use Rattle.quad_regions.proofs.Whole.{quads_have_regions}
use Rattle.quad_live_registers.proofs.Whole.{live_registers}
use Rattle.checked_quads.proofs.Programs.{checked_programs_are_known, checked_programs_have_words}
use Rattle.lowered_quads.specs.Lowered.{IsLowered}
use Rattle.lowered_quads.specs.Law.{CanBeLowered, LoweredProgramsAreWellFormed}
use Rattle.lowered_quads.proofs.Lists.{at_place, everywhere, there, same_at, as_long}
use Rattle.lowered_quads.proofs.Symbols.{length_opening, length_symbols, all_symbols, names_differ, covers}
use Rattle.lowered_quads.proofs.Texts.{printable_texts, few_texts}
use Rattle.lowered_quads.proofs.Waiting.{few_registers}
use Rattle.lowered_quads.proofs.Shared.{number_below, shared_fit, few_outer}

codes_length : (program : Program) (n : Counts) (functions : List Function) → length (codes_from program n functions) ≡ length functions
codes_length program n [] = refl
codes_length program n (g ∷ functions) = ap suc (codes_length program (behind_all n (rows_of g.body)) functions)

quad_of : Lined → Quad
quad_of l = l.quad

below_more : (m n : ℕ) (q : Quad) → m ≤ n → AreBelow m q → AreBelow n q
below_more m n q h below r is = omega (arith, h, below r is)

module _ (program : Program) (quads : QuadProgram) (can : CanBeLowered program) (is : IsLowered program quads) where
  known : IsKnown program is.inner
  known = checked_programs_are_known program is.inner can.checked can.limits is.are_inner

  few_words : all_words program.globals ≤ 2 ^ 20
  few_words = omega (arith, can.words)

  words : HasWords program
  words = checked_programs_have_words program can.checked few_words

  room : All HasRoom program.globals
  room = All-weaker HasLength HasRoom (λ g has. has.room) program.globals can.checked.lengths

  words_are : length quads.words ≡ all_words program.globals
  words_are = ap (λ (ws : List ℕ). length ws) is.code.words ∙ length_opening program.globals room

  as_many : length quads.functions ≡ length program.functions
  as_many = as_long (λ (f : QuadFunction). f.registers) (λ (f : Function). f.variables + 256) quads.functions program.functions is.registers

  covered : Covers 0 (symbols_from 0 program.globals) (all_words program.globals)
  covered = let none : 0 + all_words program.globals ≡ all_words program.globals = omega arith in subst (λ to. Covers 0 (symbols_from 0 program.globals) to) none (covers 0 program.globals)

  symbols : AreSymbols quads.symbols (length quads.words)
  symbols =
      subst (λ ss. AreSymbols ss (length quads.words)) (sym is.code.symbols)
      (subst (λ n. AreSymbols (symbols_from 0 program.globals) n) (sym words_are)
      (record {
        names = all_symbols (λ s. IsName s.name) (λ (g : GlobalVar). IsShortName g.name) (λ g base named. named.spelled) 0 program.globals can.checked.named;
        differ = names_differ program.globals can.checked.names_differ;
        cover = covered;
      }))

  tables : HasTables quads
  tables =
      record {
        symbols = omega (arith, ap (λ (ss : List Symbol). length ss) is.code.symbols, length_symbols 0 program.globals, can.limits.globals);
        texts = omega (arith, ap (λ (ts : List (List ℕ)). length ts) is.code.texts, few_texts program, can.nodes);
        outer = omega (arith, is.outer, few_outer program.functions can.limits.each_function);
        words = omega (arith, words_are, is.outer, can.words);
        formats = subst (All IsFormat) (sym is.code.texts) (printable_texts program program.functions can.checked.bodies);
        names = symbols;
        short_names = subst (All (λ (s : Symbol). length s.name < 2 ^ 32)) (sym is.code.symbols) (all_symbols (λ s. length s.name < 2 ^ 32) (λ (g : GlobalVar). IsShortName g.name) (λ g base named. named.short) 0 program.globals can.checked.named);
        some_words = subst (All (λ (s : Symbol). 1 ≤ s.length)) (sym is.code.symbols) (all_symbols (λ s. 1 ≤ s.length) HasLength (λ g base has. has.some) 0 program.globals can.checked.lengths);
      }

  module _ (f : ℕ) (code : QuadFunction) (here : slice_get quads.functions f ≡ Some code) where
    abbrev its : (function : Function) × (slice_get program.functions f ≡ Some function)
    its = there quads.functions program.functions f code here as_many

    abbrev function : Function
    function = its.0

    found : slice_get program.functions f ≡ Some function
    found = its.1

    abbrev lined : (lines : List Lined) × (slice_get (codes_of program) f ≡ Some lines)
    lined = there quads.functions (codes_of program) f code here (as_many ∙ sym (codes_length program (record { spawned = 0; printed = 0 }) program.functions))

    as_many_lines : length code.lines ≡ length code.quads
    as_many_lines =
        let lines : code.lines ≡ map (λ l. l.line) lined.0 = same_at (λ (g : QuadFunction). g.lines) (λ (code : List Lined). map (λ l. l.line) code) quads.functions (codes_of program) f code lined.0 is.code.are_lines here lined.1 in
        let its_quads : code.quads ≡ map (λ l. l.quad) lined.0 = same_at (λ (g : QuadFunction). g.quads) (λ (code : List Lined). map (λ l. l.quad) code) quads.functions (codes_of program) f code lined.0 is.code.are_quads here lined.1 in
        ap (λ (xs : List ℕ). length xs) lines ∙ length-map lined.0 (λ (l : Lined). l.line) ∙ sym (length-map lined.0 (λ (l : Lined). l.quad)) ∙ sym (ap (λ (xs : List Quad). length xs) its_quads)

    registers_are : code.registers ≡ function.variables + 256
    registers_are = same_at (λ (g : QuadFunction). g.registers) (λ (g : Function). g.variables + 256) quads.functions program.functions f code function is.registers here found

    limits : FunctionIsWithinLimits function
    limits = at_place FunctionIsWithinLimits program.functions f function can.limits.each_function found

    outers : (slot number : ℕ) → outer_of function.body slot ≡ Some number → number < quads.outer
    outers slot number shared = omega (arith, number_below program is.inner known f function found slot number shared, shared_fit program.functions f function found, is.outer)

    well_formed_function : IsWellFormedFunction quads code
    well_formed_function =
        record {
          lines = as_many_lines;
          few_registers = omega (arith, registers_are, limits.variables);
          registers = All-weaker (AreBelow (function_registers function)) (AreBelow code.registers) (λ q below. below_more (function_registers function) code.registers q (omega (arith, few_registers function limits, registers_are)) below) code.quads (registers_are_few program is.inner quads known is.code f function code found here);
          names = names_are_there program is.inner quads known is.code words f function code found here outers;
          regions = at_place (HasRegions quads) quads.functions f code (quads_have_regions program is.inner quads known is.code is.marked) here;
          live = at_place HasLiveRegisters quads.functions f code (live_registers program is.inner quads known is.code) here;
        }

  main_there : quads.main < length quads.functions
  main_there = omega (arith, is.code.main, as_many, slice_get_within program.functions program.main known.main.function known.main.found)

  well_formed : IsWellFormed quads
  well_formed =
      record {
        some_functions = omega (arith, main_there);
        few_functions = omega (arith, as_many, can.limits.functions);
        main = main_there;
        tables = tables;
        functions = everywhere (IsWellFormedFunction quads) quads.functions well_formed_function;
        light = omega (arith, quads_are_light program quads is.code, can.nodes);
      }

pub lowered_programs_are_well_formed : LoweredProgramsAreWellFormed
lowered_programs_are_well_formed program quads can is = well_formed program quads can is
