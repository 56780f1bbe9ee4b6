-- What the quads of each function of a program name is there.
use Rattle.std.proofs.Common.{◌≡◌, refl, sym, ◌∙◌, ap, subst, arith, ℕ, zero, suc, ◌+◌, ◌≤◌, ◌<◌, true, false, List, [], ◌∷◌, ◌++◌, length, length-append, map, Option, Some, None, All}
use Rattle.std.specs.Prelude.{Bool, nat_lt, slice_get}
use Rattle.std.specs.Option.{option_map}
use Rattle.std.proofs.lemmas.List.{length-map}
use Rattle.std.proofs.lemmas.List.Sums.{sum_by-cons}
use Rattle.std.proofs.lemmas.List.Elements.{All-nil, All-cons, All-head, All-tail}
use Rattle.std.proofs.lemmas.Option.{slice_get-map, slice_get_within}
use Rattle.source_meaning.specs.declared.tree.Function.{Function}
use Rattle.source_meaning.specs.declared.tree.GlobalVar.{GlobalVar}
use Rattle.source_meaning.specs.declared.tree.Program.{Program}
use Rattle.source_meaning.specs.Layout.{first_word, words_of, all_words}
use Rattle.xmt_quads.specs.declared.code.Operand.TheVariants.{Literal}
use Rattle.xmt_quads.specs.declared.code.Quad.TheVariants as quad
use Rattle.xmt_quads.specs.declared.code.QuadFunction.{QuadFunction}
use Rattle.xmt_quads.specs.declared.code.QuadProgram.{QuadProgram}
use Rattle.xmt_quads.specs.WellFormed.{NamesExist}
use Rattle.quad_code.specs.Lined.{Lined, one}
use Rattle.quad_code.specs.Rows.{rows_of}
use Rattle.quad_code.specs.Statements.{Counts, behind_all, sequence_at}
use Rattle.quad_code.specs.Known.{Region, Serial, Inner, InBlock}
use Rattle.quad_code.specs.Functions.{outer_of, parameter_code, parameters_code, function_code}
use Rattle.quad_code.specs.Whole.{HasFunction, MayCall, codes_from, codes_of, IsCodeOf, IsKnown}
use Rattle.quad_code.proofs.InProgram.{is_at, printed, room_there}
use Rattle.quad_limits.specs.Limits.{HasWords}
use Rattle.quad_limits.proofs.Names.{Tables, CodeExists, exists-append, Ends}
use Rattle.quad_limits.proofs.StatementNames.{sequence_exists}

some_words : (globals : List GlobalVar) (g : ℕ) → All (λ global. 1 ≤ global.length) globals → g < length globals → 1 ≤ words_of globals g
some_words [] g all below = absurd (omega (arith, below))
some_words (global ∷ globals) zero all below = All-head (λ global. 1 ≤ global.length) global globals all
some_words (global ∷ globals) (suc g) all below = some_words globals g (All-tail (λ global. 1 ≤ global.length) global globals all) (omega (arith, below))

words_below : (globals : List GlobalVar) (g : ℕ) → words_of globals g ≤ all_words globals
words_below [] g = omega arith
words_below (global ∷ globals) zero = omega (arith, sum_by-cons (λ global. global.length) global globals)
words_below (global ∷ globals) (suc g) = omega (arith, sum_by-cons (λ global. global.length) global globals, words_below globals g)

codes_length : (program : Program) (n : Counts) (functions : List Function) → length (codes_from program n functions) ≡ length functions
codes_length program n [] = refl
codes_length program n (g ∷ functions) = ap suc (codes_length program (behind_all n (rows_of g.body)) functions)

all_exist : (q : QuadProgram) (f : QuadFunction) (code : List Lined) → CodeExists q f code → All (NamesExist q f) (map (λ l. l.quad) code)
all_exist q f [] h = All-nil (NamesExist q f)
all_exist q f (l ∷ code) h = All-cons (NamesExist q f) l.quad (map (λ l. l.quad) code) h.0 (all_exist q f code h.1)

module _ (q : QuadProgram) (f : QuadFunction) (outer : ℕ → Option ℕ) (outers : (slot number : ℕ) → outer slot ≡ Some number → number < q.outer) where
  parameter_exists : (variables slot : ℕ) (o : Option ℕ) → outer slot ≡ o → slot < 16 → CodeExists q f (parameter_code variables slot o)
  parameter_exists variables slot None e h = (h, tt)
  parameter_exists variables slot (Some number) e h = (h, (outers slot number e, tt))

  parameters_exist : (variables slot count : ℕ) → slot + count ≤ 16 → CodeExists q f (parameters_code outer variables slot count)
  parameters_exist variables slot zero h = tt
  parameters_exist variables slot (suc count) h =
      exists-append q f (parameter_code variables slot (outer slot)) (parameters_code outer variables (suc slot) count) (parameter_exists variables slot (outer slot) refl (omega (arith, h))) (parameters_exist variables (suc slot) count (omega (arith, h)))

not_true : false ≡ true → ⊥
not_true h = cc

module _ (program : Program) (inner : (function : ℕ) → Bool) (q : QuadProgram) (known : IsKnown program inner) (is : IsCodeOf program q) (words : HasWords program) where
  functions_length : length q.functions ≡ length program.functions
  functions_length =
      sym (length-map q.functions (λ g. g.quads)) ∙ ap (λ (xs : List (List _)). length xs) is.are_quads ∙ length-map (codes_of program) (λ code. map (λ l. l.quad) code) ∙ codes_length program (record { spawned = 0; printed = 0 }) program.functions

  function_there : (f values : ℕ) → HasFunction program f values → (f < length q.functions) × (values ≤ 16)
  function_there f values h = (omega (arith, slice_get_within program.functions f h.function h.found, functions_length), omega (arith, h.counts, known.few_params f h.function h.found))

  calls : (region : Region) (f values : ℕ) → MayCall program inner region f values → (f < length q.functions) × (values ≤ 16)
  calls Serial f values h = function_there f values h
  calls Inner f values h = function_there f values h.0
  calls InBlock f values h = function_there f values h.0

  pub names_are_there : (f : ℕ) (function : Function) (code : QuadFunction) → slice_get program.functions f ≡ Some function → slice_get q.functions f ≡ Some code → ((slot number : ℕ) → outer_of function.body slot ≡ Some number → number < q.outer) → All (NamesExist q code) code.quads
  names_are_there f function code found here outers =
      let base = first_word program.globals in
      let size = words_of program.globals in
      let outer = outer_of function.body in
      let v = function.variables in
      let there = is_at program q.texts (record { spawned = 0; printed = 0 }) program.functions f function found (printed program inner known q is) in
      let lines = function_code base size there.met function in
      let both : Some code.quads ≡ Some (map (λ l. l.quad) lines) =
      sym (ap (option_map (λ g. g.quads)) here) ∙ sym (slice_get-map (λ g. g.quads) q.functions f) ∙ ap (λ xs. slice_get xs f) is.are_quads ∙ slice_get-map (λ code. map (λ l. l.quad) code) (codes_of program) f ∙ ap (option_map (λ code. map (λ l. l.quad) code)) there.here in
      let same : code.quads ≡ map (λ l. l.quad) lines = cc in
      let tables : Tables q base size outer (length program.globals) =
      record {
        words = λ g below. omega (arith, room_there program inner known q is g below, some_words program.globals g words.some below);
        sizes = λ g below. (some_words program.globals g words.some below, omega (arith, words_below program.globals g, words.few));
        outers = outers;
      } in
      let ps = parameters_code outer v 0 function.params in
      let at = 0 + length ps in
      let body = sequence_at base size outer v at 0 0 there.met (rows_of function.body) in
      let last = one 0 (quad.Return (Literal 0)) in
      let long : length code.quads ≡ length lines = ap (λ (xs : List _). length xs) same ∙ length-map lines (λ l. l.quad) in
      let ends : Ends q code at body = omega (arith, long, length-append ps (body ++ last), length-append body last) in
      subst (All (NamesExist q code)) (sym same)
      (all_exist q code lines
      (exists-append q code ps (body ++ last) (parameters_exist q code outer outers v 0 function.params (omega (arith, known.few_params f function found)))
      (exists-append q code body last
      (sequence_exists q code base size outer (length program.globals) tables (MayCall program inner) calls v (rows_of function.body) (λ x. nat_lt x function.params) false Serial (known.serial f function found) at 0 0 there.met there.printed (λ never. absurd (not_true never)) ends)
      (tt, tt))))
