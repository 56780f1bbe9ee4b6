-- The code of a program stands in its quads.
use Rattle.std.proofs.Common.{◌≡◌, refl, sym, ◌∙◌, ap, subst, arith, ℕ, zero, suc, ◌+◌, ◌-◌, ◌≤◌, ◌<◌, true, false, if◌then◌else◌, List, [], ◌∷◌, ◌++◌, length, length-append, get_or, map, take, drop, replicate, Option, Some, None}
use Rattle.std.specs.Prelude.{Bool, slice_get, sum_by}
use Rattle.std.specs.Option.{option_map}
use Rattle.std.proofs.lemmas.List.{map-append, take-map, length-map, length-replicate}
use Rattle.std.proofs.lemmas.Option.{slice_get-map}
use Rattle.std.proofs.lemmas.List.Sums.{sum_by-cons}
use Rattle.std.proofs.Math.Seq.{take-append_seam, drop-append_seam}
use Rattle.source_meaning.specs.declared.tree.Function.{Function}
use Rattle.source_meaning.specs.declared.tree.GlobalVar.{GlobalVar}
use Rattle.source_meaning.specs.declared.tree.Program.{Program}
use Rattle.source_meaning.specs.declared.tree.Stmt.{Stmt}
use Rattle.source_meaning.specs.Layout.{first_word, words_of, opening_words}
use Rattle.source_meaning.specs.Code.{spawns, all_spawns, first_site}
use Rattle.xmt_quads.specs.declared.code.Operand.TheVariants.{Literal}
use Rattle.xmt_quads.specs.declared.code.Quad.{Quad}
use Rattle.xmt_quads.specs.declared.code.Quad.TheVariants as quad
use Rattle.xmt_quads.specs.declared.code.QuadFunction.{QuadFunction}
use Rattle.xmt_quads.specs.declared.code.QuadProgram.{QuadProgram}
use Rattle.xmt_quads.specs.Program.{quads_of, lines_of, quads_in, text_of, is_spawn, spawns_in, site_at, quads_to_join, behind_join}
use Rattle.quad_code.specs.Lined.{Note, Plain, Spawns, Prints, Lined, one}
use Rattle.quad_code.specs.Rows.{rows_of}
use Rattle.quad_code.specs.Statements.{Counts, behind_all, sequence_at}
use Rattle.quad_code.specs.Known.{Serial}
use Rattle.quad_code.specs.Functions.{outer_of, parameter_code, parameters_code, function_code}
use Rattle.quad_code.specs.Whole.{all_texts, texts_of, codes_from, codes_of, IsCodeOf, MayCall, IsKnown}
use Rattle.quad_code.proofs.Standing.{IsNoted, HasAt}
use Rattle.quad_code.proofs.Threads.{StandsThere}
use Rattle.quad_code.proofs.Notes.{is_join, next_join, joins_in, code_spawns, NoteFits, AreNoted, Noted, noted-append, noted_at, AreQuiet, quiet-append, quiet_noted}
use Rattle.quad_code.proofs.NotedStatements.{TextsAt, texts_front, texts_back, all_count, sequence_noted}

-- ---- quads and joins of code

abbrev quads : List Lined → List Quad
quads code = map (λ l. l.quad) code

abbrev lines : List Lined → List ℕ
lines code = map (λ l. l.line) code

spawns_are : (code : List Lined) → spawns_in (quads code) ≡ code_spawns code
spawns_are [] = refl
spawns_are (l ∷ code) = sum_by-cons is_spawn l.quad (quads code) ∙ ap (λ n. is_spawn l.quad + n) (spawns_are code)

-- the first quad decides
join_first : (q : Quad) (rest : List Quad) → is_join q ≡ true → quads_to_join (q ∷ rest) ≡ 0
join_first quad.Join rest e = refl
join_first (quad.Copy r o) rest e = cc
join_first (quad.Unary op r o) rest e = cc
join_first (quad.Binary op r a b) rest e = cc
join_first (quad.Dollar r) rest e = cc
join_first (quad.Test o size) rest e = cc
join_first (quad.Load r place) rest e = cc
join_first (quad.Store place o) rest e = cc
join_first (quad.Add r place o) rest e = cc
join_first (quad.Jump to) rest e = cc
join_first (quad.IfZero o to) rest e = cc
join_first (quad.IfNot o to) rest e = cc
join_first (quad.Argument place o) rest e = cc
join_first (quad.Parameter r place) rest e = cc
join_first (quad.Call f) rest e = cc
join_first (quad.Result r) rest e = cc
join_first (quad.Return o) rest e = cc
join_first (quad.Print text) rest e = cc
join_first (quad.Spawn low high) rest e = cc

join_later : (q : Quad) (rest : List Quad) → is_join q ≡ false → quads_to_join (q ∷ rest) ≡ suc (quads_to_join rest)
join_later quad.Join rest e = cc
join_later (quad.Copy r o) rest e = refl
join_later (quad.Unary op r o) rest e = refl
join_later (quad.Binary op r a b) rest e = refl
join_later (quad.Dollar r) rest e = refl
join_later (quad.Test o size) rest e = refl
join_later (quad.Load r place) rest e = refl
join_later (quad.Store place o) rest e = refl
join_later (quad.Add r place o) rest e = refl
join_later (quad.Jump to) rest e = refl
join_later (quad.IfZero o to) rest e = refl
join_later (quad.IfNot o to) rest e = refl
join_later (quad.Argument place o) rest e = refl
join_later (quad.Parameter r place) rest e = refl
join_later (quad.Call f) rest e = refl
join_later (quad.Result r) rest e = refl
join_later (quad.Return o) rest e = refl
join_later (quad.Print text) rest e = refl
join_later (quad.Spawn low high) rest e = refl

joins_are : (code : List Lined) (d : ℕ) → joins_in code ≡ Some d → quads_to_join (quads code) ≡ d
joins_are [] d h = cc
joins_are (l ∷ code) d h = by (is_join l.quad) refl (joins_in code) refl (λ e is. joins_are code e is)
  where
    some_is : (x y : ℕ) → Some x ≡ Some y → x ≡ y
    some_is x y e = cc

    by : (j : Bool) → is_join l.quad ≡ j → (o : Option ℕ) → joins_in code ≡ o → ((e : ℕ) → joins_in code ≡ Some e → quads_to_join (quads code) ≡ e) → quads_to_join (quads (l ∷ code)) ≡ d
    by true e o is further =
        let this : joins_in (l ∷ code) ≡ Some 0 = ap (λ j. if j then Some 0 else next_join (joins_in code)) e in
        join_first l.quad (quads code) e ∙ some_is 0 d (sym this ∙ h)
    by false e None is further = let no : joins_in (l ∷ code) ≡ None = ap (λ j. if j then Some 0 else next_join (joins_in code)) e ∙ ap next_join is in cc
    by false e (Some x) is further =
        let this : joins_in (l ∷ code) ≡ Some (suc x) = ap (λ j. if j then Some 0 else next_join (joins_in code)) e ∙ ap next_join is in
        join_later l.quad (quads code) e ∙ ap suc (further x is) ∙ some_is (suc x) d (sym this ∙ h)

-- ---- what stands at a place of a list

at_seam : {X : Type 0} (before : List X) (x : X) (rest : List X) → slice_get (before ++ (x ∷ rest)) (length before) ≡ Some x
at_seam [] x rest = refl
at_seam (y ∷ before) x rest = at_seam before x rest

or_at_seam : {X : Type 0} (before : List X) (x : X) (rest : List X) (d : X) → get_or (before ++ (x ∷ rest)) (length before) d ≡ x
or_at_seam [] x rest d = refl
or_at_seam (y ∷ before) x rest d = or_at_seam before x rest d

append_one : {X : Type 0} (xs : List X) (x : X) (ys : List X) → (xs ++ (x ∷ [])) ++ ys ≡ xs ++ (x ∷ ys)
append_one [] x ys = refl
append_one (y ∷ xs) x ys = ap (λ zs. y ∷ zs) (append_one xs x ys)

module _ (q : QuadProgram) (f : ℕ) where
  -- the spawns of the functions before
  abbrev sites_before : ℕ
  sites_before = sum_by (λ g. spawns_in g.quads) (take f q.functions)

  note_is : (at spawned : ℕ) (before rest : List Lined) (l : Lined) → length before ≡ at → quads_in q f ≡ quads (before ++ (l ∷ rest)) → spawned ≡ sites_before + code_spawns before → NoteFits q.texts at spawned rest l.quad l.note → IsNoted q f at l.quad l.note
  note_is at spawned before rest l is all count h = by l.quad l.note refl h
    where
      split : quads_in q f ≡ quads before ++ (l.quad ∷ quads rest)
      split = all ∙ map-append (λ l. l.quad) before (l ∷ rest)

      long : length (quads before) ≡ at
      long = length-map before (λ l. l.quad) ∙ is

      site : site_at q f at ≡ spawned
      site =
          let front : take at (quads_in q f) ≡ quads before = ap (take at) split ∙ ap (λ n. take n (quads before ++ (l.quad ∷ quads rest))) (sym long) ∙ take-append_seam (quads before) (l.quad ∷ quads rest) in
          ap (λ n. sites_before + n) (ap spawns_in front ∙ spawns_are before) ∙ sym count

      back : drop at (quads_in q f) ≡ l.quad ∷ quads rest
      back = ap (drop at) split ∙ ap (λ n. drop n (quads before ++ (l.quad ∷ quads rest))) (sym long) ∙ drop-append_seam (quads before) (l.quad ∷ quads rest)

      joins : (d behind : ℕ) → is_join l.quad ≡ false → joins_in rest ≡ Some d → at + 1 + d + 1 ≡ behind → behind_join (quads_in q f) at ≡ behind
      joins d behind inside is there =
          let count : quads_to_join (drop at (quads_in q f)) ≡ suc d = ap quads_to_join back ∙ join_later l.quad (quads rest) inside ∙ ap suc (joins_are rest d is) in
          let same : at + suc d + 1 ≡ behind = omega (arith, there) in
          ap (λ n. at + n + 1) count ∙ same

      by : (x : Quad) (n : Note) → l.quad ≡ x → NoteFits q.texts at spawned rest x n → IsNoted q f at x n
      by x Plain same h = tt
      by x (Spawns s behind) same h = (site ∙ h.0, joins h.1.0 behind (ap is_join same ∙ h.2) h.1.1 h.1.2)
      by (quad.Print number) (Prints text) same h = ap text_of h
      by _ (Prints text) same h = tt

  pub has_at_from : (code : List Lined) (at spawned : ℕ) (before : List Lined) → length before ≡ at → quads_in q f ≡ quads (before ++ code) → lines_of (slice_get q.functions f) ≡ lines (before ++ code) → spawned ≡ sites_before + code_spawns before → AreNoted q.texts at spawned code → HasAt q f at code
  has_at_from [] at spawned before is all lined count noted = tt
  has_at_from (l ∷ code) at spawned before is all lined count noted =
      let longer : (before ++ (l ∷ [])) ++ code ≡ before ++ (l ∷ code) = append_one before l code in
      let long : length (before ++ (l ∷ [])) ≡ at + 1 = omega (arith, length-append before (l ∷ []), is) in
      let long_quads : length (quads before) ≡ at = length-map before (λ l. l.quad) ∙ is in
      let long_lines : length (lines before) ≡ at = length-map before (λ l. l.line) ∙ is in
      let more : spawned + is_spawn l.quad ≡ sites_before + code_spawns (before ++ (l ∷ [])) = omega (arith, count, spawns_of_one before l) in (
        ap (λ xs. slice_get xs at) (all ∙ map-append (λ l. l.quad) before (l ∷ code)) ∙ ap (slice_get (quads before ++ (l.quad ∷ quads code))) (sym long_quads) ∙ at_seam (quads before) l.quad (quads code),
        ap (λ xs. get_or xs at 0) (lined ∙ map-append (λ l. l.line) before (l ∷ code)) ∙ ap (λ n. get_or (lines before ++ (l.line ∷ lines code)) n 0) (sym long_lines) ∙ or_at_seam (lines before) l.line (lines code) 0,
        has_at_from code (at + 1) (spawned + is_spawn l.quad) (before ++ (l ∷ [])) long (all ∙ ap quads (sym longer)) (lined ∙ ap lines (sym longer)) more noted.1,
        note_is at spawned before code l is all count noted.0,
      )
    where
      spawns_of_one : (before : List Lined) (l : Lined) → code_spawns (before ++ (l ∷ [])) ≡ code_spawns before + is_spawn l.quad
      spawns_of_one [] l = omega arith
      spawns_of_one (x ∷ before) l = let rest = spawns_of_one before l in omega (arith, rest)

-- ---- the code of each function

module _ (program : Program) where
  abbrev pub base : ℕ → ℕ
  base = first_word program.globals

  abbrev pub size : ℕ → ℕ
  size = words_of program.globals

  spawns_of_body : (body : List Stmt) → all_spawns (rows_of body) ≡ sum_by (λ s. spawns s.kind) body
  spawns_of_body [] = refl
  spawns_of_body (s ∷ body) = ap (λ n. spawns s.kind + n) (spawns_of_body body) ∙ sym (sum_by-cons (λ s. spawns s.kind) s body)

  -- a function's code, behind as many spawns as there are in the functions before, and the texts of its prints
  pub record IsAt (texts : List (List ℕ)) (n : Counts) (functions : List Function) (codes : List (List Lined)) (f : ℕ) (function : Function) : Type 0 where
    pub met : Counts
    pub here : slice_get codes f ≡ Some (function_code base size met function)
    pub sites : met.spawned ≡ n.spawned + first_site functions f
    pub printed : TextsAt texts met.printed (all_texts (rows_of function.body))

  pub is_at : (texts : List (List ℕ)) (n : Counts) (functions : List Function) (f : ℕ) (function : Function) → slice_get functions f ≡ Some function → TextsAt texts n.printed (texts_of functions) → IsAt texts n functions (codes_from program n functions) f function
  is_at texts n [] f function found t = cc
  is_at texts n (g ∷ functions) zero function found t =
      let same : g ≡ function = cc in
      record {
        met = n;
        here = ap (λ g. Some (function_code base size n g)) same;
        sites = omega arith;
        printed = subst (λ g. TextsAt texts n.printed (all_texts (rows_of g.body))) same (texts_front texts n.printed (all_texts (rows_of g.body)) (texts_of functions) t);
      }
  is_at texts n (g ∷ functions) (suc f) function found t =
      let rows = rows_of g.body in
      let later = is_at texts (behind_all n rows) functions f function found (subst (λ c. TextsAt texts (n.printed + c) (texts_of functions)) (all_count rows) (texts_back texts n.printed (all_texts rows) (texts_of functions) t)) in
      record {
        met = later.met;
        here = later.here;
        sites = let e = spawns_of_body g.body in let same : n.spawned + all_spawns rows + first_site functions f ≡ n.spawned + (sum_by (λ s. spawns s.kind) g.body + first_site functions f) = omega (arith, e) in later.sites ∙ same;
        printed = later.printed;
      }

  texts_all : (before texts : List (List ℕ)) → TextsAt (before ++ texts) (length before) texts
  texts_all before [] = tt
  texts_all before (t ∷ texts) =
      let longer : (before ++ (t ∷ [])) ++ texts ≡ before ++ (t ∷ texts) = append_one before t texts in
      let long : length (before ++ (t ∷ [])) ≡ length before + 1 = omega (arith, length-append before (t ∷ [])) in
      (at_seam before t texts, subst (λ at. TextsAt (before ++ (t ∷ texts)) at texts) long (subst (λ all. TextsAt all (length (before ++ (t ∷ []))) texts) longer (texts_all (before ++ (t ∷ [])) texts)))

  parameter_quiet : (variables slot : ℕ) (o : Option ℕ) → AreQuiet (parameter_code variables slot o)
  parameter_quiet variables slot None = ((refl, refl, refl), tt)
  parameter_quiet variables slot (Some number) = ((refl, refl, refl), ((refl, refl, refl), tt))

  parameters_quiet : (outer : ℕ → Option ℕ) (variables slot count : ℕ) → AreQuiet (parameters_code outer variables slot count)
  parameters_quiet outer variables slot zero = tt
  parameters_quiet outer variables slot (suc count) = quiet-append (parameter_code variables slot (outer slot)) _ (parameter_quiet variables slot (outer slot)) (parameters_quiet outer variables (suc slot) count)

  module _ (inner : (function : ℕ) → Bool) (known : IsKnown program inner) where
    function_noted : (texts : List (List ℕ)) (f : ℕ) (function : Function) (met : Counts) → slice_get program.functions f ≡ Some function → TextsAt texts met.printed (all_texts (rows_of function.body)) →
        Noted texts 0 met.spawned (all_spawns (rows_of function.body)) (Serial ≡ Serial) (function_code base size met function)
    function_noted texts f function met found t =
        let J = Serial ≡ Serial in
        let outer = outer_of function.body in
        let v = function.variables in
        let rows = rows_of function.body in
        let n = all_spawns rows in
        let ps = parameters_code outer v 0 function.params in
        let at = 0 + length ps in
        let body = sequence_at base size outer v at 0 0 met rows in
        let last = one 0 (quad.Return (Literal 0)) in
        let same : met.spawned ≡ met.spawned + 0 = omega arith in
        noted-append texts J 0 met.spawned 0 n n ps (body ++ last) (quiet_noted texts J 0 met.spawned ps (parameters_quiet outer v 0 function.params))
        (noted_at texts J at at met.spawned (met.spawned + 0) n (body ++ last) refl same
        (noted-append texts J at met.spawned n 0 n body last
        (sequence_noted texts (length program.globals) (MayCall program inner) base size outer v rows _ false Serial (known.serial f function found) at 0 0 met t)
        (quiet_noted texts J (at + length body) (met.spawned + n) last ((refl, refl, refl), tt)) (omega arith)))
        (omega arith)

    -- the spawns of the first functions
    sites_are : (texts : List (List ℕ)) (n : Counts) (first functions : List Function) → ((f : ℕ) (function : Function) → slice_get functions f ≡ Some function → slice_get program.functions (length first + f) ≡ Some function) → TextsAt texts n.printed (texts_of functions) → (f : ℕ) →
        sum_by code_spawns (take f (codes_from program n functions)) ≡ first_site functions f
    sites_are texts n first [] there t zero = refl
    sites_are texts n first [] there t (suc f) = refl
    sites_are texts n first (g ∷ functions) there t zero = refl
    sites_are texts n first (g ∷ functions) there t (suc f) =
        let rows = rows_of g.body in
        let code = function_code base size n g in
        let here : slice_get program.functions (length first + 0) ≡ Some g = there 0 g refl in
        let noted = function_noted texts (length first + 0) g n here (texts_front texts n.printed (all_texts rows) (texts_of functions) t) in
        let long : length (first ++ (g ∷ [])) ≡ length first + 1 = omega (arith, length-append first (g ∷ [])) in
        let rest = sites_are texts (behind_all n rows) (first ++ (g ∷ [])) functions
        (λ f function found. let next : length first + suc f ≡ length (first ++ (g ∷ [])) + f = omega (arith, long) in ap (slice_get program.functions) (sym next) ∙ there (suc f) function found)
        (subst (λ c. TextsAt texts (n.printed + c) (texts_of functions)) (all_count rows) (texts_back texts n.printed (all_texts rows) (texts_of functions) t)) f in
        sum_by-cons code_spawns code (take f (codes_from program (behind_all n rows) functions)) ∙ ap (λ m. m + sum_by code_spawns (take f (codes_from program (behind_all n rows) functions))) (noted.spawns ∙ spawns_of_body g.body) ∙ ap (λ m. sum_by (λ s. spawns s.kind) g.body + m) rest

    module _ (q : QuadProgram) (is : IsCodeOf program q) where
      abbrev pub none : Counts
      none = record { spawned = 0; printed = 0 }

      pub printed : TextsAt q.texts 0 (texts_of program.functions)
      printed = subst (λ texts. TextsAt texts 0 (texts_of program.functions)) (sym is.texts) (texts_all [] (texts_of program.functions))

      by_quads : (fs : List QuadFunction) → sum_by (λ g. spawns_in g.quads) fs ≡ sum_by spawns_in (map (λ g. g.quads) fs)
      by_quads [] = refl
      by_quads (g ∷ fs) = sum_by-cons (λ g. spawns_in g.quads) g fs ∙ ap (λ n. spawns_in g.quads + n) (by_quads fs) ∙ sym (sum_by-cons spawns_in g.quads (map (λ g. g.quads) fs))

      by_codes : (codes : List (List Lined)) → sum_by spawns_in (map quads codes) ≡ sum_by code_spawns codes
      by_codes [] = refl
      by_codes (c ∷ codes) = sum_by-cons spawns_in (quads c) (map quads codes) ∙ ap (λ n. n + sum_by spawns_in (map quads codes)) (spawns_are c) ∙ ap (λ n. code_spawns c + n) (by_codes codes) ∙ sym (sum_by-cons code_spawns c codes)

      before : (f : ℕ) → sites_before q f ≡ first_site program.functions f
      before f =
          by_quads (take f q.functions) ∙ ap (sum_by spawns_in) (sym (take-map (λ g. g.quads) f q.functions) ∙ ap (take f) is.are_quads ∙ take-map quads f (codes_of program)) ∙ by_codes (take f (codes_of program)) ∙
          sites_are q.texts none [] program.functions (λ f function found. let same : 0 + f ≡ f = omega arith in ap (slice_get program.functions) same ∙ found) printed f

      quads_from : (o : Option QuadFunction) (code : List Lined) → option_map (λ g. g.quads) o ≡ Some (quads code) → quads_of o ≡ quads code
      quads_from None code h = cc
      quads_from (Some g) code h = cc

      lines_from : (o : Option QuadFunction) (code : List Lined) → option_map (λ g. g.lines) o ≡ Some (lines code) → lines_of o ≡ lines code
      lines_from None code h = cc
      lines_from (Some g) code h = cc

      -- each function's quads stand in the program
      pub stands_there : (f : ℕ) (function : Function) → slice_get program.functions f ≡ Some function → StandsThere program q f function
      stands_there f function found =
          let there = is_at q.texts none program.functions f function found printed in
          let code = function_code base size there.met function in
          let noted = function_noted q.texts f function there.met found there.printed in
          let site : there.met.spawned ≡ first_site program.functions f = there.sites ∙ (let same : 0 + first_site program.functions f ≡ first_site program.functions f = omega arith in same) in
          let start : there.met.spawned ≡ sites_before q f + code_spawns [] = omega (arith, site, before f) in
          record {
            met = there.met;
            sites = site;
            stands = has_at_from q f code 0 there.met.spawned [] refl
                (quads_from (slice_get q.functions f) code (sym (slice_get-map (λ g. g.quads) q.functions f) ∙ ap (λ xs. slice_get xs f) is.are_quads ∙ slice_get-map quads (codes_of program) f ∙ ap (option_map quads) there.here))
                (lines_from (slice_get q.functions f) code (sym (slice_get-map (λ g. g.lines) q.functions f) ∙ ap (λ xs. slice_get xs f) is.are_lines ∙ slice_get-map lines (codes_of program) f ∙ ap (option_map lines) there.here))
                start noted.notes;
          }

      -- the globals lie inside the data words
      room_of : (globals : List GlobalVar) (g : ℕ) → g < length globals → first_word globals g + words_of globals g ≤ length (opening_words globals)
      room_of [] g below = absurd (omega (arith, below))
      room_of (global ∷ globals) zero below =
          let filled : List ℕ = replicate (global.length - length global.opening) 0 in
          omega (arith, length-append (global.opening ++ filled) (opening_words globals), length-append global.opening filled, length-replicate {A = ℕ} (global.length - length global.opening) 0)
      room_of (global ∷ globals) (suc g) below =
          let filled : List ℕ = replicate (global.length - length global.opening) 0 in
          omega (arith, room_of globals g (omega (arith, below)), length-append (global.opening ++ filled) (opening_words globals), length-append global.opening filled, length-replicate {A = ℕ} (global.length - length global.opening) 0)

      pub room_there : (g : ℕ) → g < length program.globals → first_word program.globals g + words_of program.globals g ≤ length q.words
      room_there g below = let same = ap (λ (words : List ℕ). length words) is.words in omega (arith, room_of program.globals g below, same)
