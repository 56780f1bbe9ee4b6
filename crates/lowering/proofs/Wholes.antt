-- Functions as they are lowered, and all of a program.
use Rattle.std.proofs.Common.{◌≡◌, sym, ◌∙◌, ap, subst, refl, arith, ℕ, suc, ◌+◌, ◌-◌, ◌<◌, ◌≤◌, drop, drop-cons, get_or, Bool, List, [], ◌∷◌, ◌++◌, map, length, Option, append-nil, append_assoc}
use Rattle.std.proofs.lemmas.List.{drop_all}
use Rattle.source_meaning.specs.declared.tree.Stmt.{Stmt}
use Rattle.source_meaning.specs.declared.tree.Function.{Function}
use Rattle.source_meaning.specs.declared.tree.GlobalVar.{GlobalVar}
use Rattle.source_meaning.specs.declared.tree.Program.{Program}
use Rattle.source_meaning.specs.Layout.{first_word, words_of}
use Rattle.source_meaning.specs.Code.{all_spawns}
use Rattle.xmt_quads.specs.declared.code.Operand.TheVariants.{Literal}
use Rattle.xmt_quads.specs.declared.code.Quad.TheVariants as quad
use Rattle.xmt_quads.specs.declared.code.QuadFunction.{QuadFunction}
use Rattle.quad_code.specs.Lined.{Lined, one}
use Rattle.quad_code.specs.Rows.{rows_of}
use Rattle.quad_code.specs.Statements.{Counts, all_prints}
use Rattle.quad_code.specs.Functions.{outer_of, parameter_code, parameters_code, function_code}
use Rattle.quad_code.specs.Whole.{all_texts, texts_of, codes_from}
use Rattle.lowering.specs.declared.code.Placed.{Placed}
use Rattle.lowering.specs.declared.loops.Exits.{Exits}
use Rattle.lowering.specs.Emitted.{at_line, placed, Appends}
use Rattle.lowering.specs.Stated.{Emits, sequence_code, body_code, EmitsSequence}
use Rattle.lowering.specs.Whole.{IsFunctionOf, AreFunctionsOf, is_unmarked}
use Rattle.lowering.proofs.Appends.{placed-append, in_turn}
use Rattle.lowering.proofs.Sequels.{all_counted, behind_counted}

-- ---- parameters

pub parameters_turn : (outer : (slot : ℕ) → Option ℕ) (variables slot count : ℕ) (o : Option ℕ) (c0 c1 all : List Placed) → slot < count → o ≡ outer slot → Appends (λ at. parameter_code variables slot o) c0 c1 →
    c0 ++ placed (parameters_code outer variables slot (count - slot)) ≡ all → c1 ++ placed (parameters_code outer variables (slot + 1) (count - (slot + 1))) ≡ all
parameters_turn outer variables slot count o c0 c1 all within is h given =
    let left : count - slot ≡ suc (count - (slot + 1)) = omega arith in
    let next : slot + 1 ≡ suc slot = omega arith in
    let rest : ℕ → List Lined = λ s. parameters_code outer variables s (count - (slot + 1)) in
    ap (λ c. c ++ placed (rest (slot + 1))) h ∙
    append_assoc c0 (placed (parameter_code variables slot o)) (placed (rest (slot + 1))) ∙
    ap (λ o. c0 ++ (placed (parameter_code variables slot o) ++ placed (rest (slot + 1)))) is ∙
    ap (λ s. c0 ++ (placed (parameter_code variables slot (outer slot)) ++ placed (rest s))) next ∙
    ap (λ c. c0 ++ c) (sym (placed-append (parameter_code variables slot (outer slot)) (rest (suc slot)))) ∙
    ap (λ n. c0 ++ placed (parameters_code outer variables slot n)) (sym left) ∙
    given

pub parameters_end : (outer : (slot : ℕ) → Option ℕ) (variables slot count : ℕ) (c0 all : List Placed) → count ≤ slot → c0 ++ placed (parameters_code outer variables slot (count - slot)) ≡ all → c0 ≡ all
parameters_end outer variables slot count c0 all past given =
    let left : 0 ≡ count - slot = omega arith in
    sym (append-nil c0) ∙ ap (λ n. c0 ++ placed (parameters_code outer variables slot n)) left ∙ given

-- ---- a function

pub function_emitted : (globals : List GlobalVar) (function : Function) (body : List Stmt) (exits : Exits) (c0 c1 c2 c3 : List Placed) (t0 t1 : List (List ℕ)) → body ≡ function.body → exits ≡ record { leave = 0; again = 0 } →
    Appends (λ at. parameters_code (outer_of body) function.variables 0 function.params) c0 c1 → EmitsSequence globals body function.variables exits function.body c1 c2 t0 t1 →
    c3 ≡ c2 ++ at_line (quad.Return (Literal 0)) 0 ∷ [] → Emits (body_code globals function) (all_texts (rows_of function.body)) c0 c3 t0 t1
function_emitted globals function body exits c0 c1 c2 c3 t0 t1 same out h1 h2 h3 =
    let none : Exits = record { leave = 0; again = 0 } in
    let h1' : Appends (λ at. parameters_code (outer_of function.body) function.variables 0 function.params) c0 c1 =
    subst (λ (b : List Stmt). Appends (λ at. parameters_code (outer_of b) function.variables 0 function.params) c0 c1) same h1
    in
    let h2' : EmitsSequence globals function.body function.variables none function.body c1 c2 t0 t1 =
    subst (λ (e : Exits). EmitsSequence globals function.body function.variables e function.body c1 c2 t0 t1) out
    (subst (λ (b : List Stmt). EmitsSequence globals b function.variables exits function.body c1 c2 t0 t1) same h2)
    in
    let last : List Lined = one 0 (quad.Return (Literal 0)) in
    record {
      appended = λ spawned.
          let inner : ℕ → List Lined = sequence_code globals function.body function.variables none function.body (record { spawned = spawned; printed = length t0 }) in
          in_turn (λ at. parameters_code (outer_of function.body) function.variables 0 function.params) (λ at. inner at ++ last) c0 c1 c3 h1' (in_turn inner (λ at. last) c1 c2 c3 (h2'.appended spawned) h3);
      printed = h2'.printed;
    }

quads_of : (code : List Lined) → map (λ (p : Placed). p.quad) (placed code) ≡ map (λ (l : Lined). l.quad) code
quads_of [] = refl
quads_of (l ∷ code) = ap (λ c. l.quad ∷ c) (quads_of code)

lines_of : (code : List Lined) → map (λ (p : Placed). p.line) (placed code) ≡ map (λ (l : Lined). l.line) code
lines_of [] = refl
lines_of (l ∷ code) = ap (λ c. l.line ∷ c) (lines_of code)

pub function_made : (globals : List GlobalVar) (function : Function) (inner : Bool) (code : List Placed) (t0 t1 : List (List ℕ)) (made : QuadFunction) (registers : ℕ) →
    Emits (body_code globals function) (all_texts (rows_of function.body)) [] code t0 t1 → registers ≡ function.variables + 256 →
    made ≡ record { quads = map (λ (p : Placed). p.quad) code; lines = map (λ (p : Placed). p.line) code; registers = registers; inner = inner } →
    IsFunctionOf globals function inner t0 t1 made
function_made globals function inner code t0 t1 made registers h er is =
    let all : ℕ → List Lined = λ spawned. body_code globals function (record { spawned = spawned; printed = length t0 }) 0 in
    record {
      quads = λ spawned. ap (λ (f : QuadFunction). f.quads) is ∙ ap (map (λ (p : Placed). p.quad)) (h.appended spawned) ∙ quads_of (all spawned);
      lines = λ spawned. ap (λ (f : QuadFunction). f.lines) is ∙ ap (map (λ (p : Placed). p.line)) (h.appended spawned) ∙ lines_of (all spawned);
      registers = ap (λ (f : QuadFunction). f.registers) is ∙ er;
      inner = ap (λ (f : QuadFunction). f.inner) is;
      texts = h.printed;
    }

-- ---- functions

module _ (program : Program) (prints spawns : List Bool) where
  none_left : (k : ℕ) (t : List (List ℕ)) → AreFunctionsOf program prints spawns k [] t t []
  none_left k t = record { quads = λ spawned. refl; lines = λ spawned. refl; registers = refl; inner = refl; texts = sym (append-nil t) }

  function_more : (k : ℕ) (inner : Bool) (f : Function) (functions : List Function) (t0 t1 t2 : List (List ℕ)) (q : QuadFunction) (made : List QuadFunction) →
      IsFunctionOf program.globals f inner t0 t1 q → inner ≡ is_unmarked prints spawns k → AreFunctionsOf program prints spawns (suc k) functions t1 t2 made →
      AreFunctionsOf program prints spawns k (f ∷ functions) t0 t2 (q ∷ made)
  function_more k inner f functions t0 t1 t2 q made h marked rest =
      let row = rows_of f.body in
      let count : length t1 ≡ length t0 + all_prints row = behind_counted t0 t1 (all_texts row) (all_prints row) (all_counted row) h.texts in
      let met : ℕ → ℕ → Counts = λ s p. record { spawned = s; printed = p } in
      let code : ℕ → List Lined = λ s. function_code (first_word program.globals) (words_of program.globals) (met s (length t0)) f in
      let codes : ℕ → ℕ → List (List Lined) = λ s p. codes_from program (met (s + all_spawns row) p) functions in
      record {
        quads = λ s.
            ap (λ x. x ∷ map (λ (g : QuadFunction). g.quads) made) (h.quads s) ∙
            ap (λ xs. map (λ (l : Lined). l.quad) (code s) ∷ xs) (rest.quads (s + all_spawns row) ∙ ap (λ p. map (map (λ (l : Lined). l.quad)) (codes s p)) count);
        lines = λ s.
            ap (λ x. x ∷ map (λ (g : QuadFunction). g.lines) made) (h.lines s) ∙
            ap (λ xs. map (λ (l : Lined). l.line) (code s) ∷ xs) (rest.lines (s + all_spawns row) ∙ ap (λ p. map (map (λ (l : Lined). l.line)) (codes s p)) count);
        registers = ap (λ x. x ∷ map (λ (g : QuadFunction). g.registers) made) h.registers ∙ ap (λ xs. (f.variables + 256) ∷ xs) rest.registers;
        inner = ap (λ x. x ∷ map (λ (g : QuadFunction). g.inner) made) (h.inner ∙ marked) ∙ ap (λ xs. is_unmarked prints spawns k ∷ xs) rest.inner;
        texts = rest.texts ∙ ap (λ t. t ++ texts_of functions) h.texts ∙ append_assoc t0 (all_texts row) (texts_of functions);
      }

  -- what is made of the functions behind the first so many makes the whole
  abbrev pub FunctionsGo : (functions : List Function) → (i : ℕ) → (made : List QuadFunction) → (t0 t1 : List (List ℕ)) → Type 0
  FunctionsGo functions i made t0 t1 =
      (rest : List QuadFunction) (t : List (List ℕ)) → AreFunctionsOf program prints spawns i (drop i functions) t1 t rest → AreFunctionsOf program prints spawns 0 functions t0 t (made ++ rest)

  pub function_turn : (functions : List Function) (i : ℕ) (inner : Bool) (f : Function) (q : QuadFunction) (made more : List QuadFunction) (t0 t1 t2 : List (List ℕ)) → i < length functions → f ≡ get_or functions i f →
      inner ≡ is_unmarked prints spawns i → IsFunctionOf program.globals f inner t1 t2 q → more ≡ made ++ q ∷ [] → FunctionsGo functions i made t0 t1 → FunctionsGo functions (i + 1) more t0 t2
  function_turn functions i inner f q made more t0 t1 t2 within is marked h new given rest t behind =
      let front : drop i functions ≡ get_or functions i f ∷ drop (suc i) functions = drop-cons functions i f within in
      let next : i + 1 ≡ suc i = omega arith in
      let behind' : AreFunctionsOf program prints spawns (suc i) (drop (suc i) functions) t2 t rest = subst (λ n. AreFunctionsOf program prints spawns n (drop n functions) t2 t rest) next behind in
      let here : f ∷ drop (suc i) functions ≡ drop i functions = ap (λ (x : Function). x ∷ drop (suc i) functions) is ∙ sym front in
      let whole : AreFunctionsOf program prints spawns 0 functions t0 t (made ++ q ∷ rest) =
      given (q ∷ rest) t (subst (λ fs. AreFunctionsOf program prints spawns i fs t1 t (q ∷ rest)) here (function_more i inner f (drop (suc i) functions) t1 t2 t q rest h marked behind'))
      in
      subst (λ qs. AreFunctionsOf program prints spawns 0 functions t0 t qs) (sym (ap (λ qs. qs ++ rest) new ∙ append_assoc made (q ∷ []) rest)) whole

  pub functions_end : (functions : List Function) (i : ℕ) (made : List QuadFunction) (t0 t1 : List (List ℕ)) → length functions ≤ i → FunctionsGo functions i made t0 t1 → AreFunctionsOf program prints spawns 0 functions t0 t1 made
  functions_end functions i made t0 t1 all given =
      subst (λ qs. AreFunctionsOf program prints spawns 0 functions t0 t1 qs) (append-nil made)
      (given [] t1 (subst (λ fs. AreFunctionsOf program prints spawns i fs t1 t1 []) (sym (drop_all i functions all)) (none_left i t1)))
