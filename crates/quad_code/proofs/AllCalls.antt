-- The quads of calls keep to the source, by induction on the number of quads that are spoken of.
use Rattle.std.proofs.Common.{◌≡◌, refl, sym, ◌∙◌, ap, subst, arith, ℕ, zero, suc, ◌+◌, ◌-◌, ◌*◌, ◌≤◌, ◌<◌, true, false, if◌then◌else◌, List, [], ◌∷◌, ◌++◌, length, length-append, Some, ◌⊎◌, inl, inr}
use Rattle.std.specs.Prelude.{Bool, nat_lt, slice_get}
use Rattle.xmt_base.specs.declared.values.TrapKind.TheVariants.{CallDepth}
use Rattle.source_meaning.specs.declared.tree.ExprKind.{ExprKind, Row_of-Expr, end_of-Expr, more_of-Expr}
use Rattle.source_meaning.specs.declared.tree.ExprKind.TheVariants as expr
use Rattle.source_meaning.specs.Store.{Cell}
use Rattle.source_meaning.specs.Term.{Value, Call, Entered, Code}
use Rattle.source_meaning.specs.Next.{Next, Asks, Traps, Quietly, call_value, next_within, next_values, next_code, quiet_step}
use Rattle.source_meaning.specs.Code.{sequence, with_parameters}
use Rattle.source_meaning.specs.Variables.{own_frame}
use Rattle.xmt_quads.specs.declared.code.Operand.{Operand}
use Rattle.xmt_quads.specs.declared.code.Operand.TheVariants.{Literal}
use Rattle.xmt_quads.specs.declared.code.Quad.TheVariants as quad
use Rattle.xmt_quads.specs.Program.{quad_at}
use Rattle.xmt_quads.specs.Meaning.{Registers, operand_value, enters as entering}
use Rattle.quad_code.specs.Lined.{Lined, lined, one}
use Rattle.quad_code.specs.Rows.{rows_of, row_length}
use Rattle.quad_code.specs.Expressions.{arguments_of}
use Rattle.quad_code.specs.Statements.{sequence_at}
use Rattle.quad_code.specs.Functions.{outer_of, parameters_code}
use Rattle.quad_code.proofs.Setting.{Setting, Point, Stands, thread_at, has_front, has_back, Fits, Reaches, reaches_on}
use Rattle.quad_code.proofs.Steps.{Context, within_within, Meets, meets_at, KeepsTo, keeps_fewer}
use Rattle.quad_code.proofs.Kept.{Kept, richer}
use Rattle.quad_code.proofs.Simulation.{AllKept, kept}
use Rattle.quad_code.proofs.Values.{terms_of, HasValues, ValuesContext, values_code, values_kept, arguments_kept}
use Rattle.quad_code.proofs.Calls.{enters, leaves, results}
use Rattle.quad_code.proofs.KeptCode.{knowing, CodeContext, KeptSequence}
use Rattle.quad_code.proofs.Statements.{sequence_kept}
use Rattle.quad_code.proofs.Parameters.{known_from, are_known, parameters_kept}
use Rattle.quad_code.proofs.Callable.{IsRun, run_of_call, MayBeCalled, CallsAre, IsOwn, caller_at, callee}

-- as many values as expressions
values_length : (registers : Registers) (r : ℕ) {m : _} (row : Row_of-Expr m) (vs : List ℕ) → HasValues registers r row vs → length vs ≡ row_length row
values_length registers r end_of-Expr [] has = refl
values_length registers r end_of-Expr (v ∷ vs) has = absurd has
values_length registers r (more_of-Expr place kind rest) [] has = absurd has
values_length registers r (more_of-Expr place kind rest) (v ∷ vs) has = let others = values_length registers (r + 1) rest vs has.1 in omega (arith, others)

nothing_known : false ≡ true → ⊥
nothing_known h = cc

-- the parameters of a function are known in its body
abbrev below : (params : ℕ) → ℕ → Bool
below params x = nat_lt x params

pub below_low : (params variables x : ℕ) → params ≤ variables → below params x ≡ true → x < variables
below_low params variables x le h = let lt : x < params = grind (arith, h) in omega (arith, lt, le)

module _ (s : Setting) (at : ℕ) (p : Point) (f count most : ℕ) (k : MayBeCalled s f count) where
  -- the body, once its parameters are there
  abbrev pub body_setting : Setting
  body_setting = knowing (callee s at p f count most k) (below k.function.params) (λ x h. below_low k.function.params k.function.variables x k.fits h)

  -- what a call finds at its beginning
  abbrev pub start_of : Point
  start_of = record { registers = p.found 0; list = p.list; result = p.result; found = λ call. p.found (suc call); store = p.store }

  params_known : (x : ℕ) → below k.function.params x ≡ true → known_from k.function.variables (λ x. false) 0 k.function.params x ≡ true
  params_known x h = let lt : x < 0 + k.function.params = grind (arith, h) in are_known k.function.variables (λ x. false) 0 k.function.params x (omega (arith, k.fits)) (omega arith) lt

module _ (s : Setting) {U S : Type 0} (whole : U → Next U S) (runs : IsRun s.parent s.region) (calls : CallsAre s) where
  module _ (n credit at r f count : ℕ) (c : Context s whole) (p q : Point) (k : MayBeCalled s f count) (m : ℕ) (fewer : n ≡ suc m) (few : n ≤ s.most) (from : s.variables ≤ r) (reach : Reaches s r p q)
      (result : quad_at s.program s.function (at + 1) ≡ Some (quad.Result r))
      (go : (o : Point) → Reaches s r p o → Meets s whole (c.around (Value (o.registers r))) n credit (at + 1 + 1) o) where
    -- behind a return of the body: the value comes into its register
    behind_return : (at2 : ℕ) (o : Operand) (p2 : Point) (x : U) → quad_at s.program f at2 ≡ Some (quad.Return o) → whole x ≡ Asks Quietly (λ _. c.around (Value (operand_value p2.registers o))) →
        ((cell : Cell) → s.Spared cell ⊎ IsOwn s cell → p2.store cell ≡ q.store cell) → Meets (body_setting s at q f count m k) whole x m credit at2 p2
    behind_return at2 o p2 x here steps spares =
        let t = body_setting s at q f count m k in
        let value = operand_value p2.registers o in
        let back : Point = record { registers = q.registers; list = p2.list; result = value; found = p2.found; store = p2.store } in
        let back_fits : Fits s back = λ slot known own. reach.fits slot known own ∙ sym (spares (s.frame slot) (inr (slot, own, refl))) in
        let back_reach : Reaches s r p back = record { waits = reach.waits; spares = λ cell is. spares cell (inl is) ∙ reach.spares cell is; fits = back_fits } in
        leaves t whole m credit at2 o (caller_at s at q) s.callers p2 x (c.around (Value value)) refl here steps
        (λ less.
        results s whole c m (credit + 60) (credit + 56) (at + 1) r back result (omega arith) from back_fits
        (λ o2 reach2 less2.
        keeps_fewer s whole n m credit (credit + 56) (thread_at s (at + 1 + 1) o2) (c.around (Value (o2.registers r))) o2.store (omega (arith, fewer)) (omega arith)
        (go o2 (reaches_on s r r p back o2 (omega arith) back_reach reach2) few))
        (omega (arith, fewer, few)))

    -- a call that is entered, if its body keeps to the source
    entered : (vs : List ℕ) → 40 ≤ credit → length vs ≡ k.function.params → ((i v : ℕ) → slice_get vs i ≡ Some v → q.list (0 + i) ≡ v) → KeptSequence (body_setting s at q f count m k) whole (rows_of k.function.body) →
        KeepsTo s whole m (credit - 2 * length vs + 20) (entering (thread_at s at q) f) (c.around (Entered (s.call_code f (suc s.depth) vs))) q.store
    entered vs rich size holds body =
        let t = callee s at q f count m k in
        let b = body_setting s at q f count m k in
        let fn = k.function in
        let v = fn.variables in
        let left = credit - 2 * length vs + 20 in
        let start = start_of s at q f count m k in
        let rows = rows_of fn.body in
        let frame = own_frame fn.body s.thread (suc s.depth) in
        let code = sequence s.globals (λ child. own_frame fn.body child 0) frame k.met.spawned rows in
        let begin : Code = s.call_code f (suc s.depth) vs in
        let ps = parameters_code (outer_of fn.body) v 0 fn.params in
        let at1 = 0 + length ps in
        let quads = sequence_at s.base_of s.size_of (outer_of fn.body) v at1 0 0 k.met rows in
        let last = one 0 (quad.Return (Literal 0)) in
        let behind = has_back s.program f 0 ps (quads ++ last) k.stands in
        let few_values : length vs ≤ 16 = omega (arith, size, k.few) in
        let cb : CodeContext t whole =
        record {
          around = λ code. c.around (Entered code);
          go = λ exit. next_within c.around (quiet_step (Value (call_value exit))) c.go;
          part = λ code. c.part (Entered code) ∙ within_within Entered c.around (next_code s.number s.call_code (suc s.depth) code) (λ exit. quiet_step (Value (call_value exit))) c.go;
        } in
        let params : ℕ → List Lined = λ n. parameters_code (outer_of fn.body) v 0 n in
        parameters_kept whole vs 0 m left 0 t cb start code (c.around (Entered begin)) (omega arith) (omega (arith, size, k.fits)) (λ slot h own. absurd (nothing_known h)) holds
        (subst (λ n. Stands t 0 (params n)) (sym size) (has_front s.program f 0 ps (quads ++ last) k.stands))
        (ap (λ code. whole (c.around (Entered code))) (k.code (suc s.depth) vs) ∙ cb.part (with_parameters frame 0 vs code))
        (λ o y ey reach3.
        let spares : (p2 : Point) → ((cell : Cell) → s.Spared cell ⊎ IsOwn s cell → p2.store cell ≡ o.store cell) → (cell : Cell) → s.Spared cell ⊎ IsOwn s cell → p2.store cell ≡ q.store cell =
        λ p2 later cell is. later cell is ∙ reach3.spares cell is in
        richer t whole y m credit (left + 56 * length vs) (0 + length (params (length vs))) o (omega (arith, rich, few_values))
        (meets_at t whole y m credit at1 (0 + length (params (length vs))) o (ap (λ n. 0 + length (params n)) (sym size))
        (body cb m credit 36 at1 0 0 k.met false o y rich (omega (arith, rich)) (has_front s.program f at1 quads last behind) k.known
        (λ slot known own. reach3.fits slot (subst (λ n. known_from v (λ x. false) 0 n slot ≡ true) (sym size) (params_known s at q f count m k slot known)) own) ey
        (record {
          ends = λ p2 x ex further. behind_return (at1 + length quads) (Literal 0) p2 x (has_back s.program f at1 quads last behind).0 ex (spares p2 further.spares);
          breaks = λ is p2 x ex further. absurd (nothing_known is);
          continues = λ is p2 x ex further. absurd (nothing_known is);
          returns = λ p2 x at2 ret here ex further. behind_return at2 ret p2 x here ex (spares p2 further.spares);
        }))))
        (omega arith)

  -- A call, if the body of the called function keeps to the source in shorter runs.
  call_kept : ((at : ℕ) (p : Point) (f count m : ℕ) (k : MayBeCalled s f count) → suc m ≤ s.most → KeptSequence (body_setting s at p f count m k) whole (rows_of k.function.body)) →
      (line f : ℕ) (shape : _) (values : _) → AllKept s whole values → Kept s whole line (expr.Call' f shape values)
  call_kept bodies line f shape values all r c n credit at p from rich stands known fits go =
      let cv = values_code s whole at r values in
      let at1 = at + length cv in
      let ca = arguments_of s.base_of s.size_of s.outer line 0 r values in
      let at2 = at1 + length ca in
      let last : List Lined = lined line (quad.Call f) ∷ one line (quad.Result r) in
      let behind = has_back s.program s.function at cv (ca ++ last) stands in
      let here = has_back s.program s.function at1 ca last behind in
      let nexts = next_values s.number s.call_code s.depth in
      let enter : List ℕ → _ = λ vs. if nat_lt s.depth 256 then quiet_step (Entered (s.call_code f (suc s.depth) vs)) else Traps CallDepth line in
      let context : ValuesContext s whole =
      record {
        around = λ ts. c.around (Call line f ts);
        go = λ vs. next_within c.around (enter vs) c.go;
        part = λ ts. c.part (Call line f ts) ∙ within_within (Call line f) c.around (nexts ts) enter c.go;
      } in
      let k = calls s.region runs f (row_length values) known.0 in
      let end : at + length (cv ++ (ca ++ last)) ≡ at2 + 1 + 1 = omega (arith, length-append cv (ca ++ last), length-append ca last) in
      λ few.
      values_kept s whole values all r context n credit at p from rich (has_front s.program s.function at cv (ca ++ last) stands) known.1 fits
      (λ q vs reach has.
      let count = values_length q.registers r values vs has in
      let left = credit - 2 * length vs in
      let most : length vs ≤ 16 = omega (arith, count, k.params, k.few) in
      arguments_kept s whole values vs line 0 r n credit left at1 q (c.around (Call line f (terms_of vs))) (has_front s.program s.function at1 ca last behind) has (omega (arith, most, rich))
      (λ list keeps holds.
      let q2 : Point = record q { list = list } in
      enters s whole n left at2 line f c vs q2 here.0 here.1
      (λ m fewer less.
      entered n credit at2 r f (row_length values) c p q2 k m fewer few from (record { waits = reach.waits; spares = reach.spares; fits = reach.fits }) here.2.0
      (λ o far. meets_at s whole (c.around (Value (o.registers r))) n credit (at + length (cv ++ (ca ++ last))) (at2 + 1 + 1) o end (go o far))
      vs rich (count ∙ k.params) holds (bodies at2 q2 f (row_length values) m k less))))
      few

nothing_below : (m most : ℕ) → suc m ≤ most → most ≤ 0 → ⊥
nothing_below m most le none = omega (arith, le, none)

-- Every call keeps to the source, whatever is known.
pub all_calls : (bound : ℕ) (s : Setting) {U S : Type 0} (whole : U → Next U S) → s.most ≤ bound → IsRun s.parent s.region → CallsAre s → (line f : ℕ) (shape : _) (values : _) → AllKept s whole values → Kept s whole line (expr.Call' f shape values)
all_calls zero s whole le runs calls = call_kept s whole runs calls (λ at p f count m k less. absurd (nothing_below m s.most less le))
all_calls (suc bound) s whole le runs calls =
    call_kept s whole runs calls
    (λ at p f count m k less.
    let t = callee s at p f count m k in
    sequence_kept t whole
    (λ known knows. kept (knowing t known knows) whole (all_calls bound (knowing t known knows) whole (omega (arith, less, le)) (run_of_call s.parent s.region runs) calls))
    (rows_of k.function.body) (below k.function.params) (λ x h. below_low k.function.params k.function.variables x k.fits h))

-- so every expression does
pub expressions_kept : (s : Setting) {U S : Type 0} (whole : U → Next U S) → IsRun s.parent s.region → CallsAre s → (line : ℕ) (k : ExprKind) → Kept s whole line k
expressions_kept s whole runs calls = kept s whole (all_calls s.most s whole (omega arith) runs calls)
