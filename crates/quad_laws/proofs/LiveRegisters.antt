-- What a thread of quads does goes by the registers that are live, whatever the others hold.
use Rattle.std.proofs.Common.{◌≡◌, refl, sym, ◌∙◌, ap, subst, arith, ℕ, zero, suc, ◌+◌, true, false, if◌then◌else◌, List, [], ◌∷◌, length, Option, Some, None}
use Rattle.std.specs.Prelude.{◌==◌, ◌||◌, Bool, nat_lt, Contains}
use Rattle.xmt_base.specs.declared.values.TrapKind.TheVariants.{Index, PsIncrement, CallDepth, Address}
use Rattle.xmt_base.specs.Operators.{unary_value, binary_value}
use Rattle.xmt_base.specs.Action.{Action}
use Rattle.xmt_base.specs.Action as action
use Rattle.interleaving.specs.Actors.{Rests, Alone, Acts, Entry, DoesThen}
use Rattle.xmt_quads.specs.declared.code.Operand.{Operand}
use Rattle.xmt_quads.specs.declared.code.Operand.TheVariants.{Reg, Literal}
use Rattle.xmt_quads.specs.declared.code.Where.{Where}
use Rattle.xmt_quads.specs.declared.code.Where.TheVariants.{Word, Element, Outer, PsReg}
use Rattle.xmt_quads.specs.declared.code.Quad.{Quad}
use Rattle.xmt_quads.specs.declared.code.Quad.TheVariants as quad
use Rattle.xmt_quads.specs.declared.code.QuadProgram.{QuadProgram}
use Rattle.xmt_quads.specs.Program.{quads_in, quad_at, site_at, behind_join}
use Rattle.xmt_quads.specs.Meaning.{Registers, with_register, Caller, QuadThread, Next, Moves, Traps, operand_value, reached_depth, is_inside, may_increment, goes, acts, with_next, assigns_option, returns, enters, shared_place, next_at, quad_of, next_of, move_of, move, cost}
use Rattle.xmt_quads.specs.Live.{is_register, is_index, writes, leads_to, IsLive, is_read, is_kept}
use Rattle.xmt_quads.specs.Traces.{DoesWith}

or_left : (a b : Bool) → a ≡ true → (a || b) ≡ true
or_left true b h = refl
or_left false b h = cc

or_right : (a b : Bool) → b ≡ true → (a || b) ≡ true
or_right true b h = refl
or_right false b h = h

module _ (program : QuadProgram) where
  -- the registers that are live there hold the same
  abbrev pub SameLive : (function at : ℕ) → Registers → Registers → Type 0
  SameLive function at a b = (r : ℕ) → IsLive (quads_in program function) r at → b r ≡ a r

  -- and so do those of the calls that wait
  abbrev pub CallersAlike : List Caller → List Caller → Type 0
  CallersAlike [] [] = Unit {0}
  CallersAlike (a ∷ xs) (b ∷ ys) = (b.function ≡ a.function) × (b.at ≡ a.at) × SameLive a.function a.at a.registers b.registers × CallersAlike xs ys
  CallersAlike _ _ = ⊥

  pub record Alike (t u : QuadThread) : Type 0 where
    pub registers : Registers
    pub callers : List Caller
    pub is : u ≡ record t { registers = registers; callers = callers }
    pub live : SameLive t.function t.at t.registers registers
    pub calls : CallersAlike t.callers callers

  abbrev NextAlike : Next → Next → Type 0
  NextAlike (Moves Rests) (Moves Rests) = Unit {0}
  NextAlike (Moves (Alone t)) (Moves (Alone u)) = Alike t u
  NextAlike (Moves (Acts x left)) (Moves (Acts y there)) = (y ≡ x) × ((reply : ℕ) → Alike (left reply) (there reply))
  NextAlike (Traps x) (Traps y) = y ≡ x
  NextAlike _ _ = ⊥

  callers_length : (xs ys : List Caller) → CallersAlike xs ys → length ys ≡ length xs
  callers_length [] [] h = refl
  callers_length [] (b ∷ ys) h = absurd h
  callers_length (a ∷ xs) [] h = absurd h
  callers_length (a ∷ xs) (b ∷ ys) h = let rest = callers_length xs ys h.3 in omega (arith, rest)

  -- two ways, by tests that agree
  by_choice : (a b : Bool) (x y x2 y2 : Next) → b ≡ a → (a ≡ true → NextAlike x x2) → (a ≡ false → NextAlike y y2) → NextAlike (if a then x else y) (if b then x2 else y2)
  by_choice a b x y x2 y2 e first second = subst (λ b. NextAlike (if a then x else y) (if b then x2 else y2)) (sym e) (by a refl)
    where
      by : (c : Bool) → a ≡ c → NextAlike (if a then x else y) (if a then x2 else y2)
      by true is = rw is (first is)
      by false is = rw is (second is)

  module _ (t : QuadThread) (rs : Registers) (cs : List Caller) (live : SameLive t.function t.at t.registers rs) (calls : CallersAlike t.callers cs) where
    abbrev other : QuadThread
    other = record t { registers = rs; callers = cs }

    abbrev quads : List Quad
    quads = quads_in program t.function

    same_operand : (o : Operand) → ((r : ℕ) → is_register r o ≡ true → rs r ≡ t.registers r) → operand_value rs o ≡ operand_value t.registers o
    same_operand (Reg x) same = same x (let here : (x == x) ≡ true = grind arith in here)
    same_operand (Literal n) same = refl

    depth_same : reached_depth t.parent cs ≡ reached_depth t.parent t.callers
    depth_same = by t.parent
      where
        by : (parent : Option ℕ) → reached_depth parent cs ≡ reached_depth parent t.callers
        by None = callers_length t.callers cs calls
        by (Some depth) = refl

    same_place : (place : Where) → ((r : ℕ) → is_index r place ≡ true → rs r ≡ t.registers r) → shared_place program other place ≡ shared_place program t place
    same_place (Word w) same = refl
    same_place (Element base index) same = ap (λ v. action.Word (base + v)) (same_operand index same)
    same_place (Outer n) same = ap (λ d. action.Outer d n) depth_same
    same_place (PsReg r) same = refl

    same_inside : (place : Where) → ((r : ℕ) → is_index r place ≡ true → rs r ≡ t.registers r) → is_inside (length program.words) rs place ≡ is_inside (length program.words) t.registers place
    same_inside (Word w) same = refl
    same_inside (Element base index) same = ap (λ v. nat_lt (base + v) (length program.words)) (same_operand index same)
    same_inside (Outer n) same = refl
    same_inside (PsReg r) same = refl

    -- where no register is written
    unwritten : (q : Quad) (to : ℕ) → quad_at program t.function t.at ≡ Some q → ((r : ℕ) → writes r q ≡ false) → Contains (leads_to quads t.at q) to → SameLive t.function to t.registers rs
    unwritten q to here none leads r is = live r (is_kept t.at to q here (none r) leads is)

    -- where one register is written, with the same value
    written : (q : Quad) (x v w : ℕ) → quad_at program t.function t.at ≡ Some q → w ≡ v → ((r : ℕ) → writes r q ≡ (r == x)) → Contains (leads_to quads t.at q) (t.at + 1) → SameLive t.function (t.at + 1) (with_register t.registers x v) (with_register rs x w)
    written q x v w here same only leads r is = by (x == r) refl
      where
        by : (b : Bool) → (x == r) ≡ b → with_register rs x w r ≡ with_register t.registers x v r
        by true e = rw e same
        by false e = let apart : writes r q ≡ false = only r ∙ (let turned : (r == x) ≡ false = grind (arith, e) in turned) in rw e (live r (is_kept t.at (t.at + 1) q here apart leads is))

    -- a register is set to the same value on both sides
    assigned : (q : Quad) (x v w : ℕ) → quad_at program t.function t.at ≡ Some q → w ≡ v → ((r : ℕ) → writes r q ≡ (r == x)) → Contains (leads_to quads t.at q) (t.at + 1) → Alike (with_next t (with_register t.registers x v)) (with_next other (with_register rs x w))
    assigned q x v w here same only leads = record { registers = with_register rs x w; callers = cs; is = refl; live = written q x v w here same only leads; calls = calls }

    kept : (q : Quad) → quad_at program t.function t.at ≡ Some q → ((r : ℕ) → writes r q ≡ false) → Contains (leads_to quads t.at q) (t.at + 1) → Alike (with_next t t.registers) (with_next other rs)
    kept q here none leads = record { registers = rs; callers = cs; is = refl; live = unwritten q (t.at + 1) here none leads; calls = calls }

    jumped : (q : Quad) (to : ℕ) → quad_at program t.function t.at ≡ Some q → ((r : ℕ) → writes r q ≡ false) → Contains (leads_to quads t.at q) to → Alike (record t { at = to }) (record other { at = to })
    jumped q to here none leads = record { registers = rs; callers = cs; is = refl; live = unwritten q to here none leads; calls = calls }

    over : Alike (record t { ended = true }) (record other { ended = true })
    over = record { registers = rs; callers = cs; is = refl; live = live; calls = calls }

    returned : (v w : ℕ) → w ≡ v → (xs ys : List Caller) → CallersAlike xs ys → NextAlike (returns t v xs) (returns other w ys)
    returned v w same [] [] h = (refl, λ reply. over)
    returned v w same [] (b ∷ ys) h = absurd h
    returned v w same (a ∷ xs) [] h = absurd h
    returned v w same (a ∷ xs) (b ∷ ys) h =
        record {
          registers = b.registers;
          callers = ys;
          is = ap (λ f. record t { function = f; at = b.at; registers = b.registers; callers = ys; result = w }) h.0 ∙
              ap (λ at. record t { function = a.function; at = at; registers = b.registers; callers = ys; result = w }) h.1 ∙
              ap (λ result. record t { function = a.function; at = a.at; registers = b.registers; callers = ys; result = result }) same;
          live = h.2;
          calls = h.3;
        }

    one_next : (to : ℕ) (rest : List ℕ) → Contains (to ∷ rest) to
    one_next to rest = (0, omega arith, refl)

    two_next : (first to : ℕ) → Contains (first ∷ to ∷ []) to
    two_next first to = (1, omega arith, refl)

    by_quad : (q : Quad) → quad_at program t.function t.at ≡ Some q → NextAlike (next_at program t (Some q)) (next_at program other (Some q))
    by_quad (quad.Copy x o) here = assigned (quad.Copy x o) x _ _ here (same_operand o (λ r e. live r (is_read t.at (quad.Copy x o) here e))) (λ r. refl) (one_next (t.at + 1) [])
    by_quad (quad.Unary op x o) here =
        assigned (quad.Unary op x o) x _ _ here (ap (unary_value op) (same_operand o (λ r e. live r (is_read t.at (quad.Unary op x o) here e)))) (λ r. refl) (one_next (t.at + 1) [])
    by_quad (quad.Binary op x a b) here =
        let q = quad.Binary op x a b in
        let sa = same_operand a (λ r e. live r (is_read t.at q here (or_left (is_register r a) (is_register r b) e))) in
        let sb = same_operand b (λ r e. live r (is_read t.at q here (or_right (is_register r a) (is_register r b) e))) in
        by_option (binary_value op (operand_value t.registers a) (operand_value t.registers b)) (binary_value op (operand_value rs a) (operand_value rs b))
        (ap (λ v. binary_value op v (operand_value rs b)) sa ∙ ap (binary_value op (operand_value t.registers a)) sb)
      where
        by_value : (v : Option ℕ) → NextAlike (assigns_option t x v) (assigns_option other x v)
        by_value None = refl
        by_value (Some v) = assigned (quad.Binary op x a b) x v v here refl (λ r. refl) (one_next (t.at + 1) [])

        by_option : (v w : Option ℕ) → w ≡ v → NextAlike (assigns_option t x v) (assigns_option other x w)
        by_option v w same = subst (λ w. NextAlike (assigns_option t x v) (assigns_option other x w)) (sym same) (by_value v)
    by_quad (quad.Dollar x) here = assigned (quad.Dollar x) x _ _ here refl (λ r. refl) (one_next (t.at + 1) [])
    by_quad (quad.Test o size) here =
        by_choice (nat_lt (operand_value t.registers o) size) (nat_lt (operand_value rs o) size) (goes (with_next t t.registers)) (Traps Index) (goes (with_next other rs)) (Traps Index)
        (ap (λ v. nat_lt v size) (same_operand o (λ r e. live r (is_read t.at (quad.Test o size) here e)))) (λ is. kept (quad.Test o size) here (λ r. refl) (one_next (t.at + 1) [])) (λ is. refl)
    by_quad (quad.Load x place) here =
        let q = quad.Load x place in
        let same : (r : ℕ) → is_index r place ≡ true → rs r ≡ t.registers r = λ r e. live r (is_read t.at q here e) in
        by_choice (is_inside (length program.words) t.registers place) (is_inside (length program.words) rs place)
        (acts (action.Load (shared_place program t place)) (λ reply. with_next t (with_register t.registers x reply))) (Traps Address)
        (acts (action.Load (shared_place program other place)) (λ reply. with_next other (with_register rs x reply))) (Traps Address) (same_inside place same)
        (λ is. (ap action.Load (same_place place same), λ reply. assigned q x reply reply here refl (λ r. refl) (one_next (t.at + 1) []))) (λ is. refl)
    by_quad (quad.Store place o) here =
        let q = quad.Store place o in
        let same : (r : ℕ) → is_index r place ≡ true → rs r ≡ t.registers r = λ r e. live r (is_read t.at q here (or_left (is_index r place) (is_register r o) e)) in
        let value = same_operand o (λ r e. live r (is_read t.at q here (or_right (is_index r place) (is_register r o) e))) in
        by_choice (is_inside (length program.words) t.registers place) (is_inside (length program.words) rs place)
        (acts (action.Store (shared_place program t place) (operand_value t.registers o)) (λ reply. with_next t t.registers)) (Traps Address)
        (acts (action.Store (shared_place program other place) (operand_value rs o)) (λ reply. with_next other rs)) (Traps Address) (same_inside place same)
        (λ is. (ap (λ p. action.Store p (operand_value rs o)) (same_place place same) ∙ ap (action.Store (shared_place program t place)) value, λ reply. kept q here (λ r. refl) (one_next (t.at + 1) []))) (λ is. refl)
    by_quad (quad.Add x place o) here =
        let q = quad.Add x place o in
        let same : (r : ℕ) → is_index r place ≡ true → rs r ≡ t.registers r = λ r e. live r (is_read t.at q here (or_left (is_index r place) (is_register r o) e)) in
        let value = same_operand o (λ r e. live r (is_read t.at q here (or_right (is_index r place) (is_register r o) e))) in
        let add = acts (action.Add (shared_place program t place) (operand_value t.registers o)) (λ reply. with_next t (with_register t.registers x reply)) in
        let there = acts (action.Add (shared_place program other place) (operand_value rs o)) (λ reply. with_next other (with_register rs x reply)) in
        by_choice (is_inside (length program.words) t.registers place) (is_inside (length program.words) rs place)
        (if may_increment place (operand_value t.registers o) then add else Traps PsIncrement) (Traps Address)
        (if may_increment place (operand_value rs o) then there else Traps PsIncrement) (Traps Address) (same_inside place same)
        (λ is.
        by_choice (may_increment place (operand_value t.registers o)) (may_increment place (operand_value rs o)) add (Traps PsIncrement) there (Traps PsIncrement) (ap (may_increment place) value)
        (λ is. (ap (λ p. action.Add p (operand_value rs o)) (same_place place same) ∙ ap (action.Add (shared_place program t place)) value, λ reply. assigned q x reply reply here refl (λ r. refl) (one_next (t.at + 1) []))) (λ is. refl))
        (λ is. refl)
    by_quad (quad.Jump to) here = jumped (quad.Jump to) to here (λ r. refl) (one_next to [])
    by_quad (quad.IfZero o to) here =
        let q = quad.IfZero o to in
        let same = ap (λ v. v == 0) (same_operand o (λ r e. live r (is_read t.at q here e))) in
        subst (λ b. Alike (record t { at = if operand_value t.registers o == 0 then to else t.at + 1 }) (record other { at = if b then to else t.at + 1 })) (sym same)
        (by_test (operand_value t.registers o == 0))
      where
        by_test : (b : Bool) → Alike (record t { at = if b then to else t.at + 1 }) (record other { at = if b then to else t.at + 1 })
        by_test true = jumped (quad.IfZero o to) to here (λ r. refl) (one_next to ((t.at + 1) ∷ []))
        by_test false = jumped (quad.IfZero o to) (t.at + 1) here (λ r. refl) (two_next to (t.at + 1))
    by_quad (quad.IfNot o to) here =
        let q = quad.IfNot o to in
        let same = ap (λ v. v == 0) (same_operand o (λ r e. live r (is_read t.at q here e))) in
        subst (λ b. Alike (record t { at = if operand_value t.registers o == 0 then t.at + 1 else to }) (record other { at = if b then t.at + 1 else to })) (sym same)
        (by_test (operand_value t.registers o == 0))
      where
        by_test : (b : Bool) → Alike (record t { at = if b then t.at + 1 else to }) (record other { at = if b then t.at + 1 else to })
        by_test false = jumped (quad.IfNot o to) to here (λ r. refl) (one_next to ((t.at + 1) ∷ []))
        by_test true = jumped (quad.IfNot o to) (t.at + 1) here (λ r. refl) (two_next to (t.at + 1))
    by_quad (quad.Argument place o) here =
        let q = quad.Argument place o in
        let value = same_operand o (λ r e. live r (is_read t.at q here e)) in
        record {
          registers = rs;
          callers = cs;
          is = ap (λ v. record other { at = t.at + 1; list = with_register t.list place v }) value;
          live = unwritten q (t.at + 1) here (λ r. refl) (one_next (t.at + 1) []);
          calls = calls;
        }
    by_quad (quad.Parameter x place) here = assigned (quad.Parameter x place) x _ _ here refl (λ r. refl) (one_next (t.at + 1) [])
    by_quad (quad.Call f) here =
        let q = quad.Call f in
        by_choice (nat_lt (length t.callers) 256) (nat_lt (length cs) 256) (goes (enters t f)) (Traps CallDepth) (goes (enters other f)) (Traps CallDepth) (ap (λ n. nat_lt n 256) (callers_length t.callers cs calls))
        (λ is.
        record {
          registers = t.found 0;
          callers = record { function = t.function; at = t.at + 1; registers = rs } ∷ cs;
          is = refl;
          live = λ r is. refl;
          calls = (refl, refl, unwritten q (t.at + 1) here (λ r. refl) (one_next (t.at + 1) []), calls);
        })
        (λ is. refl)
    by_quad (quad.Result x) here = assigned (quad.Result x) x _ _ here refl (λ r. refl) (one_next (t.at + 1) [])
    by_quad (quad.Return o) here = returned _ _ (same_operand o (λ r e. live r (is_read t.at (quad.Return o) here e))) t.callers cs calls
    by_quad (quad.Print text) here = (refl, λ reply. kept (quad.Print text) here (λ r. refl) (one_next (t.at + 1) []))
    by_quad (quad.Spawn low high) here =
        let q = quad.Spawn low high in
        let site = site_at program t.function t.at in
        let sl = same_operand low (λ r e. live r (is_read t.at q here (or_left (is_register r low) (is_register r high) e))) in
        let sh = same_operand high (λ r e. live r (is_read t.at q here (or_right (is_register r low) (is_register r high) e))) in (
          ap (λ l. action.Spawn site l (operand_value rs high)) sl ∙ ap (action.Spawn site (operand_value t.registers low)) sh,
          λ reply. jumped q (behind_join quads t.at) here (λ r. refl) (two_next (t.at + 1) (behind_join quads t.at)),
        )
    by_quad quad.Join here = (refl, λ reply. over)

    by_option_quad : (o : Option Quad) → quad_of program t ≡ o → (t.ended ≡ false → quad_at program t.function t.at ≡ o) → NextAlike (next_at program t o) (next_at program other o)
    by_option_quad None is there = tt
    by_option_quad (Some q) is there = by_quad q (there (lives t.ended refl))
      where
        lives : (b : Bool) → t.ended ≡ b → t.ended ≡ false
        lives false e = e
        lives true e = let no : quad_of program t ≡ None = ap (λ b. if b then None else quad_at program t.function t.at) e in cc

    next_alike : NextAlike (next_of program t) (next_of program other)
    next_alike = by_option_quad (quad_of program t) refl (λ e. sym (ap (λ b. if b then None else quad_at program t.function t.at) e))

  -- ---- runs

  -- whatever one of two threads does that are alike, the other does, with the same work
  pub alike_runs : (n : ℕ) (t u : QuadThread) → Alike t u → (part : List (Entry Action)) (end : QuadThread) (work : ℕ) → DoesWith (move program) (cost program) n t part end work → (there : QuadThread) × DoesWith (move program) (cost program) n u part there work × Alike end there
  alike_runs zero t u a part end work does = (u, (does.0, refl, does.2), subst (λ x. Alike x u) (sym does.1) a)
  alike_runs (suc n) t u a part end work does =
      let found = by_next (λ s s2 alike rest does2. alike_runs n s s2 alike rest end does.0 does2) (next_of program t) (next_of program u)
      (subst (λ x. NextAlike (next_of program t) (next_of program x)) (sym a.is) (next_alike t a.registers a.callers a.live a.calls)) part does.2 in
      (found.0, (does.0, does.1 ∙ ap (λ c. c + does.0) (same_cost t u a), found.1), found.2)
    where
      same_cost : (t u : QuadThread) (a : Alike t u) → cost program t ≡ cost program u
      same_cost t u a = ap (cost program) (sym a.is)

      by_next : ((s s2 : QuadThread) → Alike s s2 → (rest : List (Entry Action)) → DoesWith (move program) (cost program) n s rest end does.0 → (there : QuadThread) × DoesWith (move program) (cost program) n s2 rest there does.0 × Alike end there) →
          (x y : Next) → NextAlike x y → (part : List (Entry Action)) → DoesThen (λ s part end. DoesWith (move program) (cost program) n s part end does.0) (move_of program x) part end →
          (there : QuadThread) × DoesThen (λ s part end. DoesWith (move program) (cost program) n s part end does.0) (move_of program y) part there × Alike end there
      by_next on (Moves (Alone s)) (Moves (Alone s2)) alike part goes = on s s2 alike part goes
      by_next on (Moves (Acts x left)) (Moves (Acts y left2)) alike (e ∷ rest) goes =
          let found = on (left e.reply) (left2 e.reply) (alike.1 e.reply) rest goes.1 in
          (found.0, (goes.0 ∙ sym alike.0, found.1), found.2)
      by_next on (Moves (Acts x left)) (Moves (Acts y left2)) alike [] goes = absurd goes
      by_next on (Moves Rests) y alike part goes = absurd goes
      by_next on (Traps x) y alike part goes = absurd goes
      by_next on (Moves (Alone s)) (Moves Rests) alike part goes = absurd alike
      by_next on (Moves (Alone s)) (Moves (Acts y left2)) alike part goes = absurd alike
      by_next on (Moves (Alone s)) (Traps y) alike part goes = absurd alike
      by_next on (Moves (Acts x left)) (Moves Rests) alike part goes = absurd alike
      by_next on (Moves (Acts x left)) (Moves (Alone s)) alike part goes = absurd alike
      by_next on (Moves (Acts x left)) (Traps y) alike part goes = absurd alike

  -- and where one is at a trap, the other is
  pub alike_trap : (t u : QuadThread) → Alike t u → (kind : _) → next_of program t ≡ Traps kind → next_of program u ≡ Traps kind
  alike_trap t u a kind is =
      by (next_of program u) (subst (λ x. NextAlike x (next_of program u)) is (subst (λ x. NextAlike (next_of program t) (next_of program x)) (sym a.is) (next_alike t a.registers a.callers a.live a.calls)))
    where
      by : (y : Next) → NextAlike (Traps kind) y → y ≡ Traps kind
      by (Traps there) h = ap Traps h
      by (Moves m) h = absurd h
