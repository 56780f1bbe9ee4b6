-- Fine code stays fine, and a thread of fine code keeps to its cells.
use Rattle.std.proofs.Common.{◌≡◌, refl, sym, subst, ℕ, suc, zero, ◌+◌, ◌==◌, nat_lt, inl, Bool, true, false, if◌then◌else◌, List, [], ◌∷◌, Option, Some, None, is_none}
use Rattle.xmt_base.specs.declared.values.TrapKind.TheVariants.{Index, CallDepth, PsIncrement}
use Rattle.xmt_base.specs.Action.{Action}
use Rattle.xmt_base.specs.Operators.{binary_value}
use Rattle.source_meaning.specs.declared.tree.Program.{Program}
use Rattle.source_meaning.specs.Store.{Cell, Word, Register, Outer, Private, Store}
use Rattle.source_meaning.specs.Term.{Target, At, Element, Term, Value, Dollar, Read, Assign, Update, Step, Postfix, Unary, Binary, Both, Either, Choose, Call, Entered, Terms, End, More, Code, Done, Then, Expression, Set, Block, If, While, Do, For, Turn, Break, Continue, Return, Spawn, Join, PrefixSum, Add, Print}
use Rattle.source_meaning.specs.Next.{Ask, Quietly, Loading, Storing, Adding, Printing, Spawning, Joining, Ending, Next, Is, Asks, Traps, quiet_step, next_within, Exit, Ends, Returns, Breaks, Continues, next_after, next_after_turn, operator_step, test_step, nonzero_test, step_rest, may_add, next_target, next, next_values, next_code}
use Rattle.source_meaning.specs.Code.{call_code}
use Rattle.source_meaning.specs.Run.{next_of_rest}
use Rattle.source_meaning.specs.Trace.{action_of}
use Rattle.interleaving.specs.Actors.{Does, DoesThen}
use Rattle.source_log.specs.Log.{Log}
use Rattle.source_log.specs.Threads.{Actor, next_of_actor, own_reply, actor_after, move_by, move_of, move, MayWrite, MayRead, MayAsk, is_ending, IsKept, Keeps, BlockKeeps, ThreadsKeep, main_actor}
use Rattle.source_log.specs.Fine.{FineRead, FineWrite, Fine, FineTerms, FineCode, FineRest, FineAsk, NoBlock, FineBlock, AnyFunction, FineProgram}

may_read : (thread : ℕ) (cell : Cell) → MayWrite thread cell → MayRead thread cell
may_read thread (Word place) h = h
may_read thread (Register number) h = h
may_read thread (Outer owner depth number) h = h
may_read thread (Private owner depth slot) h = inl h

module _ (thread number : ℕ) (call : (function depth : ℕ) → List ℕ → Code) (MayCall : ℕ → Type 0) (MaySpawn : (ℕ → Code) → Type 0)
    (fine_calls : (function depth : ℕ) (values : List ℕ) → MayCall function → FineCode thread MayCall MaySpawn (call function depth values)) where
  abbrev FineNext : {T R : Type 0} → (T → Type 0) → (R → Type 0) → Next T R → Type 0
  FineNext Left Result (Is result) = Result result
  FineNext Left Result (Asks ask left) = FineAsk thread MayCall MaySpawn ask × ((reply : ℕ) → Left (left reply))
  FineNext Left Result (Traps kind line) = Unit {0}

  within : {T R U S : Type 0} (LeftT : T → Type 0) (ResultR : R → Type 0) (LeftU : U → Type 0) (ResultS : S → Type 0) (around : T → U) (n : Next T R) (go : R → Next U S) →
      FineNext LeftT ResultR n → ((x : T) → LeftT x → LeftU (around x)) → ((r : R) → ResultR r → FineNext LeftU ResultS (go r)) → FineNext LeftU ResultS (next_within around n go)
  within LeftT ResultR LeftU ResultS around (Is result) go fine keeps goes = goes result fine
  within LeftT ResultR LeftU ResultS around (Asks ask left) go fine keeps goes = (fine.0, λ reply. keeps (left reply) (fine.1 reply))
  within LeftT ResultR LeftU ResultS around (Traps kind line) go fine keeps goes = tt

  abbrev AnyValue : ℕ → Type 0
  AnyValue x = Unit {0}

  abbrev AnyValues : List ℕ → Type 0
  AnyValues x = Unit {0}

  abbrev AnyExit : Exit → Type 0
  AnyExit x = Unit {0}

  abbrev T : Term → Type 0
  T = Fine thread MayCall MaySpawn

  abbrev C : Code → Type 0
  C = FineCode thread MayCall MaySpawn

  either_term : (b : Bool) (x y : Term) → T x → T y → T (if b then x else y)
  either_term true x y h g = h
  either_term false x y h g = g

  either_code : (b : Bool) (x y : Code) → C x → C y → C (if b then x else y)
  either_code true x y h g = h
  either_code false x y h g = g

  fine_test : (Left : Target → Type 0) (Result : Cell → Type 0) → ((place : ℕ) → Left (At (Word place))) → (line base length index : ℕ) → FineNext Left Result (test_step line base length index)
  fine_test Left Result word line base length index = by_test (nat_lt index length)
    where
      by_test : (b : Bool) → FineNext Left Result (if b then quiet_step (At (Word (base + index))) else Traps Index line)
      by_test true = (tt, λ reply. word (base + index))
      by_test false = tt

  fine_operator : (line : ℕ) (v : Option ℕ) → FineNext T AnyValue (operator_step line v)
  fine_operator line None = tt
  fine_operator line (Some v) = (tt, λ reply. tt)

  fine_step_rest : (up after : Bool) (cell : Cell) (old : ℕ) → MayWrite thread cell → T (step_rest up after cell old)
  fine_step_rest up true cell old may = (may, (tt, tt))
  fine_step_rest up false cell old may = (may, (tt, tt))

  fine_call : (b : Bool) (line function depth : ℕ) (values : List ℕ) → MayCall function → FineNext T AnyValue (if b then quiet_step (Entered (call function (suc depth) values)) else Traps CallDepth line)
  fine_call true line function depth values may = (tt, λ reply. fine_calls function (suc depth) values may)
  fine_call false line function depth values may = tt

  fine_after : (exit : Exit) (go : Next Code Exit) → FineNext C AnyExit go → FineNext C AnyExit (next_after exit go)
  fine_after Ends go h = h
  fine_after (Returns v) go h = tt
  fine_after Breaks go h = tt
  fine_after Continues go h = tt

  fine_after_turn : (exit : Exit) (again : Code) (go : Next Code Exit) → C again → FineNext C AnyExit go → FineNext C AnyExit (next_after_turn exit again go)
  fine_after_turn Ends again go h g = g
  fine_after_turn (Returns v) again go h g = tt
  fine_after_turn Breaks again go h g = (tt, λ reply. tt)
  fine_after_turn Continues again go h g = (tt, λ reply. h)

  fine_add : (b : Bool) (line increment : ℕ) (variable cell : Cell) → MayWrite thread variable → MayWrite thread cell → FineNext C AnyExit (if b then Asks (Adding cell increment) (λ old. Set (At variable) (Value old)) else Traps PsIncrement line)
  fine_add true line increment variable cell may may_cell = (may_cell, λ reply. (may, tt))
  fine_add false line increment variable cell may may_cell = tt

  abbrev TR : Target → Type 0
  TR = FineRead thread MayCall MaySpawn

  abbrev TW : Target → Type 0
  TW = FineWrite thread MayCall MaySpawn

  abbrev TS : Terms → Type 0
  TS = FineTerms thread MayCall MaySpawn

  mutual
    fine_read : (depth : ℕ) (p : Target) → TR p → FineNext TR (MayRead thread) (next_target number call depth p)
    fine_read depth (At cell) h = h
    fine_read depth (Element line base length index) h =
        within T AnyValue TR (MayRead thread) (Element line base length) (next number call depth index) (test_step line base length) (fine_next depth index h) (λ x g. g) (λ v g. fine_test TR (MayRead thread) (λ place. tt) line base length v)

    fine_write : (depth : ℕ) (p : Target) → TW p → FineNext TW (MayWrite thread) (next_target number call depth p)
    fine_write depth (At cell) h = h
    fine_write depth (Element line base length index) h =
        within T AnyValue TW (MayWrite thread) (Element line base length) (next number call depth index) (test_step line base length) (fine_next depth index h) (λ x g. g) (λ v g. fine_test TW (MayWrite thread) (λ place. tt) line base length v)

    fine_next : (depth : ℕ) (e : Term) → T e → FineNext T AnyValue (next number call depth e)
    fine_next depth (Value v) h = tt
    fine_next depth Dollar h = (tt, λ reply. tt)
    fine_next depth (Read p) h =
        within TR (MayRead thread) T AnyValue Read (next_target number call depth p) (λ cell. Asks (Loading cell) Value) (fine_read depth p h) (λ x g. g) (λ cell may. (may, λ reply. tt))
    fine_next depth (Assign p e) h =
        within TW (MayWrite thread) T AnyValue (λ p. Assign p e) (next_target number call depth p) _ (fine_write depth p h.0) (λ x g. (g, h.1)) (λ cell may.
        within T AnyValue T AnyValue (Assign (At cell)) (next number call depth e) _ (fine_next depth e h.1) (λ x g. (may, g)) (λ v g. (may, λ reply. tt)))
    fine_next depth (Update line op p e) h =
        within TW (MayWrite thread) T AnyValue (λ p. Update line op p e) (next_target number call depth p) _ (fine_write depth p h.0) (λ x g. (g, h.1)) (λ cell may.
        (may_read thread cell may, λ reply. (may, (tt, h.1))))
    fine_next depth (Step up after p) h =
        within TW (MayWrite thread) T AnyValue (Step up after) (next_target number call depth p) _ (fine_write depth p h) (λ x g. g) (λ cell may.
        (may_read thread cell may, λ reply. fine_step_rest up after cell reply may))
    fine_next depth (Postfix cell old e) h =
        within T AnyValue T AnyValue (Postfix cell old) (next number call depth e) _ (fine_next depth e h.1) (λ x g. (h.0, g)) (λ v g. (h.0, λ reply. tt))
    fine_next depth (Unary op e) h =
        within T AnyValue T AnyValue (Unary op) (next number call depth e) _ (fine_next depth e h) (λ x g. g) (λ v g. (tt, λ reply. tt))
    fine_next depth (Binary line op a b) h =
        within T AnyValue T AnyValue (λ a. Binary line op a b) (next number call depth a) _ (fine_next depth a h.0) (λ x g. (g, h.1)) (λ x g.
        within T AnyValue T AnyValue (Binary line op (Value x)) (next number call depth b) _ (fine_next depth b h.1) (λ y g. (tt, g)) (λ y g. fine_operator line (binary_value op x y)))
    fine_next depth (Both a b) h =
        within T AnyValue T AnyValue (λ a. Both a b) (next number call depth a) _ (fine_next depth a h.0) (λ x g. (g, h.1)) (λ v g. (tt, λ reply. either_term (v == 0) (Value 0) (nonzero_test b) tt (h.1, tt)))
    fine_next depth (Either a b) h =
        within T AnyValue T AnyValue (λ a. Either a b) (next number call depth a) _ (fine_next depth a h.0) (λ x g. (g, h.1)) (λ v g. (tt, λ reply. either_term (v == 0) (nonzero_test b) (Value 1) (h.1, tt) tt))
    fine_next depth (Choose test a b) h =
        within T AnyValue T AnyValue (λ test. Choose test a b) (next number call depth test) _ (fine_next depth test h.0) (λ x g. (g, h.1, h.2)) (λ v g. (tt, λ reply. either_term (v == 0) b a h.2 h.1))
    fine_next depth (Call line function values) h =
        within TS AnyValues T AnyValue (Call line function) (next_values number call depth values) _ (fine_values depth values h.1) (λ x g. (h.0, g)) (λ vs g. fine_call (nat_lt depth 256) line function depth vs h.0)
    fine_next depth (Entered body) h =
        within C AnyExit T AnyValue Entered (next_code number call (suc depth) body) _ (fine_code (suc depth) body h) (λ x g. g) (λ exit g. (tt, λ reply. tt))

    fine_values : (depth : ℕ) (values : Terms) → TS values → FineNext TS AnyValues (next_values number call depth values)
    fine_values depth End h = tt
    fine_values depth (More e rest) h =
        within T AnyValue TS AnyValues (λ e. More e rest) (next number call depth e) _ (fine_next depth e h.0) (λ x g. (g, h.1)) (λ v g.
        within TS AnyValues TS AnyValues (More (Value v)) (next_values number call depth rest) _ (fine_values depth rest h.1) (λ x g. (tt, g)) (λ vs g. tt))

    fine_code : (depth : ℕ) (code : Code) → C code → FineNext C AnyExit (next_code number call depth code)
    fine_code depth Done h = tt
    fine_code depth (Then a b) h =
        within C AnyExit C AnyExit (λ a. Then a b) (next_code number call depth a) _ (fine_code depth a h.0) (λ x g. (g, h.1)) (λ exit g. fine_after exit (next_code number call depth b) (fine_code depth b h.1))
    fine_code depth (Expression e) h =
        within T AnyValue C AnyExit Expression (next number call depth e) _ (fine_next depth e h) (λ x g. g) (λ v g. (tt, λ reply. tt))
    fine_code depth (Set p e) h =
        within TW (MayWrite thread) C AnyExit (λ p. Set p e) (next_target number call depth p) _ (fine_write depth p h.0) (λ x g. (g, h.1)) (λ cell may.
        within T AnyValue C AnyExit (Set (At cell)) (next number call depth e) _ (fine_next depth e h.1) (λ x g. (may, g)) (λ v g. (may, λ reply. tt)))
    fine_code depth (Block body) h =
        within C AnyExit C AnyExit Block (next_code number call depth body) _ (fine_code depth body h) (λ x g. g) (λ exit g. fine_after exit (quiet_step Done) (tt, λ reply. tt))
    fine_code depth (If test a b) h =
        within T AnyValue C AnyExit (λ test. If test a b) (next number call depth test) _ (fine_next depth test h.0) (λ x g. (g, h.1, h.2)) (λ v g. (tt, λ reply. either_code (v == 0) b a h.2 h.1))
    fine_code depth (While test body) h = (tt, λ reply. (h.0, (h.1, h), tt))
    fine_code depth (Do body test) h = (tt, λ reply. (h.0, (h.1, h, tt)))
    fine_code depth (For test third body) h = (tt, λ reply. (h.0, (h.2, (h.1, h)), tt))
    fine_code depth (Turn body again) h =
        within C AnyExit C AnyExit (λ body. Turn body again) (next_code number call depth body) _ (fine_code depth body h.0) (λ x g. (g, h.1)) (λ exit g. fine_after_turn exit again (next_code number call depth again) h.1 (fine_code depth again h.1))
    fine_code depth Break h = tt
    fine_code depth Continue h = tt
    fine_code depth (Return e) h = within T AnyValue C AnyExit Return (next number call depth e) _ (fine_next depth e h) (λ x g. g) (λ v g. tt)
    fine_code depth (Spawn site low high block) h =
        within T AnyValue C AnyExit (λ low. Spawn site low high block) (next number call depth low) _ (fine_next depth low h.1) (λ x g. (h.0, g, h.2, h.3)) (λ l g.
        within T AnyValue C AnyExit (λ high. Spawn site (Value l) high block) (next number call depth high) _ (fine_next depth high h.2) (λ x g. (h.0, tt, g, h.3)) (λ v g. ((h.0, h.3), λ reply. h.0)))
    fine_code depth Join h = (h, λ reply. tt)
    fine_code depth (PrefixSum line v p) h =
        within TW (MayWrite thread) C AnyExit (λ v. PrefixSum line v p) (next_target number call depth v) _ (fine_write depth v h.0) (λ x g. (g, h.1)) (λ cell may. (may_read thread cell may, λ reply. (may, h.1)))
    fine_code depth (Add line variable p increment) h =
        within TW (MayWrite thread) C AnyExit (λ p. Add line variable p increment) (next_target number call depth p) _ (fine_write depth p h.1) (λ x g. (h.0, g)) (λ cell may. fine_add (may_add cell increment) line increment variable cell h.0 may)
    fine_code depth (Print text values) h =
        within TS AnyValues C AnyExit (Print text) (next_values number call depth values) _ (fine_values depth values h) (λ x g. g) (λ vs g. (tt, λ reply. tt))

-- ---- threads

module _ (program : Program) (thread : ℕ) (MayCall : ℕ → Type 0) (MaySpawn : (ℕ → Code) → Type 0)
    (fine_calls : (function depth : ℕ) (values : List ℕ) → MayCall function → FineCode thread MayCall MaySpawn (call_code program thread function depth values)) where
  abbrev FineSpawn : Ask → Type 0
  FineSpawn (Spawning site low high block) = MaySpawn block
  FineSpawn _ = Unit {0}

  abbrev FineRestNext : Next (Option Code) (Unit {0}) → Type 0
  FineRestNext (Is result) = Unit {0}
  FineRestNext (Traps kind line) = Unit {0}
  FineRestNext (Asks ask left) = MayAsk thread ask × ((reply : ℕ) → is_none (left reply) ≡ is_ending ask) × ((reply : ℕ) → FineRest thread MayCall MaySpawn (left reply)) × FineSpawn ask

  by_ask : (ask : Ask) (left : ℕ → Code) → FineAsk thread MayCall MaySpawn ask → ((reply : ℕ) → FineCode thread MayCall MaySpawn (left reply)) → FineRestNext (Asks ask (λ reply. Some (left reply)))
  by_ask Quietly left h g = (tt, λ reply. refl, g, tt)
  by_ask (Loading cell) left h g = (h, λ reply. refl, g, tt)
  by_ask (Storing cell v) left h g = (h, λ reply. refl, g, tt)
  by_ask (Adding cell v) left h g = (h, λ reply. refl, g, tt)
  by_ask (Printing text) left h g = (tt, λ reply. refl, g, tt)
  by_ask (Spawning site low high block) left h g = (h.0, λ reply. refl, g, h.1)
  by_ask Joining left h g = (h, λ reply. refl, g, tt)
  by_ask Ending left h g = absurd h

  by_code : (n : Next Code Exit) → FineNext thread 0 (call_code program thread) MayCall MaySpawn fine_calls (FineCode thread MayCall MaySpawn) (λ exit. Unit {0}) n → FineRestNext (next_within Some n (λ exit. Asks Ending (λ reply. None)))
  by_code (Is exit) h = (tt, λ reply. refl, λ reply. tt, tt)
  by_code (Traps kind line) h = tt
  by_code (Asks ask left) h = by_ask ask left h.0 h.1

  fine_rest : (number : ℕ) (code : Option Code) → FineRest thread MayCall MaySpawn code → FineRestNext (next_of_rest program thread number code)
  fine_rest number None h = tt
  fine_rest number (Some code) h = by_code (next_code number (call_code program thread) 0 code) (fine_code thread number (call_code program thread) MayCall MaySpawn fine_calls 0 code h)

  fine_stays : (n : ℕ) (a : Actor) (part : Log) (end : Actor) → FineRest thread MayCall MaySpawn a.code → Does (move program thread) n a part end → FineRest thread MayCall MaySpawn end.code
  fine_stays zero a part end fine does = subst (λ x. FineRest thread MayCall MaySpawn x.code) (sym does.1) fine
  fine_stays (suc n) a part end fine does = by_next (λ a1 part1 fine1 does1. fine_stays n a1 part1 end fine1 does1) (next_of_actor program thread a) (fine_rest a.number a.code fine) does
    where
      by_acts : ((a1 : Actor) (part1 : Log) → FineRest thread MayCall MaySpawn a1.code → Does (move program thread) n a1 part1 end → FineRest thread MayCall MaySpawn end.code) → (ask : Ask) (left : ℕ → Option Code) → ((reply : ℕ) → FineRest thread MayCall MaySpawn (left reply)) →
          (acts : List Action) → action_of ask ≡ acts → (part : Log) → DoesThen (Does (move program thread) n) (move_by a ask left acts) part end → FineRest thread MayCall MaySpawn end.code
      by_acts go ask left fine [] is part does = go (actor_after a ask (left (own_reply a.store ask))) part (fine (own_reply a.store ask)) does
      by_acts go ask left fine (x ∷ rest) is [] does = absurd does
      by_acts go ask left fine (x ∷ rest) is (e ∷ part) does =
          go (actor_after a ask (left e.reply)) part (fine e.reply) does.1

      by_next : ((a1 : Actor) (part1 : Log) → FineRest thread MayCall MaySpawn a1.code → Does (move program thread) n a1 part1 end → FineRest thread MayCall MaySpawn end.code) → (m : Next (Option Code) (Unit {0})) → FineRestNext m → DoesThen (Does (move program thread) n) (move_of a m) part end → FineRest thread MayCall MaySpawn end.code
      by_next go (Is result) fine does = absurd does
      by_next go (Traps kind line) fine does = absurd does
      by_next go (Asks ask left) fine does = by_acts go ask left fine.2 (action_of ask) refl part does

  kept_of : (n : Next (Option Code) (Unit {0})) → FineRestNext n → IsKept thread n
  kept_of (Is result) h = tt
  kept_of (Traps kind line) h = tt
  kept_of (Asks ask left) h = (h.0, h.1)

  pub keeps_fine : (a : Actor) → FineRest thread MayCall MaySpawn a.code → Keeps program thread a
  keeps_fine a fine n part end does = kept_of (next_of_actor program thread end) (fine_rest end.number end.code (fine_stays n a part end fine does))

  -- a spawn of fine code makes fine blocks
  pub fine_spawn : (n : ℕ) (a : Actor) (part : Log) (end : Actor) → FineRest thread MayCall MaySpawn a.code → Does (move program thread) n a part end → FineRestNext (next_of_actor program thread end)
  fine_spawn n a part end fine does = fine_rest end.number end.code (fine_stays n a part end fine does)

-- Where the code of a program is fine, its threads keep to their cells.
pub threads_keep : (program : Program) (MayCall : ℕ → Type 0) → FineProgram program MayCall → ThreadsKeep program
threads_keep program MayCall fine =
    record {
      serial = keeps_fine program 0 AnyFunction (FineBlock MayCall) calls (main_actor program) main_fine;
      virtual = λ steps part end does. by_next end.store (next_of_actor program 0 end) (fine_spawn program 0 AnyFunction (FineBlock MayCall) calls steps (main_actor program) part end main_fine does);
    }
  where
    calls : (function depth : ℕ) (values : List ℕ) → AnyFunction function → FineCode 0 AnyFunction (FineBlock MayCall) (call_code program 0 function depth values)
    calls function depth values any = fine.serial function depth values

    main_fine : FineCode 0 AnyFunction (FineBlock MayCall) (call_code program 0 program.main 0 [])
    main_fine = fine.serial program.main 0 []

    by_ask : (store : Store) (ask : Ask) (left : ℕ → Option Code) → FineSpawn program 0 AnyFunction (FineBlock MayCall) calls ask → BlockKeeps program store (Asks ask left)
    by_ask store Quietly left h = tt
    by_ask store (Loading cell) left h = tt
    by_ask store (Storing cell v) left h = tt
    by_ask store (Adding cell v) left h = tt
    by_ask store (Printing text) left h = tt
    by_ask store Joining left h = tt
    by_ask store Ending left h = tt
    by_ask store (Spawning site low high block) left h = λ thread number positive.
        keeps_fine program thread MayCall NoBlock (λ function depth values may. fine.virtual thread function depth values positive may) (record { code = Some (block thread); number = number; store = store }) (h thread positive)

    by_next : (store : Store) (n : Next (Option Code) (Unit {0})) → FineRestNext program 0 AnyFunction (FineBlock MayCall) calls n → BlockKeeps program store n
    by_next store (Is result) h = tt
    by_next store (Traps kind line) h = tt
    by_next store (Asks ask left) h = by_ask store ask left h.3
