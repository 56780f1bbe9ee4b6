-- The threads of a program's quads keep to the program: the serial code, and the threads of its blocks.
use Rattle.std.proofs.Common.{◌≡◌, refl, sym, ◌∙◌, ap, subst, arith, ℕ, ◌+◌, ◌≤◌, ◌<◌, true, false, if◌then◌else◌, List, [], ◌∷◌, ◌++◌, length, Option, Some, None, ◌⊎◌, inl, inr}
use Rattle.std.specs.Prelude.{◌==◌, Bool, nat_lt, slice_get}
use Rattle.xmt_base.specs.declared.values.TrapKind.{TrapKind}
use Rattle.xmt_base.specs.Action as action
use Rattle.source_meaning.specs.declared.tree.Function.{Function}
use Rattle.source_meaning.specs.declared.tree.Program.{Program}
use Rattle.source_meaning.specs.declared.tree.Stmt.{Stmt}
use Rattle.source_meaning.specs.declared.tree.GlobalVar.{GlobalVar}
use Rattle.source_meaning.specs.Layout.{first_word, words_of}
use Rattle.source_meaning.specs.Store.{Cell, Private, Store, same_cell}
use Rattle.source_meaning.specs.Variables.{Frame, own_frame, block_frame, is_declared_in, is_shared}
use Rattle.source_meaning.specs.Term.{Code, Then}
use Rattle.source_meaning.specs.Next.{Next, Asks, Ending}
use Rattle.source_meaning.specs.Run.{next_of_rest}
use Rattle.source_meaning.specs.Trace.{shared_of}
use Rattle.source_meaning.specs.Code.{call_code, first_site, function_code as source_code, sequence, statements, code_of, spawns, with_parameters}
use Rattle.xmt_quads.specs.declared.code.Operand.{Operand}
use Rattle.xmt_quads.specs.declared.code.Operand.TheVariants.{Literal}
use Rattle.xmt_quads.specs.declared.code.Quad.{Quad}
use Rattle.xmt_quads.specs.declared.code.Quad.TheVariants as quad
use Rattle.xmt_quads.specs.declared.code.QuadProgram.{QuadProgram}
use Rattle.xmt_quads.specs.Program.{quad_at, weight, is_spawn}
use Rattle.xmt_quads.specs.Meaning.{Registers, QuadThread, Traps, next_at, ends, quad_of, next_of}
use Rattle.xmt_quads.specs.Traces.{Contents, main_thread, block_thread}
use Rattle.quad_laws.proofs.Keeps.{keeps_still}
use Rattle.quad_code.specs.Lined.{Lined, one}
use Rattle.quad_code.specs.Rows.{rows_of}
use Rattle.quad_code.specs.Statements.{Counts, sequence_at}
use Rattle.quad_code.specs.Known.{Region, Serial, Inner, InBlock, SequenceKnown}
use Rattle.quad_code.specs.Functions.{outer_of, parameters_code, function_code}
use Rattle.quad_code.specs.Whole.{HasFunction, MayCall, IsKnown}
use Rattle.quad_code.proofs.Setting.{HasAt, has_front, has_back, BlockAt, StandsAs, IsOver, IsShallow, Setting, Point, AtSpawn, thread_at, moves, costs, Fits}
use Rattle.quad_code.proofs.Steps.{Meets, meets_at, KeepsTo, tells}
use Rattle.quad_code.proofs.KeptCode.{knowing, CodeContext}
use Rattle.quad_code.proofs.Statements.{sequence_kept}
use Rattle.quad_code.proofs.Frames.{own_frame_private, own_frame_outer, own_frame_apart, private_apart}
use Rattle.quad_code.proofs.Callable.{region_of_call, IsRun, Callable}
use Rattle.quad_code.proofs.AllCalls.{below_low, expressions_kept}

-- ---- the end of a thread

module _ (s : Setting) {U S : Type 0} (whole : U → Next U S) where
  -- both end, with the credit of 40 left
  pub over_kept : (n at : ℕ) (q : Quad) (p : Point) (x y : U) → weight q ≡ 4 → is_spawn q ≡ 0 → quad_at s.program s.function at ≡ Some q → next_at s.program (thread_at s at p) (Some q) ≡ ends (thread_at s at p) → whole x ≡ Asks Ending (λ _. y) → Meets s whole x n 40 at p
  over_kept n at q p x y light plain here does e =
      let over : QuadThread = record (thread_at s at p) { ended = true } in
      tells s whole n 40 100 at q action.Ended p (λ reply. over) x Ending (λ _. y) here plain does e refl refl (λ replies. refl) (omega (arith, light))
      (λ reply few.
      keeps_still (moves s) (costs s) IsOver (StandsAs (AtSpawn s) s.program) whole n 100 over y p.store refl (λ over. omega arith)
      (record { traps = λ kind is. absurd (no_trap kind is); spawns = λ low high is. absurd (no_spawn low high is) }))
    where
      no_trap : (kind : TrapKind) → next_of s.program (record (thread_at s at p) { ended = true }) ≡ Traps kind → ⊥
      no_trap kind is = cc

      no_spawn : (low high : Operand) → quad_of s.program (record (thread_at s at p) { ended = true }) ≡ Some (quad.Spawn low high) → ⊥
      no_spawn low high is = cc

-- ---- the program

-- the list of a body, as its row
rows_are : (globals : List GlobalVar) (own : (thread : ℕ) → Frame) (frame : Frame) (site : ℕ) (body : List Stmt) → sequence globals own frame site (rows_of body) ≡ statements globals own frame site body
rows_are globals own frame site [] = refl
rows_are globals own frame site (s ∷ body) = ap (Then (code_of globals own frame site s.at.line s.kind)) (rows_are globals own frame (site + spawns s.kind) body)

-- a function's quads stand in the program, behind as many spawns as in the text
pub record StandsThere (program : Program) (q : QuadProgram) (f : ℕ) (function : Function) : Type 0 where
  pub met : Counts
  pub sites : met.spawned ≡ first_site program.functions f
  pub stands : HasAt q f 0 (function_code (first_word program.globals) (words_of program.globals) met function)

nothing_known : false ≡ true → ⊥
nothing_known h = cc

pub not_serial : InBlock ≡ Serial → ⊥
not_serial h = cc

module _ (program : Program) (inner : (function : ℕ) → Bool) (q : QuadProgram) (known : IsKnown program inner)
    (stands : (f : ℕ) (function : Function) → slice_get program.functions f ≡ Some function → StandsThere program q f function)
    (room : (g : ℕ) → g < length program.globals → first_word program.globals g + words_of program.globals g ≤ length q.words) where
  abbrev pub base : ℕ → ℕ
  base = first_word program.globals

  abbrev pub size : ℕ → ℕ
  size = words_of program.globals

  -- the code of an entered call
  code_is : (thread f : ℕ) (function : Function) (found : slice_get program.functions f ≡ Some function) (depth : ℕ) (values : List ℕ) →
      call_code program thread f depth values ≡ with_parameters (own_frame function.body thread depth) 0 values (sequence program.globals (λ child. own_frame function.body child 0) (own_frame function.body thread depth) (stands f function found).met.spawned (rows_of function.body))
  code_is thread f function found depth values =
      let frame = own_frame function.body thread depth in
      let own : ℕ → Frame = λ child. own_frame function.body child 0 in
      ap (source_code program thread f depth values) found ∙
      ap (λ site. with_parameters frame 0 values (statements program.globals own frame site function.body)) (sym (stands f function found).sites) ∙
      ap (with_parameters frame 0 values) (sym (rows_are program.globals own frame (stands f function found).met.spawned function.body))

  module _ (thread : ℕ) where
    serial_callable : (parent : Option ℕ) → parent ≡ None → (f count : ℕ) → HasFunction program f count → Callable q program.globals base size thread parent (call_code program thread) (MayCall program inner) Serial f count
    serial_callable parent alone f count is =
        record {
          function = is.function;
          params = is.counts;
          few = known.few_params f is.function is.found;
          fits = known.params f is.function is.found;
          met = (stands f is.function is.found).met;
          code = λ depth values. code_is thread f is.function is.found depth values;
          stands = (stands f is.function is.found).stands;
          known = known.serial f is.function is.found;
          shared = λ slot number shared. alone;
        }

    -- a function that blocks may call shares no variable
    unshared : (body : List Stmt) (slot number : ℕ) → is_shared body slot ≡ false → outer_of body slot ≡ Some number → ⊥
    unshared body slot number none some = let no : outer_of body slot ≡ None = rw none refl in cc

    inner_callable : (parent : Option ℕ) (region : Region) → region_of_call region ≡ Inner → (f count : ℕ) → HasFunction program f count × (inner f ≡ true) → Callable q program.globals base size thread parent (call_code program thread) (MayCall program inner) region f count
    inner_callable parent region is_inner f count is =
        record {
          function = is.0.function;
          params = is.0.counts;
          few = known.few_params f is.0.function is.0.found;
          fits = known.params f is.0.function is.0.found;
          met = (stands f is.0.function is.0.found).met;
          code = λ depth values. code_is thread f is.0.function is.0.found depth values;
          stands = (stands f is.0.function is.0.found).stands;
          known = subst (λ r. SequenceKnown (length program.globals) (MayCall program inner) is.0.function.variables (outer_of is.0.function.body) (λ x. nat_lt x is.0.function.params) false r (rows_of is.0.function.body)) (sym is_inner) (known.called f is.0.function is.0.found is.1);
          shared = λ slot number shared. absurd (unshared is.0.function.body slot number (known.unshared f is.0.function is.0.found is.1 slot) shared);
        }

    -- whatever may be called is there
    pub callable : (parent : Option ℕ) (region : Region) → IsRun parent region → (f count : ℕ) → MayCall program inner region f count → Callable q program.globals base size thread parent (call_code program thread) (MayCall program inner) region f count
    callable None Serial run f count is = serial_callable None refl f count is
    callable (Some depth) Serial run f count is = absurd run
    callable parent Inner run f count is = inner_callable parent Inner refl f count is
    callable parent InBlock run f count is = inner_callable parent InBlock refl f count is

  -- ---- a virtual thread

  module _ (serial child number : ℕ) (apart : child ≡ serial → ⊥) (t : QuadThread) (store : Store) (block : ℕ → Code) (b : BlockAt q program.globals base size (MayCall program inner) serial t store block) (most : ℕ) where
    abbrev pub frame_of_block : Frame
    frame_of_block = block_frame (b.own child) b.body b.frame

    -- a variable's cell is the thread's own or the serial code's
    pub block_cell : (slot : ℕ) → b.outer slot ≡ None → (frame_of_block slot ≡ Private child 0 slot) ⊎ (frame_of_block slot ≡ Private serial (length t.callers) slot)
    block_cell slot own = by (is_declared_in slot b.body) refl
      where
        by : (d : Bool) → is_declared_in slot b.body ≡ d → (frame_of_block slot ≡ Private child 0 slot) ⊎ (frame_of_block slot ≡ Private serial (length t.callers) slot)
        by true e = inl (ap (λ d. if d then b.own child slot else b.frame slot) e ∙ b.own_private child slot own)
        by false e = inr (ap (λ d. if d then b.own child slot else b.frame slot) e ∙ b.frame_private slot own)

    pub shallow_cell : (slot : ℕ) (cell : Cell) → (cell ≡ Private child 0 slot) ⊎ (cell ≡ Private serial (length t.callers) slot) → IsShallow child 0 cell
    shallow_cell slot cell (inl is) = subst (IsShallow child 0) (sym is) (λ same. omega arith)
    shallow_cell slot cell (inr is) = subst (IsShallow child 0) (sym is) (λ same. absurd (apart (sym same)))

    -- cells of two variables differ
    pub differ : (slot other : ℕ) (x y : Cell) → (slot == other) ≡ false → (x ≡ Private child 0 slot) ⊎ (x ≡ Private serial (length t.callers) slot) → (y ≡ Private child 0 other) ⊎ (y ≡ Private serial (length t.callers) other) → same_cell x y ≡ false
    differ slot other x y e (inl a) (inl c) = rw (a, c) (private_apart child 0 slot other e)
    differ slot other x y e (inr a) (inr c) = rw (a, c) (private_apart serial (length t.callers) slot other e)
    differ slot other x y e (inl a) (inr c) = rw (a, c) (let no : (child == serial) ≡ false = grind (arith, apart) in rw no refl)
    differ slot other x y e (inr a) (inl c) = rw (a, c) (let no : (serial == child) ≡ false = grind (arith, apart) in rw no refl)

    -- a variable that is known before the block is none of its own
    pub outside : (slot : ℕ) → b.known slot ≡ true → frame_of_block slot ≡ b.frame slot
    outside slot is = by (is_declared_in slot b.body) refl
      where
        by : (d : Bool) → is_declared_in slot b.body ≡ d → frame_of_block slot ≡ b.frame slot
        by false e = ap (λ d. if d then b.own child slot else b.frame slot) e
        by true e = let no = (b.owned slot e).0 in cc

    pub shared_outside : (slot number' : ℕ) → b.outer slot ≡ Some number' → frame_of_block slot ≡ b.frame slot
    shared_outside slot number' is = by (is_declared_in slot b.body) refl
      where
        by : (d : Bool) → is_declared_in slot b.body ≡ d → frame_of_block slot ≡ b.frame slot
        by false e = ap (λ d. if d then b.own child slot else b.frame slot) e
        by true e = let no = (b.owned slot e).1 in cc

    abbrev pub block_setting : Setting
    block_setting =
        record {
          program = q;
          number = number;
          parent = Some (length t.callers);
          function = t.function;
          callers = [];
          globals = program.globals;
          base_of = base;
          size_of = size;
          outer = b.outer;
          own = b.own;
          frame = frame_of_block;
          thread = child;
          depth = 0;
          call_code = call_code program child;
          region = InBlock;
          MayCall = MayCall program inner;
          most = most;
          variables = b.variables;
          known = b.known;
          Spared = λ cell. ⊥;
          known_low = b.known_low;
          deep = refl;
          bases = λ g below. refl;
          sizes = λ g below. refl;
          room = room;
          own_private = b.own_private;
          serial_parent = λ is. absurd (not_serial is);
          serial_frame = λ is slot own. absurd (not_serial is);
          own_is_shallow = λ slot own. shallow_cell slot (frame_of_block slot) (block_cell slot own);
          outer_is_shared = λ slot number' is. ap shared_of (shared_outside slot number' is) ∙ b.frame_shared slot number' is;
          apart = λ slot other a c e. differ slot other (frame_of_block slot) (frame_of_block other) e (block_cell slot a) (block_cell other c);
          spared_is_shallow = λ cell is. absurd is;
          spared_apart = λ slot own cell is. absurd is;
        }

    abbrev pub block_whole : Option Code → Next (Option Code) (Unit {0})
    block_whole = next_of_rest program child number

    -- what begins at the block, with the serial code's registers, keeps to the block
    pub block_keeps : (n : ℕ) → n ≤ most → (list : ℕ → ℕ) (found : ℕ → Registers) → KeepsTo block_setting block_whole n 40 (block_thread t (record { registers = t.registers; list = list; found = found }) number) (Some (block child)) store
    block_keeps n few list found =
        let s = block_setting in
        let at = t.at + 1 in
        let start : Point = record { registers = t.registers; list = list; result = 0; found = found; store = store } in
        let code = sequence program.globals b.own frame_of_block b.met.spawned b.body in
        let quads = sequence_at base size b.outer b.variables at b.leave b.again b.met b.body in
        let last = one b.line quad.Join in
        let context : CodeContext s block_whole = record { around = Some; go = λ exit. Asks Ending (λ _. None); part = λ code. refl } in
        let here = has_back q t.function at quads last b.stands in
        let fits : Fits s start = λ slot is own. b.fits slot is own ∙ ap store (sym (outside slot is)) in
        subst (λ (f : ℕ → Code). KeepsTo s block_whole n 40 (block_thread t (record { registers = t.registers; list = list; found = found }) number) (Some (f child)) store) (sym b.is_block)
        (sequence_kept s block_whole (λ known knows. expressions_kept (knowing s known knows) block_whole tt (callable child (Some (length t.callers)))) b.body b.known b.known_low context n 40 36 at b.leave b.again b.met false start (Some code) (omega arith) (omega arith)
        (has_front q t.function at quads last b.stands) b.is_known fits refl
        (record {
          ends = λ p x e reach. over_kept s block_whole n (at + length quads) quad.Join p x None refl refl here.0 refl e;
          breaks = λ is p x e reach. absurd (nothing_known is);
          continues = λ is p x e reach. absurd (nothing_known is);
          returns = λ p x at2 o ret e reach. over_kept s block_whole n at2 (quad.Return o) p x None refl refl ret refl e;
        })
        few)

  -- ---- the serial code

  module _ (main_is : q.main ≡ program.main) (thread : ℕ) (most : ℕ) where
    abbrev pub main_setting : Setting
    main_setting =
        let function = known.main.function in
        record {
          program = q;
          number = 0;
          parent = None;
          function = q.main;
          callers = [];
          globals = program.globals;
          base_of = base;
          size_of = size;
          outer = outer_of function.body;
          own = λ child. own_frame function.body child 0;
          frame = own_frame function.body thread 0;
          thread = thread;
          depth = 0;
          call_code = call_code program thread;
          region = Serial;
          MayCall = MayCall program inner;
          most = most;
          variables = function.variables;
          known = λ x. nat_lt x function.params;
          Spared = λ cell. ⊥;
          known_low = λ x h. below_low function.params function.variables x (known.params program.main function known.main.found) h;
          deep = refl;
          bases = λ g below. refl;
          sizes = λ g below. refl;
          room = room;
          own_private = λ child slot own. own_frame_private function.body child 0 slot own;
          serial_parent = λ is. refl;
          serial_frame = λ is slot own. own_frame_private function.body thread 0 slot own;
          own_is_shallow = λ slot own. subst (IsShallow thread 0) (sym (own_frame_private function.body thread 0 slot own)) (λ same. omega arith);
          outer_is_shared = λ slot number is. own_frame_outer function.body thread 0 slot number is;
          apart = λ slot other a c e. own_frame_apart function.body thread 0 slot other a c e;
          spared_is_shallow = λ cell is. absurd is;
          spared_apart = λ slot own cell is. absurd is;
        }

    abbrev pub main_whole : Option Code → Next (Option Code) (Unit {0})
    main_whole = next_of_rest program thread 0

    no_parameter : (x params : ℕ) → 0 ≡ params → nat_lt x params ≡ true → ⊥
    no_parameter x params none h = let below : x < params = grind (arith, h) in omega (arith, below, none)

    pub main_keeps : (n : ℕ) → n ≤ most → (contents : Contents) → KeepsTo main_setting main_whole n 40 (main_thread q contents) (Some (call_code program thread program.main 0 [])) (λ cell. 0)
    main_keeps n few contents =
        let s = main_setting in
        let function = known.main.function in
        let found = known.main.found in
        let there = stands program.main function found in
        let outer = outer_of function.body in
        let v = function.variables in
        let rows = rows_of function.body in
        let start : Point = record { registers = contents.registers; list = contents.list; result = 0; found = contents.found; store = λ cell. 0 } in
        let ps = parameters_code outer v 0 function.params in
        let at = 0 + length ps in
        let quads = sequence_at base size outer v at 0 0 there.met rows in
        let last = one 0 (quad.Return (Literal 0)) in
        let code : List Lined = ps ++ (quads ++ last) in
        let in_main : HasAt q q.main 0 code = subst (λ f. HasAt q f 0 code) (sym main_is) there.stands in
        let behind = has_back q q.main 0 ps (quads ++ last) in_main in
        let here = has_back q q.main at quads last behind in
        let none : at ≡ 0 = ap (λ n. 0 + length (parameters_code outer v 0 n)) (sym known.main.counts) in
        let context : CodeContext s main_whole = record { around = Some; go = λ exit. Asks Ending (λ _. None); part = λ code. refl } in
        let begin : Option Code = Some (call_code program thread program.main 0 []) in
        let fits : Fits s start = λ slot is own. absurd (no_parameter slot function.params known.main.counts is) in
        meets_at s main_whole begin n 40 at 0 start none
        (sequence_kept s main_whole (λ known knows. expressions_kept (knowing s known knows) main_whole tt (callable thread None)) rows s.known s.known_low context n 40 36 at 0 0 there.met false start begin (omega arith) (omega arith)
        (has_front q q.main at quads last behind) (known.serial program.main function found) fits (ap (λ code. main_whole (Some code)) (code_is thread program.main function found 0 []))
        (record {
          ends = λ p x e reach. over_kept s main_whole n (at + length quads) (quad.Return (Literal 0)) p x None refl refl here.0 refl e;
          breaks = λ is p x e reach. absurd (nothing_known is);
          continues = λ is p x e reach. absurd (nothing_known is);
          returns = λ p x at2 o ret e reach. over_kept s main_whole n at2 (quad.Return o) p x None refl refl ret refl e;
        }))
        few
