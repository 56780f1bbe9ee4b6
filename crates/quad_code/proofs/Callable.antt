-- What is asked of a function that is called, and the setting of its body.
use Rattle.std.proofs.Common.{◌≡◌, refl, sym, ◌∙◌, ap, subst, arith, ℕ, suc, ◌+◌, ◌≤◌, ◌<◌, true, false, List, ◌∷◌, length, Option, Some, None, ◌⊎◌, inl, inr}
use Rattle.std.specs.Prelude.{nat_lt}
use Rattle.xmt_base.specs.Action as action
use Rattle.source_meaning.specs.declared.tree.Function.{Function}
use Rattle.source_meaning.specs.declared.tree.GlobalVar.{GlobalVar}
use Rattle.source_meaning.specs.Store.{Cell, same_cell}
use Rattle.source_meaning.specs.Variables.{own_frame}
use Rattle.source_meaning.specs.Term.{Code}
use Rattle.source_meaning.specs.Code.{sequence, with_parameters}
use Rattle.xmt_quads.specs.declared.code.QuadProgram.{QuadProgram}
use Rattle.xmt_quads.specs.Meaning.{Caller, reached_depth}
use Rattle.quad_code.specs.Rows.{rows_of}
use Rattle.quad_code.specs.Statements.{Counts}
use Rattle.quad_code.specs.Known.{Region, Serial, Inner, InBlock, SequenceKnown}
use Rattle.quad_code.specs.Functions.{outer_of, function_code}
use Rattle.quad_code.proofs.Setting.{HasAt, Setting, Point, IsShallow}
use Rattle.quad_code.proofs.Frames.{own_frame_private, own_frame_outer, own_frame_apart, deeper_apart, shallow_more}

-- where the body of a called function runs
abbrev pub region_of_call : Region → Region
region_of_call Serial = Serial
region_of_call Inner = Inner
region_of_call InBlock = Inner

-- serial code runs in the serial thread, and the rest in any
abbrev pub IsRun : (parent : Option ℕ) → Region → Type 0
IsRun None region = Unit {0}
IsRun (Some depth) Serial = ⊥
IsRun (Some depth) _ = Unit {0}

pub run_of_call : (parent : Option ℕ) (region : Region) → IsRun parent region → IsRun parent (region_of_call region)
run_of_call None region h = tt
run_of_call (Some depth) Serial h = h
run_of_call (Some depth) Inner h = h
run_of_call (Some depth) InBlock h = tt

pub serial_call : (region : Region) → region_of_call region ≡ Serial → region ≡ Serial
serial_call Serial h = refl
serial_call Inner h = h
serial_call InBlock h = cc

pub none_known : (x v : ℕ) → false ≡ true → x < v
none_known x v h = cc

-- a function that may be called with so many values in this region, by a thread of this number and parent
pub record Callable (program : QuadProgram) (globals : List GlobalVar) (base_of size_of : ℕ → ℕ) (thread : ℕ) (parent : Option ℕ) (call_code : (function depth : ℕ) → List ℕ → Code) (MayCall : Region → (function values : ℕ) → Type 0) (region : Region) (f count : ℕ) : Type 0 where
  pub function : Function
  pub params : count ≡ function.params
  pub few : function.params ≤ 16
  pub fits : function.params ≤ function.variables
  pub met : Counts
  pub code : (depth : ℕ) (values : List ℕ) → call_code f depth values ≡ with_parameters (own_frame function.body thread depth) 0 values (sequence globals (λ child. own_frame function.body child 0) (own_frame function.body thread depth) met.spawned (rows_of function.body))
  pub stands : HasAt program f 0 (function_code base_of size_of met function)
  pub known : SequenceKnown (length globals) MayCall function.variables (outer_of function.body) (λ x. nat_lt x function.params) false (region_of_call region) (rows_of function.body)
  pub shared : (slot number : ℕ) → outer_of function.body slot ≡ Some number → parent ≡ None

module _ (s : Setting) where
  abbrev pub MayBeCalled : (f count : ℕ) → Type 0
  MayBeCalled f count = Callable s.program s.globals s.base_of s.size_of s.thread s.parent s.call_code s.MayCall s.region f count

  -- all that may be called, in whatever region the thread runs
  abbrev pub CallsAre : Type 0
  CallsAre = (region : Region) → IsRun s.parent region → (f count : ℕ) → s.MayCall region f count → Callable s.program s.globals s.base_of s.size_of s.thread s.parent s.call_code s.MayCall region f count

  -- a cell of a variable that is no shared one
  abbrev pub IsOwn : Cell → Type 0
  IsOwn cell = (slot : ℕ) × (s.outer slot ≡ None) × (cell ≡ s.frame slot)

  pub own_or_spared : (cell : Cell) → s.Spared cell ⊎ IsOwn cell → IsShallow s.thread s.depth cell
  own_or_spared cell (inl is) = s.spared_is_shallow cell is
  own_or_spared cell (inr is) = subst (IsShallow s.thread s.depth) (sym is.2) (s.own_is_shallow is.0 is.1)

  -- the caller that waits behind its call
  abbrev pub caller_at : (at : ℕ) → Point → Caller
  caller_at at p = record { function = s.function; at = at + 1; registers = p.registers }

  -- the body of a function that is called here, for runs of so many quads, before its parameters
  abbrev pub callee : (at : ℕ) (p : Point) (f count most : ℕ) → MayBeCalled f count → Setting
  callee at p f count most k =
      let body = k.function.body in
      let frame = own_frame body s.thread (suc s.depth) in
      record {
        program = s.program;
        number = s.number;
        parent = s.parent;
        function = f;
        callers = caller_at at p ∷ s.callers;
        globals = s.globals;
        base_of = s.base_of;
        size_of = s.size_of;
        outer = outer_of body;
        own = λ child. own_frame body child 0;
        frame = frame;
        thread = s.thread;
        depth = suc s.depth;
        call_code = s.call_code;
        region = region_of_call s.region;
        MayCall = s.MayCall;
        most = most;
        variables = k.function.variables;
        known = λ x. false;
        Spared = λ cell. s.Spared cell ⊎ IsOwn cell;
        known_low = λ x h. none_known x k.function.variables h;
        deep = let one_more : length (caller_at at p ∷ s.callers) ≡ suc s.depth = omega (arith, s.deep) in one_more;
        bases = s.bases;
        sizes = s.sizes;
        room = s.room;
        own_private = λ child slot own. own_frame_private body child 0 slot own;
        serial_parent = λ serial. s.serial_parent (serial_call s.region serial);
        serial_frame = λ serial slot own. own_frame_private body s.thread (suc s.depth) slot own;
        own_is_shallow = λ slot own. subst (IsShallow s.thread (suc s.depth)) (sym (own_frame_private body s.thread (suc s.depth) slot own)) (λ same. omega arith);
        outer_is_shared = λ slot number shared.
            let one_more : suc s.depth ≡ length (caller_at at p ∷ s.callers) = omega (arith, s.deep) in
            own_frame_outer body s.thread (suc s.depth) slot number shared ∙ ap (λ depth. Some (action.Outer depth number)) one_more ∙
            ap (λ parent. Some (action.Outer (reached_depth parent (caller_at at p ∷ s.callers)) number)) (sym (k.shared slot number shared));
        apart = λ slot other a b e. own_frame_apart body s.thread (suc s.depth) slot other a b e;
        spared_is_shallow = λ cell is. shallow_more s.thread s.depth cell (own_or_spared cell is);
        spared_apart = λ slot own cell is.
            ap (λ c. same_cell c cell) (own_frame_private body s.thread (suc s.depth) slot own) ∙ deeper_apart s.thread s.depth slot cell (own_or_spared cell is);
      }
