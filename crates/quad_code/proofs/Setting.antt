-- A call under way on both sides: the quads of a function, and the source code of its body or of a block in it.
use Rattle.std.proofs.Common.{◌≡◌, refl, ◌∙◌, ap, arith, ℕ, ◌+◌, ◌≤◌, ◌<◌, true, false, List, length, Option, Some, None}
use Rattle.std.specs.Prelude.{◌==◌, Bool}
use Rattle.xmt_base.specs.Action.{Action}
use Rattle.xmt_base.specs.Action as action
use Rattle.interleaving.specs.Actors.{Move}
use Rattle.source_meaning.specs.declared.tree.GlobalVar.{GlobalVar}
use Rattle.source_meaning.specs.Layout.{first_word, words_of}
use Rattle.source_meaning.specs.Store.{Cell, Word, Register, Outer, Private, Store, same_cell}
use Rattle.source_meaning.specs.Variables.{Frame}
use Rattle.source_meaning.specs.Term.{Code}
use Rattle.source_meaning.specs.Trace.{shared_of}
use Rattle.xmt_quads.specs.declared.code.Quad.{Quad}
use Rattle.xmt_quads.specs.declared.code.QuadProgram.{QuadProgram}
use Rattle.xmt_quads.specs.Program.{quad_at, weight}
use Rattle.xmt_quads.specs.Meaning.{Registers, with_register, Caller, QuadThread, reached_depth, Next, next_at, next_of, move_of, move, weight_of_option, cost}
use Rattle.quad_code.specs.Lined.{Lined}
use Rattle.quad_code.specs.Known.{Region, Serial}
pub use Rattle.quad_code.proofs.Standing.{HasAt, has_front, has_back, BlockAt, StandsAs, IsOver}

-- ---- what does not change while the call runs

-- a cell of another thread, or of a call at no greater depth
abbrev pub IsShallow : (thread depth : ℕ) → Cell → Type 0
IsShallow thread depth (Private t d slot) = t ≡ thread → d ≤ depth
IsShallow thread depth _ = ⊥

pub record Setting : Type 1 where
  -- the quads
  pub program : QuadProgram
  pub number : ℕ
  pub parent : Option ℕ
  pub function : ℕ
  pub callers : List Caller
  -- the source
  pub globals : List GlobalVar
  pub base_of : ℕ → ℕ
  pub size_of : ℕ → ℕ
  pub outer : ℕ → Option ℕ
  pub own : (thread : ℕ) → Frame
  pub frame : Frame
  pub thread : ℕ
  pub depth : ℕ
  pub call_code : (function depth : ℕ) → List ℕ → Code
  pub region : Region
  pub MayCall : Region → (function values : ℕ) → Type 0
  -- what is said, is said of runs of at most so many quads; so the quads of calls may be taken to keep to the source in shorter runs
  pub most : ℕ
  -- the variables have the registers below this number
  pub variables : ℕ
  -- the variables that are declared so far
  pub known : ℕ → Bool
  -- cells of the calls that wait, which this one does not write
  pub Spared : Cell → Type 0
  pub known_low : (x : ℕ) → known x ≡ true → x < variables
  pub deep : length callers ≡ depth
  pub bases : (g : ℕ) → g < length globals → base_of g ≡ first_word globals g
  pub sizes : (g : ℕ) → g < length globals → size_of g ≡ words_of globals g
  pub room : (g : ℕ) → g < length globals → first_word globals g + words_of globals g ≤ length program.words
  pub own_private : (child slot : ℕ) → outer slot ≡ None → own child slot ≡ Private child 0 slot
  -- where a spawn may stand
  pub serial_parent : region ≡ Serial → parent ≡ None
  pub serial_frame : region ≡ Serial → (slot : ℕ) → outer slot ≡ None → frame slot ≡ Private thread depth slot
  pub own_is_shallow : (slot : ℕ) → outer slot ≡ None → IsShallow thread depth (frame slot)
  pub outer_is_shared : (slot number : ℕ) → outer slot ≡ Some number → shared_of (frame slot) ≡ Some (action.Outer (reached_depth parent callers) number)
  pub apart : (slot other : ℕ) → outer slot ≡ None → outer other ≡ None → (slot == other) ≡ false → same_cell (frame slot) (frame other) ≡ false
  pub spared_is_shallow : (cell : Cell) → Spared cell → IsShallow thread depth cell
  pub spared_apart : (slot : ℕ) → outer slot ≡ None → (cell : Cell) → Spared cell → same_cell (frame slot) cell ≡ false

pub shallow_is_private : (thread depth : ℕ) (cell : Cell) → IsShallow thread depth cell → shared_of cell ≡ None
shallow_is_private thread depth (Private t d slot) h = refl
shallow_is_private thread depth (Word place) h = absurd h
shallow_is_private thread depth (Register number) h = absurd h
shallow_is_private thread depth (Outer t d number) h = absurd h

-- ---- what changes, but for the places in the code

pub record Point : Type 0 where
  pub registers : Registers
  pub list : ℕ → ℕ
  pub result : ℕ
  pub found : ℕ → Registers
  pub store : Store

module _ (s : Setting) where
  abbrev pub AtSpawn : QuadThread → Store → (ℕ → Code) → Type 0
  AtSpawn = BlockAt s.program s.globals s.base_of s.size_of s.MayCall s.thread

  abbrev pub thread_at : (at : ℕ) → Point → QuadThread
  thread_at at p =
      record {
        number = s.number;
        parent = s.parent;
        function = s.function;
        at = at;
        registers = p.registers;
        callers = s.callers;
        list = p.list;
        result = p.result;
        found = p.found;
        ended = false;
      }

  pub own_is_private : (slot : ℕ) → s.outer slot ≡ None → shared_of (s.frame slot) ≡ None
  own_is_private slot own = shallow_is_private s.thread s.depth (s.frame slot) (s.own_is_shallow slot own)

  pub spared_is_private : (cell : Cell) → s.Spared cell → shared_of cell ≡ None
  spared_is_private cell is = shallow_is_private s.thread s.depth cell (s.spared_is_shallow cell is)

  abbrev pub moves : QuadThread → Move QuadThread Action
  moves = move s.program

  abbrev pub costs : QuadThread → ℕ
  costs = cost s.program

  abbrev pub Stands : (at : ℕ) → List Lined → Type 0
  Stands at code = HasAt s.program s.function at code

  -- ---- the quad that stands there

  module _ (at : ℕ) (q : Quad) (p : Point) (here : quad_at s.program s.function at ≡ Some q) where
    pub next_is : next_of s.program (thread_at at p) ≡ next_at s.program (thread_at at p) (Some q)
    next_is = ap (next_at s.program (thread_at at p)) here

    pub moves_as : (n : Next) → next_at s.program (thread_at at p) (Some q) ≡ n → moves (thread_at at p) ≡ move_of s.program n
    moves_as n is = ap (move_of s.program) (next_is ∙ is)

    pub costs_as : costs (thread_at at p) ≡ weight q
    costs_as = ap (weight_of_option s.program) here

  pub lives : (at : ℕ) (p : Point) → IsOver (thread_at at p) → ⊥
  lives at p over = cc

  -- each known variable that is no shared one has its value in its register
  abbrev pub Fits : Point → Type 0
  Fits p = (slot : ℕ) → s.known slot ≡ true → s.outer slot ≡ None → p.registers slot ≡ p.store (s.frame slot)

  -- From one point to another registers from this number on, and those of variables, may have changed.
  pub record Reaches (r : ℕ) (p q : Point) : Type 0 where
    pub waits : (x : ℕ) → s.variables ≤ x → x < r → q.registers x ≡ p.registers x
    pub spares : (cell : Cell) → s.Spared cell → q.store cell ≡ p.store cell
    pub fits : Fits q

  pub reaches_on : (r more : ℕ) (p q o : Point) → r ≤ more → Reaches r p q → Reaches more q o → Reaches r p o
  reaches_on r more p q o le first second =
      record {
        waits = λ x from below. second.waits x from (omega (arith, below, le)) ∙ first.waits x from below;
        spares = λ cell is. second.spares cell is ∙ first.spares cell is;
        fits = second.fits;
      }

  pub reaches_here : (r : ℕ) (p : Point) → Fits p → Reaches r p p
  reaches_here r p fits = record { waits = λ x from below. refl; spares = λ cell is. refl; fits = fits }

  abbrev pub set_register : (register value : ℕ) → Point → Point
  set_register r v p = record p { registers = with_register p.registers r v }

  pub register_set : (registers : Registers) (r v : ℕ) → with_register registers r v r ≡ v
  register_set registers r v = grind arith

  pub register_other : (registers : Registers) (r v x : ℕ) → x < r → with_register registers r v x ≡ registers x
  register_other registers r v x h = grind (arith, h)

  pub register_above : (registers : Registers) (r v x : ℕ) → r < x → with_register registers r v x ≡ registers x
  register_above registers r v x h = grind (arith, h)

  -- a register at or behind the first free one is written
  pub reaches_set : (r x v : ℕ) (p : Point) → s.variables ≤ r → r ≤ x → Fits p → Reaches r p (set_register x v p)
  reaches_set r x v p from le fits =
      record {
        waits = λ y begins below. register_other p.registers x v y (omega (arith, below, le));
        spares = λ cell is. refl;
        fits = λ slot low own. register_other p.registers x v slot (omega (arith, s.known_low slot low, from, le)) ∙ fits slot low own;
      }
