-- Which world and which actors a configuration of the source stands for.
use Rattle.std.specs.Prelude.{◌≡◌, ℕ, zero, suc, ◌<◌, ◌≤◌, false, length, Option, Some, None, is_none, slice_get}
use Rattle.xmt_base.specs.Action.{Shared, Word, Register, Outer}
use Rattle.source_meaning.specs.declared.tree.Program.{Program}
use Rattle.source_meaning.specs.Store.{Cell, Word as word_cell, Register as register_cell, Outer as outer_cell, Private}
use Rattle.source_meaning.specs.Run.{Thread, Configuration}
use Rattle.source_log.specs.Log.{World}
use Rattle.source_log.specs.Threads.{Actor, Keeps}

-- the cell of a shared place; the outer variables are those of the serial code
abbrev pub cell_at : Shared → Cell
cell_at (Word place) = word_cell place
cell_at (Register number) = register_cell number
cell_at (Outer depth number) = outer_cell 0 depth number

-- the outermost virtual thread of a thread, where there is no nested spawn
abbrev pub outermost_for : (thread number : ℕ) → Option ℕ
outermost_for zero number = None
outermost_for (suc thread) number = Some number

-- and every virtual thread is the serial code's child
abbrev pub parent_for : (thread : ℕ) → Option ℕ
parent_for zero = None
parent_for (suc thread) = Some 0

abbrev pub thread_of : (thread : ℕ) → Actor → Thread
thread_of thread a = record { code = a.code; number = a.number; outermost = outermost_for thread a.number; parent = parent_for thread }

pub record StandsFor (program : Program) (c : Configuration) (w : World) (actors : ℕ → Actor) : Type 0 where
  pub count : length c.threads ≡ w.threads
  pub positive : 0 < w.threads
  pub threads : (t : ℕ) → t < w.threads → slice_get c.threads t ≡ Some (thread_of t (actors t))
  pub cells : (place : Shared) → c.store (cell_at place) ≡ w.cells place
  pub output : c.output ≡ w.printed
  pub ended : (t : ℕ) → t < w.threads → is_none (actors t).code ≡ w.ended t
  pub none_ended : (t : ℕ) → w.threads ≤ t → w.ended t ≡ false
  -- a thread's own cells
  pub private : (t depth slot : ℕ) → t < w.threads → c.store (Private t depth slot) ≡ (actors t).store (Private t depth slot)
  -- what a live thread knows of the serial code's private cells
  pub outer : (t depth slot : ℕ) → t < w.threads → w.ended t ≡ false → c.store (Private 0 depth slot) ≡ (actors t).store (Private 0 depth slot)
  -- cells of threads to come are as the serial code knows them
  pub fresh : (t depth slot : ℕ) → w.threads ≤ t → c.store (Private t depth slot) ≡ (actors 0).store (Private t depth slot)
  pub kept : (t : ℕ) → t < w.threads → Keeps program t (actors t)
