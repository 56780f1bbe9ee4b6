-- The quads to which a program is lowered.
use Rattle.std.specs.Prelude.{◌≡◌, ℕ, ◌+◌, Bool, map}
use Rattle.source_meaning.specs.declared.tree.Program.{Program}
use Rattle.source_meaning.specs.Layout.{opening_registers}
use Rattle.spawn_check.specs.Words.{outer_words}
use Rattle.xmt_quads.specs.declared.code.QuadProgram.{QuadProgram}
use Rattle.quad_code.specs.Whole.{IsCodeOf}
use Rattle.quad_regions.specs.Law.{AreMarked}
use Rattle.checked_quads.specs.Inner.{AreInner}

-- the code of each function, with 256 registers behind those of its variables; the functions that reach neither a print nor a spawn are marked
pub record IsLowered (program : Program) (quads : QuadProgram) : Type 0 where
  pub code : IsCodeOf program quads
  pub registers : map (λ f. f.registers) quads.functions ≡ map (λ f. f.variables + 256) program.functions
  pub inner : (function : ℕ) → Bool
  pub are_inner : AreInner program inner
  pub marked : AreMarked inner quads
  pub ps : quads.ps ≡ opening_registers program
  pub outer : quads.outer ≡ outer_words program.functions
