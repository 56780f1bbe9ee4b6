-- Which programs are checked.
use Rattle.std.specs.Prelude.{◌≡◌, ◌≢◌, ℕ, ◌^◌, ◌<◌, ◌≤◌, false, List, All, AllPairs, length}
use Rattle.xmt_base.specs.Name.{IsName}
use Rattle.source_meaning.specs.declared.tree.GlobalVar.{GlobalVar}
use Rattle.source_meaning.specs.declared.tree.Program.{Program}
use Rattle.source_meaning.specs.Layout.{HasRoom}
use Rattle.spawn_check.specs.Table.{MeetsNone}
use Rattle.checked_programs.specs.Fits.{HasFunction, BodyFits}
use Rattle.checked_programs.specs.Declares.{DeclaresOnce}

-- a name that is spelled as names are, and whose length fits into 32 bits
pub record IsShortName (name : List ℕ) : Type 0 where
  pub spelled : IsName name
  pub short : length name < 2 ^ 32

-- a global has a word at least, and room for its opening values; a scalar has one word
pub record HasLength (global : GlobalVar) : Type 0 where
  pub some : 1 ≤ global.length
  pub room : HasRoom global
  pub scalar : global.array ≡ false → global.length ≡ 1

pub record IsChecked (program : Program) : Type 0 where
  -- `main` is there, without parameters
  pub main : HasFunction program program.main 0
  pub parameters : All (λ f. f.params ≤ f.variables) program.functions
  -- each name stands for a thing of its kind that is there, each variable is known where it is used, each call has one value for each parameter, and
  -- each text one for each number that it prints
  pub bodies : All (BodyFits program) program.functions
  pub declared_once : All DeclaresOnce program.functions
  pub named : All (λ global. IsShortName global.name) program.globals
  pub names_differ : AllPairs (λ a b. a.name ≢ b.name) program.globals
  pub lengths : All HasLength program.globals
  -- no line of the table of spawn blocks is met
  pub blocks : MeetsNone program
