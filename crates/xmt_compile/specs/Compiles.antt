-- What the compiler answers.
use Rattle.std.specs.Prelude.{ℕ, ◌*◌, ◌≤◌, List, length, Result, Ok, Err}
use Rattle.source_meaning.specs.declared.tree.Program.{Program}
use Rattle.tree_measures.specs.Nodes.{program_nodes}
use Rattle.front_end.specs.declared.refusal.SourceRefusal.{SourceRefusal}
use Rattle.front_end.specs.declared.refusal.SourceRefusal.TheVariants.{Refused, NoMemory}
use Rattle.front_end.specs.Refused.{IsAccepted, Breaks}
use Rattle.front_end.specs.Law.{HasNoProgram}
use Rattle.xmt_isa.specs.declared.image.Image.{Image}
use Rattle.xmt_compile.specs.Implements.{Implements}

-- the image implements the program of the source, with at most 64 instructions for each node of it
pub record IsCompiled (source : List ℕ) (image : Image) : Type 0 where
  pub program : Program
  pub is_program : IsAccepted source program
  pub implements : Implements program image
  pub few : length image.code ≤ 64 * program_nodes program

-- An image of the source, or the rule that the source breaks first; then it has no program. Want of memory is free.
abbrev pub Compiles : (source : List ℕ) → Result Image SourceRefusal → Type 0
Compiles source (Ok image) = IsCompiled source image
Compiles source (Err (Refused kind place)) = Breaks source kind place × HasNoProgram source
Compiles source (Err NoMemory) = Unit {0}
