-- From the words of the machine's table to the cells of a program.
use Rattle.std.specs.Prelude.{◌≡◌, ℕ, ◌+◌, ◌*◌, ◌<◌, ◌⊎◌, List, length, map, slice_index}
use Rattle.xmt_base.specs.Action.{Shared}
use Rattle.interleaving.specs.Actors.{IsLawfulBy}
use Rattle.source_meaning.specs.declared.tree.Program.{Program}
use Rattle.source_log.specs.Log as source
use Rattle.source_log.specs.Rising.{LowerEnded}
use Rattle.xmt_isa.specs.declared.image.Image.{Image}
use Rattle.xmt_isa.specs.Places.{shared_at}
use Rattle.xmt_isa.specs.Valid.{IsValid}
use Rattle.machine_places.specs.Keeps.{IsShared}
use Rattle.machine_log.specs.Log as machine
use Rattle.machine_log.specs.Log.{Log}
use Rattle.machine_log.specs.Done.{Parts, IsDone, IsRising}

-- the place that a word is holds what the word does
abbrev pub CellsAgree : Image → (words : List ℕ) → (cells : Shared → ℕ) → Type 0
CellsAgree image words cells = (word : ℕ) → IsShared image word → cells (shared_at image word) ≡ slice_index words word

-- a world over the words of an image's table, and one over cells
pub record WorldsAgree (image : Image) (w : machine.World) (v : source.World) : Type 0 where
  pub size : length w.words ≡ 12 + length image.words + 257 * image.outer
  pub cells : CellsAgree image w.words v.cells
  pub printed : v.printed ≡ w.printed
  pub threads : v.threads ≡ w.threads
  pub ended : (thread : ℕ) → v.ended thread ≡ w.ended thread

-- A lawful log over the words of a valid image is lawful over any cells that agree with the words at the beginning, and they agree with the words at its end.
abbrev pub LogsAreLawfulOverCells : Type 0
LogsAreLawfulOverCells =
    (image : Image) → IsValid image → (memory : List ℕ) (log : Log) (p : Parts) → IsDone image memory log p →
    (v : source.World) → WorldsAgree image (machine.opening_world image memory) v →
    source.IsLawful v log × WorldsAgree image (machine.after_log image (machine.opening_world image memory) log) (source.after_log v log)

-- And where the threads come one behind the other, they do so there too.
abbrev pub RisingLogsRiseOverCells : Type 0
RisingLogsRiseOverCells =
    (image : Image) → IsValid image → (memory : List ℕ) (log : Log) (p : Parts) → IsDone image memory log p → IsRising image memory log p →
    (v : source.World) → WorldsAgree image (machine.opening_world image memory) v →
    IsLawfulBy source.after_entry (λ u e. LowerEnded u e.actor) v log ×
    ((thread : ℕ) → thread < (source.after_log v log).threads → LowerEnded (source.after_log v log) thread ⊎ (p.steps thread ≡ 0))

-- an image opens with the words and the registers of a program
pub record OpensAs (image : Image) (memory : List ℕ) (program : Program) (words : List ℕ) : Type 0 where
  pub globals : memory ≡ words
  pub size : length words ≡ length image.words
  pub registers : length image.ps ≡ 8
  pub opening : (number : ℕ) → number < 8 → slice_index (map (λ r. r.opening) program.registers) number ≡ slice_index image.ps number

abbrev pub ProgramsAgreeAtFirst : Type 0
ProgramsAgreeAtFirst =
    (image : Image) (memory : List ℕ) (program : Program) (words : List ℕ) → OpensAs image memory program words →
    WorldsAgree image (machine.opening_world image memory) (source.opening_world program words)
