-- The image of a quad program.
use Rattle.std.specs.Prelude.{◌≡◌, ℕ, ◌+◌, ◌||◌, if◌then◌else◌, Bool, true, false, List, [], ◌∷◌, ◌++◌, Option, Some, slice_get, take, replicate, sum_by}
use Rattle.std.specs.Option.{option_and_then}
use Rattle.xmt_isa.specs.declared.image.FunctionEntry.{FunctionEntry}
use Rattle.xmt_isa.specs.declared.image.Image.{Image}
use Rattle.xmt_isa.specs.declared.image.Instr.{Instr}
use Rattle.xmt_quads.specs.declared.code.Quad.{Quad}
use Rattle.xmt_quads.specs.declared.code.Quad.TheVariants as quad
use Rattle.xmt_quads.specs.declared.code.QuadFunction.{QuadFunction}
use Rattle.xmt_quads.specs.declared.code.QuadProgram.{QuadProgram}
use Rattle.xmt_quads.specs.declared.homes.Home.{Home}
use Rattle.xmt_quads.specs.declared.homes.Home.TheVariants.{Slot}
use Rattle.xmt_quads.specs.Live.{writes}
use Rattle.quad_images.specs.Instructions.{quad_code, size}

-- ---- the code of a function

-- the registers that are written before the next join
abbrev pub written_in : List Quad → (register : ℕ) → Bool
written_in [] r = false
written_in (quad.Join ∷ quads) r = false
written_in (q ∷ quads) r = writes r q || written_in quads r

abbrev pub all_own : (register : ℕ) → Bool
all_own r = true

-- Which virtual registers live in the thread's own frame behind a quad: in a block those that the block writes, elsewhere all.
abbrev pub own_behind : (own : ℕ → Bool) → Quad → (behind : List Quad) → ℕ → Bool
own_behind own (quad.Spawn low high) behind = written_in behind
own_behind own quad.Join behind = all_own
own_behind own q behind = own

-- how many instructions these quads become
abbrev pub size_of : List Quad → ℕ
size_of quads = sum_by size quads

-- where the quad at a position begins, in a function that begins there
abbrev pub begins_in : (start : ℕ) → List Quad → (position : ℕ) → ℕ
begins_in start quads position = start + size_of (take position quads)

abbrev pub code_from : (slot begins : ℕ → ℕ) → (own : ℕ → Bool) → List Quad → List Instr
code_from slot begins own [] = []
code_from slot begins own (q ∷ quads) = quad_code slot begins own q ++ code_from slot begins (own_behind own q quads) quads

abbrev pub function_code : (slot : ℕ → ℕ) → (start : ℕ) → List Quad → List Instr
function_code slot start quads = code_from slot (begins_in start quads) all_own quads

-- each instruction has the line of its quad
abbrev pub lines_from : List Quad → (lines : List ℕ) → List ℕ
lines_from [] lines = []
lines_from (q ∷ quads) [] = []
lines_from (q ∷ quads) (line ∷ lines) = replicate (size q) line ++ lines_from quads lines

-- ---- the functions of a program, one behind the other

-- the code of these functions, the first of which has this number
abbrev pub codes_from : (slot : (function register : ℕ) → ℕ) → (start number : ℕ) → List QuadFunction → List Instr
codes_from slot start number [] = []
codes_from slot start number (f ∷ functions) = function_code (slot number) start f.quads ++ codes_from slot (start + size_of f.quads) (number + 1) functions

abbrev pub lines_of_all : List QuadFunction → List ℕ
lines_of_all [] = []
lines_of_all (f ∷ functions) = lines_from f.quads f.lines ++ lines_of_all functions

-- each function has all slots
abbrev pub entries_from : (start : ℕ) → List QuadFunction → List FunctionEntry
entries_from start [] = []
entries_from start (f ∷ functions) = record { start = start; slots = 512; inner = if f.inner then 1 else 0 } ∷ entries_from (start + size_of f.quads) functions

-- ---- the slots that an allocation gives

abbrev pub slot_of : Option Home → ℕ
slot_of (Some (Slot slot)) = slot
slot_of _ = 0

abbrev pub slot_in : (homes : List (List Home)) → (function register : ℕ) → ℕ
slot_in homes function register = slot_of (option_and_then (λ of_function. slice_get of_function register) (slice_get homes function))

-- The image: the code of the functions, and all else as the program has it. The mask of each spawn is 0.
pub record IsImageOf (program : QuadProgram) (homes : List (List Home)) (image : Image) : Type 0 where
  pub code : image.code ≡ codes_from (slot_in homes) 0 0 program.functions
  pub lines : image.lines ≡ lines_of_all program.functions
  pub functions : image.functions ≡ entries_from 0 program.functions
  pub entry : image.entry ≡ program.main
  pub texts : image.texts ≡ program.texts
  pub symbols : image.symbols ≡ program.symbols
  pub words : image.words ≡ program.words
  pub ps : image.ps ≡ program.ps
  pub outer : image.outer ≡ program.outer
