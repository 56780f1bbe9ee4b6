-- Which quad programs are well formed.
use Rattle.std.specs.Prelude.{◌≡◌, ◌⊎◌, ℕ, ◌+◌, ◌*◌, ◌^◌, ◌<◌, ◌≤◌, true, All, length, Some, slice_get}
use Rattle.xmt_base.specs.Format.{IsFormat}
use Rattle.xmt_isa.specs.Symbols.{AreSymbols}
use Rattle.xmt_quads.specs.declared.code.Where.{Where}
use Rattle.xmt_quads.specs.declared.code.Where.TheVariants.{Word, Element, Outer, PsReg}
use Rattle.xmt_quads.specs.declared.code.Quad.{Quad}
use Rattle.xmt_quads.specs.declared.code.Quad.TheVariants as quad
use Rattle.xmt_quads.specs.declared.code.QuadFunction.{QuadFunction}
use Rattle.xmt_quads.specs.declared.code.QuadProgram.{QuadProgram}
use Rattle.xmt_quads.specs.Program.{weight_of}
use Rattle.xmt_quads.specs.Live.{reads, writes, IsLive}
use Rattle.xmt_quads.specs.Regions.{IsBlock, IsInside, HasRegions}

-- each register that a quad reads or writes is below this number
abbrev pub AreBelow : (registers : ℕ) → Quad → Type 0
AreBelow registers q = (r : ℕ) → (reads r q ≡ true) ⊎ (writes r q ≡ true) → r < registers

abbrev pub PlaceExists : QuadProgram → Where → Type 0
PlaceExists program (Word w) = w < length program.words
PlaceExists program (Element base index) = Unit {0}
PlaceExists program (Outer n) = n < program.outer
PlaceExists program (PsReg r) = r < 8

-- what a quad names beside registers exists, and each length is one of an array
abbrev pub NamesExist : QuadProgram → QuadFunction → Quad → Type 0
NamesExist program f (quad.Test o size) = (1 ≤ size) × (size ≤ 2 ^ 20)
NamesExist program f (quad.Load r place) = PlaceExists program place
NamesExist program f (quad.Store place o) = PlaceExists program place
NamesExist program f (quad.Add r place o) = PlaceExists program place
NamesExist program f (quad.Jump to) = to < length f.quads
NamesExist program f (quad.IfZero o to) = to < length f.quads
NamesExist program f (quad.IfNot o to) = to < length f.quads
NamesExist program f (quad.Argument place o) = place < 16
NamesExist program f (quad.Parameter r place) = place < 16
NamesExist program f (quad.Call function) = function < length program.functions
NamesExist program f (quad.Print text) = text < length program.texts
NamesExist program f q = Unit {0}

-- the symbols, texts, data words and outer words pass the tests of an image
pub record HasTables (program : QuadProgram) : Type 0 where
  pub symbols : length program.symbols ≤ 4096
  pub texts : length program.texts ≤ 65536
  pub outer : program.outer ≤ 200
  -- the data words, and the outer words of each depth from 0 to 256
  pub words : length program.words + 257 * program.outer ≤ 2 ^ 20
  pub formats : All IsFormat program.texts
  pub names : AreSymbols program.symbols (length program.words)
  pub short_names : All (λ s. length s.name < 2 ^ 32) program.symbols
  pub some_words : All (λ s. 1 ≤ s.length) program.symbols

-- Nothing is live where a function begins, and a block writes no register that is live where the block begins.
pub record HasLiveRegisters (f : QuadFunction) : Type 0 where
  pub none_at_first : (r : ℕ) → ¬ (IsLive f.quads r 0)
  pub kept_in_block : (spawn join at r : ℕ) (q : Quad) → IsBlock f.quads spawn join → IsInside f.quads spawn join at → slice_get f.quads at ≡ Some q → writes r q ≡ true → ¬ (IsLive f.quads r (spawn + 1))

pub record IsWellFormedFunction (program : QuadProgram) (f : QuadFunction) : Type 0 where
  pub lines : length f.lines ≡ length f.quads
  pub few_registers : f.registers ≤ 456
  pub registers : All (AreBelow f.registers) f.quads
  pub names : All (NamesExist program f) f.quads
  pub regions : HasRegions program f
  pub live : HasLiveRegisters f

pub record IsWellFormed (program : QuadProgram) : Type 0 where
  pub some_functions : 1 ≤ length program.functions
  pub few_functions : length program.functions ≤ 1000
  pub main : program.main < length program.functions
  pub tables : HasTables program
  pub functions : All (IsWellFormedFunction program) program.functions
  pub light : weight_of program ≤ 4194304
