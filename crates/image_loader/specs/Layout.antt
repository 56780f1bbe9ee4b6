-- The bytes of an image, by cases on its fields.
use Rattle.std.specs.Prelude.{◌≡◌, ℕ, ◌<◌, ◌^◌, List, [], ◌∷◌, ◌++◌, length, All}
use Rattle.std.specs.List.{flat_map}
use Rattle.byteorder.specs.Endian.{little_bytes}
use Rattle.xmt_base.specs.declared.values.Symbol.{Symbol}
use Rattle.xmt_isa.specs.declared.image.Image.{Image}
use Rattle.xmt_isa.specs.declared.image.Instr.{Instr}
use Rattle.xmt_isa.specs.declared.image.FunctionEntry.{FunctionEntry}

-- a number, its lowest byte first
abbrev pub number : ℕ → List ℕ
number n = little_bytes 4 n

abbrev pub instruction : Instr → List ℕ
instruction i = (i.op ∷ i.a ∷ i.b ∷ i.c ∷ []) ++ number i.imm

abbrev pub function : FunctionEntry → List ℕ
function f = number f.start ++ (number f.slots ++ number f.inner)

-- the length of a text, and the text
abbrev pub text : List ℕ → List ℕ
text bytes = number (length bytes) ++ bytes

abbrev pub symbol : Symbol → List ℕ
symbol s = number s.base ++ (number s.length ++ text s.name)

-- XMTI
abbrev pub mark : List ℕ
mark = 88 ∷ 77 ∷ 84 ∷ 73 ∷ []

-- the counts of what follows
abbrev pub counts : Image → List ℕ
counts image = number (length image.code) ++ (number (length image.functions) ++ (number (length image.texts) ++ (number (length image.symbols) ++ number (length image.words))))

-- the outer words, the opening values of registers, and the main function
abbrev pub openings : Image → List ℕ
openings image = number image.outer ++ (flat_map number image.ps ++ number image.entry)

-- what stands before the instructions: the mark, version 1, and the numbers of the image
abbrev pub header : Image → List ℕ
header image = mark ++ (number 1 ++ (counts image ++ openings image))

-- what follows the header
abbrev pub body : Image → List ℕ
body image =
    flat_map instruction image.code
    ++ (flat_map number image.lines
    ++ (flat_map function image.functions
    ++ (flat_map text image.texts
    ++ (flat_map symbol image.symbols
    ++ flat_map number image.words))))

-- ---- what has a spelling: numbers and lengths that fit their fields

abbrev pub IsByte : ℕ → Type 0
IsByte n = n < 256

abbrev pub IsWord : ℕ → Type 0
IsWord n = n < 2 ^ 32

pub record InstructionFits (i : Instr) : Type 0 where
  pub op : IsByte i.op
  pub a : IsByte i.a
  pub b : IsByte i.b
  pub c : IsByte i.c
  pub imm : IsWord i.imm

pub record FunctionFits (f : FunctionEntry) : Type 0 where
  pub start : IsWord f.start
  pub slots : IsWord f.slots
  pub inner : IsWord f.inner

abbrev pub TextFits : List ℕ → Type 0
TextFits bytes = length bytes < 2 ^ 32

pub record SymbolFits (s : Symbol) : Type 0 where
  pub base : IsWord s.base
  pub length : IsWord s.length
  pub name : TextFits s.name

-- the numbers of the header that aren't counts
pub record OpeningsFit (image : Image) : Type 0 where
  pub outer : IsWord image.outer
  pub registers : length image.ps ≡ 8
  pub each_register : All IsWord image.ps
  pub entry : IsWord image.entry

-- what follows the header
pub record PartsFit (image : Image) : Type 0 where
  pub code : All InstructionFits image.code
  pub lines : All IsWord image.lines
  pub functions : All FunctionFits image.functions
  pub texts : All TextFits image.texts
  pub symbols : All SymbolFits image.symbols
  pub words : All IsWord image.words

-- each count and number fits its field, and there are as many lines as instructions
pub record Fits (image : Image) : Type 0 where
  pub code : IsWord (length image.code)
  pub lines : length image.lines ≡ length image.code
  pub functions : IsWord (length image.functions)
  pub texts : IsWord (length image.texts)
  pub symbols : IsWord (length image.symbols)
  pub words : IsWord (length image.words)
  pub openings : OpeningsFit image
  pub parts : PartsFit image

-- the bytes are those of the image
pub record Bytes (image : Image) (bytes : List ℕ) : Type 0 where
  pub fits : Fits image
  pub spelled : bytes ≡ header image ++ body image
