-- What a spawn broadcasts fits the image.
use Rattle.std.proofs.Common.{◌≡◌, refl, ◌∙◌, ap, ℕ, suc, ◌+◌, ◌*◌, ◌/◌, ◌%◌, ◌^◌, ◌<◌, ◌≤◌, ◌==◌, Bool, true, false, if◌then◌else◌, List, [], ◌∷◌, length, slice_index, take, drop, arith}
use Rattle.std.proofs.lemmas.List.{length-take, length-drop}
use Rattle.xmt_base.specs.Operators.{count_between}
use Rattle.xmt_isa.specs.declared.image.Image.{Image}
use Rattle.xmt_isa.specs.declared.unit.Unit.{Unit}
use Rattle.xmt_isa.specs.declared.unit.SpawnAsk.{SpawnAsk}
use Rattle.xmt_isa.specs.declared.unit.Start.{Start}
use Rattle.xmt_isa.specs.Machine.{broadcast, masked}
use Rattle.xmt_isa.specs.Regions.{IsSpawn}
use Rattle.xmt_isa.specs.Fits.{UnitFits, StartFits}

length-masked : (mask : ℕ) (regs : List ℕ) → length (masked mask regs) ≡ length regs
length-masked mask [] = refl
length-masked mask (r ∷ rs) = ap suc (length-masked (mask / 2) rs)

either_zero : (b : Bool) (r : ℕ) → r ≡ 0 → (if b then r else 0) ≡ 0
either_zero true r zero = zero
either_zero false r zero = refl

masked-zero : (mask : ℕ) (regs : List ℕ) → slice_index regs 0 ≡ 0 → slice_index (masked mask regs) 0 ≡ 0
masked-zero mask [] zero = refl
masked-zero mask (r ∷ rs) zero = either_zero (mask % 2 == 1) r zero

either_count : (b : Bool) (n : ℕ) → n < 2 ^ 32 → (if b then 0 else n + 1) ≤ 2 ^ 32
either_count true n less = omega arith
either_count false n less = omega (arith, less)

count_between-most : (low high : ℕ) → count_between low high ≤ 2 ^ 32
count_between-most low high = either_count _ _ (omega arith)

length-frame : (frames : List ℕ) (depth : ℕ) → length frames ≡ 131584 → depth ≤ 256 → length (take 512 (drop (512 * depth) frames)) ≡ 512
length-frame frames depth whole deep = simp (length-take, length-drop) (omega (arith, whole, deep))

pub broadcast_fits : (image : Image) (before : Start) (u : Unit) (ask : SpawnAsk) → ask.at ≡ u.at + 1 → UnitFits image before u → IsSpawn image u.at → StartFits image (broadcast u ask)
broadcast_fits image before u ask behind fits is = record {
  spawn = u.at;
  is_spawn = is;
  behind = behind;
  count = count_between-most ask.low ask.high;
  depth = fits.depth;
  frame = length-frame u.frames u.depth fits.room.frames fits.depth;
  registers = length-masked ask.mask u.regs ∙ fits.registers;
  zero = masked-zero ask.mask u.regs fits.zero;
}
