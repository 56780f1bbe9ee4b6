-- A new unit fits each image.
use Rattle.std.proofs.Common.{◌≡◌, refl, ◌∙◌, ap, ℕ, List, length, arith}
use Rattle.std.proofs.lemmas.List.{length-replicate}
use Rattle.xmt_isa.specs.declared.image.Image.{Image}
use Rattle.xmt_isa.specs.declared.unit.Start.{Start}
use Rattle.xmt_isa.specs.declared.unit.Unit.{Unit}
use Rattle.xmt_isa.specs.Opening.{zeros_of, new_unit}
use Rattle.xmt_isa.specs.Threads.{HasRoom}
use Rattle.xmt_isa.specs.Fits.{UnitFits}

length-zeros_of : (n : ℕ) → length (zeros_of n) ≡ n
unfolding zeros_of
length-zeros_of n = length-replicate n 0

module _ (number : ℕ) (back frames : List ℕ) (no_calls : back ≡ zeros_of 256) (no_slots : frames ≡ zeros_of 131584) where
  abbrev made : Unit
  made = record (new_unit number) { back = back; frames = frames }

  pub made_has_room : HasRoom made
  made_has_room = record { back = ap length no_calls ∙ length-zeros_of 256; frames = ap length no_slots ∙ length-zeros_of 131584; list = refl }

  pub made_fits : (image : Image) (start : Start) → UnitFits image start made
  made_fits image start = record {
    room = made_has_room;
    registers = refl;
    zero = refl;
    depth = omega arith;
    stops = λ is. cc;
    halts = λ is. cc;
    waits = λ is. cc;
    master_waits = λ is. cc;
    asks = λ is. cc;
    placed = λ is. cc;
  }
