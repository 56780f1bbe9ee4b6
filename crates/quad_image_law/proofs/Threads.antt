-- Whatever a unit of the image does from the code of a quad on, the quads do.
use Rattle.std.proofs.Common.{◌≡◌, ℕ, zero, suc, Some}
use Rattle.xmt_isa.specs.declared.image.Image.{Image}
use Rattle.xmt_isa.specs.declared.unit.Start.{Start}
use Rattle.xmt_isa.specs.declared.unit.Unit.{Unit as MachineUnit}
use Rattle.xmt_quads.specs.declared.code.Quad.{Quad}
use Rattle.xmt_quads.specs.declared.code.Quad.TheVariants as quad
use Rattle.xmt_quads.specs.declared.code.QuadProgram.{QuadProgram}
use Rattle.xmt_quads.specs.Program.{quad_at, quads_in}
use Rattle.xmt_quads.specs.Meaning.{QuadThread}
use Rattle.xmt_quads.specs.WellFormed.{IsWellFormed}
use Rattle.quad_image_law.proofs.Keeps.{keeps_zero}
use Rattle.quad_image_law.proofs.Units.{actor_at}
use Rattle.quad_image_places.proofs.Own.{element}
use Rattle.quad_image_places.proofs.Laid.{HasSlots, Known, Laid, place}
use Rattle.quad_image_law.proofs.Fits.{memory_of, Fits}
use Rattle.quad_image_law.proofs.Steps.{KeepsTo, Stands, AllKeep}
use Rattle.quad_image_law.proofs.Plain.{copies, unaries, binaries, dollars, results, parameters, tests, arguments}
use Rattle.quad_image_law.proofs.Places.{loads, stores, increments}
use Rattle.quad_image_law.proofs.Control.{jumps, if_zeros, if_nots, prints, joins, enters_it}
use Rattle.quad_image_law.proofs.Returns.{returns, spawns}

module _ (program : QuadProgram) (slot : ℕ → ℕ → ℕ) (image : Image) (laid : Laid program slot image) (slots : (f : ℕ) (k : Known program f) → HasSlots (slot f) k.function.registers) (well : IsWellFormed program) where
  one_more : (n : ℕ) → AllKeep program slot image slots n → (start : Start) (u : MachineUnit) (t : QuadThread) → Fits program slot start (memory_of u) t → (q : Quad) → quad_at program t.function t.at ≡ Some q →
      KeepsTo program slot image (suc n) 24 (actor_at start u (place program t.function t.at)) t
  one_more n all start u t fits (quad.Copy r o) here = copies program slot image laid slots n all start t u fits r o here
  one_more n all start u t fits (quad.Unary op r o) here = unaries program slot image laid slots n all start t u fits op r o here
  one_more n all start u t fits (quad.Binary op r a b) here = binaries program slot image laid slots n all start t u fits op r a b here
  one_more n all start u t fits (quad.Dollar r) here = dollars program slot image laid slots n all start t u fits r here
  one_more n all start u t fits (quad.Test o size) here = tests program slot image laid slots n all start t u fits o size here
  one_more n all start u t fits (quad.Load r spot) here = loads program slot image laid slots n all start t u fits r spot here
  one_more n all start u t fits (quad.Store spot o) here = stores program slot image laid slots n all start t u fits spot o here
  one_more n all start u t fits (quad.Add r spot o) here = increments program slot image laid slots n all start t u fits r spot o here
  one_more n all start u t fits (quad.Jump to) here = jumps program slot image laid slots n all start t u fits to here
  one_more n all start u t fits (quad.IfZero o to) here = if_zeros program slot image laid slots n all start t u fits o to here
  one_more n all start u t fits (quad.IfNot o to) here = if_nots program slot image laid slots n all start t u fits o to here
  one_more n all start u t fits (quad.Argument k o) here = arguments program slot image laid slots n all start t u fits k o here
  one_more n all start u t fits (quad.Parameter r k) here = parameters program slot image laid slots n all start t u fits r k here
  one_more n all start u t fits (quad.Call g) here = enters_it program slot image laid slots n all start t u fits well g here
  one_more n all start u t fits (quad.Result r) here = results program slot image laid slots n all start t u fits r here
  one_more n all start u t fits (quad.Return o) here = returns program slot image laid slots n all start t u fits o here
  one_more n all start u t fits (quad.Print text) here = prints program slot image laid slots n all start t u fits text here
  one_more n all start u t fits (quad.Spawn low high) here = spawns program slot image laid slots n all start t u fits low high here
  one_more n all start u t fits quad.Join here = joins program slot image laid slots n all start t u fits here

  pub all_keep : (n : ℕ) → AllKeep program slot image slots n
  all_keep zero = λ start u t fits. keeps_zero program image (Stands program slot image) 24 (actor_at start u (place program t.function t.at)) t
  all_keep (suc n) =
      λ start u t fits.
      let here = element (quads_in program t.function) t.at fits.here.inside in
      one_more n (all_keep n) start u t fits here.0 here.1
