-- The master does the same whatever was broadcast.
use Rattle.std.proofs.Common.{◌≡◌, refl, sym, ◌∙◌, ap, ◌+◌, ◌*◌, ◌==◌, if◌then◌else◌, length, Option, Some, None}
use Rattle.xmt_isa.specs.declared.image.Image.{Image}
use Rattle.xmt_isa.specs.declared.operation.Operation.{Operation}
use Rattle.xmt_isa.specs.declared.operation.Operation.TheVariants.{Load, Store, Add}
use Rattle.xmt_isa.specs.declared.operation.Location.{Location}
use Rattle.xmt_isa.specs.declared.operation.Location.TheVariants.{Word, Indexed, Outer, Register}
use Rattle.xmt_isa.specs.declared.unit.Unit.{Unit}
use Rattle.xmt_isa.specs.declared.unit.Start.{Start}
use Rattle.xmt_isa.specs.declared.unit.Request.TheVariants as request
use Rattle.xmt_isa.specs.declared.unit.Next.TheVariants as next
use Rattle.xmt_isa.specs.Image.{operation_at}
use Rattle.xmt_isa.specs.Step.{reg, outer_depth, word_of, access, adds, next_at, next_here, is_due, next_of}
use Rattle.xmt_isa.specs.Fits.{UnitFits, IsPlaced}

module _ (image : Image) (start other : Start) (u : Unit) (zero : u.number ≡ 0) where
  -- it reaches its own outer words
  same_depth : outer_depth other u ≡ outer_depth start u
  same_depth = ap (λ n. if n == 0 then u.depth else other.depth) zero ∙ sym (ap (λ n. if n == 0 then u.depth else start.depth) zero)

  same_word : (place : Location) → word_of image other u place ≡ word_of image start u place
  same_word (Word i) = refl
  same_word (Indexed b i) = refl
  same_word (Register i) = refl
  same_word (Outer i) = ap (λ d. Some (12 + length image.words + image.outer * d + i)) same_depth

  same_next_at : (o : Operation) → next_at image other u o ≡ next_at image start u o
  same_next_at (Load a place) = ap (λ word. access word (λ at. request.Load at)) (same_word place)
  same_next_at (Store a place) = ap (λ word. access word (λ at. request.Store at (reg u a))) (same_word place)
  same_next_at (Add a place) = ap (λ word. adds word place (reg u a)) (same_word place)
  same_next_at o = refl

  same_next_here : (o : Option Operation) → next_here image other u o ≡ next_here image start u o
  same_next_here None = refl
  same_next_here (Some o) = same_next_at o

  -- so it does the same
  pub same_next : next_of image other u ≡ next_of image start u
  same_next = ap (λ n. if is_due u.state then next.Ask request.Draw else n) (same_next_here (operation_at image u.at))

  -- and fits as before
  same_placed : IsPlaced image start u → IsPlaced image other u
  same_placed p = record { inside = p.inside; returns = p.returns; serial = p.serial; virtual = λ differs. absurd (differs zero) }

  pub master_fits : UnitFits image start u → UnitFits image other u
  master_fits fits = record {
    room = fits.room;
    registers = fits.registers;
    zero = fits.zero;
    depth = fits.depth;
    stops = fits.stops;
    halts = fits.halts;
    waits = fits.waits;
    master_waits = fits.master_waits;
    asks = λ waits runs. (let asked = fits.asks waits runs in (asked.0, same_next ∙ asked.1));
    placed = λ runs. same_placed (fits.placed runs);
  }
