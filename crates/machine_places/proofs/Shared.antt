-- The threads of a valid image keep to the words that they share.
use Rattle.std.proofs.Common.{◌≡◌, refl, sym, subst, ℕ, ◌+◌, ◌*◌, ◌<◌, ◌≤◌, ◌==◌, nat_lt, Bool, true, false, if◌then◌else◌, List, length, Option, Some, None, arith}
use Rattle.std.proofs.lemmas.Bool.Decides.{nat_tests}
use Rattle.std.proofs.Math.Nat.{mul-le-mul_left}
use Rattle.std.specs.Option.{IfSome}
use Rattle.xmt_base.specs.Action.{Action}
use Rattle.interleaving.specs.Actors.{Entry, Does}
use Rattle.xmt_isa.specs.declared.image.Image.{Image}
use Rattle.xmt_isa.specs.declared.operation.Operation.{Operation}
use Rattle.xmt_isa.specs.declared.operation.Operation.TheVariants.{Load, Store, Add}
use Rattle.xmt_isa.specs.declared.operation.Location.{Location}
use Rattle.xmt_isa.specs.declared.operation.Location.TheVariants.{Word, Indexed, Outer, Register}
use Rattle.xmt_isa.specs.declared.unit.Unit.{Unit}
use Rattle.xmt_isa.specs.declared.unit.UnitState.TheVariants.{Runs}
use Rattle.xmt_isa.specs.declared.unit.SpawnAsk.{SpawnAsk}
use Rattle.xmt_isa.specs.declared.unit.Start.{Start}
use Rattle.xmt_isa.specs.declared.unit.Request.{Request}
use Rattle.xmt_isa.specs.declared.unit.Request.TheVariants as request
use Rattle.xmt_isa.specs.declared.unit.Next.TheVariants as next
use Rattle.xmt_isa.specs.Image.{operation_at}
use Rattle.xmt_isa.specs.Step.{reg, outer_depth, word_of, next_of}
use Rattle.xmt_isa.specs.Machine.{broadcast}
use Rattle.xmt_isa.specs.Targets.{LocationFits, TargetFits}
use Rattle.xmt_isa.specs.Valid.{IsValid}
use Rattle.xmt_isa.specs.Threads.{Actor, move, main_actor, BeginsAt}
use Rattle.xmt_isa.specs.Traces.{ComesToSpawn}
use Rattle.machine_places.specs.Keeps.{IsShared, AsksForShared, KeepsToShared}
use Rattle.machine_places.proofs.Lists.{some_same}
use Rattle.machine_places.proofs.Places.{sound_at}
use Rattle.machine_places.proofs.Goes.{Goes, leads, calls, returns}
use Rattle.machine_places.proofs.Words.{location_of, HoldsOfWord, HoldsAt, holds_of_asked}
use Rattle.machine_places.proofs.Fits.{good_along}

-- ---- depths

record FitsDepth (start : Start) (u : Unit) : Type 0 where
  own : u.depth ≤ 256
  spawned : start.depth ≤ 256

module _ (image : Image) (valid : IsValid image) where
  depth_goes : (start : Start) (u v : Unit) → FitsDepth start u → Goes image u v → FitsDepth start v
  depth_goes start u v fits (leads o is to depth back) = record { own = subst (λ n. n ≤ 256) (sym depth) fits.own; spawned = fits.spawned }
  depth_goes start u v fits (calls f is at depth back room) = record { own = omega (arith, depth, room); spawned = fits.spawned }
  depth_goes start u v fits (returns deep at depth back) = record { own = let old : u.depth ≤ 256 = fits.own in omega (arith, depth, old); spawned = fits.spawned }

  depth_along : (n : ℕ) (a b : Actor) (part : List (Entry Action)) → FitsDepth a.start a.unit → Does (move image) n a part b → b.unit.state ≡ Runs → FitsDepth b.start b.unit
  depth_along n a b part fits does =
      good_along image valid FitsDepth depth_goes (λ x ask old runs is. record { own = old.own; spawned = old.own }) n a b part (λ running. fits) does

  main_depth : FitsDepth (main_actor image).start (main_actor image).unit
  main_depth = record { own = omega arith; spawned = omega arith }

  -- ---- the words of a location

  word_in_table : (start : Start) (u : Unit) → FitsDepth start u → (place : Location) → LocationFits image place → IfSome (word_of image start u place) (IsShared image)
  word_in_table start u fits (Word i) inside = record { above = omega arith; below = omega (arith, inside) }
  word_in_table start u fits (Register i) inside = record { above = omega arith; below = omega (arith, inside) }
  word_in_table start u fits (Indexed b i) inside = by_test (nat_lt (i + reg u b) (length image.words)) refl
    where
      by_test : (t : Bool) → nat_lt (i + reg u b) (length image.words) ≡ t → IfSome (if t then Some (12 + (i + reg u b)) else None) (IsShared image)
      by_test true e = record { above = omega arith; below = (let less : i + reg u b < length image.words = grind (arith, nat_tests, e) in omega (arith, less)) }
      by_test false e = tt
  word_in_table start u fits (Outer i) inside =
      let deep : outer_depth start u ≤ 256 = by_test (u.number == 0) in
      let product : image.outer * outer_depth start u ≤ image.outer * 256 = mul-le-mul_left image.outer deep in
      below (image.outer * outer_depth start u) product
    where
      by_test : (t : Bool) → (if t then u.depth else start.depth) ≤ 256
      by_test true = fits.own
      by_test false = fits.spawned

      below : (n : ℕ) → n ≤ image.outer * 256 → IsShared image (12 + length image.words + n + i)
      below n less = record { above = omega arith; below = omega (arith, less, inside) }

  location_fits : (number : ℕ) (operation : Operation) (place : Location) → location_of operation ≡ Some place → TargetFits image number operation → LocationFits image place
  location_fits number (Load a here) place is fits = subst (LocationFits image) (some_same here place is) fits
  location_fits number (Store a here) place is fits = subst (LocationFits image) (some_same here place is) fits
  location_fits number (Add a here) place is fits = subst (LocationFits image) (some_same here place is) fits
  location_fits number operation place is fits = cc

  asks_for_shared : (ask : Request) → HoldsOfWord (IsShared image) ask → AsksForShared image ask
  asks_for_shared (request.Load word) holds = holds
  asks_for_shared (request.Store word value) holds = holds
  asks_for_shared (request.Add word value) holds = holds
  asks_for_shared request.Draw holds = tt
  asks_for_shared (request.Print text) holds = tt
  asks_for_shared (request.Spawn ask) holds = tt

  asked_in_table : (a : Actor) → FitsDepth a.start a.unit → a.unit.state ≡ Runs → (ask : Request) → next_of image a.start a.unit ≡ next.Ask ask → AsksForShared image ask
  asked_in_table a fits runs ask is = asks_for_shared ask (holds_of_asked (IsShared image) image a.start a.unit ask runs is (each (operation_at image a.unit.at) refl))
    where
      each : (o : Option Operation) → operation_at image a.unit.at ≡ o → IfSome o (HoldsAt (IsShared image) image a.start a.unit)
      each None at = tt
      each (Some operation) at = λ place of. let sound = sound_at image valid a.unit.at operation at in word_in_table a.start a.unit fits place (location_fits sound.0.imm operation place of sound.1.target)

  -- where a thread begins
  begin_depth : (before : List (Entry Action)) (s : Actor) (ask : SpawnAsk) → ComesToSpawn image before s ask → (k : ℕ) (begin : Actor) → BeginsAt (broadcast s.unit ask) k begin → FitsDepth begin.start begin.unit
  begin_depth before s ask comes k begin at =
      let serial : FitsDepth s.start s.unit = depth_along comes.steps (main_actor image) s before main_depth comes.does comes.runs in
      subst (λ (a : Actor). FitsDepth a.start a.unit) (sym at.3) (record { own = omega arith; spawned = serial.own })

  pub keeps_to_shared : KeepsToShared image
  keeps_to_shared =
      record {
        serial = λ steps part a does runs ask is. asked_in_table a (depth_along steps (main_actor image) a part main_depth does runs) runs ask is;
        virtual = λ before s spawn comes k begin at steps part a does runs ask is. asked_in_table a (depth_along steps begin a part (begin_depth before s spawn comes k begin at) does runs) runs ask is;
      }
