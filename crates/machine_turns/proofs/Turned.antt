-- Turns that print, and turns that don't.
use Rattle.std.proofs.Common.{◌≡◌, refl, sym, ap, ◌∙◌, subst, ℕ, inr, List, [], ◌++◌, append-nil, map, Some, Option, true, false, slice_get, slice_set, arith}
use Rattle.std.specs.Option.{IfSome, IsSomeAnd}
use Rattle.xmt_base.specs.Text.{piece}
use Rattle.xmt_isa.specs.declared.image.Image.{Image}
use Rattle.xmt_isa.specs.declared.unit.Start.{Start}
use Rattle.xmt_isa.specs.declared.unit.Unit.{Unit}
use Rattle.xmt_isa.specs.declared.unit.UnitState.{UnitState}
use Rattle.xmt_isa.specs.declared.unit.UnitState.TheVariants as state
use Rattle.xmt_isa.specs.declared.unit.Request.TheVariants as request
use Rattle.xmt_isa.specs.declared.unit.Next.TheVariants.{Ask}
use Rattle.xmt_isa.specs.Step.{answer_of}
use Rattle.xmt_isa.specs.Machine.{Machine, turn, text_of}
use Rattle.xmt_isa.specs.Picked.{is_live, is_active}
use Rattle.unit_steps.specs.Steps.{DoesNext, answered}
use Rattle.tcu_engine.specs.declared.ask.Ask as engine
use Rattle.tcu_engine.specs.declared.ask.Ask.TheVariants as ask
use Rattle.machine_turns.specs.declared.seats.Seat.{Seat}
use Rattle.machine_turns.specs.declared.machine.Machine as kept
use Rattle.machine_turns.specs.Seats.{free, Means, Replaced}
use Rattle.machine_turns.specs.Kept.{Kept, IsAt, MayGo}
use Rattle.machine_turns.specs.View.{seen_seat, machine_of}
use Rattle.machine_turns.specs.Prints.{Prints, PrintsPart}
use Rattle.machine_turns.specs.Turns.{Turns, IsCutShort}
use Rattle.machine_turns.specs.Goes.{Goes, GoesSilently, SeatGoesOn, asks_trap, asks_spent}
use Rattle.machine_turns.proofs.Frees.{next_free}
use Rattle.machine_turns.proofs.Seen.{some_of, at_some, may_go, active_live}
use Rattle.machine_turns.proofs.Moved.{turn_at, same_machine, Turning, turning, goes_plain}
use Rattle.machine_turns.proofs.Choices.{both_false}
use Rattle.machine_turns.proofs.Printed.{prints_nothing}

-- a turn that prints nothing
pub turns_silent : (image : Image) (budget k : ℕ) (old new : kept.Machine) (before : Option (List ℕ)) → Goes image budget k old new → Turns image k old new before before
turns_silent image budget k old new before goes = ([], prints_nothing before, λ out. rw (append-nil out) (goes.turns out))

module _ (image : Image) (budget k : ℕ) (old : kept.Machine) (text : ℕ) (bytes : List ℕ) (kept_old : Kept image budget old) (is_at : IsAt old k (ask.Print text))
    (writes : IfSome (slice_get old.seats.items k) (λ s. bytes ≡ piece (text_of image text) s.unit.list)) where
  abbrev printing : Turning image budget old k (ask.Print text)
  printing = turning image budget old k (ask.Print text) kept_old is_at

  print_next : DoesNext image old.start budget printing.seat.unit (Ask (request.Print text))
  print_next = printing.means

  wrote : bytes ≡ piece (text_of image text) printing.seat.unit.list
  wrote = at_some _ (λ (s : Seat). bytes ≡ piece (text_of image text) s.unit.list) printing.seat printing.there writes

  print_turn : (out : List ℕ) → turn image (machine_of old out) k
      ≡ (let after : Machine = record {
        units = slice_set (map (seen_seat old.spawned) old.seats.items) k (answer_of image old.start (free printing.seat.unit) 0);
        words = old.words.items;
        drawn = old.drawn;
        start = old.start;
        out = out ++ bytes;
      } in after)
  print_turn out =
      turn_at image (machine_of old out) k (free printing.seat.unit) (Ask (request.Print text)) printing.seen (next_free image old.start printing.seat.unit ∙ print_next.next)
      ∙ ap (λ b. let after : Machine = record {
        units = slice_set (map (seen_seat old.spawned) old.seats.items) k (answer_of image old.start (free printing.seat.unit) 0);
        words = old.words.items;
        drawn = old.drawn;
        start = old.start;
        out = out ++ b;
      } in after) (sym wrote)

  print_cut : (before now : Option (List ℕ)) → PrintsPart bytes before now → IsCutShort image k old before now
  print_cut before now part = inr (bytes, part, λ out. ap (λ m. m.out) (print_turn out))

  print_done : (new : kept.Machine) → IfSome (slice_get old.seats.items k) (λ s. Replaced image old.start budget old.seats.items new.seats.items k (answered image old.start s.unit 0))
      → new.words.items ≡ old.words.items → new.drawn ≡ old.drawn → new.start ≡ old.start → new.spawned ≡ old.spawned
      → Kept image budget new × ((out : List ℕ) → machine_of new (out ++ bytes) ≡ turn image (machine_of old out) k)
  print_done new replaced words drawn same_start same_spawned =
      let made = goes_plain image budget k old new (ask.Print text) kept_old printing (request.Print text) 0 tt refl (omega arith) (at_some _ _ printing.seat printing.there replaced) same_start same_spawned in (
        made.0,
        λ out.
            same_machine _ (slice_set (map (seen_seat old.spawned) old.seats.items) k (answer_of image old.start (free printing.seat.unit) 0)) _ old.words.items _ old.drawn _ old.start (out ++ bytes) made.1 words drawn same_start
            ∙ sym (print_turn out),
      )

pub cut_printing : (image : Image) (budget k : ℕ) (old : kept.Machine) (text : ℕ) (bytes : List ℕ) → Kept image budget old → IsAt old k (ask.Print text)
    → IfSome (slice_get old.seats.items k) (λ s. bytes ≡ piece (text_of image text) s.unit.list) → (before now : Option (List ℕ)) → PrintsPart bytes before now → IsCutShort image k old before now
cut_printing image budget k old text bytes kept_old is_at writes before now part = print_cut image budget k old text bytes kept_old is_at writes before now part

pub kept_printing : (image : Image) (budget k : ℕ) (old : kept.Machine) (text : ℕ) (bytes : List ℕ) → Kept image budget old → IsAt old k (ask.Print text)
    → IfSome (slice_get old.seats.items k) (λ s. bytes ≡ piece (text_of image text) s.unit.list) → (new : kept.Machine)
    → IfSome (slice_get old.seats.items k) (λ s. Replaced image old.start budget old.seats.items new.seats.items k (answered image old.start s.unit 0))
    → new.words.items ≡ old.words.items → new.drawn ≡ old.drawn → new.start ≡ old.start → new.spawned ≡ old.spawned → Kept image budget new
kept_printing image budget k old text bytes kept_old is_at writes new replaced words drawn same_start same_spawned =
    (print_done image budget k old text bytes kept_old is_at writes new replaced words drawn same_start same_spawned).0

pub turns_printing : (image : Image) (budget k : ℕ) (old : kept.Machine) (text : ℕ) (bytes : List ℕ) → Kept image budget old → IsAt old k (ask.Print text)
    → IfSome (slice_get old.seats.items k) (λ s. bytes ≡ piece (text_of image text) s.unit.list) → (new : kept.Machine)
    → IfSome (slice_get old.seats.items k) (λ s. Replaced image old.start budget old.seats.items new.seats.items k (answered image old.start s.unit 0))
    → new.words.items ≡ old.words.items → new.drawn ≡ old.drawn → new.start ≡ old.start → new.spawned ≡ old.spawned
    → (before now : Option (List ℕ)) → Prints bytes before now → Turns image k old new before now
turns_printing image budget k old text bytes kept_old is_at writes new replaced words drawn same_start same_spawned before now printed =
    (bytes, printed, (print_done image budget k old text bytes kept_old is_at writes new replaced words drawn same_start same_spawned).1)

-- ---- what goes on without a print

never_dead : (s t : UnitState) → s ≡ t → is_live t ≡ false → is_live s ≡ true → ⊥
never_dead s t is dead live = let never : false ≡ true = sym dead ∙ ap (λ v. is_live v) (sym is) ∙ live in cc

silent_by : (image : Image) (start : Start) (budget : ℕ) (u : Unit) (a : engine.Ask) → Means image start budget u a → is_live u.state ≡ true → asks_trap a ≡ false → asks_spent a ≡ false → ((text : ℕ) → a ≡ ask.Print text → ⊥) → GoesSilently a
silent_by image start budget u (ask.Load word) means live trapped spent prints = tt
silent_by image start budget u (ask.Store word value) means live trapped spent prints = tt
silent_by image start budget u (ask.Add word value) means live trapped spent prints = tt
silent_by image start budget u ask.Draw means live trapped spent prints = tt
silent_by image start budget u (ask.Print text) means live trapped spent prints = prints text refl
silent_by image start budget u (ask.Spawn spawn) means live trapped spent prints = tt
silent_by image start budget u ask.Pause means live trapped spent prints = tt
silent_by image start budget u ask.Stopped means live trapped spent prints = never_dead u.state state.Stopped means refl live
silent_by image start budget u ask.Halt means live trapped spent prints = never_dead u.state state.Halted means refl live
silent_by image start budget u (ask.Trap trap) means live trapped spent prints = absurd cc
silent_by image start budget u ask.Spent means live trapped spent prints = absurd cc

silent_at : (image : Image) (budget : ℕ) (m : kept.Machine) (k : ℕ) (asked : engine.Ask) (s : Seat) → Kept image budget m → slice_get m.seats.items k ≡ Some s → SeatGoesOn m.spawned s → s.ask ≡ asked
    → ((text : ℕ) → asked ≡ ask.Print text → ⊥) → GoesSilently asked
silent_at image budget m k asked s kept_m there goes asks prints =
    let may : MayGo image m.start budget s = may_go image budget m k s kept_m there goes.active in
    subst GoesSilently asks (silent_by image m.start budget s.unit s.ask may.tells.means (active_live m.spawned s.unit goes.active) (both_false _ _ goes.active goes.untrapped) (both_false _ _ goes.active goes.unspent)
    (λ text is. prints text (sym asks ∙ is)))

pub goes_silently : (image : Image) (budget : ℕ) (m : kept.Machine) (k : ℕ) (asked : engine.Ask) → Kept image budget m → IsAt m k asked → IsSomeAnd (slice_get m.seats.items k) (SeatGoesOn m.spawned)
    → ((text : ℕ) → asked ≡ ask.Print text → ⊥) → GoesSilently asked
goes_silently image budget m k asked kept_m is_at goes prints =
    let found = some_of (slice_get m.seats.items k) (SeatGoesOn m.spawned) goes in
    let is : IsSomeAnd (Some found.0) (λ (s : Seat). (is_active m.spawned s.unit ≡ true) × (s.ask ≡ asked)) = subst (λ (o : Option Seat). IsSomeAnd o (λ (s : Seat). (is_active m.spawned s.unit ≡ true) × (s.ask ≡ asked))) found.1 is_at in
    silent_at image budget m k asked found.0 kept_m found.1 found.2 is.1 prints
