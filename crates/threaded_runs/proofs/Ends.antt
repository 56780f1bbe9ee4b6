-- How far a run has come, how it goes on, and how it ends.
use Rattle.std.proofs.Common.{◌≡◌, refl, sym, ◌∙◌, subst, ℕ, ◌+◌, ◌*◌, ◌<◌, ◌^◌, false, List, [], ◌++◌, length, take, Option, Some, None, slice_get, append-nil, inl, inr}
use Rattle.std.specs.Option.{IsSomeAnd}
use Rattle.std.proofs.Math.Seq.{take-append-add, take-length}
use Rattle.xmt_isa.specs.declared.image.Image.{Image}
use Rattle.xmt_isa.specs.declared.run.Choice.{Choice}
use Rattle.xmt_isa.specs.declared.unit.SpawnAsk.{SpawnAsk}
use Rattle.xmt_isa.specs.Machine as spec
use Rattle.xmt_isa.specs.Legal.{RunsTo}
use Rattle.tcu_engine.specs.declared.ask.Ask as engine
use Rattle.tcu_engine.specs.declared.ask.Ask.TheVariants as ask
use Rattle.machine_turns.specs.declared.seats.Seat.{Seat}
use Rattle.machine_turns.specs.declared.machine.Machine.{Machine}
use Rattle.machine_turns.specs.Goes.{SeatGoesOn}
use Rattle.machine_turns.specs.Kept.{Kept, IsAt}
use Rattle.machine_turns.specs.Prints.{Prints}
use Rattle.machine_turns.specs.Runs.{HasCome, RunsOn}
use Rattle.machine_turns.specs.Sole.{OnlyActive, sole_choice}
use Rattle.machine_turns.specs.Turns.{Turns, IsCutShort}
use Rattle.machine_turns.specs.View.{machine_of, run_of}
use Rattle.machine_turns.proofs.Advance.{kept_within, fewer_left}
use Rattle.machine_turns.proofs.Choices.{choice_same, has_halted}
use Rattle.machine_turns.proofs.Legality.{leads_further, goes_on_turn}
use Rattle.machine_turns.proofs.Printed.{prints_nothing, prints_then}
use Rattle.machine_turns.proofs.Seen.{some_of}
use Rattle.machine_turns.proofs.Sole.{only_active, sole_chosen}
use Rattle.threaded_runs.specs.Runs.{HasEnded, PrintsSome}
use Rattle.threaded_runs.specs.Sections.{AreNumbered, EndsInside, HasSection, HasTurned, HasGoneOn, HasComeTo}
use Rattle.threaded_runs.proofs.Leads.{leads_then, leads_size}
use Rattle.threaded_runs.proofs.Numbers.{numbered_further}
use Rattle.threaded_runs.proofs.Serial.{goes_as, serial_turn}

-- ---- one turn of the master, or its section

-- a section has run
pub section_goes_on : (image : Image) (budget : ℕ) (old new : Machine) (out : Option (List ℕ)) (end : Option Choice) → HasSection image budget old new end → HasGoneOn image budget old new out out end
section_goes_on image budget old new out None joins = record {
  kept = joins.kept;
  serial = joins.serial;
  bytes = [];
  printed = prints_nothing out;
  leads = λ known. rw (append-nil known) (joins.leads known);
  left = joins.left;
}
section_goes_on image budget old new out (Some end) inside = (inside, refl)

-- the master has had a turn
pub turn_goes_on : (image : Image) (budget : ℕ) (old new : Machine) (asked : engine.Ask) (before now : Option (List ℕ)) → budget < 2 ^ 64 → Kept image budget old → Kept image budget new → old.spawned ≡ false
    → IsSomeAnd (slice_get old.seats.items 0) (SeatGoesOn false) → IsAt old 0 asked → ((a : SpawnAsk) → asked ≡ ask.Spawn a → ⊥) → Turns image 0 old new before now → HasTurned image budget old new before now
turn_goes_on image budget old new asked before now fits kept_old kept_new serial goes is_at other (bytes, printed, each) =
    let on : IsSomeAnd (slice_get old.seats.items 0) (SeatGoesOn old.spawned) = goes_as old 0 serial goes in
    record {
      kept = kept_new;
      serial = serial_turn image budget old new asked [] _ kept_old kept_new on is_at other (each []);
      bytes = bytes;
      printed = printed;
      leads = λ out. leads_further image (machine_of old out) (machine_of old out) (machine_of new (out ++ bytes)) 0 ([], tt, refl) (goes_on_turn image budget old 0 kept_old on out) (each out);
      left = fewer_left image budget old new 0 [] _ fits kept_old on (each []);
    }

-- ---- how far a run has come

-- instructions of the master alone
on_legal : (image : Image) (budget : ℕ) (old new : Machine) → RunsOn image budget old new → (out : List ℕ) → RunsTo image (machine_of old out) (machine_of new out)
on_legal image budget old new on out =
    let first : HasCome image budget (run_of old out 0) old 0 (Some []) (Some out) = record { choices = 0; out = out; same = refl; legal = ([], tt, refl); printed = refl } in
    let last : HasCome image budget (run_of old out 0) new 0 (Some []) (Some out) = on.come (run_of old out 0) 0 (Some []) (Some out) first in
    let printed : Some out ≡ Some last.out = last.printed in
    let same : last.out ≡ out = cc in
    subst (λ (o : List ℕ). RunsTo image (machine_of old out) (machine_of new o)) same last.legal

module _ (image : Image) (budget : ℕ) (begin : spec.Machine) where
  come_further : (old new : Machine) (bytes : List ℕ) (before mid now : Option (List ℕ)) → HasComeTo image budget begin old before mid → Kept image budget new → new.spawned ≡ false
      → ((out : List ℕ) → RunsTo image (machine_of old out) (machine_of new (out ++ bytes))) → Prints bytes mid now → HasComeTo image budget begin new before now
  come_further old new bytes before mid now come kept_new serial leads printed = record {
    kept = kept_new;
    serial = serial;
    numbered = numbered_further image old new come.out (come.out ++ bytes) (leads come.out) come.numbered;
    long = leads_size image (machine_of old come.out) (machine_of new (come.out ++ bytes)) (leads come.out) ∙ come.long;
    out = come.out ++ bytes;
    legal = leads_then image begin (machine_of old come.out) (machine_of new (come.out ++ bytes)) come.legal (leads come.out);
    printed = prints_then come.out bytes before mid now come.printed printed;
  }

  -- the master has run on alone
  pub come_on : (old new : Machine) (before now : Option (List ℕ)) → HasComeTo image budget begin old before now → RunsOn image budget old new → new.spawned ≡ old.spawned → HasComeTo image budget begin new before now
  come_on old new before now come on same =
      come_further old new [] before now now come on.kept (same ∙ come.serial) (λ out. rw (append-nil out) (on_legal image budget old new on out)) (prints_nothing now)

  -- the master has had a turn, or its section has run
  pub come_turned : (old new : Machine) (before mid now : Option (List ℕ)) → HasComeTo image budget begin old before mid → HasTurned image budget old new mid now → HasComeTo image budget begin new before now
  come_turned old new before mid now come turned = come_further old new turned.bytes before mid now come turned.kept turned.serial turned.leads turned.printed

  -- ---- ends

  -- the run has ended between sections
  pub ended_here : (m : Machine) (end : Choice) (before now : Option (List ℕ)) → HasComeTo image budget begin m before now → IsSomeAnd (slice_get m.seats.items 0) (λ s. sole_choice false 0 s ≡ end)
      → HasEnded image budget begin end m.words.items before now
  ended_here m end before now come is =
      let found = some_of (slice_get m.seats.items 0) (λ (s : Seat). sole_choice false 0 s ≡ end) is in
      let sole : OnlyActive m.spawned m.seats.items 0 = only_active image budget m 0 come.kept (rw come.serial refl) in
      let own : sole_choice m.spawned 0 found.0 ≡ end = rw come.serial found.2 in
      record {
        machine = machine_of m come.out;
        ended = record {
          legal = come.legal;
          within = kept_within image budget m come.kept;
          ends = λ state. sym (choice_same image budget m come.kept come.out state) ∙ sym (sole_chosen m.spawned m.seats.items 0 found.0 found.1 sole state) ∙ own;
          printed = come.printed;
        };
        done = λ is. (has_halted image budget m 0 come.kept (sym is ∙ sym own ∙ sole_chosen m.spawned m.seats.items 0 found.0 found.1 sole 0) come.out, refl);
      }

  -- the run has ended inside a section
  pub ended_inside : (m : Machine) (end : Choice) (words : List ℕ) (before mid now : Option (List ℕ)) → HasComeTo image budget begin m before mid → EndsInside image budget m end → now ≡ mid
      → HasEnded image budget begin end words before now
  ended_inside m end words before mid now come inside same = record {
    machine = inside.there come.out;
    ended = record {
      legal = leads_then image begin (machine_of m come.out) (inside.there come.out) come.legal (inside.leads come.out);
      within = inside.within come.out;
      ends = inside.ends come.out;
      printed = rw (inside.silent come.out, same) come.printed;
    };
    done = λ is. absurd (inside.not_done is);
  }

  -- what was printed so far
  prints_so_far : (m : Machine) (before now : Option (List ℕ)) → HasComeTo image budget begin m before now → PrintsSome image begin before now
  prints_so_far m before now come = record { machine = machine_of m come.out; legal = come.legal; printed = (length come.out, rw (take-length come.out) come.printed) }

  -- a turn was cut short
  pub cut_short : (m : Machine) (before mid now : Option (List ℕ)) → HasComeTo image budget begin m before mid → IsSomeAnd (slice_get m.seats.items 0) (SeatGoesOn false) → IsCutShort image 0 m mid now → PrintsSome image begin before now
  cut_short m before mid now come goes (inl same) = rw same (prints_so_far m before mid come)
  cut_short m before mid now come goes (inr (bytes, (n, part), each)) = record {
    machine = spec.turn image (machine_of m come.out) 0;
    legal = leads_further image begin (machine_of m come.out) (spec.turn image (machine_of m come.out) 0) 0 come.legal (goes_on_turn image budget m 0 come.kept (goes_as m 0 come.serial goes) come.out) refl;
    printed = (length come.out + n, rw (each come.out, take-append-add come.out bytes n) (prints_then come.out (take n bytes) before mid now come.printed part));
  }

  -- a run that has ended printed what it printed
  pub prints_ended : (end : Choice) (words : List ℕ) (before now : Option (List ℕ)) → HasEnded image budget begin end words before now → PrintsSome image begin before now
  prints_ended end words before now e = record { machine = e.machine; legal = e.ended.legal; printed = (length e.machine.out, rw (take-length e.machine.out) e.ended.printed) }

-- nothing was done yet
pub has_begun : (image : Image) (budget : ℕ) (m : Machine) (out : Option (List ℕ)) → Kept image budget m → m.spawned ≡ false → AreNumbered m.seats.items → length m.words.items ≡ 12 + length image.words + 257 * image.outer
    → HasComeTo image budget (machine_of m []) m out out
has_begun image budget m out kept serial numbered long = record {
  kept = kept;
  serial = serial;
  numbered = numbered;
  long = long;
  out = [];
  legal = ([], tt, refl);
  printed = prints_nothing out;
}

-- nothing was printed yet
pub prints_none : (image : Image) (begin : spec.Machine) (out : Option (List ℕ)) → begin.out ≡ [] → PrintsSome image begin out out
prints_none image begin out none = record { machine = begin; legal = ([], tt, refl); printed = (length begin.out, rw (take-length begin.out, none) (prints_nothing out)) }
