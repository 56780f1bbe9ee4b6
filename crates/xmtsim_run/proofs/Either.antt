-- Both ways to run an image end as its options say.
use Rattle.std.proofs.Common.{◌≡◌, ◌≢◌, refl, sym, subst, ℕ, ◌==◌, Bool, true, false, List, find, count_by, Option, Some, None}
use Rattle.std.specs.Prelude.{if◌then◌else◌}
use Rattle.xmt_base.specs.Picker as picker
use Rattle.xmt_isa.specs.declared.image.Image.{Image}
use Rattle.xmt_isa.specs.declared.unit.Unit.{Unit}
use Rattle.xmt_isa.specs.declared.run.Choice.{Choice}
use Rattle.xmt_isa.specs.declared.run.Choice.TheVariants as choice
use Rattle.run_options.specs.declared.options.SimOptions.{SimOptions}
use Rattle.run_options.specs.declared.options.SimEnd.{SimEnd}
use Rattle.run_options.specs.declared.options.SimEnd.TheVariants.{Done, Trap, Spent, WriteFault, NoMemory}
use Rattle.xmt_isa.specs.Machine.{Machine}
use Rattle.xmt_isa.specs.Opening.{opening, begins}
use Rattle.xmt_isa.specs.Picked.{PickedRun, picked, choice_of, choice_by, place_of, is_trapped, is_spent, is_spawned, is_active}
use Rattle.machine_core.specs.Runs as by_seed
use Rattle.threaded_runs.specs.Runs.{IsEnd, EndsAt, PrintsSome, EndsSome}
use Rattle.xmtsim_run.specs.Runs.{IsPickedBy, EndsUnder, PrintsUnder, Ends}

-- ---- an end doesn't look at the generator

module _ (image : Image) (m : Machine) (end : Choice) (no_step : (k : ℕ) → end ≢ choice.Step k) where
  abbrev picks_by : (none single : Bool) → (count state : ℕ) → Choice
  picks_by none single count state =
      if none then choice.Done
      else (if single then choice.Step (place_of (is_spawned m.units) m.units 0) else choice.Step (place_of (is_spawned m.units) m.units (picker.choice (picker.next_state state) count)))

  same_picks : (none single : Bool) (count one other : ℕ) → picks_by none single count one ≡ end → picks_by none single count other ≡ end
  same_picks true single count one other same = same
  same_picks false true count one other same = same
  same_picks false false count one other same = absurd (no_step _ (sym same))

  chosen_by : (one other : ℕ) (trapped spent : Option Unit) → choice_by image m one trapped spent ≡ end → choice_by image m other trapped spent ≡ end
  chosen_by one other (Some u) spent same = same
  chosen_by one other None (Some u) same = same
  chosen_by one other None None same =
      let count = count_by (is_active (is_spawned m.units)) m.units in
      same_picks (count == 0) (count == 1) count one other same

is_end : (image : Image) (budget : ℕ) (r : PickedRun) (end : Choice) → ((k : ℕ) → end ≢ choice.Step k) → choice_of image budget r ≡ end → IsEnd image budget r.machine end
is_end image budget r end no_step same = λ state.
    chosen_by image r.machine end no_step r.state state
    (find (is_trapped image r.machine.start budget (is_spawned r.machine.units)) r.machine.units)
    (find (is_spent budget (is_spawned r.machine.units)) r.machine.units) same

-- ---- with a seed

module _ (image : Image) (memory : List ℕ) (options : SimOptions) where
  module _ (seed : ℕ) (is : options.seed ≡ Some seed) (before now : Option (List ℕ)) where
    abbrev begin : PickedRun
    begin = begins image memory options.units seed

    reached : (choices : ℕ) (machine : Machine) → (picked image options.budget begin choices).machine ≡ machine → IsPickedBy image memory options options.seed machine
    reached choices machine same = subst (λ (o : Option ℕ). IsPickedBy image memory options o machine) (sym is) (choices, same)

    ends_picked : (end : Choice) (machine : Machine) → ((k : ℕ) → end ≢ choice.Step k) → by_seed.EndsAs image options.budget begin end machine before now → EndsUnder image memory options end machine before now
    ends_picked end machine no_step h = record {
      reached = record { legal = h.legal; as_picked = reached h.choices machine h.reaches };
      within = h.within;
      ends = subst (λ (m : Machine). IsEnd image options.budget m end) h.reaches (is_end image options.budget (picked image options.budget begin h.choices) end no_step h.ends);
      printed = h.printed;
    }

    prints_picked : by_seed.PrintsPicked image options.budget begin before now → PrintsUnder image memory options before now
    prints_picked h = record {
      machine = (picked image options.budget begin h.choices).machine;
      reached = record { legal = h.legal; as_picked = reached h.choices _ refl };
      printed = h.printed;
    }

    pub picked_under : (end : SimEnd) → by_seed.Ends image options.budget begin before now end → Ends image memory options before now end
    picked_under (Done left) h = (h.0, ends_picked choice.Done h.0 (λ k e. cc) h.1, h.2, h.3)
    picked_under (Trap trap) h = (h.0, ends_picked (choice.Trap trap) h.0 (λ k e. cc) h.1)
    picked_under (Spent unit steps) h = (h.0, ends_picked (choice.Spent unit steps) h.0 (λ k e. cc) h.1)
    picked_under WriteFault h = prints_picked h
    picked_under NoMemory h = prints_picked h

  -- ---- without one

  module _ (is : options.seed ≡ None) (before now : Option (List ℕ)) where
    unpicked : (machine : Machine) → IsPickedBy image memory options options.seed machine
    unpicked machine = subst (λ (o : Option ℕ). IsPickedBy image memory options o machine) (sym is) tt

    ends_threaded : (end : Choice) (machine : Machine) → EndsAt image options.budget (opening image memory options.units) end machine before now → EndsUnder image memory options end machine before now
    ends_threaded end machine h = record {
      reached = record { legal = h.legal; as_picked = unpicked machine };
      within = h.within;
      ends = h.ends;
      printed = h.printed;
    }

    prints_threaded : PrintsSome image (opening image memory options.units) before now → PrintsUnder image memory options before now
    prints_threaded h = record { machine = h.machine; reached = record { legal = h.legal; as_picked = unpicked h.machine }; printed = h.printed }

    pub threaded_under : (end : SimEnd) → EndsSome image options.budget (opening image memory options.units) before now end → Ends image memory options before now end
    threaded_under (Done left) h = (h.0, ends_threaded choice.Done h.0 h.1, h.2, h.3)
    threaded_under (Trap trap) h = (h.0, ends_threaded (choice.Trap trap) h.0 h.1)
    threaded_under (Spent unit steps) h = (h.0, ends_threaded (choice.Spent unit steps) h.0 h.1)
    threaded_under WriteFault h = prints_threaded h
    threaded_under NoMemory h = prints_threaded h
