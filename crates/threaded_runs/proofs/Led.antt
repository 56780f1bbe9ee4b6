-- Where the control units of a section have run, a legal schedule leads from its spawn to what they have become.
use Rattle.std.proofs.Common.{◌≡◌, sym, ap, ◌∙◌, subst, ℕ, ◌^◌, ◌<◌, ◌≤◌, ◌∷◌, false, List, length, Some, slice_get, slice_index, slice_index_or, arith}
use Rattle.std.proofs.lemmas.List.{length-map}
use Rattle.std.proofs.lemmas.Option.{get_or_from_slice_get}
use Rattle.xmt_isa.specs.declared.image.Image.{Image}
use Rattle.xmt_isa.specs.declared.unit.Unit.{Unit}
use Rattle.xmt_isa.specs.declared.unit.Start.{Start}
use Rattle.xmt_isa.specs.declared.unit.SpawnAsk.{SpawnAsk}
use Rattle.xmt_isa.specs.Machine.{Machine, turn, after, joins, waits_for, broadcast}
use Rattle.xmt_isa.specs.Legal.{IsLegal, RunsTo}
use Rattle.xmt_isa.specs.Fits.{StartFits}
use Rattle.tcu_engine.specs.declared.ask.Ask.TheVariants as ask
use Rattle.machine_turns.specs.declared.machine.Machine as kept
use Rattle.machine_turns.specs.Steps.{steps_of}
use Rattle.machine_turns.specs.Kept.{Kept, IsAt}
use Rattle.machine_turns.specs.View.{machine_of}
use Rattle.machine_sections.specs.Merge.{Cells, Merged}
use Rattle.machine_histories.specs.Histories.{Agrees, KeepsFirst}
use Rattle.prefix_sum.proofs.Drawing.{draws_count}
use Rattle.spawn_join.specs.declared.worker.Worker.{Worker}
use Rattle.spawn_join.specs.Worked.{IsDue, RanAtOnce, AllFinished, HasFinished, units_of, unit_in}
use Rattle.spawn_join.proofs.Merging.{sections_merge}
use Rattle.threaded_runs.specs.Sections.{AreNumbered}
use Rattle.threaded_runs.specs.Words.{Widens}
use Rattle.threaded_runs.proofs.Places.{map_there, there_map, inside_there, there_inside, same_lists, same_value}
use Rattle.threaded_runs.proofs.Rises.{Keeps, goes_keeps}
use Rattle.threaded_runs.proofs.Spawned.{master, workers, has_turn, opened, spawn_turn, is_open, agrees, workers_due, start_fits}

-- ---- what a section leaves

-- what is known where a section has run
pub record HasRun (image : Image) (budget : ℕ) (old : kept.Machine) (olds : List Worker) (master : Unit) (spawn : SpawnAsk) (start : Start) (wide : List ℕ) (news : List Worker) (left : List ℕ) : Type 0 where
  pub numbered : AreNumbered old.seats.items
  pub is_start : start ≡ broadcast master spawn
  pub widens : Widens old.words.items wide
  pub long : 4 ≤ length old.words.items
  pub few : length olds ≤ 64
  pub fits : budget < 2 ^ 64
  pub size : length news ≡ length olds
  pub small : slice_index left 1 < 2 ^ 64
  pub ran : RanAtOnce image start wide olds news left
  pub finished : AllFinished image start budget olds news

-- a legal schedule leads there
pub record Led (image : Image) (old : kept.Machine) (master : Unit) (start : Start) (olds news : List Worker) (left out : List ℕ) : Type 0 where
  pub there : Machine
  pub leads : RunsTo image (machine_of old out) there
  pub units : there.units ≡ joins image start (waits_for master ∷ units_of news)
  pub cells : Cells
  pub agrees : Agrees left cells
  pub first : KeepsFirst old.words.items cells.words
  pub words : there.words ≡ cells.words
  pub drawn : there.drawn ≡ cells.drawn
  pub start_is : there.start ≡ start
  pub out_is : there.out ≡ out
  pub rises : (k : ℕ) (w v : Worker) → slice_get olds k ≡ Some w → slice_get news k ≡ Some v → steps_of w.unit ≤ steps_of v.unit

freed : (x u : Unit) → x ≡ record u { waits = x.waits } → x.waits ≡ false → u.waits ≡ false → u ≡ x
freed x u same is_x is_u = sym (same ∙ ap (λ b. record u { waits = b }) (is_x ∙ sym is_u))

-- what is there has finished
pub finished_at : (image : Image) (start : Start) (budget : ℕ) (olds news : List Worker) (k : ℕ) (w v : Worker) → AllFinished image start budget olds news → slice_get olds k ≡ Some w → slice_get news k ≡ Some v → HasFinished image start budget w v
finished_at image start budget olds news k w v finished before now =
    let both : HasFinished image start budget (slice_index_or olds k w) (slice_index_or news k w) = finished k w (there_inside olds k w before) in
    subst (λ (x : Worker). HasFinished image start budget x v) (get_or_from_slice_get olds k w w before) (subst (λ (x : Worker). HasFinished image start budget (slice_index_or olds k w) x) (get_or_from_slice_get news k v w now) both)

module _ (image : Image) (budget : ℕ) (old : kept.Machine) (spawn : SpawnAsk) (kept_old : Kept image budget old) (serial : old.spawned ≡ false) (is_at : IsAt old 0 (ask.Spawn spawn)) where
  abbrev Runs : Start → List ℕ → List Worker → List ℕ → Type 0
  Runs start wide news left = HasRun image budget old (workers image budget old spawn kept_old serial is_at) (master image budget old spawn kept_old serial is_at) spawn start wide news left

  module _ (start : Start) (wide : List ℕ) (news : List Worker) (left : List ℕ) (run : Runs start wide news left) (out : List ℕ) where
    abbrev olds : List Worker
    olds = workers image budget old spawn kept_old serial is_at

    abbrev waiting : Unit
    waiting = waits_for (master image budget old spawn kept_old serial is_at)

    abbrev begins : Machine
    begins = opened image budget old spawn kept_old serial is_at start out

    abbrev ends : ℕ → Unit
    ends place = slice_index_or (units_of news) place waiting

    fits : StartFits image start
    fits = start_fits image budget old spawn kept_old serial is_at start run.is_start

    found : (c : Cells) × Agrees left c × Merged image begins waiting ends (length (units_of olds)) c × KeepsFirst old.words.items c.words
    found =
        let few : length olds ≤ 64 = run.few in
        let count : start.count ≤ 2 ^ 32 = fits.count in
        sections_merge draws_count image begins waiting wide olds news left (is_open image budget old spawn kept_old serial is_at run.numbered start out)
        (agrees image budget old spawn kept_old serial is_at wide run.widens run.long) (run.widens.zeros 1 (omega arith)) run.small (omega (arith, few, count)) run.ran

    merged : Merged image begins waiting ends (length (units_of olds)) found.0
    merged = found.2

    -- a unit of the machine that is led to, from where it was
    came : (k : ℕ) (w : Worker) (u : Unit) → slice_get olds k ≡ Some w → slice_get merged.rest k ≡ Some u → Keeps w.unit u
    came k w u before now =
        let due : IsDue image start budget w.unit = workers_due image budget old spawn kept_old serial is_at start k w before in
        let within : steps_of w.unit ≤ budget = due.within in
        let fits_in : budget < 2 ^ 64 = run.fits in
        let at : slice_get (units_of olds) k ≡ Some w.unit = there_map unit_in olds k w before in
        goes_keeps image start w.unit u (record { free = due.free; small = omega (arith, within, fits_in) }) (merged.goes k (there_inside (units_of olds) k w.unit at) w.unit u at now)

    -- it is what its worker has become
    same_at : (k : ℕ) (u x : Unit) → slice_get merged.rest k ≡ Some u → slice_get (units_of news) k ≡ Some x → u ≡ x
    same_at k u x now is =
        let v = map_there unit_in news k x is in
        let size : length news ≡ length olds = run.size in
        let inside : k < length news = there_inside news k v.0 v.1 in
        let w = inside_there olds k (omega (arith, size, inside)) in
        let done : HasFinished image start budget w.0 v.0 = finished_at image start budget olds news k w.0 v.0 run.finished w.1 v.1 in
        let inside_units : k < length (units_of olds) = there_inside (units_of olds) k w.0.unit (there_map unit_in olds k w.0 w.1) in
        let e = merged.each k inside_units in
        let is_u : e.0 ≡ u = same_value e.0 u (sym e.1 ∙ now) in
        let is_x : ends k ≡ x = get_or_from_slice_get (units_of news) k x waiting is in
        let stands : x ≡ record u { waits = x.waits } = subst (λ y. x ≡ record y { waits = x.waits }) is_u (subst (λ y. y ≡ record e.0 { waits = y.waits }) is_x e.2) in
        let free_x : x.waits ≡ false = ap (λ (y : Unit). y.waits) (sym v.2) ∙ done.free in
        freed x u stands free_x (came k w.0 u w.1 now).free

    same_rest : merged.rest ≡ units_of news
    same_rest = same_lists merged.rest (units_of news) (merged.size ∙ length-map olds unit_in ∙ sym run.size ∙ sym (length-map news unit_in)) same_at

    pub led : Led image old (master image budget old spawn kept_old serial is_at) start olds news left out
    led =
        let turned : turn image (machine_of old out) 0 ≡ begins = spawn_turn image budget old spawn kept_old serial is_at start out run.is_start in
        record {
          there = merged.there;
          leads = (
            0 ∷ merged.schedule,
            (has_turn image budget old spawn kept_old serial is_at out, subst (λ m. IsLegal image m merged.schedule) (sym turned) merged.legal),
            ap (λ m. after image m merged.schedule) turned ∙ merged.leads,
          );
          units = merged.units ∙ ap (λ us. joins image start (waiting ∷ us)) same_rest;
          cells = found.0;
          agrees = found.1;
          first = found.3;
          words = merged.words;
          drawn = merged.drawn;
          start_is = merged.start;
          out_is = merged.out;
          rises = λ k w v before now.
              let there : slice_get merged.rest k ≡ Some v.unit = ap (λ us. slice_get us k) same_rest ∙ there_map unit_in news k v now in
              (came k w v.unit before there).rises;
        }
