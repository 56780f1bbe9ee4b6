-- No more virtual threads of the source are under way than there are control units.
use Rattle.std.proofs.Common.{◌≡◌, refl, sym, ◌∙◌, ℕ, suc, ◌<◌, ◌≤◌, ◌&&◌, not, nat_lt, Bool, true, false, List, length, Option, Some, None, slice_get, arith}
use Rattle.std.specs.List.{count_by}
use Rattle.std.specs.Option.{option_map_or}
use Rattle.std.proofs.lemmas.Bool.Decides.{nat_tests}
use Rattle.std.proofs.lemmas.Option.{slice_get_within}
use Rattle.interleaving.specs.Actors.{turns_of}
use Rattle.source_meaning.specs.declared.tree.Program.{Program}
use Rattle.source_meaning.specs.Run.{Thread, has_ended, thread_numbers}
use Rattle.source_log.specs.Bounded.{HasBoundedTraces}
use Rattle.source_log.specs.FromLog.{IsScheduleOf}
use Rattle.source_log.specs.Log as source
use Rattle.source_log.specs.Log.{world_of}
use Rattle.xmt_isa.specs.declared.image.Image.{Image}
use Rattle.xmt_isa.specs.Machine.{Machine}
use Rattle.xmt_isa.specs.Traces.{traces_of}
use Rattle.machine_log.specs.Log.{Log, opening_world, after_log}
use Rattle.machine_log.specs.Done.{Parts}
use Rattle.machine_runs.specs.Runs.{IsLogOf}
use Rattle.run_law.specs.Cells.{WorldsAgree}
use Rattle.xmt_compile.specs.Implements.{reached, is_under_way}
use Rattle.xmt_compile.proofs.Drawn.{both_true, is_drawn, IsDrawn, drawn_is}
use Rattle.xmt_compile.proofs.Lists.{count_covered}
use Rattle.xmt_compile.proofs.Threads.{trap, SourceSteps, ended_same}

live_thread : (o : Option Thread) → option_map_or (λ t. not (has_ended t)) o false ≡ true → (thread : Thread) × (o ≡ Some thread) × (has_ended thread ≡ false)
live_thread None h = cc
live_thread (Some thread) h = (thread, refl, negated (has_ended thread) h)
  where
    negated : (b : Bool) → not b ≡ true → b ≡ false
    negated true h = cc
    negated false h = refl

module _ (program : Program) (image : Image) (bounded : HasBoundedTraces program (traces_of image)) (memory : List ℕ) (m : Machine) (log : Log) (p : Parts) (is_log : IsLogOf image memory m log p)
    (lawful : source.IsLawful (source.opening_world program memory) log) (agree : WorldsAgree image (after_log image (opening_world image memory) log) (world_of program memory log))
    (s : SourceSteps program image bounded memory m log p is_log lawful agree) (schedule : List ℕ) (is_schedule : IsScheduleOf program memory log (trap program image bounded memory m log p is_log lawful agree) s.steps schedule)
    (n : ℕ) (units : length m.units ≡ suc n) where
  abbrev threads : List Thread
  threads = (reached program memory schedule).threads

  -- a control unit is at work at each thread that is under way
  at_work : (t : ℕ) → is_under_way schedule (reached program memory schedule) t ≡ true → IsDrawn m p t
  at_work t under_way =
      let first = both_true (nat_lt 0 t) (nat_lt 0 (turns_of t schedule) && option_map_or (λ t. not (has_ended t)) (slice_get threads t) false) under_way in
      let second = both_true (nat_lt 0 (turns_of t schedule)) (option_map_or (λ t. not (has_ended t)) (slice_get threads t) false) first.1 in
      let live = live_thread (slice_get threads t) second.1 in
      let within : t < length threads = slice_get_within threads t live.0 live.1 in
      let count : length threads ≡ (world_of program memory log).threads = is_schedule.count in
      let there : t < (world_of program memory log).threads = omega (arith, within, count) in
      let lives : is_log.world.ended t ≡ false = sym (ended_same program image bounded memory m log p is_log lawful agree t) ∙ sym (is_schedule.ended t live.0 there live.1) ∙ live.2 in
      by_drawn (grind (arith, nat_tests, first.0)) lives (is_schedule.turns t there) (grind (arith, nat_tests, second.0)) (is_drawn m p t) refl
    where
      by_drawn : 0 < t → is_log.world.ended t ≡ false → turns_of t schedule ≡ s.steps t → 0 < turns_of t schedule → (b : Bool) → is_drawn m p t ≡ b → IsDrawn m p t
      by_drawn later lives turns stepped true e = drawn_is m p t e
      by_drawn later lives turns stepped false e = absurd (let none : s.steps t ≡ 0 = s.idle t later lives e in omega (arith, none, turns, stepped))

  pub few_under_way : count_by (is_under_way schedule (reached program memory schedule)) (thread_numbers (reached program memory schedule)) ≤ n
  few_under_way =
      count_covered n p.runner (is_under_way schedule (reached program memory schedule)) 0 (length threads)
      (λ t under_way.
      let d : IsDrawn m p t = at_work t under_way in
      (d.place, (let within : suc d.place < length m.units = slice_get_within m.units (suc d.place) d.unit d.at in omega (arith, within, units)), d.is_runner))
