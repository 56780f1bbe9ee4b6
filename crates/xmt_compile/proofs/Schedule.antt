-- The schedule of the source for a log of a machine: the rising one, where there is one control unit.
use Rattle.std.proofs.Common.{◌≡◌, refl, ◌∙◌, ap, subst, ℕ, suc, ◌<◌, ◌≤◌, ◌==◌, nat_lt, Bool, true, false, List, [], ◌∷◌, ◌++◌, length, arith, ◌⊎◌, inl, inr}
use Rattle.std.proofs.lemmas.Bool.Decides.{nat_tests}
use Rattle.xmt_base.specs.Action.{Action, Ended}
use Rattle.interleaving.specs.Actors.{part_of}
use Rattle.interleaving.specs.Parts.{actions_of}
use Rattle.interleaving.proofs.Interleave.{eq_of}
use Rattle.source_meaning.specs.declared.tree.Program.{Program}
use Rattle.source_meaning.specs.Run.{start, rising}
use Rattle.source_log.specs.Bounded.{EndsThread, HasBoundedTraces}
use Rattle.source_log.specs.Checked.{IsPlain}
use Rattle.source_log.specs.FromLog.{IsScheduleOf}
use Rattle.source_log.specs.Log as source
use Rattle.source_log.specs.Log.{world_of}
use Rattle.source_log.specs.Rising.{LowerEnded, IsRising}
use Rattle.source_log.proofs.FromLog.{each_log_has_a_schedule}
use Rattle.source_log.proofs.Rising.{each_rising_log_has_the_rising_schedule}
use Rattle.xmt_isa.specs.declared.image.Image.{Image}
use Rattle.xmt_isa.specs.Machine.{Machine}
use Rattle.xmt_isa.specs.Traces.{traces_of}
use Rattle.xmt_isa.specs.Valid.{IsValid}
use Rattle.machine_log.specs.Log.{Log, opening_world, after_log}
use Rattle.machine_log.specs.Log as machine
use Rattle.machine_log.specs.Done as done
use Rattle.machine_log.specs.Done.{Parts}
use Rattle.machine_runs.specs.Runs.{IsLogOf}
use Rattle.run_law.specs.Cells.{WorldsAgree}
use Rattle.run_law.proofs.Cells.{all_rise_over_cells}
use Rattle.run_law.proofs.Opening.{all_agree_at_first}
use Rattle.run_law.specs.Cells.{OpensAs}
use Rattle.xmt_compile.proofs.Drawn.{is_drawn, IsDrawn, drawn_is}
use Rattle.xmt_compile.proofs.Ended.{ends_thread}
use Rattle.xmt_compile.proofs.Threads.{trap, SourceSteps, IsThere, ended_same, no_entries}

no_end : EndsThread [] → ⊥
no_end h = by_before h.0 h.1
  where
    by_before : (before : List Action) → [] ≡ before ++ (Ended ∷ []) → ⊥
    by_before [] e = cc
    by_before (x ∷ before) e = cc

module _ (program : Program) (image : Image) (bounded : HasBoundedTraces program (traces_of image)) (memory : List ℕ) (m : Machine) (log : Log) (p : Parts) (is_log : IsLogOf image memory m log p)
    (lawful : source.IsLawful (source.opening_world program memory) log) (agree : WorldsAgree image (after_log image (opening_world image memory) log) (world_of program memory log))
    (s : SourceSteps program image bounded memory m log p is_log lawful agree) where
  -- a thread that has ended has done something
  pub ended_thread : (t : ℕ) → is_log.world.ended t ≡ true → EndsThread (actions_of (part_of t log))
  ended_thread t ended = ends_thread image t log (opening_world image memory) is_log.done.lawful refl (ap (λ (w : machine.World). w.ended t) is_log.is_world ∙ ended)

  module _ (valid : IsValid image) (opens : OpensAs image memory program memory) (two : length m.units ≡ 2) (rises : done.IsRising image memory log p) where
    rest : (t : ℕ) → IsThere program image bounded memory m log p is_log lawful agree t → LowerEnded (world_of program memory log) t ⊎ (s.steps t ≡ 0)
    rest t less = by_first (nat_lt 0 t) refl
      where
        risen : LowerEnded (world_of program memory log) t ⊎ (p.steps t ≡ 0)
        risen = (all_rise_over_cells image valid memory log p is_log.done rises (source.opening_world program memory) (all_agree_at_first image memory program memory opens)).1 t less

        by_ended : 0 < t → (b : Bool) → is_log.world.ended t ≡ b → LowerEnded (world_of program memory log) t ⊎ (s.steps t ≡ 0)
        by_ended later true e = elim risen [
          | inl h ↦ inl h
          | inr none ↦ absurd (no_end (subst (λ part. EndsThread (actions_of part)) (no_entries program image bounded memory m log p is_log lawful agree t none) (ended_thread t e)))
        ]
        by_ended later false e = by_drawn (is_drawn m p t) refl
          where
            by_drawn : (b : Bool) → is_drawn m p t ≡ b → LowerEnded (world_of program memory log) t ⊎ (s.steps t ≡ 0)
            by_drawn true drawn =
                let d : IsDrawn m p t = drawn_is m p t drawn in
                let lower : done.LowerEnded is_log.world.ended (p.runner d.place) = (is_log.runs d.spawned d.place d.unit d.at d.runs).4 two in
                let here : done.LowerEnded is_log.world.ended t = subst (λ u. done.LowerEnded is_log.world.ended u) d.is_runner lower in
                inl (λ u first below. ended_same program image bounded memory m log p is_log lawful agree u ∙ here u first below)
            by_drawn false none = inr (s.idle t later e none)

        by_first : (b : Bool) → nat_lt 0 t ≡ b → LowerEnded (world_of program memory log) t ⊎ (s.steps t ≡ 0)
        by_first true e = by_ended (grind (arith, nat_tests, e)) (is_log.world.ended t) refl
        by_first false e = inl (λ u first below. absurd (let none : t ≤ 0 = grind (arith, nat_tests, e) in omega (arith, none, first, below)))

    is_rising : IsRising program memory log s.steps
    is_rising = record { entries = (all_rise_over_cells image valid memory log p is_log.done rises (source.opening_world program memory) (all_agree_at_first image memory program memory opens)).0; rest = rest }

  pub record Chosen (n : ℕ) : Type 0 where
    pub schedule : List ℕ
    pub is_schedule : IsScheduleOf program memory log (trap program image bounded memory m log p is_log lawful agree) s.steps schedule
    pub is_rising : n ≡ 1 → schedule ≡ rising program (start program memory) (length schedule)

  pub chosen : (in_blocks : ℕ → Bool) → IsPlain program (λ f. in_blocks f ≡ true) → IsValid image → OpensAs image memory program memory → (n : ℕ) → length m.units ≡ suc n → (n ≡ 1 → done.IsRising image memory log p) → Chosen n
  chosen in_blocks plain valid opens n units rises = by_one (n == 1) refl
    where
      by_one : (b : Bool) → (n == 1) ≡ b → Chosen n
      by_one true e =
          let one : n ≡ 1 = eq_of n 1 e in
          let r = each_rising_log_has_the_rising_schedule program in_blocks memory log (trap program image bounded memory m log p is_log lawful agree) s.steps plain s.parts (is_rising valid opens (omega (arith, units, one)) (rises one)) in
          record { schedule = r.0; is_schedule = r.1; is_rising = λ h. r.2 }
      by_one false e =
          let r = each_log_has_a_schedule program in_blocks memory log (trap program image bounded memory m log p is_log lawful agree) s.steps plain s.parts in
          record { schedule = r.0; is_schedule = r.1; is_rising = λ one. absurd (grind (arith, e, one)) }
