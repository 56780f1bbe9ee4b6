-- What each thread of a log does in the source: its steps there, and the bound on its instructions.
use Rattle.std.proofs.Common.{◌≡◌, refl, sym, ◌∙◌, ap, subst, ℕ, suc, zero, ◌+◌, ◌*◌, ◌<◌, ◌≤◌, ◌&&◌, not, nat_lt, Bool, true, false, List, [], ◌∷◌, ◌++◌, Option, Some, None, slice_get, arith, append-nil, ◌⊎◌, inl, inr}
use Rattle.std.proofs.lemmas.Bool.Decides.{nat_tests}
use Rattle.xmt_base.specs.declared.values.TrapKind.{TrapKind}
use Rattle.xmt_base.specs.Action.{Action, Main}
use Rattle.interleaving.specs.Actors.{part_of, Does}
use Rattle.interleaving.specs.Parts.{actions_of, replies_of}
use Rattle.interleaving.specs.Starts.{start_of}
use Rattle.interleaving.proofs.Starts.{are_starts}
use Rattle.source_meaning.specs.declared.tree.Program.{Program}
use Rattle.source_meaning.specs.Trace.{traces_in}
use Rattle.source_log.specs.Bounded.{IsBounded, HasBoundedTraces}
use Rattle.source_log.specs.FromLog.{Begins, DoTheirParts}
use Rattle.source_log.specs.Log as source
use Rattle.source_log.specs.Log.{world_of, trap_action}
use Rattle.source_log.specs.Threads as thread
use Rattle.source_log.proofs.ByItself.{ArePlain, ByItself, by_itself}
use Rattle.source_log.proofs.Prepared.{parts_plain}
use Rattle.source_log.proofs.Prompt.{not_begun}
use Rattle.source_log.proofs.Waiting.{with_serial, first_steps}
use Rattle.source_log.proofs.FromLog.{some_threads_of}
use Rattle.xmt_isa.specs.declared.image.Image.{Image}
use Rattle.xmt_isa.specs.declared.unit.Unit.{Unit}
use Rattle.xmt_isa.specs.Machine.{Machine}
use Rattle.xmt_isa.specs.Picked.{is_spawned}
use Rattle.xmt_isa.specs.Threads.{move}
use Rattle.xmt_isa.specs.Traces.{traces_of}
use Rattle.machine_log.specs.Log as machine
use Rattle.machine_log.specs.Log.{Log, opening_world, after_log}
use Rattle.machine_log.specs.Done.{Parts}
use Rattle.machine_runs.specs.Runs.{IsLogOf}
use Rattle.run_law.specs.Cells.{WorldsAgree}
use Rattle.run_law.proofs.Parts.{all_do_their_parts}
use Rattle.xmt_compile.proofs.Actors.{Before, prompt_step, sooner}
use Rattle.xmt_compile.proofs.Drawn.{both_true, is_drawn, trap_at, stand_at_traps, undrawn}

plain_front : (front rest : Log) → ArePlain (front ++ rest) → ArePlain front
plain_front [] rest plain = tt
plain_front (e ∷ front) rest plain = (plain.0, plain.1, plain_front front rest plain.2)

-- the first unit is the master
master_of : (units : List Unit) → is_spawned units ≡ true → (u : Unit) × (slice_get units 0 ≡ Some u) × (u.waits ≡ true)
master_of [] h = cc
master_of (master ∷ rest) h = (master, refl, h)

module _ (program : Program) (image : Image) (bounded : HasBoundedTraces program (traces_of image)) (memory : List ℕ) (m : Machine) (log : Log) (p : Parts) (is_log : IsLogOf image memory m log p)
    (lawful : source.IsLawful (source.opening_world program memory) log) (agree : WorldsAgree image (after_log image (opening_world image memory) log) (world_of program memory log)) where
  abbrev pub trap : ℕ → Option (TrapKind × ℕ)
  trap = trap_at image m p

  abbrev pub trace : ℕ → List Action
  trace t = actions_of (part_of t log) ++ trap_action (trap t)

  abbrev pub DoesIn : (t steps : ℕ) → Type 0
  DoesIn t steps = traces_in program t (start_of log t) (replies_of (part_of t log)) (trace t) steps

  abbrev pub IsThere : ℕ → Type 0
  IsThere t = t < (world_of program memory log).threads

  pub there : (t : ℕ) → IsThere t → t < is_log.world.threads
  there t less = subst (λ n. t < n) (agree.threads ∙ ap (λ (w : machine.World). w.threads) is_log.is_world) less

  pub in_source : (t : ℕ) → t < is_log.world.threads → IsThere t
  in_source t less = subst (λ n. t < n) (sym (agree.threads ∙ ap (λ (w : machine.World). w.threads) is_log.is_world)) less

  pub ended_same : (t : ℕ) → (world_of program memory log).ended t ≡ is_log.world.ended t
  ended_same t = agree.ended t ∙ ap (λ (w : machine.World). w.ended t) is_log.is_world

  -- a virtual thread that has not ended, and at which no unit is at work
  abbrev is_idle : ℕ → Bool
  is_idle t = nat_lt 0 t && (not (is_log.world.ended t) && not (is_drawn m p t))

  pub record Found (t : ℕ) : Type 0 where
    pub steps : ℕ
    pub does : IsThere t → DoesIn t steps
    pub bound : IsThere t → IsBounded (trace t) (p.steps t) steps
    pub idle : 0 < t → is_log.world.ended t ≡ false → is_drawn m p t ≡ false → steps ≡ 0

  negated : (b : Bool) → not b ≡ true → b ≡ false
  negated true h = cc
  negated false h = refl

  pub no_entries : (t : ℕ) → p.steps t ≡ 0 → part_of t log ≡ []
  no_entries t none = (subst (λ n. Does (move image) n (p.starts t) (part_of t log) (p.ends t)) none (is_log.done.does t)).0

  pub no_trap : (t : ℕ) → 0 < t → is_drawn m p t ≡ false → trap t ≡ None
  no_trap zero later none = absurd (omega (arith, later))
  no_trap (suc t) later none = rw none refl

  idle_found : (t : ℕ) → IsThere t → 0 < t → is_log.world.ended t ≡ false → is_drawn m p t ≡ false → (steps : ℕ) → DoesIn t steps → Found t
  idle_found t less later lives none steps does =
      let did : p.steps t ≡ 0 = undrawn image memory m log p is_log t later (there t less) lives none in
      let nothing : trace t ≡ [] = ap (λ part. actions_of part ++ trap_action (trap t)) (no_entries t did) ∙ ap trap_action (no_trap t later none) in
      record {
        steps = 0;
        does = λ h. subst (λ acts. traces_in program t (start_of log t) (replies_of (part_of t log)) acts 0) (sym nothing) (not_begun program t (start_of log t) (replies_of (part_of t log)) (trace t) steps does);
        bound = λ h. record { under_way = omega (arith, did); ended = λ ends. omega (arith, did) };
        idle = λ a b c. refl;
      }

  there_found : (t : ℕ) → IsThere t → Found t
  there_found t less =
      let code : traces_of image (start_of log t) (replies_of (part_of t log)) (trace t) (p.steps t) =
      all_do_their_parts image memory log p is_log.done trap (stand_at_traps image m p (after_log image (opening_world image memory) log).threads) t (subst (λ n. t < n) agree.threads less) in
      let r : (steps : ℕ) × DoesIn t steps × IsBounded (trace t) (p.steps t) steps = bounded t (start_of log t) (replies_of (part_of t log)) (trace t) (p.steps t) (λ zero_t. ap (start_of log) zero_t ∙ (are_starts log).serial) code in
      by_idle r (is_idle t) refl
    where
      by_idle : (r : (steps : ℕ) × DoesIn t steps × IsBounded (trace t) (p.steps t) steps) → (b : Bool) → is_idle t ≡ b → Found t
      by_idle r true e =
          let first : (nat_lt 0 t ≡ true) × ((not (is_log.world.ended t) && not (is_drawn m p t)) ≡ true) = both_true (nat_lt 0 t) (not (is_log.world.ended t) && not (is_drawn m p t)) e in
          let second : (not (is_log.world.ended t) ≡ true) × (not (is_drawn m p t) ≡ true) = both_true (not (is_log.world.ended t)) (not (is_drawn m p t)) first.1 in
          idle_found t less (grind (arith, nat_tests, first.0)) (negated (is_log.world.ended t) second.0) (negated (is_drawn m p t) second.1) r.0 r.1
      by_idle r false e =
          record {
            steps = r.0;
            does = λ h. r.1;
            bound = λ h. r.2;
            idle = λ later lives none.
                let first : nat_lt 0 t ≡ true = grind (arith, later) in
                let idle : is_idle t ≡ true = rw (first, lives, none) refl in
                let never : true ≡ false = sym idle ∙ e in
                cc;
          }

  found_of : (t : ℕ) → (b : Bool) → nat_lt t (world_of program memory log).threads ≡ b → Found t
  found_of t true e = there_found t (grind (arith, nat_tests, e))
  found_of t false e =
      let never : IsThere t → ⊥ = λ h. grind (arith, nat_tests, e, h) in
      record { steps = 0; does = λ h. absurd (never h); bound = λ h. absurd (never h); idle = λ a b c. refl }

  found : (t : ℕ) → Found t
  found t = found_of t (nat_lt t (world_of program memory log).threads) refl

  pub record SourceSteps : Type 0 where
    pub steps : ℕ → ℕ
    pub parts : DoTheirParts program memory log trap steps
    pub serial : p.steps 0 ≤ 64 * (steps 0 + 1)
    pub bound : (t : ℕ) → 0 < t → IsThere t → IsBounded (trace t) (p.steps t) (steps t)
    pub idle : (t : ℕ) → 0 < t → is_log.world.ended t ≡ false → is_drawn m p t ≡ false → steps t ≡ 0

  -- where the serial code waits, its last instruction was its spawn, and its last step in the source is that too
  waiting_bound : is_spawned m.units ≡ true → (steps : ℕ → ℕ) → DoTheirParts program memory log trap steps → p.steps 0 ≤ 64 * (steps 0 + 1)
  waiting_bound spawned steps parts =
      let master : (u : Unit) × (slice_get m.units 0 ≡ Some u) × (u.waits ≡ true) = master_of m.units spawned in
      elim (prompt_step (move image) (p.steps 0) (p.starts 0) (part_of 0 log) (p.ends 0) (is_log.done.does 0) (is_log.waits master.0 master.1 master.2).1) [
        | inl none ↦ omega (arith, none)
        | inr r ↦ by_front r.0 r.1 r.2
      ]
    where
      plain : ArePlain (part_of 0 log)
      plain = parts_plain 0 log (source.opening_world program memory) lawful

      by_front : (k : ℕ) → p.steps 0 ≡ suc k → Before (move image) k (p.starts 0) (part_of 0 log) → p.steps 0 ≤ 64 * (steps 0 + 1)
      by_front k is b =
          let code : traces_of image Main (replies_of b.front) (actions_of b.front) k =
          record { actor = p.starts 0; begins = is_log.done.serial; part = b.front; end = b.at; does = b.does; told = ([], sym (append-nil (replies_of b.front))); is_trace = inl refl } in
          let r : (steps : ℕ) × traces_in program 0 Main (replies_of b.front) (actions_of b.front) steps × IsBounded (actions_of b.front) k steps = bounded 0 Main (replies_of b.front) (actions_of b.front) k (λ h. refl) code in
          let first : ByItself program 0 Main b.front None r.0 =
          by_itself program 0 Main b.front None r.0 (plain_front b.front (b.last ∷ []) (subst (λ part. ArePlain part) b.is_part plain)) (subst (λ acts. traces_in program 0 Main (replies_of b.front) acts r.0) (sym (append-nil (actions_of b.front))) r.1) in
          let all : ByItself program 0 (start_of log 0) (part_of 0 log) (trap 0) (steps 0) = by_itself program 0 (start_of log 0) (part_of 0 log) (trap 0) (steps 0) plain (parts.traces 0 (some_threads_of program memory log)) in
          by_steps r.0 r.2.under_way (sooner (thread.move program 0) r.0 (steps 0) first.from first.to all.to b.front b.last first.does (whole first all))
        where
          by_steps : (n : ℕ) → k ≤ 64 * (n + 1) → n < steps 0 → p.steps 0 ≤ 64 * (steps 0 + 1)
          by_steps n small less = omega (arith, is, small, less)

          whole : {n : ℕ} (first : ByItself program 0 Main b.front None n) (all : ByItself program 0 (start_of log 0) (part_of 0 log) (trap 0) (steps 0)) → Does (thread.move program 0) (steps 0) first.from (b.front ++ (b.last ∷ [])) all.to
          whole first all =
              let same : all.from ≡ first.from = subst (λ begin. Begins program 0 begin all.from) (are_starts log).serial all.begins ∙ sym first.begins in
              subst (λ a. Does (thread.move program 0) (steps 0) a (b.front ++ (b.last ∷ [])) all.to) same (subst (λ part. Does (thread.move program 0) (steps 0) all.from part all.to) b.is_part all.does)

  -- what holds of all steps holds of those of virtual threads, with others for the serial code
  of_virtual : (P : ℕ → ℕ → Type 0) (serial : ℕ) (steps : ℕ → ℕ) (t : ℕ) → 0 < t → P t (steps t) → P t (with_serial serial steps t)
  of_virtual P serial steps zero later h = absurd (omega (arith, later))
  of_virtual P serial steps (suc t) later h = h

  abbrev steps_of : ℕ → ℕ
  steps_of t = (found t).steps

  pub source_steps : SourceSteps
  source_steps = by_spawned (is_spawned m.units) refl
    where
      by_spawned : (b : Bool) → is_spawned m.units ≡ b → SourceSteps
      by_spawned true spawned =
          let none : trap 0 ≡ None = rw spawned refl in
          let r : (serial : ℕ) × (serial ≤ steps_of 0) × DoTheirParts program memory log trap (with_serial serial steps_of) × ((serial ≡ steps_of 0) ⊎ (trap 0 ≡ None)) =
          first_steps program memory log trap steps_of lawful (λ t less. (found t).does less) (inr none) in
          record {
            steps = with_serial r.0 steps_of;
            parts = r.2;
            serial = waiting_bound spawned (with_serial r.0 steps_of) r.2;
            bound = λ t later less. of_virtual (λ t n. IsBounded (trace t) (p.steps t) n) r.0 steps_of t later ((found t).bound less);
            idle = λ t later lives none. of_virtual (λ t n. n ≡ 0) r.0 steps_of t later ((found t).idle later lives none);
          }
      by_spawned false serial =
          record {
            steps = steps_of;
            parts = record {
              lawful = lawful;
              traces = λ t less. (found t).does less;
              waits = inl (λ t later less. ended_same t ∙ is_log.serial serial t later (there t less));
            };
            serial = ((found 0).bound (some_threads_of program memory log)).under_way;
            bound = λ t later less. (found t).bound less;
            idle = λ t later lives none. (found t).idle later lives none;
          }
