-- Where a unit stands at a trap, a thread of the source does.
use Rattle.std.proofs.Common.{◌≡◌, refl, sym, ◌∙◌, ap, subst, ℕ, suc, zero, ◌<◌, Bool, true, false, List, [], ◌∷◌, length, Option, Some, slice_get, slice_index, arith}
use Rattle.std.specs.List.{Contains}
use Rattle.std.specs.Option.{option_and_then}
use Rattle.xmt_base.specs.declared.values.TrapKind.{TrapKind}
use Rattle.xmt_base.specs.declared.values.Trap.{Trap}
use Rattle.xmt_base.specs.Action.{Action, Block}
use Rattle.interleaving.specs.Starts.{start_of}
use Rattle.source_meaning.specs.declared.tree.Program.{Program}
use Rattle.source_meaning.specs.Run.{Thread, traps, trap_of, trap_of_thread}
use Rattle.source_log.specs.FromLog.{IsNumbered, IsScheduleOf}
use Rattle.source_log.specs.Log.{world_of}
use Rattle.xmt_isa.specs.declared.image.Image.{Image}
use Rattle.xmt_isa.specs.declared.unit.Unit.{Unit}
use Rattle.xmt_isa.specs.declared.unit.UnitState.TheVariants.{Runs}
use Rattle.xmt_isa.specs.declared.unit.Next.TheVariants as next
use Rattle.xmt_isa.specs.Machine.{Machine, resumes}
use Rattle.xmt_isa.specs.Picked.{is_active, is_spawned}
use Rattle.xmt_isa.specs.Step.{next_of}
use Rattle.xmt_isa.specs.Threads.{Actor}
use Rattle.xmt_isa.specs.Traces.{BeginsFrom}
use Rattle.machine_log.specs.Log as machine
use Rattle.machine_log.specs.Log.{Log, opening_world, after_log}
use Rattle.machine_log.specs.Done.{Parts}
use Rattle.machine_log.proofs.Tracing.{begins_from}
use Rattle.machine_places.proofs.Lists.{some_same}
use Rattle.machine_runs.specs.Runs.{IsLogOf}
use Rattle.machine_runs.proofs.Runs.{trap_runs}
use Rattle.run_law.specs.Cells.{WorldsAgree}
use Rattle.xmt_compile.specs.Implements.{reached}
use Rattle.xmt_compile.proofs.Drawn.{is_drawn, is_drawn_of, trap_here, trap_here_of, trap_at, lives_spawned}
use Rattle.xmt_compile.proofs.Ended.{IsBlock, begins_block}
use Rattle.xmt_compile.proofs.Lists.{contains_of}

abbrev Printed : TrapKind → (line : ℕ) → Option ℕ → Trap
Printed kind line thread = record { kind = kind; line = line; thread = thread }

first_waits : (units : List Unit) (u : Unit) → slice_get units 0 ≡ Some u → u.waits ≡ is_spawned units
first_waits [] u at = cc
first_waits (master ∷ rest) u at = ap (λ (x : Unit). x.waits) (sym (some_same master u at))

module _ (program : Program) (image : Image) (memory : List ℕ) (m : Machine) (log : Log) (p : Parts) (is_log : IsLogOf image memory m log p)
    (agree : WorldsAgree image (after_log image (opening_world image memory) log) (world_of program memory log))
    (steps : ℕ → ℕ) (schedule : List ℕ) (is_schedule : IsScheduleOf program memory log (trap_at image m p) steps schedule) where
  in_log : (t : ℕ) → t < is_log.world.threads → t < (after_log image (opening_world image memory) log).threads
  in_log t less = subst (λ (w : machine.World). t < w.threads) (sym is_log.is_world) less

  in_source : (t : ℕ) → t < is_log.world.threads → t < (world_of program memory log).threads
  in_source t less = subst (λ n. t < n) (sym agree.threads) (in_log t less)

  -- the thread number of an actor is that of the source's thread
  numbered : (t : ℕ) → t < is_log.world.threads → (number : Option ℕ) → IsNumbered t (start_of log t) number → (p.starts t).unit.thread ≡ number
  numbered zero less number is = ap (λ (a : Actor). a.unit.thread) is_log.done.serial ∙ sym is
  numbered (suc t) less number is =
      let block : IsBlock (start_of log (suc t)) = begins_block image log (opening_world image memory) (suc t) refl (omega arith) (in_log (suc t) less) in
      let begins : BeginsFrom image (Block block.0 block.1 block.2) (p.starts (suc t)) = subst (λ begin. BeginsFrom image begin (p.starts (suc t))) block.3 (begins_from image memory log p is_log.done (suc t) (in_log (suc t) less)) in
      of_block block.2 begins (subst (λ begin. IsNumbered (suc t) begin number) block.3 is)
    where
      of_block : {before : List Action} {replies : List ℕ} (here : ℕ) → BeginsFrom image (Block before replies here) (p.starts (suc t)) → number ≡ Some here → (p.starts (suc t)).unit.thread ≡ number
      of_block here begins same = ap (λ (a : Actor). a.unit.thread) begins.9.3 ∙ ap Some (sym begins.8) ∙ sym same

  stands : (t : ℕ) (kind : TrapKind) (line : ℕ) (number : Option ℕ) → t < is_log.world.threads → trap_at image m p t ≡ Some (kind, line) → number ≡ (p.starts t).unit.thread → Contains (traps program (reached program memory schedule)) (Printed kind line number)
  stands t kind line number less is_trap is_number =
      let found : (thread : Thread) × (slice_get (reached program memory schedule).threads t ≡ Some thread) × (trap_of_thread program t thread ≡ Some (Printed kind line thread.outermost)) × IsNumbered t (start_of log t) thread.outermost = is_schedule.traps t kind line (in_source t less) is_trap in
      let same : found.0.outermost ≡ number = sym (numbered t less found.0.outermost found.3) ∙ sym is_number in
      let stood : trap_of program (reached program memory schedule) t ≡ Some (Printed kind line number) = ap (option_and_then (trap_of_thread program t)) found.1 ∙ found.2 ∙ ap (λ o. Some (Printed kind line o)) same in
      contains_of (trap_of program (reached program memory schedule)) (Printed kind line number) (length (reached program memory schedule).threads) 0 t (omega arith)
      (let inside : t < (world_of program memory log).threads = in_source t less in let count : length (reached program memory schedule).threads ≡ (world_of program memory log).threads = is_schedule.count in omega (arith, inside, count)) stood

  pub stand_at_traps : (k : ℕ) (u : Unit) (kind : TrapKind) → slice_get m.units k ≡ Some u → is_active (is_spawned m.units) u ≡ true → next_of image m.start u ≡ next.Trap kind →
      Contains (traps program (reached program memory schedule)) (record { kind = kind; line = slice_index image.lines u.at; thread = u.thread })
  stand_at_traps k u kind at active is = by_unit k at
    where
      runs : u.state ≡ Runs
      runs = trap_runs image m.start u kind (is_spawned m.units) active is

      trap_of_unit : (a : Actor) → a ≡ record { start = m.start; unit = u } → trap_here image a ≡ Some (kind, slice_index image.lines u.at)
      trap_of_unit a same = ap (trap_here image) same ∙ trap_here_of image (record { start = m.start; unit = u }) kind runs is

      number_of : (t : ℕ) → p.ends t ≡ record { start = m.start; unit = u } → u.thread ≡ (p.starts t).unit.thread
      number_of t same = ap (λ (a : Actor). a.unit.thread) (sym same) ∙ is_log.thread t (ap (λ (a : Actor). a.unit.state) same ∙ runs)

      -- the master is active only where it does not wait
      goes_on : p.ends 0 ≡ record { start = m.start; unit = u } → slice_get m.units 0 ≡ Some u → is_spawned m.units ≡ false
      goes_on same first = by_test (is_spawned m.units) refl
        where
          by_test : (b : Bool) → is_spawned m.units ≡ b → b ≡ false
          by_test true e =
              let waits : u.waits ≡ true = first_waits m.units u first ∙ e in
              let back : ◌≡◌ {A = Actor} (record { start = m.start; unit = resumes image m.start u }) (record { start = m.start; unit = u }) = sym (is_log.waits u first waits).0 ∙ same in
              let never : false ≡ true = ap (λ (a : Actor). a.unit.waits) back ∙ waits in
              cc
          by_test false e = refl

      by_unit : (k : ℕ) → slice_get m.units k ≡ Some u → Contains (traps program (reached program memory schedule)) (Printed kind (slice_index image.lines u.at) u.thread)
      by_unit zero first =
          let a = is_log.active 0 u first active runs in
          let serial : a.0 ≡ 0 = a.4.0 refl in
          let same : p.ends 0 ≡ record { start = m.start; unit = u } = ap p.ends (sym serial) ∙ a.3 in
          let free : is_spawned m.units ≡ false = goes_on same first in
          let trapped : trap_at image m p 0 ≡ Some (kind, slice_index image.lines u.at) = rw free (trap_of_unit (p.ends 0) same) in
          stands 0 kind (slice_index image.lines u.at) u.thread (subst (λ t. t < is_log.world.threads) serial a.1) trapped (number_of 0 same)
      by_unit (suc place) other =
          let a = is_log.active (suc place) u other active runs in
          by_actor a.0 (later a.0 a.4.1) a.1 a.2
        where
          later : (actor : ℕ) → (actor ≡ 0 → suc place ≡ 0) → 0 < actor
          later zero h = absurd (let never : suc place ≡ 0 = h refl in omega (arith, never))
          later (suc t) h = omega arith

          runner : (t : ℕ) → p.runner place ≡ t → 0 < t → t < is_log.world.threads → p.ends t ≡ record { start = m.start; unit = u } → is_spawned m.units ≡ true → Contains (traps program (reached program memory schedule)) (Printed kind (slice_index image.lines u.at) u.thread)
          runner zero is_runner first less same spawned = absurd (omega (arith, first))
          runner (suc t) is_runner first less same spawned =
              let drawn : is_drawn m p (suc t) ≡ true = is_drawn_of m p (suc t) (record { spawned = spawned; place = place; unit = u; at = other; runs = runs; is_runner = is_runner }) in
              let trapped : trap_at image m p (suc t) ≡ Some (kind, slice_index image.lines u.at) = rw drawn (trap_of_unit (p.ends (suc t)) same) in
              stands (suc t) kind (slice_index image.lines u.at) u.thread less trapped (number_of (suc t) same)

          by_actor : (actor : ℕ) → 0 < actor → actor < is_log.world.threads → is_log.world.ended actor ≡ false → Contains (traps program (reached program memory schedule)) (Printed kind (slice_index image.lines u.at) u.thread)
          by_actor actor first less lives =
              let spawned : is_spawned m.units ≡ true = lives_spawned image memory m log p is_log actor first less lives in
              let r = is_log.runs spawned place u other runs in
              runner (p.runner place) refl r.0 r.1 r.3 spawned
