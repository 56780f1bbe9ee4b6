-- What a log tells of a machine.
use Rattle.std.proofs.Common.{◌≡◌, refl, sym, ◌∙◌, ap, subst, ℕ, suc, zero, ◌+◌, ◌-◌, ◌<◌, ◌≤◌, ◌==◌, not, ◌&&◌, nat_lt, Bool, true, false, if◌then◌else◌, List, [], ◌∷◌, map, length, slice_set, slice_index, Option, Some, None, slice_get, arith, ◌⊎◌, inl, inr, ◌↔◌}
use Rattle.std.proofs.lemmas.Bool.Decides.{nat_tests}
use Rattle.std.specs.Option.{IsSomeAnd}
use Rattle.std.specs.Prelude.{⊤}
use Rattle.xmt_isa.specs.declared.image.Image.{Image}
use Rattle.xmt_isa.specs.declared.unit.Start.{Start}
use Rattle.xmt_isa.specs.declared.unit.Unit.{Unit}
use Rattle.xmt_isa.specs.declared.unit.UnitState.{UnitState}
use Rattle.xmt_isa.specs.declared.unit.UnitState.TheVariants.{Draws, Runs, Stopped, Halted}
use Rattle.xmt_isa.specs.declared.unit.Request.{Request}
use Rattle.xmt_isa.specs.declared.unit.Next.{Next}
use Rattle.xmt_isa.specs.Step.{next_of, local_of, answer_of}
use Rattle.std.specs.List.{list_all}
use Rattle.std.proofs.lemmas.List.{length-set, length-map}
use Rattle.xmt_isa.specs.Machine.{Machine, turn, turn_of, moves, serves, joins, ready, resumes, waits_for, is_stopped, after}
use Rattle.xmt_isa.specs.Opening.{opening}
use Rattle.xmt_isa.specs.Picked.{is_live, is_active, is_spawned}
use Rattle.xmt_base.specs.Action.{Action}
use Rattle.interleaving.specs.Actors.{Move, Rests, Alone, Acts, part_of, DoesThen, Does, IsPrompt, turns_of}
use Rattle.machine_log.specs.Log.{Log, World, AllEnded}
use Rattle.xmt_isa.specs.Threads.{Actor, move, move_by, move_alone, is_running, answered}
use Rattle.xmt_base.specs.declared.values.TrapKind.{TrapKind}
use Rattle.machine_places.proofs.Fits.{keeps_apart}
use Rattle.machine_log.specs.Done.{Parts, LowerEnded, owned}
use Rattle.machine_log.proofs.Sections.{section_lower, run_by_one}
use Rattle.machine_log.proofs.Follows.{Tallies, StandsBy, Stands, IsSerial, IsWaiting, Follows}
use Rattle.xmt_isa.specs.Traces.{IsAtTrap}
use Rattle.machine_runs.specs.Runs.{IsLogOf, RunsHaveLogs}
use Rattle.machine_places.proofs.Lists.{active_unit, some_same}
use Rattle.machine_places.proofs.Units.{local_of-kept, answer_of-kept, next_of-draws}
use Rattle.machine_runs.proofs.Opens.{control_units-length, no_parts, no_tallies, opening_follows, opening_steps}
use Rattle.machine_runs.proofs.Sums.{after_steps}
use Rattle.xmt_base.specs.Counters.{capped}
use Rattle.machine_log.proofs.Standing.{never_true}
use Rattle.machine_runs.proofs.Turns.{after_follows, master_active, unit_active}
use Rattle.xmt_isa.specs.declared.unit.Request.TheVariants as request
use Rattle.xmt_isa.specs.declared.unit.Next.TheVariants as next

-- ---- the thread number of an actor

abbrev KeepsThread : Actor → Move Actor Action → Type 0
KeepsThread a Rests = ⊤
KeepsThread a (Alone s) = s.unit.thread ≡ a.unit.thread
KeepsThread a (Acts action left) = (reply : ℕ) → ((left reply).unit.thread ≡ a.unit.thread) ⊎ ((left reply).unit.state ≡ Stopped)

module _ (image : Image) where
  alone_keeps : (a : Actor) (b : Bool) → KeepsThread a (move_alone image a b)
  alone_keeps a true = (local_of-kept image a.start a.unit).same.thread
  alone_keeps a false = λ reply. inl (local_of-kept image a.start a.unit).same.thread

  ask_keeps : (a : Actor) (ask : Request) → a.unit.state ≡ Runs → next_of image a.start a.unit ≡ next.Ask ask → (reply : ℕ) → ((answered image a ask reply).unit.thread ≡ a.unit.thread) ⊎ ((answered image a ask reply).unit.state ≡ Stopped)
  ask_keeps a (request.Load at) runs is reply = inl (answer_of-kept image a.start a.unit (request.Load at) reply runs is refl).same.thread
  ask_keeps a (request.Store at value) runs is reply = inl (answer_of-kept image a.start a.unit (request.Store at value) reply runs is refl).same.thread
  ask_keeps a (request.Add at value) runs is reply = inl (answer_of-kept image a.start a.unit (request.Add at value) reply runs is refl).same.thread
  ask_keeps a (request.Print text) runs is reply = inl (answer_of-kept image a.start a.unit (request.Print text) reply runs is refl).same.thread
  ask_keeps a (request.Spawn ask) runs is reply = inl refl
  ask_keeps a request.Draw runs is reply = inr refl

  next_keeps : (a : Actor) (n : Next) → a.unit.state ≡ Runs → next_of image a.start a.unit ≡ n → KeepsThread a (move_by image a n)
  next_keeps a next.Local runs is = alone_keeps a (is_live (local_of image a.start a.unit).state)
  next_keeps a (next.Trap kind) runs is = tt
  next_keeps a (next.Ask ask) runs is = ask_keeps a ask runs is

  state_keeps : (a : Actor) (state : UnitState) → a.unit.state ≡ state → KeepsThread a (if is_running state then move_by image a (next_of image a.start a.unit) else Rests)
  state_keeps a Draws is = tt
  state_keeps a Runs is = next_keeps a (next_of image a.start a.unit) is refl
  state_keeps a Stopped is = tt
  state_keeps a Halted is = tt

  stays : (n : ℕ) (a b : Actor) (part : Log) → a.unit.state ≡ Stopped → Does (move image) n a part b → b.unit.state ≡ Stopped
  stays zero a b part stopped does = ap (λ (x : Actor). x.unit.state) does.1 ∙ stopped
  stays (suc n) a b part stopped does =
      let rests : move image a ≡ Rests = stopped_rests a.unit.state (move_by image a (next_of image a.start a.unit)) stopped in
      absurd (subst (λ m. DoesThen (Does (move image) n) m part b) rests does)
    where
      stopped_rests : (state : UnitState) (x : Move Actor Action) → state ≡ Stopped → (if is_running state then x else Rests) ≡ Rests
      stopped_rests state x h = rw h refl

  thread_kept : (n : ℕ) (a b : Actor) (part : Log) → Does (move image) n a part b → (b.unit.thread ≡ a.unit.thread) ⊎ (b.unit.state ≡ Stopped)
  thread_kept zero a b part does = inl (ap (λ (x : Actor). x.unit.thread) does.1)
  thread_kept (suc n) a b part does = by_move (λ s p h. thread_kept n s b p h) (move image a) part (state_keeps a a.unit.state refl) does
    where
      joined : (s : Actor) → s.unit.thread ≡ a.unit.thread → (b.unit.thread ≡ s.unit.thread) ⊎ (b.unit.state ≡ Stopped) → (b.unit.thread ≡ a.unit.thread) ⊎ (b.unit.state ≡ Stopped)
      joined s same (inl h) = inl (h ∙ same)
      joined s same (inr h) = inr h

      by_move : ((s : Actor) (p : Log) → Does (move image) n s p b → (b.unit.thread ≡ s.unit.thread) ⊎ (b.unit.state ≡ Stopped)) → (m : Move Actor Action) (part : Log) → KeepsThread a m → DoesThen (Does (move image) n) m part b → (b.unit.thread ≡ a.unit.thread) ⊎ (b.unit.state ≡ Stopped)
      by_move go_on Rests part keeps h = absurd h
      by_move go_on (Alone s) part keeps h = joined s keeps (go_on s part h)
      by_move go_on (Acts action left) [] keeps h = absurd h
      by_move go_on (Acts action left) (e ∷ part) keeps h = elim (keeps e.reply) [ inl same ↦ joined (left e.reply) same (go_on (left e.reply) part h.1) | inr stopped ↦ inr (stays n (left e.reply) b part stopped h.1) ]

-- ---- what the units of a machine are

at_zero : (state : UnitState) → (state ≡ Runs) → state ≡ Halted → ⊥
at_zero state runs halted = let never : Runs ≡ Halted = sym runs ∙ halted in cc

active_master : (number : ℕ) (waits live : Bool) → number ≡ 0 → waits ≡ false → live ≡ true → (live && (if number == 0 then not waits else waits)) ≡ true
active_master number waits live is off lives = let first : (number == 0) ≡ true = grind (arith, is) in rw (first, off, lives) refl

not_all : {X : Type 0} (test : X → Bool) (xs : List X) → list_all test xs ≡ false → (i : ℕ) × (x : X) × (slice_get xs i ≡ Some x) × (test x ≡ false)
not_all test [] h = cc
not_all {X} test (x ∷ xs) h = by_test (test x) refl h (λ g. not_all test xs g)
  where
    by_test : (b : Bool) → test x ≡ b → (b && list_all test xs) ≡ false → (list_all test xs ≡ false → (i : ℕ) × (y : X) × (slice_get xs i ≡ Some y) × (test y ≡ false)) → (i : ℕ) × (y : X) × (slice_get (x ∷ xs) i ≡ Some y) × (test y ≡ false)
    by_test true e h go = let r = go h in (suc r.0, r.1, r.2, r.3)
    by_test false e h go = (0, x, refl, e)

-- a fact of a list of units whose first is known
of_units : (units : List Unit) (master : Unit) (rest : List Unit) (P : List Unit → Type 0) → units ≡ master ∷ rest → P (master ∷ rest) → P units
of_units units master rest P same h = subst P (sym same) h

module _ (image : Image) (master : Unit) (rest : List Unit) (drawn : ℕ) (start : Start) (threads : ℕ) (ended : ℕ → Bool) (p : Parts) (st : Stands image master rest drawn start threads ended p) where
  abbrev Active : (k : ℕ) → Unit → Type 0
  Active k u = (actor : ℕ) × (actor < threads) × (ended actor ≡ false) × (p.ends actor ≡ record { start = start; unit = u }) × ((k ≡ 0) ↔ (actor ≡ 0))

  active_here : (k : ℕ) (u : Unit) → slice_get (master ∷ rest) k ≡ Some u → is_active master.waits u ≡ true → u.state ≡ Runs → Active k u
  active_here zero u at active runs = by_phase st.phase
    where
      same : master ≡ u
      same = some_same master u at

      by_phase : IsSerial master start threads ended p ⊎ IsWaiting image master rest drawn start threads ended p → Active 0 u
      by_phase (inl serial) = by_live serial.live
        where
          by_live : ((master.state ≡ Runs) × (ended 0 ≡ false)) ⊎ ((master.state ≡ Halted) × (ended 0 ≡ true)) → Active 0 u
          by_live (inl h) = (0, st.there, h.1, subst (λ x. p.ends 0 ≡ record { start = start; unit = x }) same serial.stands, ((λ e. refl), (λ e. refl)))
          by_live (inr h) = absurd (at_zero master.state (ap (λ (x : Unit). x.state) same ∙ runs) h.0)
      by_phase (inr waiting) =
          let goes_on : master.waits ≡ false = master_active u.number master.waits (is_live u.state) (sym (ap (λ (x : Unit). x.number) same) ∙ st.master_number) active in
          never_true (sym waiting.waits ∙ goes_on)
  active_here (suc place) u at active runs =
      let found : (master.waits ≡ true) × (is_live u.state ≡ true) = unit_active u.number place master.waits (is_live u.state) (st.numbers place u at) active in
      by_phase found.0 st.phase
    where
      by_phase : master.waits ≡ true → IsSerial master start threads ended p ⊎ IsWaiting image master rest drawn start threads ended p → Active (suc place) u
      by_phase waits (inl serial) = never_true (sym waits ∙ serial.goes)
      by_phase waits (inr waiting) =
          let h : StandsBy start drawn waiting.first ended p place u Runs = subst (λ state. StandsBy start drawn waiting.first ended p place u state) runs (waiting.section.units place u at) in
          let positive : 0 < waiting.first = waiting.section.positive in
          let all : waiting.first + start.count ≡ threads = waiting.section.all in
          let within : h.0 < start.count = h.2 in
          (waiting.first + h.0, omega (arith, all, within), h.5, h.6, ((λ e. absurd (omega (arith, e))), (λ e. absurd (omega (arith, e, positive)))))

  work_here : (actor : ℕ) → 0 < actor → actor < threads → ended actor ≡ false → (p.steps actor ≡ 0) ⊎ ((u : Unit) × (slice_get rest (p.owner actor) ≡ Some u) × (u.state ≡ Runs) × (p.ends actor ≡ record { start = start; unit = u }) × (p.runner (p.owner actor) ≡ actor))
  work_here actor later less live = by_phase st.phase
    where
      by_phase : IsSerial master start threads ended p ⊎ IsWaiting image master rest drawn start threads ended p → (p.steps actor ≡ 0) ⊎ ((u : Unit) × (slice_get rest (p.owner actor) ≡ Some u) × (u.state ≡ Runs) × (p.ends actor ≡ record { start = start; unit = u }) × (p.runner (p.owner actor) ≡ actor))
      by_phase (inl serial) = never_true (sym (serial.all_ended actor later less) ∙ live)
      by_phase (inr waiting) = by_first (nat_lt actor waiting.first) refl
        where
          by_first : (b : Bool) → nat_lt actor waiting.first ≡ b → (p.steps actor ≡ 0) ⊎ ((u : Unit) × (slice_get rest (p.owner actor) ≡ Some u) × (u.state ≡ Runs) × (p.ends actor ≡ record { start = start; unit = u }) × (p.runner (p.owner actor) ≡ actor))
          by_first true e = never_true (sym (waiting.section.earlier actor later (grind (arith, nat_tests, e))) ∙ live)
          by_first false e = by_number (actor - waiting.first) (let above : waiting.first ≤ actor = grind (arith, nat_tests, e) in omega (arith, above))
            where
              by_number : (k : ℕ) → waiting.first + k ≡ actor → (p.steps actor ≡ 0) ⊎ ((u : Unit) × (slice_get rest (p.owner actor) ≡ Some u) × (u.state ≡ Runs) × (p.ends actor ≡ record { start = start; unit = u }) × (p.runner (p.owner actor) ≡ actor))
              by_number k is = by_drawn (nat_lt k drawn) refl
                where
                  within : k < start.count
                  within = let all : waiting.first + start.count ≡ threads = waiting.section.all in omega (arith, all, is, less)

                  by_drawn : (b : Bool) → nat_lt k drawn ≡ b → (p.steps actor ≡ 0) ⊎ ((u : Unit) × (slice_get rest (p.owner actor) ≡ Some u) × (u.state ≡ Runs) × (p.ends actor ≡ record { start = start; unit = u }) × (p.runner (p.owner actor) ≡ actor))
                  by_drawn false e = inl (ap p.steps (sym is) ∙ (waiting.section.undrawn k (grind (arith, nat_tests, e)) within).0)
                  by_drawn true e = elim (waiting.section.begun k (grind (arith, nat_tests, e)) within) [
                    | inl h ↦ never_true (sym h ∙ ap ended is ∙ live)
                    | inr r ↦
                        let h : StandsBy start drawn waiting.first ended p (p.owner (waiting.first + k)) r.0 Runs =
                        subst (λ state. StandsBy start drawn waiting.first ended p (p.owner (waiting.first + k)) r.0 state) r.2 (waiting.section.units (p.owner (waiting.first + k)) r.0 r.1) in
                        let same : waiting.first + h.0 ≡ actor = sym h.3 ∙ r.3 ∙ is in
                        inr (r.0, ap (λ t. slice_get rest (p.owner t)) (sym is) ∙ r.1, r.2, ap p.ends (sym same) ∙ h.6, ap (λ t. p.runner (p.owner t)) (sym is) ∙ r.3 ∙ is)
                  ]

  over_here : 2 ≤ length (master ∷ rest) → ((k : ℕ) (u : Unit) → slice_get (master ∷ rest) k ≡ Some u → is_active master.waits u ≡ false) → master.state ≡ Halted
  over_here some none = by_phase st.phase
    where
      by_live : IsSerial master start threads ended p → ((master.state ≡ Runs) × (ended 0 ≡ false)) ⊎ ((master.state ≡ Halted) × (ended 0 ≡ true)) → master.state ≡ Halted
      by_live serial (inl h) = never_true (sym (active_master master.number master.waits (is_live master.state) st.master_number serial.goes (ap is_live h.0)) ∙ none 0 master refl)
      by_live serial (inr h) = h.0

      by_unit : (waiting : IsWaiting image master rest drawn start threads ended p) (place : ℕ) (u : Unit) → slice_get rest place ≡ Some u → is_stopped u.state ≡ false → (state : UnitState) → u.state ≡ state → StandsBy start drawn waiting.first ended p place u state → master.state ≡ Halted
      by_unit waiting place u at going Draws is stands = never_true (sym (active_unit u.number place master.waits (is_live u.state) (st.numbers place u at) waiting.waits (ap is_live is)) ∙ none (suc place) u at)
      by_unit waiting place u at going Runs is stands = never_true (sym (active_unit u.number place master.waits (is_live u.state) (st.numbers place u at) waiting.waits (ap is_live is)) ∙ none (suc place) u at)
      by_unit waiting place u at going Stopped is stands = never_true (sym (ap is_stopped is) ∙ going)
      by_unit waiting place u at going Halted is stands = absurd stands

      by_phase : IsSerial master start threads ended p ⊎ IsWaiting image master rest drawn start threads ended p → master.state ≡ Halted
      by_phase (inl serial) = by_live serial serial.live
      by_phase (inr waiting) =
          let found = not_all (λ (u : Unit). is_stopped u.state) rest (waiting.some (omega (arith, some))) in
          by_unit waiting found.0 found.1 found.2 found.3 found.1.state refl (waiting.section.units found.0 found.1 found.2)

  serial_here : master.waits ≡ false → AllEnded threads ended
  serial_here off = elim st.phase [ inl serial ↦ serial.all_ended | inr waiting ↦ never_true (sym waiting.waits ∙ off) ]

  runs_here : master.waits ≡ true → (place : ℕ) (u : Unit) → slice_get rest place ≡ Some u → u.state ≡ Runs →
      (0 < p.runner place) × (p.runner place < threads) × (ended (p.runner place) ≡ false) × (p.ends (p.runner place) ≡ record { start = start; unit = u })
      × (length (master ∷ rest) ≡ 2 → LowerEnded ended (p.runner place))
  runs_here waits place u at runs = by_phase st.phase
    where
      Runner : Type 0
      Runner =
          (0 < p.runner place) × (p.runner place < threads) × (ended (p.runner place) ≡ false) × (p.ends (p.runner place) ≡ record { start = start; unit = u })
          × (length (master ∷ rest) ≡ 2 → LowerEnded ended (p.runner place))

      by_phase : IsSerial master start threads ended p ⊎ IsWaiting image master rest drawn start threads ended p → Runner
      by_phase (inl serial) = never_true (sym waits ∙ serial.goes)
      by_phase (inr waiting) =
          let h : StandsBy start drawn waiting.first ended p place u Runs = subst (λ state. StandsBy start drawn waiting.first ended p place u state) runs (waiting.section.units place u at) in
          let positive : 0 < waiting.first = waiting.section.positive in
          let all : waiting.first + start.count ≡ threads = waiting.section.all in
          let within : h.0 < start.count = h.2 in
          let below : h.0 < drawn = h.1 in
          let here : p.runner place ≡ waiting.first + h.0 = h.3 in (
            omega (arith, here, positive),
            omega (arith, here, all, within),
            ap ended here ∙ h.5,
            ap p.ends here ∙ h.6,
            λ two. subst (λ t. LowerEnded ended t) (sym here) (lower_of waiting (omega arith) h.0 below within),
          )
        where
          lower_of : (waiting : IsWaiting image master rest drawn start threads ended p) → length rest ≡ 1 → (k : ℕ) → k < drawn → k < start.count → LowerEnded ended (waiting.first + k)
          lower_of waiting one k below inside =
              section_lower image rest drawn start threads ended p waiting.first waiting.section k (omega (arith, below)) (omega (arith, inside))
              (λ j before r.
              let run = run_by_one rest p (waiting.first + j) one r in
              let last : 1 + p.runner 0 ≡ waiting.first + drawn = waiting.section.last one r.0 run.0 r.2 in
              let here : p.runner 0 ≡ waiting.first + j = run.1 in
              omega (arith, last, here, before, below))

  waits_here : master.waits ≡ true → p.ends 0 ≡ record { start = start; unit = resumes image start master }
  waits_here is = elim st.phase [ inl serial ↦ never_true (sym is ∙ serial.goes) | inr waiting ↦ waiting.stands ]

  halted_here : (master.state ≡ Halted) ↔ (ended 0 ≡ true)
  halted_here = by_phase st.phase
    where
      by_phase : IsSerial master start threads ended p ⊎ IsWaiting image master rest drawn start threads ended p → (master.state ≡ Halted) ↔ (ended 0 ≡ true)
      by_phase (inl serial) = elim serial.live [
        | inl h ↦ ((λ halted. absurd (at_zero master.state h.0 halted)), (λ over. never_true (sym over ∙ h.1)))
        | inr h ↦ ((λ halted. h.1), (λ over. h.0))
      ]
      by_phase (inr waiting) = ((λ halted. absurd (at_zero master.state waiting.runs halted)), (λ over. never_true (sym over ∙ waiting.unended)))

  -- with one unit, a thread that has begun comes behind those below it
  lower_here : length rest ≡ 1 → (t : ℕ) → t < threads → LowerEnded ended t ⊎ (p.steps t ≡ 0)
  lower_here one t less = by_phase st.phase
    where
      by_phase : IsSerial master start threads ended p ⊎ IsWaiting image master rest drawn start threads ended p → LowerEnded ended t ⊎ (p.steps t ≡ 0)
      by_phase (inl serial) = inl (λ lower later before. serial.all_ended lower later (omega (arith, before, less)))
      by_phase (inr waiting) = by_first (nat_lt t waiting.first) refl
        where
          by_first : (b : Bool) → nat_lt t waiting.first ≡ b → LowerEnded ended t ⊎ (p.steps t ≡ 0)
          by_first true e = let below : t < waiting.first = grind (arith, nat_tests, e) in inl (λ lower later before. waiting.section.earlier lower later (omega (arith, before, below)))
          by_first false e =
              let above : waiting.first ≤ t = grind (arith, nat_tests, e) in
              let here : waiting.first + (t - waiting.first) ≡ t = omega (arith, above) in
              let all : waiting.first + start.count ≡ threads = waiting.section.all in
              subst (λ t. LowerEnded ended t ⊎ (p.steps t ≡ 0)) here (by_drawn (t - waiting.first) (omega (arith, above, all, less)) (nat_lt (t - waiting.first) drawn) refl)
            where
              by_drawn : (k : ℕ) → k < start.count → (b : Bool) → nat_lt k drawn ≡ b → LowerEnded ended (waiting.first + k) ⊎ (p.steps (waiting.first + k) ≡ 0)
              by_drawn k inside false e = inr (waiting.section.undrawn k (grind (arith, nat_tests, e)) inside).0
              by_drawn k inside true e =
                  let below : k < drawn = grind (arith, nat_tests, e) in
                  inl (section_lower image rest drawn start threads ended p waiting.first waiting.section k (omega (arith, below)) (omega (arith, inside))
                  (λ j before r.
                  let run = run_by_one rest p (waiting.first + j) one r in
                  let last : 1 + p.runner 0 ≡ waiting.first + drawn = waiting.section.last one r.0 run.0 r.2 in
                  let here : p.runner 0 ≡ waiting.first + j = run.1 in
                  omega (arith, last, here, before, below)))

-- a unit at a trap runs
pub trap_runs : (image : Image) (start : Start) (u : Unit) (kind : TrapKind) (spawned : Bool) → is_active spawned u ≡ true → next_of image start u ≡ next.Trap kind → u.state ≡ Runs
trap_runs image start u kind spawned active is = by_state u.state refl (live_of (is_live u.state) (if u.number == 0 then not spawned else spawned) active)
  where
    live_of : (a b : Bool) → (a && b) ≡ true → a ≡ true
    live_of true b h = refl
    live_of false b h = cc

    by_state : (state : UnitState) → u.state ≡ state → is_live state ≡ true → u.state ≡ Runs
    by_state Draws due live = let never : next.Ask request.Draw ≡ next.Trap kind = sym (next_of-draws image start u due) ∙ is in cc
    by_state Runs runs live = runs
    by_state Stopped stopped live = cc
    by_state Halted halted live = cc

trap_at : (image : Image) (start : Start) (u : Unit) (a : Actor) (kind : TrapKind) → a ≡ record { start = start; unit = u } → u.state ≡ Runs → next_of image start u ≡ next.Trap kind → IsAtTrap image a kind (slice_index image.lines u.at)
trap_at image start u a kind same runs is = subst (λ (x : Actor). IsAtTrap image x kind (slice_index image.lines u.at)) (sym same) (record { runs = runs; traps = is; is_line = refl })

pub log_of : (image : Image) (memory : List ℕ) (m : Machine) (log : Log) (p : Parts) (t : Tallies) → Follows image memory m log p t → IsLogOf image memory m log p
log_of image memory m log p t f =
    record {
      traps = λ k u kind at active is.
          let runs : u.state ≡ Runs = trap_runs image m.start u kind (is_spawned m.units) active is in
          let a = active_units k u at active runs in
          let here : p.ends a.0 ≡ record { start = m.start; unit = u } = a.3 in
          let ends_run : (p.ends a.0).unit.state ≡ Runs = ap (λ (x : Actor). x.unit.state) here ∙ runs in
          (a.0, a.1, a.2, trap_at image m.start u (p.ends a.0) kind here runs is, ap (λ (x : Actor). x.unit.thread) here, ap (λ (x : Actor). x.unit.thread) (sym here) ∙ threads a.0 ends_run);
      done = f.done;
      world = f.world;
      is_world = f.is_world;
      words = f.words;
      printed = f.printed;
      to_come = λ actor past. f.stands.fresh actor (omega (arith, past));
      active = active_units;
      waits = of_units m.units f.master f.rest (λ units. (u : Unit) → slice_get units 0 ≡ Some u → u.waits ≡ true →
          (p.ends 0 ≡ record { start = m.start; unit = resumes image m.start u }) × IsPrompt (move image) (p.steps 0) (p.starts 0) (part_of 0 log)) f.units
          (λ u at is. let same : f.master ≡ u = some_same f.master u at in let master_waits : f.master.waits ≡ true = ap (λ (x : Unit). x.waits) same ∙ is in
          (subst (λ x. p.ends 0 ≡ record { start = m.start; unit = resumes image m.start x }) same (waits_here image f.master f.rest m.drawn m.start f.world.threads f.world.ended p f.stands master_waits), f.prompt master_waits));
      at_work = of_units m.units f.master f.rest (λ units. (actor : ℕ) → 0 < actor → actor < f.world.threads → f.world.ended actor ≡ false →
          (p.steps actor ≡ 0) ⊎ ((u : Unit) × (slice_get units (suc (p.owner actor)) ≡ Some u) × (u.state ≡ Runs) × (p.ends actor ≡ record { start = m.start; unit = u }) × (p.runner (p.owner actor) ≡ actor)))
          f.units (work_here image f.master f.rest m.drawn m.start f.world.threads f.world.ended p f.stands);
      serial = of_units m.units f.master f.rest (λ units. is_spawned units ≡ false → AllEnded f.world.threads f.world.ended) f.units
          (serial_here image f.master f.rest m.drawn m.start f.world.threads f.world.ended p f.stands);
      runs = of_units m.units f.master f.rest (λ units. is_spawned units ≡ true → (place : ℕ) (u : Unit) → slice_get units (suc place) ≡ Some u → u.state ≡ Runs →
          (0 < p.runner place) × (p.runner place < f.world.threads) × (f.world.ended (p.runner place) ≡ false) × (p.ends (p.runner place) ≡ record { start = m.start; unit = u })
          × (length units ≡ 2 → LowerEnded f.world.ended (p.runner place)))
          f.units (runs_here image f.master f.rest m.drawn m.start f.world.threads f.world.ended p f.stands);
      thread = threads;
      over = of_units m.units f.master f.rest (λ units. 2 ≤ length units → ((k : ℕ) (u : Unit) → slice_get units k ≡ Some u → is_active (is_spawned units) u ≡ false) → IsSomeAnd (slice_get units 0) (λ u. u.state ≡ Halted)) f.units
          (over_here image f.master f.rest m.drawn m.start f.world.threads f.world.ended p f.stands);
      halted = of_units m.units f.master f.rest (λ units. IsSomeAnd (slice_get units 0) (λ u. u.state ≡ Halted) ↔ (f.world.ended 0 ≡ true)) f.units
          (halted_here image f.master f.rest m.drawn m.start f.world.threads f.world.ended p f.stands);
    }
  where
    active_units : (k : ℕ) (u : Unit) → slice_get m.units k ≡ Some u → is_active (is_spawned m.units) u ≡ true → u.state ≡ Runs →
        (actor : ℕ) × (actor < f.world.threads) × (f.world.ended actor ≡ false) × (p.ends actor ≡ record { start = m.start; unit = u }) × ((k ≡ 0) ↔ (actor ≡ 0))
    active_units = of_units m.units f.master f.rest (λ units. (k : ℕ) (u : Unit) → slice_get units k ≡ Some u → is_active (is_spawned units) u ≡ true → u.state ≡ Runs →
        (actor : ℕ) × (actor < f.world.threads) × (f.world.ended actor ≡ false) × (p.ends actor ≡ record { start = m.start; unit = u }) × ((k ≡ 0) ↔ (actor ≡ 0)))
        f.units (active_here image f.master f.rest m.drawn m.start f.world.threads f.world.ended p f.stands)

    threads : (actor : ℕ) → (p.ends actor).unit.state ≡ Runs → (p.ends actor).unit.thread ≡ (p.starts actor).unit.thread
    threads actor runs = elim (thread_kept image (p.steps actor) (p.starts actor) (p.ends actor) (part_of actor log) (f.done.does actor)) [
      | inl h ↦ h
      | inr stopped ↦ (let never : Runs ≡ Stopped = sym runs ∙ stopped in cc)
    ]

-- ---- no turn makes or ends a unit

joins-length : (image : Image) (start : Start) (units : List Unit) → length (joins image start units) ≡ length units
joins-length image start [] = refl
joins-length image start (master ∷ rest) = by_test (list_all (λ u. is_stopped u.state) rest)
  where
    by_test : (b : Bool) → length (if b then resumes image start master ∷ rest else master ∷ rest) ≡ length (master ∷ rest)
    by_test true = refl
    by_test false = refl

serves-length : (image : Image) (m : Machine) (k : ℕ) (u : Unit) (ask : Request) → length (serves image m k u ask).units ≡ length m.units
serves-length image m k u (request.Load at) = length-set m.units k _
serves-length image m k u (request.Store at value) = length-set m.units k _
serves-length image m k u (request.Add at value) = length-set m.units k _
serves-length image m k u (request.Print text) = length-set m.units k _
serves-length image m k u request.Draw = joins-length image m.start (slice_set m.units k (answer_of image m.start u m.drawn)) ∙ length-set m.units k (answer_of image m.start u m.drawn)
serves-length image m k u (request.Spawn ask) = length-set (map ready m.units) k (waits_for u) ∙ length-map m.units ready

moves-length : (image : Image) (m : Machine) (k : ℕ) (u : Unit) (n : Next) → length (moves image m k u n).units ≡ length m.units
moves-length image m k u next.Local = length-set m.units k _
moves-length image m k u (next.Trap kind) = refl
moves-length image m k u (next.Ask ask) = serves-length image m k u ask

turn_of-length : (image : Image) (m : Machine) (k : ℕ) (o : Option Unit) → length (turn_of image m k o).units ≡ length m.units
turn_of-length image m k None = refl
turn_of-length image m k (Some u) = moves-length image m k u (next_of image m.start u)

pub after-length : (image : Image) (m : Machine) (schedule : List ℕ) → length (after image m schedule).units ≡ length m.units
after-length image m [] = refl
after-length image m (k ∷ schedule) = after-length image (turn image m k) schedule ∙ turn_of-length image m k (slice_get m.units k)

pub all_have_logs : RunsHaveLogs
all_have_logs image valid memory n schedule legal =
    let r = after_follows image memory schedule (opening image memory n) [] (no_parts image) no_tallies (keeps_apart image valid) legal (opening_follows image memory n) in (
      r.2,
      r.3,
      log_of image memory (after image (opening image memory n) schedule) r.2 r.3 r.0 r.4,
      record {
        steps = λ k u at.
            let before = after_steps image schedule (opening image memory n) legal k u at in
            let none : before.0.counts.steps ≡ 0 = opening_steps image memory n k before.0 before.1 in
            before.2 (omega (arith, none)) ∙ ap capped (ap (λ x. x + turns_of k schedule) none ∙ from_none (turns_of k schedule));
        draws = r.0.draws;
        master = sym (r.1 0 ∙ from_none (turns_of 0 schedule)) ∙ r.4.counted.serial;
        units = λ place. sym (r.1 (suc place) ∙ from_none (turns_of (suc place) schedule)) ∙ r.4.counted.units place ∙ ap (λ (w : World). r.0.draws place + owned r.3.owner r.3.steps place w.threads) (sym r.4.is_world);
        bound = r.4.counted.bound;
      },
      λ one.
          let alone : length r.4.rest ≡ 1 = one_less (after image (opening image memory n) schedule).units r.4.master r.4.rest n r.4.units (after-length image (opening image memory n) schedule ∙ ap suc (control_units-length n)) one in
          record {
            entries = r.4.rising alone;
            rest = subst (λ (w : World). (t : ℕ) → t < w.threads → LowerEnded w.ended t ⊎ (r.3.steps t ≡ 0)) (sym r.4.is_world)
                (lower_here image r.4.master r.4.rest (after image (opening image memory n) schedule).drawn (after image (opening image memory n) schedule).start r.4.world.threads r.4.world.ended r.3 r.4.stands alone);
          },
    )
  where
    from_none : (x : ℕ) → 0 + x ≡ x
    from_none x = omega arith

    one_less : (units : List Unit) (master : Unit) (rest : List Unit) (n : ℕ) → units ≡ master ∷ rest → length units ≡ suc n → n ≡ 1 → length rest ≡ 1
    one_less units master rest n is count one = let counts : suc (length rest) ≡ suc n = sym (ap length is) ∙ count in omega (arith, counts, one)
