-- A section, as its units take turns.
use Rattle.std.proofs.Common.{◌≡◌, refl, sym, ◌∙◌, ap, subst, ℕ, ◌+◌, ◌-◌, ◌<◌, ◌≤◌, ◌==◌, nat_lt, Bool, true, false, List, map, length, Some, slice_get, slice_set, arith, ◌⊎◌, inl, inr}
use Rattle.std.proofs.lemmas.Bool.Decides.{nat_tests}
use Rattle.std.proofs.lemmas.List.{length-set}
use Rattle.std.specs.List.{list_all}
use Rattle.xmt_isa.specs.declared.image.Image.{Image}
use Rattle.xmt_isa.specs.declared.unit.Start.{Start}
use Rattle.xmt_isa.specs.declared.unit.Unit.{Unit}
use Rattle.xmt_isa.specs.declared.unit.UnitState.{UnitState}
use Rattle.xmt_isa.specs.declared.unit.UnitState.TheVariants.{Draws, Runs, Stopped, Halted}
use Rattle.xmt_isa.specs.declared.unit.SpawnAsk.{SpawnAsk}
use Rattle.xmt_isa.specs.Machine.{broadcast, ready, is_stopped}
use Rattle.xmt_isa.specs.Opening.{new_unit}
use Rattle.machine_places.proofs.Units.{zeros-length}
use Rattle.interleaving.specs.Actors.{with_state}
use Rattle.machine_log.specs.Log.{Log, AllEnded}
use Rattle.xmt_isa.specs.Threads.{Actor, BeginsAt, HasRoom, begins, begun, number_at, stops}
use Rattle.xmt_isa.specs.Traces.{ComesToSpawn}
use Rattle.machine_log.specs.Done.{Parts, LowerEnded}
use Rattle.machine_log.proofs.Follows.{Section, StandsBy, IsRunBy, goes, begins_on, spawns_from}
use Rattle.interleaving.proofs.Interleave.{eq_of, with_state-same}
use Rattle.interleaving.proofs.Grows.{differs, with-other, with-at}
use Rattle.std.proofs.lemmas.Option.{slice_get_within}
use Rattle.machine_places.proofs.Lists.{get-set_same, get-set_other, get-set, some_same, all_at, get-map}

-- what is kept of a unit that another one's turn leaves alone
module _ (start : Start) (old new first : ℕ) (ended after : ℕ → Bool) (p q : Parts) (place : ℕ) (u : Unit) where
  stands_kept : (state : UnitState) → StandsBy start old first ended p place u state → ((k : ℕ) → k < old → k < start.count → k < new) → (start.count ≤ old → start.count ≤ new) →
      ((k : ℕ) → k < old → p.runner place ≡ first + k → p.owner (first + k) ≡ place → ended (first + k) ≡ false →
      (q.runner place ≡ p.runner place) × (q.owner (first + k) ≡ p.owner (first + k)) × (after (first + k) ≡ false) × (q.ends (first + k) ≡ p.ends (first + k))) →
      StandsBy start new first after q place u state
  stands_kept Draws h more stop keep = tt
  stands_kept Runs h more stop keep = let kept = keep h.0 h.1 h.3 h.4 h.5 in (h.0, more h.0 h.1 h.2, h.2, kept.0 ∙ h.3, kept.1 ∙ h.4, kept.2, kept.3 ∙ h.6)
  stands_kept Stopped h more stop keep = stop h
  stands_kept Halted h more stop keep = h

-- a unit that runs is not one that is due
apart : {A : Type 0} (rest : List Unit) (place : ℕ) (u v : Unit) → slice_get rest place ≡ Some u → slice_get rest place ≡ Some v → u.state ≡ Draws → v.state ≡ Runs → A
apart rest place u v first second due runs =
    let same : u ≡ v = some_same u v (sym first ∙ second) in
    let never : Draws ≡ Runs = sym due ∙ ap (λ (x : Unit). x.state) same ∙ runs in cc

due_runs : {A : Type 0} → Draws ≡ Runs → A
due_runs h = cc

stopped_runs : {A : Type 0} → Stopped ≡ Runs → A
stopped_runs h = cc

module _ (image : Image) (rest : List Unit) (drawn : ℕ) (start : Start) (threads : ℕ) (ended : ℕ → Bool) (p : Parts) (first : ℕ) (s : Section image rest drawn start threads ended p first) (place : ℕ) (u : Unit) (there : slice_get rest place ≡ Some u) where
  only_one : {A : Type 0} → length rest ≡ 1 → (place ≡ 0 → ⊥) → A
  only_one one differ = absurd (let inside : place < length rest = slice_get_within rest place u there in differ (omega (arith, inside, one)))

  -- a unit takes a step of its thread
  module _ (k : ℕ) (below : k < drawn) (inside : k < start.count) (runs : p.runner place ≡ first + k) (owned : p.owner (first + k) ≡ place) (live : ended (first + k) ≡ false) (running : u.state ≡ Runs) where
    pub section_moves : (v : Unit) → v.state ≡ Runs → Section image (slice_set rest place v) drawn start threads ended (goes p (first + k) (record { start = start; unit = v })) first
    section_moves v v_runs =
        record {
          positive = s.positive;
          all = s.all;
          earlier = s.earlier;
          begins = s.begins;
          undrawn = λ j more within. (with-other p.steps (first + k) (first + j) (1 + p.steps (first + k)) (λ e. omega (arith, e, below, more)) ∙ (s.undrawn j more within).0, (s.undrawn j more within).1);
          begun = λ j less within. elim (s.begun j less within) [ inl e ↦ inl e | inr r ↦ inr (run_by j r) ];
          units = units;
          last = λ one x at x_runs. get-set (λ (y : Unit). y.state ≡ Runs → 1 + p.runner 0 ≡ first + drawn) rest place 0 u v x there at
              (λ same new. s.last (sym (length-set rest place v) ∙ one) u (ap (slice_get rest) same ∙ there) running)
              (λ differ old. s.last (sym (length-set rest place v) ∙ one) x old) x_runs;
          spawner = s.spawner;
        }
      where
        run_by : (j : ℕ) → IsRunBy rest p (first + j) → IsRunBy (slice_set rest place v) (goes p (first + k) (record { start = start; unit = v })) (first + j)
        run_by j r = by_test (place == p.owner (first + j)) refl
          where
            by_test : (b : Bool) → (place == p.owner (first + j)) ≡ b → IsRunBy (slice_set rest place v) (goes p (first + k) (record { start = start; unit = v })) (first + j)
            by_test true e = (v, ap (slice_get (slice_set rest place v)) (sym (eq_of place (p.owner (first + j)) e)) ∙ get-set_same rest place u v there, v_runs, r.3)
            by_test false e = (r.0, get-set_other rest place (p.owner (first + j)) v (differs place (p.owner (first + j)) e) ∙ r.1, r.2, r.3)

        q : Parts
        q = goes p (first + k) (record { start = start; unit = v })

        units : (other : ℕ) (w : Unit) → slice_get (slice_set rest place v) other ≡ Some w → StandsBy start drawn first ended (goes p (first + k) (record { start = start; unit = v })) other w w.state
        units other w at = get-set (λ x. StandsBy start drawn first ended (goes p (first + k) (record { start = start; unit = v })) other x x.state) rest place other u v w there at
            (λ same. subst (λ t. StandsBy start drawn first ended (goes p (first + k) (record { start = start; unit = v })) t v v.state) (sym same)
            (subst (λ state. StandsBy start drawn first ended (goes p (first + k) (record { start = start; unit = v })) place v state) (sym v_runs)
            (k, below, inside, runs, owned, live, with_state-same p.ends (first + k) (record { start = start; unit = v }))))
            (λ differ old. stands_kept start drawn drawn first ended ended p (goes p (first + k) (record { start = start; unit = v })) other w w.state (s.units other w old) (λ j is_below within. omega (arith, is_below)) (λ h. omega (arith, h))
            (λ j less run own lives. (refl, refl, lives, with-other p.ends (first + k) (first + j) (record { start = start; unit = v }) (λ e. differ (sym owned ∙ ap p.owner e ∙ own)))))

    -- a thread ends, and its unit is due to draw again
    pub section_ends : (x : Actor) → Section image (slice_set rest place (ready u)) drawn start threads (with_state ended (first + k) true) (goes p (first + k) x) first
    section_ends x =
        record {
          positive = s.positive;
          all = s.all;
          earlier = λ t later less. with-at (λ t b. b ≡ true) ended (first + k) t true (λ same. refl) (λ other. s.earlier t later less);
          begins = s.begins;
          undrawn = λ j more within. (
            with-other p.steps (first + k) (first + j) (1 + p.steps (first + k)) (λ e. omega (arith, e, below, more)) ∙ (s.undrawn j more within).0,
            with-other ended (first + k) (first + j) true (λ e. omega (arith, e, below, more)) ∙ (s.undrawn j more within).1,
          );
          begun = λ j less within. begun_at j less within (k == j) refl;
          units = units;
          last = λ one x at x_runs. get-set (λ (y : Unit). y.state ≡ Runs → 1 + p.runner 0 ≡ first + drawn) rest place 0 u (ready u) x there at
              (λ same new. due_runs new)
              (λ differ old. s.last (sym (length-set rest place (ready u)) ∙ one) x old) x_runs;
          spawner = s.spawner;
        }
      where
        begun_at : (j : ℕ) → j < drawn → j < start.count → (b : Bool) → (k == j) ≡ b → (with_state ended (first + k) true (first + j) ≡ true) ⊎ IsRunBy (slice_set rest place (ready u)) (goes p (first + k) x) (first + j)
        begun_at j less within true e = let same : k ≡ j = eq_of k j e in inl (ap (λ t. with_state ended (first + k) true (first + t)) (sym same) ∙ with_state-same ended (first + k) true)
        begun_at j less within false e =
            elim (s.begun j less within) [
              | inl h ↦ inl (with-at (λ t b. b ≡ true) ended (first + k) (first + j) true (λ same. refl) (λ other. h))
              | inr r ↦ inr (r.0, get-set_other rest place (p.owner (first + j)) (ready u) (λ same. let run : p.runner place ≡ first + j = ap p.runner same ∙ r.3 in differs k j e (omega (arith, run, runs))) ∙ r.1, r.2, r.3)
            ]

        units : (other : ℕ) (w : Unit) → slice_get (slice_set rest place (ready u)) other ≡ Some w → StandsBy start drawn first (with_state ended (first + k) true) (goes p (first + k) x) other w w.state
        units other w at = get-set (λ y. StandsBy start drawn first (with_state ended (first + k) true) (goes p (first + k) x) other y y.state) rest place other u (ready u) w there at
            (λ same. tt)
            (λ differ old. stands_kept start drawn drawn first ended (with_state ended (first + k) true) p (goes p (first + k) x) other w w.state (s.units other w old) (λ j is_below within. omega (arith, is_below)) (λ h. omega (arith, h))
            (λ j less run own lives. (
              refl,
              refl,
              with-other ended (first + k) (first + j) true (λ e. differ (sym owned ∙ ap p.owner e ∙ own)) ∙ lives,
              with-other p.ends (first + k) (first + j) x (λ e. differ (sym owned ∙ ap p.owner e ∙ own)),
            )))

  -- a unit that is due draws the next number
  module _ (due : u.state ≡ Draws) where
    pub section_begins : drawn < start.count → (u.number ≡ 0 → ⊥) → HasRoom u →
        Section image (slice_set rest place (begins start u (number_at start drawn))) (1 + drawn) start threads ended (begins_on p (first + drawn) place (begun start u (number_at start drawn))) first
    section_begins less on_unit room =
        record {
          positive = s.positive;
          all = s.all;
          earlier = s.earlier;
          begins = λ j within. with-at (λ t x. BeginsAt start j x) p.starts (first + drawn) (first + j) (begun start u (number_at start drawn))
              (λ same. let here : drawn ≡ j = omega (arith, same) in (u, on_unit, room, ap (λ n. begun start u (number_at start n)) here))
              (λ other. s.begins j within);
          undrawn = λ j more within. s.undrawn j (omega (arith, more)) within;
          begun = λ j below within. begun_at j below within (drawn == j) refl;
          units = units;
          last = λ one x at x_runs. get-set (λ (y : Unit). y.state ≡ Runs → 1 + with_state p.runner place (first + drawn) 0 ≡ first + (1 + drawn)) rest place 0 u (begins start u (number_at start drawn)) x there at
              (λ same new. let here : with_state p.runner place (first + drawn) 0 ≡ first + drawn = ap (with_state p.runner place (first + drawn)) same ∙ with_state-same p.runner place (first + drawn) in omega (arith, here))
              (λ differ old. only_one (sym (length-set rest place (begins start u (number_at start drawn))) ∙ one) differ) x_runs;
          spawner = s.spawner;
        }
      where
        begun_at : (j : ℕ) → j < 1 + drawn → j < start.count → (b : Bool) → (drawn == j) ≡ b →
            (ended (first + j) ≡ true) ⊎ IsRunBy (slice_set rest place (begins start u (number_at start drawn))) (begins_on p (first + drawn) place (begun start u (number_at start drawn))) (first + j)
        begun_at j below within true e =
            let same : drawn ≡ j = eq_of drawn j e in
            inr (subst (λ t. IsRunBy (slice_set rest place (begins start u (number_at start drawn))) (begins_on p (first + drawn) place (begun start u (number_at start drawn))) (first + t)) same (
              begins start u (number_at start drawn),
              ap (slice_get (slice_set rest place (begins start u (number_at start drawn)))) (with_state-same p.owner (first + drawn) place) ∙ get-set_same rest place u (begins start u (number_at start drawn)) there,
              refl,
              ap (with_state p.runner place (first + drawn)) (with_state-same p.owner (first + drawn) place) ∙ with_state-same p.runner place (first + drawn),
            ))
        begun_at j below within false e =
            let other : first + drawn ≡ first + j → ⊥ = λ h. differs drawn j e (omega (arith, h)) in
            let earlier : j < drawn = grind (arith, below, e) in
            let owner : with_state p.owner (first + drawn) place (first + j) ≡ p.owner (first + j) = with-other p.owner (first + drawn) (first + j) place other in
            elim (s.begun j earlier within) [
              | inl h ↦ inl h
              | inr r ↦
                  let differ : place ≡ p.owner (first + j) → ⊥ = λ same. apart rest place u r.0 there (ap (slice_get rest) same ∙ r.1) due r.2 in
                  inr (
                    r.0,
                    ap (slice_get (slice_set rest place (begins start u (number_at start drawn)))) owner ∙ get-set_other rest place (p.owner (first + j)) (begins start u (number_at start drawn)) differ ∙ r.1,
                    r.2,
                    ap (with_state p.runner place (first + drawn)) owner ∙ with-other p.runner place (p.owner (first + j)) (first + drawn) differ ∙ r.3,
                  )
            ]

        units : (other : ℕ) (w : Unit) → slice_get (slice_set rest place (begins start u (number_at start drawn))) other ≡ Some w →
            StandsBy start (1 + drawn) first ended (begins_on p (first + drawn) place (begun start u (number_at start drawn))) other w w.state
        units other w at = get-set (λ y. StandsBy start (1 + drawn) first ended (begins_on p (first + drawn) place (begun start u (number_at start drawn))) other y y.state) rest place other u (begins start u (number_at start drawn)) w there at
            (λ same. subst (λ t. StandsBy start (1 + drawn) first ended (begins_on p (first + drawn) place (begun start u (number_at start drawn))) t (begins start u (number_at start drawn)) Runs) (sym same)
            (drawn, omega arith, less, with_state-same p.runner place (first + drawn), with_state-same p.owner (first + drawn) place, (s.undrawn drawn (omega arith) less).1, with_state-same p.ends (first + drawn) (begun start u (number_at start drawn))))
            (λ differ old. stands_kept start drawn (1 + drawn) first ended ended p (begins_on p (first + drawn) place (begun start u (number_at start drawn))) other w w.state (s.units other w old) (λ j is_below within. omega (arith, is_below)) (λ h. omega (arith, h))
            (λ j below run own lives.
            let apart_here : first + drawn ≡ first + j → ⊥ = λ e. omega (arith, e, below) in (
              with-other p.runner place other (first + drawn) differ,
              with-other p.owner (first + drawn) (first + j) place apart_here,
              lives,
              with-other p.ends (first + drawn) (first + j) (begun start u (number_at start drawn)) apart_here,
            )))

    -- or stops, where there is none
    pub section_stops : (new : ℕ) → start.count ≤ drawn → start.count ≤ new → Section image (slice_set rest place (stops u)) new start threads ended p first
    section_stops new past past_new =
        record {
          positive = s.positive;
          all = s.all;
          earlier = s.earlier;
          begins = s.begins;
          undrawn = λ j more within. absurd (omega (arith, more, within, past_new));
          begun = λ j below within. elim (s.begun j (omega (arith, within, past)) within) [
            | inl h ↦ inl h
            | inr r ↦ inr (r.0, get-set_other rest place (p.owner (first + j)) (stops u) (λ same. apart rest place u r.0 there (ap (slice_get rest) same ∙ r.1) due r.2) ∙ r.1, r.2, r.3)
          ];
          units = λ other w at. get-set (λ y. StandsBy start new first ended p other y y.state) rest place other u (stops u) w there at
              (λ same. past_new)
              (λ differ old. stands_kept start drawn new first ended ended p p other w w.state (s.units other w old) (λ j is_below within. omega (arith, within, past_new)) (λ h. past_new) (λ j below run own lives. (refl, refl, lives, refl)));
          last = λ one x at x_runs. get-set (λ (y : Unit). y.state ≡ Runs → 1 + p.runner 0 ≡ first + new) rest place 0 u (stops u) x there at
              (λ same new. stopped_runs new)
              (λ differ old. only_one (sym (length-set rest place (stops u)) ∙ one) differ) x_runs;
          spawner = s.spawner;
        }

-- a thread below which no thread of the section is under way comes behind those below it
pub section_lower : (image : Image) (rest : List Unit) (drawn : ℕ) (start : Start) (threads : ℕ) (ended : ℕ → Bool) (p : Parts) (first : ℕ) → Section image rest drawn start threads ended p first →
    (k : ℕ) → k ≤ drawn → k ≤ start.count → ((j : ℕ) → j < k → IsRunBy rest p (first + j) → ⊥) → LowerEnded ended (first + k)
section_lower image rest drawn start threads ended p first s k below inside none lower later less = by_test (nat_lt lower first) refl
  where
    by_test : (b : Bool) → nat_lt lower first ≡ b → ended lower ≡ true
    by_test true e = s.earlier lower later (grind (arith, nat_tests, e))
    by_test false e =
        let above : first ≤ lower = grind (arith, nat_tests, e) in
        let here : first + (lower - first) ≡ lower = omega (arith, above) in
        let before : lower - first < k = omega (arith, above, less) in
        subst (λ t. ended t ≡ true) here (elim (s.begun (lower - first) (omega (arith, before, below)) (omega (arith, before, inside))) [
          | inl h ↦ h
          | inr r ↦ absurd (none (lower - first) before r)
        ])

-- the only unit runs it
pub run_by_one : (rest : List Unit) (p : Parts) (actor : ℕ) → length rest ≡ 1 → (r : IsRunBy rest p actor) → (slice_get rest 0 ≡ Some r.0) × (p.runner 0 ≡ actor)
run_by_one rest p actor one r =
    let inside : p.owner actor < length rest = slice_get_within rest (p.owner actor) r.0 r.1 in
    let place : p.owner actor ≡ 0 = omega (arith, inside, one) in
    (ap (slice_get rest) (sym place) ∙ r.1, ap p.runner (sym place) ∙ r.3)

-- where all units have stopped, all threads have ended
pub section_over : (image : Image) (rest : List Unit) (drawn : ℕ) (start : Start) (threads : ℕ) (ended : ℕ → Bool) (p : Parts) (first : ℕ) → Section image rest drawn start threads ended p first →
    start.count ≤ drawn → list_all (λ u. is_stopped u.state) rest ≡ true → AllEnded threads ended
section_over image rest drawn start threads ended p first s past stopped actor later less = by_test (nat_lt actor first) refl
  where
    by_test : (b : Bool) → nat_lt actor first ≡ b → ended actor ≡ true
    by_test true e = s.earlier actor later (grind (arith, nat_tests, e))
    by_test false e =
        let above : first ≤ actor = grind (arith, nat_tests, e) in
        let all : first + start.count ≡ threads = s.all in
        let here : first + (actor - first) ≡ actor = omega (arith, above) in
        let within : actor - first < start.count = omega (arith, above, all, less) in
        subst (λ t. ended t ≡ true) here (elim (s.begun (actor - first) (omega (arith, within, past)) within) [
          | inl h ↦ h
          | inr r ↦
              let at : is_stopped r.0.state ≡ true = all_at (λ u. is_stopped u.state) rest (p.owner (first + (actor - first))) r.0 stopped r.1 in
              let never : is_stopped Runs ≡ true = ap is_stopped (sym r.2) ∙ at in cc
        ])

pub new_room : (number : ℕ) → HasRoom (new_unit number)
new_room number = record { back = zeros-length 256; frames = zeros-length 131584; list = refl }

-- a spawn begins a section
pub section_opens : (image : Image) (rest : List Unit) (start : Start) (threads : ℕ) (ended : ℕ → Bool) (p : Parts) (x : Actor) → 0 < threads →
    ((actor : ℕ) → threads ≤ actor → (p.steps actor ≡ 0) × (ended actor ≡ false)) → AllEnded threads ended →
    ((before : Log) × (s : Actor) × (ask : SpawnAsk) × ComesToSpawn image before s ask × (start ≡ broadcast s.unit ask)) →
    Section image (map ready rest) 0 start (threads + start.count) ended (goes (spawns_from p threads start) 0 x) threads
section_opens image rest start threads ended p x positive fresh all_ended spawner =
    record {
      positive = positive;
      all = refl;
      earlier = all_ended;
      begins = λ j within.
          let past : nat_lt (threads + j) threads ≡ false = grind (arith, nat_tests) in
          let place : threads + j - threads ≡ j = omega arith in
          (new_unit 1, (λ e. omega (arith, e)), new_room 1, rw (past, place) refl);
      undrawn = λ j more within. (with-other p.steps 0 (threads + j) (1 + p.steps 0) (λ e. omega (arith, e, positive)) ∙ (fresh (threads + j) (omega arith)).0, (fresh (threads + j) (omega arith)).1);
      begun = λ j less within. absurd (omega (arith, less));
      units = λ place w at. let found = get-map ready rest place w at in subst (λ y. StandsBy start 0 threads ended (goes (spawns_from p threads start) 0 x) place y y.state) (sym found.2) tt;
      last = λ one u at runs. let found = get-map ready rest 0 u at in due_runs (ap (λ (x : Unit). x.state) (sym found.2) ∙ runs);
      spawner = spawner;
    }
