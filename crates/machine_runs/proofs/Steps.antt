-- What each kind of turn leads to.
use Rattle.std.proofs.Common.{◌≡◌, refl, sym, ◌∙◌, ap, subst, ℕ, suc, ◌+◌, ◌<◌, ◌≤◌, ◌^◌, nat_lt, Bool, true, false, if◌then◌else◌, List, [], ◌∷◌, ◌++◌, map, length, Some, slice_get, slice_set, arith, inl, inr}
use Rattle.std.proofs.lemmas.Bool.Decides.{nat_tests}
use Rattle.std.proofs.lemmas.List.{length-set, length-map}
use Rattle.std.specs.List.{list_all}
use Rattle.xmt_base.specs.Operators.{count_between}
use Rattle.interleaving.specs.Starts.{count_behind}
use Rattle.machine_places.proofs.Words.{asked_above}
use Rattle.xmt_isa.specs.declared.image.Image.{Image}
use Rattle.xmt_isa.specs.declared.unit.Start.{Start}
use Rattle.xmt_isa.specs.declared.unit.Unit.{Unit}
use Rattle.xmt_isa.specs.declared.unit.UnitState.TheVariants.{Draws, Runs, Halted}
use Rattle.xmt_isa.specs.declared.unit.SpawnAsk.{SpawnAsk}
use Rattle.xmt_isa.specs.declared.unit.Request.{Request}
use Rattle.xmt_isa.specs.Step.{more, next_of, local_of, answer_of, draws}
use Rattle.xmt_isa.specs.Machine.{Machine, broadcast, ready, is_stopped, resumes, waits_for, joins, serves}
use Rattle.xmt_isa.specs.Picked.{is_live}
use Rattle.xmt_base.specs.Action.{Action, Spawn, Ended}
use Rattle.xmt_isa.specs.Threads.{site_of, Actor, BeginsAt, HasRoom, begins, begun, number_at, stops, move, action_of, answered, goes_alone, main_actor}
use Rattle.interleaving.specs.Actors.{Alone, Acts, Entry, part_of, Does, IsPrompt, with_state}
use Rattle.machine_log.specs.Log.{Log, World, MayGo, IsLawfulEntry, reply_in, opening_world, after_entry, after_log}
use Rattle.xmt_isa.specs.Traces.{ComesToSpawn}
use Rattle.machine_places.specs.Keeps.{KeepsApart}
use Rattle.machine_log.specs.Done.{Parts, spawns_of, IsDone, LowerEnded, EntriesRise}
use Rattle.machine_log.proofs.Follows.{Tallies, Counted, took, Section, Stands, StandsBy, IsSerial, IsWaiting, Follows, goes, begins_on, spawns_from}
use Rattle.interleaving.proofs.Interleave.{with_state-same}
use Rattle.interleaving.proofs.Grows.{prompt_act, part_of-own, part_of-other, with-other, world_after-more, lawful_more}
use Rattle.std.proofs.lemmas.Option.{slice_get_within}
use Rattle.machine_places.proofs.Lists.{get-set_same, get-set_other, all_false, get-map, set-set}
use Rattle.machine_places.proofs.Units.{local_of-kept, answer_of-kept, answer_of-join, is_plain}
use Rattle.machine_log.proofs.Done.{threads_behind, done_alone, done_act, done_begins, done_spawns}
use Rattle.machine_log.proofs.Counts.{spawns_more, counted_entry, counted_serial, counted_unit, counted_begins, counted_spawns}
use Rattle.machine_log.proofs.Sections.{section_begins, section_stops, section_lower, run_by_one, section_over, section_opens}
use Rattle.xmt_isa.specs.declared.unit.Request.TheVariants as request
use Rattle.xmt_isa.specs.declared.unit.Next.TheVariants as next
use Rattle.machine_log.proofs.Standing.{count_between-bound, more-small, more-grows, never_true, never_false, due_runs, due_stopped, mach, move_here, serves_plain, threads_plain, ended_plain, answered_plain, logged_plain, no_spawn_plain, numbers_set, rooms_set, stands_master, stands_halted, actor_later, actor_inside, stands_unit, stands_ended, still_runs, has_halted, ready_some, DueBut, due_set, due_more}

-- ---- what a turn leads to

abbrev pub Result : Image → List ℕ → Machine → Tallies → Type 0
Result image memory m t = (log : Log) × (p : Parts) × Follows image memory m log p t

module _ (image : Image) (memory : List ℕ) (log : Log) (p : Parts) (done : IsDone image memory log p) (w : World) (is_world : after_log image (opening_world image memory) log ≡ w) where
  world_more : (e : Entry Action) → after_log image (opening_world image memory) (log ++ (e ∷ [])) ≡ after_entry image w e
  world_more e = world_after-more (after_entry image) (IsLawfulEntry image) (opening_world image memory) log e ∙ ap (λ x. after_entry image x e) is_world

  rising_more : (e : Entry Action) → EntriesRise image memory log → LowerEnded w.ended e.actor → EntriesRise image memory (log ++ (e ∷ []))
  rising_more e rising lower = lawful_more (after_entry image) (λ w e. LowerEnded w.ended e.actor) (opening_world image memory) log e rising (subst (λ (x : World). LowerEnded x.ended e.actor) (sym is_world) lower)

  -- the serial code is where it was
  prompt_kept : (old new : Log) (p q : Parts) → p.starts 0 ≡ q.starts 0 → p.steps 0 ≡ q.steps 0 → part_of 0 old ≡ part_of 0 new → IsPrompt (move image) (p.steps 0) (p.starts 0) (part_of 0 old) → IsPrompt (move image) (q.steps 0) (q.starts 0) (part_of 0 new)
  prompt_kept old new p q starts steps parts h =
      subst (λ part. IsPrompt (move image) (q.steps 0) (q.starts 0) part) parts (subst (λ n. IsPrompt (move image) n (q.starts 0) (part_of 0 old)) steps (subst (λ s. IsPrompt (move image) (p.steps 0) s (part_of 0 old)) starts h))

  -- an entry that is no spawn
  act : (e : Entry Action) (left : ℕ → Actor) → move image (p.ends e.actor) ≡ Acts e.action left → IsLawfulEntry image w e → ((site low high : ℕ) → e.action ≡ Spawn site low high → ⊥) →
      IsDone image memory (log ++ (e ∷ [])) (goes p e.actor (left e.reply))
  act e left acts lawful no_spawn =
      done_act image memory log p e left done acts (subst (λ x. IsLawfulEntry image x e) (sym is_world) lawful)
      (λ site low high reply same. absurd (no_spawn site low high (ap (λ (x : Entry Action). x.action) same)))

  abbrev plain_entry : (actor : ℕ) (u : Unit) (ask : Request) → Entry Action
  plain_entry actor u ask = record { actor = actor; action = action_of image u ask; reply = reply_in image w (action_of image u ask) }

  module _ (start : Start) (drawn : ℕ) (master : Unit) (rest : List Unit) (st : Stands image master rest drawn start w.threads w.ended p) (rising : length rest ≡ 1 → EntriesRise image memory log) (t : Tallies) (counted : Counted log w.threads p t) (prompt : master.waits ≡ true → IsPrompt (move image) (p.steps 0) (p.starts 0) (part_of 0 log)) where
    -- the master at an instruction, of which it is known what it does next
    module _ (serial : IsSerial master start w.threads w.ended p) (runs : master.state ≡ Runs) (live : w.ended 0 ≡ false) where
      master_may : MayGo w 0
      master_may = (st.there, live, λ zero. serial.all_ended)

      pub master_alone : next_of image start master ≡ next.Local → is_live (local_of image start master).state ≡ true → Result image memory (mach w (local_of image start master ∷ rest) drawn start) (took t 0)
      master_alone goes_on lives =
          let here : Actor = record { start = start; unit = master } in
          let moves : move image (p.ends 0) ≡ Alone (goes_alone image here) = move_here image p 0 start master next.Local serial.stands runs goes_on ∙ rw lives refl in
          let kept = local_of-kept image start master in
          let v_runs : (local_of image start master).state ≡ Runs = still_runs (local_of image start master).state master.state runs lives kept.state in (
            log,
            goes p 0 (goes_alone image here),
            record {
              done = done_alone image memory log p 0 (goes_alone image here) done moves;
              world = w;
              is_world = is_world;
              master = local_of image start master;
              rest = rest;
              units = refl;
              words = refl;
              printed = refl;
              rising = rising;
              counted = counted_serial log w.threads p t counted (goes_alone image here);
              due = λ waits. never_true (sym waits ∙ kept.same.waits ∙ serial.goes);
              prompt = λ waits. never_true (sym waits ∙ kept.same.waits ∙ serial.goes);
              stands = stands_master image master rest drawn start w.threads w.ended p st serial live (local_of image start master) kept.same.number kept.same.waits v_runs;
            },
          )

      pub master_halts : next_of image start master ≡ next.Local → is_live (local_of image start master).state ≡ false → Result image memory (mach w (local_of image start master ∷ rest) drawn start) (took t 0)
      master_halts goes_on ends =
          let here : Actor = record { start = start; unit = master } in
          let e : Entry Action = record { actor = 0; action = Ended; reply = 0 } in
          let moves : move image (p.ends 0) ≡ Acts Ended (λ reply. goes_alone image here) = move_here image p 0 start master next.Local serial.stands runs goes_on ∙ rw ends refl in
          let kept = local_of-kept image start master in
          let halted : (local_of image start master).state ≡ Halted = has_halted (local_of image start master).state master.state runs ends kept.state in (
            log ++ (e ∷ []),
            goes p 0 (goes_alone image here),
            record {
              done = act e (λ reply. goes_alone image here) moves (master_may, refl, tt) (λ site low high same. cc);
              world = after_entry image w e;
              is_world = world_more e;
              master = local_of image start master;
              rest = rest;
              units = refl;
              words = refl;
              printed = refl;
              rising = λ one. rising_more e (rising one) (λ lower later less. absurd (omega (arith, less)));
              counted = counted_serial (log ++ (e ∷ [])) w.threads p t (counted_entry log w.threads p t counted e) (goes_alone image here);
              due = λ waits. never_true (sym waits ∙ kept.same.waits ∙ serial.goes);
              prompt = λ waits. never_true (sym waits ∙ kept.same.waits ∙ serial.goes);
              stands = stands_halted image master rest drawn start w.threads w.ended p st serial (local_of image start master) kept.same.number kept.same.waits halted;
            },
          )

      pub master_plain : (ask : Request) → next_of image start master ≡ next.Ask ask → is_plain ask ≡ true → Result image memory (serves image (mach w (master ∷ rest) drawn start) 0 master ask) (took t 0)
      master_plain ask asks plain =
          let here : Actor = record { start = start; unit = master } in
          let e : Entry Action = plain_entry 0 master ask in
          let v : Unit = answer_of image start master e.reply in
          let moves : move image (p.ends 0) ≡ Acts e.action (answered image here ask) = move_here image p 0 start master (next.Ask ask) serial.stands runs asks in
          let kept = answer_of-kept image start master ask e.reply runs asks plain in
          subst (λ m. Result image memory m (took t 0)) (sym (serves_plain image w 0 start master ask plain (asked_above image start master ask runs asks) (master ∷ rest) 0 drawn)) (
            log ++ (e ∷ []),
            goes p 0 (record { start = start; unit = v }),
            record {
              done = subst (λ x. IsDone image memory (log ++ (e ∷ [])) (goes p 0 x)) (answered_plain image w 0 start master ask plain e.reply)
                  (act e (answered image here ask) moves (master_may, refl, logged_plain image w 0 start master ask plain) (λ site low high same. no_spawn_plain image w 0 start master ask plain site low high same));
              world = after_entry image w e;
              is_world = world_more e;
              master = v;
              rest = rest;
              units = refl;
              words = refl;
              printed = refl;
              rising = λ one. rising_more e (rising one) (λ lower later less. absurd (omega (arith, less)));
              counted = subst (λ n. Counted (log ++ (e ∷ [])) n (goes p 0 (record { start = start; unit = v })) (took t 0)) (sym (threads_plain image w 0 start master ask plain)) (counted_serial (log ++ (e ∷ [])) w.threads p t (counted_entry log w.threads p t counted e) (record { start = start; unit = v }));
              due = λ waits. never_true (sym waits ∙ kept.same.waits ∙ serial.goes);
              prompt = λ waits. never_true (sym waits ∙ kept.same.waits ∙ serial.goes);
              stands = subst (λ t. Stands image v rest drawn start t (after_entry image w e).ended (goes p 0 (record { start = start; unit = v }))) (sym (threads_plain image w 0 start master ask plain))
                  (subst (λ f. Stands image v rest drawn start w.threads f (goes p 0 (record { start = start; unit = v }))) (sym (ended_plain image w 0 start master ask plain))
                  (stands_master image master rest drawn start w.threads w.ended p st serial live v kept.same.number kept.same.waits (kept.state ∙ runs)));
            },
          )

      pub master_spawns : (ask : SpawnAsk) → next_of image start master ≡ next.Ask (request.Spawn ask) → Result image memory (serves image (mach w (master ∷ rest) drawn start) 0 master (request.Spawn ask)) (took t 0)
      master_spawns ask asks =
          let here : Actor = record { start = start; unit = master } in
          let new : Start = broadcast master ask in
          let e : Entry Action = record { actor = 0; action = Spawn (site_of image master.at) ask.low ask.high; reply = 0 } in
          let behind : Actor = record { start = new; unit = resumes image new (waits_for master) } in
          let q : Parts = spawns_from p w.threads new in
          let first_small : nat_lt 0 w.threads ≡ true = let positive : 0 < w.threads = st.there in grind (arith, nat_tests, positive) in
          let stands_before : q.ends 0 ≡ here = rw first_small serial.stands in
          let moves : move image (q.ends 0) ≡ Acts e.action (answered image here (request.Spawn ask)) = move_here image q 0 start master (next.Ask (request.Spawn ask)) stands_before runs asks in
          let comes : ComesToSpawn image (part_of 0 log) here ask = record {
            steps = p.steps 0;
            does = subst (λ a. Does (move image) (p.steps 0) (main_actor image) (part_of 0 log) a) serial.stands (subst (λ a. Does (move image) (p.steps 0) a (part_of 0 log) (p.ends 0)) done.serial (done.does 0));
            runs = runs;
            asks = asks;
          } in
          let opened : Section image (map ready rest) 0 new (w.threads + new.count) w.ended (goes q 0 behind) w.threads = section_opens image rest new w.threads w.ended p behind st.there st.fresh serial.all_ended (part_of 0 log, here, ask, comes, refl) in
          let done_q : IsDone image memory log q = done_spawns image memory log p w.threads new done st.there (subst (λ x. x.threads ≤ w.threads) (sym is_world) (omega arith)) (λ t past. (st.fresh t past).0) in
          let counted_so_far : w.threads ≡ count_behind 1 log = ap (λ (x : World). x.threads) (sym is_world) ∙ threads_behind image log (opening_world image memory) in
          let one_more : with_state p.steps 0 (1 + p.steps 0) 0 ≡ suc (p.steps 0) = with_state-same p.steps 0 (1 + p.steps 0) ∙ (let e : 1 + p.steps 0 ≡ suc (p.steps 0) = omega arith in e) in (
            log ++ (e ∷ []),
            goes q 0 behind,
            record {
              done = done_act image memory log q e (answered image here (request.Spawn ask)) done_q moves (subst (λ x. IsLawfulEntry image x e) (sym is_world) (master_may, refl, refl))
                  (λ site low high reply same k less.
                  let actions : Spawn (site_of image master.at) ask.low ask.high ≡ Spawn site low high = ap (λ (x : Entry Action). x.action) same in
                  let same_low : ask.low ≡ low = cc in
                  let same_high : ask.high ≡ high = cc in (
                    here,
                    ask,
                    comes,
                    subst (λ f. BeginsAt new k (q.starts (f + k))) counted_so_far
                        (opened.begins k (subst (λ l. k < count_between l ask.high) (sym same_low) (subst (λ h. k < count_between low h) (sym same_high) less))),
                    actions,
                  ));
              world = after_entry image w e;
              is_world = world_more e;
              master = waits_for master;
              rest = map ready rest;
              units = refl;
              words = refl;
              printed = refl;
              rising = λ one. rising_more e (rising (sym (length-map rest ready) ∙ one)) (λ lower later less. absurd (omega (arith, less)));
              counted = counted_serial (log ++ (e ∷ [])) (w.threads + new.count) q t (counted_entry log (w.threads + new.count) q t (counted_spawns log w.threads p t counted new.count new (λ a past. (st.fresh a past).0)) e) behind;
              due = λ waits place u at is. let more : spawns_of (log ++ (e ∷ [])) ≡ spawns_of log + 1 = spawns_more log e in let bound : t.draws place ≤ spawns_of log = counted.bound place in omega (arith, more, bound);
              prompt = λ waits. subst (λ n. IsPrompt (move image) n (q.starts 0) (part_of 0 (log ++ (e ∷ [])))) (sym one_more) (subst (λ part. IsPrompt (move image) (suc (p.steps 0)) (q.starts 0) part) (sym (part_of-own e log 0 refl))
                  (prompt_act (move image) (p.steps 0) (q.starts 0) (part_of 0 log) (q.ends 0) e (done_q.does 0)));
              stands = record {
                master_number = st.master_number;
                numbers = λ place x at. let found = get-map ready rest place x at in ap (λ (y : Unit). y.number) found.2 ∙ st.numbers place found.0 found.1;
                rooms = λ place x at. let found = get-map ready rest place x at in let r : HasRoom found.0 = st.rooms place found.0 found.1 in subst (λ y. HasRoom y) (sym found.2) (record { back = r.back; frames = r.frames; list = r.list });
                there = let positive : 0 < w.threads = st.there in omega (arith, positive);
                fresh = λ other past.
                    let positive : 0 < w.threads = st.there in
                    let past_old : w.threads ≤ other = omega (arith, past) in
                    (with-other p.steps 0 other (1 + p.steps 0) (λ e. omega (arith, e, positive, past_old)) ∙ (st.fresh other past_old).0, (st.fresh other past_old).1);
                phase = inr (record {
                  waits = refl;
                  runs = runs;
                  stands = with_state-same q.ends 0 behind;
                  unended = live;
                  some = λ one. ready_some rest one;
                  first = w.threads;
                  section = opened;
                });
              };
            },
          )

    waiting_of : master.waits ≡ true → IsWaiting image master rest drawn start w.threads w.ended p
    waiting_of waits = elim st.phase [ inl s ↦ (let never : true ≡ false = sym waits ∙ s.goes in cc) | inr h ↦ h ]

    -- a control unit that is due
    module _ (waits : master.waits ≡ true) (place : ℕ) (u : Unit) (there : slice_get rest place ≡ Some u) where
      count_small : start.count ≤ 2 ^ 32
      count_small =
          let spawner = (waiting_of waits).section.spawner in
          let count : start.count ≡ count_between spawner.2.low spawner.2.high = ap (λ (x : Start). x.count) spawner.4 in
          subst (λ n. n ≤ 2 ^ 32) (sym count) (count_between-bound spawner.2.low spawner.2.high)

      drawn_units : (v : Unit) → draws start u drawn ≡ v → (b : Bool) → list_all (λ x. is_stopped x.state) (slice_set rest place v) ≡ b →
          joins image start (master ∷ slice_set rest place (draws start u drawn)) ≡ (if b then resumes image start master ∷ slice_set rest place v else master ∷ slice_set rest place v)
      drawn_units v is_v b all = rw (is_v, all) refl

      draw_one : u.state ≡ Draws → DueBut rest place log t → drawn < start.count → Result image memory (mach w (joins image start (master ∷ slice_set rest place (draws start u drawn))) (more drawn) start) t
      draw_one due others less =
          let waiting : IsWaiting image master rest drawn start w.threads w.ended p = waiting_of waits in
          let v : Unit = begins start u (number_at start drawn) in
          let actor : ℕ = waiting.first + drawn in
          let positive : 0 < waiting.first = waiting.section.positive in
          let later : 0 < actor = omega (arith, positive) in
          let test : nat_lt drawn start.count ≡ true = grind (arith, nat_tests, less) in
          let drew : draws start u drawn ≡ v = rw test refl in
          let goes_on : list_all (λ x. is_stopped x.state) (slice_set rest place v) ≡ false = all_false (λ (x : Unit). is_stopped x.state) (slice_set rest place v) place v (get-set_same rest place u v there) refl in
          let on_unit : u.number ≡ 0 → ⊥ = λ zero. let number : u.number ≡ 1 + place = st.numbers place u there in omega (arith, zero, number) in
          let q : Parts = begins_on p actor place (begun start u (number_at start drawn)) in
          let next_drawn : more drawn ≡ 1 + drawn = more-small drawn start.count less count_small in (
            log,
            q,
            record {
              done = done_begins image memory log p actor place drawn start u done later (waiting.section.undrawn drawn (omega arith) less).0 on_unit (st.rooms place u there) (waiting.section.begins drawn less);
              world = w;
              is_world = is_world;
              master = master;
              rest = slice_set rest place v;
              units = drawn_units v drew false goes_on;
              words = refl;
              printed = refl;
              rising = λ one. rising (sym (length-set rest place v) ∙ one);
              counted = counted_begins log w.threads p t counted actor place (begun start u (number_at start drawn)) (waiting.section.undrawn drawn (omega arith) less).0;
              due = λ waits_on. due_set rest place u v log t there others (λ is. due_runs is);
              prompt = λ waits_on. prompt_kept log log p q (sym (with-other p.starts actor 0 (begun start u (number_at start drawn)) (λ e. omega (arith, e, later)))) refl refl (prompt waits_on);
              stands = subst (λ n. Stands image master (slice_set rest place v) n start w.threads w.ended q) (sym next_drawn) (record {
                master_number = st.master_number;
                numbers = numbers_set image master rest drawn start w.threads w.ended p st place u v there refl;
                rooms = rooms_set image master rest drawn start w.threads w.ended p st place u v there (λ r. record { back = r.back; frames = r.frames; list = r.list });
                there = st.there;
                fresh = st.fresh;
                phase = inr (record {
                  waits = waiting.waits;
                  runs = waiting.runs;
                  stands = with-other p.ends actor 0 (begun start u (number_at start drawn)) (λ e. omega (arith, e, later)) ∙ waiting.stands;
                  unended = waiting.unended;
                  some = λ one. goes_on;
                  first = waiting.first;
                  section = section_begins image rest drawn start w.threads w.ended p waiting.first waiting.section place u there due less on_unit (st.rooms place u there);
                });
              });
            },
          )

      draw_none : u.state ≡ Draws → DueBut rest place log t → start.count ≤ drawn → Result image memory (mach w (joins image start (master ∷ slice_set rest place (draws start u drawn))) (more drawn) start) t
      draw_none due others past = by_stopped (list_all (λ x. is_stopped x.state) (slice_set rest place (stops u))) refl
        where
          drew : draws start u drawn ≡ stops u
          drew = let test : nat_lt drawn start.count ≡ false = grind (arith, nat_tests, past) in rw test refl

          section : Section image (slice_set rest place (stops u)) (more drawn) start w.threads w.ended p (waiting_of waits).first
          section = section_stops image rest drawn start w.threads w.ended p (waiting_of waits).first (waiting_of waits).section place u there due (more drawn) past (more-grows drawn start.count past count_small)

          by_stopped : (b : Bool) → list_all (λ x. is_stopped x.state) (slice_set rest place (stops u)) ≡ b → Result image memory (mach w (joins image start (master ∷ slice_set rest place (draws start u drawn))) (more drawn) start) t
          by_stopped true all =
              let waiting : IsWaiting image master rest drawn start w.threads w.ended p = waiting_of waits in (
                log,
                p,
                record {
                  done = done;
                  world = w;
                  is_world = is_world;
                  master = resumes image start master;
                  rest = slice_set rest place (stops u);
                  units = drawn_units (stops u) drew true all;
                  words = refl;
                  printed = refl;
                  rising = λ one. rising (sym (length-set rest place (stops u)) ∙ one);
                  counted = counted;
                  due = λ waits_on. never_false waits_on;
                  prompt = λ waits_on. never_false waits_on;
                  stands = record {
                    master_number = st.master_number;
                    numbers = numbers_set image master rest drawn start w.threads w.ended p st place u (stops u) there refl;
                    rooms = rooms_set image master rest drawn start w.threads w.ended p st place u (stops u) there (λ r. record { back = r.back; frames = r.frames; list = r.list });
                    there = st.there;
                    fresh = st.fresh;
                    phase = inl (record {
                      goes = refl;
                      stands = waiting.stands;
                      all_ended = section_over image (slice_set rest place (stops u)) (more drawn) start w.threads w.ended p waiting.first section (more-grows drawn start.count past count_small) all;
                      live = inl (waiting.runs, waiting.unended);
                    });
                  };
                },
              )
          by_stopped false all =
              let waiting : IsWaiting image master rest drawn start w.threads w.ended p = waiting_of waits in (
                log,
                p,
                record {
                  done = done;
                  world = w;
                  is_world = is_world;
                  master = master;
                  rest = slice_set rest place (stops u);
                  units = drawn_units (stops u) drew false all;
                  words = refl;
                  printed = refl;
                  rising = λ one. rising (sym (length-set rest place (stops u)) ∙ one);
                  counted = counted;
                  due = λ waits_on. due_set rest place u (stops u) log t there others (λ is. due_stopped is);
                  prompt = λ waits_on. prompt waits_on;
                  stands = record {
                    master_number = st.master_number;
                    numbers = numbers_set image master rest drawn start w.threads w.ended p st place u (stops u) there refl;
                    rooms = rooms_set image master rest drawn start w.threads w.ended p st place u (stops u) there (λ r. record { back = r.back; frames = r.frames; list = r.list });
                    there = st.there;
                    fresh = st.fresh;
                    phase = inr (record { waits = waiting.waits; runs = waiting.runs; stands = waiting.stands; unended = waiting.unended; some = λ one. all; first = waiting.first; section = section });
                  };
                },
              )

      pub draw : u.state ≡ Draws → DueBut rest place log t → Result image memory (mach w (joins image start (master ∷ slice_set rest place (draws start u drawn))) (more drawn) start) t
      draw due others = by_test (nat_lt drawn start.count) refl
        where
          by_test : (b : Bool) → nat_lt drawn start.count ≡ b → Result image memory (mach w (joins image start (master ∷ slice_set rest place (draws start u drawn))) (more drawn) start) t
          by_test true e = draw_one due others (grind (arith, nat_tests, e))
          by_test false e = draw_none due others (grind (arith, nat_tests, e))

      -- a control unit that runs a thread
      module _ (keeps : KeepsApart image) (runs : u.state ≡ Runs) (due : (other : ℕ) (x : Unit) → slice_get rest other ≡ Some x → x.state ≡ Draws → 1 + t.draws other ≤ spawns_of log) where
        by_unit : StandsBy start drawn (waiting_of waits).first w.ended p place u Runs
        by_unit = subst (λ state. StandsBy start drawn (waiting_of waits).first w.ended p place u state) runs ((waiting_of waits).section.units place u there)

        may : MayGo w ((waiting_of waits).first + by_unit.0)
        may = (
          actor_inside image master rest drawn start w.threads w.ended p st (waiting_of waits) place u there by_unit.0 by_unit.1 by_unit.2 by_unit.3 by_unit.4 by_unit.5 runs,
          by_unit.5,
          λ zero. let later : 0 < (waiting_of waits).first + by_unit.0 = actor_later image master rest drawn start w.threads w.ended p st (waiting_of waits) place u there by_unit.0 by_unit.1 by_unit.2 by_unit.3 by_unit.4 by_unit.5 runs in absurd (omega (arith, zero, later)),
        )

        -- it began at the block of the spawn
        began : (ask : SpawnAsk) (s : Actor) → start ≡ broadcast s.unit ask → BeginsAt (broadcast s.unit ask) by_unit.0 (p.starts ((waiting_of waits).first + by_unit.0))
        began ask s same = subst (λ b. BeginsAt b by_unit.0 (p.starts ((waiting_of waits).first + by_unit.0))) same ((waiting_of waits).section.begins by_unit.0 by_unit.2)

        comes_here : Does (move image) (p.steps ((waiting_of waits).first + by_unit.0)) (p.starts ((waiting_of waits).first + by_unit.0)) (part_of ((waiting_of waits).first + by_unit.0) log) (record { start = start; unit = u })
        comes_here = subst (λ a. Does (move image) (p.steps ((waiting_of waits).first + by_unit.0)) (p.starts ((waiting_of waits).first + by_unit.0)) (part_of ((waiting_of waits).first + by_unit.0) log) a) by_unit.6 (done.does ((waiting_of waits).first + by_unit.0))

        not_serial : (waiting_of waits).first + by_unit.0 ≡ 0 → ⊥
        not_serial zero_here = let later : 0 < (waiting_of waits).first + by_unit.0 = actor_later image master rest drawn start w.threads w.ended p st (waiting_of waits) place u there by_unit.0 by_unit.1 by_unit.2 by_unit.3 by_unit.4 by_unit.5 runs in omega (arith, zero_here, later)

        -- with one unit, each thread below has ended
        lower_ended : length rest ≡ 1 → LowerEnded w.ended ((waiting_of waits).first + by_unit.0)
        lower_ended one =
            section_lower image rest drawn start w.threads w.ended p (waiting_of waits).first (waiting_of waits).section by_unit.0 (omega (arith, by_unit.1)) (omega (arith, by_unit.2))
            (λ j before r.
            let inside : place < length rest = slice_get_within rest place u there in
            let place_zero : place ≡ 0 = omega (arith, inside, one) in
            let first_run : p.runner 0 ≡ (waiting_of waits).first + j = (run_by_one rest p ((waiting_of waits).first + j) one r).1 in
            let second_run : p.runner 0 ≡ (waiting_of waits).first + by_unit.0 = ap p.runner (sym place_zero) ∙ by_unit.3 in
            omega (arith, first_run, second_run, before))

        pub unit_alone : next_of image start u ≡ next.Local → Result image memory (mach w (master ∷ slice_set rest place (local_of image start u)) drawn start) (took t (suc place))
        unit_alone goes_on =
            let here : Actor = record { start = start; unit = u } in
            let spawner = (waiting_of waits).section.spawner in
            let lives : is_live (local_of image start u).state ≡ true =
            keeps.halts spawner.0 spawner.1 spawner.2 spawner.3 by_unit.0 (p.starts ((waiting_of waits).first + by_unit.0)) (began spawner.2 spawner.1 spawner.4)
            (p.steps ((waiting_of waits).first + by_unit.0)) (part_of ((waiting_of waits).first + by_unit.0) log) here comes_here runs goes_on in
            let moves : move image (p.ends ((waiting_of waits).first + by_unit.0)) ≡ Alone (goes_alone image here) = move_here image p ((waiting_of waits).first + by_unit.0) start u next.Local by_unit.6 runs goes_on ∙ rw lives refl in
            let kept = local_of-kept image start u in
            let v_runs : (local_of image start u).state ≡ Runs = still_runs (local_of image start u).state u.state runs lives kept.state in (
              log,
              goes p ((waiting_of waits).first + by_unit.0) (goes_alone image here),
              record {
                done = done_alone image memory log p ((waiting_of waits).first + by_unit.0) (goes_alone image here) done moves;
                world = w;
                is_world = is_world;
                master = master;
                rest = slice_set rest place (local_of image start u);
                units = refl;
                words = refl;
                printed = refl;
                rising = λ one. rising (sym (length-set rest place (local_of image start u)) ∙ one);
                counted = counted_unit log w.threads p t counted ((waiting_of waits).first + by_unit.0) place (goes_alone image here) (actor_later image master rest drawn start w.threads w.ended p st (waiting_of waits) place u there by_unit.0 by_unit.1 by_unit.2 by_unit.3 by_unit.4 by_unit.5 runs) (actor_inside image master rest drawn start w.threads w.ended p st (waiting_of waits) place u there by_unit.0 by_unit.1 by_unit.2 by_unit.3 by_unit.4 by_unit.5 runs) by_unit.4;
                due = λ waits_on. due_set rest place u (local_of image start u) log (took t (suc place)) there (λ other x differ at is. due other x at is) (λ is. due_runs (sym v_runs ∙ is));
                prompt = λ waits_on. prompt_kept log log p (goes p ((waiting_of waits).first + by_unit.0) (goes_alone image here)) refl (sym (with-other p.steps ((waiting_of waits).first + by_unit.0) 0 (1 + p.steps ((waiting_of waits).first + by_unit.0)) not_serial)) refl (prompt waits_on);
                stands = stands_unit image master rest drawn start w.threads w.ended p st (waiting_of waits) place u there by_unit.0 by_unit.1 by_unit.2 by_unit.3 by_unit.4 by_unit.5 runs (local_of image start u) kept.same.number kept.same.room v_runs;
              },
            )

        pub unit_plain : (ask : Request) → next_of image start u ≡ next.Ask ask → is_plain ask ≡ true → Result image memory (serves image (mach w (master ∷ rest) drawn start) (suc place) u ask) (took t (suc place))
        unit_plain ask asks plain =
            let here : Actor = record { start = start; unit = u } in
            let a : ℕ = (waiting_of waits).first + by_unit.0 in
            let e : Entry Action = plain_entry a u ask in
            let v : Unit = answer_of image start u e.reply in
            let moves : move image (p.ends a) ≡ Acts e.action (answered image here ask) = move_here image p a start u (next.Ask ask) by_unit.6 runs asks in
            let kept = answer_of-kept image start u ask e.reply runs asks plain in
            subst (λ m. Result image memory m (took t (suc place))) (sym (serves_plain image w a start u ask plain (asked_above image start u ask runs asks) (master ∷ rest) (suc place) drawn)) (
              log ++ (e ∷ []),
              goes p a (record { start = start; unit = v }),
              record {
                done = subst (λ x. IsDone image memory (log ++ (e ∷ [])) (goes p a x)) (answered_plain image w a start u ask plain e.reply)
                    (act e (answered image here ask) moves (may, refl, logged_plain image w a start u ask plain) (λ site low high same. no_spawn_plain image w a start u ask plain site low high same));
                world = after_entry image w e;
                is_world = world_more e;
                master = master;
                rest = slice_set rest place v;
                units = refl;
                words = refl;
                printed = refl;
                rising = λ one. let one_here : length rest ≡ 1 = sym (length-set rest place v) ∙ one in rising_more e (rising one_here) (lower_ended one_here);
                counted = subst (λ n. Counted (log ++ (e ∷ [])) n (goes p a (record { start = start; unit = v })) (took t (suc place))) (sym (threads_plain image w a start u ask plain)) (counted_unit (log ++ (e ∷ [])) w.threads p t (counted_entry log w.threads p t counted e) a place (record { start = start; unit = v }) (actor_later image master rest drawn start w.threads w.ended p st (waiting_of waits) place u there by_unit.0 by_unit.1 by_unit.2 by_unit.3 by_unit.4 by_unit.5 runs) (actor_inside image master rest drawn start w.threads w.ended p st (waiting_of waits) place u there by_unit.0 by_unit.1 by_unit.2 by_unit.3 by_unit.4 by_unit.5 runs) by_unit.4);
                due = λ waits_on. due_set rest place u v (log ++ (e ∷ [])) (took t (suc place)) there (λ other x differ at is. due_more log e (t.draws other) (due other x at is)) (λ is. due_runs (sym runs ∙ sym kept.state ∙ is));
                prompt = λ waits_on. prompt_kept log (log ++ (e ∷ [])) p (goes p a (record { start = start; unit = v })) refl (sym (with-other p.steps a 0 (1 + p.steps a) not_serial)) (sym (part_of-other e log 0 (λ h. not_serial (sym h)))) (prompt waits_on);
                stands = subst (λ t. Stands image master (slice_set rest place v) drawn start t (after_entry image w e).ended (goes p a (record { start = start; unit = v }))) (sym (threads_plain image w a start u ask plain))
                    (subst (λ f. Stands image master (slice_set rest place v) drawn start w.threads f (goes p a (record { start = start; unit = v }))) (sym (ended_plain image w a start u ask plain))
                    (stands_unit image master rest drawn start w.threads w.ended p st (waiting_of waits) place u there by_unit.0 by_unit.1 by_unit.2 by_unit.3 by_unit.4 by_unit.5 runs v kept.same.number kept.same.room (kept.state ∙ runs)));
              },
            )

        pub unit_spawns : {A : Type 0} (ask : SpawnAsk) → next_of image start u ≡ next.Ask (request.Spawn ask) → A
        unit_spawns ask asks =
            let spawner = (waiting_of waits).section.spawner in
            absurd (keeps.spawns spawner.0 spawner.1 spawner.2 spawner.3 by_unit.0 (p.starts ((waiting_of waits).first + by_unit.0)) (began spawner.2 spawner.1 spawner.4)
            (p.steps ((waiting_of waits).first + by_unit.0)) (part_of ((waiting_of waits).first + by_unit.0) log) (record { start = start; unit = u }) comes_here runs ask asks)

        -- where the next number is drawn by another log, in which its thread has ended
        pub unit_joins : next_of image start u ≡ next.Ask request.Draw →
            ((log1 : Log) (p1 : Parts) (w1 : World) (rest1 : List Unit) (u1 : Unit) → IsDone image memory log1 p1 → after_log image (opening_world image memory) log1 ≡ w1 → Stands image master rest1 drawn start w1.threads w1.ended p1 → (length rest1 ≡ 1 → EntriesRise image memory log1) → Counted log1 w1.threads p1 (took t (suc place)) → (master.waits ≡ true → IsPrompt (move image) (p1.steps 0) (p1.starts 0) (part_of 0 log1)) → DueBut rest1 place log1 (took t (suc place)) →
            slice_get rest1 place ≡ Some u1 → u1.state ≡ Draws → Result image memory (mach w1 (joins image start (master ∷ slice_set rest1 place (draws start u1 drawn))) (more drawn) start) (took t (suc place))) →
            Result image memory (mach w (joins image start (master ∷ slice_set rest place (answer_of image start u drawn))) (more drawn) start) (took t (suc place))
        unit_joins asks draws_on =
            let here : Actor = record { start = start; unit = u } in
            let a : ℕ = (waiting_of waits).first + by_unit.0 in
            let e : Entry Action = record { actor = a; action = Ended; reply = 0 } in
            let moves : move image (p.ends a) ≡ Acts Ended (answered image here request.Draw) = move_here image p a start u (next.Ask request.Draw) by_unit.6 runs asks in
            let behind : Actor = record { start = start; unit = stops u } in
            let more_done : IsDone image memory (log ++ (e ∷ [])) (goes p a behind) = act e (answered image here request.Draw) moves (may, refl, tt) (λ site low high same. cc) in
            let units : slice_set (slice_set rest place (ready u)) place (draws start u drawn) ≡ slice_set rest place (answer_of image start u drawn) =
            set-set rest place (ready u) (draws start u drawn) ∙ ap (slice_set rest place) (sym (answer_of-join image start u drawn runs asks)) in
            subst (λ us. Result image memory (mach w (joins image start (master ∷ us)) (more drawn) start) (took t (suc place))) units
            (draws_on (log ++ (e ∷ [])) (goes p a behind) (after_entry image w e) (slice_set rest place (ready u)) (ready u) more_done (world_more e)
            (stands_ended image master rest drawn start w.threads w.ended p st (waiting_of waits) place u there by_unit.0 by_unit.1 by_unit.2 by_unit.3 by_unit.4 by_unit.5 runs behind)
            (λ one. let one_here : length rest ≡ 1 = sym (length-set rest place (ready u)) ∙ one in rising_more e (rising one_here) (lower_ended one_here))
            (counted_unit (log ++ (e ∷ [])) w.threads p t (counted_entry log w.threads p t counted e) a place behind (actor_later image master rest drawn start w.threads w.ended p st (waiting_of waits) place u there by_unit.0 by_unit.1 by_unit.2 by_unit.3 by_unit.4 by_unit.5 runs) (actor_inside image master rest drawn start w.threads w.ended p st (waiting_of waits) place u there by_unit.0 by_unit.1 by_unit.2 by_unit.3 by_unit.4 by_unit.5 runs) by_unit.4)
            (λ waits_on. prompt_kept log (log ++ (e ∷ [])) p (goes p a behind) refl (sym (with-other p.steps a 0 (1 + p.steps a) not_serial)) (sym (part_of-other e log 0 (λ h. not_serial (sym h)))) (prompt waits_on))
            (λ other x differ at is. due_more log e (t.draws other) (due other x (sym (get-set_other rest place other (ready u) (λ h. differ (sym h))) ∙ at) is))
            (get-set_same rest place u (ready u) there) refl)
