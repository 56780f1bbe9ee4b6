-- One turn of a unit.
use Rattle.std.proofs.Common.{◌≡◌, refl, sym, ◌∙◌, ap, subst, ℕ, suc, zero, ◌+◌, ◌≤◌, ◌==◌, not, ◌&&◌, Bool, true, false, if◌then◌else◌, List, [], ◌∷◌, length, Option, Some, None, slice_get, slice_set, arith, ◌⊎◌, inl, inr}
use Rattle.std.specs.Option.{IsSomeAnd}
use Rattle.xmt_isa.specs.declared.image.Image.{Image}
use Rattle.xmt_isa.specs.declared.unit.Start.{Start}
use Rattle.xmt_isa.specs.declared.unit.Unit.{Unit}
use Rattle.xmt_isa.specs.declared.unit.UnitState.{UnitState}
use Rattle.xmt_isa.specs.declared.unit.UnitState.TheVariants.{Draws, Runs, Stopped, Halted}
use Rattle.xmt_isa.specs.declared.unit.Request.{Request}
use Rattle.xmt_isa.specs.declared.unit.Next.{Next}
use Rattle.xmt_isa.specs.Step.{more, next_of, local_of}
use Rattle.xmt_isa.specs.Machine.{Machine, joins, serves, moves, turn_of, turn, after}
use Rattle.xmt_isa.specs.Picked.{is_live, is_active, is_trap}
use Rattle.xmt_isa.specs.Legal.{HasTurn, IsLegal}
use Rattle.xmt_isa.specs.Threads.{move, main_actor}
use Rattle.interleaving.specs.Actors.{part_of, Does, IsPrompt, with_state, turns_of}
use Rattle.machine_log.specs.Log.{Log, World, opening_world, after_log}
use Rattle.machine_places.specs.Keeps.{KeepsApart}
use Rattle.machine_log.specs.Done.{Parts, spawns_of, IsDone, EntriesRise}
use Rattle.machine_log.proofs.Follows.{Tallies, Counted, took, drew, Stands, IsSerial, IsWaiting, Follows}
use Rattle.interleaving.proofs.Interleave.{eq_of, with_state-same}
use Rattle.interleaving.proofs.Grows.{differs, with-other}
use Rattle.machine_places.proofs.Lists.{alike, some_same}
use Rattle.machine_places.proofs.Units.{answer_of-draws, next_of-draws}
use Rattle.machine_log.proofs.Counts.{counted_drew}
use Rattle.xmt_isa.specs.declared.unit.Request.TheVariants as request
use Rattle.xmt_isa.specs.declared.unit.Next.TheVariants as next
use Rattle.machine_log.proofs.Standing.{never_true, never_false, mach}
use Rattle.machine_runs.proofs.Steps.{Result, master_alone, master_halts, master_plain, master_spawns, draw, unit_alone, unit_plain, unit_spawns, unit_joins}

-- ---- a turn

some_of : {A : Type 0} (o : Option A) (P : A → Type 0) → IsSomeAnd o P → (x : A) × (o ≡ Some x) × P x
some_of None P holds = absurd holds
some_of (Some x) P holds = (x, refl, holds)

pub master_active : (number : ℕ) (waits live : Bool) → number ≡ 0 → (live && (if number == 0 then not waits else waits)) ≡ true → waits ≡ false
master_active number true true is h = let here : (number == 0) ≡ true = grind (arith, is) in let never : (true && (if true then not true else true)) ≡ true = rw here at h in cc
master_active number true false is h = cc
master_active number false live is h = refl

pub unit_active : (number place : ℕ) (waits live : Bool) → number ≡ 1 + place → (live && (if number == 0 then not waits else waits)) ≡ true → (waits ≡ true) × (live ≡ true)
unit_active number place true true is h = (refl, refl)
unit_active number place true false is h = cc
unit_active number place false true is h = let later : (number == 0) ≡ false = grind (arith, is) in let never : (true && (if false then not false else false)) ≡ true = rw later at h in cc
unit_active number place false false is h = cc

module _ (image : Image) (memory : List ℕ) (keeps : KeepsApart image) (log : Log) (p : Parts) (done : IsDone image memory log p) (w : World) (is_world : after_log image (opening_world image memory) log ≡ w) (start : Start) (drawn : ℕ) (master : Unit) (rest : List Unit) (st : Stands image master rest drawn start w.threads w.ended p) (rising : length rest ≡ 1 → EntriesRise image memory log) (t : Tallies) (counted : Counted log w.threads p t) (prompt : master.waits ≡ true → IsPrompt (move image) (p.steps 0) (p.starts 0) (part_of 0 log)) (due : master.waits ≡ true → (place : ℕ) (u : Unit) → slice_get rest place ≡ Some u → u.state ≡ Draws → 1 + t.draws place ≤ spawns_of log) where
  -- some tallies with one turn more
  abbrev Turned : (k : ℕ) → Machine → Type 0
  Turned k m = (more : Tallies) × (more.turns ≡ with_state t.turns k (1 + t.turns k)) × Result image memory m more

  master_turn : is_active master.waits master ≡ true → is_trap (next_of image start master) ≡ false → Result image memory (moves image (mach w (master ∷ rest) drawn start) 0 master (next_of image start master)) (took t 0)
  master_turn active untrapped = by_phase st.phase
    where
      by_local : IsSerial master start w.threads w.ended p → master.state ≡ Runs → w.ended 0 ≡ false → next_of image start master ≡ next.Local → (b : Bool) → is_live (local_of image start master).state ≡ b → Result image memory (mach w (local_of image start master ∷ rest) drawn start) (took t 0)
      by_local serial runs live is true lives = master_alone image memory log p done w is_world start drawn master rest st rising t counted prompt serial runs live is lives
      by_local serial runs live is false ends = master_halts image memory log p done w is_world start drawn master rest st rising t counted prompt serial runs live is ends

      by_request : IsSerial master start w.threads w.ended p → master.state ≡ Runs → w.ended 0 ≡ false → (ask : Request) → next_of image start master ≡ next.Ask ask → Result image memory (serves image (mach w (master ∷ rest) drawn start) 0 master ask) (took t 0)
      by_request serial runs live (request.Load at) is = master_plain image memory log p done w is_world start drawn master rest st rising t counted prompt serial runs live (request.Load at) is refl
      by_request serial runs live (request.Store at value) is = master_plain image memory log p done w is_world start drawn master rest st rising t counted prompt serial runs live (request.Store at value) is refl
      by_request serial runs live (request.Add at value) is = master_plain image memory log p done w is_world start drawn master rest st rising t counted prompt serial runs live (request.Add at value) is refl
      by_request serial runs live (request.Print text) is = master_plain image memory log p done w is_world start drawn master rest st rising t counted prompt serial runs live (request.Print text) is refl
      by_request serial runs live (request.Spawn ask) is = master_spawns image memory log p done w is_world start drawn master rest st rising t counted prompt serial runs live ask is
      by_request serial runs live request.Draw is =
          absurd (keeps.serial (p.steps 0) (part_of 0 log) (record { start = start; unit = master })
          (subst (λ a. Does (move image) (p.steps 0) (main_actor image) (part_of 0 log) a) serial.stands (subst (λ a. Does (move image) (p.steps 0) a (part_of 0 log) (p.ends 0)) done.serial (done.does 0))) runs is)

      by_next : IsSerial master start w.threads w.ended p → master.state ≡ Runs → w.ended 0 ≡ false → (n : Next) → next_of image start master ≡ n → is_trap n ≡ false → Result image memory (moves image (mach w (master ∷ rest) drawn start) 0 master n) (took t 0)
      by_next serial runs live next.Local is free = by_local serial runs live is (is_live (local_of image start master).state) refl
      by_next serial runs live (next.Trap kind) is free = never_true free
      by_next serial runs live (next.Ask ask) is free = by_request serial runs live ask is

      by_phase : IsSerial master start w.threads w.ended p ⊎ IsWaiting image master rest drawn start w.threads w.ended p → Result image memory (moves image (mach w (master ∷ rest) drawn start) 0 master (next_of image start master)) (took t 0)
      by_phase (inl serial) = elim serial.live [
        | inl h ↦ by_next serial h.0 h.1 (next_of image start master) refl untrapped
        | inr h ↦ let dead : is_live master.state ≡ false = ap is_live h.0 in let never : false ≡ true = rw dead at active in never_false never
      ]
      by_phase (inr waiting) =
          let goes_on : master.waits ≡ false = master_active master.number master.waits (is_live master.state) st.master_number active in
          let never : true ≡ false = sym waiting.waits ∙ goes_on in never_true never

  unit_turn : (place : ℕ) (u : Unit) → slice_get rest place ≡ Some u → is_active master.waits u ≡ true → is_trap (next_of image start u) ≡ false → Turned (suc place) (moves image (mach w (master ∷ rest) drawn start) (suc place) u (next_of image start u))
  unit_turn place u there active untrapped = by_state u.state refl
    where
      found : (master.waits ≡ true) × (is_live u.state ≡ true)
      found = unit_active u.number place master.waits (is_live u.state) (st.numbers place u there) active

      by_request : u.state ≡ Runs → (ask : Request) → next_of image start u ≡ next.Ask ask → Result image memory (serves image (mach w (master ∷ rest) drawn start) (suc place) u ask) (took t (suc place))
      by_request runs (request.Load at) is = unit_plain image memory log p done w is_world start drawn master rest st rising t counted prompt found.0 place u there keeps runs (due found.0) (request.Load at) is refl
      by_request runs (request.Store at value) is = unit_plain image memory log p done w is_world start drawn master rest st rising t counted prompt found.0 place u there keeps runs (due found.0) (request.Store at value) is refl
      by_request runs (request.Add at value) is = unit_plain image memory log p done w is_world start drawn master rest st rising t counted prompt found.0 place u there keeps runs (due found.0) (request.Add at value) is refl
      by_request runs (request.Print text) is = unit_plain image memory log p done w is_world start drawn master rest st rising t counted prompt found.0 place u there keeps runs (due found.0) (request.Print text) is refl
      by_request runs (request.Spawn ask) is = unit_spawns image memory log p done w is_world start drawn master rest st rising t counted prompt found.0 place u there keeps runs (due found.0) ask is
      by_request runs request.Draw is =
          unit_joins image memory log p done w is_world start drawn master rest st rising t counted prompt found.0 place u there keeps runs (due found.0) is
          (λ log1 p1 w1 rest1 u1 done1 is1 st1 rising1 counted1 prompt1 others1 there1 due1. draw image memory log1 p1 done1 w1 is1 start drawn master rest1 st1 rising1 (took t (suc place)) counted1 prompt1 found.0 place u1 there1 due1 others1)

      by_next : u.state ≡ Runs → (n : Next) → next_of image start u ≡ n → is_trap n ≡ false → Result image memory (moves image (mach w (master ∷ rest) drawn start) (suc place) u n) (took t (suc place))
      by_next runs next.Local is free = unit_alone image memory log p done w is_world start drawn master rest st rising t counted prompt found.0 place u there keeps runs (due found.0) is
      by_next runs (next.Trap kind) is free = never_true free
      by_next runs (next.Ask ask) is free = by_request runs ask is

      by_state : (state : UnitState) → u.state ≡ state → Turned (suc place) (moves image (mach w (master ∷ rest) drawn start) (suc place) u (next_of image start u))
      by_state Draws is = (
        drew t place,
        refl,
        subst (λ n. Result image memory (moves image (mach w (master ∷ rest) drawn start) (suc place) u n) (drew t place)) (sym (next_of-draws image start u is))
            (subst (λ v. Result image memory (mach w (joins image start (master ∷ slice_set rest place v)) (more drawn) start) (drew t place)) (sym (answer_of-draws image start u drawn is))
            (draw image memory log p done w is_world start drawn master rest st rising (drew t place) (counted_drew log w.threads p t counted place (due found.0 place u there is)) prompt found.0 place u there is
            (λ other x differ at due_here. subst (λ n. 1 + n ≤ spawns_of log) (sym (with-other t.draws place other (1 + t.draws place) (λ h. differ (sym h)))) (due found.0 other x at due_here)))),
      )
      by_state Runs is = (took t (suc place), refl, by_next is (next_of image start u) refl untrapped)
      by_state Stopped is = let never : false ≡ true = ap is_live (sym is) ∙ found.1 in never_false never
      by_state Halted is = let never : false ≡ true = ap is_live (sym is) ∙ found.1 in never_false never

  turn_here : (k : ℕ) → HasTurn image (mach w (master ∷ rest) drawn start) k → Turned k (turn image (mach w (master ∷ rest) drawn start) k)
  turn_here zero has = (took t 0, refl, master_turn has.0 has.1)
  turn_here (suc place) has =
      let first = some_of (slice_get rest place) (λ u. is_active master.waits u ≡ true) has.0 in
      let second = some_of (slice_get rest place) (λ u. is_trap (next_of image start u) ≡ false) has.1 in
      let same : second.0 ≡ first.0 = some_same second.0 first.0 (sym second.1 ∙ first.1) in
      subst (λ o. Turned (suc place) (turn_of image (mach w (master ∷ rest) drawn start) (suc place) o)) (sym first.1)
      (unit_turn place first.0 first.1 first.2 (subst (λ u. is_trap (next_of image start u) ≡ false) same second.2))

-- each turn keeps a log
pub turn_follows : (image : Image) (memory : List ℕ) (m : Machine) (log : Log) (p : Parts) (t : Tallies) (k : ℕ) → KeepsApart image → HasTurn image m k → Follows image memory m log p t →
    (more : Tallies) × (more.turns ≡ with_state t.turns k (1 + t.turns k)) × (more_log : Log) × (q : Parts) × Follows image memory (turn image m k) more_log q more
turn_follows image memory m log p t k keeps has f =
    let same : m ≡ mach f.world (f.master ∷ f.rest) m.drawn m.start = alike m.units (f.master ∷ f.rest) m.words f.world.words m.drawn m.start m.out f.world.printed f.units f.words f.printed in
    let r = turn_here image memory keeps log p f.done f.world f.is_world m.start m.drawn f.master f.rest f.stands f.rising t f.counted f.prompt f.due k (subst (λ x. HasTurn image x k) same has) in
    let back = subst (λ x. Result image memory (turn image x k) r.0) (sym same) r.2 in
    (r.0, r.1, back.0, back.1, back.2)

-- and so does each schedule
pub after_follows : (image : Image) (memory : List ℕ) (schedule : List ℕ) (m : Machine) (log : Log) (p : Parts) (t : Tallies) → KeepsApart image → IsLegal image m schedule → Follows image memory m log p t →
    (more : Tallies) × ((k : ℕ) → more.turns k ≡ t.turns k + turns_of k schedule) × (more_log : Log) × (q : Parts) × Follows image memory (after image m schedule) more_log q more
after_follows image memory [] m log p t keeps legal f = (t, (λ k. omega arith), log, p, f)
after_follows image memory (k ∷ schedule) m log p t keeps legal f =
    let r = turn_follows image memory m log p t k keeps legal.0 f in
    let rest = after_follows image memory schedule (turn image m k) r.2 r.3 r.0 keeps legal.1 r.4 in
    (rest.0, (λ j. rest.1 j ∙ ap (λ f. f j + turns_of j schedule) r.1 ∙ by_test j (j == k) refl), rest.2, rest.3, rest.4)
  where
    by_test : (j : ℕ) (b : Bool) → (j == k) ≡ b → with_state t.turns k (1 + t.turns k) j + turns_of j schedule ≡ t.turns j + (if b then suc (turns_of j schedule) else turns_of j schedule)
    by_test j true e = let same : j ≡ k = eq_of j k e in let here : with_state t.turns k (1 + t.turns k) j ≡ 1 + t.turns j = ap (with_state t.turns k (1 + t.turns k)) same ∙ with_state-same t.turns k (1 + t.turns k) ∙ ap (λ x. 1 + t.turns x) (sym same) in omega (arith, here)
    by_test j false e = let here : with_state t.turns k (1 + t.turns k) j ≡ t.turns j = with-other t.turns k j (1 + t.turns k) (λ h. differs j k e (sym h)) in omega (arith, here)
