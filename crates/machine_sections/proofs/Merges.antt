-- The units of a section, one turn at a time.
use Rattle.std.proofs.Common.{◌≡◌, refl, sym, ◌∙◌, ap, subst, ℕ, suc, zero, ◌+◌, ◌<◌, ◌≤◌, ◌==◌, nat_lt, Bool, true, false, if◌then◌else◌, List, [], ◌∷◌, map, length, Some, slice_get, slice_set, slice_index, arith, ◌⊎◌, inl, inr}
use Rattle.std.specs.Prelude.{⊤}
use Rattle.std.specs.Option.{IsSomeAnd}
use Rattle.std.proofs.lemmas.Bool.Decides.{nat_tests}
use Rattle.std.proofs.lemmas.List.{length-set}
use Rattle.std.specs.List.{list_all}
use Rattle.interleaving.specs.Actors.{Rests, Alone, Acts, Entry, part_of, Does, with_state, IsLawfulBy, Leads, IsPrepared}
use Rattle.interleaving.proofs.Interleave.{interleaves}
use Rattle.interleaving.proofs.Grows.{with-at}
use Rattle.xmt_isa.specs.declared.image.Image.{Image}
use Rattle.xmt_isa.specs.declared.unit.Start.{Start}
use Rattle.xmt_isa.specs.declared.unit.Unit.{Unit}
use Rattle.xmt_isa.specs.declared.unit.UnitState.{UnitState}
use Rattle.xmt_isa.specs.declared.unit.UnitState.TheVariants.{Draws, Runs, Stopped, Halted}
use Rattle.xmt_isa.specs.declared.unit.Request.{Request}
use Rattle.xmt_isa.specs.declared.unit.Request.TheVariants as request
use Rattle.xmt_isa.specs.declared.unit.Next.{Next}
use Rattle.xmt_isa.specs.declared.unit.Next.TheVariants as next
use Rattle.xmt_isa.specs.Step.{next_of, local_of, answer_of, draws}
use Rattle.xmt_isa.specs.Machine.{Machine, is_stopped, joins, serves, moves, turn_of, turn, after}
use Rattle.xmt_isa.specs.Picked.{is_live, is_active, is_trap}
use Rattle.xmt_isa.specs.Legal.{HasTurn, IsLegal}
use Rattle.xmt_isa.specs.Threads.{begins, number_at, stops}
use Rattle.machine_places.proofs.Lists.{get-set_same, get-set_other, all_false, active_unit, alike}
use Rattle.machine_places.proofs.Units.{local_of-kept, answer_of-kept, answer_of-join, answer_of-draws, next_of-draws, is_plain}
use Rattle.machine_sections.specs.Merge.{Cells, after_request, told, IsOfBlock, after_cell, IsTold, GoesOn, SectionsMerge, unit_move_by, unit_move}

-- ---- a unit by itself

module _ (image : Image) (start : Start) where
  -- what a unit that moves alone is at
  record MovesAlone (u s : Unit) : Type 0 where
    runs : u.state ≡ Runs
    goes : next_of image start u ≡ next.Local
    is : s ≡ local_of image start u

  alone_by_next : (u s : Unit) (n : Next) → u.state ≡ Runs → next_of image start u ≡ n → unit_move_by image start u n ≡ Alone s → MovesAlone u s
  alone_by_next u s next.Local runs is moves = record { runs = runs; goes = is; is = (let same : s ≡ local_of image start u = cc in same) }
  alone_by_next u s (next.Trap kind) runs is moves = cc
  alone_by_next u s (next.Ask ask) runs is moves = cc

  moved_alone : (u s : Unit) (state : UnitState) → u.state ≡ state → (if is_live state then unit_move_by image start u (next_of image start u) else Rests) ≡ Alone s → MovesAlone u s
  moved_alone u s Draws is moves = let due : unit_move_by image start u (next.Ask request.Draw) ≡ Alone s = ap (unit_move_by image start u) (sym (next_of-draws image start u is)) ∙ moves in cc
  moved_alone u s Runs is moves = alone_by_next u s (next_of image start u) is refl moves
  moved_alone u s Stopped is moves = cc
  moved_alone u s Halted is moves = cc

  record MovesBy (u : Unit) (ask : Request) (left : ℕ → Unit) : Type 0 where
    live : is_live u.state ≡ true
    asks : next_of image start u ≡ next.Ask ask
    is : left ≡ answer_of image start u

  acts_by_next : (u : Unit) (ask : Request) (left : ℕ → Unit) (n : Next) → is_live u.state ≡ true → next_of image start u ≡ n → unit_move_by image start u n ≡ Acts ask left → MovesBy u ask left
  acts_by_next u ask left next.Local live is moves = cc
  acts_by_next u ask left (next.Trap kind) live is moves = cc
  acts_by_next u ask left (next.Ask other) live is moves =
      let same : other ≡ ask = cc in
      let there : answer_of image start u ≡ left = cc in
      record { live = live; asks = is ∙ ap (λ a. next.Ask a) same; is = sym there }

  moved_by : (u : Unit) (ask : Request) (left : ℕ → Unit) (b : Bool) → is_live u.state ≡ b → (if b then unit_move_by image start u (next_of image start u) else Rests) ≡ Acts ask left → MovesBy u ask left
  moved_by u ask left true is moves = acts_by_next u ask left (next_of image start u) is refl moves
  moved_by u ask left false is moves = cc

-- ---- turns that are taken

leads_legal : (image : Image) (c end : Machine) (schedule : List ℕ) → Leads (λ m place. turn image m (suc place)) (λ m place. HasTurn image m (suc place)) c schedule end → IsLegal image c (map suc schedule) × (after image c (map suc schedule) ≡ end)
leads_legal image c end [] h = (tt, sym h)
leads_legal image c end (place ∷ schedule) h =
    let rest : IsLegal image (turn image c (suc place)) (map suc schedule) × (after image (turn image c (suc place)) (map suc schedule) ≡ end) = leads_legal image (turn image c (suc place)) end schedule h.1 in
    ((h.0, rest.0), rest.1)

-- ---- a machine that units stand for

record HoldsUnits (image : Image) (start : Start) (master : Unit) (out : List ℕ) (count : ℕ) (m : Machine) (c : Cells) (states : ℕ → Unit) : Type 0 where
  rest : List Unit
  size : length rest ≡ count
  at : (place : ℕ) → place < count → slice_get rest place ≡ Some (states place)
  numbers : (place : ℕ) → place < count → (states place).number ≡ 1 + place
  machine : m ≡ record { units = joins image start (master ∷ rest); words = c.words; drawn = c.drawn; start = start; out = out }

-- ---- a turn of one unit

live_stopped : (state : UnitState) → is_live state ≡ true → is_stopped state ≡ false
live_stopped Draws h = refl
live_stopped Runs h = refl
live_stopped Stopped h = cc
live_stopped Halted h = refl

joins-open : (image : Image) (start : Start) (master : Unit) (rest : List Unit) → list_all (λ u. is_stopped u.state) rest ≡ false → joins image start (master ∷ rest) ≡ master ∷ rest
joins-open image start master rest h = rw h refl

either_number : (b : Bool) (x y : Unit) (n : ℕ) → x.number ≡ n → y.number ≡ n → (if b then x else y).number ≡ n
either_number true x y n p q = p
either_number false x y n p q = q

draws-number : (start : Start) (u : Unit) (k : ℕ) → (draws start u k).number ≡ u.number
draws-number start u k = either_number (nat_lt k start.count) (begins start u (number_at start k)) (stops u) u.number refl refl

module _ (image : Image) (start : Start) (master : Unit) (waits : master.waits ≡ true) (out : List ℕ) (count : ℕ) where
  abbrev Holds : Machine → Cells → (ℕ → Unit) → Type 0
  Holds m c states = HoldsUnits image start master out count m c states

  abbrev open_at : Cells → List Unit → Machine
  open_at c units = record { units = units; words = c.words; drawn = c.drawn; start = start; out = out }

  -- the other units stay
  at_set : (rest : List Unit) (states : ℕ → Unit) (t : ℕ) (u v : Unit) → slice_get rest t ≡ Some u → ((place : ℕ) → place < count → slice_get rest place ≡ Some (states place)) →
      (place : ℕ) → place < count → slice_get (slice_set rest t v) place ≡ Some (with_state states t v place)
  at_set rest states t u v there at place inside = with-at (λ k x. slice_get (slice_set rest t v) k ≡ Some x) states t place v
      (λ same. ap (slice_get (slice_set rest t v)) (sym same) ∙ get-set_same rest t u v there)
      (λ other. get-set_other rest t place v other ∙ at place inside)

  numbers_kept : (states : ℕ → Unit) (t : ℕ) (v : Unit) → v.number ≡ (states t).number → ((place : ℕ) → place < count → (states place).number ≡ 1 + place) → (place : ℕ) → place < count → (with_state states t v place).number ≡ 1 + place
  numbers_kept states t v same numbers place inside = with-at (λ k x. x.number ≡ 1 + k) states t place v
      (λ here. same ∙ ap (λ k. (states k).number) here ∙ numbers place inside)
      (λ other. numbers place inside)

  module _ (m : Machine) (c : Cells) (states : ℕ → Unit) (t : ℕ) (inside : t < count) (h : Holds m c states) where
    -- while a unit is live, the section goes on
    stays_open : is_live (states t).state ≡ true → m ≡ open_at c (master ∷ h.rest)
    stays_open live = h.machine ∙ ap (open_at c) (joins-open image start master h.rest (all_false (λ (u : Unit). is_stopped u.state) h.rest t (states t) (h.at t inside) (live_stopped (states t).state live)))

    turn_there : is_live (states t).state ≡ true → turn image m (suc t) ≡ moves image (open_at c (master ∷ h.rest)) (suc t) (states t) (next_of image start (states t))
    turn_there live = ap (λ x. turn image x (suc t)) (stays_open live) ∙ ap (turn_of image (open_at c (master ∷ h.rest)) (suc t)) (h.at t inside)

    has_there : is_live (states t).state ≡ true → is_trap (next_of image start (states t)) ≡ false → HasTurn image m (suc t)
    has_there live untrapped =
        let active : is_active master.waits (states t) ≡ true = active_unit (states t).number t master.waits (is_live (states t).state) (h.numbers t inside) waits live in
        subst (λ x. HasTurn image x (suc t)) (sym (stays_open live)) (subst (λ o. IsSomeAnd o (λ u. is_active master.waits u ≡ true) × IsSomeAnd o (λ u. is_trap (next_of image start u) ≡ false)) (sym (h.at t inside)) (active, untrapped))

    -- a unit in the place of another
    holds_set : (v : Unit) (d : Cells) (x : Machine) → v.number ≡ (states t).number → x ≡ open_at d (joins image start (master ∷ slice_set h.rest t v)) → Holds x d (with_state states t v)
    holds_set v d x number is =
        record {
          rest = slice_set h.rest t v;
          size = length-set h.rest t v ∙ h.size;
          at = at_set h.rest states t (states t) v (h.at t inside) h.at;
          numbers = numbers_kept states t v number h.numbers;
          machine = is;
        }

    goes_alone : (s : Unit) → unit_move image start (states t) ≡ Alone s → HasTurn image m (suc t) × Holds (turn image m (suc t)) c (with_state states t s)
    goes_alone s moves_to =
        let a = moved_alone image start (states t) s (states t).state refl moves_to in
        let live : is_live (states t).state ≡ true = ap is_live a.runs in
        let kept = local_of-kept image start (states t) in
        let untrapped : is_trap (next_of image start (states t)) ≡ false = ap is_trap a.goes in
        let unstopped : is_stopped s.state ≡ false = ap (λ (x : Unit). is_stopped x.state) a.is ∙ local_unstopped (local_of image start (states t)).state (states t).state a.runs kept.state in
        let went : turn image m (suc t) ≡ open_at c (master ∷ slice_set h.rest t s) = turn_there live ∙ ap (moves image (open_at c (master ∷ h.rest)) (suc t) (states t)) a.goes ∙ ap (λ v. open_at c (master ∷ slice_set h.rest t v)) (sym a.is) in
        let still : joins image start (master ∷ slice_set h.rest t s) ≡ master ∷ slice_set h.rest t s = joins-open image start master (slice_set h.rest t s) (all_false (λ (u : Unit). is_stopped u.state) (slice_set h.rest t s) t s (get-set_same h.rest t (states t) s (h.at t inside)) unstopped) in
        (has_there live untrapped, holds_set s c (turn image m (suc t)) (ap (λ (x : Unit). x.number) a.is ∙ kept.same.number) (went ∙ ap (open_at c) (sym still)))
      where
        local_unstopped : (new old : UnitState) → old ≡ Runs → (new ≡ old) ⊎ (new ≡ Halted) → is_stopped new ≡ false
        local_unstopped new old runs (inl e) = ap is_stopped (e ∙ runs)
        local_unstopped new old runs (inr e) = ap is_stopped e

    served : (ask : Request) → IsOfBlock ask → (u : Unit) → is_live u.state ≡ true → slice_get h.rest t ≡ Some u → next_of image start u ≡ next.Ask ask →
        ((answer_of image start u (told c ask)).number ≡ u.number) × (serves image (open_at c (master ∷ h.rest)) (suc t) u ask ≡ open_at (after_request c ask) (joins image start (master ∷ slice_set h.rest t (answer_of image start u (told c ask)))))
    served ask of_block u live there asks = by_ask ask of_block asks
      where
        runs_of : (plain : Request) → next_of image start u ≡ next.Ask plain → is_plain plain ≡ true → (state : UnitState) → u.state ≡ state → is_live state ≡ true → u.state ≡ Runs
        runs_of plain is h Draws due lives = let same : request.Draw ≡ plain = (let e : next.Ask request.Draw ≡ next.Ask plain = sym (next_of-draws image start u due) ∙ is in cc) in let never : false ≡ true = ap is_plain same ∙ h in cc
        runs_of plain is h Runs due lives = due
        runs_of plain is h Stopped due lives = cc
        runs_of plain is h Halted due lives = cc

        still_open : (plain : Request) → next_of image start u ≡ next.Ask plain → is_plain plain ≡ true → (reply : ℕ) →
            ((answer_of image start u reply).number ≡ u.number) × (master ∷ slice_set h.rest t (answer_of image start u reply) ≡ joins image start (master ∷ slice_set h.rest t (answer_of image start u reply)))
        still_open plain is h_plain reply =
            let runs : u.state ≡ Runs = runs_of plain is h_plain u.state refl live in
            let kept = answer_of-kept image start u plain reply runs is h_plain in
            let v : Unit = answer_of image start u reply in
            let unstopped : is_stopped v.state ≡ false = ap is_stopped (kept.state ∙ runs) in
            (kept.same.number, sym (joins-open image start master (slice_set h.rest t v) (all_false (λ (x : Unit). is_stopped x.state) (slice_set h.rest t v) t v (get-set_same h.rest t u v there) unstopped)))

        drawn_number : (state : UnitState) → u.state ≡ state → is_live state ≡ true → next_of image start u ≡ next.Ask request.Draw → (k : ℕ) → (answer_of image start u k).number ≡ u.number
        drawn_number Draws due lives is k = ap (λ (x : Unit). x.number) (answer_of-draws image start u k due) ∙ draws-number start u k
        drawn_number Runs due lives is k = ap (λ (x : Unit). x.number) (answer_of-join image start u k due is) ∙ draws-number start u k
        drawn_number Stopped due lives is k = cc
        drawn_number Halted due lives is k = cc

        by_ask : (ask : Request) → IsOfBlock ask → next_of image start u ≡ next.Ask ask → ((answer_of image start u (told c ask)).number ≡ u.number) × (serves image (open_at c (master ∷ h.rest)) (suc t) u ask ≡ open_at (after_request c ask) (joins image start (master ∷ slice_set h.rest t (answer_of image start u (told c ask)))))
        by_ask (request.Load at) of is = let o = still_open (request.Load at) is refl (slice_index c.words at) in (o.0, ap (open_at (after_request c (request.Load at))) o.1)
        by_ask (request.Store at value) of is = let o = still_open (request.Store at value) is refl 0 in (o.0, ap (open_at (after_request c (request.Store at value))) o.1)
        by_ask (request.Add at value) of is = let o = still_open (request.Add at value) is refl (slice_index c.words at) in (o.0, ap (open_at (after_request c (request.Add at value))) o.1)
        by_ask request.Draw of is = (drawn_number u.state refl live is c.drawn, refl)
        by_ask (request.Print text) of is = absurd of
        by_ask (request.Spawn ask) of is = absurd of

    goes_acting : (e : Entry Request) (left : ℕ → Unit) → t ≡ e.actor → (e.reply ≡ told c e.action) → IsOfBlock e.action → unit_move image start (states t) ≡ Acts e.action left →
        HasTurn image m (suc t) × Holds (turn image m (suc t)) (after_cell c e) (with_state states t (left e.reply))
    goes_acting e left here reply of_block moves_to =
        let a = moved_by image start (states t) e.action left (is_live (states t).state) refl moves_to in
        let untrapped : is_trap (next_of image start (states t)) ≡ false = ap is_trap a.asks in
        let s = served e.action of_block (states t) a.live (h.at t inside) a.asks in
        let went : turn image m (suc t) ≡ open_at (after_request c e.action) (joins image start (master ∷ slice_set h.rest t (answer_of image start (states t) (told c e.action)))) =
        turn_there a.live ∙ ap (moves image (open_at c (master ∷ h.rest)) (suc t) (states t)) a.asks ∙ s.1 in
        let behind : left e.reply ≡ answer_of image start (states t) (told c e.action) = ap (λ f. f e.reply) a.is ∙ ap (answer_of image start (states t)) reply in (
          has_there a.live untrapped,
          subst (λ v. Holds (turn image m (suc t)) (after_request c e.action) (with_state states t v)) (sym behind)
              (holds_set (answer_of image start (states t) (told c e.action)) (after_request c e.action) (turn image m (suc t)) s.0 went),
        )

-- ---- all units

abbrev unit_at : List Unit → Unit → ℕ → Unit
unit_at [] other place = other
unit_at (u ∷ us) other zero = u
unit_at (u ∷ us) other (suc place) = unit_at us other place

get-unit_at : (units : List Unit) (other : Unit) (place : ℕ) → place < length units → slice_get units place ≡ Some (unit_at units other place)
get-unit_at [] other place inside = absurd (omega (arith, inside))
get-unit_at (u ∷ us) other zero inside = refl
get-unit_at (u ∷ us) other (suc place) inside = get-unit_at us other place (omega (arith, inside))

part_outside : (count : ℕ) (order : List (Entry Request)) (c : Cells) (t : ℕ) → IsLawfulBy after_cell (IsTold count) c order → count ≤ t → part_of t order ≡ []
part_outside count [] c t lawful past = refl
part_outside count (e ∷ order) c t lawful past =
    let inside : e.actor < count = lawful.0.0 in
    let other : (t == e.actor) ≡ false = grind (arith, inside, past) in
    rw other (part_outside count order (after_cell c e) t lawful.1 past)

-- what one unit does by itself, also where there is none
record OwnPart (image : Image) (start : Start) (u : Unit) (part : List (Entry Request)) (inside : Type 0) (new : Unit) : Type 0 where
  steps : ℕ
  mid : Unit
  does : Does (unit_move image start) steps u part mid
  ends : inside → new ≡ record mid { waits = new.waits }

same_some : (x y : Unit) → Some x ≡ Some y → x ≡ y
same_some x y same = cc

pub all_sections_merge : SectionsMerge
all_sections_merge image m master rest order ends opened lawful each =
    let r = interleaves (λ x place. turn image x (suc place)) (λ x place. HasTurn image x (suc place)) (λ t. unit_move image m.start) after_cell (IsTold (length rest)) (λ c t. t < length rest) (λ c states e. ⊤)
    (HoldsUnits image m.start master m.out (length rest))
    (λ c e told_here. told_here.0)
    (λ x c states t s holds inside moves_to. goes_alone image m.start master opened.waits m.out (length rest) x c states t inside holds s moves_to)
    (λ x c states e left holds told_here made moves_to. goes_acting image m.start master opened.waits m.out (length rest) x c states e.actor told_here.0 holds e left refl told_here.1 told_here.2 moves_to)
    (length rest) order m (record { words = m.words; drawn = m.drawn }) (unit_at rest master) (λ t. (own t).steps) (λ t. (own t).mid) holds_first lawful
    (prepared order (record { words = m.words; drawn = m.drawn }) (unit_at rest master)) (λ t. (own t).does) (λ t inside. inl inside) in
    let led = leads_legal image m r.there r.schedule r.leads in
    record {
      schedule = map suc r.schedule;
      there = r.there;
      legal = led.0;
      leads = led.1;
      rest = r.holds.rest;
      units = ap (λ (x : Machine). x.units) r.holds.machine;
      size = r.holds.size;
      each = λ place inside. (r.states place, r.holds.at place inside, subst (λ u. ends place ≡ record u { waits = (ends place).waits }) (sym (r.stands place inside)) ((own place).ends inside));
      goes = λ place inside old u before now.
          let first : slice_get (master ∷ rest) (suc place) ≡ Some old = subst (λ us. slice_get us (suc place) ≡ Some old) opened.units before in
          let begins : unit_at rest master place ≡ old = same_some _ _ (sym (get-unit_at rest master place inside) ∙ first) in
          let ends_at : (own place).mid ≡ u = sym (r.stands place inside) ∙ same_some _ _ (sym (r.holds.at place inside) ∙ now) in
          record {
            part = part_of place order;
            steps = (own place).steps;
            does = subst (λ x. Does (unit_move image m.start) (own place).steps x (part_of place order) u) begins
                (subst (λ x. Does (unit_move image m.start) (own place).steps (unit_at rest master place) (part_of place order) x) ends_at (own place).does);
          };
      words = ap (λ (x : Machine). x.words) r.holds.machine;
      drawn = ap (λ (x : Machine). x.drawn) r.holds.machine;
      start = ap (λ (x : Machine). x.start) r.holds.machine;
      out = ap (λ (x : Machine). x.out) r.holds.machine;
    }
  where
    own : (t : ℕ) → OwnPart image m.start (unit_at rest master t) (part_of t order) (t < length rest) (ends t)
    own t = by_test (nat_lt t (length rest)) refl
      where
        by_test : (b : Bool) → nat_lt t (length rest) ≡ b → OwnPart image m.start (unit_at rest master t) (part_of t order) (t < length rest) (ends t)
        by_test true e =
            let inside : t < length rest = grind (arith, nat_tests, e) in
            let d = each t (unit_at rest master t) (get-unit_at rest master t inside) in
            record { steps = d.0; mid = d.1; does = d.2; ends = λ here. d.3 }
        by_test false e =
            let past : length rest ≤ t = grind (arith, nat_tests, e) in
            record { steps = 0; mid = unit_at rest master t; does = (part_outside (length rest) order (record { words = m.words; drawn = m.drawn }) t lawful past, refl); ends = λ here. absurd (omega (arith, here, past)) }

    holds_first : HoldsUnits image m.start master m.out (length rest) m (record { words = m.words; drawn = m.drawn }) (unit_at rest master)
    holds_first = record {
      rest = rest;
      size = refl;
      at = λ place inside. get-unit_at rest master place inside;
      numbers = λ place inside. opened.numbers place (unit_at rest master place) (get-unit_at rest master place inside);
      machine = alike m.units (joins image m.start (master ∷ rest)) m.words m.words m.drawn m.start m.out m.out (opened.units ∙ sym (joins-open image m.start master rest opened.some)) refl refl;
    }

    prepared : (order : List (Entry Request)) (c : Cells) (states : ℕ → Unit) → IsPrepared (λ t. unit_move image m.start) after_cell (λ c states e. ⊤) c states order
    prepared [] c states = tt
    prepared (e ∷ order) c states = λ steps s left does moves_to. (tt, prepared order (after_cell c e) (with_state states e.actor (left e.reply)))
