-- A valid image keeps its serial code and its blocks apart, and its threads to the words that they share.
use Rattle.std.proofs.Common.{◌≡◌, refl, sym, ◌∙◌, ap, subst, ℕ, suc, zero, ◌+◌, ◌-◌, ◌<◌, ◌≤◌, ◌==◌, Bool, true, false, if◌then◌else◌, List, [], ◌∷◌, length, slice_set, slice_index, arith, ◌⊎◌, inl, inr}
use Rattle.std.proofs.lemmas.List.{length-set}
use Rattle.std.specs.Prelude.{⊤}
use Rattle.xmt_base.specs.Action.{Action}
use Rattle.interleaving.specs.Actors.{Entry, Move, Rests, Alone, Acts, DoesThen, Does}
use Rattle.interleaving.proofs.Interleave.{eq_of}
use Rattle.xmt_isa.specs.declared.image.Image.{Image}
use Rattle.xmt_isa.specs.declared.operation.Operation.TheVariants.{Call}
use Rattle.xmt_isa.specs.declared.unit.Unit.{Unit}
use Rattle.xmt_isa.specs.declared.unit.UnitState.{UnitState}
use Rattle.xmt_isa.specs.declared.unit.UnitState.TheVariants.{Draws, Runs, Stopped, Halted}
use Rattle.xmt_isa.specs.declared.unit.SpawnAsk.{SpawnAsk}
use Rattle.xmt_isa.specs.declared.unit.Start.{Start}
use Rattle.xmt_isa.specs.declared.unit.Request.{Request}
use Rattle.xmt_isa.specs.declared.unit.Request.TheVariants as request
use Rattle.xmt_isa.specs.declared.unit.Next.{Next}
use Rattle.xmt_isa.specs.declared.unit.Next.TheVariants as next
use Rattle.xmt_isa.specs.Step.{next_of, local_of, answer_of}
use Rattle.xmt_isa.specs.Machine.{broadcast, resumes, waits_for, behind_join}
use Rattle.machine_places.proofs.Units.{zeros-index}
use Rattle.xmt_isa.specs.Picked.{is_live}
use Rattle.xmt_isa.specs.Regions.{IsSpawn, IsJoin, IsReturn, IsBlock, IsInside, IsInner, IsInInner}
use Rattle.xmt_isa.specs.Valid.{IsValid}
use Rattle.xmt_isa.specs.Threads.{Actor, move, move_by, move_alone, is_running, answered, goes_alone, main_actor, BeginsAt}
use Rattle.xmt_isa.specs.Traces.{ComesToSpawn}
use Rattle.machine_places.specs.Keeps.{KeepsApart}
use Rattle.interleaving.proofs.Grows.{differs}
use Rattle.machine_places.proofs.Places.{Outside, zero_outside, behind_outside, start_outside, outside_leads, inside_leads, inner_leads, inner_called}
use Rattle.machine_places.proofs.Goes.{Goes, leads, calls, returns, after_alone, after_answer, at_spawn, at_join}

-- ---- what holds of an actor wherever it comes

-- where it runs
abbrev pub IsGood : (Start → Unit → Type 0) → Actor → Type 0
IsGood Fit a = a.unit.state ≡ Runs → Fit a.start a.unit

abbrev GoodMove : (Start → Unit → Type 0) → Move Actor Action → Type 0
GoodMove Fit Rests = ⊤
GoodMove Fit (Alone s) = IsGood Fit s
GoodMove Fit (Acts action left) = (reply : ℕ) → IsGood Fit (left reply)

along : (image : Image) (Fit : Start → Unit → Type 0) → ((a : Actor) → IsGood Fit a → GoodMove Fit (move image a)) → (n : ℕ) (a b : Actor) (part : List (Entry Action)) → IsGood Fit a → Does (move image) n a part b → IsGood Fit b
along image Fit go zero a b part good does = subst (λ x. IsGood Fit x) (sym does.1) good
along image Fit go (suc n) a b part good does = by_move (λ s p h. along image Fit go n s b p h) (move image a) part (go a good) does
  where
    by_move : ((s : Actor) (p : List (Entry Action)) → IsGood Fit s → Does (move image) n s p b → IsGood Fit b) → (m : Move Actor Action) (part : List (Entry Action)) → GoodMove Fit m → DoesThen (Does (move image) n) m part b → IsGood Fit b
    by_move go_on Rests part good h = absurd h
    by_move go_on (Alone s) part good h = go_on s part good h
    by_move go_on (Acts action left) [] good h = absurd h
    by_move go_on (Acts action left) (e ∷ part) good h = go_on (left e.reply) part (good e.reply) h.1

-- ---- the serial code

index-set : (P : ℕ → Type 0) (xs : List ℕ) (d x i : ℕ) → P x → P (slice_index xs i) → P (slice_index (slice_set xs d x) i)
index-set P [] d x i new old = old
index-set P (y ∷ xs) zero x zero new old = new
index-set P (y ∷ xs) zero x (suc i) new old = old
index-set P (y ∷ xs) (suc d) x zero new old = old
index-set P (y ∷ xs) (suc d) x (suc i) new old = index-set P xs d x i new old

record FitsSerial (image : Image) (u : Unit) : Type 0 where
  at : Outside image u.at
  back : (i : ℕ) → Outside image (slice_index u.back i)

module _ (image : Image) (valid : IsValid image) where
  serial_goes : (u v : Unit) → FitsSerial image u → Goes image u v → FitsSerial image v
  serial_goes u v fits (leads o is to depth back) = record { at = outside_leads image valid u.at v.at o is to fits.at; back = subst (λ b. (i : ℕ) → Outside image (slice_index b i)) (sym back) fits.back }
  serial_goes u v fits (calls f is at depth back room) =
      record {
        at = subst (Outside image) (sym at) (start_outside image valid.regions.starts valid.sizes.some_functions f);
        back = subst (λ b. (i : ℕ) → Outside image (slice_index b i)) (sym back) (λ i. index-set (Outside image) u.back u.depth (u.at + 1) i (outside_leads image valid u.at (u.at + 1) (Call f) is refl fits.at) (fits.back i));
      }
  serial_goes u v fits (returns deep at depth back) =
      record { at = subst (Outside image) (sym at) (fits.back (u.depth - 1)); back = subst (λ b. (i : ℕ) → Outside image (slice_index b i)) (sym back) fits.back }

  -- what a move makes of a unit that runs, where a step and an answer keep what fits
  runs_not_halted : {A : Type 0} (state : UnitState) → state ≡ Halted → state ≡ Runs → A
  runs_not_halted state h r = let never : Halted ≡ Runs = sym h ∙ r in cc

  stopped_not_runs : {A : Type 0} → Stopped ≡ Runs → A
  stopped_not_runs h = cc

  module _ (Fit : Start → Unit → Type 0) (keeps : (start : Start) (u v : Unit) → Fit start u → Goes image u v → Fit start v)
      (spawns : (a : Actor) (ask : SpawnAsk) → Fit a.start a.unit → a.unit.state ≡ Runs → next_of image a.start a.unit ≡ next.Ask (request.Spawn ask) → Fit (broadcast a.unit ask) (resumes image (broadcast a.unit ask) (waits_for a.unit))) where
    good_alone : (a : Actor) → Fit a.start a.unit → a.unit.state ≡ Runs → next_of image a.start a.unit ≡ next.Local → IsGood Fit (goes_alone image a)
    good_alone a fits runs is running = elim (after_alone image a.start a.unit runs is) [
      | inl h ↦ keeps a.start a.unit (local_of image a.start a.unit) fits h.0
      | inr h ↦ runs_not_halted (local_of image a.start a.unit).state h.2 running
    ]

    good_by_alone : (a : Actor) → IsGood Fit (goes_alone image a) → (b : Bool) → GoodMove Fit (move_alone image a b)
    good_by_alone a good true = good
    good_by_alone a good false = λ reply. good

    good_by_ask : (a : Actor) → Fit a.start a.unit → a.unit.state ≡ Runs → (ask : Request) → next_of image a.start a.unit ≡ next.Ask ask → (reply : ℕ) → IsGood Fit (answered image a ask reply)
    good_by_ask a fits runs (request.Load at) is reply = λ running. keeps a.start a.unit (answer_of image a.start a.unit reply) fits (after_answer image a.start a.unit (request.Load at) reply runs is refl)
    good_by_ask a fits runs (request.Store at value) is reply = λ running. keeps a.start a.unit (answer_of image a.start a.unit reply) fits (after_answer image a.start a.unit (request.Store at value) reply runs is refl)
    good_by_ask a fits runs (request.Add at value) is reply = λ running. keeps a.start a.unit (answer_of image a.start a.unit reply) fits (after_answer image a.start a.unit (request.Add at value) reply runs is refl)
    good_by_ask a fits runs (request.Print text) is reply = λ running. keeps a.start a.unit (answer_of image a.start a.unit reply) fits (after_answer image a.start a.unit (request.Print text) reply runs is refl)
    good_by_ask a fits runs (request.Spawn ask) is reply = λ running. spawns a ask fits runs is
    good_by_ask a fits runs request.Draw is reply = λ running. stopped_not_runs running

    good_by_next : (a : Actor) → Fit a.start a.unit → a.unit.state ≡ Runs → (n : Next) → next_of image a.start a.unit ≡ n → GoodMove Fit (move_by image a n)
    good_by_next a fits runs next.Local is = good_by_alone a (good_alone a fits runs is) (is_live (local_of image a.start a.unit).state)
    good_by_next a fits runs (next.Trap kind) is = tt
    good_by_next a fits runs (next.Ask ask) is = good_by_ask a fits runs ask is

    good_by_state : (a : Actor) → IsGood Fit a → (state : UnitState) → a.unit.state ≡ state → GoodMove Fit (if is_running state then move_by image a (next_of image a.start a.unit) else Rests)
    good_by_state a good Draws is = tt
    good_by_state a good Runs is = good_by_next a (good is) is (next_of image a.start a.unit) refl
    good_by_state a good Stopped is = tt
    good_by_state a good Halted is = tt

    pub good_along : (n : ℕ) (a b : Actor) (part : List (Entry Action)) → IsGood Fit a → Does (move image) n a part b → IsGood Fit b
    good_along n a b part good does = along image Fit (λ x g. good_by_state x g x.unit.state refl) n a b part good does

  serial_spawns : (a : Actor) (ask : SpawnAsk) → FitsSerial image a.unit → a.unit.state ≡ Runs → next_of image a.start a.unit ≡ next.Ask (request.Spawn ask) → FitsSerial image (resumes image (broadcast a.unit ask) (waits_for a.unit))
  serial_spawns a ask fits runs is =
      let here = at_spawn image a.start a.unit ask runs is in
      let block = valid.regions.spawn_joins a.unit.at here.0 in
      record { at = subst (λ at. Outside image (behind_join image at)) (sym here.1) (behind_outside image a.unit.at block.0 block.1); back = fits.back }

  main_fits : FitsSerial image (main_actor image).unit
  main_fits = record {
    at = start_outside image valid.regions.starts valid.sizes.some_functions image.entry;
    back = λ i. subst (Outside image) (sym (zeros-index 256 i)) (zero_outside image);
  }

  serial_fits : (n : ℕ) (part : List (Entry Action)) (a : Actor) → Does (move image) n (main_actor image) part a → a.unit.state ≡ Runs → FitsSerial image a.unit
  serial_fits n part a does = good_along (λ start. FitsSerial image) (λ start. serial_goes) serial_spawns n (main_actor image) a part (λ running. main_fits) does

  serial_draws_not : (n : ℕ) (part : List (Entry Action)) (a : Actor) → Does (move image) n (main_actor image) part a → a.unit.state ≡ Runs → next_of image a.start a.unit ≡ next.Ask request.Draw → ⊥
  serial_draws_not n part a does runs is =
      let fits : FitsSerial image a.unit = serial_fits n part a does runs in
      let has : IsJoin image a.unit.at = at_join image a.start a.unit runs is in
      let block = valid.regions.join_spawned a.unit.at has in
      let order : block.0 < a.unit.at = block.1.order in
      fits.at (block.0, a.unit.at, block.1, (order, omega arith))

-- ---- a block

index-set_same : (xs : List ℕ) (d x : ℕ) → d < length xs → slice_index (slice_set xs d x) d ≡ x
index-set_same [] d x inside = absurd (omega (arith, inside))
index-set_same (y ∷ xs) zero x inside = refl
index-set_same (y ∷ xs) (suc d) x inside = index-set_same xs d x (omega (arith, inside))

index-set_other : (xs : List ℕ) (d x i : ℕ) → (d ≡ i → ⊥) → slice_index (slice_set xs d x) i ≡ slice_index xs i
index-set_other [] d x i differ = refl
index-set_other (y ∷ xs) zero x zero differ = absurd (differ refl)
index-set_other (y ∷ xs) zero x (suc i) differ = refl
index-set_other (y ∷ xs) (suc d) x zero differ = refl
index-set_other (y ∷ xs) (suc d) x (suc i) differ = index-set_other xs d x i (λ e. differ (ap suc e))

not_zero : (n : ℕ) → (n == 0) ≡ false → 0 < n
not_zero n e = grind (arith, e)

below_more : (i n : ℕ) → i < n + 1 → (i == n) ≡ false → i < n
below_more i n less e = grind (arith, e, less)

-- in the block itself, or in functions that it called
record FitsBlock (image : Image) (spawn join : ℕ) (u : Unit) : Type 0 where
  room : length u.back ≡ 256
  deep : u.depth ≤ 256
  here : ((u.depth ≡ 0) × IsInside spawn join u.at) ⊎ ((0 < u.depth) × IsInInner image u.at × IsInside spawn join (slice_index u.back 0))
  back : (i : ℕ) → 0 < i → i < u.depth → IsInInner image (slice_index u.back i)

module _ (image : Image) (valid : IsValid image) (spawn join : ℕ) (block : IsBlock image spawn join) where
  block_goes : (u v : Unit) → FitsBlock image spawn join u → Goes image u v → FitsBlock image spawn join v
  block_goes u v fits (leads o is to depth back) =
      record {
        room = ap length back ∙ fits.room;
        deep = subst (λ n. n ≤ 256) (sym depth) fits.deep;
        here = elim fits.here [
          | inl h ↦ inl (depth ∙ h.0, inside_leads image valid u.at v.at o is to spawn join block h.1)
          | inr h ↦ inr (subst (λ n. 0 < n) (sym depth) h.0, inner_leads image valid u.at v.at o is to h.1, subst (λ b. IsInside spawn join (slice_index b 0)) (sym back) h.2)
        ];
        back = λ i later less. subst (λ b. IsInInner image (slice_index b i)) (sym back) (fits.back i later (subst (λ n. i < n) depth less));
      }
  block_goes u v fits (calls f is at depth back room) =
      record {
        room = ap length back ∙ length-set u.back u.depth (u.at + 1) ∙ fits.room;
        deep = omega (arith, depth, room);
        here = inr (omega (arith, depth), subst (IsInInner image) (sym at) (inner_called image valid f into), subst (λ b. IsInside spawn join (slice_index b 0)) (sym back) first);
        back = λ i later less. subst (λ b. IsInInner image (slice_index b i)) (sym back) (each i later (subst (λ n. i < n) depth less) (i == u.depth) refl);
      }
    where
      long : length u.back ≡ 256
      long = fits.room

      into : IsInner image f
      into = elim fits.here [
        | inl h ↦ valid.regions.calls u.at f (inl (spawn, join, block, h.1)) is
        | inr h ↦ valid.regions.calls u.at f (inr h.1) is
      ]

      first : IsInside spawn join (slice_index (slice_set u.back u.depth (u.at + 1)) 0)
      first = elim fits.here [
        | inl h ↦ subst (IsInside spawn join) (sym (ap (λ d. slice_index (slice_set u.back d (u.at + 1)) 0) h.0 ∙ index-set_same u.back 0 (u.at + 1) (omega (arith, long)))) (inside_leads image valid u.at (u.at + 1) (Call f) is refl spawn join block h.1)
        | inr h ↦ subst (IsInside spawn join) (sym (index-set_other u.back u.depth (u.at + 1) 0 (λ e. let deep : 0 < u.depth = h.0 in omega (arith, e, deep)))) h.2
      ]

      inner_here : 0 < u.depth → IsInInner image u.at
      inner_here deep = elim fits.here [ inl h ↦ absurd (let none : u.depth ≡ 0 = h.0 in omega (arith, none, deep)) | inr h ↦ h.1 ]

      each : (i : ℕ) → 0 < i → i < u.depth + 1 → (b : Bool) → (i == u.depth) ≡ b → IsInInner image (slice_index (slice_set u.back u.depth (u.at + 1)) i)
      each i later less true e =
          let same : i ≡ u.depth = eq_of i u.depth e in
          subst (IsInInner image) (sym (ap (slice_index (slice_set u.back u.depth (u.at + 1))) same ∙ index-set_same u.back u.depth (u.at + 1) (omega (arith, room, long)))) (inner_leads image valid u.at (u.at + 1) (Call f) is refl (inner_here (subst (λ n. 0 < n) same later)))
      each i later less false e = subst (IsInInner image) (sym (index-set_other u.back u.depth (u.at + 1) i (λ h. differs i u.depth e (sym h)))) (fits.back i later (below_more i u.depth less e))
  block_goes u v fits (returns deep at depth back) =
      record {
        room = ap length back ∙ fits.room;
        deep = let bound : u.depth ≤ 256 = fits.deep in omega (arith, depth, bound);
        here = elim fits.here [ inl h ↦ absurd (deep h.0) | inr h ↦ by_test h.0 h.2 (u.depth - 1 == 0) refl ];
        back = λ i later less. subst (λ b. IsInInner image (slice_index b i)) (sym back) (fits.back i later (omega (arith, less, depth)));
      }
    where
      by_test : 0 < u.depth → IsInside spawn join (slice_index u.back 0) → (b : Bool) → (u.depth - 1 == 0) ≡ b → ((v.depth ≡ 0) × IsInside spawn join v.at) ⊎ ((0 < v.depth) × IsInInner image v.at × IsInside spawn join (slice_index v.back 0))
      by_test later inside true e =
          let same : u.depth - 1 ≡ 0 = eq_of (u.depth - 1) 0 e in
          inl (depth ∙ same, subst (IsInside spawn join) (sym (at ∙ ap (slice_index u.back) same)) inside)
      by_test later inside false e =
          let more : 0 < u.depth - 1 = not_zero (u.depth - 1) e in
          inr (subst (λ n. 0 < n) (sym depth) more, subst (IsInInner image) (sym at) (fits.back (u.depth - 1) more (omega (arith, later))), subst (λ b. IsInside spawn join (slice_index b 0)) (sym back) inside)

  -- there a block neither spawns nor returns from itself
  block_spawns_not : {A : Type 0} (u : Unit) → FitsBlock image spawn join u → IsSpawn image u.at → A
  block_spawns_not u fits has = elim fits.here [
    | inl h ↦ absurd (valid.regions.in_block u.at (spawn, join, block, h.1) (inr (inl has)))
    | inr h ↦ absurd (valid.regions.in_inner u.at h.1 (inl has))
  ]

  block_returns_not : {A : Type 0} (u : Unit) → FitsBlock image spawn join u → IsReturn image u.at → u.depth ≡ 0 → A
  block_returns_not u fits has none = elim fits.here [
    | inl h ↦ absurd (valid.regions.in_block u.at (spawn, join, block, h.1) (inl has))
    | inr h ↦ absurd (let later : 0 < u.depth = h.0 in omega (arith, none, later))
  ]

  block_fits : (begin : Actor) → IsGood (λ start. FitsBlock image spawn join) begin → (n : ℕ) (part : List (Entry Action)) (a : Actor) → Does (move image) n begin part a → a.unit.state ≡ Runs → FitsBlock image spawn join a.unit
  block_fits begin good n part a does =
      good_along image valid (λ start. FitsBlock image spawn join) (λ start. block_goes) (λ x ask fits runs is. block_spawns_not x.unit fits (at_spawn image x.start x.unit ask runs is).0) n begin a part good does

module _ (image : Image) (valid : IsValid image) where
  -- where a thread begins
  begin_fits : (before : List (Entry Action)) (s : Actor) (ask : SpawnAsk) → ComesToSpawn image before s ask → (k : ℕ) (begin : Actor) → BeginsAt (broadcast s.unit ask) k begin →
      (join : ℕ) → IsBlock image s.unit.at join → FitsBlock image s.unit.at join begin.unit
  begin_fits before s ask comes k begin at join block =
      let here = at_spawn image s.start s.unit ask comes.runs comes.asks in
      let order : s.unit.at < join = block.order in
      subst (λ (a : Actor). FitsBlock image s.unit.at join a.unit) (sym at.3) (record {
        room = at.2.back;
        deep = omega arith;
        here = inl (refl, subst (IsInside s.unit.at join) (sym here.1) (omega arith, omega (arith, order)));
        back = λ i later less. absurd (omega (arith, later, less));
      })

  block_at : (before : List (Entry Action)) (s : Actor) (ask : SpawnAsk) → ComesToSpawn image before s ask → (join : ℕ) × IsBlock image s.unit.at join
  block_at before s ask comes = valid.regions.spawn_joins s.unit.at (at_spawn image s.start s.unit ask comes.runs comes.asks).0

  pub keeps_apart : KeepsApart image
  keeps_apart =
      record {
        serial = serial_draws_not image valid;
        spawns = λ before s ask comes k begin at steps part a does runs other is.
            let block = block_at before s ask comes in
            let fits : FitsBlock image s.unit.at block.0 a.unit = block_fits image valid s.unit.at block.0 block.1 begin (λ running. begin_fits before s ask comes k begin at block.0 block.1) steps part a does runs in
            block_spawns_not image valid s.unit.at block.0 block.1 a.unit fits (at_spawn image a.start a.unit other runs is).0;
        halts = λ before s ask comes k begin at steps part a does runs is.
            let block = block_at before s ask comes in
            let fits : FitsBlock image s.unit.at block.0 a.unit = block_fits image valid s.unit.at block.0 block.1 begin (λ running. begin_fits before s ask comes k begin at block.0 block.1) steps part a does runs in
            elim (after_alone image a.start a.unit runs is) [
              | inl h ↦ ap is_live (h.1 ∙ runs)
              | inr h ↦ block_returns_not image valid s.unit.at block.0 block.1 a.unit fits h.0 h.1
            ];
      }
