-- Each turn of a unit is one of its steps.
use Rattle.std.proofs.Common.{◌≡◌, refl, sym, ◌∙◌, ap, ℕ, suc, zero, ◌+◌, ◌-◌, ◌≤◌, ◌^◌, ◌==◌, nat_lt, Bool, true, false, if◌then◌else◌, List, [], ◌∷◌, map, Option, Some, None, slice_get, slice_set, slice_index, arith}
use Rattle.std.specs.Option.{IsSomeAnd}
use Rattle.std.specs.List.{list_all}
use Rattle.xmt_base.specs.Counters.{capped}
use Rattle.xmt_base.specs.declared.values.TrapKind.TheVariants.{DivideByZero, Index, CallDepth}
use Rattle.xmt_base.specs.declared.values.TrapKind.{TrapKind}
use Rattle.xmt_base.specs.Operators.{binary_value}
use Rattle.xmt_isa.specs.declared.image.Image.{Image}
use Rattle.xmt_isa.specs.declared.operation.Operation.{Operation}
use Rattle.xmt_isa.specs.declared.operation.Operation.TheVariants.{Set, Unary, Binary, Jump, IfZero, IfNot, Call, Return, ReadSlot, WriteSlot, WriteArgument, ReadArgument, ReadMaster, Check, Load, Store, Add, Print, Spawn, Join}
use Rattle.xmt_isa.specs.declared.unit.Unit.{Unit}
use Rattle.xmt_isa.specs.declared.unit.UnitState.TheVariants.{Halted}
use Rattle.xmt_isa.specs.declared.unit.SpawnAsk.{SpawnAsk}
use Rattle.xmt_isa.specs.declared.unit.Start.{Start}
use Rattle.xmt_isa.specs.declared.unit.Request.{Request}
use Rattle.xmt_isa.specs.declared.unit.Next.{Next}
use Rattle.xmt_isa.specs.Step.{more, goes, access, divides, adds, reg, word_of, next_at, next_here, next_of, local_at, local_here, local_of, answer_at, answer_here, answer_of, draws, is_due}
use Rattle.xmt_isa.specs.Image.{operation_at}
use Rattle.xmt_isa.specs.Machine.{Machine, ready, is_stopped, resumes, waits_for, joins, serves, moves, turn_of, turn, after}
use Rattle.xmt_isa.specs.Picked.{is_trap}
use Rattle.xmt_isa.specs.Legal.{HasTurn, IsLegal}
use Rattle.interleaving.specs.Actors.{turns_of}
use Rattle.xmt_isa.specs.Threads.{begins, number_at, stops}
use Rattle.interleaving.proofs.Grows.{eq_refl, differ_of}
use Rattle.machine_places.proofs.Lists.{get-set, some_same, get-map}
use Rattle.machine_places.proofs.Units.{is_plain}
use Rattle.machine_places.proofs.Goes.{is_local_next, is_plain_next, is_draw_next, refute, either_next, access-next, adds-local}
use Rattle.xmt_isa.specs.declared.unit.Request.TheVariants as request
use Rattle.xmt_isa.specs.declared.unit.Next.TheVariants as next

abbrev steps : Unit → ℕ
steps u = u.counts.steps

either_steps : (b : Bool) (x y : Unit) (n : ℕ) → steps x ≡ n → steps y ≡ n → steps (if b then x else y) ≡ n
either_steps true x y n p q = p
either_steps false x y n p q = q

draws-steps : (start : Start) (u : Unit) (k : ℕ) → steps (draws start u k) ≡ more (steps u)
draws-steps start u k = either_steps (nat_lt k start.count) (begins start u (number_at start k)) (stops u) (more (steps u)) refl refl

module _ (image : Image) (start : Start) (u : Unit) where
  local_at-steps : (o : Operation) → next_at image start u o ≡ next.Local → steps (local_at image start u o) ≡ more (steps u)
  local_at-steps Return n = either_steps (u.depth == 0) (record (goes u u.at) { state = Halted }) (record (goes u (slice_index u.back (u.depth - 1))) { depth = u.depth - 1 }) (more (steps u)) refl refl
  local_at-steps (Load a place) n = refute is_local_next (access (word_of image start u place) (λ at. request.Load at)) next.Local (access-next is_local_next (word_of image start u place) (λ at. request.Load at) refl (λ at. refl)) refl n
  local_at-steps (Store a place) n = refute is_local_next (access (word_of image start u place) (λ at. request.Store at (reg u a))) next.Local (access-next is_local_next (word_of image start u place) (λ at. request.Store at (reg u a)) refl (λ at. refl)) refl n
  local_at-steps (Add a place) n = refute is_local_next (adds (word_of image start u place) place (reg u a)) next.Local (adds-local (word_of image start u place) place (reg u a)) refl n
  local_at-steps (Print text) n = cc
  local_at-steps (Spawn a b mask) n = cc
  local_at-steps Join n = cc
  local_at-steps (Set a value) n = refl
  local_at-steps (Unary op a b) n = refl
  local_at-steps (Binary op a b c) n = refl
  local_at-steps (Jump to) n = refl
  local_at-steps (IfZero b to) n = refl
  local_at-steps (IfNot b to) n = refl
  local_at-steps (Call f) n = refl
  local_at-steps (ReadSlot a i) n = refl
  local_at-steps (WriteSlot b i) n = refl
  local_at-steps (WriteArgument b i) n = refl
  local_at-steps (ReadArgument a i) n = refl
  local_at-steps (ReadMaster a i) n = refl
  local_at-steps (Check b k) n = refl

  local_here-steps : (o : Option Operation) → next_here image start u o ≡ next.Local → steps (local_here image start u o) ≡ more (steps u)
  local_here-steps None n = cc
  local_here-steps (Some o) n = local_at-steps o n

  -- a unit that is due asks for a draw
  not_due : (due : Bool) (x : Next) → (if due then next.Ask request.Draw else x) ≡ next.Local → (due ≡ false) × (x ≡ next.Local)
  not_due true x h = cc
  not_due false x h = (refl, h)

  local_of-steps : next_of image start u ≡ next.Local → steps (local_of image start u) ≡ more (steps u)
  local_of-steps n = local_here-steps (operation_at image u.at) (not_due (is_due u.state) (next_here image start u (operation_at image u.at)) n).1

  answer_at-steps : (test : Next → Bool) (ask : Request) (reply : ℕ) → test (next.Ask ask) ≡ true → test next.Local ≡ false → ((kind : TrapKind) → test (next.Trap kind) ≡ false) → ((spawn : SpawnAsk) → test (next.Ask (request.Spawn spawn)) ≡ false) →
      (o : Operation) → next_at image start u o ≡ next.Ask ask → steps (answer_at start u o reply) ≡ more (steps u)
  answer_at-steps test ask reply passes no_local no_trap no_spawn (Load a place) n = refl
  answer_at-steps test ask reply passes no_local no_trap no_spawn (Store a place) n = refl
  answer_at-steps test ask reply passes no_local no_trap no_spawn (Add a place) n = refl
  answer_at-steps test ask reply passes no_local no_trap no_spawn (Print text) n = refl
  answer_at-steps test ask reply passes no_local no_trap no_spawn Join n = draws-steps start u reply
  answer_at-steps test ask reply passes no_local no_trap no_spawn (Spawn a b mask) n = refute test (next_at image start u (Spawn a b mask)) (next.Ask ask) (no_spawn (record { at = u.at + 1; low = reg u a; high = reg u b; mask = mask })) passes n
  answer_at-steps test ask reply passes no_local no_trap no_spawn (Binary op a b c) n = refute test (divides (binary_value op (reg u b) (reg u c))) (next.Ask ask) (divided (binary_value op (reg u b) (reg u c))) passes n
    where
      divided : (o : Option ℕ) → test (divides o) ≡ false
      divided None = no_trap DivideByZero
      divided (Some value) = no_local
  answer_at-steps test ask reply passes no_local no_trap no_spawn (Call f) n = refute test (if nat_lt u.depth 256 then next.Local else next.Trap CallDepth) (next.Ask ask) (either_next test (nat_lt u.depth 256) next.Local (next.Trap CallDepth) no_local (no_trap CallDepth)) passes n
  answer_at-steps test ask reply passes no_local no_trap no_spawn (Check b k) n = refute test (if nat_lt (reg u b) k then next.Local else next.Trap Index) (next.Ask ask) (either_next test (nat_lt (reg u b) k) next.Local (next.Trap Index) no_local (no_trap Index)) passes n
  answer_at-steps test ask reply passes no_local no_trap no_spawn o n = refute test next.Local (next.Ask ask) no_local passes n

  answer_here-steps : (test : Next → Bool) (ask : Request) (reply : ℕ) → test (next.Ask ask) ≡ true → test next.Local ≡ false → ((kind : TrapKind) → test (next.Trap kind) ≡ false) → ((spawn : SpawnAsk) → test (next.Ask (request.Spawn spawn)) ≡ false) →
      (o : Option Operation) → next_here image start u o ≡ next.Ask ask → steps (answer_here start u o reply) ≡ more (steps u)
  answer_here-steps test ask reply passes no_local no_trap no_spawn None n = cc
  answer_here-steps test ask reply passes no_local no_trap no_spawn (Some o) n = answer_at-steps test ask reply passes no_local no_trap no_spawn o n

  -- the reply to any request but a spawn
  answer_of-steps : (test : Next → Bool) (ask : Request) (reply : ℕ) → test (next.Ask ask) ≡ true → test next.Local ≡ false → ((kind : TrapKind) → test (next.Trap kind) ≡ false) → ((spawn : SpawnAsk) → test (next.Ask (request.Spawn spawn)) ≡ false) →
      next_of image start u ≡ next.Ask ask → steps (answer_of image start u reply) ≡ more (steps u)
  answer_of-steps test ask reply passes no_local no_trap no_spawn n = by_due (is_due u.state) n
    where
      by_due : (b : Bool) → (if b then next.Ask request.Draw else next_here image start u (operation_at image u.at)) ≡ next.Ask ask → steps (if b then draws start u reply else answer_here start u (operation_at image u.at) reply) ≡ more (steps u)
      by_due true h = draws-steps start u reply
      by_due false h = answer_here-steps test ask reply passes no_local no_trap no_spawn (operation_at image u.at) h

-- ---- a turn

-- a unit of the new list is one of the old list, with one more step if it had the turn
abbrev Stepped : List Unit → (k j : ℕ) → Unit → Type 0
Stepped units k j v = (u : Unit) × (slice_get units j ≡ Some u) × (steps v ≡ (if j == k then more (steps u) else steps u))

set_stepped : (units : List Unit) (k : ℕ) (u x : Unit) → slice_get units k ≡ Some u → steps x ≡ more (steps u) → (j : ℕ) (v : Unit) → slice_get (slice_set units k x) j ≡ Some v → Stepped units k j v
set_stepped units k u x there more_steps j v at = get-set (λ y. Stepped units k j y) units k j u x v there at
    (λ same. (u, ap (slice_get units) same ∙ there, (let test : (j == k) ≡ true = ap (λ i. i == k) same ∙ eq_refl k in rw test more_steps)))
    (λ differ old. (v, old, (let test : (j == k) ≡ false = differ_of j k (λ h. differ (sym h)) in rw test refl)))

joins_stepped : (image : Image) (start : Start) (units : List Unit) (j : ℕ) (v : Unit) → slice_get (joins image start units) j ≡ Some v → (u : Unit) × (slice_get units j ≡ Some u) × (steps v ≡ steps u)
joins_stepped image start [] j v at = let never : None ≡ Some v = at in cc
joins_stepped image start (master ∷ rest) j v at = by_test (list_all (λ u. is_stopped u.state) rest) j at
  where
    by_test : (b : Bool) (j : ℕ) → slice_get (if b then resumes image start master ∷ rest else master ∷ rest) j ≡ Some v → (u : Unit) × (slice_get (master ∷ rest) j ≡ Some u) × (steps v ≡ steps u)
    by_test true zero at = (master, refl, ap steps (sym (some_same (resumes image start master) v at)))
    by_test true (suc j) at = (v, at, refl)
    by_test false j at = (v, at, refl)

module _ (image : Image) (m : Machine) (k : ℕ) (u : Unit) (there : slice_get m.units k ≡ Some u) (j : ℕ) (v : Unit) where
  plain_stepped : (ask : Request) → is_plain ask ≡ true → next_of image m.start u ≡ next.Ask ask → (reply : ℕ) → slice_get (slice_set m.units k (answer_of image m.start u reply)) j ≡ Some v → Stepped m.units k j v
  plain_stepped ask plain is reply at = set_stepped m.units k u (answer_of image m.start u reply) there (answer_of-steps image m.start u is_plain_next ask reply plain refl (λ kind. refl) (λ spawn. refl) is) j v at

  serves_stepped : (ask : Request) → next_of image m.start u ≡ next.Ask ask → slice_get (serves image m k u ask).units j ≡ Some v → Stepped m.units k j v
  serves_stepped (request.Load at) is h = plain_stepped (request.Load at) refl is (slice_index m.words at) h
  serves_stepped (request.Store at value) is h = plain_stepped (request.Store at value) refl is 0 h
  serves_stepped (request.Add at value) is h = plain_stepped (request.Add at value) refl is (slice_index m.words at) h
  serves_stepped (request.Print text) is h = plain_stepped (request.Print text) refl is 0 h
  serves_stepped request.Draw is h =
      let r = joins_stepped image m.start (slice_set m.units k (answer_of image m.start u m.drawn)) j v h in
      let one : steps (answer_of image m.start u m.drawn) ≡ more (steps u) = answer_of-steps image m.start u is_draw_next request.Draw m.drawn refl refl (λ kind. refl) (λ spawn. refl) is in
      let s = set_stepped m.units k u (answer_of image m.start u m.drawn) there one j r.0 r.1 in
      (s.0, s.1, r.2 ∙ s.2)
  serves_stepped (request.Spawn ask) is h =
      let found : slice_get (map ready m.units) k ≡ Some (ready u) = mapped m.units k there in
      let s = set_stepped (map ready m.units) k (ready u) (waits_for u) found refl j v h in
      let r = get-map ready m.units j s.0 s.1 in
      (r.0, r.1, s.2 ∙ ap (λ (x : Unit). if j == k then more (steps x) else steps x) r.2)
    where
      mapped : (units : List Unit) (i : ℕ) → slice_get units i ≡ Some u → slice_get (map ready units) i ≡ Some (ready u)
      mapped [] i h = let never : None ≡ Some u = h in cc
      mapped (x ∷ xs) zero h = ap (λ y. Some (ready y)) (some_same x u h)
      mapped (x ∷ xs) (suc i) h = mapped xs i h

  moves_stepped : (n : Next) → next_of image m.start u ≡ n → is_trap n ≡ false → slice_get (moves image m k u n).units j ≡ Some v → Stepped m.units k j v
  moves_stepped next.Local is free h = set_stepped m.units k u (local_of image m.start u) there (local_of-steps image m.start u is) j v h
  moves_stepped (next.Trap kind) is free h = cc
  moves_stepped (next.Ask ask) is free h = serves_stepped ask is h

turn_stepped : (image : Image) (m : Machine) (k : ℕ) → HasTurn image m k → (j : ℕ) (v : Unit) → slice_get (turn image m k).units j ≡ Some v → Stepped m.units k j v
turn_stepped image m k has j v at = by_unit (slice_get m.units k) refl has.1 at
  where
    by_unit : (o : Option Unit) → slice_get m.units k ≡ o → IsSomeAnd o (λ u. is_trap (next_of image m.start u) ≡ false) → slice_get (turn_of image m k o).units j ≡ Some v → Stepped m.units k j v
    by_unit None there free h = absurd free
    by_unit (Some u) there free h = moves_stepped image m k u there j v (next_of image m.start u) refl free h

-- ---- a schedule

pub after_steps : (image : Image) (schedule : List ℕ) (m : Machine) → IsLegal image m schedule → (k : ℕ) (v : Unit) → slice_get (after image m schedule).units k ≡ Some v →
    (u : Unit) × (slice_get m.units k ≡ Some u) × (u.counts.steps ≤ 2 ^ 64 - 1 → v.counts.steps ≡ capped (u.counts.steps + turns_of k schedule))
after_steps image [] m legal k v at = (v, at, (λ small. omega (arith, small)))
after_steps image (i ∷ schedule) m legal k v at =
    let rest = after_steps image schedule (turn image m i) legal.1 k v at in
    let one = turn_stepped image m i legal.0 k rest.0 rest.1 in
    (one.0, one.1, (λ small. by_test (k == i) small rest.2 one.2))
  where
    by_test : {u w : ℕ} (b : Bool) → u ≤ 2 ^ 64 - 1 → (w ≤ 2 ^ 64 - 1 → v.counts.steps ≡ capped (w + turns_of k schedule)) → w ≡ (if b then more u else u) → v.counts.steps ≡ capped (u + (if b then suc (turns_of k schedule) else turns_of k schedule))
    by_test true small go is = let here = go (omega (arith, is)) in omega (arith, here, is)
    by_test false small go is = let here = go (omega (arith, is, small)) in omega (arith, here, is)
