-- What a unit is at, and when each answer comes.
use Rattle.std.proofs.Common.{◌≡◌, ◌↔◌, ℕ, ◌<◌, ◌≤◌, nat_eq, Bool, true, false, refl, sym, ap, subst, ◌∙◌, arith, if◌then◌else◌}
use Rattle.std.proofs.lemmas.Bool.Decides.{nat_tests}
use Rattle.xmt_base.specs.declared.values.Trap as spec
use Rattle.xmt_base.specs.declared.values.TrapKind.{TrapKind}
use Rattle.xmt_isa.specs.declared.image.Image.{Image}
use Rattle.xmt_isa.specs.declared.unit.Unit.{Unit}
use Rattle.xmt_isa.specs.declared.unit.UnitState.{UnitState}
use Rattle.xmt_isa.specs.declared.unit.UnitState.TheVariants as state
use Rattle.xmt_isa.specs.declared.unit.Start.{Start}
use Rattle.xmt_isa.specs.declared.unit.Request.{Request}
use Rattle.xmt_isa.specs.declared.unit.Request.TheVariants as request
use Rattle.xmt_isa.specs.declared.unit.Next.{Next}
use Rattle.xmt_isa.specs.declared.unit.Next.TheVariants as next
use Rattle.xmt_isa.specs.Step.{next_of}
use Rattle.xmt_isa.specs.Picked.{is_live}
use Rattle.unit_steps.specs.Steps.{DoesNext, HasSpent, StandsAtTrap}
use Rattle.tcu_engine.specs.declared.ask.Ask.{Ask}
use Rattle.tcu_engine.specs.declared.ask.Ask.TheVariants.{Load, Store, Add, Draw, Print, Spawn, Pause, Stopped, Halt, Trap, Spent}
use Rattle.tcu_engine.specs.Asks.{ask_of, is_request}
use Rattle.tcu_engine.specs.Looks.{trap_of, at_next, at_live, at_state, is_at}

-- why a unit is at an answer
pub data Found (image : Image) (start : Start) (budget : ℕ) (u : Unit) (a : Ask) : Type 0 where
  halted : a ≡ Halt → u.state ≡ state.Halted → Found image start budget u a
  stopped : a ≡ Stopped → u.state ≡ state.Stopped → Found image start budget u a
  spent : a ≡ Spent → HasSpent budget u → Found image start budget u a
  alone : a ≡ Pause → DoesNext image start budget u next.Local → Found image start budget u a
  traps : (kind : TrapKind) → a ≡ Trap (trap_of image u kind) → DoesNext image start budget u (next.Trap kind) → Found image start budget u a
  asks : (asked : Request) → a ≡ ask_of asked → DoesNext image start budget u (next.Ask asked) → Found image start budget u a

found_next : (image : Image) (start : Start) (budget : ℕ) (u : Unit) (n : Next) → DoesNext image start budget u n → Found image start budget u (at_next image u n)
found_next image start budget u next.Local does = alone refl does
found_next image start budget u (next.Trap kind) does = traps kind refl does
found_next image start budget u (next.Ask asked) does = asks asked refl does

found_live : (image : Image) (start : Start) (budget : ℕ) (u : Unit) (b : Bool) → nat_eq u.counts.steps budget ≡ b → is_live u.state ≡ true → u.counts.steps ≤ budget
    → Found image start budget u (if b then Spent else at_next image u (next_of image start u))
found_live image start budget u true test live within = let all : u.counts.steps ≡ budget = grind (arith, nat_tests, test) in spent refl (record { live = live; steps = all })
found_live image start budget u false test live within =
    let below : u.counts.steps < budget = grind (arith, nat_tests, test, within) in
    found_next image start budget u (next_of image start u) (record { live = live; below = below; next = refl })

found_state : (image : Image) (start : Start) (budget : ℕ) (u : Unit) (s : UnitState) → u.state ≡ s → u.counts.steps ≤ budget → Found image start budget u (at_state image start budget u s)
found_state image start budget u state.Halted is within = halted refl is
found_state image start budget u state.Stopped is within = stopped refl is
found_state image start budget u state.Draws is within = found_live image start budget u (nat_eq u.counts.steps budget) refl (ap is_live is) within
found_state image start budget u state.Runs is within = found_live image start budget u (nat_eq u.counts.steps budget) refl (ap is_live is) within

pub found : (image : Image) (start : Start) (budget : ℕ) (u : Unit) (a : Ask) → a ≡ is_at image start budget u → u.counts.steps ≤ budget → Found image start budget u a
found image start budget u a same within = subst (λ (b : Ask). Found image start budget u b) (sym same) (found_state image start budget u u.state refl within)

-- ---- answers are told apart

abbrev tag : Ask → ℕ
tag (Load word) = 5
tag (Store word value) = 5
tag (Add word value) = 5
tag Draw = 5
tag (Print text) = 5
tag (Spawn ask) = 5
tag Pause = 0
tag Stopped = 1
tag Halt = 2
tag (Trap trap) = 3
tag Spent = 4

tag_ask : (asked : Request) → tag (ask_of asked) ≡ 5
tag_ask (request.Load word) = refl
tag_ask (request.Store word value) = refl
tag_ask (request.Add word value) = refl
tag_ask request.Draw = refl
tag_ask (request.Print text) = refl
tag_ask (request.Spawn ask) = refl

no_number : {A : Type 0} (m n : ℕ) → m ≡ n → nat_eq m n ≡ false → A
no_number m n same apart = absurd (grind (arith, nat_tests, same, apart))

-- one answer isn't two
differs : {A : Type 0} (a b c : Ask) → a ≡ b → a ≡ c → nat_eq (tag b) (tag c) ≡ false → A
differs a b c p q apart = no_number (tag b) (tag c) (ap tag (sym p ∙ q)) apart

-- a request is neither of the other answers
asks_else : {A : Type 0} (a c : Ask) (asked : Request) → a ≡ ask_of asked → a ≡ c → nat_eq 5 (tag c) ≡ false → A
asks_else a c asked p q apart = no_number 5 (tag c) (sym (tag_ask asked) ∙ ap tag (sym p ∙ q)) apart

-- the request of an answer, and the trap
abbrev request_in : Ask → Request
request_in (Load word) = request.Load word
request_in (Store word value) = request.Store word value
request_in (Add word value) = request.Add word value
request_in (Print text) = request.Print text
request_in (Spawn ask) = request.Spawn ask
request_in answer = request.Draw

request_is : (asked : Request) → request_in (ask_of asked) ≡ asked
request_is (request.Load word) = refl
request_is (request.Store word value) = refl
request_is (request.Add word value) = refl
request_is request.Draw = refl
request_is (request.Print text) = refl
request_is (request.Spawn ask) = refl

same_request : (one other : Request) → ask_of one ≡ ask_of other → one ≡ other
same_request one other same = sym (request_is one) ∙ ap request_in same ∙ request_is other

abbrev trap_in : spec.Trap → Ask → spec.Trap
trap_in other (Trap trap) = trap
trap_in other answer = other

pub request_waits : (asked : Request) → is_request (ask_of asked) ≡ true
request_waits (request.Load word) = refl
request_waits (request.Store word value) = refl
request_waits (request.Add word value) = refl
request_waits request.Draw = refl
request_waits (request.Print text) = refl
request_waits (request.Spawn ask) = refl

-- ---- from what a unit does to what it is at

live_state : (image : Image) (start : Start) (budget : ℕ) (u : Unit) (s : UnitState) → is_live s ≡ true → at_state image start budget u s ≡ at_live image start budget u
live_state image start budget u state.Draws live = refl
live_state image start budget u state.Runs live = refl
live_state image start budget u state.Stopped live = cc
live_state image start budget u state.Halted live = cc

live_by : (image : Image) (start : Start) (budget : ℕ) (u : Unit) (b : Bool) → nat_eq u.counts.steps budget ≡ b → is_live u.state ≡ true
    → is_at image start budget u ≡ (if b then Spent else at_next image u (next_of image start u))
live_by image start budget u b test live =
    live_state image start budget u u.state live ∙ ap (λ (t : Bool). (if t then Spent else at_next image u (next_of image start u))) test

pub at_spent : (image : Image) (start : Start) (budget : ℕ) (u : Unit) → HasSpent budget u → is_at image start budget u ≡ Spent
at_spent image start budget u has =
    let steps = has.steps in
    let test : nat_eq u.counts.steps budget ≡ true = grind (arith, nat_tests, steps) in
    live_by image start budget u true test has.live

pub at_does : (image : Image) (start : Start) (budget : ℕ) (u : Unit) (n : Next) → DoesNext image start budget u n → is_at image start budget u ≡ at_next image u n
at_does image start budget u n does =
    let below = does.below in
    let test : nat_eq u.counts.steps budget ≡ false = grind (arith, nat_tests, below) in
    live_by image start budget u false test does.live ∙ ap (λ (m : Next). at_next image u m) does.next

-- ---- when each answer comes

module _ (image : Image) (start : Start) (budget : ℕ) (u : Unit) (a : Ask) where
  spent_found : Found image start budget u a → a ≡ Spent → HasSpent budget u
  spent_found (halted p h) q = differs a _ _ p q refl
  spent_found (stopped p h) q = differs a _ _ p q refl
  spent_found (spent p h) q = h
  spent_found (alone p h) q = differs a _ _ p q refl
  spent_found (traps kind p h) q = differs a _ _ p q refl
  spent_found (asks asked p h) q = asks_else a _ asked p q refl

  pause_found : Found image start budget u a → a ≡ Pause → DoesNext image start budget u next.Local
  pause_found (halted p h) q = differs a _ _ p q refl
  pause_found (stopped p h) q = differs a _ _ p q refl
  pause_found (spent p h) q = differs a _ _ p q refl
  pause_found (alone p h) q = h
  pause_found (traps kind p h) q = differs a _ _ p q refl
  pause_found (asks asked p h) q = asks_else a _ asked p q refl

  asks_found : (asked : Request) → Found image start budget u a → a ≡ ask_of asked → DoesNext image start budget u (next.Ask asked)
  asks_found asked (halted p h) q = asks_else a _ asked q p refl
  asks_found asked (stopped p h) q = asks_else a _ asked q p refl
  asks_found asked (spent p h) q = asks_else a _ asked q p refl
  asks_found asked (alone p h) q = asks_else a _ asked q p refl
  asks_found asked (traps kind p h) q = asks_else a _ asked q p refl
  asks_found asked (asks other p h) q = subst (λ (r : Request). DoesNext image start budget u (next.Ask r)) (same_request other asked (sym p ∙ q)) h

  abbrev TrapsAt : spec.Trap → Type 0
  TrapsAt trap = DoesNext image start budget u (next.Trap trap.kind) × StandsAtTrap image start u trap

  stands_at : (kind : TrapKind) → DoesNext image start budget u (next.Trap kind) → TrapsAt (trap_of image u kind)
  stands_at kind does = (does, record { live = does.live; kind = does.next; line = refl; thread = refl })

  trap_found : (trap : spec.Trap) → Found image start budget u a → a ≡ Trap trap → TrapsAt trap
  trap_found trap (halted p h) q = differs a _ _ p q refl
  trap_found trap (stopped p h) q = differs a _ _ p q refl
  trap_found trap (spent p h) q = differs a _ _ p q refl
  trap_found trap (alone p h) q = differs a _ _ p q refl
  trap_found trap (traps kind p h) q = subst TrapsAt (ap (trap_in trap) (sym p ∙ q)) (stands_at kind h)
  trap_found trap (asks asked p h) q = asks_else a _ asked p q refl

  trap_is : (trap : spec.Trap) → TrapsAt trap → trap_of image u trap.kind ≡ trap
  trap_is trap (does, stands) = let line = stands.line in let thread = stands.thread in rw (← line, ← thread) refl

  module _ (same : a ≡ is_at image start budget u) (within : u.counts.steps ≤ budget) where
    this : Found image start budget u a
    this = found image start budget u a same within

    pub spent_when : (a ≡ Spent) ↔ HasSpent budget u
    spent_when = (spent_found this, λ has. same ∙ at_spent image start budget u has)

    pub pause_when : (a ≡ Pause) ↔ DoesNext image start budget u next.Local
    pause_when = (pause_found this, λ does. same ∙ at_does image start budget u next.Local does)

    pub asks_when : (asked : Request) → (a ≡ ask_of asked) ↔ DoesNext image start budget u (next.Ask asked)
    asks_when asked = (asks_found asked this, λ does. same ∙ at_does image start budget u (next.Ask asked) does)

    pub trap_when : (trap : spec.Trap) → (a ≡ Trap trap) ↔ (DoesNext image start budget u (next.Trap trap.kind) × StandsAtTrap image start u trap)
    trap_when trap = (trap_found trap this, λ its. same ∙ at_does image start budget u (next.Trap trap.kind) its.0 ∙ ap (λ (t : spec.Trap). Trap t) (trap_is trap its))
