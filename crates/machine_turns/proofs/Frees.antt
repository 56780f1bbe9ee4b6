-- Units without their waiting do the same.
use Rattle.std.proofs.Common.{◌≡◌, refl, sym, ap, ℕ, ◌==◌, nat_lt, Bool, true, false, if◌then◌else◌, Option, Some, None, subst}
use Rattle.std.specs.Prelude.{⊤}
use Rattle.xmt_base.specs.declared.values.TrapKind.{TrapKind}
use Rattle.xmt_base.specs.declared.values.TrapKind.TheVariants.{Index, PsIncrement, CallDepth}
use Rattle.xmt_isa.specs.declared.image.Image.{Image}
use Rattle.xmt_isa.specs.declared.operation.Operation.{Operation}
use Rattle.xmt_isa.specs.declared.operation.Operation.TheVariants.{Binary, Call, Return, Check, Load, Store, Add, Print, Spawn, Join}
use Rattle.xmt_isa.specs.declared.operation.Location.{Location}
use Rattle.xmt_isa.specs.declared.operation.Location.TheVariants.{Word, Indexed, Outer, Register}
use Rattle.xmt_isa.specs.declared.unit.Unit.{Unit}
use Rattle.xmt_isa.specs.declared.unit.UnitState.{UnitState}
use Rattle.xmt_isa.specs.declared.unit.UnitState.TheVariants.{Draws}
use Rattle.xmt_isa.specs.declared.unit.Start.{Start}
use Rattle.xmt_isa.specs.declared.unit.SpawnAsk.{SpawnAsk}
use Rattle.xmt_isa.specs.declared.unit.Request.{Request}
use Rattle.xmt_isa.specs.declared.unit.Request.TheVariants as request
use Rattle.xmt_isa.specs.declared.unit.Next.{Next}
use Rattle.xmt_isa.specs.declared.unit.Next.TheVariants.{Local, Trap, Ask}
use Rattle.xmt_isa.specs.Image.{operation_at}
use Rattle.xmt_isa.specs.Step.{more, is_due, next_of, next_here, reg, word_of, local_of, local_here, answer_of, answer_here, draws, returns, access, adds, divides}
use Rattle.xmt_isa.specs.Machine.{ready, is_stopped}
use Rattle.machine_turns.specs.Seats.{free}
use Rattle.machine_turns.specs.Steps.{steps_of}

pub free_same : (u : Unit) → u.waits ≡ false → free u ≡ u
free_same u waits = ap (λ (b : Bool). record u { waits = b }) (sym waits)

pub due_same : (u : Unit) → u.state ≡ Draws → u ≡ ready u
due_same u due = ap (λ (s : UnitState). record u { state = s }) due

-- ---- what a unit does next

here_free : (image : Image) (start : Start) (u : Unit) (o : Option Operation) → next_here image start (free u) o ≡ next_here image start u o
here_free image start u None = refl
here_free image start u (Some (Load a (Word i))) = refl
here_free image start u (Some (Load a (Indexed b i))) = refl
here_free image start u (Some (Load a (Outer i))) = refl
here_free image start u (Some (Load a (Register i))) = refl
here_free image start u (Some (Store a (Word i))) = refl
here_free image start u (Some (Store a (Indexed b i))) = refl
here_free image start u (Some (Store a (Outer i))) = refl
here_free image start u (Some (Store a (Register i))) = refl
here_free image start u (Some (Add a (Word i))) = refl
here_free image start u (Some (Add a (Indexed b i))) = refl
here_free image start u (Some (Add a (Outer i))) = refl
here_free image start u (Some (Add a (Register i))) = refl
here_free image start u (Some operation) = refl

either : {A : Type 0} (b : Bool) (x y z : A) → y ≡ z → (if b then x else y) ≡ (if b then x else z)
either b x y z same = ap (λ w. if b then x else w) same

pub next_free : (image : Image) (start : Start) (u : Unit) → next_of image start (free u) ≡ next_of image start u
next_free image start u = either (is_due u.state) (Ask request.Draw) _ _ (here_free image start u (operation_at image u.at))

-- ---- what it does alone

returns_free : (u : Unit) (b : Bool) → b ≡ (u.depth == 0) → returns (free u) ≡ free (returns u)
returns_free u true is = rw (← is) refl
returns_free u false is = rw (← is) refl

local_here_free : (image : Image) (start : Start) (u : Unit) (o : Option Operation) → local_here image start (free u) o ≡ free (local_here image start u o)
local_here_free image start u None = refl
local_here_free image start u (Some Return) = returns_free u (u.depth == 0) refl
local_here_free image start u (Some operation) = refl

pub local_free : (image : Image) (start : Start) (u : Unit) → local_of image start (free u) ≡ free (local_of image start u)
local_free image start u = local_here_free image start u (operation_at image u.at)

-- ---- what it makes of a reply

draws_free : (start : Start) (u : Unit) (k : ℕ) (b : Bool) → b ≡ nat_lt k start.count → draws start (free u) k ≡ free (draws start u k)
draws_free start u k true is = rw (← is) refl
draws_free start u k false is = rw (← is) refl

answer_here_free : (start : Start) (u : Unit) (o : Option Operation) (k : ℕ) → answer_here start (free u) o k ≡ free (answer_here start u o k)
answer_here_free start u None k = refl
answer_here_free start u (Some Join) k = draws_free start u k (nat_lt k start.count) refl
answer_here_free start u (Some operation) k = refl

answer_by : (start : Start) (u : Unit) (o : Option Operation) (k : ℕ) (b : Bool) → (if b then draws start (free u) k else answer_here start (free u) o k) ≡ free (if b then draws start u k else answer_here start u o k)
answer_by start u o k true = draws_free start u k (nat_lt k start.count) refl
answer_by start u o k false = answer_here_free start u o k

pub answer_free : (image : Image) (start : Start) (u : Unit) (k : ℕ) → answer_of image start (free u) k ≡ free (answer_of image start u k)
answer_free image start u k = answer_by start u (operation_at image u.at) k (is_due u.state)

-- ---- what stays, and what doesn't

-- a unit after a step
pub record Stepped (u after : Unit) : Type 0 where
  pub number : after.number ≡ u.number
  pub steps : steps_of after ≡ more (steps_of u)
  pub due : is_due after.state ≡ false

returns_stepped : (u : Unit) (b : Bool) → b ≡ (u.depth == 0) → is_due u.state ≡ false → Stepped u (returns u) × (is_stopped u.state ≡ false → is_stopped (returns u).state ≡ false)
returns_stepped u true is due = rw (← is) (record { number = refl; steps = refl; due = refl }, λ stopped. refl)
returns_stepped u false is due = rw (← is) (record { number = refl; steps = refl; due = due }, λ stopped. stopped)

access_asks : (word : Option ℕ) (ask : ℕ → Request) → access word ask ≡ Local → ⊥
access_asks None ask is = cc
access_asks (Some at) ask is = cc

register_asks : (b : Bool) (word : Option ℕ) (ask : ℕ → Request) (kind : TrapKind) → (if b then Trap kind else access word ask) ≡ Local → ⊥
register_asks true word ask kind is = cc
register_asks false word ask kind is = access_asks word ask is

adds_asks : (word : Option ℕ) (location : Location) (value : ℕ) → adds word location value ≡ Local → ⊥
adds_asks word (Word i) value is = access_asks word _ is
adds_asks word (Indexed b i) value is = access_asks word _ is
adds_asks word (Outer i) value is = access_asks word _ is
adds_asks word (Register i) value is = register_asks (nat_lt 1 value) word _ PsIncrement is

local_at_stepped : (image : Image) (start : Start) (u : Unit) (o : Option Operation) → is_due u.state ≡ false → next_here image start u o ≡ Local → Stepped u (local_here image start u o) × (is_stopped u.state ≡ false → is_stopped (local_here image start u o).state ≡ false)
local_at_stepped image start u None due is = absurd cc
local_at_stepped image start u (Some Return) due is = returns_stepped u (u.depth == 0) refl due
local_at_stepped image start u (Some (Load a location)) due is = absurd (access_asks (word_of image start u location) (λ at. request.Load at) is)
local_at_stepped image start u (Some (Store a location)) due is = absurd (access_asks (word_of image start u location) (λ at. request.Store at (reg u a)) is)
local_at_stepped image start u (Some (Add a location)) due is = absurd (adds_asks (word_of image start u location) location (reg u a) is)
local_at_stepped image start u (Some (Print text)) due is = absurd cc
local_at_stepped image start u (Some (Spawn a b mask)) due is = absurd cc
local_at_stepped image start u (Some Join) due is = absurd cc
local_at_stepped image start u (Some operation) due is = (record { number = refl; steps = refl; due = due }, λ stopped. stopped)

-- what a unit does next shows whether it is due
not_due_by : (b : Bool) (other next : Next) → (if b then Ask request.Draw else other) ≡ next → (Ask request.Draw ≡ next → ⊥) → b ≡ false
not_due_by true other next is never = absurd (never is)
not_due_by false other next is never = refl

pub not_due : (image : Image) (start : Start) (u : Unit) (next : Next) → next_of image start u ≡ next → (Ask request.Draw ≡ next → ⊥) → is_due u.state ≡ false
not_due image start u next is never = not_due_by (is_due u.state) _ next is never

pub local_stepped : (image : Image) (start : Start) (u : Unit) → next_of image start u ≡ Local → Stepped u (local_of image start u) × (is_stopped u.state ≡ false → is_stopped (local_of image start u).state ≡ false)
local_stepped image start u is =
    let due : is_due u.state ≡ false = not_due image start u Local is (λ same. cc) in
    local_at_stepped image start u (operation_at image u.at) due (rw due at is)

-- ---- replies

draws_stepped : (start : Start) (u : Unit) (k : ℕ) (b : Bool) → b ≡ nat_lt k start.count → Stepped u (draws start u k)
draws_stepped start u k true is = rw (← is) (record { number = refl; steps = refl; due = refl })
draws_stepped start u k false is = rw (← is) (record { number = refl; steps = refl; due = refl })

pub draws_steps : (start : Start) (u : Unit) (k : ℕ) → Stepped u (draws start u k)
draws_steps start u k = draws_stepped start u k (nat_lt k start.count) refl

-- the request of a unit that is answered at once
abbrev pub IsAnswered : Request → Type 0
IsAnswered (request.Spawn ask) = ⊥
IsAnswered other = ⊤

never_asks : {A : Type 0} (b : Bool) (kind : TrapKind) (r : Request) → (if b then Local else Trap kind) ≡ Ask r → A
never_asks true kind r is = absurd cc
never_asks false kind r is = absurd cc

never_divides : {A : Type 0} (value : Option ℕ) (r : Request) → divides value ≡ Ask r → A
never_divides None r is = absurd cc
never_divides (Some value) r is = absurd cc

-- a unit behind its request: it runs on where that isn't a draw
abbrev pub Replies : Unit → Request → Unit → Type 0
Replies u r after = Stepped u after × ((r ≡ request.Draw → ⊥) → after.state ≡ u.state)

never_spawns : {A : Type 0} (ask : SpawnAsk) (r : Request) → IsAnswered r → Ask (request.Spawn ask) ≡ Ask r → A
never_spawns ask r answered is =
    let same : r ≡ request.Spawn ask = cc in
    let never : IsAnswered (request.Spawn ask) = subst IsAnswered same answered in
    absurd never

answer_here_stepped : (image : Image) (start : Start) (u : Unit) (o : Option Operation) (k : ℕ) (r : Request) → is_due u.state ≡ false → next_here image start u o ≡ Ask r → IsAnswered r → Replies u r (answer_here start u o k)
answer_here_stepped image start u None k r due is answered = absurd cc
answer_here_stepped image start u (Some (Load a location)) k r due is answered = (record { number = refl; steps = refl; due = due }, λ other. refl)
answer_here_stepped image start u (Some (Store a location)) k r due is answered = (record { number = refl; steps = refl; due = due }, λ other. refl)
answer_here_stepped image start u (Some (Add a location)) k r due is answered = (record { number = refl; steps = refl; due = due }, λ other. refl)
answer_here_stepped image start u (Some (Print text)) k r due is answered = (record { number = refl; steps = refl; due = due }, λ other. refl)
answer_here_stepped image start u (Some Join) k r due is answered = (draws_stepped start u k (nat_lt k start.count) refl, λ other. absurd (other (let same : r ≡ request.Draw = cc in same)))
answer_here_stepped image start u (Some (Spawn a b mask)) k r due is answered = never_spawns _ r answered is
answer_here_stepped image start u (Some (Binary op a b c)) k r due is answered = never_divides _ r is
answer_here_stepped image start u (Some (Call f)) k r due is answered = never_asks _ CallDepth r is
answer_here_stepped image start u (Some (Check b n)) k r due is answered = never_asks _ Index r is
answer_here_stepped image start u (Some operation) k r due is answered = absurd cc

answer_by_stepped : (image : Image) (start : Start) (u : Unit) (k : ℕ) (r : Request) (b : Bool) → is_due u.state ≡ b → (if b then Ask request.Draw else next_here image start u (operation_at image u.at)) ≡ Ask r → IsAnswered r
    → Replies u r (if b then draws start u k else answer_here start u (operation_at image u.at) k)
answer_by_stepped image start u k r true due is answered = (draws_stepped start u k (nat_lt k start.count) refl, λ other. absurd (other (let same : r ≡ request.Draw = cc in same)))
answer_by_stepped image start u k r false due is answered = answer_here_stepped image start u (operation_at image u.at) k r due is answered

pub answer_stepped : (image : Image) (start : Start) (u : Unit) (k : ℕ) (r : Request) → next_of image start u ≡ Ask r → IsAnswered r → Replies u r (answer_of image start u k)
answer_stepped image start u k r is answered = answer_by_stepped image start u k r (is_due u.state) refl is answered

-- ---- draws

access_draws : {A : Type 0} (word : Option ℕ) (ask : ℕ → Request) → ((at : ℕ) → ask at ≡ request.Draw → ⊥) → access word ask ≡ Ask request.Draw → A
access_draws None ask never is = absurd cc
access_draws (Some at) ask never is = let same : ask at ≡ request.Draw = cc in absurd (never at same)

register_draws : {A : Type 0} (b : Bool) (word : Option ℕ) (ask : ℕ → Request) (kind : TrapKind) → ((at : ℕ) → ask at ≡ request.Draw → ⊥) → (if b then Trap kind else access word ask) ≡ Ask request.Draw → A
register_draws true word ask kind never is = absurd cc
register_draws false word ask kind never is = access_draws word ask never is

adds_draws : {A : Type 0} (word : Option ℕ) (location : Location) (value : ℕ) → adds word location value ≡ Ask request.Draw → A
adds_draws word (Word i) value is = access_draws word (λ at. request.Add at value) (λ at same. cc) is
adds_draws word (Indexed b i) value is = access_draws word (λ at. request.Add at value) (λ at same. cc) is
adds_draws word (Outer i) value is = access_draws word (λ at. request.Add at value) (λ at same. cc) is
adds_draws word (Register i) value is = register_draws (nat_lt 1 value) word (λ at. request.Add at value) PsIncrement (λ at same. cc) is

draw_here : (image : Image) (start : Start) (u : Unit) (o : Option Operation) (k : ℕ) → next_here image start u o ≡ Ask request.Draw → answer_here start u o k ≡ draws start u k
draw_here image start u None k is = absurd cc
draw_here image start u (Some Join) k is = refl
draw_here image start u (Some (Load a location)) k is = access_draws (word_of image start u location) (λ at. request.Load at) (λ at same. cc) is
draw_here image start u (Some (Store a location)) k is = access_draws (word_of image start u location) (λ at. request.Store at (reg u a)) (λ at same. cc) is
draw_here image start u (Some (Add a location)) k is = adds_draws (word_of image start u location) location (reg u a) is
draw_here image start u (Some (Binary op a b c)) k is = never_divides _ request.Draw is
draw_here image start u (Some (Call f)) k is = never_asks _ CallDepth request.Draw is
draw_here image start u (Some (Check b n)) k is = never_asks _ Index request.Draw is
draw_here image start u (Some operation) k is = absurd cc

draw_by : (image : Image) (start : Start) (u : Unit) (o : Option Operation) (k : ℕ) (b : Bool) → (if b then Ask request.Draw else next_here image start u o) ≡ Ask request.Draw → (if b then draws start u k else answer_here start u o k) ≡ draws start u k
draw_by image start u o k true is = refl
draw_by image start u o k false is = draw_here image start u o k is

-- the number that a unit asked for begins its thread, or stops it
pub draw_answer : (image : Image) (start : Start) (u : Unit) (k : ℕ) → next_of image start u ≡ Ask request.Draw → answer_of image start u k ≡ draws start u k
draw_answer image start u k is = draw_by image start u (operation_at image u.at) k (is_due u.state) is
