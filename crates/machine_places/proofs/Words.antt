-- The words that a unit asks for, and the places that they are.
use Rattle.std.proofs.Common.{◌≡◌, refl, sym, ◌∙◌, ap, subst, ℕ, ◌+◌, ◌-◌, ◌*◌, ◌/◌, ◌%◌, ◌≤◌, nat_lt, Bool, true, false, if◌then◌else◌, length, Option, Some, None, arith}
use Rattle.std.specs.Prelude.{⊤}
use Rattle.std.specs.Option.{IfSome}
use Rattle.std.proofs.lemmas.Bool.Decides.{nat_tests}
use Rattle.std.proofs.Math.Nat.{div-add-mod}
use Rattle.xmt_base.specs.Action.{Word, Register, Outer}
use Rattle.xmt_base.specs.Operators.{binary_value}
use Rattle.xmt_base.specs.declared.values.TrapKind.TheVariants.{Index, PsIncrement, CallDepth}
use Rattle.xmt_isa.specs.declared.image.Image.{Image}
use Rattle.xmt_isa.specs.declared.operation.Operation.{Operation}
use Rattle.xmt_isa.specs.declared.operation.Operation.TheVariants.{Binary, Call, Check, Load, Store, Add, Print, Spawn, Join}
use Rattle.xmt_isa.specs.declared.operation.Location.{Location}
use Rattle.xmt_isa.specs.declared.operation.Location.TheVariants as location
use Rattle.xmt_isa.specs.declared.unit.Unit.{Unit}
use Rattle.xmt_isa.specs.declared.unit.UnitState.TheVariants.{Runs}
use Rattle.xmt_isa.specs.declared.unit.Start.{Start}
use Rattle.xmt_isa.specs.declared.unit.Request.{Request}
use Rattle.xmt_isa.specs.declared.unit.Request.TheVariants as request
use Rattle.xmt_isa.specs.declared.unit.Next.{Next}
use Rattle.xmt_isa.specs.declared.unit.Next.TheVariants as next
use Rattle.xmt_isa.specs.Image.{operation_at}
use Rattle.xmt_isa.specs.Places.{shared_at, word_at}
use Rattle.xmt_isa.specs.Step.{reg, word_of, access, adds, divides, next_at, next_here, next_of}
use Rattle.machine_places.proofs.Units.{next_of-runs}

-- ---- words and places

-- a word from the fourth on is that of its place
pub word_at-shared_at : (image : Image) (word : ℕ) → 4 ≤ word → word_at image (shared_at image word) ≡ word
word_at-shared_at image word above = by_register (nat_lt word 12) refl
  where
    by_data : 12 ≤ word → (b : Bool) → nat_lt word (12 + length image.words) ≡ b →
        word_at image (if b then Word (word - 12) else Outer ((word - (12 + length image.words)) / image.outer) ((word - (12 + length image.words)) % image.outer)) ≡ word
    by_data past true e = omega (arith, past)
    by_data past false e =
        let behind : 12 + length image.words ≤ word = grind (arith, nat_tests, e) in
        let sum : image.outer * ((word - (12 + length image.words)) / image.outer) + (word - (12 + length image.words)) % image.outer ≡ word - (12 + length image.words) = div-add-mod (word - (12 + length image.words)) image.outer in
        ap (λ n. 12 + length image.words + n) sum ∙ omega (arith, behind)

    by_register : (b : Bool) → nat_lt word 12 ≡ b →
        word_at image (if b then Register (word - 4) else (if nat_lt word (12 + length image.words) then Word (word - 12) else Outer ((word - (12 + length image.words)) / image.outer) ((word - (12 + length image.words)) % image.outer))) ≡ word
    by_register true e = omega (arith, above)
    by_register false e = by_data (grind (arith, nat_tests, e)) (nat_lt word (12 + length image.words)) refl

-- ---- what a unit asks for

-- the location of an access
abbrev pub location_of : Operation → Option Location
location_of (Load a place) = Some place
location_of (Store a place) = Some place
location_of (Add a place) = Some place
location_of operation = None

-- it holds of the word that is asked for
abbrev pub HoldsOfWord : (P : ℕ → Type 0) → Request → Type 0
HoldsOfWord P (request.Load word) = P word
HoldsOfWord P (request.Store word value) = P word
HoldsOfWord P (request.Add word value) = P word
HoldsOfWord P request.Draw = ⊤
HoldsOfWord P (request.Print text) = ⊤
HoldsOfWord P (request.Spawn ask) = ⊤

abbrev HoldsOfNext : (P : ℕ → Type 0) → Next → Type 0
HoldsOfNext P next.Local = ⊤
HoldsOfNext P (next.Trap kind) = ⊤
HoldsOfNext P (next.Ask ask) = HoldsOfWord P ask

module _ (P : ℕ → Type 0) where
  holds_either : (b : Bool) (x y : Next) → HoldsOfNext P x → HoldsOfNext P y → HoldsOfNext P (if b then x else y)
  holds_either true x y p q = p
  holds_either false x y p q = q

  holds_divides : (value : Option ℕ) → HoldsOfNext P (divides value)
  holds_divides None = tt
  holds_divides (Some value) = tt

  holds_access : (word : Option ℕ) (ask : ℕ → Request) → ((at : ℕ) → P at → HoldsOfWord P (ask at)) → IfSome word P → HoldsOfNext P (access word ask)
  holds_access None ask asks holds = tt
  holds_access (Some at) ask asks holds = asks at holds

  holds_adds : (word : Option ℕ) (place : Location) (value : ℕ) → IfSome word P → HoldsOfNext P (adds word place value)
  holds_adds word (location.Word i) value holds = holds_access word (λ at. request.Add at value) (λ at p. p) holds
  holds_adds word (location.Indexed b i) value holds = holds_access word (λ at. request.Add at value) (λ at p. p) holds
  holds_adds word (location.Outer i) value holds = holds_access word (λ at. request.Add at value) (λ at p. p) holds
  holds_adds word (location.Register i) value holds = holds_either (nat_lt 1 value) (next.Trap PsIncrement) (access word (λ at. request.Add at value)) tt (holds_access word (λ at. request.Add at value) (λ at p. p) holds)

  module _ (image : Image) (start : Start) (u : Unit) where
    -- it holds of the word of each location of this operation
    abbrev pub HoldsAt : Operation → Type 0
    HoldsAt operation = (place : Location) → location_of operation ≡ Some place → IfSome (word_of image start u place) P

    holds_at : (operation : Operation) → HoldsAt operation → HoldsOfNext P (next_at image start u operation)
    holds_at (Load a place) holds = holds_access (word_of image start u place) (λ at. request.Load at) (λ at p. p) (holds place refl)
    holds_at (Store a place) holds = holds_access (word_of image start u place) (λ at. request.Store at (reg u a)) (λ at p. p) (holds place refl)
    holds_at (Add a place) holds = holds_adds (word_of image start u place) place (reg u a) (holds place refl)
    holds_at (Binary op a b c) holds = holds_divides (binary_value op (reg u b) (reg u c))
    holds_at (Call f) holds = holds_either (nat_lt u.depth 256) next.Local (next.Trap CallDepth) tt tt
    holds_at (Check b n) holds = holds_either (nat_lt (reg u b) n) next.Local (next.Trap Index) tt tt
    holds_at (Print text) holds = tt
    holds_at (Spawn a b mask) holds = tt
    holds_at Join holds = tt
    holds_at operation holds = tt

    holds_here : (o : Option Operation) → IfSome o HoldsAt → HoldsOfNext P (next_here image start u o)
    holds_here None holds = tt
    holds_here (Some operation) holds = holds_at operation holds

    -- so it holds of the word that the unit asks for
    pub holds_of_asked : (ask : Request) → u.state ≡ Runs → next_of image start u ≡ next.Ask ask → IfSome (operation_at image u.at) HoldsAt → HoldsOfWord P ask
    holds_of_asked ask runs is holds = subst (HoldsOfNext P) (sym (next_of-runs image start u runs) ∙ is) (holds_here (operation_at image u.at) holds)

abbrev pub IsAbove : ℕ → Type 0
IsAbove word = 4 ≤ word

-- the words of a location lie behind the first four
above_word : (image : Image) (start : Start) (u : Unit) (place : Location) → IfSome (word_of image start u place) IsAbove
above_word image start u (location.Word i) = omega arith
above_word image start u (location.Outer i) = omega arith
above_word image start u (location.Register i) = omega arith
above_word image start u (location.Indexed b i) = by_test (nat_lt (i + reg u b) (length image.words))
  where
    by_test : (t : Bool) → IfSome (if t then Some (12 + (i + reg u b)) else None) IsAbove
    by_test true = omega arith
    by_test false = tt

pub asked_above : (image : Image) (start : Start) (u : Unit) (ask : Request) → u.state ≡ Runs → next_of image start u ≡ next.Ask ask → HoldsOfWord IsAbove ask
asked_above image start u ask runs is = holds_of_asked IsAbove image start u ask runs is (each (operation_at image u.at))
  where
    each : (o : Option Operation) → IfSome o (HoldsAt IsAbove image start u)
    each None = tt
    each (Some operation) = λ place of. above_word image start u place
