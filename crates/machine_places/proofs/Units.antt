-- What an instruction leaves of a unit.
use Rattle.std.proofs.Common.{◌≡◌, refl, sym, ◌∙◌, ap, subst, ℕ, zero, suc, replicate, ◌-◌, ◌+◌, length, slice_index, nat_lt, Bool, true, false, ◌==◌, if◌then◌else◌, Option, Some, None, ◌⊎◌, inl, inr}
use Rattle.std.proofs.lemmas.List.{length-set, length-replicate}
use Rattle.xmt_isa.specs.Opening.{zeros_of}
use Rattle.xmt_isa.specs.Threads.{HasRoom}
use Rattle.xmt_isa.specs.declared.image.Image.{Image}
use Rattle.xmt_isa.specs.declared.operation.Operation.{Operation}
use Rattle.xmt_isa.specs.declared.operation.Operation.TheVariants.{Set, Unary, Binary, Jump, IfZero, IfNot, Call, Return, ReadSlot, WriteSlot, WriteArgument, ReadArgument, ReadMaster, Check, Load, Store, Add, Print, Spawn, Join}
use Rattle.xmt_isa.specs.declared.unit.Unit.{Unit}
use Rattle.xmt_isa.specs.declared.unit.UnitState.TheVariants.{Draws, Runs, Halted}
use Rattle.xmt_isa.specs.declared.unit.Start.{Start}
use Rattle.xmt_isa.specs.declared.unit.Request.{Request}
use Rattle.xmt_isa.specs.declared.unit.Next.{Next}
use Rattle.xmt_base.specs.declared.values.TrapKind.TheVariants.{Index, PsIncrement, CallDepth}
use Rattle.xmt_base.specs.Operators.{binary_value}
use Rattle.xmt_isa.specs.declared.operation.Location.{Location}
use Rattle.xmt_isa.specs.declared.operation.Location.TheVariants.{Word, Indexed, Outer, Register}
use Rattle.xmt_isa.specs.Step.{access, divides, adds, reg, slot, word_of, next_at, next_here, next_of, goes, local_at, local_here, local_of, draws, answer_at, answer_here, answer_of}
use Rattle.xmt_isa.specs.Image.{operation_at}
use Rattle.xmt_isa.specs.declared.unit.Request.TheVariants as request
use Rattle.xmt_isa.specs.declared.unit.Next.TheVariants as next

-- the number, the thread and whether it waits
pub record SameUnit (u v : Unit) : Type 0 where
  pub number : v.number ≡ u.number
  pub waits : v.waits ≡ u.waits
  pub thread : v.thread ≡ u.thread
  pub room : HasRoom u → HasRoom v

same_room : (u v : Unit) → length v.back ≡ length u.back → length v.frames ≡ length u.frames → length v.list ≡ length u.list → HasRoom u → HasRoom v
same_room u v a b c r = record { back = a ∙ r.back; frames = b ∙ r.frames; list = c ∙ r.list }

-- and it runs, or has halted
pub record AfterLocal (u v : Unit) : Type 0 where
  pub same : SameUnit u v
  pub state : (v.state ≡ u.state) ⊎ (v.state ≡ Halted)

returned-same : (u : Unit) (v w : Unit) (b : Bool) → AfterLocal u v → AfterLocal u w → AfterLocal u (if b then v else w)
returned-same u v w true first second = first
returned-same u v w false first second = second

kept : (u v : Unit) → v.number ≡ u.number → v.waits ≡ u.waits → v.thread ≡ u.thread → v.state ≡ u.state → length v.back ≡ length u.back → length v.frames ≡ length u.frames → length v.list ≡ length u.list → AfterLocal u v
kept u v a b c d e f g = record { same = record { number = a; waits = b; thread = c; room = same_room u v e f g }; state = inl d }

local_at-kept : (image : Image) (start : Start) (u : Unit) (operation : Operation) → AfterLocal u (local_at image start u operation)
local_at-kept image start u (Set a value) = kept u _ refl refl refl refl refl refl refl
local_at-kept image start u (Unary op a b) = kept u _ refl refl refl refl refl refl refl
local_at-kept image start u (Binary op a b c) = kept u _ refl refl refl refl refl refl refl
local_at-kept image start u (Jump to) = kept u _ refl refl refl refl refl refl refl
local_at-kept image start u (IfZero b to) = kept u _ refl refl refl refl refl refl refl
local_at-kept image start u (IfNot b to) = kept u _ refl refl refl refl refl refl refl
local_at-kept image start u (Call f) = kept u _ refl refl refl refl (length-set u.back u.depth (u.at + 1)) refl refl
local_at-kept image start u Return = returned-same u (record (goes u u.at) { state = Halted }) (record (goes u (slice_index u.back (u.depth - 1))) { depth = u.depth - 1 }) (u.depth == 0) (record { same = record { number = refl; waits = refl; thread = refl; room = same_room u (record (goes u u.at) { state = Halted }) refl refl refl }; state = inr refl }) (kept u _ refl refl refl refl refl refl refl)
local_at-kept image start u (ReadSlot a i) = kept u _ refl refl refl refl refl refl refl
local_at-kept image start u (WriteSlot b i) = kept u _ refl refl refl refl refl (length-set u.frames (slot u i) (reg u b)) refl
local_at-kept image start u (WriteArgument b i) = kept u _ refl refl refl refl refl refl (length-set u.list i (reg u b))
local_at-kept image start u (ReadArgument a i) = kept u _ refl refl refl refl refl refl refl
local_at-kept image start u (ReadMaster a i) = kept u _ refl refl refl refl refl refl refl
local_at-kept image start u (Check b n) = kept u _ refl refl refl refl refl refl refl
local_at-kept image start u operation = kept u _ refl refl refl refl refl refl refl

local_here-kept : (image : Image) (start : Start) (u : Unit) (o : Option Operation) → AfterLocal u (local_here image start u o)
local_here-kept image start u None = kept u _ refl refl refl refl refl refl refl
local_here-kept image start u (Some operation) = local_at-kept image start u operation

pub local_of-kept : (image : Image) (start : Start) (u : Unit) → AfterLocal u (local_of image start u)
local_of-kept image start u = local_here-kept image start u (operation_at image u.at)

-- ---- a unit that runs, or is due

pub next_of-runs : (image : Image) (start : Start) (u : Unit) → u.state ≡ Runs → next_of image start u ≡ next_here image start u (operation_at image u.at)
next_of-runs image start u runs = rw runs refl

pub next_of-draws : (image : Image) (start : Start) (u : Unit) → u.state ≡ Draws → next_of image start u ≡ next.Ask request.Draw
next_of-draws image start u due = rw due refl

pub answer_of-runs : (image : Image) (start : Start) (u : Unit) (reply : ℕ) → u.state ≡ Runs → answer_of image start u reply ≡ answer_here start u (operation_at image u.at) reply
answer_of-runs image start u reply runs = rw runs refl

pub answer_of-draws : (image : Image) (start : Start) (u : Unit) (reply : ℕ) → u.state ≡ Draws → answer_of image start u reply ≡ draws start u reply
answer_of-draws image start u reply due = rw due refl

-- an access or a print
abbrev pub is_plain : Request → Bool
is_plain (request.Load at) = true
is_plain (request.Store at value) = true
is_plain (request.Add at value) = true
is_plain (request.Print text) = true
is_plain request.Draw = false
is_plain (request.Spawn ask) = false

-- after the reply to an access or a print a unit goes on
pub record AfterReply (u v : Unit) : Type 0 where
  pub same : SameUnit u v
  pub state : v.state ≡ u.state

replied : (u v : Unit) → v.number ≡ u.number → v.waits ≡ u.waits → v.thread ≡ u.thread → v.state ≡ u.state → (HasRoom u → HasRoom v) → AfterReply u v
replied u v a b c d room = record { same = record { number = a; waits = b; thread = c; room = room }; state = d }

answer_at-kept : (image : Image) (start : Start) (u : Unit) (operation : Operation) (request : Request) (reply : ℕ) → next_at image start u operation ≡ next.Ask request → is_plain request ≡ true → AfterReply u (answer_at start u operation reply)
answer_at-kept image start u (Load a place) ask reply asks plain = replied u _ refl refl refl refl (same_room u _ refl refl refl)
answer_at-kept image start u (Store a place) ask reply asks plain = replied u _ refl refl refl refl (same_room u _ refl refl refl)
answer_at-kept image start u (Add a place) ask reply asks plain = replied u _ refl refl refl refl (same_room u _ refl refl refl)
answer_at-kept image start u (Print text) ask reply asks plain = replied u _ refl refl refl refl (same_room u _ refl refl refl)
answer_at-kept image start u Join ask reply asks plain = let same : request.Draw ≡ ask = cc in let never : is_plain request.Draw ≡ true = ap is_plain same ∙ plain in cc
answer_at-kept image start u operation ask reply asks plain = replied u _ refl refl refl refl (same_room u _ refl refl refl)

answer_here-kept : (image : Image) (start : Start) (u : Unit) (o : Option Operation) (ask : Request) (reply : ℕ) → next_here image start u o ≡ next.Ask ask → is_plain ask ≡ true → AfterReply u (answer_here start u o reply)
answer_here-kept image start u None ask reply asks plain = replied u _ refl refl refl refl (same_room u _ refl refl refl)
answer_here-kept image start u (Some operation) ask reply asks plain = answer_at-kept image start u operation ask reply asks plain

pub answer_of-kept : (image : Image) (start : Start) (u : Unit) (ask : Request) (reply : ℕ) → u.state ≡ Runs → next_of image start u ≡ next.Ask ask → is_plain ask ≡ true → AfterReply u (answer_of image start u reply)
answer_of-kept image start u ask reply runs asks plain =
    let here : next_here image start u (operation_at image u.at) ≡ next.Ask ask = sym (next_of-runs image start u runs) ∙ asks in
    subst (λ v. AfterReply u v) (sym (answer_of-runs image start u reply runs)) (answer_here-kept image start u (operation_at image u.at) ask reply here plain)

-- ---- a join draws

abbrev is_draw : Next → Bool
is_draw next.Local = false
is_draw (next.Trap kind) = false
is_draw (next.Ask (request.Load at)) = false
is_draw (next.Ask (request.Store at value)) = false
is_draw (next.Ask (request.Add at value)) = false
is_draw (next.Ask (request.Print text)) = false
is_draw (next.Ask request.Draw) = true
is_draw (next.Ask (request.Spawn ask)) = false

refuted : {A : Type 0} (n : Next) → is_draw n ≡ false → n ≡ next.Ask request.Draw → A
refuted n is_none is_one = let never : true ≡ false = ap is_draw (sym is_one) ∙ is_none in cc

by_bool : (b : Bool) (x y : Next) → is_draw x ≡ false → is_draw y ≡ false → is_draw (if b then x else y) ≡ false
by_bool true x y p q = p
by_bool false x y p q = q

access-draw : (o : Option ℕ) (ask : ℕ → Request) → ((at : ℕ) → is_draw (next.Ask (ask at)) ≡ false) → is_draw (access o ask) ≡ false
access-draw None ask h = refl
access-draw (Some at) ask h = h at

divides-draw : (o : Option ℕ) → is_draw (divides o) ≡ false
divides-draw None = refl
divides-draw (Some at) = refl

adds-draw : (o : Option ℕ) (location : Location) (value : ℕ) → is_draw (adds o location value) ≡ false
adds-draw o (Word i) value = access-draw o (λ at. request.Add at value) (λ at. refl)
adds-draw o (Indexed b i) value = access-draw o (λ at. request.Add at value) (λ at. refl)
adds-draw o (Outer i) value = access-draw o (λ at. request.Add at value) (λ at. refl)
adds-draw o (Register i) value = by_bool (nat_lt 1 value) (next.Trap PsIncrement) (access o (λ at. request.Add at value)) refl (access-draw o (λ at. request.Add at value) (λ at. refl))

draws_at : (image : Image) (start : Start) (u : Unit) (operation : Operation) (reply : ℕ) → next_at image start u operation ≡ next.Ask request.Draw → answer_at start u operation reply ≡ draws start u reply
draws_at image start u Join reply h = refl
draws_at image start u (Binary op a b c) reply h = refuted (divides (binary_value op (reg u b) (reg u c))) (divides-draw (binary_value op (reg u b) (reg u c))) h
draws_at image start u (Call f) reply h = refuted (if nat_lt u.depth 256 then next.Local else next.Trap CallDepth) (by_bool (nat_lt u.depth 256) next.Local (next.Trap CallDepth) refl refl) h
draws_at image start u (Check b n) reply h = refuted (if nat_lt (reg u b) n then next.Local else next.Trap Index) (by_bool (nat_lt (reg u b) n) next.Local (next.Trap Index) refl refl) h
draws_at image start u (Load a place) reply h = refuted (access (word_of image start u place) (λ at. request.Load at)) (access-draw (word_of image start u place) (λ at. request.Load at) (λ at. refl)) h
draws_at image start u (Store a place) reply h = refuted (access (word_of image start u place) (λ at. request.Store at (reg u a))) (access-draw (word_of image start u place) (λ at. request.Store at (reg u a)) (λ at. refl)) h
draws_at image start u (Add a place) reply h = refuted (adds (word_of image start u place) place (reg u a)) (adds-draw (word_of image start u place) place (reg u a)) h
draws_at image start u (Print text) reply h = refuted (next.Ask (request.Print text)) refl h
draws_at image start u (Spawn a b mask) reply h = refuted _ refl h
draws_at image start u operation reply h = refuted next.Local refl h

draws_here : (image : Image) (start : Start) (u : Unit) (o : Option Operation) (reply : ℕ) → next_here image start u o ≡ next.Ask request.Draw → answer_here start u o reply ≡ draws start u reply
draws_here image start u None reply h = cc
draws_here image start u (Some operation) reply h = draws_at image start u operation reply h

-- the unit's answer to a draw at a join is that of a unit that was due
pub answer_of-join : (image : Image) (start : Start) (u : Unit) (reply : ℕ) → u.state ≡ Runs → next_of image start u ≡ next.Ask request.Draw → answer_of image start u reply ≡ draws start u reply
answer_of-join image start u reply runs asks = answer_of-runs image start u reply runs ∙ draws_here image start u (operation_at image u.at) reply (sym (next_of-runs image start u runs) ∙ asks)

-- ---- zeros

pub zeros-length : (n : ℕ) → length (zeros_of n) ≡ n
unfolding zeros_of
zeros-length n = length-replicate {A = ℕ} n 0

pub zeros-index : (n i : ℕ) → slice_index (zeros_of n) i ≡ 0
unfolding zeros_of
zeros-index n i = zeros n i
  where
    zeros : (n i : ℕ) → slice_index (replicate n 0) i ≡ 0
    zeros zero i = refl
    zeros (suc n) zero = refl
    zeros (suc n) (suc i) = zeros n i
