-- Where an instruction, with its reply, leads a unit that runs.
use Rattle.std.proofs.Common.{◌≡◌, refl, sym, ◌∙◌, ap, subst, ℕ, ◌+◌, ◌-◌, ◌<◌, ◌==◌, nat_lt, Bool, true, false, if◌then◌else◌, Option, Some, None, slice_set, slice_index, arith, ◌⊎◌, inl, inr}
use Rattle.std.proofs.lemmas.Bool.Decides.{nat_tests}
use Rattle.xmt_base.specs.declared.values.TrapKind.TheVariants.{Index, PsIncrement, CallDepth, Address}
use Rattle.xmt_base.specs.Operators.{binary_value}
use Rattle.xmt_isa.specs.declared.image.Image.{Image}
use Rattle.xmt_isa.specs.declared.operation.Operation.{Operation}
use Rattle.xmt_isa.specs.declared.operation.Operation.TheVariants.{Set, Unary, Binary, Jump, IfZero, IfNot, Call, Return, ReadSlot, WriteSlot, WriteArgument, ReadArgument, ReadMaster, Check, Load, Store, Add, Print, Spawn, Join}
use Rattle.xmt_isa.specs.declared.operation.Location.{Location}
use Rattle.xmt_isa.specs.declared.operation.Location.TheVariants.{Word, Indexed, Outer, Register}
use Rattle.xmt_isa.specs.declared.unit.Unit.{Unit}
use Rattle.xmt_isa.specs.declared.unit.UnitState.TheVariants.{Runs, Halted}
use Rattle.xmt_isa.specs.declared.unit.SpawnAsk.{SpawnAsk}
use Rattle.xmt_isa.specs.declared.unit.Start.{Start}
use Rattle.xmt_isa.specs.declared.unit.Request.{Request}
use Rattle.xmt_isa.specs.declared.unit.Request.TheVariants as request
use Rattle.xmt_isa.specs.declared.unit.Next.{Next}
use Rattle.xmt_isa.specs.declared.unit.Next.TheVariants as next
use Rattle.xmt_isa.specs.Image.{operation_at, start_of}
use Rattle.xmt_isa.specs.Step.{reg, goes, access, divides, adds, word_of, next_at, next_here, next_of, local_at, local_of, local_here, answer_at, answer_here, answer_of}
use Rattle.xmt_isa.specs.Regions.{IsSpawn, IsJoin, IsReturn}
use Rattle.xmt_isa.specs.Flow.{LeadsTo}
use Rattle.interleaving.proofs.Interleave.{eq_of}
use Rattle.interleaving.proofs.Grows.{differs}
use Rattle.machine_places.proofs.Units.{next_of-runs, answer_of-runs, is_plain}
use Rattle.machine_places.proofs.Places.{spawn_op, join_op, return_op}

-- a spawn and a join are not among these
pub data Goes (image : Image) (u v : Unit) : Type 0 where
  leads : (o : Operation) → operation_at image u.at ≡ Some o → LeadsTo u.at v.at o → v.depth ≡ u.depth → v.back ≡ u.back → Goes image u v
  calls : (f : ℕ) → operation_at image u.at ≡ Some (Call f) → v.at ≡ start_of image f → v.depth ≡ u.depth + 1 → v.back ≡ slice_set u.back u.depth (u.at + 1) → u.depth < 256 → Goes image u v
  returns : (u.depth ≡ 0 → ⊥) → v.at ≡ slice_index u.back (u.depth - 1) → v.depth ≡ u.depth - 1 → v.back ≡ u.back → Goes image u v

-- ---- the cases of an instruction

abbrev pub is_local_next : Next → Bool
is_local_next next.Local = true
is_local_next (next.Trap kind) = false
is_local_next (next.Ask ask) = false

abbrev pub is_plain_next : Next → Bool
is_plain_next next.Local = false
is_plain_next (next.Trap kind) = false
is_plain_next (next.Ask ask) = is_plain ask

pub refute : {A : Type 0} (test : Next → Bool) (n m : Next) → test n ≡ false → test m ≡ true → n ≡ m → A
refute test n m no_n yes_m e = let never : false ≡ true = sym no_n ∙ ap test e ∙ yes_m in cc

pub either_next : (test : Next → Bool) (b : Bool) (x y : Next) → test x ≡ false → test y ≡ false → test (if b then x else y) ≡ false
either_next test true x y p q = p
either_next test false x y p q = q

pub access-next : (test : Next → Bool) (o : Option ℕ) (ask : ℕ → Request) → test (next.Trap Address) ≡ false → ((at : ℕ) → test (next.Ask (ask at)) ≡ false) → test (access o ask) ≡ false
access-next test None ask t h = t
access-next test (Some at) ask t h = h at

pub adds-local : (o : Option ℕ) (location : Location) (value : ℕ) → is_local_next (adds o location value) ≡ false
adds-local o (Word i) value = access-next is_local_next o (λ at. request.Add at value) refl (λ at. refl)
adds-local o (Indexed b i) value = access-next is_local_next o (λ at. request.Add at value) refl (λ at. refl)
adds-local o (Outer i) value = access-next is_local_next o (λ at. request.Add at value) refl (λ at. refl)
adds-local o (Register i) value = either_next is_local_next (nat_lt 1 value) (next.Trap PsIncrement) (access o (λ at. request.Add at value)) refl (access-next is_local_next o (λ at. request.Add at value) refl (λ at. refl))

pub divides-plain : (o : Option ℕ) → is_plain_next (divides o) ≡ false
divides-plain None = refl
divides-plain (Some value) = refl

module _ (image : Image) (start : Start) (u : Unit) where
  abbrev pub AfterAlone : Unit → Type 0
  AfterAlone v = (Goes image u v × (v.state ≡ u.state)) ⊎ (IsReturn image u.at × (u.depth ≡ 0) × (v.state ≡ Halted))

  goes_if : (to : ℕ) (o : Operation) (test : Bool) → operation_at image u.at ≡ Some o → ((at : ℕ) → (at ≡ to) ⊎ (at ≡ u.at + 1) → LeadsTo u.at at o) → (x y : ℕ) → (x ≡ to) ⊎ (x ≡ u.at + 1) → (y ≡ to) ⊎ (y ≡ u.at + 1) →
      Goes image u (goes u (if test then x else y))
  goes_if to o true is either x y first second = leads o is (either x first) refl refl
  goes_if to o false is either x y first second = leads o is (either y second) refl refl

  goes_back : operation_at image u.at ≡ Some Return → (b : Bool) → (u.depth == 0) ≡ b → AfterAlone (if b then record (goes u u.at) { state = Halted } else record (goes u (slice_index u.back (u.depth - 1))) { depth = u.depth - 1 })
  goes_back is true e = inr (return_op image u.at is, eq_of u.depth 0 e, refl)
  goes_back is false e = inl (returns (differs u.depth 0 e) refl refl refl, refl)

  room_for_call : (b : Bool) → (if b then next.Local else next.Trap CallDepth) ≡ next.Local → b ≡ true
  room_for_call true h = refl
  room_for_call false h = cc

  alone_at : (o : Operation) → operation_at image u.at ≡ Some o → next_at image start u o ≡ next.Local → AfterAlone (local_at image start u o)
  alone_at (Jump to) is n = inl (leads (Jump to) is refl refl refl, refl)
  alone_at (IfZero b to) is n = inl (goes_if to (IfZero b to) (reg u b == 0) is (λ at h. h) to (u.at + 1) (inl refl) (inr refl), refl)
  alone_at (IfNot b to) is n = inl (goes_if to (IfNot b to) (reg u b == 0) is (λ at h. h) (u.at + 1) to (inr refl) (inl refl), refl)
  alone_at (Call f) is n = inl (calls f is refl refl refl (let room : nat_lt u.depth 256 ≡ true = room_for_call (nat_lt u.depth 256) n in grind (arith, nat_tests, room)), refl)
  alone_at Return is n = goes_back is (u.depth == 0) refl
  alone_at (Load a place) is n = refute is_local_next (access (word_of image start u place) (λ at. request.Load at)) next.Local (access-next is_local_next (word_of image start u place) (λ at. request.Load at) refl (λ at. refl)) refl n
  alone_at (Store a place) is n = refute is_local_next (access (word_of image start u place) (λ at. request.Store at (reg u a))) next.Local (access-next is_local_next (word_of image start u place) (λ at. request.Store at (reg u a)) refl (λ at. refl)) refl n
  alone_at (Add a place) is n = refute is_local_next (adds (word_of image start u place) place (reg u a)) next.Local (adds-local (word_of image start u place) place (reg u a)) refl n
  alone_at (Print text) is n = cc
  alone_at (Spawn a b mask) is n = cc
  alone_at Join is n = cc
  alone_at (Set a value) is n = inl (leads (Set a value) is refl refl refl, refl)
  alone_at (Unary op a b) is n = inl (leads (Unary op a b) is refl refl refl, refl)
  alone_at (Binary op a b c) is n = inl (leads (Binary op a b c) is refl refl refl, refl)
  alone_at (ReadSlot a i) is n = inl (leads (ReadSlot a i) is refl refl refl, refl)
  alone_at (WriteSlot b i) is n = inl (leads (WriteSlot b i) is refl refl refl, refl)
  alone_at (WriteArgument b i) is n = inl (leads (WriteArgument b i) is refl refl refl, refl)
  alone_at (ReadArgument a i) is n = inl (leads (ReadArgument a i) is refl refl refl, refl)
  alone_at (ReadMaster a i) is n = inl (leads (ReadMaster a i) is refl refl refl, refl)
  alone_at (Check b k) is n = inl (leads (Check b k) is refl refl refl, refl)

  answered_at : (o : Operation) (ask : Request) (reply : ℕ) → operation_at image u.at ≡ Some o → next_at image start u o ≡ next.Ask ask → is_plain ask ≡ true → Goes image u (answer_at start u o reply)
  answered_at (Load a place) ask reply is n plain = leads (Load a place) is refl refl refl
  answered_at (Store a place) ask reply is n plain = leads (Store a place) is refl refl refl
  answered_at (Add a place) ask reply is n plain = leads (Add a place) is refl refl refl
  answered_at (Print text) ask reply is n plain = leads (Print text) is refl refl refl
  answered_at (Binary op a b c) ask reply is n plain = refute is_plain_next (divides (binary_value op (reg u b) (reg u c))) (next.Ask ask) (divides-plain (binary_value op (reg u b) (reg u c))) plain n
  answered_at (Call f) ask reply is n plain = refute is_plain_next (if nat_lt u.depth 256 then next.Local else next.Trap CallDepth) (next.Ask ask) (either_next is_plain_next (nat_lt u.depth 256) next.Local (next.Trap CallDepth) refl refl) plain n
  answered_at (Check b k) ask reply is n plain = refute is_plain_next (if nat_lt (reg u b) k then next.Local else next.Trap Index) (next.Ask ask) (either_next is_plain_next (nat_lt (reg u b) k) next.Local (next.Trap Index) refl refl) plain n
  answered_at (Spawn a b mask) ask reply is n plain = refute is_plain_next (next_at image start u (Spawn a b mask)) (next.Ask ask) refl plain n
  answered_at Join ask reply is n plain = refute is_plain_next (next.Ask request.Draw) (next.Ask ask) refl plain n
  answered_at o ask reply is n plain = refute is_plain_next next.Local (next.Ask ask) refl plain n

  -- the same of a unit that runs
  found_at : (n : Next) → next_of image start u ≡ n → u.state ≡ Runs → (o : Option Operation) → operation_at image u.at ≡ o → next_here image start u o ≡ n
  found_at n is runs o at = ap (next_here image start u) (sym at) ∙ sym (next_of-runs image start u runs) ∙ is

  alone_here : (o : Option Operation) → operation_at image u.at ≡ o → next_here image start u o ≡ next.Local → AfterAlone (local_here image start u o)
  alone_here None at n = cc
  alone_here (Some o) at n = alone_at o at n

  pub after_alone : u.state ≡ Runs → next_of image start u ≡ next.Local → AfterAlone (local_of image start u)
  after_alone runs is = alone_here (operation_at image u.at) refl (found_at next.Local is runs (operation_at image u.at) refl)

  answered_here : (o : Option Operation) (ask : Request) (reply : ℕ) → operation_at image u.at ≡ o → next_here image start u o ≡ next.Ask ask → is_plain ask ≡ true → Goes image u (answer_here start u o reply)
  answered_here None ask reply at n plain = cc
  answered_here (Some o) ask reply at n plain = answered_at o ask reply at n plain

  pub after_answer : (ask : Request) (reply : ℕ) → u.state ≡ Runs → next_of image start u ≡ next.Ask ask → is_plain ask ≡ true → Goes image u (answer_of image start u reply)
  after_answer ask reply runs is plain = subst (λ v. Goes image u v) (sym (answer_of-runs image start u reply runs)) (answered_here (operation_at image u.at) ask reply refl (found_at (next.Ask ask) is runs (operation_at image u.at) refl) plain)

-- ---- a spawn

abbrev is_spawn_next : Next → Bool
is_spawn_next next.Local = false
is_spawn_next (next.Trap kind) = false
is_spawn_next (next.Ask (request.Load at)) = false
is_spawn_next (next.Ask (request.Store at value)) = false
is_spawn_next (next.Ask (request.Add at value)) = false
is_spawn_next (next.Ask (request.Print text)) = false
is_spawn_next (next.Ask request.Draw) = false
is_spawn_next (next.Ask (request.Spawn ask)) = true

adds-spawn : (o : Option ℕ) (location : Location) (value : ℕ) → is_spawn_next (adds o location value) ≡ false
adds-spawn o (Word i) value = access-next is_spawn_next o (λ at. request.Add at value) refl (λ at. refl)
adds-spawn o (Indexed b i) value = access-next is_spawn_next o (λ at. request.Add at value) refl (λ at. refl)
adds-spawn o (Outer i) value = access-next is_spawn_next o (λ at. request.Add at value) refl (λ at. refl)
adds-spawn o (Register i) value = either_next is_spawn_next (nat_lt 1 value) (next.Trap PsIncrement) (access o (λ at. request.Add at value)) refl (access-next is_spawn_next o (λ at. request.Add at value) refl (λ at. refl))

divides-spawn : (o : Option ℕ) → is_spawn_next (divides o) ≡ false
divides-spawn None = refl
divides-spawn (Some value) = refl

module _ (image : Image) (start : Start) (u : Unit) (ask : SpawnAsk) where
  spawns_at : (o : Operation) → operation_at image u.at ≡ Some o → next_at image start u o ≡ next.Ask (request.Spawn ask) → IsSpawn image u.at × (ask.at ≡ u.at + 1)
  spawns_at (Spawn a b mask) is n = (spawn_op image u.at a b mask is, (let same : record { at = u.at + 1; low = reg u a; high = reg u b; mask = mask } ≡ ask = cc in sym (ap (λ (x : SpawnAsk). x.at) same)))
  spawns_at (Binary op a b c) is n = refute is_spawn_next (divides (binary_value op (reg u b) (reg u c))) (next.Ask (request.Spawn ask)) (divides-spawn (binary_value op (reg u b) (reg u c))) refl n
  spawns_at (Call f) is n = refute is_spawn_next (if nat_lt u.depth 256 then next.Local else next.Trap CallDepth) (next.Ask (request.Spawn ask)) (either_next is_spawn_next (nat_lt u.depth 256) next.Local (next.Trap CallDepth) refl refl) refl n
  spawns_at (Check b k) is n = refute is_spawn_next (if nat_lt (reg u b) k then next.Local else next.Trap Index) (next.Ask (request.Spawn ask)) (either_next is_spawn_next (nat_lt (reg u b) k) next.Local (next.Trap Index) refl refl) refl n
  spawns_at (Load a place) is n = refute is_spawn_next (access (word_of image start u place) (λ at. request.Load at)) (next.Ask (request.Spawn ask)) (access-next is_spawn_next (word_of image start u place) (λ at. request.Load at) refl (λ at. refl)) refl n
  spawns_at (Store a place) is n = refute is_spawn_next (access (word_of image start u place) (λ at. request.Store at (reg u a))) (next.Ask (request.Spawn ask)) (access-next is_spawn_next (word_of image start u place) (λ at. request.Store at (reg u a)) refl (λ at. refl)) refl n
  spawns_at (Add a place) is n = refute is_spawn_next (adds (word_of image start u place) place (reg u a)) (next.Ask (request.Spawn ask)) (adds-spawn (word_of image start u place) place (reg u a)) refl n
  spawns_at (Print text) is n = refute is_spawn_next (next.Ask (request.Print text)) (next.Ask (request.Spawn ask)) refl refl n
  spawns_at Join is n = refute is_spawn_next (next.Ask request.Draw) (next.Ask (request.Spawn ask)) refl refl n
  spawns_at o is n = refute is_spawn_next next.Local (next.Ask (request.Spawn ask)) refl refl n

  spawns_here : (o : Option Operation) → operation_at image u.at ≡ o → next_here image start u o ≡ next.Ask (request.Spawn ask) → IsSpawn image u.at × (ask.at ≡ u.at + 1)
  spawns_here None at n = cc
  spawns_here (Some o) at n = spawns_at o at n

  pub at_spawn : u.state ≡ Runs → next_of image start u ≡ next.Ask (request.Spawn ask) → IsSpawn image u.at × (ask.at ≡ u.at + 1)
  at_spawn runs is = spawns_here (operation_at image u.at) refl (found_at image start u (next.Ask (request.Spawn ask)) is runs (operation_at image u.at) refl)

-- ---- a join

abbrev pub is_draw_next : Next → Bool
is_draw_next next.Local = false
is_draw_next (next.Trap kind) = false
is_draw_next (next.Ask (request.Load at)) = false
is_draw_next (next.Ask (request.Store at value)) = false
is_draw_next (next.Ask (request.Add at value)) = false
is_draw_next (next.Ask (request.Print text)) = false
is_draw_next (next.Ask request.Draw) = true
is_draw_next (next.Ask (request.Spawn ask)) = false

pub adds-draw : (o : Option ℕ) (location : Location) (value : ℕ) → is_draw_next (adds o location value) ≡ false
adds-draw o (Word i) value = access-next is_draw_next o (λ at. request.Add at value) refl (λ at. refl)
adds-draw o (Indexed b i) value = access-next is_draw_next o (λ at. request.Add at value) refl (λ at. refl)
adds-draw o (Outer i) value = access-next is_draw_next o (λ at. request.Add at value) refl (λ at. refl)
adds-draw o (Register i) value = either_next is_draw_next (nat_lt 1 value) (next.Trap PsIncrement) (access o (λ at. request.Add at value)) refl (access-next is_draw_next o (λ at. request.Add at value) refl (λ at. refl))

pub divides-draw : (o : Option ℕ) → is_draw_next (divides o) ≡ false
divides-draw None = refl
divides-draw (Some value) = refl

module _ (image : Image) (start : Start) (u : Unit) where
  joins_at : (o : Operation) → operation_at image u.at ≡ Some o → next_at image start u o ≡ next.Ask request.Draw → IsJoin image u.at
  joins_at Join is n = join_op image u.at is
  joins_at (Binary op a b c) is n = refute is_draw_next (divides (binary_value op (reg u b) (reg u c))) (next.Ask request.Draw) (divides-draw (binary_value op (reg u b) (reg u c))) refl n
  joins_at (Call f) is n = refute is_draw_next (if nat_lt u.depth 256 then next.Local else next.Trap CallDepth) (next.Ask request.Draw) (either_next is_draw_next (nat_lt u.depth 256) next.Local (next.Trap CallDepth) refl refl) refl n
  joins_at (Check b k) is n = refute is_draw_next (if nat_lt (reg u b) k then next.Local else next.Trap Index) (next.Ask request.Draw) (either_next is_draw_next (nat_lt (reg u b) k) next.Local (next.Trap Index) refl refl) refl n
  joins_at (Load a place) is n = refute is_draw_next (access (word_of image start u place) (λ at. request.Load at)) (next.Ask request.Draw) (access-next is_draw_next (word_of image start u place) (λ at. request.Load at) refl (λ at. refl)) refl n
  joins_at (Store a place) is n = refute is_draw_next (access (word_of image start u place) (λ at. request.Store at (reg u a))) (next.Ask request.Draw) (access-next is_draw_next (word_of image start u place) (λ at. request.Store at (reg u a)) refl (λ at. refl)) refl n
  joins_at (Add a place) is n = refute is_draw_next (adds (word_of image start u place) place (reg u a)) (next.Ask request.Draw) (adds-draw (word_of image start u place) place (reg u a)) refl n
  joins_at (Print text) is n = refute is_draw_next (next.Ask (request.Print text)) (next.Ask request.Draw) refl refl n
  joins_at (Spawn a b mask) is n = refute is_draw_next (next_at image start u (Spawn a b mask)) (next.Ask request.Draw) refl refl n
  joins_at o is n = refute is_draw_next next.Local (next.Ask request.Draw) refl refl n

  joins_here : (o : Option Operation) → operation_at image u.at ≡ o → next_here image start u o ≡ next.Ask request.Draw → IsJoin image u.at
  joins_here None at n = cc
  joins_here (Some o) at n = joins_at o at n

  pub at_join : u.state ≡ Runs → next_of image start u ≡ next.Ask request.Draw → IsJoin image u.at
  at_join runs is = joins_here (operation_at image u.at) refl (found_at image start u (next.Ask request.Draw) is runs (operation_at image u.at) refl)
