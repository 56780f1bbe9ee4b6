-- The image that returns at once implements `int main() {}`, by the law. So its premises can be met.
use Rattle.std.proofs.Common.{◌≡◌, refl, sym, ◌∙◌, ap, subst, ℕ, suc, zero, ◌-◌, ◌<◌, ◌≤◌, true, false, List, [], ◌∷◌, replicate, slice_get, Some, None, arith, ◌⊎◌, inl, inr}
use Rattle.std.specs.Prelude.{codes, All, IfSome}
use Rattle.xmt_base.specs.declared.values.TrapKind.{TrapKind}
use Rattle.xmt_base.specs.Action.{Action, Ended, Main, Block}
use Rattle.interleaving.specs.Actors.{Entry, Does}
use Rattle.source_meaning.specs.declared.tree.Function.{Function}
use Rattle.source_meaning.specs.Opened.{opened}
use Rattle.source_meaning.specs.Trace.{traces_in, main_in}
use Rattle.source_log.specs.Bounded.{IsBounded, HasBoundedTraces}
use Rattle.source_log.specs.Checked.{IsPlain, IsPlainBlock, ListBlocksAre}
use Rattle.source_meaning.proofs.Written.{function}
use Rattle.interleaving.specs.Parts.{actions_of}
use Rattle.xmt_isa.specs.declared.image.Image.{Image}
use Rattle.xmt_isa.specs.declared.operation.Operation.TheVariants as operation
use Rattle.xmt_isa.specs.declared.unit.UnitState.TheVariants.{Runs, Halted}
use Rattle.xmt_isa.specs.declared.unit.SpawnAsk.{SpawnAsk}
use Rattle.xmt_isa.specs.declared.unit.Next.TheVariants as next
use Rattle.xmt_isa.specs.declared.unit.Request.TheVariants as request
use Rattle.xmt_isa.specs.declared.image.FunctionEntry.{FunctionEntry}
use Rattle.xmt_isa.specs.declared.image.Instr.{Instr}
use Rattle.xmt_isa.specs.Operation.{operation_of}
use Rattle.xmt_isa.specs.Registers.{RegistersFit}
use Rattle.xmt_isa.specs.Targets.{TargetFits, FunctionTargetFits}
use Rattle.xmt_isa.specs.Image.{operation_at, end_of}
use Rattle.xmt_isa.specs.Regions.{HasOp, IsSpawn, IsJoin, IsReadMaster, IsJump, IsReturn, IsPrint, IsBlock}
use Rattle.xmt_isa.specs.Step.{next_of}
use Rattle.xmt_isa.specs.Threads.{Actor, main_actor, move}
use Rattle.xmt_isa.specs.Traces.{ComesToSpawn, IsAtTrap, IsTraceOf, traces_of}
use Rattle.xmt_isa.specs.Valid.{IsValid}
use Rattle.xmt_compile.specs.Implements.{OpensWith, Implements}
use Rattle.xmt_compile.proofs.Implements.{traces_implement}
use Rattle.xmt_compile.proofs.Rows.{empty}

abbrev returning : Image
returning = record {
  code = record { op = 24; a = 0; b = 0; c = 0; imm = 0 } ∷ [];
  lines = 1 ∷ [];
  functions = record { start = 0; slots = 0; inner = 0 } ∷ [];
  texts = [];
  symbols = [];
  words = [];
  ps = replicate 8 0;
  outer = 0;
  entry = 0;
}

-- ---- it is valid

all_one : {X : Type 0} (P : X → Type 0) (x : X) → P x → All P (x ∷ [])
all_one P x h zero d less = h
all_one P x h (suc k) d less = absurd (omega (arith, less))

all_none : {X : Type 0} (P : X → Type 0) → All P []
all_none P k d less = absurd (omega (arith, less))

-- no instruction has another number
only_return : (at op : ℕ) → HasOp returning at op → op ≡ 24
only_return zero op h = sym h
only_return (suc at) op h = absurd h

no_spawn : (at : ℕ) → IsSpawn returning at → ⊥
no_spawn at h = (let is : 44 ≡ 24 = only_return at 44 h in omega (arith, is))

no_join : (at : ℕ) → IsJoin returning at → ⊥
no_join at h = (let is : 45 ≡ 24 = only_return at 45 h in omega (arith, is))

no_read : (at : ℕ) → IsReadMaster returning at → ⊥
no_read at h = (let is : 29 ≡ 24 = only_return at 29 h in omega (arith, is))

no_print : (at : ℕ) → IsPrint returning at → ⊥
no_print at h = (let is : 43 ≡ 24 = only_return at 43 h in omega (arith, is))

no_block : (spawn join : ℕ) → IsBlock returning spawn join → ⊥
no_block spawn join h = no_spawn spawn h.spawns

no_call : (at function : ℕ) → operation_at returning at ≡ Some (operation.Call function) → ⊥
no_call zero function h = cc
no_call (suc at) function h = cc

abbrev return : Instr
return = record { op = 24; a = 0; b = 0; c = 0; imm = 0 }

abbrev entry : FunctionEntry
entry = record { start = 0; slots = 0; inner = 0 }

any_place : (at : ℕ) → IfSome (operation_at returning at) (FunctionTargetFits returning at)
any_place zero = tt
any_place (suc at) = tt

returns : (function : ℕ) → function < 1 → IsJump returning (end_of returning function - 1) ⊎ IsReturn returning (end_of returning function - 1)
returns zero less = inr refl
returns (suc function) less = absurd (omega (arith, less))

valid : IsValid returning
valid = record {
  sizes = record {
    some_code = omega arith;
    code = omega arith;
    lines = refl;
    some_functions = omega arith;
    functions = omega arith;
    texts = omega arith;
    symbols = omega arith;
    outer = omega arith;
    words = omega arith;
    entry = omega arith;
    slots = all_one (λ (f : FunctionEntry). f.slots ≤ 512) entry (omega arith);
  };
  operations = record { each = all_one (λ (i : Instr). (1 ≤ i.op) × (i.op ≤ 45)) return (omega arith, omega arith) };
  registers = record { each = all_one (λ (i : Instr). IfSome (operation_of i) (RegistersFit i)) return (refl, refl, refl) };
  targets = record { each = all_one (λ (i : Instr). IfSome (operation_of i) (TargetFits returning i.imm)) return refl; in_function = λ starts at. any_place at };
  regions = record {
    starts = record { first = refl; rising = λ k less. absurd (omega (arith, less)); inside = all_one (λ (f : FunctionEntry). f.start < 1) entry (omega arith) };
    inner = all_one (λ (f : FunctionEntry). f.inner ≤ 1) entry (omega arith);
    ends = returns;
    spawn_joins = λ spawn h. absurd (no_spawn spawn h);
    join_spawned = λ join h. absurd (no_join join h);
    jumps = λ spawn join at to block h. absurd (no_block spawn join block);
    in_block = λ at h. absurd (no_block h.0 h.1 h.2);
    master_slots = λ at h. absurd (no_read at h);
    in_inner = λ at h other. elim other [ inl spawn ↦ no_spawn at spawn | inr print ↦ no_print at print ];
    calls = λ at function h is. absurd (no_call at function is);
  };
  texts = record { each = all_none _ };
  symbols = record { are = record { names = all_none _; differ = λ i j d first less same. omega (arith, less); cover = refl }; short = all_none _; some = all_none _ };
}

opens : OpensWith returning empty
unfolding empty
opens = record { symbols = refl; words = refl; registers = refl }

-- ---- its traces

-- the serial code has one instruction, by which it ends
comes : (n : ℕ) (part : List (Entry Action)) (end : Actor) → Does (move returning) n (main_actor returning) part end → ((n ≡ 0) × (part ≡ []) × (end ≡ main_actor returning)) ⊎ ((n ≡ 1) × (actions_of part ≡ Ended ∷ []) × (end.unit.state ≡ Halted))
comes zero part end does = inl (refl, does.0, does.1)
comes (suc zero) [] end does = absurd does
comes (suc zero) (e ∷ part) end does = inr (refl, ap (λ p. e.action ∷ actions_of p) does.1.0 ∙ ap (λ x. x ∷ []) does.0, ap (λ (a : Actor). a.unit.state) does.1.1)
comes (suc (suc n)) [] end does = absurd does
comes (suc (suc n)) (e ∷ part) end does = absurd does.1

not_halted : Halted ≡ Runs → ⊥
not_halted h = cc

at_no_trap : (kind : TrapKind) (line : ℕ) → IsAtTrap returning (main_actor returning) kind line → ⊥
at_no_trap kind line h = (let never : next.Local ≡ next.Trap kind = h.traps in cc)

at_no_spawn : (ask : SpawnAsk) → next_of returning (main_actor returning).start (main_actor returning).unit ≡ next.Ask (request.Spawn ask) → ⊥
at_no_spawn ask h = (let never : next.Local ≡ next.Ask (request.Spawn ask) = h in cc)

never_spawns : (part : List (Entry Action)) (serial : Actor) (ask : SpawnAsk) → ComesToSpawn returning part serial ask → ⊥
never_spawns part serial ask h = elim (comes h.steps part serial h.does) [
  | inl r ↦ at_no_spawn ask (subst (λ (a : Actor). next_of returning a.start a.unit ≡ next.Ask (request.Spawn ask)) r.2 h.asks)
  | inr r ↦ not_halted (sym r.2 ∙ h.runs)
]

begun : (thread : ℕ) (replies : List ℕ) → (steps : ℕ) × traces_in empty thread Main replies [] steps × IsBounded [] 0 steps
unfolding empty opened
begun thread replies = (0, ([], main_in empty thread replies, refl, inl refl), record { under_way = omega arith; ended = λ h. omega arith })

ended : (thread : ℕ) (replies : List ℕ) → (steps : ℕ) × traces_in empty thread Main replies (Ended ∷ []) steps × IsBounded (Ended ∷ []) 1 steps
unfolding empty opened
ended thread replies = (1, (Ended ∷ [], record { code = None; store = λ cell. 0; replies = replies }, refl, inl refl), record { under_way = omega arith; ended = λ h. omega arith })

bounded : HasBoundedTraces empty (traces_of returning)
bounded thread (Block before serial_replies number) replies trace work serial code = absurd (never_spawns code.begins.0 code.begins.1 code.begins.2 code.begins.4)
bounded thread Main replies trace work serial code = by_part (comes work code.part code.end (subst (λ a. Does (move returning) work a code.part code.end) code.begins code.does)) code.is_trace
  where
    Found : Type 0
    Found = (steps : ℕ) × traces_in empty thread Main replies trace steps × IsBounded trace work steps

    found : (acts : List Action) (n : ℕ) → trace ≡ acts → work ≡ n → (steps : ℕ) × traces_in empty thread Main replies acts steps × IsBounded acts n steps → Found
    found acts n is_trace is_work h = subst (λ t. (steps : ℕ) × traces_in empty thread Main replies t steps × IsBounded t work steps) (sym is_trace) (subst (λ w. (steps : ℕ) × traces_in empty thread Main replies acts steps × IsBounded acts w steps) (sym is_work) h)

    by_part : ((work ≡ 0) × (code.part ≡ []) × (code.end ≡ main_actor returning)) ⊎ ((work ≡ 1) × (actions_of code.part ≡ Ended ∷ []) × (code.end.unit.state ≡ Halted)) → IsTraceOf returning code.part code.end trace → Found
    by_part (inl r) (inl is) = found [] 0 (is ∙ ap actions_of r.1) r.0 (begun thread replies)
    by_part (inl r) (inr t) = absurd (at_no_trap t.0 t.1 (subst (λ a. IsAtTrap returning a t.0 t.1) r.2 t.2))
    by_part (inr r) (inl is) = found (Ended ∷ []) 1 (is ∙ r.1) r.0 (ended thread replies)
    by_part (inr r) (inr t) = absurd (not_halted (sym r.2 ∙ t.2.runs))

-- ---- it is plain

same_body : (main function : Function) (P : Function → Type 0) → Some main ≡ Some function → P main → P function
same_body main function P same h = (let is : main ≡ function = cc in subst P is h)

plain : IsPlain empty (λ f. false ≡ true)
unfolding empty
plain = record { blocks = blocks; called = λ f function at may. absurd (never may) }
  where
    never : false ≡ true → ⊥
    never h = cc

    blocks : (f : ℕ) (g : Function) → slice_get empty.functions f ≡ Some g → ListBlocksAre (IsPlainBlock (λ f. false ≡ true) g.body) g.body
    blocks zero g at = same_body (function (codes "main") 0 []) g (λ (x : Function). ListBlocksAre (IsPlainBlock (λ f. false ≡ true) x.body) x.body) at tt
    blocks (suc f) g at = cc

row : Implements empty returning
row = traces_implement empty returning (λ f. false) valid opens plain bounded
