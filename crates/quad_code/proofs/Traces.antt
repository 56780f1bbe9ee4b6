-- Each trace of a program's quads is one of the program, and its work is paid.
use Rattle.std.proofs.Common.{◌≡◌, refl, sym, ◌∙◌, ap, subst, arith, ℕ, ◌+◌, ◌≤◌, ◌<◌, List, [], ◌++◌, length, Option, Some, inl, inr}
use Rattle.std.specs.Prelude.{Bool, slice_get}
use Rattle.xmt_base.specs.declared.values.TrapKind.{TrapKind}
use Rattle.xmt_base.specs.Action.{Action, Trap, Ended, Main, Block}
use Rattle.interleaving.specs.Actors.{Entry}
use Rattle.interleaving.specs.Parts.{actions_of}
use Rattle.source_meaning.specs.declared.tree.Function.{Function}
use Rattle.source_meaning.specs.declared.tree.Program.{Program}
use Rattle.source_meaning.specs.Layout.{first_word, words_of}
use Rattle.source_meaning.specs.Store.{Store}
use Rattle.source_meaning.specs.Term.{Code}
use Rattle.source_meaning.specs.Next.{Next, Traps}
use Rattle.source_meaning.specs.Code.{call_code}
use Rattle.source_meaning.specs.Run.{next_of_rest}
use Rattle.source_meaning.specs.Trace.{Local, local_run, trap_action, main_in, main_of, serial_next, spawn_of, IsSpawned, block_of, traces_in}
use Rattle.source_meaning.specs.Trace as source
use Rattle.xmt_quads.specs.declared.code.QuadProgram.{QuadProgram}
use Rattle.xmt_quads.specs.Meaning.{QuadThread, move, cost, line_of}
use Rattle.xmt_quads.specs.Traces.{DoesWith, Contents, main_thread, block_thread, IsTraceOf, HasTrace, traces_of}
use Rattle.quad_laws.proofs.Keeps.{Matched, told}
use Rattle.quad_laws.proofs.LiveRegisters.{Alike, alike_runs, alike_trap}
use Rattle.quad_code.specs.Whole.{IsKnown, MayCall, IsPaid, HasPaidTraces}
use Rattle.quad_code.proofs.Standing.{BlockAt, StandsAs, IsOver}
use Rattle.quad_code.proofs.Threads.{StandsThere, block_keeps, main_keeps}
use Rattle.quad_code.proofs.Over.{last_is_over, snoc_last}

no_trap_at_end : (kind : TrapKind) (line : ℕ) → Trap kind line ≡ Ended → ⊥
no_trap_at_end kind line is = cc

module _ (q : QuadProgram) (AtSpawn : QuadThread → Store → (ℕ → Code) → Type 0) (program : Program) (thread number : ℕ) where
  abbrev whole : Option Code → Next (Option Code) (Unit {0})
  whole = next_of_rest program thread number

  abbrev rules : QuadThread → Store → Next (Option Code) (Unit {0}) → Type 0
  rules = StandsAs AtSpawn q

  -- what is matched is a trace of the source
  trace_of : (n work : ℕ) (t end : QuadThread) (part : List (Entry Action)) (l : Local (Option Code)) (trace : List Action) → DoesWith (move q) (cost q) n t part end work → Matched (move q) (cost q) IsOver rules whole work part end l 40 → IsTraceOf q part end trace →
      (steps : ℕ) × source.HasTrace program thread number l trace steps × IsPaid trace work steps
  trace_of n work t end part l trace does m (inl is) = (
    m.steps,
    (actions_of part, m.end, m.runs, inl is),
    record {
      under_way = m.pays;
      ended = λ ends. let over = m.ended (last_is_over q n t part end work ends.0 does (sym is ∙ ends.1)) in omega (arith, over);
    },
  )
  trace_of n work t end part l trace does m (inr (kind, line, at_trap, is)) =
      let traps : whole m.end.code ≡ Traps kind line = m.stands.traps kind at_trap.traps ∙ ap (Traps kind) at_trap.is_line in (
        m.steps,
        (actions_of part, m.end, m.runs, inr (is ∙ ap (λ acts. actions_of part ++ acts) (sym (ap trap_action traps)))),
        record { under_way = m.pays; ended = λ ends. absurd (no_trap_at_end kind line (snoc_last (actions_of part) ends.0 (Trap kind line) Ended (sym is ∙ ends.1))) },
      )

-- ---- where threads begin

no_block : {before : List Action} {replies : List ℕ} {number : ℕ} → Block before replies number ≡ Main → ⊥
no_block is = cc

module _ (program : Program) (inner : (function : ℕ) → Bool) (q : QuadProgram) (known : IsKnown program inner)
    (stands : (f : ℕ) (function : Function) → slice_get program.functions f ≡ Some function → StandsThere program q f function)
    (room : (g : ℕ) → g < length program.globals → first_word program.globals g + words_of program.globals g ≤ length q.words) (main_is : q.main ≡ program.main) where
  abbrev at_spawn : (serial : ℕ) → QuadThread → Store → (ℕ → Code) → Type 0
  at_spawn serial = BlockAt q program.globals (first_word program.globals) (words_of program.globals) (MayCall program inner) serial

  -- what the serial code does, the source does
  serial_matched : (thread n work : ℕ) (contents : Contents) (part : List (Entry Action)) (there : QuadThread) (others : List ℕ) → DoesWith (move q) (cost q) n (main_thread q contents) part there work →
      Matched (move q) (cost q) IsOver (rules q (at_spawn thread) program thread 0) (next_of_rest program thread 0) work part there (told (Some (call_code program thread program.main 0 [])) (λ cell. 0) part others) 40
  serial_matched thread n work contents part there others does = (main_keeps program inner q known stands room main_is thread n n (omega arith) contents).by n (omega arith) part there others work does

  main_paid : (thread : ℕ) (replies : List ℕ) (trace : List Action) (work : ℕ) → HasTrace q Main replies trace work → (steps : ℕ) × traces_in program thread Main replies trace steps × IsPaid trace work steps
  main_paid thread replies trace work h =
      let does = subst (λ t. DoesWith (move q) (cost q) h.steps t h.part h.end work) h.begins.1 h.does in
      let m = serial_matched thread h.steps work h.begins.0 h.part h.end h.told.0 does in
      let l = told (Some (call_code program thread program.main 0 [])) (λ cell. 0) h.part h.told.0 in
      let same : l ≡ main_in program thread replies = ap (λ replies. record { code = Some (call_code program thread program.main 0 []); store = λ cell. 0; replies = replies }) (sym h.told.1) in
      let found = trace_of q (at_spawn thread) program thread 0 h.steps work (main_thread q h.begins.0) h.end h.part l trace does m h.is_trace in
      (found.0, subst (λ l. source.HasTrace program thread 0 l trace found.0) same found.1, found.2)

  block_paid : (thread : ℕ) → (thread ≡ 0 → ⊥) → (before : List Action) (serial_replies : List ℕ) (number : ℕ) (replies : List ℕ) (trace : List Action) (work : ℕ) → HasTrace q (Block before serial_replies number) replies trace work →
      (steps : ℕ) × traces_in program thread (Block before serial_replies number) replies trace steps × IsPaid trace work steps
  block_paid thread virtual before serial_replies number replies trace work h =
      let b = h.begins in
      let comes = b.comes in
      let m = serial_matched 0 comes.steps comes.work comes.contents b.part b.serial b.told.0 comes.does in
      let spawned = m.stands.spawns b.low b.high comes.spawns in
      let registers = b.serial.registers in
      let found_there = b.contents.found in
      let begin = block_thread b.serial (record { registers = registers; list = b.contents.list; found = found_there }) number in
      let alike : Alike q (block_thread b.serial b.contents number) begin = record { registers = registers; callers = []; is = refl; live = λ r live. sym (b.broadcast r live); calls = tt } in
      let does = subst (λ t. DoesWith (move q) (cost q) h.steps t h.part h.end work) b.begins h.does in
      let run = alike_runs q h.steps (block_thread b.serial b.contents number) begin alike h.part h.end work does in
      let there = run.0 in
      let block = spawned.0 in
      let store = m.end.store in
      let keeps = block_keeps program inner q known stands room 0 thread number virtual b.serial store block spawned.3 h.steps h.steps (omega arith) b.contents.list found_there in
      let mb = keeps.by h.steps (omega arith) h.part there h.told.0 work run.1 in
      let l = told (Some (block thread)) store h.part h.told.0 in
      let started : Local (Option Code) = record { code = Some (block thread); store = store; replies = replies } in
      let same : l ≡ started = ap (λ replies. record { code = Some (block thread); store = store; replies = replies }) (sym h.told.1) in
      let found = trace_of q (at_spawn thread) program thread number h.steps work begin there h.part l trace run.1 mb (trace_alike h.part h.end there run.2 trace h.is_trace) in
      let serial_start : told (Some (call_code program 0 program.main 0 [])) (λ cell. 0) b.part b.told.0 ≡ main_of program serial_replies = ap (λ replies. record { code = Some (call_code program 0 program.main 0 []); store = λ cell. 0; replies = replies }) (sym b.told.1) in
      let next = spawned.2 in (
        found.0,
        (
          m.steps,
          actions_of b.part,
          m.end,
          started,
          ap (λ l. local_run (next_of_rest program 0 0) m.steps l) (sym serial_start) ∙ m.runs,
          b.did ∙ ap (λ acts. actions_of b.part ++ acts) (sym (ap spawn_of next)),
          subst (λ x. IsSpawned x number) (sym next) (b.k, b.is_made, b.is_number),
          ap (λ x. block_of x thread store replies) next,
          subst (λ l. source.HasTrace program thread number l trace found.0) same found.1,
        ),
        found.2,
      )
    where
      trace_alike : (part : List (Entry Action)) (end there : QuadThread) → Alike q end there → (trace : List Action) → IsTraceOf q part end trace → IsTraceOf q part there trace
      trace_alike part end there alike trace (inl is) = inl is
      trace_alike part end there alike trace (inr (kind, line, at_trap, is)) =
          inr (kind, line, record { traps = alike_trap q end there alike kind at_trap.traps; is_line = ap (line_of q) alike.is ∙ at_trap.is_line }, is)

  pub paid_traces : HasPaidTraces program (traces_of q)
  paid_traces thread Main replies trace work serial h = main_paid thread replies trace work h
  paid_traces thread (Block before serial_replies number) replies trace work serial h = block_paid thread (λ none. no_block (serial none)) before serial_replies number replies trace work h
