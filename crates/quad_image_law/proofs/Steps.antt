-- Single instructions beside a quad or none.
use Rattle.std.proofs.Common.{◌≡◌, refl, sym, ◌∙◌, ap, subst, arith, ℕ, suc, ◌+◌, ◌*◌, ◌<◌, ◌≤◌, length, set, Some, None, true, false}
use Rattle.std.specs.Prelude.{◌==◌, if◌then◌else◌, Bool, ⊤, slice_get, slice_index}
use Rattle.xmt_base.specs.declared.values.TrapKind.{TrapKind}
use Rattle.xmt_base.specs.Action.{Action}
use Rattle.interleaving.specs.Actors.{Rests, Alone, Acts}
use Rattle.xmt_isa.specs.declared.image.Image.{Image}
use Rattle.xmt_isa.specs.declared.operation.Operation.{Operation}
use Rattle.xmt_isa.specs.declared.operation.Operation.TheVariants as does
use Rattle.xmt_isa.specs.declared.unit.Start.{Start}
use Rattle.xmt_isa.specs.declared.unit.Unit.{Unit as MachineUnit}
use Rattle.xmt_isa.specs.declared.unit.UnitState.TheVariants.{Runs}
use Rattle.xmt_isa.specs.declared.unit.SpawnAsk.{SpawnAsk}
use Rattle.xmt_isa.specs.declared.unit.Request.{Request}
use Rattle.xmt_isa.specs.declared.unit.Request.TheVariants as request
use Rattle.xmt_isa.specs.declared.unit.Next as unit_next
use Rattle.xmt_isa.specs.declared.unit.Next.TheVariants as does_next
use Rattle.xmt_isa.specs.Image.{operation_at}
use Rattle.xmt_isa.specs.Step.{next_here, next_of, reg, sets, goes_on}
use Rattle.xmt_isa.specs.Threads.{Actor, action_of, site_of, move_by, is_running}
use Rattle.xmt_isa.specs.Traces as isa_traces
use Rattle.xmt_quads.specs.declared.code.Operand.{Operand}
use Rattle.xmt_quads.specs.declared.code.Operand.TheVariants.{Reg, Literal}
use Rattle.xmt_quads.specs.declared.code.Quad.{Quad}
use Rattle.xmt_quads.specs.declared.code.Quad.TheVariants as quad
use Rattle.xmt_quads.specs.declared.code.QuadProgram.{QuadProgram}
use Rattle.xmt_quads.specs.Program.{quads_in, quad_at, site_at, weight}
use Rattle.xmt_quads.specs.Meaning.{Registers, QuadThread, Traps, operand_value, with_register, with_next, acts, assigns, next_at, quad_of, next_of as quad_next, line_of, move_of, weight_of_option, cost}
use Rattle.xmt_quads.specs.Meaning as quads
use Rattle.xmt_quads.specs.Traces as quad_traces
use Rattle.xmt_quads.specs.Live.{is_register, writes}
use Rattle.quad_images.specs.Instructions.{instr, fetch, size}
use Rattle.quad_image_law.proofs.Keeps.{IsOver, with_found, Keeps, keeps_still, keeps_alone, keeps_beside, keeps_acts, keeps_less}
use Rattle.quad_image_law.proofs.Units.{running, actor_at, answered_by, moved_by, acted, operation_is, next_is, move_is, lives}
use Rattle.quad_image_places.proofs.Tails.{sum_next}
use Rattle.quad_image_places.proofs.Laid.{HasSlots, Known, place, own_in}
use Rattle.quad_image_law.proofs.Frames.{IsStep, home_value}
use Rattle.quad_image_law.proofs.Fits.{memory_of, Fits, fits_written, quad_is}

never_spawns : (kind : TrapKind) (ask : SpawnAsk) → does_next.Trap kind ≡ does_next.Ask (request.Spawn ask) → ⊥
never_spawns kind ask e = cc

pub never_over : (a : Actor) → IsOver a → a.unit.state ≡ Runs → ⊥
never_over a ended runs = let is : is_running a.unit.state ≡ true = ap is_running runs in cc

-- no trap, and no spawn
abbrev pub IsCommon : unit_next.Next → Type 0
IsCommon does_next.Local = ⊤
IsCommon (does_next.Trap kind) = ⊥
IsCommon (does_next.Ask (request.Spawn ask)) = ⊥
IsCommon (does_next.Ask request) = ⊤

module _ (program : QuadProgram) (slot : ℕ → ℕ → ℕ) (image : Image) where
  -- both stand at the spawn of a block, from one number to another
  pub record SpawnsAlike (a : Actor) (ask : SpawnAsk) (t : QuadThread) : Type 0 where
    pub low : Operand
    pub high : Operand
    pub is_spawn : quad_of program t ≡ Some (quad.Spawn low high)
    pub low_is : ask.low ≡ operand_value t.registers low
    pub high_is : ask.high ≡ operand_value t.registers high
    pub site : site_of image a.unit.at ≡ site_at program t.function t.at
    pub begins : ask.at ≡ place program t.function (t.at + 1)
    pub no_mask : ask.mask ≡ 0
    pub serial : t.parent ≡ None
    pub fits : Fits program slot a.start (memory_of a.unit) t

  -- a thread at a trap is so on both sides, and one at a spawn too
  pub record Stands (a : Actor) (t : QuadThread) : Type 0 where
    pub traps : (kind : TrapKind) (line : ℕ) → isa_traces.IsAtTrap image a kind line → quad_traces.IsAtTrap program t kind line
    pub spawns : (ask : SpawnAsk) → a.unit.state ≡ Runs → next_of image a.start a.unit ≡ does_next.Ask (request.Spawn ask) → SpawnsAlike a ask t

  -- whatever the unit does from here, the quads do
  abbrev pub KeepsTo : (n credit : ℕ) → Actor → QuadThread → Type 0
  KeepsTo n credit a t = Keeps program image Stands n credit a t

  pub stands_common : (a : Actor) (t : QuadThread) (n : unit_next.Next) → next_of image a.start a.unit ≡ n → IsCommon n → Stands a t
  stands_common a t n is common =
      record {
        traps = λ kind line trap. absurd (subst IsCommon (sym is ∙ trap.traps) common);
        spawns = λ ask runs asks. absurd (subst IsCommon (sym is ∙ asks) common);
      }

  pub stands_over : (a : Actor) (t : QuadThread) → IsOver a → Stands a t
  stands_over a t ended = record { traps = λ kind line trap. absurd (never_over a ended trap.runs); spawns = λ ask runs asks. absurd (never_over a ended runs) }

  -- a thread that has ended
  pub over : (n : ℕ) (a : Actor) (t : QuadThread) → IsOver a → KeepsTo n 24 a t
  over n a t ended =
      keeps_still program image Stands n 24 a t (ap (λ runs. if runs then move_by image a (next_of image a.start a.unit) else Rests) ended) (λ o. omega arith) (stands_over a t ended)

  -- more credit
  pub richer : (n credit more : ℕ) (a : Actor) (t : QuadThread) → credit ≤ more → KeepsTo n credit a t → KeepsTo n more a t
  richer n credit more a t rich k = keeps_less program image Stands n n credit more a t (omega arith) rich k

  module _ (start : Start) (u : MachineUnit) (t : QuadThread) (at : ℕ) (operation : Operation) (here : operation_at image at ≡ Some operation) where
    -- an instruction of the unit alone
    pub alone : (n credit left to : ℕ) (u' : MachineUnit) → next_here image start (running u at) (Some operation) ≡ does_next.Local → acted image (actor_at start u at) (Some operation) ≡ Alone (actor_at start u' to) →
        left + 1 ≤ credit → KeepsTo n left (actor_at start u' to) t → KeepsTo n credit (actor_at start u at) t
    alone n credit left to u' local goes pays k =
        keeps_less program image Stands (suc n) n credit credit (actor_at start u at) t (omega arith) (omega arith)
        (keeps_alone program image Stands n credit left (actor_at start u at) (actor_at start u' to) t (lives start u at)
        (stands_common (actor_at start u at) t does_next.Local (next_is image start u at operation here ∙ local) tt)
        (move_is image start u at operation here ∙ goes) pays k)

    module _ (q : Quad) (stands_at : quad_of program t ≡ Some q) where
      cost_is : cost program t ≡ weight q
      cost_is = ap (weight_of_option program) stands_at

      quad_move : (found : ℕ → Registers) → quads.move program (with_found t found) ≡ move_of program (next_at program (with_found t found) (Some q))
      quad_move found = ap (λ o. move_of program (next_at program (with_found t found) o)) stands_at

      -- an instruction beside the quad, seen by nobody
      pub beside : (n credit to : ℕ) (u' : MachineUnit) (t' : QuadThread) (earlier : (ℕ → Registers) → ℕ → Registers) → next_here image start (running u at) (Some operation) ≡ does_next.Local → acted image (actor_at start u at) (Some operation) ≡ Alone (actor_at start u' to) →
          ((found : ℕ → Registers) → next_at program (with_found t (earlier found)) (Some q) ≡ quads.goes (with_found t' found)) → 25 ≤ credit + weight q → KeepsTo n 24 (actor_at start u' to) t' → KeepsTo (suc n) credit (actor_at start u at) t
      beside n credit to u' t' earlier local goes does_it pays k =
          keeps_beside program image Stands n credit 24 (actor_at start u at) (actor_at start u' to) t t' earlier (lives start u at)
          (stands_common (actor_at start u at) t does_next.Local (next_is image start u at operation here ∙ local) tt)
          (move_is image start u at operation here ∙ goes) (λ found. quad_move (earlier found) ∙ ap (move_of program) (does_it found)) (omega (arith, pays, cost_is)) k

      -- an action of both
      pub act : (n credit left : ℕ) (ask : Request) (action : Action) (leads : ℕ → QuadThread) → Stands (actor_at start u at) t → next_here image start (running u at) (Some operation) ≡ does_next.Ask ask → action_of image (running u at) ask ≡ action →
          ((found : ℕ → Registers) → next_at program (with_found t found) (Some q) ≡ acts action (λ reply. with_found (leads reply) found)) → left + 1 ≤ credit + weight q →
          ((reply : ℕ) → KeepsTo n left (answered_by image (actor_at start u at) (Some operation) ask reply) (leads reply)) → KeepsTo (suc n) credit (actor_at start u at) t
      act n credit left ask action leads stands asks same does_it pays k =
          keeps_acts program image Stands n credit left (actor_at start u at) t action (answered_by image (actor_at start u at) (Some operation) ask) leads (lives start u at) stands
          (move_is image start u at operation here ∙ ap (moved_by image (actor_at start u at) (Some operation)) asks ∙ ap (λ x. Acts x (answered_by image (actor_at start u at) (Some operation) ask)) same)
          (λ found. quad_move found ∙ ap (move_of program) (does_it found)) (omega (arith, pays, cost_is)) k

      -- an action that is no spawn
      pub common_act : (n credit left : ℕ) (ask : Request) (action : Action) (leads : ℕ → QuadThread) → IsCommon (does_next.Ask ask) → next_here image start (running u at) (Some operation) ≡ does_next.Ask ask → action_of image (running u at) ask ≡ action →
          ((found : ℕ → Registers) → next_at program (with_found t found) (Some q) ≡ acts action (λ reply. with_found (leads reply) found)) → left + 1 ≤ credit + weight q →
          ((reply : ℕ) → KeepsTo n left (answered_by image (actor_at start u at) (Some operation) ask reply) (leads reply)) → KeepsTo (suc n) credit (actor_at start u at) t
      common_act n credit left ask action leads common asks same does_it pays k =
          act n credit left ask action leads (stands_common (actor_at start u at) t (does_next.Ask ask) (next_is image start u at operation here ∙ asks) common) asks same does_it pays k

      -- both stand at the same trap
      pub trapped : (n credit : ℕ) (kind : TrapKind) → next_here image start (running u at) (Some operation) ≡ does_next.Trap kind → slice_index image.lines at ≡ line_of program t → next_at program t (Some q) ≡ Traps kind → KeepsTo n credit (actor_at start u at) t
      trapped n credit kind traps line quad_traps =
          keeps_still program image Stands n credit (actor_at start u at) t
          (move_is image start u at operation here ∙ ap (moved_by image (actor_at start u at) (Some operation)) traps) (λ ended. absurd (lives start u at ended))
          (record {
            traps = λ other there trap. by other there trap (sym (next_is image start u at operation here ∙ traps) ∙ trap.traps);
            spawns = λ ask runs asks. absurd (never_spawns kind ask (sym (next_is image start u at operation here ∙ traps) ∙ asks));
          })
        where
          same_kind : (other : TrapKind) → does_next.Trap kind ≡ does_next.Trap other → kind ≡ other
          same_kind other e = cc

          by : (other : TrapKind) (there : ℕ) → isa_traces.IsAtTrap image (actor_at start u at) other there → does_next.Trap kind ≡ does_next.Trap other → quad_traces.IsAtTrap program t other there
          by other there trap kinds =
              record {
                traps = ap (next_at program t) stands_at ∙ quad_traps ∙ ap (λ k. Traps k) (same_kind other kinds);
                is_line = sym line ∙ trap.is_line;
              }

  -- ---- operands and results

  -- one place more
  pub place_next : (f at : ℕ) (q : Quad) → quad_at program f at ≡ Some q → place program f (at + 1) ≡ place program f at + size q
  place_next f at q here =
      let e : at + 1 ≡ suc at = omega arith in
      let sum = sum_next size (quads_in program f) at q here in
      ap (place program f) e ∙ omega (arith, sum)

  -- the value of an operand comes to a register
  pub fetches : (start : Start) (u : MachineUnit) (t : QuadThread) (at to : ℕ) (o : Operand) → Fits program slot start (memory_of u) t → ((r : ℕ) → is_register r o ≡ true → (k : Known program t.function) → r < k.function.registers) →
      slice_get image.code at ≡ Some (fetch (slot t.function) (place program t.function) (own_in program t.function t.at) to o) → (n credit left : ℕ) → left + 1 ≤ credit →
      KeepsTo n left (actor_at start (sets (running u at) to (operand_value t.registers o)) (at + 1)) t → KeepsTo n credit (actor_at start u at) t
  fetches start u t at to (Literal v) fits below here n credit left pays k =
      alone start u t at (does.Set to v) (operation_is image at (instr 1 to 0 0 v) here) n credit left (at + 1) (sets (running u at) to v) refl refl pays k
  fetches start u t at to (Reg r) fits below here n credit left pays k = by (own_in program t.function t.at r) here (fits.here.holds r (below r same fits.here.known))
    where
      same : (r == r) ≡ true
      same = grind arith

      goes : (operation : Operation) (v : ℕ) → operation_at image at ≡ Some operation → next_here image start (running u at) (Some operation) ≡ does_next.Local → acted image (actor_at start u at) (Some operation) ≡ Alone (actor_at start (sets (running u at) to v) (at + 1)) →
          t.registers r ≡ v → KeepsTo n credit (actor_at start u at) t
      goes operation v is local moves value =
          alone start u t at operation is n credit left (at + 1) (sets (running u at) to v) local moves pays
          (subst (λ v. KeepsTo n left (actor_at start (sets (running u at) to v) (at + 1)) t) value k)

      by : (own : Bool) → slice_get image.code at ≡ Some (if own then instr 25 to 0 0 (slot t.function r) else instr 29 to 0 0 (slot t.function r)) →
          t.registers r ≡ home_value start u.frames (length t.callers) own (slot t.function r) → KeepsTo n credit (actor_at start u at) t
      by true code value =
          let i = slot t.function r in
          goes (does.ReadSlot to i) (slice_index u.frames (512 * u.depth + i)) (operation_is image at (instr 25 to 0 0 i) code) refl refl (value ∙ ap (λ d. slice_index u.frames (512 * d + i)) (sym fits.depth))
      by false code value =
          let i = slot t.function r in
          goes (does.ReadMaster to i) (slice_index start.frame i) (operation_is image at (instr 29 to 0 0 i) code) refl refl value

  -- a unit with a slot of its frame written
  abbrev pub stored : MachineUnit → (at from s : ℕ) → MachineUnit
  stored u at from s = record (goes_on (running u at)) { frames = set u.frames (512 * u.depth + s) (reg u from) }

  module _ (slots : (f : ℕ) (k : Known program f) → HasSlots (slot f) k.function.registers) where
    -- whatever fits at a quad keeps to it, for so many instructions
    abbrev pub AllKeep : (n : ℕ) → Type 0
    AllKeep n = (start : Start) (u : MachineUnit) (t : QuadThread) → Fits program slot start (memory_of u) t → KeepsTo n 24 (actor_at start u (place program t.function t.at)) t

    pub keep_at : (n : ℕ) → AllKeep n → (start : Start) (u : MachineUnit) (t : QuadThread) (at : ℕ) → Fits program slot start (memory_of u) t → place program t.function t.at ≡ at → KeepsTo n 24 (actor_at start u at) t
    keep_at n all start u t at fits is = subst (λ at. KeepsTo n 24 (actor_at start u at) t) is (all start u t fits)

    module _ (n : ℕ) (all : AllKeep n) (start : Start) (u : MachineUnit) (t : QuadThread) (at : ℕ) (q : Quad) (r v from : ℕ) (fits : Fits program slot start (memory_of u) t) (here : quad_at program t.function t.at ≡ Some q) (step : IsStep q) (is : writes r q ≡ true)
        (code : slice_get image.code at ≡ Some (instr 26 0 from 0 (slot t.function r))) (value : reg u from ≡ v) (next : place program t.function (t.at + 1) ≡ at + 1) where
      written : Fits program slot start (memory_of (stored u at from (slot t.function r))) (with_next t (with_register t.registers r v))
      written =
          subst (λ v. Fits program slot start (memory_of (stored u at from (slot t.function r))) (with_next t (with_register t.registers r v))) value
          (fits_written program slot slots start (memory_of u) t q r (reg u from) here step is fits)

      kept : KeepsTo n 24 (actor_at start (stored u at from (slot t.function r)) (at + 1)) (with_next t (with_register t.registers r v))
      kept = keep_at n all start (stored u at from (slot t.function r)) (with_next t (with_register t.registers r v)) (at + 1) written next

      -- the quad sets a register, where its value is at hand
      pub keep_beside : (credit : ℕ) → ((found : ℕ → Registers) → next_at program (with_found t found) (Some q) ≡ assigns (with_found t found) r v) → 25 ≤ credit + weight q → KeepsTo (suc n) credit (actor_at start u at) t
      keep_beside credit sets_it pays =
          beside start u t at (does.WriteSlot from (slot t.function r)) (operation_is image at (instr 26 0 from 0 (slot t.function r)) code) q (quad_is program slot start (memory_of u) t q fits here)
          n credit (at + 1) (stored u at from (slot t.function r)) (with_next t (with_register t.registers r v)) (λ found. found) refl refl sets_it pays kept

      -- the quad has told the value already
      pub keep_alone : KeepsTo n 25 (actor_at start u at) (with_next t (with_register t.registers r v))
      keep_alone =
          alone start u (with_next t (with_register t.registers r v)) at (does.WriteSlot from (slot t.function r)) (operation_is image at (instr 26 0 from 0 (slot t.function r)) code)
          n 25 24 (at + 1) (stored u at from (slot t.function r)) refl refl (omega arith) kept
