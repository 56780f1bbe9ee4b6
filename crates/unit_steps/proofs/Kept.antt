-- What a unit's own instructions and the replies to its requests keep.
use Rattle.std.proofs.Common.{◌≡◌, ◌≢◌, ◌↔◌, refl, sym, ◌∙◌, ap, subst, ℕ, ◌+◌, ◌-◌, ◌%◌, ◌^◌, ◌≤◌, ◌==◌, true, false, if◌then◌else◌, length, slice_index, Some, inl, inr, arith}
use Rattle.xmt_isa.specs.declared.image.Image.{Image}
use Rattle.xmt_isa.specs.declared.operation.Operation.TheVariants.{Return}
use Rattle.xmt_isa.specs.declared.unit.Unit.{Unit}
use Rattle.xmt_isa.specs.declared.unit.UnitState.TheVariants.{Draws, Runs, Halted}
use Rattle.xmt_isa.specs.declared.unit.SpawnAsk.{SpawnAsk}
use Rattle.xmt_isa.specs.declared.unit.Start.{Start}
use Rattle.xmt_isa.specs.declared.unit.Request.{Request}
use Rattle.xmt_isa.specs.declared.unit.Request.TheVariants as request
use Rattle.xmt_isa.specs.declared.unit.Next.TheVariants as next
use Rattle.xmt_isa.specs.Image.{operation_at}
use Rattle.xmt_isa.specs.Step.{goes, next_of, local_of, local_here, draws, answer_of}
use Rattle.xmt_isa.specs.Machine.{behind_join}
use Rattle.xmt_isa.specs.Regions.{IsReturn}
use Rattle.xmt_isa.specs.Valid.{IsValid}
use Rattle.xmt_isa.specs.Threads.{HasRoom}
use Rattle.xmt_isa.specs.Fits.{IsPlaced, UnitFits}
use Rattle.xmt_isa.proofs.Numbers.{return_of}
use Rattle.image_loader.proofs.Nesting.{valid_nests}
use Rattle.machine_places.proofs.Goes.{Goes, leads, calls, returns, after_alone, after_answer, at_spawn, at_join}
use Rattle.machine_places.proofs.Units.{is_plain, local_of-kept, answer_of-kept, next_of-draws}
use Rattle.unit_steps.specs.Steps.{behind_spawn, replied, replied_at, answered}
use Rattle.unit_steps.specs.Keeps.{HasStart}
use Rattle.unit_steps.proofs.Functions.{in_code}
use Rattle.unit_steps.proofs.Instructions.{has_instr, operation_is}
use Rattle.unit_steps.proofs.Placed.{MovesTo, placed_places, places_placed, moved_places, goes_depth, goes_placed}
use Rattle.unit_steps.proofs.Inner.{at_inside, spawns_not, returns_not, joins_not}
use Rattle.unit_steps.proofs.Behind.{behind_is}
use Rattle.unit_steps.proofs.Registers.{SameRegisters, local_of-registers, answer_of-registers}
use Rattle.unit_steps.proofs.States.{two_states, zero_or}
use Rattle.unit_steps.proofs.Beginnings.{runs_fits, ended_fits, draw_fits}

-- ---- a return

-- the instruction with a return's number is a return
pub return_is : (image : Image) (at : ℕ) → IsReturn image at → operation_at image at ≡ Some Return
return_is image at has = let i = has_instr image at 24 has in operation_is image at i.0 Return i.1 (return_of i.0 i.2)

-- behind a return in no call the unit has halted where it stands
pub returned_is : (image : Image) (start : Start) (u : Unit) → operation_at image u.at ≡ Some Return → u.depth ≡ 0 → local_of image start u ≡ record (goes u u.at) { state = Halted }
returned_is image start u is none =
    ap (local_here image start u) is ∙ ap (λ n. if n == 0 then record (goes u u.at) { state = Halted } else record (goes u (slice_index u.back (u.depth - 1))) { depth = u.depth - 1 }) none

module _ (image : Image) (valid : IsValid image) (start : Start) (u : Unit) (fits : UnitFits image start u) where
  -- the depth is within the room for return positions
  room_back : length u.back ≡ 256
  room_back = (let r : HasRoom u = fits.room in r.back)

  pub within : u.depth ≤ length u.back
  within = let deep : u.depth ≤ 256 = fits.depth in omega (arith, room_back, deep)

  -- an instruction that goes on keeps what fits
  goes_fits : (v : Unit) → u.state ≡ Runs → HasRoom v → SameRegisters u v → v.number ≡ u.number → v.state ≡ u.state → v.waits ≡ false → Goes image u v → UnitFits image start v
  goes_fits v runs room same number state rests goes =
      runs_fits image start v room (same.registers ∙ fits.registers) (same.zero ∙ fits.zero) (goes_depth image u v fits.depth goes) (state ∙ runs) rests
      (goes_placed image valid start u v room_back room.back fits.depth number goes (fits.placed runs))

  -- only the master returns from no call
  returns_master : u.state ≡ Runs → IsReturn image u.at → u.depth ≡ 0 → u.number ≡ 0
  returns_master runs has none = elim (zero_or u.number) [ inl is ↦ is | inr other ↦ absurd (returns_not image valid start u within (fits.placed runs) other has none) ]

  -- so does each instruction of the unit's own
  pub alone_fits : u.state ≡ Runs → u.waits ≡ false → next_of image start u ≡ next.Local → UnitFits image start (local_of image start u)
  alone_fits runs rests is =
      let kept = local_of-kept image start u in
      let registers : SameRegisters u (local_of image start u) = local_of-registers image valid start u in
      elim (after_alone image start u runs is) [
        | inl h ↦ goes_fits (local_of image start u) runs (kept.same.room fits.room) registers kept.same.number h.1 (kept.same.waits ∙ rests) h.0
        | inr h ↦
            (let halted : local_of image start u ≡ record (goes u u.at) { state = Halted } = returned_is image start u (return_is image u.at h.0) h.1 in
            ended_fits image start (local_of image start u) (kept.same.room fits.room) (registers.registers ∙ fits.registers) (registers.zero ∙ fits.zero)
            (subst (λ n. n ≤ 256) (sym (ap (λ (v : Unit). v.depth) halted)) fits.depth) (inr (h.2, kept.same.number ∙ returns_master runs h.0 h.1)) (kept.same.waits ∙ rests))
      ]

  -- the master halts by a return in no call
  pub halts_by : u.state ≡ Runs → next_of image start u ≡ next.Local → ((local_of image start u).state ≡ Halted) ↔ ((operation_at image u.at ≡ Some Return) × (u.depth ≡ 0) × (u.number ≡ 0))
  halts_by runs is = (
    λ h. elim (after_alone image start u runs is) [
      | inl g ↦ two_states (local_of image start u).state Runs Halted (g.1 ∙ runs) h refl
      | inr r ↦ (return_is image u.at r.0, r.1, returns_master runs r.0 r.1)
    ],
    λ r. ap (λ (v : Unit). v.state) (returned_is image start u r.0 r.1),
  )

  -- ---- replies

  -- a unit that waits no more
  released_goes : (w : Unit) → Goes image u w → Goes image u (record w { waits = false })
  released_goes w (leads o is way depth back) = leads o is way depth back
  released_goes w (calls f is at depth back room) = calls f is at depth back room
  released_goes w (returns later at depth back) = returns later at depth back

  released_room : (w : Unit) → HasRoom w → HasRoom (record w { waits = false })
  released_room w r = record { back = r.back; frames = r.frames; list = r.list }

  released_registers : (w : Unit) → SameRegisters u w → SameRegisters u (record w { waits = false })
  released_registers w r = record { registers = r.registers; zero = r.zero }

  -- behind an access or a print
  plain_fits : (ask : Request) (reply : ℕ) → u.state ≡ Runs → next_of image start u ≡ next.Ask ask → is_plain ask ≡ true → UnitFits image start (record (answer_of image start u reply) { waits = false })
  plain_fits ask reply runs is plain =
      let w : Unit = answer_of image start u reply in
      let kept = answer_of-kept image start u ask reply runs is plain in
      goes_fits (record w { waits = false }) runs (released_room w (kept.same.room fits.room)) (released_registers w (answer_of-registers image valid start u ask reply runs is plain)) kept.same.number kept.state refl
      (released_goes w (after_answer image start u ask reply runs is plain))

  -- the master alone spawns
  pub spawns_master : (ask : SpawnAsk) → u.state ≡ Runs → next_of image start u ≡ next.Ask (request.Spawn ask) → u.number ≡ 0
  spawns_master ask runs is = elim (zero_or u.number) [ inl zero_is ↦ zero_is | inr other ↦ absurd (spawns_not image valid start u within (fits.placed runs) other (at_spawn image start u ask runs is).0) ]

  -- and goes on behind the join
  spawn_fits : (ask : SpawnAsk) → u.state ≡ Runs → next_of image start u ≡ next.Ask (request.Spawn ask) → UnitFits image start (behind_spawn image ask.at u)
  spawn_fits ask runs is =
      let here = at_spawn image start u ask runs is in
      let block = valid.regions.spawn_joins u.at here.0 in
      let nested = valid_nests image valid in
      let after = nested.join u.at block.0 block.1 in
      let holds = nested.holds u.at (at_inside image valid start u within (fits.placed runs)) in
      let master : u.number ≡ 0 = spawns_master ask runs is in
      let behind : behind_join image ask.at ≡ block.0 + 1 = ap (behind_join image) here.1 ∙ behind_is image u.at block.0 block.1 in
      let v : Unit = behind_spawn image ask.at u in
      let r : HasRoom u = fits.room in
      let moves : MovesTo image u.number u.at (behind_join image ask.at) = subst (MovesTo image u.number u.at) (sym behind) (record {
        inside = in_code image valid.regions.starts holds.0 (block.0 + 1) (after.0 holds.0 holds.1);
        function = after.0;
        outside = λ zero_is outside. after.1;
        block = λ other. absurd (other master);
      }) in
      let placed : IsPlaced image start v = places_placed image start v within (moved_places image valid start u.number u.depth u.back u.at (behind_join image ask.at) within moves (placed_places image start u within (fits.placed runs))) in
      runs_fits image start v (record { back = r.back; frames = r.frames; list = r.list }) fits.registers fits.zero fits.depth runs refl placed

  -- behind a draw
  drawn_fits : HasStart image start u → u.number ≢ 0 → (reply : ℕ) → UnitFits image start (record (draws start u reply) { waits = false })
  drawn_fits has other reply = draw_fits image valid start (has other) u fits other reply

  -- only a control unit stands at a join
  joins_other : u.state ≡ Runs → next_of image start u ≡ next.Ask request.Draw → u.number ≢ 0
  joins_other runs is = λ zero_is. joins_not image valid start u within (fits.placed runs) zero_is (at_join image start u runs is)

  -- behind whatever it asked for
  by_ask : HasStart image start u → (reply : ℕ) (ask : Request) → u.state ≡ Runs → next_of image start u ≡ next.Ask ask → UnitFits image start (replied image start u reply ask)
  by_ask has reply (request.Load word) runs is = plain_fits (request.Load word) (reply % 2 ^ 32) runs is refl
  by_ask has reply (request.Store word value) runs is = plain_fits (request.Store word value) (reply % 2 ^ 32) runs is refl
  by_ask has reply (request.Add word value) runs is = plain_fits (request.Add word value) (reply % 2 ^ 32) runs is refl
  by_ask has reply (request.Print text) runs is = plain_fits (request.Print text) (reply % 2 ^ 32) runs is refl
  by_ask has reply request.Draw runs is = drawn_fits has (joins_other runs is) reply
  by_ask has reply (request.Spawn ask) runs is = spawn_fits ask runs is

  pub reply_fits : HasStart image start u → (reply : ℕ) → u.waits ≡ true → UnitFits image start (answered image start u reply)
  reply_fits has reply waits = elim (fits.waits waits) [
    | inl runs ↦ (let asked = fits.asks waits runs in subst (λ n. UnitFits image start (replied_at image start u reply n)) (sym asked.1) (by_ask has reply asked.0 runs asked.1))
    | inr due ↦ subst (λ n. UnitFits image start (replied_at image start u reply n)) (sym (next_of-draws image start u due)) (drawn_fits has (λ zero_is. two_states u.state Draws Runs due (fits.master_waits waits zero_is) refl) reply)
  ]
