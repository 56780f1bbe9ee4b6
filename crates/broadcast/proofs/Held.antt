-- Which machine registers hold a live virtual register, home by home and function by function.
use Rattle.std.proofs.Common.{ℕ, zero, suc, ◌≡◌, ◌<◌, ◌≤◌, ◌+◌, refl, ◌∙◌, ap, sym, subst, arith, Bool, true, false, List, [], ◌∷◌, Option, Some, None, All, length, take, take_all, get_or, inl, inr}
use Rattle.std.specs.Prelude.{slice_get, sum_by, option_map}
use Rattle.std.specs.Int.{bit_at}
use Rattle.std.proofs.lemmas.Bool.{cases_eq, cases_lt}
use Rattle.std.proofs.lemmas.List.{length-map}
use Rattle.std.proofs.lemmas.Nat.Bits.{bit_at-zero, bit_at-lt}
use Rattle.std.proofs.lemmas.Option.{slice_get_within, slice_get_past, slice_get-map, get_or_from_slice_get}
use Rattle.xmt_quads.specs.declared.homes.Home.{Home}
use Rattle.xmt_quads.specs.declared.homes.Home.TheVariants.{Reg, Slot}
use Rattle.xmt_quads.specs.declared.code.Quad.{Quad}
use Rattle.xmt_quads.specs.declared.code.QuadFunction.{QuadFunction}
use Rattle.xmt_quads.specs.declared.code.QuadProgram.{QuadProgram}
use Rattle.xmt_quads.specs.Allocation.{IsHome, IsAllocationOf, HasOwnSlots}
use Rattle.xmt_quads.specs.Program.{quads_of, quads_in, spawns_in, site_at}
use Rattle.xmt_quads.specs.Regions.{IsSpawn}
use Rattle.xmt_quads.specs.Live.{IsLive, is_read, is_kept}
use Rattle.liveness.specs.Live.{AreLivePositions}
use Rattle.broadcast.specs.Positions.{AreWith, IsHeldBelow, AreMasksBelow, AreAdded}
use Rattle.broadcast.specs.Masks.{IsHeld, IsMask, ArePositionMasks, AreFunctionMasks, homes_of, AreMasks}
use Rattle.broadcast.proofs.Bits.{no_bits_to}
use Rattle.broadcast.proofs.Sites.{spawns_of, sites_grow, sums_more, site_with}

same_register : {a b : ℕ} → Some (Reg a) ≡ Some (Reg b) → a ≡ b
same_register e = cc

no_slot : {a b : ℕ} → Some (Slot a) ≡ Some (Reg b) → ⊥
no_slot e = cc

module _ (quads : List Quad) (homes : List Home) where
  pub live_within : (r at : ℕ) → IsLive quads r at → at < length quads
  live_within r place (is_read at q here read) = slice_get_within quads at q here
  live_within r place (is_kept at to q here kept among rest) = slice_get_within quads at q here

  weaker : (bound at register : ℕ) → IsHeldBelow quads homes bound at register → IsHeldBelow quads homes (bound + 1) at register
  weaker bound at register (v, below, home, live) = (v, omega (arith, below), home, live)

  -- ---- one home more

  pub no_home : (masks : List ℕ) → ((k : ℕ) → get_or masks k 0 ≡ 0) → AreMasksBelow quads homes 0 masks
  no_home masks empty = record {
    bits = λ at register within. (
      λ on. absurd (off at register on),
      λ held. absurd (omega (arith, held.1)),
    );
  } where
    off : (at register : ℕ) → bit_at (get_or masks at 0) register ≡ 1 → ⊥
    off at register on =
        let none : bit_at (get_or masks at 0) register ≡ 0 = ap (λ m. bit_at m register) (empty at) ∙ bit_at-zero register in
        omega (arith, on, none)

  pub slot_more : (number slot : ℕ) (masks : List ℕ) → slice_get homes number ≡ Some (Slot slot) → AreMasksBelow quads homes number masks → AreMasksBelow quads homes (number + 1) masks
  slot_more number slot masks here before = record {
    bits = λ at register within. (
      λ on. weaker number at register ((before.bits at register within).0 on),
      λ held. (before.bits at register within).1 (stronger at register held),
    );
  } where
    stronger : (at register : ℕ) → IsHeldBelow quads homes (number + 1) at register → IsHeldBelow quads homes number at register
    stronger at register (v, below, home, live) = elim (cases_eq v number) [
      | inl same ↦ absurd (no_slot (sym here ∙ ap (slice_get homes) (sym same) ∙ home))
      | inr other ↦ (v, omega (arith, below, other), home, live)
    ]

  pub register_more : (number own : ℕ) (marks : List Bool) (masks new : List ℕ) → slice_get homes number ≡ Some (Reg own) → length masks ≡ length quads → AreLivePositions quads number marks → AreWith own marks masks new →
      AreMasksBelow quads homes number masks → AreMasksBelow quads homes (number + 1) new
  register_more number own marks masks new here room live with before = record {
    bits = λ at register within. (
      λ on. held at register within (get_or marks at false) refl on,
      λ some. set at register within some,
    );
  } where
    held : (at register : ℕ) → at < length quads → (b : Bool) → get_or marks at false ≡ b → bit_at (get_or new at 0) register ≡ 1 → IsHeldBelow quads homes (number + 1) at register
    held at register within false dead on =
        weaker number at register ((before.bits at register within).0 (sym ((with.each at (omega (arith, within, room))).others register (inl dead)) ∙ on))
    held at register within true lives on = elim (cases_eq register own) [
      | inl same ↦ (number, omega arith, here ∙ ap (λ r. Some (Reg r)) (sym same), (live.exactly at).0 lives)
      | inr other ↦ weaker number at register ((before.bits at register within).0 (sym ((with.each at (omega (arith, within, room))).others register (inr other)) ∙ on))
    ]

    set_old : (at register : ℕ) → at < length quads → (b : Bool) → get_or marks at false ≡ b → bit_at (get_or masks at 0) register ≡ 1 → bit_at (get_or new at 0) register ≡ 1
    set_old at register within false dead on = (with.each at (omega (arith, within, room))).others register (inl dead) ∙ on
    set_old at register within true lives on = elim (cases_eq register own) [
      | inl same ↦ ap (bit_at (get_or new at 0)) same ∙ (with.each at (omega (arith, within, room))).here lives
      | inr other ↦ (with.each at (omega (arith, within, room))).others register (inr other) ∙ on
    ]

    set : (at register : ℕ) → at < length quads → IsHeldBelow quads homes (number + 1) at register → bit_at (get_or new at 0) register ≡ 1
    set at register within (v, below, home, lives) = elim (cases_eq v number) [
      | inl same ↦
          let own_is : own ≡ register = same_register (sym here ∙ ap (slice_get homes) (sym same) ∙ home) in
          let marked : get_or marks at false ≡ true = (live.exactly at).1 (subst (λ r. IsLive quads r at) same lives) in
          ap (bit_at (get_or new at 0)) (sym own_is) ∙ (with.each at (omega (arith, within, room))).here marked
      | inr other ↦ set_old at register within (get_or marks at false) refl ((before.bits at register within).1 (v, omega (arith, below, other), home, lives))
    ]

  pub position_masks_are : (bound : ℕ) (masks : List ℕ) → length homes ≤ bound → length masks ≡ length quads → AreMasksBelow quads homes bound masks → ArePositionMasks quads homes masks
  position_masks_are bound masks past room before = record {
    each = λ at. elim (cases_lt at (length quads)) [
      | inl within ↦ record {
        bits = λ register. (
          λ on. let held = (before.bits at register within).0 on in (held.0, held.2, held.3),
          λ held. (before.bits at register within).1 (held.0, omega (arith, past, slice_get_within homes held.0 (Reg register) held.1), held.1, held.2),
        );
      }
      | inr beyond ↦ record {
        bits = λ register. (
          λ on. absurd (off at register (omega (arith, beyond, room)) on),
          λ held. let within : at < length quads = live_within held.0 at held.2 in absurd (omega (arith, within, beyond)),
        );
      }
    ];
  } where
    past_end : (xs : List ℕ) (k : ℕ) → length xs ≤ k → get_or xs k 0 ≡ 0
    past_end [] k beyond = refl
    past_end (x ∷ xs) zero beyond = absurd (omega arith)
    past_end (x ∷ xs) (suc k) beyond = past_end xs k (omega arith)

    off : (at register : ℕ) → length masks ≤ at → bit_at (get_or masks at 0) register ≡ 1 → ⊥
    off at register beyond on =
        let none : bit_at (get_or masks at 0) register ≡ 0 = ap (λ m. bit_at m register) (past_end masks at beyond) ∙ bit_at-zero register in
        omega (arith, on, none)

  pub function_masks_are : (positions masks new : List ℕ) → ArePositionMasks quads homes positions → AreAdded quads positions masks new → AreFunctionMasks quads homes masks new
  function_masks_are positions masks new each added = record {
    count = added.count;
    kept = added.kept;
    added = λ at spawn. subst (IsMask quads homes (at + 1)) (sym (added.added at spawn)) (each.each (at + 1));
  }

-- ---- the functions of a program

pub record AreMasksBefore (program : QuadProgram) (homes : List (List Home)) (number : ℕ) (masks : List ℕ) : Type 0 where
  pub count : length masks ≡ sum_by spawns_of (take number program.functions)
  pub each : (function at : ℕ) → function < number → IsSpawn (quads_in program function) at →
      IsMask (quads_in program function) (homes_of (slice_get homes function)) (at + 1) (get_or masks (site_at program function at) 0)

module _ (program : QuadProgram) (homes : List (List Home)) where
  pub no_function : AreMasksBefore program homes 0 []
  no_function = record { count = refl; each = λ function at before. absurd (omega (arith, before)) }

  pub function_more : (number : ℕ) (f : QuadFunction) (own : List Home) (masks new : List ℕ) → slice_get program.functions number ≡ Some f → slice_get homes number ≡ Some own → AreFunctionMasks f.quads own masks new →
      AreMasksBefore program homes number masks → AreMasksBefore program homes (number + 1) new
  function_more number f own masks new here home added before = record {
    count = omega (arith, added.count, before.count, sums_more program.functions number f here);
    each = λ function at below spawn. elim (cases_eq function number) [
      | inl same ↦ last function at same spawn
      | inr other ↦
          let earlier : function < number = omega (arith, below, other) in
          let within : site_at program function at < length masks = let grown = sites_grow program.functions function number at earlier spawn in omega (arith, grown, before.count) in
          subst (IsMask (quads_in program function) (homes_of (slice_get homes function)) (at + 1)) (sym (added.kept (site_at program function at) within)) (before.each function at earlier spawn)
    ];
  } where
    quads_are : (function : ℕ) → function ≡ number → quads_in program function ≡ f.quads
    quads_are function same = ap quads_of (ap (slice_get program.functions) same ∙ here)

    homes_are : (function : ℕ) → function ≡ number → homes_of (slice_get homes function) ≡ own
    homes_are function same = ap homes_of (ap (slice_get homes) same ∙ home)

    last : (function at : ℕ) → function ≡ number → IsSpawn (quads_in program function) at → IsMask (quads_in program function) (homes_of (slice_get homes function)) (at + 1) (get_or new (site_at program function at) 0)
    last function at same spawn =
        let site : site_at program function at ≡ length masks + spawns_in (take at f.quads) =
        ap (λ n. sum_by spawns_of (take n program.functions) + spawns_in (take at (quads_in program function))) same ∙
        ap (λ (quads : List Quad). sum_by spawns_of (take number program.functions) + spawns_in (take at quads)) (quads_are function same) ∙
        ap (λ n. n + spawns_in (take at f.quads)) (sym before.count)
        in
        let there : IsSpawn f.quads at = subst (λ (quads : List Quad). IsSpawn quads at) (quads_are function same) spawn in
        let mask : IsMask f.quads own (at + 1) (get_or new (length masks + spawns_in (take at f.quads)) 0) = added.added at there in
        subst (λ (quads : List Quad). IsMask quads (homes_of (slice_get homes function)) (at + 1) (get_or new (site_at program function at) 0)) (sym (quads_are function same))
        (subst (λ (own : List Home). IsMask f.quads own (at + 1) (get_or new (site_at program function at) 0)) (sym (homes_are function same))
        (subst (λ n. IsMask f.quads own (at + 1) (get_or new n 0)) (sym site) mask))

  pub masks_are : (number : ℕ) (masks : List ℕ) → length program.functions ≤ number → AreMasksBefore program homes number masks → AreMasks program homes masks
  masks_are number masks past before = record {
    one_for_each = before.count ∙ ap (sum_by spawns_of) (take_all number program.functions past);
    each = λ function at spawn. elim (cases_lt function number) [
      | inl below ↦ before.each function at below spawn
      | inr beyond ↦
          let none : quads_in program function ≡ [] = ap quads_of (slice_get_past program.functions function (omega (arith, past, beyond))) in
          absurd (no_spawn at (subst (λ (quads : List Quad). IsSpawn quads at) none spawn))
    ];
  } where
    no_spawn : (at : ℕ) → IsSpawn [] at → ⊥
    no_spawn at (low, high, is) = cc

  -- ---- the homes of a function

  same_count : {a b : ℕ} → Some a ≡ Some b → a ≡ b
  same_count e = cc

  pub same_registers : IsAllocationOf program homes → (number : ℕ) (f : QuadFunction) (own : List Home) → slice_get program.functions number ≡ Some f → slice_get homes number ≡ Some own → length own ≡ f.registers
  same_registers allocation number f own here home =
      same_count
      (ap (option_map (λ (own : List Home). length own)) (sym home) ∙ sym (slice_get-map (λ (own : List Home). length own) homes number) ∙ ap (λ (counts : List ℕ). slice_get counts number) allocation.one_for_each ∙
      slice_get-map (λ (f : QuadFunction). f.registers) program.functions number ∙ ap (option_map (λ (f : QuadFunction). f.registers)) here)

  pub own_homes : IsAllocationOf program homes → (number : ℕ) (own : List Home) → slice_get homes number ≡ Some own → All IsHome own
  own_homes allocation number own home =
      subst (All IsHome) (get_or_from_slice_get homes number own own home) (allocation.are_homes number own (slice_get_within homes number own home))

  pub home_there : IsAllocationOf program homes → (number : ℕ) → number < length program.functions → number < length homes
  home_there allocation number within =
      omega (arith, within, ap (λ (counts : List ℕ). length counts) allocation.one_for_each, length-map homes (λ (own : List Home). length own), length-map program.functions (λ (f : QuadFunction). f.registers))

  -- ---- slots alone

  not_held : All HasOwnSlots homes → (function at register : ℕ) (quads : List Quad) → IsHeld quads (homes_of (slice_get homes function)) at register → ⊥
  not_held slots function at register quads (v, home, live) = by_homes (slice_get homes function) refl home where
    by_homes : (o : Option (List Home)) → slice_get homes function ≡ o → slice_get (homes_of o) v ≡ Some (Reg register) → ⊥
    by_homes None is home = cc
    by_homes (Some own) is home =
        let within : function < length homes = slice_get_within homes function own is in
        let same : get_or homes function own ≡ own = get_or_from_slice_get homes function own own is in
        let own_slots : HasOwnSlots own = subst HasOwnSlots same (slots function own within) in
        let slot = own_slots.slots v (slice_get_within own v (Reg register) home) in
        no_slot (sym slot.1 ∙ home)

  pub all_zero : (masks : List ℕ) → AreMasks program homes masks → All HasOwnSlots homes → All (λ mask. mask ≡ 0) masks
  all_zero masks are slots = λ k d within.
      let site = site_with program.functions k (omega (arith, within, are.one_for_each)) in
      let mask : IsMask (quads_in program site.0) (homes_of (slice_get homes site.0)) (site.1 + 1) (get_or masks (site_at program site.0 site.1) 0) = are.each site.0 site.1 site.2 in
      let zero : get_or masks (site_at program site.0 site.1) 0 ≡ 0 =
      no_bits_to (get_or masks (site_at program site.0 site.1) 0) (get_or masks (site_at program site.0 site.1) 0) (omega arith)
      (λ register on. not_held slots site.0 (site.1 + 1) register (quads_in program site.0) ((mask.bits register).0 on))
      (λ register. bit_at-lt (get_or masks (site_at program site.0 site.1) 0) register)
      in
      default masks k d 0 within ∙ ap (λ n. get_or masks n 0) (sym site.3) ∙ zero
    where
      default : (xs : List ℕ) (k d e : ℕ) → k < length xs → get_or xs k d ≡ get_or xs k e
      default [] k d e within = absurd (omega arith)
      default (x ∷ xs) zero d e within = refl
      default (x ∷ xs) (suc k) d e within = default xs k d e (omega arith)
