-- The spawns in front of a place.
use Rattle.std.proofs.Common.{ℕ, zero, suc, ◌≡◌, ◌⊎◌, ◌<◌, ◌≤◌, ◌+◌, ◌-◌, refl, ◌∙◌, ap, sym, arith, List, [], ◌∷◌, ◌++◌, Some, length, take, take_all, get_or, length-append, inl, inr}
use Rattle.std.specs.Prelude.{slice_get, sum_by}
use Rattle.std.proofs.Math.Seq.{get_or-append_seam}
use Rattle.std.proofs.Math.ListN.{get_or-append}
use Rattle.std.proofs.lemmas.Bool.{cases_eq, cases_lt}
use Rattle.std.proofs.lemmas.List.{take_more}
use Rattle.std.proofs.lemmas.List.Sums.{sum_by-append, sum_by-cons}
use Rattle.std.proofs.lemmas.Option.{slice_get_within, get_or_from_slice_get}
use Rattle.xmt_quads.specs.declared.code.Operand.{Operand}
use Rattle.xmt_quads.specs.declared.code.Quad.{Quad}
use Rattle.xmt_quads.specs.declared.code.Quad.TheVariants as quad
use Rattle.xmt_quads.specs.declared.code.QuadFunction.{QuadFunction}
use Rattle.xmt_quads.specs.Program.{quads_of, is_spawn, spawns_in}
use Rattle.xmt_quads.specs.Regions.{IsSpawn}
use Rattle.broadcast.specs.Positions.{AreAdded}

spawns_cons : (q : Quad) (quads : List Quad) → spawns_in (q ∷ quads) ≡ is_spawn q + spawns_in quads
spawns_cons q quads = sum_by-cons is_spawn q quads

none_spawns : (at : ℕ) → IsSpawn [] at → ⊥
none_spawns at (low, high, is) = cc

counts : (q : Quad) (low high : Operand) → Some q ≡ Some (quad.Spawn low high) → is_spawn q ≡ 1
counts q low high is = let same : q ≡ quad.Spawn low high = cc in ap is_spawn same

-- a spawn counts behind its place
pub spawns_grow : (quads : List Quad) (at i : ℕ) → IsSpawn quads at → at < i → spawns_in (take at quads) < spawns_in (take i quads)
spawns_grow [] at i spawn before = absurd (none_spawns at spawn)
spawns_grow (q ∷ quads) at zero spawn before = absurd (omega arith)
spawns_grow (q ∷ quads) zero (suc i) (low, high, is) before =
    let one : is_spawn q ≡ 1 = counts q low high is in
    omega (arith, one, spawns_cons q (take i quads))
spawns_grow (q ∷ quads) (suc at) (suc i) (low, high, is) before =
    let rest : spawns_in (take at quads) < spawns_in (take i quads) = spawns_grow quads at i (low, high, is) (omega arith) in
    omega (arith, rest, spawns_cons q (take at quads), spawns_cons q (take i quads))

pub spawns_within : (quads : List Quad) (at : ℕ) → IsSpawn quads at → spawns_in (take at quads) < spawns_in quads
spawns_within quads at (low, high, is) =
    let within : at < length quads = slice_get_within quads at (quad.Spawn low high) is in
    let grown : spawns_in (take at quads) < spawns_in (take (length quads) quads) = spawns_grow quads at (length quads) (low, high, is) within in
    let all : spawns_in (take (length quads) quads) ≡ spawns_in quads = ap spawns_in (take_all (length quads) quads (omega arith)) in
    omega (arith, grown, all)

pub spawns_more : (quads : List Quad) (i : ℕ) (q : Quad) → slice_get quads i ≡ Some q → spawns_in (take (i + 1) quads) ≡ spawns_in (take i quads) + is_spawn q
spawns_more quads i q here =
    let within : i < length quads = slice_get_within quads i q here in
    let split : take (i + 1) quads ≡ take i quads ++ q ∷ [] = take_more quads i q within ∙ ap (λ x. take i quads ++ x ∷ []) (get_or_from_slice_get quads i q q here) in
    let one : spawns_in (q ∷ []) ≡ is_spawn q + spawns_in [] = spawns_cons q [] in
    let none : spawns_in [] ≡ 0 = refl in
    let sum : spawns_in (take i quads ++ q ∷ []) ≡ spawns_in (take i quads) + spawns_in (q ∷ []) = sum_by-append is_spawn (take i quads) (q ∷ []) in
    let whole : spawns_in (take (i + 1) quads) ≡ spawns_in (take i quads ++ q ∷ []) = ap spawns_in split in
    omega (arith, one, none, sum, whole)

-- ---- the masks of a function's spawns on their way

pub record AreAddedBefore (quads : List Quad) (i : ℕ) (positions masks new : List ℕ) : Type 0 where
  pub count : length new ≡ length masks + spawns_in (take i quads)
  pub kept : (k : ℕ) → k < length masks → get_or new k 0 ≡ get_or masks k 0
  pub added : (at : ℕ) → at < i → IsSpawn quads at → get_or new (length masks + spawns_in (take at quads)) 0 ≡ get_or positions (at + 1) 0

module _ (quads : List Quad) (positions masks : List ℕ) where
  pub none_added : AreAddedBefore quads 0 positions masks masks
  none_added = record {
    count = let none : spawns_in (take 0 quads) ≡ 0 = refl in omega (arith, none);
    kept = λ k within. refl;
    added = λ at before. absurd (omega (arith, before));
  }

  pub spawn_added : (i mask : ℕ) (q : Quad) (new : List ℕ) → slice_get quads i ≡ Some q → is_spawn q ≡ 1 → mask ≡ get_or positions (i + 1) 0 → AreAddedBefore quads i positions masks new → AreAddedBefore quads (i + 1) positions masks (new ++ mask ∷ [])
  spawn_added i mask q new here one is before = record {
    count = omega (arith, before.count, length-append new (mask ∷ []), spawns_more quads i q here, one);
    kept = λ k within. get_or-append new (mask ∷ []) 0 k (omega (arith, within, before.count)) ∙ before.kept k within;
    added = λ at below spawn. elim (cases_eq at i) [
      | inl same ↦
          let seam : length masks + spawns_in (take at quads) ≡ length new = ap (λ n. length masks + spawns_in (take n quads)) same ∙ sym before.count in
          ap (λ n. get_or (new ++ mask ∷ []) n 0) seam ∙ get_or-append_seam new mask [] 0 ∙ is ∙ ap (λ n. get_or positions (n + 1) 0) (sym same)
      | inr other ↦
          let earlier : at < i = omega (arith, below, other) in
          let grown : spawns_in (take at quads) < spawns_in (take i quads) = spawns_grow quads at i spawn earlier in
          get_or-append new (mask ∷ []) 0 (length masks + spawns_in (take at quads)) (omega (arith, grown, before.count)) ∙ before.added at earlier spawn
    ];
  }

  pub no_spawn_added : (i : ℕ) (q : Quad) (new : List ℕ) → slice_get quads i ≡ Some q → is_spawn q ≡ 0 → AreAddedBefore quads i positions masks new → AreAddedBefore quads (i + 1) positions masks new
  no_spawn_added i q new here none before = record {
    count = omega (arith, before.count, spawns_more quads i q here, none);
    kept = before.kept;
    added = λ at below spawn. elim (cases_eq at i) [
      | inl same ↦
          let at_place : Some q ≡ Some (quad.Spawn spawn.0 spawn.1) = sym here ∙ ap (slice_get quads) (sym same) ∙ spawn.2 in
          let one : is_spawn q ≡ 1 = counts q spawn.0 spawn.1 at_place in
          absurd (omega (arith, one, none))
      | inr other ↦ before.added at (omega (arith, below, other)) spawn
    ];
  }

  pub all_added : (i : ℕ) (new : List ℕ) → length quads ≤ i → AreAddedBefore quads i positions masks new → AreAdded quads positions masks new
  all_added i new past before =
      let all : spawns_in (take i quads) ≡ spawns_in quads = ap spawns_in (take_all i quads past) in
      record {
        count = omega (arith, before.count, all);
        kept = before.kept;
        added = λ at spawn. let within : at < length quads = slice_get_within quads at (quad.Spawn spawn.0 spawn.1) spawn.2 in before.added at (omega (arith, within, past)) spawn;
      }

-- ---- the spawns of functions

abbrev pub spawns_of : QuadFunction → ℕ
spawns_of f = spawns_in f.quads

pub sites_grow : (functions : List QuadFunction) (function number at : ℕ) → function < number → IsSpawn (quads_of (slice_get functions function)) at →
    sum_by spawns_of (take function functions) + spawns_in (take at (quads_of (slice_get functions function))) < sum_by spawns_of (take number functions)
sites_grow [] function number at before spawn = absurd (none_spawns at spawn)
sites_grow (f ∷ functions) function zero at before spawn = absurd (omega arith)
sites_grow (f ∷ functions) zero (suc number) at before spawn =
    let none : sum_by spawns_of [] ≡ 0 = refl in
    let within : spawns_in (take at f.quads) < spawns_in f.quads = spawns_within f.quads at spawn in
    omega (arith, none, within, sum_by-cons spawns_of f (take number functions))
sites_grow (f ∷ functions) (suc function) (suc number) at before spawn =
    let rest = sites_grow functions function number at (omega arith) spawn in
    omega (arith, rest, sum_by-cons spawns_of f (take function functions), sum_by-cons spawns_of f (take number functions))

pub sums_more : (functions : List QuadFunction) (i : ℕ) (f : QuadFunction) → slice_get functions i ≡ Some f → sum_by spawns_of (take (i + 1) functions) ≡ sum_by spawns_of (take i functions) + spawns_of f
sums_more functions i f here =
    let within : i < length functions = slice_get_within functions i f here in
    let split : take (i + 1) functions ≡ take i functions ++ f ∷ [] = take_more functions i f within ∙ ap (λ x. take i functions ++ x ∷ []) (get_or_from_slice_get functions i f f here) in
    let one : sum_by spawns_of (f ∷ []) ≡ spawns_of f + sum_by spawns_of [] = sum_by-cons spawns_of f [] in
    let none : sum_by spawns_of [] ≡ 0 = refl in
    let sum : sum_by spawns_of (take i functions ++ f ∷ []) ≡ sum_by spawns_of (take i functions) + sum_by spawns_of (f ∷ []) = sum_by-append spawns_of (take i functions) (f ∷ []) in
    let whole : sum_by spawns_of (take (i + 1) functions) ≡ sum_by spawns_of (take i functions ++ f ∷ []) = ap (sum_by spawns_of) split in
    omega (arith, one, none, sum, whole)

-- ---- each number below the count is that of a spawn

abbrev IsKind : Quad → Type 0
IsKind q = ((low high : Operand) × (q ≡ quad.Spawn low high) × (is_spawn q ≡ 1)) ⊎ (is_spawn q ≡ 0)

kind : (q : Quad) → IsKind q
kind (quad.Spawn low high) = inl (low, high, refl, refl)
kind _ = inr refl

pub spawn_with : (quads : List Quad) (k : ℕ) → k < spawns_in quads → (at : ℕ) × IsSpawn quads at × (spawns_in (take at quads) ≡ k)
spawn_with [] k below = let none : spawns_in [] ≡ 0 = refl in absurd (omega (arith, below, none))
spawn_with (q ∷ quads) k below = elim (kind q) [
  | inl spawn ↦ at_spawn spawn k below (λ k below. spawn_with quads k below)
  | inr none ↦
      let rest = spawn_with quads k (omega (arith, below, none, spawns_cons q quads)) in
      let counted : spawns_in (take rest.0 quads) ≡ k = rest.2 in
      (suc rest.0, rest.1, omega (arith, counted, none, spawns_cons q (take rest.0 quads)))
] where
  at_spawn : ((low high : Operand) × (q ≡ quad.Spawn low high) × (is_spawn q ≡ 1)) → (k : ℕ) → k < spawns_in (q ∷ quads) → ((k : ℕ) → k < spawns_in quads → (at : ℕ) × IsSpawn quads at × (spawns_in (take at quads) ≡ k)) →
      (at : ℕ) × IsSpawn (q ∷ quads) at × (spawns_in (take at (q ∷ quads)) ≡ k)
  at_spawn (low, high, is, one) zero below go = (0, (low, high, ap Some is), refl)
  at_spawn (low, high, is, one) (suc k) below go =
      let rest = go k (omega (arith, below, one, spawns_cons q quads)) in
      let counted : spawns_in (take rest.0 quads) ≡ k = rest.2 in
      (suc rest.0, rest.1, omega (arith, counted, one, spawns_cons q (take rest.0 quads)))

pub site_with : (functions : List QuadFunction) (k : ℕ) → k < sum_by spawns_of functions →
    (function at : ℕ) × IsSpawn (quads_of (slice_get functions function)) at × (sum_by spawns_of (take function functions) + spawns_in (take at (quads_of (slice_get functions function))) ≡ k)
site_with [] k below = let none : sum_by spawns_of [] ≡ 0 = refl in absurd (omega (arith, below, none))
site_with (f ∷ functions) k below = elim (cases_lt k (spawns_in f.quads)) [
  | inl inside ↦
      let found = spawn_with f.quads k inside in
      let counted : spawns_in (take found.0 f.quads) ≡ k = found.2 in
      let none : sum_by spawns_of [] ≡ 0 = refl in
      (0, found.0, found.1, omega (arith, counted, none))
  | inr past ↦
      let rest = site_with functions (k - spawns_in f.quads) (omega (arith, below, past, sum_by-cons spawns_of f functions)) in
      let counted : sum_by spawns_of (take rest.0 functions) + spawns_in (take rest.1 (quads_of (slice_get functions rest.0))) ≡ k - spawns_in f.quads = rest.3 in
      (suc rest.0, rest.1, rest.2, omega (arith, counted, past, sum_by-cons spawns_of f (take rest.0 functions)))
]
