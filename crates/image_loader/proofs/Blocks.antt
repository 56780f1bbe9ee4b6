-- Blocks, and the spawn that is open.
use Rattle.std.proofs.Common.{◌≡◌, ◌≢◌, ◌⊎◌, ℕ, zero, suc, ◌+◌, ◌-◌, ◌<◌, ◌≤◌, cond, eqb, List, length, Option, Some, None, refl, sym, ap, subst, ◌∙◌, inl, inr, arith}
use Rattle.std.specs.Prelude.{IsSomeAnd, slice_get}
use Rattle.std.specs.Option.{option_map_or}
use Rattle.std.proofs.lemmas.Bool.{cases_lt}
use Rattle.std.proofs.lemmas.Bool.Decides.{eqb_tells}
use Rattle.std.proofs.lemmas.Option.{slice_get-get_or, slice_get_past}
use Rattle.xmt_isa.specs.declared.image.Image.{Image}
use Rattle.xmt_isa.specs.declared.image.Instr.{Instr}
use Rattle.xmt_isa.specs.declared.operation.Operation.{Operation}
use Rattle.xmt_isa.specs.declared.operation.Operation.TheVariants.{Call}
use Rattle.xmt_isa.specs.Image.{start_of, HasStarts, IsIn, end_of}
use Rattle.xmt_isa.specs.Regions.{HasRegions, HasOp, IsBlock, IsInBlock, IsInside}
use Rattle.image_loader.specs.Ranges.{code_operation}
use Rattle.image_loader.specs.Blocks.{op_at, open_after, open_at, AreClosed, HasOpenRegions}
use Rattle.image_loader.proofs.Starts.{rises}
use Rattle.image_loader.proofs.Elements.{no_function}

-- a spawn at s, and neither a spawn nor a join from there up to at
pub record IsOpen (code : List Instr) (s at : ℕ) : Type 0 where
  pub spawns : op_at code s ≡ 44
  pub order : s < at
  pub between : (k : ℕ) → s < k → k < at → (op_at code k ≢ 44) × (op_at code k ≢ 45)

-- ---- the table says which spawn is open

some_is : (a b : ℕ) → Some a ≡ Some b → a ≡ b
some_is a b e = cc

pub none_some : (s : ℕ) (o : Option ℕ) → o ≡ None → o ≡ Some s → ⊥
none_some s None e f = cc
none_some s (Some t) e f = cc

chosen : (n at : ℕ) (before : Option ℕ) (s : ℕ) → cond (eqb n 44) (Some at) (cond (eqb n 45) None before) ≡ Some s → ((n ≡ 44) × (at ≡ s)) ⊎ ((n ≢ 44) × (n ≢ 45) × (before ≡ Some s))
chosen n at before s e =
    elim (eqb_tells n 44) [
      | inl so ↦ (let g = rw so.0 at e in inl (so.1, some_is at s g))
      | inr other ↦ (let g = rw other.0 at e in elim (eqb_tells n 45) [ inl so ↦ (let h = rw so.0 at g in absurd (none_some s None refl h)) | inr neither ↦ (let h = rw neither.0 at g in inr (other.1, neither.1, h)) ])
    ]

after_cases : (code : List Instr) (at : ℕ) (before : Option ℕ) (s : ℕ) → open_after code at before ≡ Some s → ((op_at code at ≡ 44) × (at ≡ s)) ⊎ ((op_at code at ≢ 44) × (op_at code at ≢ 45) × (before ≡ Some s))
after_cases code at before s e = chosen (op_at code at) at before s e

pub open_is : (code : List Instr) (at s : ℕ) → open_at code at ≡ Some s → IsOpen code s at
open_is code zero s e = absurd cc
open_is code (suc at) s e =
    elim (after_cases code at (open_at code at) s e) [
      | inl here ↦ record { spawns = subst (λ (k : ℕ). op_at code k ≡ 44) here.1 here.0; order = omega (arith, here.1); between = λ k from to. absurd (omega (arith, from, to, here.1)) }
      | inr there ↦ (let h = open_is code at s there.2 in record { spawns = h.spawns; order = omega (arith, h.order); between = λ k from to. elim (cases_lt k at) [ inl lt ↦ h.between k from lt | inr le ↦ (let same : at ≡ k = omega (arith, le, to) in subst (λ (j : ℕ). (op_at code j ≢ 44) × (op_at code j ≢ 45)) same (there.0, there.1)) ] })
    ]

pub stays : (code : List Instr) (at : ℕ) (before : Option ℕ) → op_at code at ≢ 44 → op_at code at ≢ 45 → open_after code at before ≡ before
stays code at before n m =
    elim (eqb_tells (op_at code at) 44) [
      | inl so ↦ absurd (n so.1)
      | inr other ↦ elim (eqb_tells (op_at code at) 45) [ inl so ↦ absurd (m so.1) | inr neither ↦ rw (other.0, neither.0) refl ]
    ]

begins : (code : List Instr) (at : ℕ) (before : Option ℕ) → op_at code at ≡ 44 → open_after code at before ≡ Some at
begins code at before e = rw e refl

pub is_open : (code : List Instr) (at s : ℕ) → IsOpen code s at → open_at code at ≡ Some s
is_open code zero s h = absurd (omega (arith, h.order))
is_open code (suc at) s h =
    elim (cases_lt s at) [
      | inl lt ↦ (let b = h.between at lt (omega arith) in stays code at (open_at code at) b.0 b.1 ∙ is_open code at s (record { spawns = h.spawns; order = lt; between = λ k from to. h.between k from (omega (arith, to)) }))
      | inr le ↦ (let same : s ≡ at = omega (arith, le, h.order) in begins code at (open_at code at) (subst (λ (k : ℕ). op_at code k ≡ 44) same h.spawns) ∙ ap (λ (k : ℕ). Some k) (sym same))
    ]

-- ---- operations by their numbers

pub op_of_has : (o : Option Instr) (op : ℕ) → IsSomeAnd o (λ i. i.op ≡ op) → option_map_or (λ i. i.op) o 0 ≡ op
op_of_has None op h = absurd h
op_of_has (Some i) op h = h

pub has_of_op : (o : Option Instr) (op : ℕ) → 1 ≤ op → option_map_or (λ i. i.op) o 0 ≡ op → IsSomeAnd o (λ i. i.op ≡ op)
has_of_op None op some e = absurd (omega (arith, some, e))
has_of_op (Some i) op some e = e

op_inside : (code : List Instr) (at op : ℕ) → 1 ≤ op → op_at code at ≡ op → at < length code
op_inside code at op some e =
    elim (cases_lt at (length code)) [
      | inl lt ↦ lt
      | inr le ↦ (let past = slice_get_past code at le in let zero_is = rw past at e in absurd (omega (arith, some, zero_is)))
    ]

-- where a function ends
end_next : (image : Image) (f : ℕ) → f + 1 < length image.functions → end_of image f ≡ start_of image (f + 1)
end_next image f lt = rw (slice_get-get_or image.functions (f + 1) no_function lt) refl

end_last : (image : Image) (f : ℕ) → length image.functions ≤ f + 1 → end_of image f ≡ length image.code
end_last image f le = rw (slice_get_past image.functions (f + 1) le) refl

-- ---- blocks are what is open

shorter : (code : List Instr) (s at to : ℕ) → IsOpen code s at → s < to → to ≤ at → IsOpen code s to
shorter code s at to h lt le = record { spawns = h.spawns; order = lt; between = λ k from below. h.between k from (omega (arith, below, le)) }

block_open : (image : Image) (s j : ℕ) → IsBlock image s j → IsOpen image.code s j
block_open image s j b = record {
  spawns = op_of_has (slice_get image.code s) 44 b.spawns;
  order = b.order;
  between = λ k from to. (λ e. b.between k from to (inl (has_of_op (slice_get image.code k) 44 (omega arith) e)), λ e. b.between k from to (inr (has_of_op (slice_get image.code k) 45 (omega arith) e)));
}

stays_in : (image : Image) → AreClosed image → (s j f : ℕ) → IsOpen image.code s j → op_at image.code j ≡ 45 → IsIn image f s → j < end_of image f
stays_in image closed s j f opened joins inside =
    elim (cases_lt j (end_of image f)) [
      | inl lt ↦ lt
      | inr le ↦ elim (cases_lt (f + 1) (length image.functions)) [
        | inl next ↦ (let e = end_next image f next in let o = is_open image.code (start_of image (f + 1)) s (shorter image.code s j (start_of image (f + 1)) opened (omega (arith, inside.2, e)) (omega (arith, le, e))) in absurd (none_some s (open_at image.code (start_of image (f + 1))) (closed.starts (f + 1) next) o))
        | inr last ↦ (let e = end_last image f last in let lt = op_inside image.code j 45 (omega arith) joins in absurd (omega (arith, le, e, lt)))
      ]
    ]

open_block : (image : Image) → AreClosed image → (s j : ℕ) → IsOpen image.code s j → op_at image.code j ≡ 45 → IsBlock image s j
open_block image closed s j opened joins = record {
  spawns = has_of_op (slice_get image.code s) 44 (omega arith) opened.spawns;
  joins = has_of_op (slice_get image.code j) 45 (omega arith) joins;
  order = opened.order;
  function = λ f inside. (inside.0, omega (arith, inside.1, opened.order), stays_in image closed s j f opened joins inside);
  between = λ k from to either. elim either [ inl h ↦ (opened.between k from to).0 (op_of_has (slice_get image.code k) 44 h) | inr h ↦ (opened.between k from to).1 (op_of_has (slice_get image.code k) 45 h) ];
}

-- what is opened is joined
find_join : (image : Image) → AreClosed image → (d at s : ℕ) → at + d ≡ length image.code → open_at image.code at ≡ Some s → (j : ℕ) × (at ≤ j) × (open_at image.code j ≡ Some s) × (op_at image.code j ≡ 45)
find_join image closed zero at s long e = absurd (none_some s (open_at image.code at) (let same : length image.code ≡ at = omega (arith, long) in subst (λ (k : ℕ). open_at image.code k ≡ None) same closed.ends) e)
find_join image closed (suc d) at s long e =
    elim (eqb_tells (op_at image.code at) 45) [
      | inl so ↦ (at, omega arith, e, so.1)
      | inr other ↦ elim (eqb_tells (op_at image.code at) 44) [
        | inl so ↦ absurd (none_some s (open_at image.code at) (closed.spawns at so.1) e)
        | inr neither ↦ (let later = find_join image closed d (suc at) s (omega (arith, long)) (stays image.code at (open_at image.code at) neither.1 other.1 ∙ e) in (later.0, omega (arith, later.1), later.2, later.3))
      ]
    ]

-- ---- instructions in blocks

abbrev no_operation : Option Operation
no_operation = None

inside_open : (image : Image) (s j at : ℕ) → IsBlock image s j → IsInside s j at → open_at image.code at ≡ Some s
inside_open image s j at b inside = is_open image.code at s (shorter image.code s j at (block_open image s j b) inside.0 inside.1)

open_inside : (image : Image) (s j at : ℕ) → IsBlock image s j → open_at image.code at ≡ Some s → IsInside s j at
open_inside image s j at b e =
    let opened = open_is image.code at s e in
    elim (cases_lt j at) [
      | inl lt ↦ absurd ((opened.between j b.order lt).1 (op_of_has (slice_get image.code j) 45 b.joins))
      | inr le ↦ (opened.order, le)
    ]

in_block_open : (image : Image) (at : ℕ) → IsInBlock image at → (s : ℕ) × (open_at image.code at ≡ Some s)
in_block_open image at h = (h.0, inside_open image h.0 h.1 at h.2 h.3)

open_in_block : (image : Image) → AreClosed image → (at s : ℕ) → at < length image.code → open_at image.code at ≡ Some s → IsInBlock image at
open_in_block image closed at s lt e =
    let found = find_join image closed (length image.code - at) at s (omega (arith, lt)) e in
    let joined = open_block image closed s found.0 (open_is image.code found.0 s found.2) found.3 in
    (s, found.0, joined, ((open_is image.code at s e).order, found.1))

has_inside : (image : Image) (at op : ℕ) → 1 ≤ op → HasOp image at op → at < length image.code
has_inside image at op some h = op_inside image.code at op some (op_of_has (slice_get image.code at) op h)

no_call : (f : ℕ) → no_operation ≡ Some (Call f) → ⊥
no_call f e = cc

call_inside : (code : List Instr) (at f : ℕ) → code_operation code at ≡ Some (Call f) → at < length code
call_inside code at f e =
    elim (cases_lt at (length code)) [
      | inl lt ↦ lt
      | inr le ↦ (let past = slice_get_past code at le in let never = rw past at e in absurd (no_call f never))
    ]

same_open : (o p : Option ℕ) → ((s : ℕ) → o ≡ Some s → p ≡ Some s) → ((s : ℕ) → p ≡ Some s → o ≡ Some s) → o ≡ p
same_open (Some s) p forth back = sym (forth s refl)
same_open None (Some s) forth back = back s refl
same_open None None forth back = refl

-- ---- from the one test to the other

pub regions_hold : (image : Image) → HasOpenRegions image → HasRegions image
regions_hold image r = record {
  starts = r.starts;
  inner = r.inner;
  ends = r.ends;
  spawn_joins = λ s h. (let lt = has_inside image s 44 (omega arith) h in let found = find_join image r.closed (length image.code - suc s) (suc s) s (omega (arith, lt)) (begins image.code s (open_at image.code s) (op_of_has (slice_get image.code s) 44 h)) in (found.0, open_block image r.closed s found.0 (open_is image.code found.0 s found.2) found.3));
  join_spawned = λ j h. (let joins = op_of_has (slice_get image.code j) 45 h in let opened = r.closed.joins j joins in (opened.0, open_block image r.closed opened.0 j (open_is image.code j opened.0 opened.1) joins));
  jumps = λ s j at to b jump. (λ inside. open_inside image s j to b (sym (r.jumps at to jump) ∙ inside_open image s j at b inside), λ inside. open_inside image s j at b (r.jumps at to jump ∙ inside_open image s j to b inside));
  in_block = λ at h. (let opened = in_block_open image at h in r.in_block at opened.0 opened.1);
  master_slots = λ at h. (let opened = r.master_slots at h in open_in_block image r.closed at opened.0 (has_inside image at 29 (omega arith) h) opened.1);
  in_inner = r.in_inner;
  calls = λ at f either e. elim either [ inl h ↦ (let opened = in_block_open image at h in r.block_calls at opened.0 f opened.1 e) | inr h ↦ r.inner_calls at f h e ];
}

-- the function that holds an instruction
holder_from : (image : Image) (d f at : ℕ) → f + d ≡ length image.functions → f < length image.functions → start_of image f ≤ at → at < length image.code → (g : ℕ) × IsIn image g at
holder_from image zero f at e lt from inside = absurd (omega (arith, e, lt))
holder_from image (suc d) f at e lt from inside =
    elim (cases_lt (f + 1) (length image.functions)) [
      | inl next ↦ (let n = end_next image f next in elim (cases_lt at (start_of image (f + 1))) [ inl before ↦ (f, (lt, from, omega (arith, before, n))) | inr behind ↦ holder_from image d (f + 1) at (omega (arith, e)) next behind inside ])
      | inr last ↦ (let n = end_last image f last in (f, (lt, from, omega (arith, inside, n))))
    ]

rises_to : (image : Image) → HasStarts image → (d f : ℕ) → f + d < length image.functions → start_of image f ≤ start_of image (f + d)
rises_to image h zero f lt = (let e : f + 0 ≡ f = omega arith in rw e (omega arith))
rises_to image h (suc d) f lt =
    let one = rises image h f (omega (arith, lt)) in
    let rest = rises_to image h d (f + 1) (omega (arith, lt)) in
    let e : f + suc d ≡ (f + 1) + d = omega arith in
    rw e (omega (arith, one, rest))

pub none_of : (o : Option ℕ) → ((s : ℕ) → o ≡ Some s → ⊥) → o ≡ None
none_of None h = refl
none_of (Some s) h = absurd (h s refl)

-- what is open is in its block
open_in : (image : Image) → HasRegions image → (at s : ℕ) → open_at image.code at ≡ Some s → (j : ℕ) × IsBlock image s j × (at ≤ j)
open_in image r at s e =
    let opened = open_is image.code at s e in
    let b = r.spawn_joins s (has_of_op (slice_get image.code s) 44 (omega arith) opened.spawns) in
    (b.0, b.1, (open_inside image s b.0 at b.1 e).1)

no_open_spawn : (image : Image) → HasRegions image → (at s : ℕ) → op_at image.code at ≡ 44 → open_at image.code at ≡ Some s → ⊥
no_open_spawn image r at s op e =
    let opened = open_is image.code at s e in
    let b = open_in image r at s e in
    let joins = op_of_has (slice_get image.code b.0) 45 b.1.joins in
    elim (cases_lt at b.0) [
      | inl lt ↦ b.1.between at opened.order lt (inl (has_of_op (slice_get image.code at) 44 (omega arith) op))
      | inr le ↦ (let same : b.0 ≡ at = omega (arith, le, b.2) in let op' = subst (λ (k : ℕ). op_at image.code k ≡ 45) same joins in absurd (omega (arith, op, op')))
    ]

no_open_start : (image : Image) → HasRegions image → (f s : ℕ) → f < length image.functions → open_at image.code (start_of image f) ≡ Some s → ⊥
no_open_start image r f s lt e =
    let opened = open_is image.code (start_of image f) s e in
    let b = open_in image r (start_of image f) s e in
    let held = holder_from image (length image.functions) 0 s (omega arith) (omega (arith, lt)) (omega (arith, r.starts.first)) (has_inside image s 44 (omega arith) b.1.spawns) in
    let other = b.1.function held.0 held.1 in
    elim (cases_lt held.0 f) [
      | inl below ↦ (let n = end_next image held.0 (omega (arith, below, lt)) in let up = rises_to image r.starts (f - (held.0 + 1)) (held.0 + 1) (omega (arith, below, lt)) in let e' : held.0 + 1 + (f - (held.0 + 1)) ≡ f = omega (arith, below) in let up' = rw e' at up in absurd (omega (arith, n, up', other.2, b.2)))
      | inr above ↦ (let up = rises_to image r.starts (held.0 - f) f (omega (arith, above, held.1.0)) in let e' : f + (held.0 - f) ≡ held.0 = omega (arith, above) in let up' = rw e' at up in absurd (omega (arith, up', held.1.1, opened.order)))
    ]

pub open_regions_hold : (image : Image) → HasRegions image → HasOpenRegions image
open_regions_hold image r = record {
  starts = r.starts;
  inner = r.inner;
  ends = r.ends;
  closed = record {
    spawns = λ at op. none_of (open_at image.code at) (λ s e. no_open_spawn image r at s op e);
    joins = λ at op. (let b = r.join_spawned at (has_of_op (slice_get image.code at) 45 (omega arith) op) in (b.0, is_open image.code at b.0 (block_open image b.0 at b.1)));
    starts = λ f lt. none_of (open_at image.code (start_of image f)) (λ s e. no_open_start image r f s lt e);
    ends = none_of (open_at image.code (length image.code)) (λ s e. (let b = open_in image r (length image.code) s e in absurd (omega (arith, b.2, has_inside image b.0 45 (omega arith) b.1.joins))));
  };
  jumps = λ at to jump. same_open (open_at image.code at) (open_at image.code to) (λ s e. (let b = open_in image r at s e in inside_open image s b.0 to b.1 ((r.jumps s b.0 at to b.1 jump).0 (open_inside image s b.0 at b.1 e)))) (λ s e. (let b = open_in image r to s e in inside_open image s b.0 at b.1 ((r.jumps s b.0 at to b.1 jump).1 (open_inside image s b.0 to b.1 e))));
  in_block = λ at s e. (let b = open_in image r at s e in r.in_block at (s, b.0, b.1, open_inside image s b.0 at b.1 e));
  master_slots = λ at h. in_block_open image at (r.master_slots at h);
  in_inner = r.in_inner;
  block_calls = λ at s f e c. (let b = open_in image r at s e in r.calls at f (inl (s, b.0, b.1, open_inside image s b.0 at b.1 e)) c);
  inner_calls = λ at f h c. r.calls at f (inr h) c;
}
