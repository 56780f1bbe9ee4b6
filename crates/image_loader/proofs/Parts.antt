-- The test of regions as it is made, and the test by what is open.
use Rattle.std.proofs.Common.{◌≡◌, ◌⊎◌, ◌↔◌, ℕ, ◌-◌, Option, Some, None, refl, ap, subst, ◌∙◌, inl, inr, arith}
use Rattle.std.specs.Prelude.{IfSome, IsSomeAnd, slice_get}
use Rattle.std.specs.Option.{option_map_or, option_and_then}
use Rattle.std.proofs.lemmas.Option.{slice_get-get_or}
use Rattle.xmt_isa.specs.declared.image.Image.{Image}
use Rattle.xmt_isa.specs.declared.image.Instr.{Instr}
use Rattle.xmt_isa.specs.declared.image.FunctionEntry.{FunctionEntry}
use Rattle.xmt_isa.specs.declared.operation.Operation.{Operation}
use Rattle.xmt_isa.specs.declared.operation.Operation.TheVariants.{Call}
use Rattle.xmt_isa.specs.Operation.{operation_of}
use Rattle.xmt_isa.specs.Image.{end_of}
use Rattle.xmt_isa.specs.Regions.{HasOp, IsInInner, HasRegions}
use Rattle.image_loader.specs.Blocks.{open_at, HasOpenRegions, CallsInner, OpenFits, PlaceHolds, InnerHolds, RegionParts}
use Rattle.image_loader.proofs.Elements.{no_function}
use Rattle.image_loader.proofs.Blocks.{none_some, none_of, op_of_has, has_of_op, regions_hold, open_regions_hold}

-- what holds of an instruction that is there
both : (P Q : Instr → Type 0) (o : Option Instr) → IfSome o P → IsSomeAnd o Q → (i : Instr) × P i × Q i
both P Q None p q = absurd q
both P Q (Some i) p q = (i, p, q)

some_of : (o : Option ℕ) → (o ≡ None → ⊥) → (s : ℕ) × (o ≡ Some s)
some_of None h = absurd (h refl)
some_of (Some s) h = (s, refl)

at_some : (image : Image) (o : Option ℕ) (s : ℕ) (i : Instr) → o ≡ Some s → OpenFits image o i → OpenFits image (Some s) i
at_some image o s i e h = subst (λ (p : Option ℕ). OpenFits image p i) e h

at_none : (image : Image) (o : Option ℕ) (i : Instr) → o ≡ None → OpenFits image o i → OpenFits image None i
at_none image o i e h = subst (λ (p : Option ℕ). OpenFits image p i) e h

calls_of : (image : Image) (o : Option Instr) (f : ℕ) → IfSome o (λ i. CallsInner image (operation_of i)) → option_and_then operation_of o ≡ Some (Call f) → IsSomeAnd (slice_get image.functions f) (λ entry. entry.inner ≡ 1)
calls_of image None f h e = absurd cc
calls_of image (Some i) f h e = subst (CallsInner image) e h

weaker : (P Q : Instr → Type 0) (o : Option Instr) → ((i : Instr) → P i → Q i) → IfSome o P → IfSome o Q
weaker P Q None f h = tt
weaker P Q (Some i) f h = f i h

inner_is : (o : Option FunctionEntry) → IsSomeAnd o (λ entry. entry.inner ≡ 1) → option_map_or (λ entry. entry.inner) o 0 ≡ 1
inner_is None h = absurd h
inner_is (Some entry) h = h

inner_has : (o : Option FunctionEntry) → option_map_or (λ entry. entry.inner) o 0 ≡ 1 → IsSomeAnd o (λ entry. entry.inner ≡ 1)
inner_has None h = absurd (omega (arith, h))
inner_has (Some entry) h = h

-- what is tested of an instruction where a spawn is open
opened_at : (image : Image) → RegionParts image → (at s op : ℕ) → open_at image.code at ≡ Some s → HasOp image at op → (i : Instr) × (i.op ≡ op) × OpenFits image (Some s) i
opened_at image r at s op e h = let w = both (PlaceHolds image at) (λ i. i.op ≡ op) (slice_get image.code at) (r.each at) h in (w.0, w.2, at_some image (open_at image.code at) s w.0 e w.1.0)

inner_body : (image : Image) → RegionParts image → (at : ℕ) → IsInInner image at → IfSome (slice_get image.code at) (InnerHolds image)
inner_body image r at h = (r.functions h.0 h.1.0).body (inner_is (slice_get image.functions h.0) h.2) at h.1.1 h.1.2

pub parts_hold : (image : Image) → RegionParts image → HasOpenRegions image
parts_hold image r = record {
  starts = r.starts;
  inner = λ k d lt. (let h = (r.functions k lt).inner in rw (slice_get-get_or image.functions k d lt) at h);
  ends = λ f lt. elim (r.functions f lt).ends [ inl h ↦ inl (has_of_op (slice_get image.code (end_of image f - 1)) 20 (omega arith) h) | inr h ↦ inr (has_of_op (slice_get image.code (end_of image f - 1)) 24 (omega arith) h) ];
  closed = record {
    spawns = λ at op. none_of (open_at image.code at) (λ s e. (let w = opened_at image r at s 44 e (has_of_op (slice_get image.code at) 44 (omega arith) op) in w.2.1 w.1));
    joins = λ at op. some_of (open_at image.code at) (λ e. (let w = both (PlaceHolds image at) (λ i. i.op ≡ 45) (slice_get image.code at) (r.each at) (has_of_op (slice_get image.code at) 45 (omega arith) op) in (at_none image (open_at image.code at) w.0 e w.1.0).0 w.2));
    starts = λ f lt. (r.functions f lt).closed;
    ends = r.ends;
  };
  jumps = λ at to jump. (let w = both (PlaceHolds image at) (λ i. ((i.op ≡ 20) ⊎ (i.op ≡ 21) ⊎ (i.op ≡ 22)) × (i.imm ≡ to)) (slice_get image.code at) (r.each at) jump in w.1.1 w.2.0 ∙ ap (open_at image.code) w.2.1);
  in_block = λ at s e h. elim h [
    | inl h24 ↦ (let w = opened_at image r at s 24 e h24 in w.2.0 w.1)
    | inr later ↦ elim later [ inl h44 ↦ (let w = opened_at image r at s 44 e h44 in w.2.1 w.1) | inr h43 ↦ (let w = opened_at image r at s 43 e h43 in w.2.2 w.1) ]
  ];
  master_slots = λ at h. some_of (open_at image.code at) (λ e. (let w = both (PlaceHolds image at) (λ i. i.op ≡ 29) (slice_get image.code at) (r.each at) h in (at_none image (open_at image.code at) w.0 e w.1.0).1 w.2));
  in_inner = λ at inside h. (let b = inner_body image r at inside in elim h [
    | inl h44 ↦ (let w = both (InnerHolds image) (λ i. i.op ≡ 44) (slice_get image.code at) b h44 in w.1.0 w.2)
    | inr h43 ↦ (let w = both (InnerHolds image) (λ i. i.op ≡ 43) (slice_get image.code at) b h43 in w.1.1 w.2)
  ]);
  block_calls = λ at s f e call. calls_of image (slice_get image.code at) f (weaker (PlaceHolds image at) (λ i. CallsInner image (operation_of i)) (slice_get image.code at) (λ i p. (at_some image (open_at image.code at) s i e p.0).3) (r.each at)) call;
  inner_calls = λ at f inside call. calls_of image (slice_get image.code at) f (weaker (InnerHolds image) (λ i. CallsInner image (operation_of i)) (slice_get image.code at) (λ i p. p.2) (inner_body image r at inside)) call;
}

-- ---- and back

some_each : (P : Instr → Type 0) (o : Option Instr) → ((i : Instr) → o ≡ Some i → P i) → IfSome o P
some_each P None h = tt
some_each P (Some i) h = h i refl

has_some : (Q : Instr → Type 0) (o : Option Instr) (i : Instr) → o ≡ Some i → Q i → IsSomeAnd o Q
has_some Q o i e h = rw e h

calls_from : (image : Image) (p : Option Operation) → ((f : ℕ) → p ≡ Some (Call f) → IsSomeAnd (slice_get image.functions f) (λ entry. entry.inner ≡ 1)) → CallsInner image p
calls_from image None h = tt
calls_from image (Some (Call f)) h = h f refl
calls_from image (Some operation) h = tt

operation_is : (o : Option Instr) (i : Instr) → o ≡ Some i → option_and_then operation_of o ≡ operation_of i
operation_is o i e = rw e refl

fits_from : (image : Image) (o : Option ℕ) (i : Instr) → ((s : ℕ) → o ≡ Some s → OpenFits image (Some s) i) → (o ≡ None → OpenFits image None i) → OpenFits image o i
fits_from image None i some none = none refl
fits_from image (Some s) i some none = some s refl

pub parts_from : (image : Image) → HasOpenRegions image → RegionParts image
parts_from image r = record {
  starts = r.starts;
  each = λ at. some_each (PlaceHolds image at) (slice_get image.code at) (λ i is. (
    fits_from image (open_at image.code at) i
        (λ s e. (λ op. r.in_block at s e (inl (has_some (λ j. j.op ≡ 24) (slice_get image.code at) i is op)), λ op. r.in_block at s e (inr (inl (has_some (λ j. j.op ≡ 44) (slice_get image.code at) i is op))), λ op. r.in_block at s e (inr (inr (has_some (λ j. j.op ≡ 43) (slice_get image.code at) i is op))), calls_from image (operation_of i) (λ f call. r.block_calls at s f e (operation_is (slice_get image.code at) i is ∙ call))))
        (λ e. (λ op. (let w = r.closed.joins at (op_of_has (slice_get image.code at) 45 (has_some (λ j. j.op ≡ 45) (slice_get image.code at) i is op)) in none_some w.0 (open_at image.code at) e w.1), λ op. (let w = r.master_slots at (has_some (λ j. j.op ≡ 29) (slice_get image.code at) i is op) in none_some w.0 (open_at image.code at) e w.1))),
    λ either. r.jumps at i.imm (has_some (λ j. ((j.op ≡ 20) ⊎ (j.op ≡ 21) ⊎ (j.op ≡ 22)) × (j.imm ≡ i.imm)) (slice_get image.code at) i is (either, refl)),
  ));
  functions = λ f lt. record {
    inner = rw (slice_get-get_or image.functions f no_function lt) (r.inner f no_function lt);
    ends = elim (r.ends f lt) [ inl h ↦ inl (op_of_has (slice_get image.code (end_of image f - 1)) 20 h) | inr h ↦ inr (op_of_has (slice_get image.code (end_of image f - 1)) 24 h) ];
    closed = r.closed.starts f lt;
    body = λ inner at from to. (let inside : IsInInner image at = (f, (lt, from, to), inner_has (slice_get image.functions f) inner) in some_each (InnerHolds image) (slice_get image.code at) (λ i is. (λ op. r.in_inner at inside (inl (has_some (λ j. j.op ≡ 44) (slice_get image.code at) i is op)), λ op. r.in_inner at inside (inr (has_some (λ j. j.op ≡ 43) (slice_get image.code at) i is op)), calls_from image (operation_of i) (λ g call. r.inner_calls at g inside (operation_is (slice_get image.code at) i is ∙ call)))));
  };
  ends = r.closed.ends;
}

pub regions_from_parts : (image : Image) → RegionParts image ↔ HasRegions image
regions_from_parts image = (λ p. regions_hold image (parts_hold image p), λ r. parts_from image (open_regions_hold image r))
