-- Where a unit of a valid image stands, kept wherever it goes.
use Rattle.std.proofs.Common.{◌≡◌, ◌≢◌, refl, sym, ◌∙◌, ap, subst, ℕ, suc, ◌+◌, ◌-◌, ◌<◌, ◌≤◌, List, [], ◌∷◌, ◌++◌, length, take, slice_index, slice_set, ◌⊎◌, inl, inr, arith}
use Rattle.std.proofs.lemmas.Bool.{cases_lt}
use Rattle.std.proofs.lemmas.Grind.{get_or_default_zero}
use Rattle.std.proofs.lemmas.List.{length-set}
use Rattle.std.specs.declared.option.Option.TheVariants.{Some}
use Rattle.xmt_isa.specs.declared.image.Image.{Image}
use Rattle.xmt_isa.specs.declared.operation.Operation.{Operation}
use Rattle.xmt_isa.specs.declared.operation.Operation.TheVariants.{Call}
use Rattle.xmt_isa.specs.declared.unit.Unit.{Unit}
use Rattle.xmt_isa.specs.declared.unit.Start.{Start}
use Rattle.xmt_isa.specs.Image.{operation_at, start_of, IsIn}
use Rattle.xmt_isa.specs.Targets.{IsSameFunction}
use Rattle.xmt_isa.specs.Regions.{IsBlock, IsInside}
use Rattle.xmt_isa.specs.Flow.{LeadsTo}
use Rattle.xmt_isa.specs.Valid.{IsValid}
use Rattle.xmt_isa.specs.Fits.{IsBehindCall, IsInBlockOf, IsPlaced}
use Rattle.image_loader.specs.Nesting.{IsNested}
use Rattle.image_loader.proofs.Nesting.{valid_nests}
use Rattle.machine_places.proofs.Places.{Outside, sound_at, outside_leads, inside_leads}
use Rattle.machine_places.proofs.Goes.{Goes, leads, calls, returns}
use Rattle.unit_steps.proofs.Positions.{line, line-below, line-top, line-length, set_same, set_other}
use Rattle.unit_steps.proofs.Functions.{in_code}

-- ---- positions by their numbers

-- where a unit with this number stands: place by place from the outermost one to the next instruction
pub record Places (image : Image) (start : Start) (number depth : ℕ) (place : ℕ → ℕ) : Type 0 where
  pub inside : (i : ℕ) → i ≤ depth → place i < length image.code
  pub returns : (i : ℕ) → i < depth → IsBehindCall image (place i) (place (suc i))
  pub serial : number ≡ 0 → IsIn image image.entry (place 0)
  pub outside : number ≡ 0 → (i : ℕ) → i ≤ depth → Outside image (place i)
  pub virtual : number ≢ 0 → IsInBlockOf image start (place 0)

-- all that the next instruction of a unit with this number may move by
pub record MovesTo (image : Image) (number at to : ℕ) : Type 0 where
  pub inside : to < length image.code
  pub function : IsSameFunction image at to
  pub outside : number ≡ 0 → Outside image at → Outside image to
  pub block : number ≢ 0 → (spawn join : ℕ) → IsBlock image spawn join → IsInside spawn join at → IsInside spawn join to

-- a number up to another is below it or is it
at_most : (i n : ℕ) → i ≤ n → (i < n) ⊎ (i ≡ n)
at_most i n less = elim (cases_lt i n) [ inl below ↦ inl below | inr above ↦ inr (omega (arith, less, above)) ]

module _ (image : Image) (start : Start) (number : ℕ) where
  -- where all positions are the same
  same_places : (depth : ℕ) (old new : ℕ → ℕ) → ((i : ℕ) → i ≤ depth → new i ≡ old i) → Places image start number depth old → Places image start number depth new
  same_places depth old new same p = record {
    inside = λ i less. subst (λ n. n < length image.code) (sym (same i less)) (p.inside i less);
    returns = λ i less. subst (λ n. IsBehindCall image n (new (suc i))) (sym (same i (omega (arith, less)))) (subst (λ n. IsBehindCall image (old i) n) (sym (same (suc i) (omega (arith, less)))) (p.returns i less));
    serial = λ is. subst (IsIn image image.entry) (sym (same 0 (omega arith))) (p.serial is);
    outside = λ is i less. subst (Outside image) (sym (same i less)) (p.outside is i less);
    virtual = λ is. subst (IsInBlockOf image start) (sym (same 0 (omega arith))) (p.virtual is);
  }

  -- without the last position
  shorter : (depth : ℕ) (place : ℕ → ℕ) → Places image start number (suc depth) place → Places image start number depth place
  shorter depth place p = record {
    inside = λ i less. p.inside i (omega (arith, less));
    returns = λ i less. p.returns i (omega (arith, less));
    serial = p.serial;
    outside = λ is i less. p.outside is i (omega (arith, less));
    virtual = p.virtual;
  }

  -- with one more position, in a function that was called
  longer : (depth : ℕ) (place : ℕ → ℕ) → Places image start number depth place → IsBehindCall image (place depth) (place (suc depth)) → place (suc depth) < length image.code → Outside image (place (suc depth)) → Places image start number (suc depth) place
  longer depth place p behind inside outside = record {
    inside = λ i less. elim (at_most i (suc depth) less) [
      | inl below ↦ p.inside i (omega (arith, below))
      | inr same ↦ subst (λ n. place n < length image.code) (sym same) inside
    ];
    returns = λ i less. elim (at_most i depth (omega (arith, less))) [
      | inl below ↦ p.returns i below
      | inr same ↦ subst (λ n. IsBehindCall image (place n) (place (suc n))) (sym same) behind
    ];
    serial = p.serial;
    outside = λ is i less. elim (at_most i (suc depth) less) [
      | inl below ↦ p.outside is i (omega (arith, below))
      | inr same ↦ subst (λ n. Outside image (place n)) (sym same) outside
    ];
    virtual = p.virtual;
  }

  -- from one instruction to another of the same function, or of the same block
  behind_same : (back inside to : ℕ) → IsSameFunction image inside to → IsBehindCall image back inside → IsBehindCall image back to
  behind_same back inside to same b = record { call = b.call; behind = b.behind; function = b.function; calls = b.calls; within = same b.function b.within }

  block_same : (at to : ℕ) → ((spawn join : ℕ) → IsBlock image spawn join → IsInside spawn join at → IsInside spawn join to) → IsInBlockOf image start at → IsInBlockOf image start to
  block_same at to same b = record { spawn = b.spawn; join = b.join; is_block = b.is_block; begins = b.begins; inside = same b.spawn b.join b.is_block b.inside }

  -- with another next instruction
  moved : (depth : ℕ) (old new : ℕ → ℕ) → ((i : ℕ) → i < depth → new i ≡ old i) → MovesTo image number (old depth) (new depth) → Places image start number depth old → Places image start number depth new
  moved depth old new same to p = record {
    inside = λ i less. elim (at_most i depth less) [
      | inl below ↦ subst (λ n. n < length image.code) (sym (same i below)) (p.inside i less)
      | inr last ↦ subst (λ n. new n < length image.code) (sym last) to.inside
    ];
    returns = λ i less. subst (λ n. IsBehindCall image n (new (suc i))) (sym (same i less)) (elim (at_most (suc i) depth (omega (arith, less))) [
      | inl below ↦ subst (λ n. IsBehindCall image (old i) n) (sym (same (suc i) below)) (p.returns i less)
      | inr last ↦ behind_same (old i) (old (suc i)) (new (suc i)) (subst (λ n. IsSameFunction image (old n) (new n)) (sym last) to.function) (p.returns i less)
    ]);
    serial = λ is. elim (at_most 0 depth (omega arith)) [
      | inl below ↦ subst (IsIn image image.entry) (sym (same 0 below)) (p.serial is)
      | inr last ↦ subst (λ n. IsSameFunction image (old n) (new n)) (sym last) to.function image.entry (p.serial is)
    ];
    outside = λ is i less. elim (at_most i depth less) [
      | inl below ↦ subst (Outside image) (sym (same i below)) (p.outside is i less)
      | inr last ↦ subst (λ n. Outside image (new n)) (sym last) (to.outside is (p.outside is depth (omega arith)))
    ];
    virtual = λ is. elim (at_most 0 depth (omega arith)) [
      | inl below ↦ subst (IsInBlockOf image start) (sym (same 0 below)) (p.virtual is)
      | inr last ↦ subst (λ n. IsInBlockOf image start (old n) → IsInBlockOf image start (new n)) (sym last) (block_same (old depth) (new depth) (to.block is)) (p.virtual is)
    ];
  }

-- ---- and those of a unit

abbrev pub PlacesOf : Image → Start → (number depth : ℕ) → List ℕ → (at : ℕ) → Type 0
PlacesOf image start number depth back at = Places image start number depth (line depth back at)

-- the positions of a unit as its place, and back
pub placed_places : (image : Image) (start : Start) (u : Unit) → u.depth ≤ length u.back → IsPlaced image start u → PlacesOf image start u.number u.depth u.back u.at
placed_places image start u room p =
    let long : length (take u.depth u.back ++ (u.at ∷ [])) ≡ suc u.depth = line-length u.depth u.back u.at room in
    record {
      inside = λ i less. p.inside i 0 (omega (arith, long, less));
      returns = p.returns;
      serial = λ is. (p.serial is).0;
      outside = λ is i less. (p.serial is).1 i 0 (omega (arith, long, less));
      virtual = p.virtual;
    }

pub places_placed : (image : Image) (start : Start) (u : Unit) → u.depth ≤ length u.back → PlacesOf image start u.number u.depth u.back u.at → IsPlaced image start u
places_placed image start u room p =
    let long : length (take u.depth u.back ++ (u.at ∷ [])) ≡ suc u.depth = line-length u.depth u.back u.at room in
    record {
      inside = λ i d less. subst (λ n. n < length image.code) (sym (get_or_default_zero (take u.depth u.back ++ (u.at ∷ [])) i d less)) (p.inside i (omega (arith, long, less)));
      returns = p.returns;
      serial = λ is. (p.serial is, λ i d less. subst (Outside image) (sym (get_or_default_zero (take u.depth u.back ++ (u.at ∷ [])) i d less)) (p.outside is i (omega (arith, long, less))));
      virtual = p.virtual;
    }

-- ---- wherever it goes

module _ (image : Image) (valid : IsValid image) (start : Start) (number : ℕ) where
  nested : IsNested image
  nested = valid_nests image valid

  -- where an instruction leads
  pub leads_moves : (at to : ℕ) (o : Operation) → operation_at image at ≡ Some o → LeadsTo at to o → at < length image.code → MovesTo image number at to
  leads_moves at to o is way inside =
      let same : IsSameFunction image at to = (sound_at image valid at o is).1.same_function to way in
      let holds = nested.holds at inside in
      record {
        inside = in_code image valid.regions.starts holds.0 to (same holds.0 holds.1);
        function = same;
        outside = λ zero. outside_leads image valid at to o is way;
        block = λ other. inside_leads image valid at to o is way;
      }

  -- at another instruction in the same frame
  pub moved_places : (depth : ℕ) (back : List ℕ) (at to : ℕ) → depth ≤ length back → MovesTo image number at to → PlacesOf image start number depth back at → PlacesOf image start number depth back to
  moved_places depth back at to room moves p =
      let moves_line : MovesTo image number (line depth back at depth) (line depth back to depth) = subst (λ n. MovesTo image number n (line depth back to depth)) (sym (line-top depth back at room)) (subst (MovesTo image number at) (sym (line-top depth back to room)) moves) in
      moved image start number depth (line depth back at) (line depth back to) (λ i less. line-below depth back to i room less ∙ sym (line-below depth back at i room less)) moves_line p

  -- in a function that it calls
  called_places : (depth : ℕ) (back : List ℕ) (at f : ℕ) → depth < length back → operation_at image at ≡ Some (Call f) → PlacesOf image start number depth back at → PlacesOf image start number (suc depth) (slice_set back depth (at + 1)) (start_of image f)
  called_places depth back at f room is p =
      let behind : List ℕ = slice_set back depth (at + 1) in
      let to : ℕ = start_of image f in
      let long : length behind ≡ length back = length-set back depth (at + 1) in
      let fits : f < length image.functions = (sound_at image valid at (Call f) is).1.target in
      let entered = nested.call f fits in
      let here : line depth back at depth ≡ at = line-top depth back at (omega (arith, room)) in
      let inside : at < length image.code = subst (λ n. n < length image.code) here (p.inside depth (omega arith)) in
      let last : line (suc depth) behind to depth ≡ at + 1 = line-below (suc depth) behind to depth (omega (arith, long, room)) (omega arith) ∙ set_same back depth (at + 1) room in
      let top : line (suc depth) behind to (suc depth) ≡ to = line-top (suc depth) behind to (omega (arith, long, room)) in
      let moves : MovesTo image number (line depth back at depth) (line (suc depth) behind to depth) = subst (λ n. MovesTo image number n (line (suc depth) behind to depth)) (sym here) (subst (MovesTo image number at) (sym last) (leads_moves at (at + 1) (Call f) is refl inside)) in
      let first : Places image start number depth (line (suc depth) behind to) = moved image start number depth (line depth back at) (line (suc depth) behind to) (λ i less. line-below (suc depth) behind to i (omega (arith, long, room)) (omega (arith, less)) ∙ set_other back depth (at + 1) i (λ e. omega (arith, e, less)) ∙ sym (line-below depth back at i (omega (arith, room)) less)) moves p in
      longer image start number depth (line (suc depth) behind to) first
      (subst (λ n. IsBehindCall image n (line (suc depth) behind to (suc depth))) (sym last) (subst (IsBehindCall image (at + 1)) (sym top) (record { call = at; behind = refl; function = f; calls = is; within = entered.0 })))
      (subst (λ n. n < length image.code) (sym top) (in_code image valid.regions.starts f to entered.0))
      (subst (Outside image) (sym top) entered.1)

  -- and behind a call
  returned_places : (depth : ℕ) (back : List ℕ) (at : ℕ) → depth < length back → PlacesOf image start number (suc depth) back at → PlacesOf image start number depth back (slice_index back depth)
  returned_places depth back at room p =
      same_places image start number depth (line (suc depth) back at) (line depth back (slice_index back depth))
      (λ i less. sym_at i (at_most i depth less) (line-below (suc depth) back at i (omega (arith, room)) (omega (arith, less))))
      (shorter image start number depth (line (suc depth) back at) p)
    where
      sym_at : (i : ℕ) → (i < depth) ⊎ (i ≡ depth) → line (suc depth) back at i ≡ slice_index back i → line depth back (slice_index back depth) i ≡ line (suc depth) back at i
      sym_at i (inl below) e = line-below depth back (slice_index back depth) i (omega (arith, room)) below ∙ sym e
      sym_at i (inr same) e = ap (line depth back (slice_index back depth)) same ∙ line-top depth back (slice_index back depth) (omega (arith, room)) ∙ ap (slice_index back) (sym same) ∙ sym e

  -- after an instruction that goes on
  goes_places : (u v : Unit) → length u.back ≡ 256 → u.depth ≤ 256 → Goes image u v → PlacesOf image start number u.depth u.back u.at → PlacesOf image start number v.depth v.back v.at
  goes_places u v long deep (leads o is way depth back) p =
      let here : line u.depth u.back u.at u.depth ≡ u.at = line-top u.depth u.back u.at (omega (arith, long, deep)) in
      let inside : u.at < length image.code = subst (λ n. n < length image.code) here (p.inside u.depth (omega arith)) in
      let next : PlacesOf image start number u.depth u.back v.at = moved_places u.depth u.back u.at v.at (omega (arith, long, deep)) (leads_moves u.at v.at o is way inside) p in
      subst (λ d. PlacesOf image start number d v.back v.at) (sym depth) (subst (λ b. PlacesOf image start number u.depth b v.at) (sym back) next)
  goes_places u v long deep (calls f is at depth back room) p =
      let next : PlacesOf image start number (suc u.depth) (slice_set u.back u.depth (u.at + 1)) (start_of image f) = called_places u.depth u.back u.at f (omega (arith, long, room)) is p in
      let same : v.depth ≡ suc u.depth = omega (arith, depth) in
      subst (λ d. PlacesOf image start number d v.back v.at) (sym same) (subst (λ b. PlacesOf image start number (suc u.depth) b v.at) (sym back) (subst (PlacesOf image start number (suc u.depth) (slice_set u.back u.depth (u.at + 1))) (sym at) next))
  goes_places u v long deep (returns later at depth back) p =
      let one : u.depth ≡ suc (u.depth - 1) = omega (arith, later) in
      let next : PlacesOf image start number (u.depth - 1) u.back (slice_index u.back (u.depth - 1)) = returned_places (u.depth - 1) u.back u.at (omega (arith, long, deep, later)) (subst (λ d. PlacesOf image start number d u.back u.at) one p) in
      subst (λ d. PlacesOf image start number d v.back v.at) (sym depth) (subst (λ b. PlacesOf image start number (u.depth - 1) b v.at) (sym back) (subst (PlacesOf image start number (u.depth - 1) u.back) (sym at) next))

-- the depth and the place of a unit after it
pub goes_depth : (image : Image) (u v : Unit) → u.depth ≤ 256 → Goes image u v → v.depth ≤ 256
goes_depth image u v deep (leads o is way depth back) = subst (λ n. n ≤ 256) (sym depth) deep
goes_depth image u v deep (calls f is at depth back room) = omega (arith, depth, room)
goes_depth image u v deep (returns later at depth back) = omega (arith, depth, deep)

pub goes_placed : (image : Image) → IsValid image → (start : Start) (u v : Unit) → length u.back ≡ 256 → length v.back ≡ 256 → u.depth ≤ 256 → v.number ≡ u.number → Goes image u v → IsPlaced image start u → IsPlaced image start v
goes_placed image valid start u v long long_after deep number goes p =
    let after : v.depth ≤ 256 = goes_depth image u v deep goes in
    places_placed image start v (omega (arith, long_after, after)) (subst (λ n. PlacesOf image start n v.depth v.back v.at) (sym number) (goes_places image valid start u.number u v long deep goes (placed_places image start u (omega (arith, long, deep)) p)))
