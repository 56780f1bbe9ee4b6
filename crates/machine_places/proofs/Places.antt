-- Where the instructions of a valid image stand.
use Rattle.std.proofs.Common.{◌≡◌, refl, sym, ◌∙◌, ap, subst, ℕ, suc, zero, ◌+◌, ◌-◌, ◌<◌, ◌≤◌, ◌==◌, nat_lt, Bool, true, false, List, [], ◌∷◌, map, length, drop, get_or, Option, Some, None, slice_get, slice_index, arith, inr}
use Rattle.std.proofs.lemmas.Bool.Decides.{nat_tests}
use Rattle.std.specs.Option.{IsSomeAnd, option_and_then, option_map_or}
use Rattle.std.proofs.lemmas.List.{length-map}
use Rattle.std.proofs.lemmas.Option.{get_or_from_slice_get, slice_get_within, slice_get_past, slice_get-get_or}
use Rattle.std.proofs.lemmas.List.Elements.{All-get_or}
use Rattle.std.specs.List.{position_or_len}
use Rattle.xmt_isa.specs.declared.image.Image.{Image}
use Rattle.xmt_isa.specs.declared.image.Instr.{Instr}
use Rattle.xmt_isa.specs.declared.image.FunctionEntry.{FunctionEntry}
use Rattle.xmt_isa.specs.declared.operation.Operation.{Operation}
use Rattle.xmt_isa.specs.declared.operation.Operation.TheVariants.{Return, Spawn, Join}
use Rattle.xmt_isa.specs.Operation.{operation_of}
use Rattle.xmt_isa.specs.Image.{operation_at, start_of, end_of, IsIn, HasStarts}
use Rattle.xmt_isa.specs.Machine.{is_join, behind_join}
use Rattle.xmt_isa.specs.Regions.{HasOp, IsSpawn, IsJoin, IsReturn, IsBlock, IsInside, IsInBlock, IsInner, IsInInner}
use Rattle.xmt_isa.specs.Flow.{LeadsTo, IsSound}
use Rattle.xmt_isa.specs.Valid.{IsValid}
use Rattle.xmt_isa.proofs.Numbers.{number_of, number_is}
use Rattle.xmt_isa.proofs.Sound.{valid_sound}
use Rattle.interleaving.proofs.Interleave.{eq_of}
use Rattle.machine_places.proofs.Lists.{some_same}

-- ---- numbers of operations

-- the instruction at a place, by its meaning
instr_at : (image : Image) (at : ℕ) (o : Operation) → operation_at image at ≡ Some o → (i : Instr) × (slice_get image.code at ≡ Some i) × (operation_of i ≡ Some o)
instr_at image at o is = by_instr (slice_get image.code at) refl is
  where
    by_instr : (x : Option Instr) → slice_get image.code at ≡ x → option_and_then operation_of x ≡ Some o → (i : Instr) × (slice_get image.code at ≡ Some i) × (operation_of i ≡ Some o)
    by_instr None e h = cc
    by_instr (Some i) e h = (i, e, h)

op_at : (image : Image) (at : ℕ) (o : Operation) → operation_at image at ≡ Some o → HasOp image at (number_of o)
op_at image at o is = let r = instr_at image at o is in subst (λ x. IsSomeAnd x (λ i. i.op ≡ number_of o)) (sym r.1) (number_is r.0 o r.2)

pub spawn_op : (image : Image) (at a b mask : ℕ) → operation_at image at ≡ Some (Spawn a b mask) → IsSpawn image at
unfolding number_of
spawn_op image at a b mask is = op_at image at (Spawn a b mask) is

pub join_op : (image : Image) (at : ℕ) → operation_at image at ≡ Some Join → IsJoin image at
unfolding number_of
join_op image at is = op_at image at Join is

pub return_op : (image : Image) (at : ℕ) → operation_at image at ≡ Some Return → IsReturn image at
unfolding number_of
return_op image at is = op_at image at Return is

-- the instruction with a number
has_instr : (image : Image) (at n : ℕ) → HasOp image at n → (i : Instr) × (slice_get image.code at ≡ Some i) × (i.op ≡ n)
has_instr image at n has = by_instr (slice_get image.code at) refl has
  where
    by_instr : (x : Option Instr) → slice_get image.code at ≡ x → IsSomeAnd x (λ i. i.op ≡ n) → (i : Instr) × (slice_get image.code at ≡ Some i) × (i.op ≡ n)
    by_instr None e h = absurd h
    by_instr (Some i) e h = (i, e, h)

-- ---- where blocks lie

first_found : {X : Type 0} (p : X → Bool) (xs : List X) (i : ℕ) (x : X) → slice_get xs i ≡ Some x → p x ≡ true → (y : X) × (slice_get xs (position_or_len p xs) ≡ Some y) × (p y ≡ true)
first_found p [] i x at passes = let never : None ≡ Some x = at in cc
first_found {X} p (z ∷ xs) i x at passes = by_test (p z) refl i at (λ j h. first_found p xs j x h passes)
  where
    by_test : (b : Bool) → p z ≡ b → (i : ℕ) → slice_get (z ∷ xs) i ≡ Some x → ((j : ℕ) → slice_get xs j ≡ Some x → (y : X) × (slice_get xs (position_or_len p xs) ≡ Some y) × (p y ≡ true)) →
        (y : X) × (slice_get (z ∷ xs) (position_or_len p (z ∷ xs)) ≡ Some y) × (p y ≡ true)
    by_test true e i at go = (z, rw e refl, e)
    by_test false e zero at go = let same : z ≡ x = some_same z x at in let never : false ≡ true = sym e ∙ ap p same ∙ passes in cc
    by_test false e (suc j) at go = let r = go j at in (r.0, (let one : 1 + position_or_len p xs ≡ suc (position_or_len p xs) = omega arith in rw (e, one) r.1), r.2)

get-drop : {X : Type 0} (n : ℕ) (xs : List X) (i : ℕ) → slice_get (drop n xs) i ≡ slice_get xs (n + i)
get-drop zero xs i = let e : 0 + i ≡ i = omega arith in ap (slice_get xs) (sym e)
get-drop (suc n) [] i = refl
get-drop (suc n) (x ∷ xs) i = let e : suc n + i ≡ suc (n + i) = omega arith in get-drop n xs i ∙ ap (slice_get (x ∷ xs)) (sym e)

abbrev pub Outside : Image → ℕ → Type 0
Outside image at = IsInBlock image at → ⊥

two_ops : {A : Type 0} (image : Image) (at n k : ℕ) → HasOp image at n → HasOp image at k → (n ≡ k → ⊥) → A
two_ops image at n k first second differ = by_instr (slice_get image.code at) first second
  where
    by_instr : {A : Type 0} (x : Option Instr) → IsSomeAnd x (λ i. i.op ≡ n) → IsSomeAnd x (λ i. i.op ≡ k) → A
    by_instr None h g = absurd h
    by_instr (Some i) h g = absurd (differ (sym h ∙ g))

pub zero_outside : (image : Image) → Outside image 0
zero_outside image h = let before : h.0 < 0 = h.3.0 in omega (arith, before)

pub join_outside : (image : Image) (at : ℕ) → IsJoin image at → Outside image (at + 1)
join_outside image at joins h = by_test (h.0 == at) refl
  where
    by_test : (b : Bool) → (h.0 == at) ≡ b → ⊥
    by_test true e = two_ops image at 44 45 (subst (λ x. HasOp image x 44) (eq_of h.0 at e) h.2.spawns) joins (λ same. omega (arith, same))
    by_test false e =
        let above : h.0 < at + 1 = h.3.0 in
        let below : at + 1 ≤ h.1 = h.3.1 in
        h.2.between at (grind (arith, above, e)) (omega (arith, below)) (inr joins)

pub behind_outside : (image : Image) (spawn join : ℕ) → IsBlock image spawn join → Outside image (behind_join image (spawn + 1))
behind_outside image spawn join block =
    let order : spawn < join = block.order in
    let last = has_instr image join 45 block.joins in
    let place : spawn + 1 + (join - (spawn + 1)) ≡ join = omega (arith, order) in
    let found = first_found is_join (drop (spawn + 1) image.code) (join - (spawn + 1)) last.0 (get-drop (spawn + 1) image.code (join - (spawn + 1)) ∙ ap (slice_get image.code) place ∙ last.1) (ap (λ n. n == 45) last.2) in
    let k : ℕ = position_or_len is_join (drop (spawn + 1) image.code) in
    let inside : k < length (drop (spawn + 1) image.code) = slice_get_within (drop (spawn + 1) image.code) k found.0 found.1 in
    let test : nat_lt k (length (drop (spawn + 1) image.code)) ≡ true = grind (arith, nat_tests, inside) in
    let here : slice_get image.code (spawn + 1 + k) ≡ Some found.0 = sym (get-drop (spawn + 1) image.code k) ∙ found.1 in
    let is_45 : found.0.op ≡ 45 = eq_of found.0.op 45 found.2 in
    let has : IsJoin image (spawn + 1 + k) = subst (λ x. IsSomeAnd x (λ i. i.op ≡ 45)) (sym here) is_45 in
    let behind : behind_join image (spawn + 1) ≡ spawn + 1 + k + 1 = rw test (omega arith) in
    subst (λ at. Outside image at) (sym behind) (join_outside image (spawn + 1 + k) has)

-- ---- functions

searches : (fs : List FunctionEntry) (e : FunctionEntry) (len at : ℕ) → e.start ≤ at → at < len → (f : ℕ) × (f < length (e ∷ fs)) × (option_map_or (λ (x : FunctionEntry). x.start) (slice_get (e ∷ fs) f) 0 ≤ at) × (at < option_map_or (λ (x : FunctionEntry). x.start) (slice_get (e ∷ fs) (f + 1)) len)
searches [] e len at from below = (0, omega arith, from, below)
searches (d ∷ fs) e len at from below = by_test (nat_lt at d.start) refl (λ past. searches fs d len at past below)
  where
    by_test : (b : Bool) → nat_lt at d.start ≡ b → (d.start ≤ at → (f : ℕ) × (f < length (d ∷ fs)) × (option_map_or (λ (x : FunctionEntry). x.start) (slice_get (d ∷ fs) f) 0 ≤ at) × (at < option_map_or (λ (x : FunctionEntry). x.start) (slice_get (d ∷ fs) (f + 1)) len)) →
        (f : ℕ) × (f < length (e ∷ (d ∷ fs))) × (option_map_or (λ (x : FunctionEntry). x.start) (slice_get (e ∷ (d ∷ fs)) f) 0 ≤ at) × (at < option_map_or (λ (x : FunctionEntry). x.start) (slice_get (e ∷ (d ∷ fs)) (f + 1)) len)
    by_test true t go = (0, omega arith, from, (let below_d : at < d.start = grind (arith, nat_tests, t) in below_d))
    by_test false t go =
        let r = go (grind (arith, nat_tests, t)) in
        let inside : r.0 < length (d ∷ fs) = r.1 in
        let more : suc r.0 + 1 ≡ suc (r.0 + 1) = omega arith in
        (suc r.0, omega (arith, inside), r.2, subst (λ k. at < option_map_or (λ (x : FunctionEntry). x.start) (slice_get (e ∷ (d ∷ fs)) k) len) (sym more) r.3)

-- each instruction lies in a function
pub function_of : (image : Image) (at : ℕ) → HasStarts image → 1 ≤ length image.functions → at < length image.code → (f : ℕ) × IsIn image f at
function_of image at starts some inside = by_functions image.functions refl
  where
    by_functions : (fs : List FunctionEntry) → image.functions ≡ fs → (f : ℕ) × IsIn image f at
    by_functions [] e = absurd (let none : length image.functions ≡ 0 = ap length e in omega (arith, none, some))
    by_functions (e ∷ fs) is =
        let first : e.start ≡ 0 = ap (λ xs. option_map_or (λ (x : FunctionEntry). x.start) (slice_get xs 0) 0) (sym is) ∙ starts.first in
        let r = searches fs e (length image.code) at (omega (arith, first)) inside in
        (r.0, (subst (λ xs. r.0 < length xs) (sym is) r.1, subst (λ xs. option_map_or (λ (x : FunctionEntry). x.start) (slice_get xs r.0) 0 ≤ at) (sym is) r.2, subst (λ xs. at < option_map_or (λ (x : FunctionEntry). x.start) (slice_get xs (r.0 + 1)) (length image.code)) (sym is) r.3))

starts-map : (fs : List FunctionEntry) (k : ℕ) → slice_index (map (λ f. f.start) fs) k ≡ option_map_or (λ (x : FunctionEntry). x.start) (slice_get fs k) 0
starts-map [] k = refl
starts-map (f ∷ fs) zero = refl
starts-map (f ∷ fs) (suc k) = starts-map fs k

some_there : (fs : List FunctionEntry) (k : ℕ) → k < length fs → (f : FunctionEntry) × (slice_get fs k ≡ Some f)
some_there fs k inside = (get_or fs k no_function, slice_get-get_or fs k no_function inside)
  where
    no_function : FunctionEntry
    no_function = record { start = 0; slots = 0; inner = 0 }

module _ (image : Image) (starts : HasStarts image) where
  rise_one : (k : ℕ) → k + 1 < length image.functions → start_of image k < start_of image (k + 1)
  rise_one k inside =
      let inside_map : k + 1 < length (map (λ (f : FunctionEntry). f.start) image.functions) = subst (λ n. k + 1 < n) (sym (length-map image.functions (λ (f : FunctionEntry). f.start))) inside in
      subst (λ n. n < start_of image (k + 1)) (starts-map image.functions k) (subst (λ n. slice_index (map (λ (f : FunctionEntry). f.start) image.functions) k < n) (starts-map image.functions (k + 1)) (starts.rising k inside_map))

  rise : (i d : ℕ) → i + d < length image.functions → start_of image i ≤ start_of image (i + d)
  rise i zero inside = let e : i + 0 ≡ i = omega arith in subst (λ n. start_of image i ≤ start_of image n) (sym e) (omega arith)
  rise i (suc d) inside =
      let before : start_of image i ≤ start_of image (i + d) = rise i d (omega (arith, inside)) in
      let one : start_of image (i + d) < start_of image (i + d + 1) = rise_one (i + d) (omega (arith, inside)) in
      let e : i + d + 1 ≡ i + suc d = omega arith in
      subst (λ n. start_of image i ≤ start_of image n) e (omega (arith, before, one))

  end_is : (f : ℕ) → f + 1 < length image.functions → end_of image f ≡ start_of image (f + 1)
  end_is f inside = let r = some_there image.functions (f + 1) inside in ap (λ o. option_map_or (λ (x : FunctionEntry). x.start) o (length image.code)) r.1 ∙ sym (ap (λ o. option_map_or (λ (x : FunctionEntry). x.start) o 0) r.1)

  end_last : (f : ℕ) → length image.functions ≤ f + 1 → end_of image f ≡ length image.code
  end_last f past = ap (λ o. option_map_or (λ (x : FunctionEntry). x.start) o (length image.code)) (slice_get_past image.functions (f + 1) past)

  start_inside : (f : ℕ) → f < length image.functions → start_of image f < length image.code
  start_inside f inside =
      let r = some_there image.functions f inside in
      let at : get_or image.functions f r.0 ≡ r.0 = get_or_from_slice_get image.functions f r.0 r.0 r.1 in
      let below : r.0.start < length image.code = subst (λ (e : FunctionEntry). e.start < length image.code) at (All-get_or (λ e. e.start < length image.code) image.functions f r.0 inside starts.inside) in
      subst (λ n. n < length image.code) (sym (ap (λ o. option_map_or (λ (x : FunctionEntry). x.start) o 0) r.1)) below

  pub start_is_in : (f : ℕ) → f < length image.functions → IsIn image f (start_of image f)
  start_is_in f inside = (inside, omega arith, by_test (nat_lt (f + 1) (length image.functions)) refl)
    where
      by_test : (b : Bool) → nat_lt (f + 1) (length image.functions) ≡ b → start_of image f < end_of image f
      by_test true e = let more : f + 1 < length image.functions = grind (arith, nat_tests, e) in subst (λ n. start_of image f < n) (sym (end_is f more)) (rise_one f more)
      by_test false e = let past : length image.functions ≤ f + 1 = grind (arith, nat_tests, e) in subst (λ n. start_of image f < n) (sym (end_last f past)) (start_inside f inside)

  pub start_outside : 1 ≤ length image.functions → (f : ℕ) → Outside image (start_of image f)
  start_outside some f h = by_test (nat_lt f (length image.functions)) refl
    where
      op_inside : (at n : ℕ) → HasOp image at n → at < length image.code
      op_inside at n has = let r = has_instr image at n has in slice_get_within image.code at r.0 r.1

      by_test : (b : Bool) → nat_lt f (length image.functions) ≡ b → ⊥
      by_test false e =
          let past : length image.functions ≤ f = grind (arith, nat_tests, e) in
          let at_zero : start_of image f ≡ 0 = ap (λ o. option_map_or (λ (x : FunctionEntry). x.start) o 0) (slice_get_past image.functions f past) in
          let above : h.0 < start_of image f = h.3.0 in
          omega (arith, at_zero, above)
      by_test true e =
          let inside : f < length image.functions = grind (arith, nat_tests, e) in
          let r = function_of image h.0 starts some (op_inside h.0 44 h.2.spawns) in
          let joined = h.2.function r.0 r.1 in
          let above : h.0 < start_of image f = h.3.0 in
          let below : start_of image f ≤ h.1 = h.3.1 in
          let from : start_of image r.0 ≤ h.0 = r.1.1 in
          let to : h.1 < end_of image r.0 = joined.2 in
          by_order r.0 (nat_lt r.0 f) refl r.1.0 inside above below from to
        where
          by_order : (g : ℕ) (b : Bool) → nat_lt g f ≡ b → g < length image.functions → f < length image.functions → h.0 < start_of image f → start_of image f ≤ h.1 → start_of image g ≤ h.0 → h.1 < end_of image g → ⊥
          by_order g true e within inside above below from to =
              let less : g < f = grind (arith, nat_tests, e) in
              let ends : end_of image g ≡ start_of image (g + 1) = end_is g (omega (arith, less, inside)) in
              let place : g + 1 + (f - (g + 1)) ≡ f = omega (arith, less) in
              let mono : start_of image (g + 1) ≤ start_of image f = subst (λ n. start_of image (g + 1) ≤ start_of image n) place (rise (g + 1) (f - (g + 1)) (omega (arith, less, inside))) in
              omega (arith, ends, mono, below, to)
          by_order g false e within inside above below from to =
              let more : f ≤ g = grind (arith, nat_tests, e) in
              let place : f + (g - f) ≡ g = omega (arith, more) in
              let mono : start_of image f ≤ start_of image g = subst (λ n. start_of image f ≤ start_of image n) place (rise f (g - f) (omega (arith, more, within))) in
              omega (arith, mono, above, from)

-- ---- where an instruction leads

module _ (image : Image) (valid : IsValid image) where
  pub sound_at : (at : ℕ) (o : Operation) → operation_at image at ≡ Some o → (i : Instr) × IsSound image at i o
  sound_at at o is =
      let r = instr_at image at o is in
      let s = valid_sound image valid at r.0 r.1 in
      (r.0, subst (IsSound image at r.0) (some_same s.0 o (sym s.1 ∙ r.2)) s.2)

  module _ (at to : ℕ) (o : Operation) (is : operation_at image at ≡ Some o) (leads : LeadsTo at to o) where
    pub outside_leads : Outside image at → Outside image to
    outside_leads outside h = outside (h.0, h.1, h.2, ((sound_at at o is).1.same_block to leads h.0 h.1 h.2).1 h.3)

    pub inside_leads : (spawn join : ℕ) → IsBlock image spawn join → IsInside spawn join at → IsInside spawn join to
    inside_leads spawn join block inside = ((sound_at at o is).1.same_block to leads spawn join block).0 inside

    pub inner_leads : IsInInner image at → IsInInner image to
    inner_leads inner = (inner.0, (sound_at at o is).1.same_function to leads inner.0 inner.1, inner.2)

  -- what a block or an inner function calls
  pub inner_called : (f : ℕ) → IsInner image f → IsInInner image (start_of image f)
  inner_called f inner = (f, start_is_in image valid.regions.starts f (by_entry (slice_get image.functions f) refl inner), inner)
    where
      by_entry : (x : Option FunctionEntry) → slice_get image.functions f ≡ x → IsSomeAnd x (λ entry. entry.inner ≡ 1) → f < length image.functions
      by_entry None e h = absurd h
      by_entry (Some entry) e h = slice_get_within image.functions f entry e
