-- The code of quads that reach shared places.
use Rattle.std.proofs.Common.{◌≡◌, refl, ◌∙◌, ap, arith, ℕ, suc, ◌+◌, ◌*◌, ◌<◌, ◌≤◌, List, [], ◌∷◌, ◌++◌, length, Some, None, true, false}
use Rattle.std.specs.Prelude.{if◌then◌else◌, nat_lt, nat_le, Bool, ⊤}
use Rattle.xmt_base.specs.declared.values.TrapKind.TheVariants.{Address, PsIncrement}
use Rattle.xmt_base.specs.Action as action
use Rattle.xmt_isa.specs.declared.image.Image.{Image}
use Rattle.xmt_isa.specs.declared.image.Instr.{Instr}
use Rattle.xmt_isa.specs.declared.operation.Operation.TheVariants as does
use Rattle.xmt_isa.specs.declared.operation.Location.{Location}
use Rattle.xmt_isa.specs.declared.operation.Location.TheVariants as location
use Rattle.xmt_isa.specs.declared.unit.Start.{Start}
use Rattle.xmt_isa.specs.declared.unit.Unit.{Unit as MachineUnit}
use Rattle.xmt_isa.specs.declared.unit.Request.TheVariants as request
use Rattle.xmt_isa.specs.declared.unit.Next.TheVariants as does_next
use Rattle.xmt_isa.specs.Operation.{operation_of}
use Rattle.xmt_isa.specs.Places.{shared_at}
use Rattle.xmt_isa.specs.Step.{reg, goes_on, sets, more, word_of, access, adds, outer_depth}
use Rattle.xmt_quads.specs.declared.code.Operand.{Operand}
use Rattle.xmt_quads.specs.declared.code.Where.{Where}
use Rattle.xmt_quads.specs.declared.code.Where.TheVariants.{Word, Element, Outer, PsReg}
use Rattle.xmt_quads.specs.declared.code.Quad.{Quad}
use Rattle.xmt_quads.specs.declared.code.Quad.TheVariants as quad
use Rattle.xmt_quads.specs.declared.code.QuadProgram.{QuadProgram}
use Rattle.xmt_quads.specs.Meaning.{QuadThread, Traps, operand_value, with_register, with_next, acts, is_inside, may_increment, shared_place, line_of}
use Rattle.xmt_quads.specs.Live.{is_register, is_index, reads}
use Rattle.xmt_quads.specs.WellFormed.{PlaceExists}
use Rattle.quad_images.specs.Instructions.{instr, load_code, store_code, add_code, index_code, quad_code, size}
use Rattle.quad_image_law.proofs.Keeps.{with_found}
use Rattle.quad_image_law.proofs.Units.{running, actor_at, operation_is, data_word, register_word, outer_word}
use Rattle.quad_image_places.proofs.Quiet.{length_of}
use Rattle.quad_image_places.proofs.Laid.{HasCode, HasSlots, Known, Laid, place, own_in, names_exist}
use Rattle.quad_image_law.proofs.Frames.{leads_next}
use Rattle.quad_image_law.proofs.Fits.{memory_of, Fits, fits_moved, depth_is, quad_is}
use Rattle.quad_image_law.proofs.Steps.{KeepsTo, AllKeep, keep_at, richer, common_act, trapped, keep_alone}
use Rattle.quad_image_law.proofs.Plain.{equal_to_itself, or_left, or_right, set_to, fetched, P, Here, code_of, behind, Kept}

-- where an instruction finds the place, with the index in register 4
abbrev location_of : Where → Location
location_of (Word w) = location.Word w
location_of (Element base index) = location.Indexed 4 base
location_of (Outer n) = location.Outer n
location_of (PsReg r) = location.Register r

load_is : (place : Where) → operation_of (load_code place) ≡ Some (does.Load 3 (location_of place))
load_is (Word w) = refl
load_is (Element base index) = refl
load_is (Outer n) = refl
load_is (PsReg r) = refl

store_is : (place : Where) → operation_of (store_code place) ≡ Some (does.Store 3 (location_of place))
store_is (Word w) = refl
store_is (Element base index) = refl
store_is (Outer n) = refl
store_is (PsReg r) = refl

add_is : (place : Where) → operation_of (add_code place) ≡ Some (does.Add 3 (location_of place))
add_is (Word w) = refl
add_is (Element base index) = refl
add_is (Outer n) = refl
add_is (PsReg r) = refl

-- an add to a word that is there
adds_there : (place : Where) (word v : ℕ) → adds (Some word) (location_of place) v ≡ (if may_increment place v then does_next.Ask (request.Add word v) else does_next.Trap PsIncrement)
adds_there (Word w) word v = refl
adds_there (Element base index) word v = refl
adds_there (Outer n) word v = refl
adds_there (PsReg r) word v = by (nat_le v 1) refl
  where
    by : (b : Bool) → nat_le v 1 ≡ b → (if nat_lt 1 v then does_next.Trap PsIncrement else does_next.Ask (request.Add word v)) ≡ (if b then does_next.Ask (request.Add word v) else does_next.Trap PsIncrement)
    by true e = let other : nat_lt 1 v ≡ false = grind (arith, e) in ap (λ b. if b then does_next.Trap PsIncrement else does_next.Ask (request.Add word v)) other
    by false e = let other : nat_lt 1 v ≡ true = grind (arith, e) in ap (λ b. if b then does_next.Trap PsIncrement else does_next.Ask (request.Add word v)) other

module _ (program : QuadProgram) (slot : ℕ → ℕ → ℕ) (image : Image) (laid : Laid program slot image) (slots : (f : ℕ) (k : Known program f) → HasSlots (slot f) k.function.registers) (n : ℕ) (all : AllKeep program slot image slots n) (start : Start) (t : QuadThread) where
  -- the index of an element is in register 4
  abbrev IndexAt : MachineUnit → Where → Type 0
  IndexAt u (Element base index) = reg u 4 ≡ operand_value t.registers index
  IndexAt u place = ⊤

  -- ---- the word of a place

  record Reaches (u : MachineUnit) (at : ℕ) (place : Where) : Type 0 where
    word : ℕ
    is : word_of image start (running u at) (location_of place) ≡ Some word
    shared : shared_at image word ≡ shared_place program t place

  reaches : (u : MachineUnit) (at : ℕ) (place : Where) → Fits program slot start (memory_of u) t → IndexAt u place → PlaceExists program place → is_inside (length program.words) t.registers place ≡ true → Reaches u at place
  reaches u at (Word w) fits index there inside = let long = laid.words in record { word = 12 + w; is = refl; shared = data_word image w (omega (arith, long, there)) }
  reaches u at (Element base o) fits index there inside =
      let same : base + reg u 4 ≡ base + operand_value t.registers o = ap (λ v. base + v) index in
      let long = laid.words in
      let below : base + operand_value t.registers o < length program.words = grind (arith, inside) in
      let test : nat_lt (base + reg u 4) (length image.words) ≡ true = (let low : base + reg u 4 < length image.words = omega (arith, below, long, same) in grind (arith, low)) in
      record {
        word = 12 + (base + reg u 4);
        is = ap (λ b. if b then Some (12 + (base + reg u 4)) else None) test;
        shared = data_word image (base + reg u 4) (omega (arith, below, long, same)) ∙ ap action.Word same;
      }
  reaches u at (Outer i) fits index there inside =
      let depth = outer_depth start (running u at) in
      record {
        word = 12 + length image.words + image.outer * depth + i;
        is = refl;
        shared = outer_word image depth i (let same = laid.outer in omega (arith, there, same)) ∙ ap (λ d. action.Outer d i) (depth_is program slot start (memory_of u) t fits);
      }
  reaches u at (PsReg r) fits index there inside = record { word = 4 + r; is = refl; shared = register_word image r there }

  -- an element outside the data words has none
  misses : (u : MachineUnit) (at : ℕ) (place : Where) → IndexAt u place → is_inside (length program.words) t.registers place ≡ false → word_of image start (running u at) (location_of place) ≡ None
  misses u at (Word w) index outside = cc
  misses u at (Element base o) index outside =
      let same : base + reg u 4 ≡ base + operand_value t.registers o = ap (λ v. base + v) index in
      let long = laid.words in
      let above : length program.words ≤ base + operand_value t.registers o = grind (arith, outside) in
      let test : nat_lt (base + reg u 4) (length image.words) ≡ false = (let high : length image.words ≤ base + reg u 4 = omega (arith, above, long, same) in grind (arith, high)) in
      ap (λ b. if b then Some (12 + (base + reg u 4)) else None) test
  misses u at (Outer i) index outside = cc
  misses u at (PsReg r) index outside = cc

  adds_nowhere : (place : Where) (v : ℕ) → is_inside (length program.words) t.registers place ≡ false → adds None (location_of place) v ≡ does_next.Trap Address
  adds_nowhere (Word w) v outside = cc
  adds_nowhere (Element base o) v outside = refl
  adds_nowhere (Outer i) v outside = cc
  adds_nowhere (PsReg r) v outside = cc

  -- behind the code of an index
  record Indexed (u u' : MachineUnit) (at at' : ℕ) (place : Where) (part rest : List Instr) : Type 0 where
    fits : Fits program slot start (memory_of u') t
    index : IndexAt u' place
    value : reg u' 3 ≡ reg u 3
    code : HasCode image (line_of program t) at' rest
    far : at' + length rest ≡ at + length (part ++ rest)

  indexed : (q : Quad) (spot : Where) → Here program slot image laid slots n all start t q → ((x : ℕ) → is_index x spot ≡ true → reads x q ≡ true) → (u : MachineUnit) (at : ℕ) → Fits program slot start (memory_of u) t → (rest : List Instr) →
      HasCode image (line_of program t) at (index_code (slot t.function) (place program t.function) (own_in program t.function t.at) spot ++ rest) → (m credit left : ℕ) → left + 1 ≤ credit →
      ((u' : MachineUnit) (at' : ℕ) → Indexed u u' at at' spot (index_code (slot t.function) (place program t.function) (own_in program t.function t.at) spot) rest → KeepsTo program slot image m left (actor_at start u' at') t) →
      KeepsTo program slot image m credit (actor_at start u at) t
  indexed q (Element base o) here read u at fits rest code m credit left pays k =
      fetched program slot image laid slots n all start t q o here read u at 4 (omega arith) (omega arith) fits code.0 m credit left pays
      (λ u1 s. k u1 (at + 1) (record { fits = s.fits; index = s.is; value = s.others 3 (λ e. omega (arith, e)); code = code.2; far = omega arith }))
  indexed q (Word w) here read u at fits rest code m credit left pays k = richer program slot image m left credit (actor_at start u at) t (omega (arith, pays)) (k u at (record { fits = fits; index = tt; value = refl; code = code; far = refl }))
  indexed q (Outer i) here read u at fits rest code m credit left pays k = richer program slot image m left credit (actor_at start u at) t (omega (arith, pays)) (k u at (record { fits = fits; index = tt; value = refl; code = code; far = refl }))
  indexed q (PsReg r) here read u at fits rest code m credit left pays k = richer program slot image m left credit (actor_at start u at) t (omega (arith, pays)) (k u at (record { fits = fits; index = tt; value = refl; code = code; far = refl }))

  -- ---- the quads

  abbrev At : ℕ
  At = P program slot image laid slots n all start t

  abbrev Is : Quad → Type 0
  Is q = Here program slot image laid slots n all start t q

  -- where the next quad begins
  next_place : (q : Quad) (rest : List Instr) (at front : ℕ) → Is q → at + length rest ≡ At + front → front ≡ size q → place program t.function (t.at + 1) ≡ at + length rest
  next_place q rest at front here far long = let next = behind program slot image laid slots n all start t q here in omega (arith, next, far, long)

  module _ (u : MachineUnit) (fits : Fits program slot start (memory_of u) t) where
    abbrev index_at : Where → List Instr
    index_at spot = index_code (slot t.function) (place program t.function) (own_in program t.function t.at) spot

    size_is : (q : Quad) → length (quad_code (slot t.function) (place program t.function) (own_in program t.function t.at) q) ≡ size q
    size_is q = length_of (slot t.function) (place program t.function) (own_in program t.function t.at) q

    pub loads : (r : ℕ) (spot : Where) → Is (quad.Load r spot) → Kept program slot image laid slots n all start t u
    loads r spot here =
        let q = quad.Load r spot in
        indexed q spot here (λ x is. is) u At fits (load_code spot ∷ instr 26 0 3 0 (slot t.function r) ∷ []) (code_of program slot image laid slots n all start t q here) (suc n) 24 23 (omega arith)
        (λ u1 at i. by u1 at i (is_inside (length program.words) t.registers spot) refl)
      where
        by : (u1 : MachineUnit) (at : ℕ) → Indexed u u1 At at spot (index_at spot) (load_code spot ∷ instr 26 0 3 0 (slot t.function r) ∷ []) → (b : Bool) → is_inside (length program.words) t.registers spot ≡ b →
            KeepsTo program slot image (suc n) 23 (actor_at start u1 at) t
        by u1 at i true inside =
            let q = quad.Load r spot in
            let w = reaches u1 at spot i.fits i.index (names_exist program fits.here.known t.at q here) inside in
            common_act program slot image start u1 t at (does.Load 3 (location_of spot)) (operation_is image at (load_code spot) i.code.0 ∙ load_is spot) q (quad_is program slot start (memory_of u) t q fits here)
            n 23 25 (request.Load w.word) (action.Load (shared_place program t spot)) (λ reply. with_next t (with_register t.registers r reply)) tt (ap (λ o. access o (λ at. request.Load at)) w.is) (ap action.Load w.shared)
            (λ found. ap (λ b. if b then acts (action.Load (shared_place program t spot)) (λ reply. with_next (with_found t found) (with_register t.registers r reply)) else Traps Address) inside) (omega arith)
            (λ reply.
            let u2 : MachineUnit = record (sets (running u1 at) 3 reply) { counts = record u1.counts { steps = more u1.counts.steps; loads = more u1.counts.loads } } in
            let s = set_to program slot image laid slots n all start t u1 at 3 reply (omega arith) (omega arith) i.fits in
            let next = next_place q (load_code spot ∷ instr 26 0 3 0 (slot t.function r) ∷ []) at (length (index_at spot ++ (load_code spot ∷ instr 26 0 3 0 (slot t.function r) ∷ []))) here i.far (size_is q) in
            keep_alone program slot image slots n all start u2 t (at + 1) q r reply 3 s.fits here tt (equal_to_itself r) i.code.2.0 s.is (next ∙ omega arith))
        by u1 at i false outside =
            let q = quad.Load r spot in
            trapped program slot image start u1 t at (does.Load 3 (location_of spot)) (operation_is image at (load_code spot) i.code.0 ∙ load_is spot) q (quad_is program slot start (memory_of u) t q fits here)
            (suc n) 23 Address (ap (λ o. access o (λ at. request.Load at)) (misses u1 at spot i.index outside)) i.code.1
            (ap (λ b. if b then acts (action.Load (shared_place program t spot)) (λ reply. with_next t (with_register t.registers r reply)) else Traps Address) outside)

    pub stores : (spot : Where) (o : Operand) → Is (quad.Store spot o) → Kept program slot image laid slots n all start t u
    stores spot o here =
        let q = quad.Store spot o in
        let code = code_of program slot image laid slots n all start t q here in
        fetched program slot image laid slots n all start t q o here (λ x is. or_right (is_index x spot) (is_register x o) is) u At 3 (omega arith) (omega arith) fits code.0 (suc n) 24 23 (omega arith)
        (λ u1 s.
        indexed q spot here (λ x is. or_left (is_index x spot) (is_register x o) is) u1 (At + 1) s.fits (store_code spot ∷ []) code.2 (suc n) 23 22 (omega arith)
        (λ u2 at i. by u1 u2 at i s.is (is_inside (length program.words) t.registers spot) refl))
      where
        by : (u1 u2 : MachineUnit) (at : ℕ) → Indexed u1 u2 (At + 1) at spot (index_at spot) (store_code spot ∷ []) → reg u1 3 ≡ operand_value t.registers o → (b : Bool) → is_inside (length program.words) t.registers spot ≡ b →
            KeepsTo program slot image (suc n) 22 (actor_at start u2 at) t
        by u1 u2 at i value true inside =
            let q = quad.Store spot o in
            let v = operand_value t.registers o in
            let w = reaches u2 at spot i.fits i.index (names_exist program fits.here.known t.at q here) inside in
            let leads = leads_next program fits.here.known t.parent (length t.callers) t.at q here tt fits.here.placed in
            let same : reg u2 3 ≡ v = i.value ∙ value in
            let part = length (index_at spot ++ (store_code spot ∷ [])) in
            let far : at + 1 ≡ At + (1 + part) = (let f = i.far in omega (arith, f)) in
            let long : 1 + part ≡ size q = (let s = size_is q in omega (arith, s)) in
            let next : place program t.function (t.at + 1) ≡ at + 1 = next_place q (store_code spot ∷ []) at (1 + part) here far long in
            common_act program slot image start u2 t at (does.Store 3 (location_of spot)) (operation_is image at (store_code spot) i.code.0 ∙ store_is spot) q (quad_is program slot start (memory_of u) t q fits here)
            n 22 24 (request.Store w.word (reg u2 3)) (action.Store (shared_place program t spot) v) (λ reply. with_next t t.registers) tt (ap (λ o. access o (λ at. request.Store at (reg u2 3))) w.is)
            (ap (λ p. action.Store p (reg u2 3)) w.shared ∙ ap (action.Store (shared_place program t spot)) same)
            (λ found. ap (λ b. if b then acts (action.Store (shared_place program t spot) v) (λ reply. with_next (with_found t found) t.registers) else Traps Address) inside) (omega arith)
            (λ reply.
            let u3 : MachineUnit = record (goes_on (running u2 at)) { counts = record u2.counts { steps = more u2.counts.steps; stores = more u2.counts.stores } } in
            keep_at program slot image slots n all start u3 (with_next t t.registers) (at + 1) (fits_moved program slot start (memory_of u2) t (t.at + 1) i.fits leads) next)
        by u1 u2 at i value false outside =
            let q = quad.Store spot o in
            trapped program slot image start u2 t at (does.Store 3 (location_of spot)) (operation_is image at (store_code spot) i.code.0 ∙ store_is spot) q (quad_is program slot start (memory_of u) t q fits here)
            (suc n) 22 Address (ap (λ o. access o (λ at. request.Store at (reg u2 3))) (misses u2 at spot i.index outside)) i.code.1
            (ap (λ b. if b then acts (action.Store (shared_place program t spot) (operand_value t.registers o)) (λ reply. with_next t t.registers) else Traps Address) outside)

    pub increments : (r : ℕ) (spot : Where) (o : Operand) → Is (quad.Add r spot o) → Kept program slot image laid slots n all start t u
    increments r spot o here =
        let q = quad.Add r spot o in
        let code = code_of program slot image laid slots n all start t q here in
        fetched program slot image laid slots n all start t q o here (λ x is. or_right (is_index x spot) (is_register x o) is) u At 3 (omega arith) (omega arith) fits code.0 (suc n) 24 23 (omega arith)
        (λ u1 s.
        indexed q spot here (λ x is. or_left (is_index x spot) (is_register x o) is) u1 (At + 1) s.fits (add_code spot ∷ instr 26 0 3 0 (slot t.function r) ∷ []) code.2 (suc n) 23 22 (omega arith)
        (λ u2 at i. by u1 u2 at i s.is (is_inside (length program.words) t.registers spot) refl (may_increment spot (operand_value t.registers o)) refl))
      where
        by : (u1 u2 : MachineUnit) (at : ℕ) → Indexed u1 u2 (At + 1) at spot (index_at spot) (add_code spot ∷ instr 26 0 3 0 (slot t.function r) ∷ []) → reg u1 3 ≡ operand_value t.registers o → (b : Bool) → is_inside (length program.words) t.registers spot ≡ b →
            (c : Bool) → may_increment spot (operand_value t.registers o) ≡ c → KeepsTo program slot image (suc n) 22 (actor_at start u2 at) t
        by u1 u2 at i value true inside true may =
            let q = quad.Add r spot o in
            let v = operand_value t.registers o in
            let w = reaches u2 at spot i.fits i.index (names_exist program fits.here.known t.at q here) inside in
            let same : reg u2 3 ≡ v = i.value ∙ value in
            let allowed : may_increment spot (reg u2 3) ≡ true = ap (may_increment spot) same ∙ may in
            let part = length (index_at spot ++ (add_code spot ∷ instr 26 0 3 0 (slot t.function r) ∷ [])) in
            let far : at + 2 ≡ At + (1 + part) = (let f = i.far in omega (arith, f)) in
            let long : 1 + part ≡ size q = (let s = size_is q in omega (arith, s)) in
            let next : place program t.function (t.at + 1) ≡ at + 2 = next_place q (add_code spot ∷ instr 26 0 3 0 (slot t.function r) ∷ []) at (1 + part) here far long in
            common_act program slot image start u2 t at (does.Add 3 (location_of spot)) (operation_is image at (add_code spot) i.code.0 ∙ add_is spot) q (quad_is program slot start (memory_of u) t q fits here)
            n 22 25 (request.Add w.word (reg u2 3)) (action.Add (shared_place program t spot) v) (λ reply. with_next t (with_register t.registers r reply)) tt
            (ap (λ o. adds o (location_of spot) (reg u2 3)) w.is ∙ adds_there spot w.word (reg u2 3) ∙ ap (λ b. if b then does_next.Ask (request.Add w.word (reg u2 3)) else does_next.Trap PsIncrement) allowed)
            (ap (λ p. action.Add p (reg u2 3)) w.shared ∙ ap (action.Add (shared_place program t spot)) same)
            (λ found.
            let adds_it = acts (action.Add (shared_place program t spot) v) (λ reply. with_next (with_found t found) (with_register t.registers r reply)) in
            ap (λ b. if b then (if may_increment spot v then adds_it else Traps PsIncrement) else Traps Address) inside ∙ ap (λ b. if b then adds_it else Traps PsIncrement) may) (omega arith)
            (λ reply.
            let u3 : MachineUnit = record (sets (running u2 at) 3 reply) { counts = record u2.counts { steps = more u2.counts.steps; adds = more u2.counts.adds } } in
            let s = set_to program slot image laid slots n all start t u2 at 3 reply (omega arith) (omega arith) i.fits in
            keep_alone program slot image slots n all start u3 t (at + 1) q r reply 3 s.fits here tt (equal_to_itself r) i.code.2.0 s.is (next ∙ omega arith))
        by u1 u2 at i value true inside false may =
            let q = quad.Add r spot o in
            let v = operand_value t.registers o in
            let w = reaches u2 at spot i.fits i.index (names_exist program fits.here.known t.at q here) inside in
            let same : reg u2 3 ≡ v = i.value ∙ value in
            let refused : may_increment spot (reg u2 3) ≡ false = ap (may_increment spot) same ∙ may in
            let adds_it = acts (action.Add (shared_place program t spot) v) (λ reply. with_next t (with_register t.registers r reply)) in
            trapped program slot image start u2 t at (does.Add 3 (location_of spot)) (operation_is image at (add_code spot) i.code.0 ∙ add_is spot) q (quad_is program slot start (memory_of u) t q fits here)
            (suc n) 22 PsIncrement
            (ap (λ o. adds o (location_of spot) (reg u2 3)) w.is ∙ adds_there spot w.word (reg u2 3) ∙ ap (λ b. if b then does_next.Ask (request.Add w.word (reg u2 3)) else does_next.Trap PsIncrement) refused) i.code.1
            (ap (λ b. if b then (if may_increment spot v then adds_it else Traps PsIncrement) else Traps Address) inside ∙ ap (λ b. if b then adds_it else Traps PsIncrement) may)
        by u1 u2 at i value false outside c may =
            let q = quad.Add r spot o in
            let v = operand_value t.registers o in
            let adds_it = acts (action.Add (shared_place program t spot) v) (λ reply. with_next t (with_register t.registers r reply)) in
            trapped program slot image start u2 t at (does.Add 3 (location_of spot)) (operation_is image at (add_code spot) i.code.0 ∙ add_is spot) q (quad_is program slot start (memory_of u) t q fits here)
            (suc n) 22 Address (ap (λ o. adds o (location_of spot) (reg u2 3)) (misses u2 at spot i.index outside) ∙ adds_nowhere spot (reg u2 3) outside) i.code.1
            (ap (λ b. if b then (if may_increment spot v then adds_it else Traps PsIncrement) else Traps Address) outside)
