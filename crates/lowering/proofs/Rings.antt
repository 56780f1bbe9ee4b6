-- Loops as they are appended: a head with two jumps behind it, which are written once their targets are known.
use Rattle.std.proofs.Common.{◌≡◌, sym, ◌∙◌, ap, refl, arith, ℕ, ◌+◌, List, [], ◌∷◌, ◌++◌, length, Some, None, append_assoc, length-append}
use Rattle.std.specs.Prelude.{slice_set}
use Rattle.xmt_quads.specs.declared.code.Operand.{Operand}
use Rattle.xmt_quads.specs.declared.code.Quad.{Quad}
use Rattle.xmt_quads.specs.declared.code.Quad.TheVariants as quad
use Rattle.quad_code.specs.Lined.{Lined, lined, one, loop_code, do_code}
use Rattle.lowering.specs.declared.code.Placed.{Placed}
use Rattle.lowering.specs.declared.loops.Exits.{Exits}
use Rattle.lowering.specs.Emitted.{at_line, placed, Appends}
use Rattle.lowering.specs.Stated.{loop_head}
use Rattle.lowering.proofs.Appends.{placed-append, placed-length, in_turn, two_writes}

-- a loop without what stands in front of its head: of each quad at its ends, what it is for the place of the body
abbrev ring : (line at : ℕ) → (head : ℕ → Quad) → (inside : (at leave again : ℕ) → List Lined) → (tail : ℕ → List Lined) → (last : ℕ → Quad) → List Lined
ring line at head inside tail last =
    let start = at + 1 + 1 + 1 in
    let b = inside start (at + 1) (at + 1 + 1) in
    let behind = start + length b in
    let t = tail behind in
    lined line (head start) ∷ lined line (quad.Jump (behind + length t + 1)) ∷ lined line (quad.Jump behind) ∷ (b ++ (t ++ one line (last start)))

-- the two jumps of a loop, written once all of it stands
ringed_at : (line : ℕ) (h l : Quad) (b t c0 c1 c2 c3 : List Placed) (x y i j : Placed) (leave again : ℕ) →
    c1 ≡ c0 ++ at_line h line ∷ x ∷ y ∷ [] → c2 ≡ c1 ++ b → c3 ≡ c2 ++ t → leave ≡ length c0 + 1 → again ≡ length c0 + 1 + 1 →
    slice_set (slice_set (c3 ++ at_line l line ∷ []) leave i) again j ≡ c0 ++ at_line h line ∷ i ∷ j ∷ (b ++ (t ++ at_line l line ∷ []))
ringed_at line h l b t c0 c1 c2 c3 x y i j leave again e1 e2 e3 el ea =
    let z = at_line l line ∷ [] in
    let front = c0 ++ at_line h line ∷ [] in
    let whole : c3 ++ z ≡ (((c0 ++ at_line h line ∷ x ∷ y ∷ []) ++ b) ++ t) ++ z = ap (λ c. c ++ z) (e3 ∙ ap (λ c. c ++ t) (e2 ∙ ap (λ c. c ++ b) e1)) in
    let flat : (((c0 ++ at_line h line ∷ x ∷ y ∷ []) ++ b) ++ t) ++ z ≡ front ++ x ∷ ([] ++ y ∷ (b ++ (t ++ z))) = simp append_assoc in
    let n1 : leave ≡ length front = omega (arith, el, length-append c0 (at_line h line ∷ [])) in
    let n2 : again ≡ length (front ++ i ∷ []) = omega (arith, ea, length-append c0 (at_line h line ∷ []), length-append front (i ∷ [])) in
    ap (λ c. slice_set (slice_set c leave i) again j) (whole ∙ flat) ∙
    ap (λ n. slice_set (slice_set (front ++ x ∷ ([] ++ y ∷ (b ++ (t ++ z)))) n i) again j) n1 ∙
    ap (λ n. slice_set (slice_set (front ++ x ∷ ([] ++ y ∷ (b ++ (t ++ z)))) (length front) i) n j) n2 ∙
    two_writes front [] (b ++ (t ++ z)) x y i j ∙
    append_assoc c0 (at_line h line ∷ []) (i ∷ ([] ++ j ∷ (b ++ (t ++ z))))

pub ringed : (line : ℕ) (head last : ℕ → Quad) (inside : (at leave again : ℕ) → List Lined) (tail : ℕ → List Lined) (c0 c1 c2 c3 c4 : List Placed) (x y : Placed) (h l : Quad) (leave again n : ℕ) →
    leave ≡ length c0 + 1 → again ≡ length c0 + 1 + 1 → h ≡ head (length c0 + 1 + 1 + 1) → c1 ≡ c0 ++ at_line h line ∷ x ∷ y ∷ [] →
    Appends (λ at. inside at leave again) c1 c2 → n ≡ length c2 → Appends tail c2 c3 → l ≡ last (length c0 + 1 + 1 + 1) →
    c4 ≡ slice_set (slice_set (c3 ++ at_line l line ∷ []) leave (at_line (quad.Jump (length c3 + 1)) line)) again (at_line (quad.Jump n) line) →
    Appends (λ at. ring line at head inside tail last) c0 c4
ringed line head last inside tail c0 c1 c2 c3 c4 x y h l leave again n el ea eh e1 e2 en e3 et e4 =
    let at = length c0 in
    let start = at + 1 + 1 + 1 in
    let l1 : length c1 ≡ start = omega (arith, ap length e1, length-append c0 (at_line h line ∷ x ∷ y ∷ [])) in
    let ins = inside start (at + 1) (at + 1 + 1) in
    let b = placed ins in
    let e2' : c2 ≡ c1 ++ b = e2 ∙ ap (λ m. c1 ++ placed (inside m leave again)) l1 ∙ ap (λ m. c1 ++ placed (inside start m again)) el ∙ ap (λ m. c1 ++ placed (inside start (at + 1) m)) ea in
    let behind = start + length ins in
    let l2 : length c2 ≡ behind = omega (arith, ap length e2', length-append c1 b, placed-length ins, l1) in
    let more = tail behind in
    let t = placed more in
    let e3' : c3 ≡ c2 ++ t = e3 ∙ ap (λ m. c2 ++ placed (tail m)) l2 in
    let out : length c3 + 1 ≡ behind + length more + 1 = omega (arith, ap length e3', length-append c2 t, placed-length more, l2) in
    let i : Placed = at_line (quad.Jump (length c3 + 1)) line in
    let j : Placed = at_line (quad.Jump n) line in
    let parts : placed (ins ++ (more ++ one line (last start))) ≡ b ++ (t ++ at_line (last start) line ∷ []) =
    placed-append ins (more ++ one line (last start)) ∙ ap (λ c. b ++ c) (placed-append more (one line (last start))) in
    e4 ∙
    ringed_at line h l b t c0 c1 c2 c3 x y i j leave again e1 e2' e3' el ea ∙
    ap (λ h. c0 ++ at_line h line ∷ i ∷ j ∷ (b ++ (t ++ at_line l line ∷ []))) eh ∙
    ap (λ l. c0 ++ at_line (head start) line ∷ i ∷ j ∷ (b ++ (t ++ at_line l line ∷ []))) et ∙
    ap (λ m. c0 ++ at_line (head start) line ∷ at_line (quad.Jump m) line ∷ j ∷ (b ++ (t ++ at_line (last start) line ∷ []))) out ∙
    ap (λ m. c0 ++ at_line (head start) line ∷ at_line (quad.Jump (behind + length more + 1)) line ∷ at_line (quad.Jump m) line ∷ (b ++ (t ++ at_line (last start) line ∷ []))) (en ∙ l2) ∙
    ap (λ c. c0 ++ at_line (head start) line ∷ at_line (quad.Jump (behind + length more + 1)) line ∷ at_line (quad.Jump behind) line ∷ c) (sym parts)

-- a loop that is tested before its body
pub looped : (line : ℕ) (test : ℕ → List Lined) (o p : Operand) (inside : (at leave again : ℕ) → List Lined) (third : ℕ → List Lined) (c0 c1 c2 c3 c4 c5 : List Placed) (x y : Placed) (exits : Exits) (at n : ℕ) →
    at ≡ length c0 → Appends test c0 c1 → p ≡ o → exits ≡ record { leave = length c1 + 1; again = length c1 + 1 + 1 } →
    c2 ≡ c1 ++ at_line (loop_head (Some p) (length c1 + 1 + 1 + 1)) line ∷ x ∷ y ∷ [] →
    Appends (λ at. inside at exits.leave exits.again) c2 c3 → n ≡ length c3 → Appends third c3 c4 →
    c5 ≡ slice_set (slice_set (c4 ++ at_line (quad.Jump at) line ∷ []) exits.leave (at_line (quad.Jump (length c4 + 1)) line)) exits.again (at_line (quad.Jump n) line) →
    Appends (λ at. loop_code line at test o inside third) c0 c5
looped line test o p inside third c0 c1 c2 c3 c4 c5 x y exits at n es h1 eo ex h2 h3 en h4 h5 =
    in_turn test (λ to. ring line to (λ start. quad.IfNot o start) inside third (λ start. quad.Jump (length c0))) c0 c1 c5 h1
    (ringed line (λ start. quad.IfNot o start) (λ start. quad.Jump (length c0)) inside third c1 c2 c3 c4 c5 x y (quad.IfNot p (length c1 + 1 + 1 + 1)) (quad.Jump at) exits.leave exits.again n
    (ap (λ (e : Exits). e.leave) ex) (ap (λ (e : Exits). e.again) ex) (ap (λ o. quad.IfNot o (length c1 + 1 + 1 + 1)) eo) h2 h3 en h4 (ap quad.Jump es) h5)

-- and one that is tested behind it
pub untested : (line : ℕ) (test : ℕ → List Lined) (o p : Operand) (inside : (at leave again : ℕ) → List Lined) (c0 c1 c2 c3 c4 : List Placed) (x y : Placed) (exits : Exits) (start n : ℕ) →
    exits ≡ record { leave = length c0 + 1; again = length c0 + 1 + 1 } → c1 ≡ c0 ++ at_line (loop_head None (length c0 + 1 + 1 + 1)) line ∷ x ∷ y ∷ [] → start ≡ exits.again + 1 →
    Appends (λ at. inside at exits.leave exits.again) c1 c2 → n ≡ length c2 → Appends test c2 c3 → p ≡ o →
    c4 ≡ slice_set (slice_set (c3 ++ at_line (quad.IfNot p start) line ∷ []) exits.leave (at_line (quad.Jump (length c3 + 1)) line)) exits.again (at_line (quad.Jump n) line) →
    Appends (λ at. do_code line at test o inside) c0 c4
untested line test o p inside c0 c1 c2 c3 c4 x y exits start n ex h1 es h2 en h3 eo h4 =
    let again : exits.again ≡ length c0 + 1 + 1 = ap (λ (e : Exits). e.again) ex in
    ringed line (λ start. quad.Jump start) (λ start. quad.IfNot o start) inside test c0 c1 c2 c3 c4 x y (quad.Jump (length c0 + 1 + 1 + 1)) (quad.IfNot p start) exits.leave exits.again n
    (ap (λ (e : Exits). e.leave) ex) again refl h1 h2 en h3
    (ap (λ o. quad.IfNot o start) eo ∙ ap (λ s. quad.IfNot o s) (es ∙ ap (λ m. m + 1) again)) h4
