-- A register is dead where no path reads it before it writes it. Each quad is a step of such a path.
use Rattle.std.proofs.Common.{◌≡◌, refl, sym, ◌∙◌, subst, arith, ℕ, zero, suc, ◌+◌, List, [], ◌∷◌, ◌++◌, length, Some, true, false}
use Rattle.std.specs.Prelude.{◌||◌, Bool, Contains, slice_get}
use Rattle.xmt_quads.specs.declared.code.Operand.{Operand}
use Rattle.xmt_quads.specs.declared.code.Quad.{Quad}
use Rattle.xmt_quads.specs.declared.code.Quad.TheVariants as quad
use Rattle.xmt_quads.specs.Program.{behind_join}
use Rattle.xmt_quads.specs.Live.{is_register, reads, writes, leads_to, IsLive, is_read, is_kept}
use Rattle.quad_code.specs.Lined.{Lined}

-- ---- small facts

pub some_same : {X : Type 0} (a b : X) → Some a ≡ Some b → a ≡ b
some_same a b h = cc

pub neither : (a b : Bool) → a ≡ false → b ≡ false → (a || b) ≡ false
neither false b h g = g
neither true b h g = cc

only_one : (P : ℕ → Type 0) (a to : ℕ) → Contains (a ∷ []) to → P a → P to
only_one P a to (zero, lt, e) p = subst P e p
only_one P a to (suc k, lt, e) p = absurd (omega arith)

one_of_two : (P : ℕ → Type 0) (a b to : ℕ) → Contains (a ∷ b ∷ []) to → P a → P b → P to
one_of_two P a b to (zero, lt, e) p q = subst P e p
one_of_two P a b to (suc zero, lt, e) p q = subst P e q
one_of_two P a b to (suc (suc k), lt, e) p q = absurd (omega arith)

-- ---- where code stands

-- in these quads
module _ (quads : List Quad) where
  -- the code stands there, up to a position
  abbrev pub Stands : (at : ℕ) → List Lined → (end : ℕ) → Type 0
  Stands at [] end = at ≡ end
  Stands at (l ∷ code) end = (slice_get quads at ≡ Some l.quad) × Stands (at + 1) code end

  pub length_is : (at end : ℕ) (code : List Lined) → Stands at code end → end ≡ at + length code
  length_is at end [] s = omega (arith, s)
  length_is at end (l ∷ code) s = let rest = length_is (at + 1) end code s.1 in omega (arith, rest)

  pub split : (at end : ℕ) (a b : List Lined) → Stands at (a ++ b) end → Stands at a (at + length a) × Stands (at + length a) b end
  split at end [] b s = let same : at ≡ at + 0 = omega arith in (same, subst (λ p. Stands p b end) same s)
  split at end (l ∷ a) b s =
      let rest = split (at + 1) end a b s.1 in
      let same : at + 1 + length a ≡ at + suc (length a) = omega arith in
      ((s.0, subst (λ p. Stands (at + 1) a p) same rest.0), subst (λ p. Stands p b end) same rest.1)

  -- ---- dead registers

  module _ (x : ℕ) where
    abbrev mutual
      -- no path of at most so many quads reads the register before it writes it
      pub Dead : (n at : ℕ) → Type 0
      Dead zero at = Unit {0}
      Dead (suc n) at = (q : Quad) → slice_get quads at ≡ Some q → (reads x q ≡ false) × (writes x q ≡ false → (to : ℕ) → Contains (leads_to quads at q) to → Dead n to)

    pub less : (n at : ℕ) → Dead (suc n) at → Dead n at
    less zero at d = tt
    less (suc n) at d = λ q h. ((d q h).0, λ w to c. less n to ((d q h).1 w to c))

    pub not_live : (at : ℕ) → IsLive quads x at → ((n : ℕ) → Dead n at) → ⊥
    not_live at (is_read at2 q here r) d = let no : reads x q ≡ false = (d 1 q here).0 in cc
    not_live at (is_kept at2 to q here w c live) d = not_live to live (λ n. (d (suc n) q here).1 w to c)

    -- any quad
    pub step : (n at : ℕ) (q : Quad) → slice_get quads at ≡ Some q → reads x q ≡ false → (writes x q ≡ false → (to : ℕ) → Contains (leads_to quads at q) to → Dead n to) → Dead n at
    step zero at q here r go = tt
    step (suc n) at q here r go =
        λ q2 here2.
        subst (λ q. (reads x q ≡ false) × (writes x q ≡ false → (to : ℕ) → Contains (leads_to quads at q) to → Dead n to)) (some_same q q2 (sym here ∙ here2))
        (r, λ w to c. less n to (go w to c))

    -- one that leads to the next quad
    pub on : (n at : ℕ) (q : Quad) → slice_get quads at ≡ Some q → leads_to quads at q ≡ (at + 1) ∷ [] → reads x q ≡ false → (writes x q ≡ false → Dead n (at + 1)) → Dead n at
    on n at q here leads r go = step n at q here r (λ w to c. only_one (Dead n) (at + 1) to (subst (λ l. Contains l to) leads c) (go w))

    pub jump : (n at to : ℕ) → slice_get quads at ≡ Some (quad.Jump to) → Dead n to → Dead n at
    jump n at to here d = step n at (quad.Jump to) here refl (λ w to2 c. only_one (Dead n) to to2 c d)

    -- a jump leaves a quad less of the path
    pub jump_back : (n at to : ℕ) → slice_get quads at ≡ Some (quad.Jump to) → Dead n to → Dead (suc n) at
    jump_back n at to here d = λ q2 here2.
        subst (λ q. (reads x q ≡ false) × (writes x q ≡ false → (to : ℕ) → Contains (leads_to quads at q) to → Dead n to)) (some_same (quad.Jump to) q2 (sym here ∙ here2))
        (refl, λ w to2 c. only_one (Dead n) to to2 c d)

    pub if_zero : (n at to : ℕ) (o : Operand) → slice_get quads at ≡ Some (quad.IfZero o to) → is_register x o ≡ false → Dead n to → Dead n (at + 1) → Dead n at
    if_zero n at to o here r d e = step n at (quad.IfZero o to) here r (λ w to2 c. one_of_two (Dead n) to (at + 1) to2 c d e)

    pub if_not : (n at to : ℕ) (o : Operand) → slice_get quads at ≡ Some (quad.IfNot o to) → is_register x o ≡ false → Dead n to → Dead n (at + 1) → Dead n at
    if_not n at to o here r d e = step n at (quad.IfNot o to) here r (λ w to2 c. one_of_two (Dead n) to (at + 1) to2 c d e)

    -- the last quad of a loop whose test comes behind its body
    pub if_not_back : (n at to : ℕ) (o : Operand) → slice_get quads at ≡ Some (quad.IfNot o to) → is_register x o ≡ false → Dead n to → Dead n (at + 1) → Dead (suc n) at
    if_not_back n at to o here r d e = λ q2 here2.
        subst (λ q. (reads x q ≡ false) × (writes x q ≡ false → (to : ℕ) → Contains (leads_to quads at q) to → Dead n to)) (some_same (quad.IfNot o to) q2 (sym here ∙ here2))
        (r, λ w to2 c. one_of_two (Dead n) to (at + 1) to2 c d e)

    no_next : (to : ℕ) → Contains {X = ℕ} [] to → ⊥
    no_next to (k, lt, e) = absurd (omega arith)

    pub return : (n at : ℕ) (o : Operand) → slice_get quads at ≡ Some (quad.Return o) → is_register x o ≡ false → Dead n at
    return n at o here r = step n at (quad.Return o) here r (λ w to c. absurd (no_next to c))

    pub join : (n at : ℕ) → slice_get quads at ≡ Some quad.Join → Dead n at
    join n at here = step n at quad.Join here refl (λ w to c. absurd (no_next to c))

    pub spawn : (n at : ℕ) (low high : Operand) → slice_get quads at ≡ Some (quad.Spawn low high) → is_register x low ≡ false → is_register x high ≡ false → Dead n (at + 1) → Dead n (behind_join quads at) → Dead n at
    spawn n at low high here l h d e =
        step n at (quad.Spawn low high) here (neither (is_register x low) (is_register x high) l h) (λ w to c. one_of_two (Dead n) (at + 1) (behind_join quads at) to c d e)

    pub moved : (n a b : ℕ) → a ≡ b → Dead n b → Dead n a
    moved n a b e d = subst (Dead n) (sym e) d
