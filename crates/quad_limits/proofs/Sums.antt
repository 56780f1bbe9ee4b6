-- The quads of a prefix-sum: their weights, the registers that they name, and that what they name is there.
use Rattle.std.proofs.Common.{◌≡◌, arith, ℕ, ◌+◌, ◌*◌, ◌≤◌, ◌<◌, true, ◌++◌, length, Option}
use Rattle.std.specs.Prelude.{Bool}
use Rattle.source_meaning.specs.declared.tree.Spot.{Spot}
use Rattle.source_meaning.specs.declared.tree.Spot.TheVariants as spot
use Rattle.tree_measures.specs.Nodes.{spot_nodes}
use Rattle.tree_measures.specs.Waiting.{waiting_at, waiting_for_sum}
use Rattle.xmt_quads.specs.declared.code.Operand.{Operand}
use Rattle.xmt_quads.specs.declared.code.Operand.TheVariants.{Reg}
use Rattle.xmt_quads.specs.declared.code.QuadFunction.{QuadFunction}
use Rattle.xmt_quads.specs.declared.code.QuadProgram.{QuadProgram}
use Rattle.quad_code.specs.declared.Access.{Access}
use Rattle.quad_code.specs.declared.Access.TheVariants.{Own, Common}
use Rattle.quad_code.specs.Lined.{one}
use Rattle.quad_code.specs.Known.{SpotKnown, SummedKnown}
use Rattle.quad_code.specs.Expressions.{held, writing, adding, access_of, spot_at}
use Rattle.quad_code.specs.Statements.{sum_at}
use Rattle.quad_limits.proofs.Weights.{code_weight, weight_append, reading_weight, writing_weight, spot_weight}
use Rattle.quad_limits.proofs.Registers.{OperandBelow, AccessBelow, CodeBelow, below_append, reading_below, writing_below, access_below, spot_below}
use Rattle.quad_limits.proofs.Names.{Tables, CodeExists, exists-append, Ends, AccessExists, reading_exists, writing_exists, access_exists, spot_exists, both}

-- the variable of a prefix-sum is a known place
pub summed_is_known : (globals : ℕ) (MayCall : (function values : ℕ) → Type 0) (known : ℕ → Bool) (v : Spot) → SummedKnown globals known v → SpotKnown globals MayCall known v
summed_is_known globals MayCall known (spot.Global g) is = is
summed_is_known globals MayCall known (spot.Local slot) is = is
summed_is_known globals MayCall known (spot.Element' g shape index) is = absurd is
summed_is_known globals MayCall known (spot.Register x) is = absurd is

-- ---- weights

adding_weight : (line old : ℕ) (a : Access) (o : Operand) → code_weight (adding line old a o) ≤ 8
adding_weight line old (Own x) o = omega arith
adding_weight line old (Common place) o = omega arith

module _ (base_of size_of : ℕ → ℕ) (outer : ℕ → Option ℕ) (variables : ℕ) where
  pub sum_weight : (v p : Spot) (at line : ℕ) → code_weight (sum_at base_of size_of outer variables at line v p) ≤ 64 * spot_nodes p + 20
  sum_weight v p at line =
      let r = variables + 1 in
      let old = r + held p in
      let a = access_of base_of size_of outer variables v in
      let cp = spot_at base_of size_of outer (at + 1) r line p in
      let ca = adding line old (access_of base_of size_of outer r p) (Reg variables) in
      let last = one line (writing a (Reg old)) in
      omega (arith, weight_append cp (ca ++ last), weight_append ca last, reading_weight variables a, writing_weight a (Reg old), spot_weight base_of size_of outer p (at + 1) r line, adding_weight line old (access_of base_of size_of outer r p) (Reg variables))

-- ---- registers

-- the values that wait for a sum are the variable's, an index, and what the place held
pub sum_room : (p : Spot) → 2 + held p ≤ waiting_for_sum p
sum_room (spot.Element' g shape index) = grind arith
sum_room (spot.Global g) = omega arith
sum_room (spot.Register x) = omega arith
sum_room (spot.Local x) = omega arith

pub index_room : (p : Spot) → 1 + waiting_at p 0 0 ≤ waiting_for_sum p
index_room (spot.Element' g shape index) = grind arith
index_room (spot.Global g) = omega arith
index_room (spot.Register x) = omega arith
index_room (spot.Local x) = omega arith

adding_below : (n line old : ℕ) (a : Access) (o : Operand) → old < n → AccessBelow n a → OperandBelow n o → CodeBelow n (adding line old a o)
adding_below n line old (Own x) o h is below = ((h, is), ((is, is, below), tt))
adding_below n line old (Common place) o h is below = ((h, is, below), tt)

module _ (base_of size_of : ℕ → ℕ) (outer : ℕ → Option ℕ) (globals : ℕ) (MayCall : (function values : ℕ) → Type 0) (known : ℕ → Bool) (n : ℕ) (low : (x : ℕ) → known x ≡ true → x < n) (variables : ℕ) where
  pub sum_below : (v p : Spot) (at line : ℕ) → SummedKnown globals known v → SpotKnown globals MayCall known p → variables + (2 + held p) ≤ n → variables + (1 + waiting_at p 0 0) ≤ n →
      CodeBelow n (sum_at base_of size_of outer variables at line v p)
  sum_below v p at line summed is room index =
      let r = variables + 1 in
      let old = r + held p in
      let fits : variables < n = omega (arith, room) in
      let next : r < n = omega (arith, room) in
      let old_fits : old < n = omega (arith, room) in
      let var = access_of base_of size_of outer variables v in
      let a = access_below base_of size_of outer globals MayCall known n low variables v (summed_is_known globals MayCall known v summed) fits in
      let b = access_below base_of size_of outer globals MayCall known n low r p is next in
      let ca = adding line old (access_of base_of size_of outer r p) (Reg variables) in
      let last = one line (writing var (Reg old)) in (
        reading_below n variables var fits a,
        below_append n (spot_at base_of size_of outer (at + 1) r line p) (ca ++ last) (spot_below base_of size_of outer globals MayCall known n low p (at + 1) r line is (omega (arith, index)))
            (below_append n ca last (adding_below n line old (access_of base_of size_of outer r p) (Reg variables) old_fits b fits) (writing_below n var (Reg old) a old_fits, tt)),
      )

-- ---- names

module _ (program : QuadProgram) (f : QuadFunction) where
  adding_exists : (line old : ℕ) (a : Access) (o : Operand) → AccessExists program f a → CodeExists program f (adding line old a o)
  adding_exists line old (Own x) o h = (tt, (tt, tt))
  adding_exists line old (Common place) o h = (h, tt)

  module _ (base_of size_of : ℕ → ℕ) (outer : ℕ → Option ℕ) (globals : ℕ) (tables : Tables program base_of size_of outer globals)
      (MayCall : (function values : ℕ) → Type 0) (calls : (function values : ℕ) → MayCall function values → (function < length program.functions) × (values ≤ 16)) (known : ℕ → Bool) (variables : ℕ) where
    pub sum_exists : (v p : Spot) (at line : ℕ) → SummedKnown globals known v → SpotKnown globals MayCall known p → Ends program f at (sum_at base_of size_of outer variables at line v p) → CodeExists program f (sum_at base_of size_of outer variables at line v p)
    sum_exists v p at line summed is ends =
        let r = variables + 1 in
        let old = r + held p in
        let var = access_of base_of size_of outer variables v in
        let a = access_exists program f base_of size_of outer globals tables MayCall calls known variables v (summed_is_known globals MayCall known v summed) in
        let cp = spot_at base_of size_of outer (at + 1) r line p in
        let ca = adding line old (access_of base_of size_of outer r p) (Reg variables) in
        let last = one line (writing var (Reg old)) in
        let behind : Ends program f (at + 1) (cp ++ (ca ++ last)) = omega (arith, ends) in (
          reading_exists program f variables var a,
          both program f base_of size_of outer globals tables MayCall calls known (at + 1) cp (ca ++ last) behind
              (λ h. spot_exists program f base_of size_of outer globals tables MayCall calls known p (at + 1) r line is h)
              (λ h.
              exists-append program f ca last
              (adding_exists line old (access_of base_of size_of outer r p) (Reg variables) (access_exists program f base_of size_of outer globals tables MayCall calls known r p is))
              (writing_exists program f var (Reg old) a, tt)),
        )
