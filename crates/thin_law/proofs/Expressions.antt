-- The expressions of a thin source in the names of its file: what each stands for, and that nothing is broken in it.
use Rattle.std.proofs.Common.{◌≡◌, refl, sym, ◌∙◌, ap, subst, arith, ℕ, suc, ◌+◌, ◌<◌, ◌≤◌, ◌^◌, max, Bool, true, false, List, length, Option, Some}
use Rattle.xmt_base.specs.declared.values.Place.{Place}
use Rattle.xmt_base.specs.declared.operators.BinOp.{BinOp}
use Rattle.source_meaning.specs.declared.tree.Spot.{Spot}
use Rattle.source_meaning.specs.declared.tree.Spot.TheVariants as spot
use Rattle.source_meaning.specs.declared.tree.Expr.{Expr}
use Rattle.source_meaning.specs.declared.tree.ExprKind.TheVariants as e
use Rattle.source_meaning.specs.declared.tree.GlobalVar.{GlobalVar}
use Rattle.xmt_lex.specs.declared.kinds.Mark.{Mark}
use Rattle.raw_tree.specs.declared.tree.RawName.{RawName}
use Rattle.raw_tree.specs.declared.tree.RawSpot.{RawSpot}
use Rattle.raw_tree.specs.declared.tree.RawSpot.TheVariants as raw_spot
use Rattle.raw_tree.specs.declared.tree.RawExpr.{RawExpr}
use Rattle.raw_tree.specs.declared.tree.RawExprKind.TheVariants as raw
use Rattle.name_scopes.specs.Opened.{opened}
use Rattle.name_scopes.specs.Size.{nodes, nodes_of_spot}
use Rattle.name_scopes.specs.Waiting.{waiting, waiting_of_both, waiting_of_read, waiting_of_write}
use Rattle.name_scopes.specs.declared.scope.Meaning.{Meaning}
use Rattle.name_scopes.specs.declared.scope.Meaning.TheVariants as means
use Rattle.name_scopes.specs.declared.scope.Declared.{Declared}
use Rattle.name_faults.specs.Expressions.{meaning, variable_fault, array_fault, write_fault, written, faults, faults_of_spot}
use Rattle.typed_programs.specs.Expressions.{number, variable, array_number, typed_spot, expression, joined, node}
use Rattle.thin_law.proofs.Trees as of
use Rattle.thin_law.proofs.Trees.{number_of, IsMark, OfSpot, OfExpr}
use Rattle.thin_law.proofs.Clean.{IsClean, nothing, neither}

-- in these names each global is found
pub record IsFound (globals : List GlobalVar) (ds : List Declared) : Type 0 where
  pub few : length globals ≤ 4096
  pub scalar : (name : RawName) (number : ℕ) → number_of globals false name ≡ Some number → (meaning ds name ≡ Some (means.Scalar number false)) × (number < length globals)
  pub array : (name : RawName) (number : ℕ) → number_of globals true name ≡ Some number → (meaning ds name ≡ Some (means.Array number false)) × (number < length globals)

-- how a raw expression stands to the thin one, of some nesting and nodes
pub record IsSame (ds : List Declared) (n count : ℕ) (a : Expr) (r : RawExpr) : Type 0 where
  pub typed : expression ds r ≡ a
  pub clean : (wanted : Bool) → IsClean (faults ds wanted r.kind)
  pub waits : waiting r.kind ≤ n
  pub counted : nodes r.kind ≡ count

pub record IsSameSpot (ds : List Declared) (n count : ℕ) (a : Spot) (r : RawSpot) : Type 0 where
  pub typed : typed_spot ds r ≡ a
  pub clean : IsClean (faults_of_spot ds r)
  pub write : IsClean (written ds r)
  pub waits : waiting_of_read r ≤ max 1 n
  pub writes : (value : ℕ) → waiting_of_write r value ≤ max n (1 + value)
  pub counted : nodes_of_spot r ≡ count

joins : {o : BinOp} {mark : Mark} → IsMark o mark → (a b : Expr) → joined mark a b ≡ e.Binary o a b
joins of.times a b = refl
joins of.plus a b = refl
joins of.minus a b = refl

both_wait : {o : BinOp} {mark : Mark} → IsMark o mark → (left right : ℕ) → waiting_of_both mark left right ≡ max left (1 + right)
both_wait of.times left right = refl
both_wait of.plus left right = refl
both_wait of.minus left right = refl

few_number : (n : ℕ) → n < 2 ^ 32 → number n ≡ n
few_number n h = omega arith

module _ (globals : List GlobalVar) (ds : List Declared) (found : IsFound globals ds) where
  variable_is : (name : RawName) (n : ℕ) → number_of globals false name ≡ Some n → IsSameSpot ds 0 0 (spot.Global n) (raw_spot.Name name)
  variable_is name n there =
      let at = found.scalar name n there in
      let is : Some (means.Scalar n false) ≡ meaning ds name = sym at.0 in
      record {
        typed = ap variable at.0 ∙ ap (λ k. spot.Global k) (few_number n (omega (arith, at.1, found.few)));
        clean = subst (λ (known : Option Meaning). IsClean (variable_fault name known)) is nothing;
        write = subst (λ (known : Option Meaning). IsClean (write_fault name known)) is nothing;
        waits = omega arith;
        writes = λ value. omega arith;
        counted = refl;
      }

  element_is : (name : RawName) (n : ℕ) → number_of globals true name ≡ Some n → {nesting count : ℕ} {a : Expr} {r : RawExpr} → IsSame ds nesting count a r → IsSameSpot ds nesting count (spot.Element n a) (raw_spot.Element name r)
  unfolding opened
  element_is name n there {nesting = nesting} {count = count} {a = a} {r = r} index =
      let at = found.array name n there in
      let is : Some (means.Array n false) ≡ meaning ds name = sym at.0 in
      let size = index.waits in
      record {
        typed = ap (λ k. spot.Element k (expression ds r)) (ap array_number at.0 ∙ few_number n (omega (arith, at.1, found.few))) ∙ ap (λ b. spot.Element n b) index.typed;
        clean = neither (subst (λ (known : Option Meaning). IsClean (array_fault name known)) is nothing) (index.clean true);
        write = subst (λ (known : Option Meaning). IsClean (write_fault name known)) is nothing;
        waits = omega (arith, size);
        writes = λ value. omega (arith, size);
        counted = omega (arith, index.counted);
      }

  binary_is : {o : BinOp} {mark : Mark} {i j k l : ℕ} {a b : Expr} {r t : RawExpr} → IsMark o mark → IsSame ds i k a r → IsSame ds j l b t →
      IsSame ds (suc (max i j)) (suc (k + l)) (node a.at (e.Binary o a b)) (record { at = r.at; kind = raw.Binary mark r t })
  unfolding opened
  binary_is {o = o} {mark = mark} {a = a} {b = b} {r = r} {t = t} is left right =
      let both : waiting_of_both mark (waiting r.kind) (waiting t.kind) ≡ max (waiting r.kind) (1 + waiting t.kind) = both_wait is (waiting r.kind) (waiting t.kind) in
      let first = left.waits in
      let second = right.waits in
      record {
        typed =
            ap (λ (x : Expr). node x.at (joined mark x (expression ds t))) left.typed
            ∙ ap (λ (y : Expr). node a.at (joined mark a y)) right.typed
            ∙ ap (node a.at) (joins is a b);
        clean = λ wanted. neither (left.clean true) (right.clean true);
        waits = omega (arith, both, first, second);
        counted = omega (arith, left.counted, right.counted);
      }

  mutual
    unfolding opened

    pub same_spot : {n count : ℕ} {a : Spot} {p : Place} {r : RawSpot} → OfSpot globals n count a p r → IsSameSpot ds n count a r
    same_spot (of.scalar name {number = n} there) = variable_is name n there
    same_spot (of.element name {number = n} there index) = element_is name n there (same index)

    pub same : {n count : ℕ} {a : Expr} {r : RawExpr} → OfExpr globals n count a r → IsSame ds n count a r
    same (of.number p v) = record { typed = refl; clean = λ wanted. nothing; waits = omega arith; counted = refl }
    same (of.dollar p) = record { typed = refl; clean = λ wanted. nothing; waits = omega arith; counted = refl }
    same (of.read {n = n} {nodes = count} {p = p} inner) =
        let place = same_spot inner in
        let size = place.waits in
        record { typed = ap (λ b. node p (e.Read b)) place.typed; clean = λ wanted. place.clean; waits = omega (arith, size); counted = ap (λ k. suc k) place.counted }
    same (of.brackets p inner) =
        let value = same inner in
        let size = value.waits in
        let count = value.counted in
        record { typed = value.typed; clean = value.clean; waits = omega (arith, size); counted = omega (arith, count) }
    same (of.binary left is right) = binary_is is (same left) (same right)
