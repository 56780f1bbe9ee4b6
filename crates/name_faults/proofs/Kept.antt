-- Statements leave what was declared before them in reach.
use Rattle.std.proofs.Common.{◌≡◌, ◌≤◌, refl, ◌∙◌, ap, arith, ℕ, zero, suc, Bool, List, [], ◌∷◌, length, length-append, take, Option, Some, None}
use Rattle.std.proofs.lemmas.List.{take-append-le}
use Rattle.raw_tree.specs.declared.tree.RawName.{RawName}
use Rattle.raw_tree.specs.declared.tree.RawLocal.{RawLocal}
use Rattle.raw_tree.specs.declared.tree.RawFirst.{RawFirst}
use Rattle.raw_tree.specs.declared.tree.RawFirst.TheVariants as begins
use Rattle.raw_tree.specs.declared.tree.RawParam.{RawParam}
use Rattle.raw_tree.specs.declared.tree.RawStmt.{RawStmt}
use Rattle.raw_tree.specs.declared.tree.RawStmtKind.{RawStmtKind, Row_of-RawStmt, end_of-RawStmt, more_of-RawStmt, Held-RawStmtKind-If-2, None', Some'}
use Rattle.raw_tree.specs.declared.tree.RawStmtKind.TheVariants as s
use Rattle.name_scopes.specs.declared.scope.Declared.{Declared}
use Rattle.name_scopes.specs.Locals.{Env, declare_local, left, is_constant}
use Rattle.name_faults.specs.Statements.{after, after_inner, after_held, after_row, after_all, declare_all, after_first}
use Rattle.name_faults.specs.Items.{declare_named, declare_param, declare_params}
use Rattle.xmt_base.specs.declared.values.Place.{Place}

-- the first n declarations stay
pub record Keeps (n : ℕ) (old new : Env) : Type 0 where
  pub long : n ≤ length new.declared
  pub same : take n new.declared ≡ take n old.declared

stays : (n : ℕ) (e : Env) → n ≤ length e.declared → Keeps n e e
stays n e long = record { long = long; same = refl }

goes_on : (n : ℕ) (a b c : Env) → Keeps n a b → Keeps n b c → Keeps n a c
goes_on n a b c x y = record { long = y.long; same = y.same ∙ x.same }

take_take : {X : Type 0} (n m : ℕ) (xs : List X) → n ≤ m → take n (take m xs) ≡ take n xs
take_take zero m xs less = refl
take_take (suc n) zero xs less = absurd (omega arith)
take_take (suc n) (suc m) [] less = refl
take_take (suc n) (suc m) (x ∷ xs) less = ap (λ ys. x ∷ ys) (take_take n m xs (omega (arith, less)))

long_take : {X : Type 0} (n m : ℕ) (xs : List X) → n ≤ m → n ≤ length xs → n ≤ length (take m xs)
long_take zero m xs less long = omega arith
long_take (suc n) zero xs less long = absurd (omega arith)
long_take (suc n) (suc m) [] less long = absurd (omega (arith, long))
long_take (suc n) (suc m) (x ∷ xs) less long = let h = long_take n m xs (omega (arith, less)) (omega (arith, long)) in omega (arith, h)

leaves : (n count : ℕ) (a b : Env) → n ≤ count → Keeps n a b → Keeps n a (left count b)
leaves n count a b less x = record { long = long_take n count b.declared less x.long; same = take_take n count b.declared less ∙ x.same }

declares : (n : ℕ) (constant : Bool) (name : RawName) (e : Env) → n ≤ length e.declared → Keeps n e (declare_local constant name e)
declares n constant name e long = record { long = omega (arith, long, length-append {A = Declared}); same = take-append-le _ _ _ long }

declares_all : (n : ℕ) (constant : Bool) (all : List RawLocal) (e : Env) → n ≤ length e.declared → Keeps n e (declare_all constant all e)
declares_all n constant [] e long = stays n e long
declares_all n constant (l ∷ rest) e long =
    let one = declares n constant l.name e long in
    goes_on n e (declare_local constant l.name e) (declare_all constant rest (declare_local constant l.name e)) one (declares_all n constant rest (declare_local constant l.name e) one.long)

begins_with : (n : ℕ) (f : RawFirst) (e : Env) → n ≤ length e.declared → Keeps n e (after_first f e)
begins_with n (begins.Decl d) e long = declares_all n (is_constant d.ty.qualifiers) d.locals e long
begins_with n (begins.Value v) e long = stays n e long

mutual
  kept : (n : ℕ) (kind : RawStmtKind) (e : Env) → n ≤ length e.declared → Keeps n e (after kind e)
  kept n (s.Block' shape body) e long = leaves n (length e.declared) e (after_row body e) long (kept_row n body e long)
  kept n (s.Decl d) e long = declares_all n (is_constant d.ty.qualifiers) d.locals e long
  kept n s.Empty e long = stays n e long
  kept n (s.Value a) e long = stays n e long
  kept n (s.If' test shape body other) e long =
      let one = kept_inner n body e long in
      goes_on n e (after_inner body e) (after_held other (after_inner body e)) one (kept_held n other (after_inner body e) one.long)
  kept n (s.While' test shape body) e long = kept_inner n body e long
  kept n (s.Do' shape body test) e long = kept_inner n body e long
  kept n (s.For' begin test third shape body) e long =
      let one = begins_with n begin e long in
      leaves n (length e.declared) e (after_inner body (after_first begin e)) long
      (goes_on n e (after_first begin e) (after_inner body (after_first begin e)) one (kept_inner n body (after_first begin e) one.long))
  kept n s.Break e long = stays n e long
  kept n s.Continue e long = stays n e long
  kept n (s.Return v) e long = stays n e long
  kept n (s.Spawn' low high shape body) e long = leaves n (length e.declared) e (after_row body e) long (kept_row n body e long)
  kept n (s.Ps v r) e long = stays n e long
  kept n (s.Psm v p) e long = stays n e long
  kept n (s.Print text values) e long = stays n e long

  kept_inner : (n : ℕ) {m : _} (row : Row_of-RawStmt m) (e : Env) → n ≤ length e.declared → Keeps n e (after_inner row e)
  kept_inner n end_of-RawStmt e long = stays n e long
  kept_inner n (more_of-RawStmt place what rest) e long = leaves n (length e.declared) e (after what e) long (kept n what e long)

  kept_held : (n : ℕ) (held : Held-RawStmtKind-If-2) (e : Env) → n ≤ length e.declared → Keeps n e (after_held held e)
  kept_held n None' e long = stays n e long
  kept_held n (Some' shape body) e long = kept_inner n body e long

  kept_row : (n : ℕ) {m : _} (row : Row_of-RawStmt m) (e : Env) → n ≤ length e.declared → Keeps n e (after_row row e)
  kept_row n end_of-RawStmt e long = stays n e long
  kept_row n (more_of-RawStmt place what rest) e long =
      let one = kept n what e long in
      goes_on n e (after what e) (after_row rest (after what e)) one (kept_row n rest (after what e) one.long)

kept_all : (n : ℕ) (body : List RawStmt) (e : Env) → n ≤ length e.declared → Keeps n e (after_all body e)
kept_all n [] e long = stays n e long
kept_all n (x ∷ rest) e long =
    let one = kept n x.kind e long in
    goes_on n e (after x.kind e) (after_all rest (after x.kind e)) one (kept_all n rest (after x.kind e) one.long)

kept_named : (n : ℕ) (constant : Bool) (at : Place) (name : Option RawName) (e : Env) → n ≤ length e.declared → Keeps n e (declare_named constant at name e)
kept_named n constant at None e long = record { long = long; same = refl }
kept_named n constant at (Some name) e long = declares n constant name e long

kept_params : (n : ℕ) (params : List RawParam) (e : Env) → n ≤ length e.declared → Keeps n e (declare_params params e)
kept_params n [] e long = stays n e long
kept_params n (param ∷ rest) e long =
    let one = kept_named n (is_constant param.ty.qualifiers) param.ty.at param.name e long in
    goes_on n e (declare_param param e) (declare_params rest (declare_param param e)) one (kept_params n rest (declare_param param e) one.long)

take_length : {X : Type 0} (xs : List X) → take (length xs) xs ≡ xs
take_length [] = refl
take_length (x ∷ xs) = ap (λ ys. x ∷ ys) (take_length xs)

-- behind a function the file's names are in reach, and no others
pub kept_function : (params : List RawParam) (body : List RawStmt) (e : Env) → take (length e.declared) (after_all body (declare_params params e)).declared ≡ e.declared
kept_function params body e =
    let before = kept_params (length e.declared) params e (omega arith) in
    let inside = kept_all (length e.declared) body (declare_params params e) before.long in
    inside.same ∙ before.same ∙ take_length e.declared
