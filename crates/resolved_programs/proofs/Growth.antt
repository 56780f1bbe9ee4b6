-- Statements leave what was declared before them in reach, and take no variable away.
use Rattle.std.proofs.Common.{◌≡◌, refl, ◌∙◌, ap, arith, ◌≤◌, Bool, List, [], ◌∷◌, ◌++◌, length, length-append, append_assoc, take}
use Rattle.raw_tree.specs.declared.tree.RawLocal.{RawLocal}
use Rattle.raw_tree.specs.declared.tree.RawName.{RawName}
use Rattle.raw_tree.specs.declared.tree.RawFirst.{RawFirst}
use Rattle.raw_tree.specs.declared.tree.RawFirst.TheVariants as begins
use Rattle.raw_tree.specs.declared.tree.RawStmt.{RawStmt}
use Rattle.raw_tree.specs.declared.tree.RawStmtKind.{RawStmtKind, Row_of-RawStmt, end_of-RawStmt, more_of-RawStmt, Held-RawStmtKind-If-2, None', Some'}
use Rattle.raw_tree.specs.declared.tree.RawStmtKind.TheVariants as raw
use Rattle.name_scopes.specs.declared.scope.Declared.{Declared}
use Rattle.name_scopes.specs.Locals.{Env, declare_local, left, is_constant}
use Rattle.name_faults.specs.Statements.{after, after_inner, after_held, after_row, after_all, declare_all, after_first}

-- more is declared behind
pub record Grows (old new : Env) : Type 0 where
  pub more : List Declared
  pub declared : new.declared ≡ old.declared ++ more
  pub variables : length old.variables ≤ length new.variables

pub none_more : {X : Type 0} (xs : List X) → xs ≡ xs ++ []
none_more [] = refl
none_more (x ∷ xs) = ap (λ ys. x ∷ ys) (none_more xs)

take_front : {X : Type 0} (xs ys : List X) → take (length xs) (xs ++ ys) ≡ xs
take_front [] ys = refl
take_front (x ∷ xs) ys = ap (λ zs. x ∷ zs) (take_front xs ys)

stays : (e : Env) → Grows e e
stays e = record { more = []; declared = none_more e.declared; variables = omega arith }

pub goes_on : (a b c : Env) → Grows a b → Grows b c → Grows a c
goes_on a b c x y =
    record {
      more = x.more ++ y.more;
      declared = y.declared ∙ ap (λ ds. ds ++ y.more) x.declared ∙ append_assoc a.declared x.more y.more;
      variables = omega (arith, x.variables, y.variables);
    }

-- behind a scope the names before it are in reach
pub restored : (old inner : Env) → Grows old inner → (left (length old.declared) inner).declared ≡ old.declared
restored old inner grows = ap (take (length old.declared)) grows.declared ∙ take_front old.declared grows.more

leaves : (old inner : Env) → Grows old inner → Grows old (left (length old.declared) inner)
leaves old inner grows = record { more = []; declared = restored old inner grows ∙ none_more old.declared; variables = grows.variables }

declares_one : (constant : Bool) (name : RawName) (e : Env) → Grows e (declare_local constant name e)
declares_one constant name e = record { more = _; declared = refl; variables = omega (arith, length-append e.variables (name.at ∷ [])) }

pub grown_locals : (constant : Bool) (locals : List RawLocal) (e : Env) → Grows e (declare_all constant locals e)
grown_locals constant [] e = stays e
grown_locals constant (l ∷ rest) e =
    goes_on e (declare_local constant l.name e) (declare_all constant rest (declare_local constant l.name e)) (declares_one constant l.name e) (grown_locals constant rest (declare_local constant l.name e))

pub grown_first : (begin : RawFirst) (e : Env) → Grows e (after_first begin e)
grown_first (begins.Decl d) e = grown_locals (is_constant d.ty.qualifiers) d.locals e
grown_first (begins.Value v) e = stays e

mutual
  pub grown : (kind : RawStmtKind) (e : Env) → Grows e (after kind e)
  grown (raw.Block' shape body) e = leaves e (after_row body e) (grown_row body e)
  grown (raw.Decl d) e = grown_locals (is_constant d.ty.qualifiers) d.locals e
  grown raw.Empty e = stays e
  grown (raw.Value a) e = stays e
  grown (raw.If' test shape body other) e = goes_on e (after_inner body e) (after_held other (after_inner body e)) (grown_inner body e) (grown_held other (after_inner body e))
  grown (raw.While' test shape body) e = grown_inner body e
  grown (raw.Do' shape body test) e = grown_inner body e
  grown (raw.For' begin test third shape body) e =
      leaves e (after_inner body (after_first begin e)) (goes_on e (after_first begin e) (after_inner body (after_first begin e)) (grown_first begin e) (grown_inner body (after_first begin e)))
  grown raw.Break e = stays e
  grown raw.Continue e = stays e
  grown (raw.Return v) e = stays e
  grown (raw.Spawn' low high shape body) e = leaves e (after_row body e) (grown_row body e)
  grown (raw.Ps v r) e = stays e
  grown (raw.Psm v p) e = stays e
  grown (raw.Print text values) e = stays e

  pub grown_inner : {n : _} (row : Row_of-RawStmt n) (e : Env) → Grows e (after_inner row e)
  grown_inner end_of-RawStmt e = stays e
  grown_inner (more_of-RawStmt at kind rest) e = leaves e (after kind e) (grown kind e)

  pub grown_held : (held : Held-RawStmtKind-If-2) (e : Env) → Grows e (after_held held e)
  grown_held None' e = stays e
  grown_held (Some' shape body) e = grown_inner body e

  pub grown_row : {n : _} (row : Row_of-RawStmt n) (e : Env) → Grows e (after_row row e)
  grown_row end_of-RawStmt e = stays e
  grown_row (more_of-RawStmt at kind rest) e = goes_on e (after kind e) (after_row rest (after kind e)) (grown kind e) (grown_row rest (after kind e))

pub grown_all : (body : List RawStmt) (e : Env) → Grows e (after_all body e)
grown_all [] e = stays e
grown_all (x ∷ rest) e = goes_on e (after x.kind e) (after_all rest (after x.kind e)) (grown x.kind e) (grown_all rest (after x.kind e))

-- behind a branch or a loop's body the names are those before it
pub same_inner : {n : _} (row : Row_of-RawStmt n) (e : Env) → (after_inner row e).declared ≡ e.declared
same_inner end_of-RawStmt e = refl
same_inner (more_of-RawStmt at kind rest) e = restored e (after kind e) (grown kind e)

pub same_held : (held : Held-RawStmtKind-If-2) (e : Env) → (after_held held e).declared ≡ e.declared
same_held None' e = refl
same_held (Some' shape body) e = same_inner body e
