-- The variables of a function are numbered in the order of their declarations.
use Rattle.std.proofs.Common.{◌≡◌, refl, sym, ap, subst, arith, ℕ, ◌+◌, ◌≤◌, Bool, List, [], ◌∷◌, ◌++◌, length, length-append, Option, Some, None}
use Rattle.std.specs.Prelude.{All, AllPairs, ◌≢◌}
use Rattle.std.proofs.lemmas.List.Elements.{All-nil, All-cons, All-weaker}
use Rattle.std.proofs.lemmas.List.Kept.{AllPairs-cons}
use Rattle.xmt_base.specs.declared.values.Place.{Place}
use Rattle.raw_tree.specs.declared.tree.RawLocal.{RawLocal}
use Rattle.raw_tree.specs.declared.tree.RawFirst.{RawFirst}
use Rattle.raw_tree.specs.declared.tree.RawFirst.TheVariants as begins
use Rattle.raw_tree.specs.declared.tree.RawStmt.{RawStmt}
use Rattle.raw_tree.specs.declared.tree.RawStmtKind.{RawStmtKind, Row_of-RawStmt, end_of-RawStmt, more_of-RawStmt, Held-RawStmtKind-If-2, None', Some'}
use Rattle.raw_tree.specs.declared.tree.RawStmtKind.TheVariants as raw
use Rattle.source_meaning.specs.declared.tree.Expr.{Expr}
use Rattle.source_meaning.specs.declared.tree.Stmt.{Stmt}
use Rattle.source_meaning.specs.declared.tree.StmtKind.TheVariants as s
use Rattle.source_meaning.specs.declared.tree.StmtKind.TheBlock.{hidden-the_row-Stmt-0}
use Rattle.source_meaning.specs.Opened.{opened}
use Rattle.name_scopes.specs.Locals.{Env, declare_local, is_constant}
use Rattle.name_faults.specs.Statements.{after, after_inner, after_held, after_row, after_all, declare_all, after_first}
use Rattle.typed_programs.specs.Expressions.{number, expression, option}
use Rattle.typed_programs.specs.Statements.{declares, first_of, among, typed, typed_inner, typed_held, typed_row, typed_all}
use Rattle.checked_programs.specs.Declares.{declared_in, declared_in_row, declared_in_list}

-- the numbers from one on to one below another, in order
abbrev pub Numbered : (from to : ℕ) → List ℕ → Type 0
Numbered from to [] = from ≡ to
Numbered from to (x ∷ rest) = (x ≡ number from) × Numbered (from + 1) to rest

joined : (a b c : ℕ) (front rest : List ℕ) → Numbered a b front → Numbered b c rest → Numbered a c (front ++ rest)
joined a b c [] rest same behind = subst (λ from. Numbered from c rest) (sym same) behind
joined a b c (x ∷ front) rest ahead behind = (ahead.0, joined (a + 1) b c front rest ahead.1 behind)

alone : (a b : ℕ) (front : List ℕ) → Numbered a b front → Numbered a b (front ++ [])
alone a b front ahead = joined a b b front [] ahead refl

in_rows : (body : List Stmt) → declared_in_row (hidden-the_row-Stmt-0 body) ≡ declared_in_list body
unfolding opened
in_rows [] = refl
in_rows (x ∷ rest) = ap (λ slots. declared_in x.kind ++ slots) (in_rows rest)

in_lists : (front rest : List Stmt) (a b c : ℕ) → Numbered a b (declared_in_list front) → Numbered b c (declared_in_list rest) → Numbered a c (declared_in_list (front ++ rest))
in_lists [] rest a b c same behind = subst (λ from. Numbered from c (declared_in_list rest)) (sym same) behind
in_lists (x ∷ front) rest a b c ahead behind = subst (Numbered a c) (sym (regrouped x front rest)) (joined a b c (declared_in_list (x ∷ front)) (declared_in_list rest) ahead behind)
  where
    appended : (front rest : List Stmt) → declared_in_list (front ++ rest) ≡ declared_in_list front ++ declared_in_list rest
    appended [] rest = refl
    appended (y ∷ front) rest = regrouped_by (declared_in y.kind) (declared_in_list (front ++ rest)) (declared_in_list front) (declared_in_list rest) (appended front rest)
      where
        regrouped_by : (xs all front rest : List ℕ) → all ≡ front ++ rest → xs ++ all ≡ (xs ++ front) ++ rest
        regrouped_by [] all front rest same = same
        regrouped_by (x ∷ xs) all front rest same = ap (λ ys. x ∷ ys) (regrouped_by xs all front rest same)

    regrouped : (x : Stmt) (front rest : List Stmt) → declared_in_list ((x ∷ front) ++ rest) ≡ declared_in_list (x ∷ front) ++ declared_in_list rest
    regrouped x front rest = appended (x ∷ front) rest

locals_numbered : (constant : Bool) (locals : List RawLocal) (e : Env) → Numbered (length e.variables) (length (declare_all constant locals e).variables) (declared_in_list (declares constant locals e))
locals_numbered constant [] e = refl
locals_numbered constant (l ∷ rest) e =
    let one_more : length (e.variables ++ l.name.at ∷ []) ≡ length e.variables + 1 = omega (arith, length-append e.variables (l.name.at ∷ [])) in (
      refl,
      subst (λ from. Numbered from (length (declare_all constant rest (declare_local constant l.name e)).variables) (declared_in_list (declares constant rest (declare_local constant l.name e)))) one_more
          (locals_numbered constant rest (declare_local constant l.name e)),
    )

first_numbered : (begin : RawFirst) (e : Env) → Numbered (length e.variables) (length (after_first begin e).variables) (declared_in_list (first_of begin e))
first_numbered (begins.Decl d) e = locals_numbered (is_constant d.ty.qualifiers) d.locals e
first_numbered (begins.Value None) e = refl
first_numbered (begins.Value (Some a)) e = refl

declared_in_option : Option Stmt → List ℕ
declared_in_option None = []
declared_in_option (Some x) = declared_in x.kind

if_numbered : (test : Expr) (body : Stmt) (other : Option Stmt) (a b c : ℕ) → Numbered a b (declared_in body.kind) → Numbered b c (declared_in_option other) → Numbered a c (declared_in (s.If test body other))
unfolding opened declared_in_option
if_numbered test body None a b c ahead behind = joined a b c (declared_in body.kind ++ []) [] (alone a b (declared_in body.kind) ahead) behind
if_numbered test body (Some x) a b c ahead behind =
    joined a b c (declared_in body.kind ++ []) (declared_in x.kind ++ []) (alone a b (declared_in body.kind) ahead) (alone b c (declared_in x.kind) behind)

for_numbered : (first : List Stmt) (test third : Option Expr) (body : Stmt) (a b c : ℕ) → Numbered a b (declared_in_list first) → Numbered b c (declared_in body.kind) →
    Numbered a c (declared_in (s.For first test third body))
unfolding opened
for_numbered first test third body a b c ahead behind =
    subst (λ slots. Numbered a c (slots ++ (declared_in body.kind ++ []))) (sym (in_rows first)) (joined a b c (declared_in_list first) (declared_in body.kind ++ []) ahead (alone b c (declared_in body.kind) behind))

among_numbered : (kind : RawStmtKind) (e : Env) (x : Stmt) → Numbered (length e.variables) (length (after kind e).variables) (declared_in x.kind) →
    Numbered (length e.variables) (length (after kind e).variables) (declared_in_list (among kind e x))
among_numbered (raw.Decl d) e x numbered = locals_numbered (is_constant d.ty.qualifiers) d.locals e
among_numbered kind e x numbered = alone (length e.variables) (length (after kind e).variables) (declared_in x.kind) numbered

mutual
  unfolding opened declared_in_option

  numbered_in : (at : Place) (kind : RawStmtKind) (e : Env) → Numbered (length e.variables) (length (after kind e).variables) (declared_in (typed at kind e).kind)
  numbered_in at (raw.Block' shape body) e = subst (Numbered (length e.variables) (length (after_row body e).variables)) (sym (in_rows (typed_row body e))) (numbered_row body e)
  numbered_in at (raw.Decl d) e =
      subst (Numbered (length e.variables) (length (declare_all (is_constant d.ty.qualifiers) d.locals e).variables)) (sym (in_rows (declares (is_constant d.ty.qualifiers) d.locals e)))
      (locals_numbered (is_constant d.ty.qualifiers) d.locals e)
  numbered_in at raw.Empty e = refl
  numbered_in at (raw.Value a) e = refl
  numbered_in at (raw.If' test shape body other) e =
      if_numbered (expression e.declared test) (typed_inner body e) (typed_held other (after_inner body e)) (length e.variables) (length (after_inner body e).variables)
      (length (after_held other (after_inner body e)).variables) (numbered_inner body e) (numbered_held other (after_inner body e))
  numbered_in at (raw.While' test shape body) e = alone (length e.variables) (length (after_inner body e).variables) (declared_in (typed_inner body e).kind) (numbered_inner body e)
  numbered_in at (raw.Do' shape body test) e = alone (length e.variables) (length (after_inner body e).variables) (declared_in (typed_inner body e).kind) (numbered_inner body e)
  numbered_in at (raw.For' begin test third shape body) e =
      for_numbered (first_of begin e) (option (after_first begin e).declared test) (option (after_first begin e).declared third) (typed_inner body (after_first begin e))
      (length e.variables) (length (after_first begin e).variables) (length (after_inner body (after_first begin e)).variables) (first_numbered begin e) (numbered_inner body (after_first begin e))
  numbered_in at raw.Break e = refl
  numbered_in at raw.Continue e = refl
  numbered_in at (raw.Return v) e = refl
  numbered_in at (raw.Spawn' low high shape body) e = subst (Numbered (length e.variables) (length (after_row body e).variables)) (sym (in_rows (typed_row body e))) (numbered_row body e)
  numbered_in at (raw.Ps v r) e = refl
  numbered_in at (raw.Psm v to) e = refl
  numbered_in at (raw.Print text values) e = refl

  numbered_inner : {n : _} (row : Row_of-RawStmt n) (e : Env) → Numbered (length e.variables) (length (after_inner row e).variables) (declared_in (typed_inner row e).kind)
  numbered_inner end_of-RawStmt e = refl
  numbered_inner (more_of-RawStmt at kind rest) e = numbered_in at kind e

  numbered_held : (held : Held-RawStmtKind-If-2) (e : Env) → Numbered (length e.variables) (length (after_held held e).variables) (declared_in_option (typed_held held e))
  numbered_held None' e = refl
  numbered_held (Some' shape body) e = numbered_inner body e

  numbered_row : {n : _} (row : Row_of-RawStmt n) (e : Env) → Numbered (length e.variables) (length (after_row row e).variables) (declared_in_list (typed_row row e))
  numbered_row end_of-RawStmt e = refl
  numbered_row (more_of-RawStmt at kind rest) e =
      in_lists (among kind e (typed at kind e)) (typed_row rest (after kind e)) (length e.variables) (length (after kind e).variables) (length (after_row rest (after kind e)).variables)
      (among_numbered kind e (typed at kind e) (numbered_in at kind e)) (numbered_row rest (after kind e))

pub numbered_body : (body : List RawStmt) (e : Env) → Numbered (length e.variables) (length (after_all body e).variables) (declared_in_list (typed_all body e))
numbered_body [] e = refl
numbered_body (x ∷ rest) e =
    in_lists (among x.kind e (typed x.at x.kind e)) (typed_all rest (after x.kind e)) (length e.variables) (length (after x.kind e).variables) (length (after_all rest (after x.kind e)).variables)
    (among_numbered x.kind e (typed x.at x.kind e) (numbered_in x.at x.kind e)) (numbered_body rest (after x.kind e))

-- ---- few variables so numbered differ

pub in_order : (from to : ℕ) (slots : List ℕ) → Numbered from to slots → from ≤ to
in_order from to [] same = omega arith
in_order from to (x ∷ rest) numbered = omega (arith, in_order (from + 1) to rest numbered.1)

pub not_below : (from to : ℕ) (slots : List ℕ) → Numbered from to slots → to ≤ 200 → All (λ slot. from ≤ slot) slots
not_below from to [] same few = All-nil (λ slot. from ≤ slot)
not_below from to (x ∷ rest) numbered few =
    All-cons (λ slot. from ≤ slot) x rest (omega (arith, numbered.0, in_order (from + 1) to rest numbered.1))
    (All-weaker (λ slot. from + 1 ≤ slot) (λ slot. from ≤ slot) (λ slot above. omega arith) rest (not_below (from + 1) to rest numbered.1 few))

pub differ : (from to : ℕ) (slots : List ℕ) → Numbered from to slots → to ≤ 200 → AllPairs (λ a b. a ≢ b) slots
differ from to [] same few = λ i j d less within. absurd (omega arith)
differ from to (x ∷ rest) numbered few =
    AllPairs-cons (λ a b. a ≢ b) x rest
    (All-weaker (λ slot. from + 1 ≤ slot) (λ slot. x ≢ slot) (λ slot above same. absurd (omega (arith, numbered.0, same))) rest (not_below (from + 1) to rest numbered.1 few))
    (differ (from + 1) to rest numbered.1 few)
