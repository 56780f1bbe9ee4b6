-- Where a test passes somewhere in a tree, and each expression that passes it passes one test of a family, one of these passes somewhere too.
use Rattle.std.proofs.Common.{◌≡◌, refl, Bool, true, false, List, [], ◌∷◌, Option, Some, None, inl, inr}
use Rattle.std.specs.Prelude.{◌||◌}
use Rattle.std.proofs.lemmas.Bool.{or_cases, false≢true}
use Rattle.std.specs.List.{list_any}
use Rattle.source_meaning.specs.declared.tree.Expr.{Expr}
use Rattle.source_meaning.specs.declared.tree.ExprKind.{ExprKind, Row_of-Expr, end_of-Expr, more_of-Expr}
use Rattle.source_meaning.specs.declared.tree.ExprKind.TheVariants as expr
use Rattle.source_meaning.specs.declared.tree.Spot.{Spot}
use Rattle.source_meaning.specs.declared.tree.Spot.TheVariants as spot
use Rattle.source_meaning.specs.declared.tree.Stmt.{Stmt}
use Rattle.source_meaning.specs.declared.tree.StmtKind.{StmtKind, Row_of-Stmt, end_of-Stmt, more_of-Stmt, Held-StmtKind-If-2, None', Some'}
use Rattle.source_meaning.specs.declared.tree.StmtKind.TheVariants as stmt
use Rattle.source_meaning.specs.Inside.{some_inside, some_in_spot, some_in_row, some_expression, some_option, some_of_statement, some_below, some_in_body, some_in_other, some_statement, some_in_list}

pub or_left : (x y : Bool) → x ≡ true → (x || y) ≡ true
or_left true y e = refl
or_left false y e = absurd (false≢true e)

pub or_right : (x y : Bool) → y ≡ true → (x || y) ≡ true
or_right true y e = refl
or_right false y e = e

module _ {A : Type 0} (Good : A → Type 0) where
  -- where the first passes, so does one of the second that is good
  abbrev pub Leads : Bool → (A → Bool) → Type 0
  Leads p q = p ≡ true → (a : A) × Good a × (q a ≡ true)

  nothing : (q : A → Bool) → Leads false q
  nothing q e = absurd (false≢true e)

  either : (p p' : Bool) (q q' : A → Bool) → Leads p q → Leads p' q' → Leads (p || p') (λ a. q a || q' a)
  either p p' q q' first second e =
      elim (or_cases p p' e) [
        | inl h ↦ let found = first h in (found.0, found.1, or_left (q found.0) (q' found.0) found.2)
        | inr h ↦ let found = second h in (found.0, found.1, or_right (q found.0) (q' found.0) found.2)
      ]

  module _ (p : ExprKind → Bool) (q : A → ExprKind → Bool) (each : (kind : ExprKind) → Leads (p kind) (λ a. q a kind)) where
    mutual
      leads_inside : (kind : ExprKind) → Leads (some_inside p kind) (λ a. some_inside (q a) kind)
      leads_inside (expr.Number n) = nothing (λ a. false)
      leads_inside expr.Dollar = nothing (λ a. false)
      leads_inside (expr.Read x) = leads_in_spot x
      leads_inside (expr.Assign' x shape e) = either (some_in_spot p x) (some_in_row p e) (λ a. some_in_spot (q a) x) (λ a. some_in_row (q a) e) (leads_in_spot x) (leads_in_row e)
      leads_inside (expr.Update' op x shape e) = either (some_in_spot p x) (some_in_row p e) (λ a. some_in_spot (q a) x) (λ a. some_in_row (q a) e) (leads_in_spot x) (leads_in_row e)
      leads_inside (expr.Step x up after) = leads_in_spot x
      leads_inside (expr.Unary' op shape e) = leads_in_row e
      leads_inside (expr.Binary' op left x right y) = either (some_in_row p x) (some_in_row p y) (λ a. some_in_row (q a) x) (λ a. some_in_row (q a) y) (leads_in_row x) (leads_in_row y)
      leads_inside (expr.Both' left x right y) = either (some_in_row p x) (some_in_row p y) (λ a. some_in_row (q a) x) (λ a. some_in_row (q a) y) (leads_in_row x) (leads_in_row y)
      leads_inside (expr.Either' left x right y) = either (some_in_row p x) (some_in_row p y) (λ a. some_in_row (q a) x) (λ a. some_in_row (q a) y) (leads_in_row x) (leads_in_row y)
      leads_inside (expr.Choose' first z left x right y) =
          either (some_in_row p z || some_in_row p x) (some_in_row p y) (λ a. some_in_row (q a) z || some_in_row (q a) x) (λ a. some_in_row (q a) y)
          (either (some_in_row p z) (some_in_row p x) (λ a. some_in_row (q a) z) (λ a. some_in_row (q a) x) (leads_in_row z) (leads_in_row x))
          (leads_in_row y)
      leads_inside (expr.Call' function shape values) = leads_in_row values

      leads_in_spot : (x : Spot) → Leads (some_in_spot p x) (λ a. some_in_spot (q a) x)
      leads_in_spot (spot.Global g) = nothing (λ a. false)
      leads_in_spot (spot.Element' g shape index) = leads_in_row index
      leads_in_spot (spot.Register r) = nothing (λ a. false)
      leads_in_spot (spot.Local slot) = nothing (λ a. false)

      leads_in_row : {n : _} → (row : Row_of-Expr n) → Leads (some_in_row p row) (λ a. some_in_row (q a) row)
      leads_in_row end_of-Expr = nothing (λ a. false)
      leads_in_row (more_of-Expr place kind rest) =
          either (p kind || some_inside p kind) (some_in_row p rest) (λ a. q a kind || some_inside (q a) kind) (λ a. some_in_row (q a) rest)
          (either (p kind) (some_inside p kind) (λ a. q a kind) (λ a. some_inside (q a) kind) (each kind) (leads_inside kind))
          (leads_in_row rest)

    leads_expression : (kind : ExprKind) → Leads (some_expression p kind) (λ a. some_expression (q a) kind)
    leads_expression kind = either (p kind) (some_inside p kind) (λ a. q a kind) (λ a. some_inside (q a) kind) (each kind) (leads_inside kind)

    leads_option : (e : Option Expr) → Leads (some_option p e) (λ a. some_option (q a) e)
    leads_option None = nothing (λ a. false)
    leads_option (Some e) = leads_expression e.kind

    leads_values : (values : List Expr) → Leads (list_any (λ e. some_expression p e.kind) values) (λ a. list_any (λ e. some_expression (q a) e.kind) values)
    leads_values [] = nothing (λ a. false)
    leads_values (e ∷ rest) =
        either (some_expression p e.kind) (list_any (λ x. some_expression p x.kind) rest) (λ a. some_expression (q a) e.kind) (λ a. list_any (λ x. some_expression (q a) x.kind) rest)
        (leads_expression e.kind) (leads_values rest)

    pub leads_of_statement : (s : StmtKind) → Leads (some_of_statement p s) (λ a. some_of_statement (q a) s)
    leads_of_statement stmt.Empty = nothing (λ a. false)
    leads_of_statement (stmt.Value e) = leads_expression e.kind
    leads_of_statement (stmt.Declare slot value) = leads_option value
    leads_of_statement (stmt.Block' shape body) = nothing (λ a. false)
    leads_of_statement (stmt.If' choice shape body other) = leads_expression choice.kind
    leads_of_statement (stmt.While' choice shape body) = leads_expression choice.kind
    leads_of_statement (stmt.Do' shape body choice) = leads_expression choice.kind
    leads_of_statement (stmt.For' first_shape first choice third shape body) =
        either (some_option p choice) (some_option p third) (λ a. some_option (q a) choice) (λ a. some_option (q a) third) (leads_option choice) (leads_option third)
    leads_of_statement stmt.Break = nothing (λ a. false)
    leads_of_statement stmt.Continue = nothing (λ a. false)
    leads_of_statement (stmt.Return value) = leads_option value
    leads_of_statement (stmt.Spawn' low high shape block) =
        either (some_expression p low.kind) (some_expression p high.kind) (λ a. some_expression (q a) low.kind) (λ a. some_expression (q a) high.kind) (leads_expression low.kind) (leads_expression high.kind)
    leads_of_statement (stmt.Ps v r) = leads_in_spot v
    leads_of_statement (stmt.Psm v x) = either (some_in_spot p v) (some_in_spot p x) (λ a. some_in_spot (q a) v) (λ a. some_in_spot (q a) x) (leads_in_spot v) (leads_in_spot x)
    leads_of_statement (stmt.Print text values) = leads_values values

  module _ (p : StmtKind → Bool) (q : A → StmtKind → Bool) (each : (s : StmtKind) → Leads (p s) (λ a. q a s)) where
    mutual
      leads_below : (s : StmtKind) → Leads (some_below p s) (λ a. some_below (q a) s)
      leads_below stmt.Empty = nothing (λ a. false)
      leads_below (stmt.Value e) = nothing (λ a. false)
      leads_below (stmt.Declare slot value) = nothing (λ a. false)
      leads_below (stmt.Block' shape body) = leads_in_body body
      leads_below (stmt.If' choice shape body other) =
          either (some_in_body p body) (some_in_other p other) (λ a. some_in_body (q a) body) (λ a. some_in_other (q a) other) (leads_in_body body) (leads_in_other other)
      leads_below (stmt.While' choice shape body) = leads_in_body body
      leads_below (stmt.Do' shape body choice) = leads_in_body body
      leads_below (stmt.For' first_shape first choice third shape body) =
          either (some_in_body p first) (some_in_body p body) (λ a. some_in_body (q a) first) (λ a. some_in_body (q a) body) (leads_in_body first) (leads_in_body body)
      leads_below stmt.Break = nothing (λ a. false)
      leads_below stmt.Continue = nothing (λ a. false)
      leads_below (stmt.Return value) = nothing (λ a. false)
      leads_below (stmt.Spawn' low high shape block) = leads_in_body block
      leads_below (stmt.Ps v r) = nothing (λ a. false)
      leads_below (stmt.Psm v x) = nothing (λ a. false)
      leads_below (stmt.Print text values) = nothing (λ a. false)

      leads_in_body : {n : _} → (row : Row_of-Stmt n) → Leads (some_in_body p row) (λ a. some_in_body (q a) row)
      leads_in_body end_of-Stmt = nothing (λ a. false)
      leads_in_body (more_of-Stmt place kind rest) =
          either (p kind || some_below p kind) (some_in_body p rest) (λ a. q a kind || some_below (q a) kind) (λ a. some_in_body (q a) rest)
          (either (p kind) (some_below p kind) (λ a. q a kind) (λ a. some_below (q a) kind) (each kind) (leads_below kind))
          (leads_in_body rest)

      leads_in_other : (other : Held-StmtKind-If-2) → Leads (some_in_other p other) (λ a. some_in_other (q a) other)
      leads_in_other None' = nothing (λ a. false)
      leads_in_other (Some' shape body) = leads_in_body body

    pub leads_in_list : (body : List Stmt) → Leads (some_in_list p body) (λ a. some_in_list (q a) body)
    leads_in_list [] = nothing (λ a. false)
    leads_in_list (s ∷ rest) =
        either (some_statement p s.kind) (some_in_list p rest) (λ a. some_statement (q a) s.kind) (λ a. some_in_list (q a) rest)
        (either (p s.kind) (some_below p s.kind) (λ a. q a s.kind) (λ a. some_below (q a) s.kind) (each s.kind) (leads_below s.kind))
        (leads_in_list rest)
