-- The things of a thin program of which the rules of spawn blocks speak.
use Rattle.std.proofs.Common.{◌≡◌, refl, sym, ap, subst, arith, ℕ, suc, zero, ◌<◌, Bool, true, false, List, [], ◌∷◌, ◌++◌, length, Some, None}
use Rattle.std.specs.Prelude.{slice_index_or}
use Rattle.xmt_base.specs.declared.values.Place.{Place}
use Rattle.source_meaning.specs.declared.tree.Spot.{Spot}
use Rattle.source_meaning.specs.declared.tree.Expr.{Expr}
use Rattle.source_meaning.specs.declared.tree.ExprKind.TheVariants as expr
use Rattle.source_meaning.specs.declared.tree.Stmt.{Stmt}
use Rattle.source_meaning.specs.declared.tree.StmtKind.TheVariants as stmt
use Rattle.source_meaning.specs.declared.tree.StmtKind.TheBlock.{hidden-the_row-Stmt-0}
use Rattle.source_meaning.specs.declared.tree.GlobalVar.{GlobalVar}
use Rattle.source_meaning.specs.declared.tree.Program.{Program}
use Rattle.source_meaning.specs.Opened.{opened}
use Rattle.thin_source.specs.Tokens.{Text}
use Rattle.thin_source.specs.Names.{Context, within_block}
use Rattle.thin_law.proofs.SameTokens.{context_of}
use Rattle.thin_source.specs.Grammar as thin
use Rattle.thin_source.specs.Statements as code
use Rattle.thin_source.specs.Thin.{IsThin, main_program}
use Rattle.spawn_check.specs.Things.{Stands, in_loop, of_expression, of_spot, of_statement, of_body, of_statements, single, occurrence, occurrences}
use Rattle.spawn_check.specs.First.{kind_of}
use Rattle.spawn_check.specs.Table.{dollar_outside, return_inside, jump_out, nested, print_inside, call_prints, call_spawns, MeetsNone}

-- The types of things belong to their crate, so each is told here by a function on it.
abbrev first_type : {A B : Type 0} → (A → B) → Type 0
first_type {A = A} f = A

abbrev Thing : Type 0
Thing = first_type occurrence

abbrev Around : Type 0
Around = first_type in_loop

abbrev Occurrence : Type 0
Occurrence = first_type single

abbrev Marks : Type 0
Marks = first_type kind_of

-- whatever is marked, the thing meets no line of the table
abbrev IsAllowed : Thing → (inside looped : Bool) → Type 0
IsAllowed thing inside looped = (marks : Marks) → kind_of marks thing inside looped ≡ None

abbrev AreAllowed : List Occurrence → Type 0
AreAllowed [] = Unit {0}
AreAllowed (o ∷ os) = IsAllowed o.thing o.around.inside o.around.looped × AreAllowed os

abbrev behind : List Occurrence → List Occurrence → List Occurrence
behind before rest = before ++ rest

both : (xs ys : List Occurrence) → AreAllowed xs → AreAllowed ys → AreAllowed (xs ++ ys)
both [] ys first second = second
both (x ∷ xs) ys first second = (first.0, both xs ys first.1 second)

parts : (xs ys : List Occurrence) → AreAllowed (xs ++ ys) → AreAllowed xs × AreAllowed ys
parts [] ys all = (tt, all)
parts (x ∷ xs) ys all = let others = parts xs ys all.1 in ((all.0, others.0), others.1)

at_place : (os : List Occurrence) (k : ℕ) (o : Occurrence) → AreAllowed os → k < length os → slice_index_or os k o ≡ o → IsAllowed o.thing o.around.inside o.around.looped
at_place [] k o all within is = absurd (omega arith)
at_place (x ∷ os) zero o all within is = subst (λ (y : Occurrence). IsAllowed y.thing y.around.inside y.around.looped) is all.0
at_place (x ∷ os) (suc k) o all within is = at_place os k o all.1 (omega arith) is

-- ---- the things of expressions and statements

-- inside a block or outside of it, with no loop
abbrev around : (inside : Bool) → Around
around inside = record { inside = inside; looped = false }

abbrev of_expr : (inside : Bool) → Expr → List Occurrence
of_expr inside a = of_expression [] behind single (around inside) a.at a.kind

abbrev of_place : (inside : Bool) → Spot → List Occurrence
of_place inside p = of_spot [] behind single (around inside) p

abbrev of_stmt : (inside : Bool) → Stmt → List Occurrence
of_stmt inside s = of_statement [] behind single (around inside) s.at s.kind

abbrev of_stmts : (inside : Bool) → List Stmt → List Occurrence
of_stmts inside body = of_statements [] behind single (around inside) body

dollar_allowed : (inside : Bool) (p : Place) → inside ≡ true → AreAllowed (of_expr inside (thin.node p expr.Dollar))
dollar_allowed true p is = (λ marks. refl, tt)
dollar_allowed false p is = absurd (cc)

print_allowed : (inside : Bool) (p : Place) (a : Expr) → inside ≡ false → AreAllowed (of_expr inside a ++ []) → AreAllowed (of_stmt inside (code.statement p (stmt.Print code.printed (a ∷ []))))
print_allowed true p a is all = absurd (cc)
print_allowed false p a is all = (λ marks. refl, all)

module _ (c : Context) where
  -- alone in a row
  alone : (a : Expr) → AreAllowed (of_expr c.inside a) → AreAllowed (of_expr c.inside a ++ [])
  alone a all = both (of_expr c.inside a) [] all tt

  mutual
    unfolding opened

    spot_allowed : {n nodes : ℕ} {s : Spot} {p : Place} {x : thin.Tokens} → thin.SpellsSpot c n nodes s p x → AreAllowed (of_place c.inside s)
    spot_allowed (thin.scalar t k there) = tt
    spot_allowed (thin.element t o u {index = index} k there ko inner kc) = alone index (value_allowed inner)

    value_allowed : {n nodes : ℕ} {l : thin.Level} {a : Expr} {x : thin.Tokens} → thin.Spells c n nodes l a x → AreAllowed (of_expr c.inside a)
    value_allowed (thin.number t k) = tt
    value_allowed (thin.dollar t k inside) = dollar_allowed c.inside t.place inside
    value_allowed (thin.read spot) = spot_allowed spot
    value_allowed (thin.brackets o u ko inner kc) = value_allowed inner
    value_allowed (thin.product t {a = a} {b = b} left is right) = both (of_expr c.inside a ++ []) (of_expr c.inside b ++ []) (alone a (value_allowed left)) (alone b (value_allowed right))
    value_allowed (thin.sum t {a = a} {b = b} left is right) = both (of_expr c.inside a ++ []) (of_expr c.inside b ++ []) (alone a (value_allowed left)) (alone b (value_allowed right))
    value_allowed (thin.as_product inner) = value_allowed inner
    value_allowed (thin.as_sum inner) = value_allowed inner

  statement_allowed : {n nodes : ℕ} {s : Stmt} {x : thin.Tokens} → code.SpellsStmt c n nodes s x → AreAllowed (of_stmt c.inside s)
  unfolding opened
  statement_allowed (code.assignment equals semicolon {s = s} {a = a} spot ke value ks) = both (of_place c.inside s) (of_expr c.inside a ++ []) (spot_allowed spot) (alone a (value_allowed value))
  statement_allowed (code.print word o text comma u semicolon {a = a} outside kw ko kt kc value kr ks) = print_allowed c.inside word.place a outside (alone a (value_allowed value))

  statements_allowed : {n nodes : ℕ} {body : List Stmt} {x : thin.Tokens} → code.SpellsStmts c n nodes body x → AreAllowed (of_stmts c.inside body)
  statements_allowed code.none = tt
  statements_allowed (code.more {s = s} {rest = rest} first others) = both (of_stmt c.inside s) (of_stmts c.inside rest) (statement_allowed first) (statements_allowed others)

-- ---- the body of `main`

in_row : (inside : Bool) (body : List Stmt) → of_body [] behind single (around inside) (hidden-the_row-Stmt-0 body) ≡ of_stmts inside body
unfolding opened
in_row inside [] = refl
in_row inside (s ∷ rest) = ap (λ os. of_stmt inside s ++ os) (in_row inside rest)

spawn_with : (p : Place) (low high : Expr) (block : List Stmt) → AreAllowed (of_expr false low) → AreAllowed (of_expr false high) → AreAllowed (of_stmts true block) →
    AreAllowed (of_stmt false (code.statement p (stmt.Spawn low high block)))
unfolding opened
spawn_with p low high block first last inner =
    let within = of_body [] behind single (around true) (hidden-the_row-Stmt-0 block) in
    (λ marks. refl, both (of_expr false low) (of_expr false high ++ within) first (both (of_expr false high) within last (subst AreAllowed (sym (in_row true block)) inner)))

together : (before others : List Stmt) → AreAllowed (of_stmts false before) → AreAllowed (of_stmts false others) → AreAllowed (of_stmts false (before ++ others))
together [] others first second = second
together (s ∷ before) others first second =
    let apart = parts (of_stmt false s) (of_stmts false before) first in
    both (of_stmt false s) (of_stmts false (before ++ others)) apart.0 (together before others apart.1 second)

module _ (source : Text) (globals : List GlobalVar) where
  abbrev outside : Context
  outside = context_of source globals

  spawn_allowed : {n nodes : ℕ} {s : Stmt} {x : thin.Tokens} → code.SpellsSpawn outside n nodes s x → AreAllowed (of_stmt false s)
  spawn_allowed (code.spawn word o comma u brace closing {low = low} {high = high} {block = block} kw ko first kc last kr kb inner kz) =
      spawn_with word.place low high block (value_allowed outside first) (value_allowed outside last) (statements_allowed (within_block outside) inner)

  body_allowed : {n nodes : ℕ} {body : List Stmt} {x : thin.Tokens} → code.SpellsBody outside n nodes body x → AreAllowed (of_stmts false body)
  body_allowed (code.serial statements) = statements_allowed outside statements
  body_allowed (code.parallel {before = before} {behind = rest} {s = s} first block last) =
      together before (s ∷ rest) (statements_allowed outside first) (both (of_stmt false s) (of_stmts false rest) (spawn_allowed block) (statements_allowed outside last))

source_allowed : (source : Text) {n nodes : ℕ} {globals : List GlobalVar} {body : List Stmt} {ts : thin.Tokens} → code.SpellsSource source n nodes globals body ts → AreAllowed (of_stmts false body)
source_allowed source (code.whole main o u brace closing {globals = globals} declared km ko kc kb inner kz) = body_allowed source globals inner

-- ---- the rules

allowed : (program : Program) → AreAllowed (occurrences program) → {thing : Thing} {place : Place} {inside looped : Bool} → Stands program thing place inside looped → IsAllowed thing inside looped
allowed program all {thing = thing} {place = place} {inside = inside} {looped = looped} stands =
    at_place (occurrences program) stands.found.0 (occurrence thing place (record { inside = inside; looped = looped })) all stands.found.1 stands.found.2

wrong : {A : Type 0} {a : A} → Some a ≡ None → ⊥
wrong h = absurd (cc)

-- marks of the functions up to one
abbrev up_to : ℕ → List Bool
up_to zero = true ∷ []
up_to (suc f) = true ∷ up_to f

marked : (f : ℕ) → slice_index_or (up_to f) f false ≡ true
marked zero = refl
marked (suc f) = marked f

no_marks : Marks
no_marks = record { prints = []; spawns = [] }

-- where all things are allowed, no rule is broken
meets_none : (program : Program) → AreAllowed (occurrences program) → MeetsNone program
meets_none program all kind place (dollar_outside stands) = wrong (allowed program all stands no_marks)
meets_none program all kind place (return_inside stands) = wrong (allowed program all stands no_marks)
meets_none program all kind place (jump_out {inside = inside} stands) = wrong (allowed program all stands no_marks)
meets_none program all kind place (nested stands) = wrong (allowed program all stands no_marks)
meets_none program all kind place (print_inside stands) = wrong (allowed program all stands no_marks)
meets_none program all kind place (call_prints {f = f} stands reaches) = let met = rw (marked f) at (allowed program all stands (record { prints = up_to f; spawns = [] })) in wrong met
meets_none program all kind place (call_spawns {f = f} stands reaches) = let met = rw (marked f) at (allowed program all stands (record { prints = []; spawns = up_to f })) in wrong met

main_meets_none : (globals : List GlobalVar) (body : List Stmt) → AreAllowed (of_stmts false body) → MeetsNone (main_program globals body)
main_meets_none globals body all = meets_none (main_program globals body) (both (of_stmts false body) [] all tt)

pub no_refusal : (source : Text) (program : Program) → IsThin source program → MeetsNone program
no_refusal source program thin = subst MeetsNone (sym thin.is_program) (main_meets_none thin.globals thin.body (source_allowed source thin.spelled))
