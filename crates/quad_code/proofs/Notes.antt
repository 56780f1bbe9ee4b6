-- The notes of code fit its place: spawns have their numbers and the places behind their joins, and prints their texts.
use Rattle.std.proofs.Common.{◌≡◌, refl, sym, ◌∙◌, ap, subst, arith, ℕ, suc, ◌+◌, true, false, if◌then◌else◌, List, [], ◌∷◌, ◌++◌, length, Option, Some, None}
use Rattle.std.specs.Prelude.{Bool, slice_get}
use Rattle.source_meaning.specs.declared.tree.ExprKind.{ExprKind, Row_of-Expr, end_of-Expr, more_of-Expr}
use Rattle.source_meaning.specs.declared.tree.ExprKind.TheVariants as expr
use Rattle.source_meaning.specs.declared.tree.Spot.{Spot}
use Rattle.source_meaning.specs.declared.tree.Spot.TheVariants as spot
use Rattle.xmt_base.specs.declared.operators.BinOp.TheVariants.{Ne}
use Rattle.xmt_quads.specs.declared.code.Operand.{Operand}
use Rattle.xmt_quads.specs.declared.code.Operand.TheVariants.{Reg, Literal}
use Rattle.xmt_quads.specs.declared.code.Quad.{Quad}
use Rattle.xmt_quads.specs.declared.code.Quad.TheVariants as quad
use Rattle.xmt_quads.specs.Program.{is_spawn}
use Rattle.quad_code.specs.declared.Access.{Access}
use Rattle.quad_code.specs.declared.Access.TheVariants.{Own, Common}
use Rattle.quad_code.specs.Lined.{Note, Plain, Spawns, Prints, Lined, lined, one, code_then, choice}
use Rattle.quad_code.specs.Statements.{sum_at}
use Rattle.quad_code.specs.Expressions.{boxed_operand, held, reading, writing, adding, access_of, code_at, boxed_at, spot_at, values_at, arguments_of}

abbrev pub is_join : Quad → Bool
is_join quad.Join = true
is_join _ = false

-- how many quads stand before the first join, if there is one
abbrev pub next_join : Option ℕ → Option ℕ
next_join None = None
next_join (Some d) = Some (suc d)

abbrev pub joins_in : List Lined → Option ℕ
joins_in [] = None
joins_in (l ∷ rest) = if is_join l.quad then Some 0 else next_join (joins_in rest)

abbrev pub code_spawns : List Lined → ℕ
code_spawns [] = 0
code_spawns (l ∷ rest) = is_spawn l.quad + code_spawns rest

-- a note, at a place with so many spawns before, in front of this code
abbrev pub NoteFits : (texts : List (List ℕ)) (at spawned : ℕ) (rest : List Lined) → Quad → Note → Type 0
NoteFits texts at spawned rest q Plain = Unit {0}
NoteFits texts at spawned rest q (Spawns site behind) = (spawned ≡ site) × ((d : ℕ) × (joins_in rest ≡ Some d) × (at + 1 + d + 1 ≡ behind)) × (is_join q ≡ false)
NoteFits texts at spawned rest (quad.Print number) (Prints text) = slice_get texts number ≡ Some text
NoteFits texts at spawned rest q (Prints text) = Unit {0}

abbrev pub AreNoted : (texts : List (List ℕ)) (at spawned : ℕ) → List Lined → Type 0
AreNoted texts at spawned [] = Unit {0}
AreNoted texts at spawned (l ∷ rest) = NoteFits texts at spawned rest l.quad l.note × AreNoted texts (at + 1) (spawned + is_spawn l.quad) rest

-- ---- one code behind another

pub joins_before : (a b : List Lined) (d : ℕ) → joins_in a ≡ Some d → joins_in (a ++ b) ≡ Some d
joins_before [] b d h = cc
joins_before (l ∷ a) b d h = by (is_join l.quad) refl (joins_in a) refl (λ e is. joins_before a b e is)
  where
    by : (j : Bool) → is_join l.quad ≡ j → (o : Option ℕ) → joins_in a ≡ o → ((e : ℕ) → joins_in a ≡ Some e → joins_in (a ++ b) ≡ Some e) → joins_in ((l ∷ a) ++ b) ≡ Some d
    by true e o is further = rw e (sym (ap (λ j. if j then Some 0 else next_join (joins_in a)) e) ∙ h)
    by false e None is further = let no : joins_in (l ∷ a) ≡ None = ap (λ j. if j then Some 0 else next_join (joins_in a)) e ∙ ap next_join is in cc
    by false e (Some x) is further =
        let this : joins_in (l ∷ a) ≡ Some (suc x) = ap (λ j. if j then Some 0 else next_join (joins_in a)) e ∙ ap next_join is in
        ap (λ j. if j then Some 0 else next_join (joins_in (a ++ b))) e ∙ ap next_join (further x is) ∙ sym this ∙ h

pub joins_behind : (a b : List Lined) (d : ℕ) → joins_in a ≡ None → joins_in b ≡ Some d → joins_in (a ++ b) ≡ Some (length a + d)
joins_behind [] b d none h = let e : d ≡ 0 + d = omega arith in h ∙ ap (λ d. Some d) e
joins_behind (l ∷ a) b d none h = by (is_join l.quad) refl (joins_in a) refl (λ none. joins_behind a b d none h)
  where
    by : (j : Bool) → is_join l.quad ≡ j → (o : Option ℕ) → joins_in a ≡ o → (joins_in a ≡ None → joins_in (a ++ b) ≡ Some (length a + d)) → joins_in ((l ∷ a) ++ b) ≡ Some (length (l ∷ a) + d)
    by true e o is further = let no : joins_in (l ∷ a) ≡ Some 0 = ap (λ j. if j then Some 0 else next_join (joins_in a)) e in cc
    by false e (Some x) is further = let no : joins_in (l ∷ a) ≡ Some (suc x) = ap (λ j. if j then Some 0 else next_join (joins_in a)) e ∙ ap next_join is in cc
    by false e None is further =
        let long : suc (length a + d) ≡ length (l ∷ a) + d = omega arith in
        ap (λ j. if j then Some 0 else next_join (joins_in (a ++ b))) e ∙ ap next_join (further is) ∙ ap (λ d. Some d) long

pub no_joins : (a b : List Lined) → joins_in a ≡ None → joins_in b ≡ None → joins_in (a ++ b) ≡ None
no_joins [] b none h = h
no_joins (l ∷ a) b none h = by (is_join l.quad) refl (joins_in a) refl (λ none. no_joins a b none h)
  where
    by : (j : Bool) → is_join l.quad ≡ j → (o : Option ℕ) → joins_in a ≡ o → (joins_in a ≡ None → joins_in (a ++ b) ≡ None) → joins_in ((l ∷ a) ++ b) ≡ None
    by true e o is further = let no : joins_in (l ∷ a) ≡ Some 0 = ap (λ j. if j then Some 0 else next_join (joins_in a)) e in cc
    by false e (Some x) is further = let no : joins_in (l ∷ a) ≡ Some (suc x) = ap (λ j. if j then Some 0 else next_join (joins_in a)) e ∙ ap next_join is in cc
    by false e None is further = ap (λ j. if j then Some 0 else next_join (joins_in (a ++ b))) e ∙ ap next_join (further is)

pub spawns-append : (a b : List Lined) → code_spawns (a ++ b) ≡ code_spawns a + code_spawns b
spawns-append [] b = omega arith
spawns-append (l ∷ a) b = let rest = spawns-append a b in omega (arith, rest)

note_before : (texts : List (List ℕ)) (at spawned : ℕ) (rest more : List Lined) (q : Quad) (n : Note) → NoteFits texts at spawned rest q n → NoteFits texts at spawned (rest ++ more) q n
note_before texts at spawned rest more q Plain h = tt
note_before texts at spawned rest more q (Spawns site behind) h = (h.0, (h.1.0, joins_before rest more h.1.0 h.1.1, h.1.2), h.2)
note_before texts at spawned rest more (quad.Print number) (Prints text) h = h
note_before texts at spawned rest more _ (Prints text) h = h

-- Code with its notes in place at a position, with so many spawns before and so many in it; where no spawn may stand there is no join.
pub record Noted (texts : List (List ℕ)) (at spawned count : ℕ) (MayJoin : Type 0) (code : List Lined) : Type 0 where
  pub notes : AreNoted texts at spawned code
  pub spawns : code_spawns code ≡ count
  pub joins : (MayJoin → ⊥) → joins_in code ≡ None

module _ (texts : List (List ℕ)) (MayJoin : Type 0) where
  notes-append : (at spawned : ℕ) (a b : List Lined) → AreNoted texts at spawned a → AreNoted texts (at + length a) (spawned + code_spawns a) b → AreNoted texts at spawned (a ++ b)
  notes-append at spawned [] b h k =
      let here : at + 0 ≡ at = omega arith in
      let same : spawned + 0 ≡ spawned = omega arith in
      subst (λ at. AreNoted texts at spawned b) here (subst (λ spawned. AreNoted texts (at + 0) spawned b) same k)
  notes-append at spawned (l ∷ a) b h k =
      let here : at + length (l ∷ a) ≡ at + 1 + length a = omega arith in
      let same : spawned + code_spawns (l ∷ a) ≡ spawned + is_spawn l.quad + code_spawns a = omega arith in (
        note_before texts at spawned a b l.quad l.note h.0,
        notes-append (at + 1) (spawned + is_spawn l.quad) a b h.1
            (subst (λ at. AreNoted texts at (spawned + is_spawn l.quad + code_spawns a) b) here (subst (λ spawned. AreNoted texts (at + length (l ∷ a)) spawned b) same k)),
      )

  pub noted-append : (at spawned m n total : ℕ) (a b : List Lined) → Noted texts at spawned m MayJoin a → Noted texts (at + length a) (spawned + m) n MayJoin b → m + n ≡ total → Noted texts at spawned total MayJoin (a ++ b)
  noted-append at spawned m n total a b first second sum =
      record {
        notes = notes-append at spawned a b first.notes (subst (λ m. AreNoted texts (at + length a) (spawned + m) b) (sym first.spawns) second.notes);
        spawns = spawns-append a b ∙ ap (λ m. m + code_spawns b) first.spawns ∙ ap (λ n. m + n) second.spawns ∙ sum;
        joins = λ never. no_joins a b (first.joins never) (second.joins never);
      }

  pub noted_at : (at to spawned other n : ℕ) (code : List Lined) → at ≡ to → spawned ≡ other → Noted texts at spawned n MayJoin code → Noted texts to other n MayJoin code
  noted_at at to spawned other n code here same h = subst (λ at. Noted texts at other n MayJoin code) here (subst (λ spawned. Noted texts at spawned n MayJoin code) same h)

  pub none_noted : (at spawned : ℕ) → Noted texts at spawned 0 MayJoin []
  none_noted at spawned = record { notes = tt; spawns = refl; joins = λ never. refl }

  -- a quad that is no spawn and no join, in front of code
  pub plain_noted : (at spawned n line : ℕ) (q : Quad) (rest : List Lined) → is_spawn q ≡ 0 → is_join q ≡ false → Noted texts (at + 1) spawned n MayJoin rest → Noted texts at spawned n MayJoin (lined line q ∷ rest)
  plain_noted at spawned n line q rest plain inside h =
      let same : spawned ≡ spawned + is_spawn q = omega (arith, plain) in
      record {
        notes = (tt, subst (λ spawned. AreNoted texts (at + 1) spawned rest) same h.notes);
        spawns = ap (λ m. m + code_spawns rest) plain ∙ (let none : 0 + code_spawns rest ≡ n = omega (arith, h.spawns) in none);
        joins = λ never. ap (λ j. if j then Some 0 else next_join (joins_in rest)) inside ∙ ap next_join (h.joins never);
      }

-- ---- code without spawns, prints and joins

abbrev pub IsQuiet : Lined → Type 0
IsQuiet l = (l.note ≡ Plain) × (is_spawn l.quad ≡ 0) × (is_join l.quad ≡ false)

abbrev pub AreQuiet : List Lined → Type 0
AreQuiet [] = Unit {0}
AreQuiet (l ∷ rest) = IsQuiet l × AreQuiet rest

pub quiet-append : (a b : List Lined) → AreQuiet a → AreQuiet b → AreQuiet (a ++ b)
quiet-append [] b h k = k
quiet-append (l ∷ a) b h k = (h.0, quiet-append a b h.1 k)

pub quiet_noted : (texts : List (List ℕ)) (MayJoin : Type 0) (at spawned : ℕ) (code : List Lined) → AreQuiet code → Noted texts at spawned 0 MayJoin code
quiet_noted texts MayJoin at spawned [] h = none_noted texts MayJoin at spawned
quiet_noted texts MayJoin at spawned (l ∷ rest) h =
    let others = quiet_noted texts MayJoin (at + 1) spawned rest h.1 in
    let same : spawned ≡ spawned + is_spawn l.quad = omega (arith, h.0.1) in
    record {
      notes = (subst (NoteFits texts at spawned rest l.quad) (sym h.0.0) tt, subst (λ spawned. AreNoted texts (at + 1) spawned rest) same others.notes);
      spawns = ap (λ m. m + code_spawns rest) h.0.1 ∙ (let none : 0 + code_spawns rest ≡ 0 = omega (arith, others.spawns) in none);
      joins = λ never. ap (λ j. if j then Some 0 else next_join (joins_in rest)) h.0.2 ∙ ap next_join (others.joins never);
    }

reading_quiet : (r line : ℕ) (a : Access) → IsQuiet (lined line (reading r a))
reading_quiet r line (Own x) = (refl, refl, refl)
reading_quiet r line (Common place) = (refl, refl, refl)

pub writing_quiet : (line : ℕ) (a : Access) (o : Operand) → IsQuiet (lined line (writing a o))
writing_quiet line (Own x) o = (refl, refl, refl)
writing_quiet line (Common place) o = (refl, refl, refl)

adding_quiet : (line old : ℕ) (a : Access) (o : Operand) → AreQuiet (adding line old a o)
adding_quiet line old (Own x) o = ((refl, refl, refl), ((refl, refl, refl), tt))
adding_quiet line old (Common place) o = ((refl, refl, refl), tt)

quiet_choice : (line at : ℕ) (skip : ℕ → Quad) (first second : ℕ → List Lined) → ((to : ℕ) → IsQuiet (lined line (skip to))) → ((at : ℕ) → AreQuiet (first at)) → ((at : ℕ) → AreQuiet (second at)) → AreQuiet (choice line at skip first second)
quiet_choice line at skip first second quiet a b =
    let middle = at + 1 + length (first (at + 1)) + 1 in
    (quiet middle, quiet-append (first (at + 1)) (lined line (quad.Jump (middle + length (second middle))) ∷ second middle) (a (at + 1)) ((refl, refl, refl), b middle))

module _ (base_of size_of : ℕ → ℕ) (outer : ℕ → Option ℕ) where
  abbrev box : (at r : ℕ) → {m : _} → Row_of-Expr m → List Lined
  box at r row = boxed_at base_of size_of outer at r row

  -- a box, and one quad behind it
  abbrev boxed_then : (line r : ℕ) → {m : _} → Row_of-Expr m → Quad → (at : ℕ) → List Lined
  boxed_then line r row q at = code_then at (box at r row) (λ at. one line q)

  mutual
    pub expression_quiet : (k : ExprKind) (at r line : ℕ) → AreQuiet (code_at base_of size_of outer at r line k)
    expression_quiet (expr.Number v) at r line = tt
    expression_quiet expr.Dollar at r line = ((refl, refl, refl), tt)
    expression_quiet (expr.Read p) at r line = quiet-append _ _ (spot_quiet p at r line) (reading_quiet r line (access_of base_of size_of outer r p), tt)
    expression_quiet (expr.Assign' p shape e) at r line =
        quiet-append _ _ (spot_quiet p at r line) (quiet-append _ _ (box_quiet e _ _) (writing_quiet line (access_of base_of size_of outer r p) _, ((refl, refl, refl), tt)))
    expression_quiet (expr.Update' op p shape e) at r line =
        quiet-append _ _ (spot_quiet p at r line)
        (reading_quiet _ line (access_of base_of size_of outer r p), quiet-append _ _ (box_quiet e _ _) ((refl, refl, refl), (writing_quiet line (access_of base_of size_of outer r p) _, ((refl, refl, refl), tt))))
    expression_quiet (expr.Step p up after) at r line =
        quiet-append _ _ (spot_quiet p at r line)
        (reading_quiet _ line (access_of base_of size_of outer r p), ((refl, refl, refl), (writing_quiet line (access_of base_of size_of outer r p) _, ((refl, refl, refl), tt))))
    expression_quiet (expr.Unary' op shape e) at r line = quiet-append _ _ (box_quiet e at r) ((refl, refl, refl), tt)
    expression_quiet (expr.Binary' op left a right b) at r line = quiet-append _ _ (box_quiet a at r) (quiet-append _ _ (box_quiet b _ _) ((refl, refl, refl), tt))
    expression_quiet (expr.Both' left a right b) at r line =
        quiet-append _ _ (box_quiet a at r)
        (quiet_choice line (at + length (box at r a)) (quad.IfZero (boxed_operand r a)) (boxed_then line r b (quad.Binary Ne r (boxed_operand r b) (Literal 0))) (λ at. one line (quad.Copy r (Literal 0)))
        (λ to. (refl, refl, refl)) (λ at. quiet-append (box at r b) _ (box_quiet b at r) ((refl, refl, refl), tt)) (λ at. ((refl, refl, refl), tt)))
    expression_quiet (expr.Either' left a right b) at r line =
        quiet-append _ _ (box_quiet a at r)
        (quiet_choice line (at + length (box at r a)) (quad.IfNot (boxed_operand r a)) (boxed_then line r b (quad.Binary Ne r (boxed_operand r b) (Literal 0))) (λ at. one line (quad.Copy r (Literal 1)))
        (λ to. (refl, refl, refl)) (λ at. quiet-append (box at r b) _ (box_quiet b at r) ((refl, refl, refl), tt)) (λ at. ((refl, refl, refl), tt)))
    expression_quiet (expr.Choose' shape test left a right b) at r line =
        quiet-append _ _ (box_quiet test at r)
        (quiet_choice line (at + length (box at r test)) (quad.IfZero (boxed_operand r test)) (boxed_then line r a (quad.Copy r (boxed_operand r a))) (boxed_then line r b (quad.Copy r (boxed_operand r b)))
        (λ to. (refl, refl, refl)) (λ at. quiet-append (box at r a) _ (box_quiet a at r) ((refl, refl, refl), tt)) (λ at. quiet-append (box at r b) _ (box_quiet b at r) ((refl, refl, refl), tt)))
    expression_quiet (expr.Call' function shape values) at r line =
        quiet-append _ _ (values_quiet values at r) (quiet-append _ _ (arguments_quiet values line 0 r) ((refl, refl, refl), ((refl, refl, refl), tt)))

    spot_quiet : (p : Spot) (at r line : ℕ) → AreQuiet (spot_at base_of size_of outer at r line p)
    spot_quiet (spot.Element' g shape index) at r line = quiet-append _ _ (box_quiet index at r) ((refl, refl, refl), tt)
    spot_quiet (spot.Global g) at r line = tt
    spot_quiet (spot.Register x) at r line = tt
    spot_quiet (spot.Local slot) at r line = tt

    box_quiet : {m : _} (row : Row_of-Expr m) (at r : ℕ) → AreQuiet (boxed_at base_of size_of outer at r row)
    box_quiet end_of-Expr at r = tt
    box_quiet (more_of-Expr place kind rest) at r = expression_quiet kind at r place.line

    pub values_quiet : {m : _} (row : Row_of-Expr m) (at r : ℕ) → AreQuiet (values_at base_of size_of outer at r row)
    values_quiet end_of-Expr at r = tt
    values_quiet (more_of-Expr place kind rest) at r = quiet-append _ _ (expression_quiet kind at r place.line) (values_quiet rest _ _)

    pub arguments_quiet : {m : _} (row : Row_of-Expr m) (line k r : ℕ) → AreQuiet (arguments_of base_of size_of outer line k r row)
    arguments_quiet end_of-Expr line k r = tt
    arguments_quiet (more_of-Expr place kind rest) line k r = ((refl, refl, refl), arguments_quiet rest line (k + 1) (r + 1))

  -- prefix-sums
  pub sum_quiet : (variables at line : ℕ) (v p : Spot) → AreQuiet (sum_at base_of size_of outer variables at line v p)
  sum_quiet variables at line v p =
      let r = variables + 1 in
      let old = r + held p in (
        reading_quiet variables line (access_of base_of size_of outer variables v),
        quiet-append (spot_at base_of size_of outer (at + 1) r line p) _ (spot_quiet p (at + 1) r line)
            (quiet-append (adding line old (access_of base_of size_of outer r p) (Reg variables)) _ (adding_quiet line old (access_of base_of size_of outer r p) (Reg variables))
            (writing_quiet line (access_of base_of size_of outer variables v) (Reg old), tt)),
      )
