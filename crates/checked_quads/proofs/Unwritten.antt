-- A variable that is neither known nor declared is not written, and no block shares it.
use Rattle.std.proofs.Common.{◌≡◌, refl, sym, ◌∙◌, ap, ℕ, Bool, true, false, List, [], ◌∷◌, Option, Some, None}
use Rattle.std.proofs.lemmas.Bool.{true≢false, and_left, eqb-true}
use Rattle.std.specs.Prelude.{◌||◌, ◌==◌, not, nat_lt}
use Rattle.std.specs.List.{list_any}
use Rattle.source_meaning.specs.declared.tree.Expr.{Expr}
use Rattle.source_meaning.specs.declared.tree.ExprKind.{ExprKind, Row_of-Expr, end_of-Expr, more_of-Expr}
use Rattle.source_meaning.specs.declared.tree.ExprKind.TheVariants as expr
use Rattle.source_meaning.specs.declared.tree.Spot.{Spot}
use Rattle.source_meaning.specs.declared.tree.Spot.TheVariants as spot
use Rattle.source_meaning.specs.declared.tree.StmtKind.{StmtKind, Row_of-Stmt, end_of-Stmt, more_of-Stmt, Held-StmtKind-If-2, None', Some'}
use Rattle.source_meaning.specs.declared.tree.StmtKind.TheVariants as stmt
use Rattle.source_meaning.specs.Inside.{some_inside, some_in_spot, some_in_row, some_expression, some_option, some_below, some_in_body, some_in_other, some_statement}
use Rattle.source_meaning.specs.Variables.{is_local, is_declaration, is_assignment, is_write, is_declared_in, is_written_in, is_sharing}
use Rattle.checked_programs.specs.Fits.{Known}
use Rattle.quad_code.specs.Rows.{row_of}
use Rattle.quad_code.specs.Known as quads
use Rattle.quad_code.specs.Known.{Region, InBlock, NamesKnown, SpotKnown, AllKnown, OptionKnown, StatementKnown, SequenceKnown, ElseKnown}
use Rattle.quad_limits.proofs.Sums.{summed_is_known}
use Rattle.checked_quads.proofs.Expressions.{first_none, second_none}

pub neither : {a b : Bool} → a ≡ false → b ≡ false → (a || b) ≡ false
neither {a = true} is other = is
neither {a = false} is other = other

module _ (globals : ℕ) (x : ℕ) where
  -- ---- expressions

  module _ (MayCall : (function values : ℕ) → Type 0) (l : Known) (unknown : l x ≡ false) where
    other_local : (slot : ℕ) → l slot ≡ true → (x == slot) ≡ false
    other_local slot known = chosen (x == slot) refl
      where
        chosen : (t : Bool) → (x == slot) ≡ t → (x == slot) ≡ false
        chosen true is = absurd (true≢false (sym known ∙ sym (ap l (eqb-true x slot is)) ∙ unknown))
        chosen false is = is

    not_local : (p : Spot) → SpotKnown globals MayCall l p → is_local x p ≡ false
    not_local (spot.Global g) known = refl
    not_local (spot.Element' g shape index) known = refl
    not_local (spot.Register r) known = refl
    not_local (spot.Local slot) known = other_local slot known

    not_assigned : (kind : ExprKind) → NamesKnown globals MayCall l kind → is_assignment x kind ≡ false
    not_assigned (expr.Number n) known = refl
    not_assigned expr.Dollar known = refl
    not_assigned (expr.Read p) known = refl
    not_assigned (expr.Assign' p shape e) known = not_local p known.0
    not_assigned (expr.Update' op p shape e) known = not_local p known.0
    not_assigned (expr.Step p up after) known = not_local p known
    not_assigned (expr.Unary' op shape e) known = refl
    not_assigned (expr.Binary' op left a right b) known = refl
    not_assigned (expr.Both' left a right b) known = refl
    not_assigned (expr.Either' left a right b) known = refl
    not_assigned (expr.Choose' first test left a right b) known = refl
    not_assigned (expr.Call' f shape values) known = refl

    mutual
      none_inside : (kind : ExprKind) → NamesKnown globals MayCall l kind → some_inside (is_assignment x) kind ≡ false
      none_inside (expr.Number n) known = refl
      none_inside expr.Dollar known = refl
      none_inside (expr.Read p) known = none_in_spot p known
      none_inside (expr.Assign' p shape e) known = neither (none_in_spot p known.0) (none_in_row e known.1)
      none_inside (expr.Update' op p shape e) known = neither (none_in_spot p known.0) (none_in_row e known.1)
      none_inside (expr.Step p up after) known = none_in_spot p known
      none_inside (expr.Unary' op shape e) known = none_in_row e known
      none_inside (expr.Binary' op left a right b) known = neither (none_in_row a known.0) (none_in_row b known.1)
      none_inside (expr.Both' left a right b) known = neither (none_in_row a known.0) (none_in_row b known.1)
      none_inside (expr.Either' left a right b) known = neither (none_in_row a known.0) (none_in_row b known.1)
      none_inside (expr.Choose' first test left a right b) known = neither (neither (none_in_row test known.0) (none_in_row a known.1)) (none_in_row b known.2)
      none_inside (expr.Call' f shape values) known = none_in_row values known.1

      none_in_spot : (p : Spot) → SpotKnown globals MayCall l p → some_in_spot (is_assignment x) p ≡ false
      none_in_spot (spot.Global g) known = refl
      none_in_spot (spot.Element' g shape index) known = none_in_row index known.1
      none_in_spot (spot.Register r) known = refl
      none_in_spot (spot.Local slot) known = refl

      none_in_row : {n : _} (row : Row_of-Expr n) → AllKnown globals MayCall l row → some_in_row (is_assignment x) row ≡ false
      none_in_row end_of-Expr known = refl
      none_in_row (more_of-Expr place kind rest) known = neither (neither (not_assigned kind known.0) (none_inside kind known.0)) (none_in_row rest known.1)

    whole : (kind : ExprKind) → NamesKnown globals MayCall l kind → some_expression (is_assignment x) kind ≡ false
    whole kind known = neither (not_assigned kind known) (none_inside kind known)

    optional : (e : Option Expr) → OptionKnown globals MayCall l e → some_option (is_assignment x) e ≡ false
    optional None known = refl
    optional (Some e) known = whole e.kind known

    values_none : (values : List Expr) → AllKnown globals MayCall l (row_of values) → list_any (λ (e : Expr). some_expression (is_assignment x) e.kind) values ≡ false
    values_none [] known = refl
    values_none (e ∷ rest) known = neither (whole e.kind known.0) (values_none rest known.1)

  -- ---- statements

  module _ (MayCall : Region → (function values : ℕ) → Type 0) (variables : ℕ) (outer : (slot : ℕ) → Option ℕ) where
    -- behind a statement that does not declare it the variable is as unknown as before
    pub still_unknown : (l : Known) (kind : StmtKind) → l x ≡ false → is_declaration x kind ≡ false → quads.declared variables l kind x ≡ false
    still_unknown l stmt.Empty unknown other = unknown
    still_unknown l (stmt.Value e) unknown other = unknown
    still_unknown l (stmt.Declare slot value) unknown other = neither unknown (and_left (x == slot) (nat_lt x variables) other)
    still_unknown l (stmt.Block' shape body) unknown other = unknown
    still_unknown l (stmt.If' test shape body else_part) unknown other = unknown
    still_unknown l (stmt.While' test shape body) unknown other = unknown
    still_unknown l (stmt.Do' shape body test) unknown other = unknown
    still_unknown l (stmt.For' first_shape first test third shape body) unknown other = unknown
    still_unknown l stmt.Break unknown other = unknown
    still_unknown l stmt.Continue unknown other = unknown
    still_unknown l (stmt.Return value) unknown other = unknown
    still_unknown l (stmt.Spawn' low high shape block) unknown other = unknown
    still_unknown l (stmt.Ps v r) unknown other = unknown
    still_unknown l (stmt.Psm v p) unknown other = unknown
    still_unknown l (stmt.Print text values) unknown other = unknown

    here_none : (kind : StmtKind) {n : _} (rest : Row_of-Stmt n) → some_in_body (is_declaration x) (more_of-Stmt (record { line = 0; column = 0 }) kind rest) ≡ false →
        (is_declaration x kind ≡ false) × (some_below (is_declaration x) kind ≡ false) × (some_in_body (is_declaration x) rest ≡ false)
    here_none kind rest none =
        let front = first_none (is_declaration x kind || some_below (is_declaration x) kind) (some_in_body (is_declaration x) rest) none in (
          first_none (is_declaration x kind) (some_below (is_declaration x) kind) front,
          second_none (is_declaration x kind) (some_below (is_declaration x) kind) front,
          second_none (is_declaration x kind || some_below (is_declaration x) kind) (some_in_body (is_declaration x) rest) none,
        )

    pub unknown_behind : (l : Known) {n : _} (row : Row_of-Stmt n) → l x ≡ false → some_in_body (is_declaration x) row ≡ false → quads.all_declared variables l row x ≡ false
    unknown_behind l end_of-Stmt unknown none = unknown
    unknown_behind l (more_of-Stmt place kind rest) unknown none =
        let parts = here_none kind rest none in unknown_behind (quads.declared variables l kind) rest (still_unknown l kind unknown parts.0) parts.2

    mutual
      unwritten : (l : Known) (loop : Bool) (region : Region) (kind : StmtKind) → l x ≡ false → StatementKnown globals MayCall variables outer l loop region kind → some_below (is_declaration x) kind ≡ false →
          some_statement (is_write x) kind ≡ false
      unwritten l loop region stmt.Empty unknown known none = refl
      unwritten l loop region (stmt.Value e) unknown known none = neither (whole (MayCall region) l unknown e.kind known) refl
      unwritten l loop region (stmt.Declare slot value) unknown known none = neither (optional (MayCall region) l unknown value known.1) refl
      unwritten l loop region (stmt.Block' shape body) unknown known none = unwritten_rows l loop region body unknown known none
      unwritten l loop region (stmt.If' test shape body other) unknown known none =
          neither (whole (MayCall region) l unknown test.kind known.0)
          (neither (unwritten_rows l loop region body unknown known.1 (first_none (some_in_body (is_declaration x) body) (some_in_other (is_declaration x) other) none))
          (unwritten_else l loop region other unknown known.2 (second_none (some_in_body (is_declaration x) body) (some_in_other (is_declaration x) other) none)))
      unwritten l loop region (stmt.While' test shape body) unknown known none = neither (whole (MayCall region) l unknown test.kind known.0) (unwritten_rows l true region body unknown known.1 none)
      unwritten l loop region (stmt.Do' shape body test) unknown known none = neither (whole (MayCall region) l unknown test.kind known.0) (unwritten_rows l true region body unknown known.1 none)
      unwritten l loop region (stmt.For' first_shape first test third shape body) unknown known none =
          let front = first_none (some_in_body (is_declaration x) first) (some_in_body (is_declaration x) body) none in
          let inside = unknown_behind l first unknown front in
          neither (neither (optional (MayCall region) (quads.all_declared variables l first) inside test known.1) (optional (MayCall region) (quads.all_declared variables l first) inside third known.2))
          (neither (unwritten_rows l loop region first unknown known.0 front)
          (unwritten_rows (quads.all_declared variables l first) true region body inside known.3 (second_none (some_in_body (is_declaration x) first) (some_in_body (is_declaration x) body) none)))
      unwritten l loop region stmt.Break unknown known none = refl
      unwritten l loop region stmt.Continue unknown known none = refl
      unwritten l loop region (stmt.Return value) unknown known none = neither (optional (MayCall region) l unknown value known.0) refl
      unwritten l loop region (stmt.Spawn' low high shape block) unknown known none =
          neither (neither (whole (MayCall region) l unknown low.kind known.0) (whole (MayCall region) l unknown high.kind known.1)) (unwritten_rows l false InBlock block unknown known.3 none)
      unwritten l loop region (stmt.Ps v r) unknown known none =
          let sum = summed_is_known globals (MayCall region) l v known.0 in neither (neither (not_local (MayCall region) l unknown v sum) (none_in_spot (MayCall region) l unknown v sum)) refl
      unwritten l loop region (stmt.Psm v p) unknown known none =
          let sum = summed_is_known globals (MayCall region) l v known.0 in
          neither
          (neither (neither (not_local (MayCall region) l unknown v sum) (not_local (MayCall region) l unknown p known.1))
          (neither (none_in_spot (MayCall region) l unknown v sum) (none_in_spot (MayCall region) l unknown p known.1)))
          refl
      unwritten l loop region (stmt.Print text values) unknown known none = neither (values_none (MayCall region) l unknown values known.0) refl

      pub unwritten_rows : (l : Known) (loop : Bool) (region : Region) {n : _} (row : Row_of-Stmt n) → l x ≡ false → SequenceKnown globals MayCall variables outer l loop region row →
          some_in_body (is_declaration x) row ≡ false → some_in_body (is_write x) row ≡ false
      unwritten_rows l loop region end_of-Stmt unknown known none = refl
      unwritten_rows l loop region (more_of-Stmt place kind rest) unknown known none =
          let parts = here_none kind rest none in
          neither (unwritten l loop region kind unknown known.0 parts.1) (unwritten_rows (quads.declared variables l kind) loop region rest (still_unknown l kind unknown parts.0) known.1 parts.2)

      unwritten_else : (l : Known) (loop : Bool) (region : Region) (other : Held-StmtKind-If-2) → l x ≡ false → ElseKnown globals MayCall variables outer l loop region other →
          some_in_other (is_declaration x) other ≡ false → some_in_other (is_write x) other ≡ false
      unwritten_else l loop region None' unknown known none = refl
      unwritten_else l loop region (Some' shape body) unknown known none = unwritten_rows l loop region body unknown known none

    -- so no block of these shares it
    mutual
      pub unshared : (l : Known) (loop : Bool) (region : Region) (kind : StmtKind) → l x ≡ false → StatementKnown globals MayCall variables outer l loop region kind → some_below (is_declaration x) kind ≡ false →
          some_statement (is_sharing x) kind ≡ false
      unshared l loop region stmt.Empty unknown known none = refl
      unshared l loop region (stmt.Value e) unknown known none = refl
      unshared l loop region (stmt.Declare slot value) unknown known none = refl
      unshared l loop region (stmt.Block' shape body) unknown known none = unshared_rows l loop region body unknown known none
      unshared l loop region (stmt.If' test shape body other) unknown known none =
          neither (unshared_rows l loop region body unknown known.1 (first_none (some_in_body (is_declaration x) body) (some_in_other (is_declaration x) other) none))
          (unshared_else l loop region other unknown known.2 (second_none (some_in_body (is_declaration x) body) (some_in_other (is_declaration x) other) none))
      unshared l loop region (stmt.While' test shape body) unknown known none = unshared_rows l true region body unknown known.1 none
      unshared l loop region (stmt.Do' shape body test) unknown known none = unshared_rows l true region body unknown known.1 none
      unshared l loop region (stmt.For' first_shape first test third shape body) unknown known none =
          let front = first_none (some_in_body (is_declaration x) first) (some_in_body (is_declaration x) body) none in
          neither (unshared_rows l loop region first unknown known.0 front)
          (unshared_rows (quads.all_declared variables l first) true region body (unknown_behind l first unknown front) known.3
          (second_none (some_in_body (is_declaration x) first) (some_in_body (is_declaration x) body) none))
      unshared l loop region stmt.Break unknown known none = refl
      unshared l loop region stmt.Continue unknown known none = refl
      unshared l loop region (stmt.Return value) unknown known none = refl
      unshared l loop region (stmt.Spawn' low high shape block) unknown known none =
          neither (and_left (is_written_in x block) (not (is_declared_in x block)) (unwritten_rows l false InBlock block unknown known.3 none)) (unshared_rows l false InBlock block unknown known.3 none)
      unshared l loop region (stmt.Ps v r) unknown known none = refl
      unshared l loop region (stmt.Psm v p) unknown known none = refl
      unshared l loop region (stmt.Print text values) unknown known none = refl

      pub unshared_rows : (l : Known) (loop : Bool) (region : Region) {n : _} (row : Row_of-Stmt n) → l x ≡ false → SequenceKnown globals MayCall variables outer l loop region row →
          some_in_body (is_declaration x) row ≡ false → some_in_body (is_sharing x) row ≡ false
      unshared_rows l loop region end_of-Stmt unknown known none = refl
      unshared_rows l loop region (more_of-Stmt place kind rest) unknown known none =
          let parts = here_none kind rest none in
          neither (unshared l loop region kind unknown known.0 parts.1) (unshared_rows (quads.declared variables l kind) loop region rest (still_unknown l kind unknown parts.0) known.1 parts.2)

      pub unshared_else : (l : Known) (loop : Bool) (region : Region) (other : Held-StmtKind-If-2) → l x ≡ false → ElseKnown globals MayCall variables outer l loop region other →
          some_in_other (is_declaration x) other ≡ false → some_in_other (is_sharing x) other ≡ false
      unshared_else l loop region None' unknown known none = refl
      unshared_else l loop region (Some' shape body) unknown known none = unshared_rows l loop region body unknown known none
