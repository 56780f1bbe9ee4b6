-- A variable that a block declares is shared by no block.
use Rattle.std.proofs.Common.{◌≡◌, refl, sym, ◌∙◌, ℕ, Bool, true, false, List, [], ◌∷◌, ◌++◌, Option, ◌⊎◌, inl, inr}
use Rattle.std.proofs.lemmas.Bool.{true≢false, false≢true, or_cases, or_left, or_right, and_right, not_from_true}
use Rattle.std.specs.Prelude.{◌||◌, ◌==◌, not}
use Rattle.source_meaning.specs.declared.tree.StmtKind.{StmtKind, Row_of-Stmt, end_of-Stmt, more_of-Stmt, Held-StmtKind-If-2, None', Some'}
use Rattle.source_meaning.specs.declared.tree.StmtKind.TheVariants as stmt
use Rattle.source_meaning.specs.Inside.{some_below, some_in_body, some_in_other, some_statement}
use Rattle.source_meaning.specs.Variables.{is_declaration, is_declared_in, is_written_in, is_sharing}
use Rattle.checked_programs.specs.Fits.{Known}
use Rattle.checked_programs.specs.Declares.{declared_in, declared_in_row, declared_in_else}
use Rattle.quad_code.specs.Known as quads
use Rattle.quad_code.specs.Known.{Region, Serial, Inner, InBlock, OwnVariables, StatementKnown, SequenceKnown, ElseKnown}
use Rattle.checked_quads.proofs.Fresh.{with_one, with_all, with_all_above, Fresh, fresh_front, fresh_behind, fresh_rest, declared_before, declared_below, declared_here, declared_in_other}
use Rattle.checked_quads.proofs.Expressions.{first_none, second_none}
use Rattle.checked_quads.proofs.Unwritten.{neither, still_unknown, unknown_behind, unshared, unshared_rows, unshared_else}

-- the statement is a spawn whose block declares the variable
abbrev pub declares_in_block : (slot : ℕ) → StmtKind → Bool
declares_in_block slot (stmt.Spawn' low high shape block) = is_declared_in slot block
declares_in_block slot _ = false

module _ (x : ℕ) where
  -- ---- what is declared is known behind

  append_known : (known : Known) (front rest : List ℕ) → with_all (with_all known front) rest x ≡ true → with_all known (front ++ rest) x ≡ true
  append_known known [] rest is = is
  append_known known (slot ∷ front) rest is = append_known (with_one known slot) front rest is

  -- behind the first or the second of two lists
  behind_two : (known : Known) (a b : Bool) (front rest : List ℕ) → (a || b) ≡ true → (a ≡ true → (k : Known) → with_all k front x ≡ true) → (b ≡ true → (k : Known) → with_all k rest x ≡ true) →
      with_all known (front ++ rest) x ≡ true
  behind_two known a b front rest is left right = append_known known front rest (chosen (or_cases a b is))
    where
      chosen : (a ≡ true) ⊎ (b ≡ true) → with_all (with_all known front) rest x ≡ true
      chosen (inl here) = with_all_above (with_all known front) rest x (left here known)
      chosen (inr there) = right there (with_all known front)

  known_here : (kind : StmtKind) → is_declaration x kind ≡ true → (known : Known) → with_all known (declared_in kind) x ≡ true
  known_here stmt.Empty is known = absurd (false≢true is)
  known_here (stmt.Value e) is known = absurd (false≢true is)
  known_here (stmt.Declare slot value) is known = or_right (known x) (x == slot) is
  known_here (stmt.Block' shape body) is known = absurd (false≢true is)
  known_here (stmt.If' test shape body other) is known = absurd (false≢true is)
  known_here (stmt.While' test shape body) is known = absurd (false≢true is)
  known_here (stmt.Do' shape body test) is known = absurd (false≢true is)
  known_here (stmt.For' first_shape first test third shape body) is known = absurd (false≢true is)
  known_here stmt.Break is known = absurd (false≢true is)
  known_here stmt.Continue is known = absurd (false≢true is)
  known_here (stmt.Return value) is known = absurd (false≢true is)
  known_here (stmt.Spawn' low high shape block) is known = absurd (false≢true is)
  known_here (stmt.Ps v r) is known = absurd (false≢true is)
  known_here (stmt.Psm v p) is known = absurd (false≢true is)
  known_here (stmt.Print text values) is known = absurd (false≢true is)

  here_or_below : (kind : StmtKind) → (is_declaration x kind || some_below (is_declaration x) kind) ≡ true → (known : Known) →
      (some_below (is_declaration x) kind ≡ true → with_all known (declared_in kind) x ≡ true) → with_all known (declared_in kind) x ≡ true
  here_or_below kind is known below = chosen (or_cases (is_declaration x kind) (some_below (is_declaration x) kind) is)
    where
      chosen : (is_declaration x kind ≡ true) ⊎ (some_below (is_declaration x) kind ≡ true) → with_all known (declared_in kind) x ≡ true
      chosen (inl here) = known_here kind here known
      chosen (inr deep) = below deep

  mutual
    known_below : (kind : StmtKind) → some_below (is_declaration x) kind ≡ true → (known : Known) → with_all known (declared_in kind) x ≡ true
    known_below stmt.Empty is known = absurd (false≢true is)
    known_below (stmt.Value e) is known = absurd (false≢true is)
    known_below (stmt.Declare slot value) is known = absurd (false≢true is)
    known_below (stmt.Block' shape body) is known = known_behind body is known
    known_below (stmt.If' test shape body other) is known =
        behind_two known (some_in_body (is_declaration x) body) (some_in_other (is_declaration x) other) (declared_in_row body) (declared_in_else other) is
        (λ here k. known_behind body here k) (λ here k. known_in_other other here k)
    known_below (stmt.While' test shape body) is known = known_behind body is known
    known_below (stmt.Do' shape body test) is known = known_behind body is known
    known_below (stmt.For' first_shape first test third shape body) is known =
        behind_two known (some_in_body (is_declaration x) first) (some_in_body (is_declaration x) body) (declared_in_row first) (declared_in_row body) is
        (λ here k. known_behind first here k) (λ here k. known_behind body here k)
    known_below stmt.Break is known = absurd (false≢true is)
    known_below stmt.Continue is known = absurd (false≢true is)
    known_below (stmt.Return value) is known = absurd (false≢true is)
    known_below (stmt.Spawn' low high shape block) is known = known_behind block is known
    known_below (stmt.Ps v r) is known = absurd (false≢true is)
    known_below (stmt.Psm v p) is known = absurd (false≢true is)
    known_below (stmt.Print text values) is known = absurd (false≢true is)

    known_behind : {n : _} (row : Row_of-Stmt n) → some_in_body (is_declaration x) row ≡ true → (known : Known) → with_all known (declared_in_row row) x ≡ true
    known_behind end_of-Stmt is known = absurd (false≢true is)
    known_behind (more_of-Stmt place kind rest) is known =
        behind_two known (is_declaration x kind || some_below (is_declaration x) kind) (some_in_body (is_declaration x) rest) (declared_in kind) (declared_in_row rest) is
        (λ here k. here_or_below kind here k (λ below. known_below kind below k)) (λ here k. known_behind rest here k)

    known_in_other : (other : Held-StmtKind-If-2) → some_in_other (is_declaration x) other ≡ true → (known : Known) → with_all known (declared_in_else other) x ≡ true
    known_in_other None' is known = absurd (false≢true is)
    known_in_other (Some' shape body) is known = known_behind body is known

  known_statement : (kind : StmtKind) → some_statement (is_declaration x) kind ≡ true → (known : Known) → with_all known (declared_in kind) x ≡ true
  known_statement kind is known = here_or_below kind is known (λ below. known_below kind below known)

  unknown_statement : (known : Known) (kind : StmtKind) → some_statement (is_declaration x) kind ≡ true → Fresh known (declared_in kind) → known x ≡ false
  unknown_statement known kind is fresh = chosen (or_cases (is_declaration x kind) (some_below (is_declaration x) kind) is)
    where
      chosen : (is_declaration x kind ≡ true) ⊎ (some_below (is_declaration x) kind ≡ true) → known x ≡ false
      chosen (inl here) = declared_here x known kind here fresh
      chosen (inr deep) = declared_below x known kind deep fresh

  -- ---- of two parts one alone declares it

  not_second : (known : Known) (front rest : List ℕ) (b : Bool) → Fresh known (front ++ rest) → ((k : Known) → with_all k front x ≡ true) → (b ≡ true → (k : Known) → Fresh k rest → k x ≡ false) → b ≡ false
  not_second known front rest b fresh first second = chosen b refl
    where
      chosen : (t : Bool) → b ≡ t → b ≡ false
      chosen true is = absurd (true≢false (sym (first known) ∙ second is (with_all known front) (fresh_rest known front rest fresh)))
      chosen false is = is

  not_first : (known : Known) (front rest : List ℕ) (a : Bool) → Fresh known (front ++ rest) → (a ≡ true → (k : Known) → with_all k front x ≡ true) → ((k : Known) → Fresh k rest → k x ≡ false) → a ≡ false
  not_first known front rest a fresh first second = chosen a refl
    where
      chosen : (t : Bool) → a ≡ t → a ≡ false
      chosen true is = absurd (true≢false (sym (first is known) ∙ second (with_all known front) (fresh_rest known front rest fresh)))
      chosen false is = is

  -- ---- a block that declares it stands in what declares it

  either : (a b c d : Bool) → (a || b) ≡ true → (a ≡ true → c ≡ true) → (b ≡ true → d ≡ true) → (c || d) ≡ true
  either a b c d is left right = chosen (or_cases a b is)
    where
      chosen : (a ≡ true) ⊎ (b ≡ true) → (c || d) ≡ true
      chosen (inl here) = or_left c d (left here)
      chosen (inr there) = or_right c d (right there)

  merged : (a b c : Bool) → (a || b) ≡ true → (a ≡ true → c ≡ true) → (b ≡ true → c ≡ true) → c ≡ true
  merged a b c is left right = chosen (or_cases a b is)
    where
      chosen : (a ≡ true) ⊎ (b ≡ true) → c ≡ true
      chosen (inl here) = left here
      chosen (inr there) = right there

  mutual
    block_below : (kind : StmtKind) → some_statement (declares_in_block x) kind ≡ true → some_below (is_declaration x) kind ≡ true
    block_below stmt.Empty is = absurd (false≢true is)
    block_below (stmt.Value e) is = absurd (false≢true is)
    block_below (stmt.Declare slot value) is = absurd (false≢true is)
    block_below (stmt.Block' shape body) is = block_rows body is
    block_below (stmt.If' test shape body other) is =
        either (some_in_body (declares_in_block x) body) (some_in_other (declares_in_block x) other) (some_in_body (is_declaration x) body) (some_in_other (is_declaration x) other) is
        (λ here. block_rows body here) (λ here. block_else other here)
    block_below (stmt.While' test shape body) is = block_rows body is
    block_below (stmt.Do' shape body test) is = block_rows body is
    block_below (stmt.For' first_shape first test third shape body) is =
        either (some_in_body (declares_in_block x) first) (some_in_body (declares_in_block x) body) (some_in_body (is_declaration x) first) (some_in_body (is_declaration x) body) is
        (λ here. block_rows first here) (λ here. block_rows body here)
    block_below stmt.Break is = absurd (false≢true is)
    block_below stmt.Continue is = absurd (false≢true is)
    block_below (stmt.Return value) is = absurd (false≢true is)
    block_below (stmt.Spawn' low high shape block) is = merged (is_declared_in x block) (some_in_body (declares_in_block x) block) (is_declared_in x block) is (λ here. here) (λ here. block_rows block here)
    block_below (stmt.Ps v r) is = absurd (false≢true is)
    block_below (stmt.Psm v p) is = absurd (false≢true is)
    block_below (stmt.Print text values) is = absurd (false≢true is)

    pub block_rows : {n : _} (row : Row_of-Stmt n) → some_in_body (declares_in_block x) row ≡ true → some_in_body (is_declaration x) row ≡ true
    block_rows end_of-Stmt is = absurd (false≢true is)
    block_rows (more_of-Stmt place kind rest) is =
        either (some_statement (declares_in_block x) kind) (some_in_body (declares_in_block x) rest) (is_declaration x kind || some_below (is_declaration x) kind) (some_in_body (is_declaration x) rest) is
        (λ here. or_right (is_declaration x kind) (some_below (is_declaration x) kind) (block_below kind here)) (λ here. block_rows rest here)

    block_else : (other : Held-StmtKind-If-2) → some_in_other (declares_in_block x) other ≡ true → some_in_other (is_declaration x) other ≡ true
    block_else None' is = absurd (false≢true is)
    block_else (Some' shape body) is = block_rows body is

  block_declares : (kind : StmtKind) → some_statement (declares_in_block x) kind ≡ true → some_statement (is_declaration x) kind ≡ true
  block_declares kind is = or_right (is_declaration x kind) (some_below (is_declaration x) kind) (block_below kind is)

  -- a statement in which a block declares it is no declaration of it
  no_own : (kind : StmtKind) → some_statement (declares_in_block x) kind ≡ true → is_declaration x kind ≡ false
  no_own stmt.Empty is = refl
  no_own (stmt.Value e) is = refl
  no_own (stmt.Declare slot value) is = absurd (false≢true is)
  no_own (stmt.Block' shape body) is = refl
  no_own (stmt.If' test shape body other) is = refl
  no_own (stmt.While' test shape body) is = refl
  no_own (stmt.Do' shape body test) is = refl
  no_own (stmt.For' first_shape first test third shape body) is = refl
  no_own stmt.Break is = refl
  no_own stmt.Continue is = refl
  no_own (stmt.Return value) is = refl
  no_own (stmt.Spawn' low high shape block) is = refl
  no_own (stmt.Ps v r) is = refl
  no_own (stmt.Psm v p) is = refl
  no_own (stmt.Print text values) is = refl

  module _ (globals : ℕ) (MayCall : Region → (function values : ℕ) → Type 0) (variables : ℕ) (outer : (slot : ℕ) → Option ℕ) where
    -- ---- no spawn stands in a block

    not_serial : {A : Type 0} → InBlock ≡ Serial → A
    not_serial is = absurd cc

    mutual
      none_in_block : (l : Known) (loop : Bool) (kind : StmtKind) → StatementKnown globals MayCall variables outer l loop InBlock kind → some_statement (is_sharing x) kind ≡ false
      none_in_block l loop stmt.Empty known = refl
      none_in_block l loop (stmt.Value e) known = refl
      none_in_block l loop (stmt.Declare slot value) known = refl
      none_in_block l loop (stmt.Block' shape body) known = none_in_rows l loop body known
      none_in_block l loop (stmt.If' test shape body other) known = neither (none_in_rows l loop body known.1) (none_in_else l loop other known.2)
      none_in_block l loop (stmt.While' test shape body) known = none_in_rows l true body known.1
      none_in_block l loop (stmt.Do' shape body test) known = none_in_rows l true body known.1
      none_in_block l loop (stmt.For' first_shape first test third shape body) known =
          neither (none_in_rows l loop first known.0) (none_in_rows (quads.all_declared variables l first) true body known.3)
      none_in_block l loop stmt.Break known = refl
      none_in_block l loop stmt.Continue known = refl
      none_in_block l loop (stmt.Return value) known = refl
      none_in_block l loop (stmt.Spawn' low high shape block) known = not_serial known.4
      none_in_block l loop (stmt.Ps v r) known = refl
      none_in_block l loop (stmt.Psm v p) known = refl
      none_in_block l loop (stmt.Print text values) known = refl

      none_in_rows : (l : Known) (loop : Bool) {n : _} (row : Row_of-Stmt n) → SequenceKnown globals MayCall variables outer l loop InBlock row → some_in_body (is_sharing x) row ≡ false
      none_in_rows l loop end_of-Stmt known = refl
      none_in_rows l loop (more_of-Stmt place kind rest) known = neither (none_in_block l loop kind known.0) (none_in_rows (quads.declared variables l kind) loop rest known.1)

      none_in_else : (l : Known) (loop : Bool) (other : Held-StmtKind-If-2) → ElseKnown globals MayCall variables outer l loop InBlock other → some_in_other (is_sharing x) other ≡ false
      none_in_else l loop None' known = refl
      none_in_else l loop (Some' shape body) known = none_in_rows l loop body known

    -- ---- where a block declares it

    -- the rest of a statement that a block inside declares it in
    none_declared : (kind : StmtKind) → some_statement (is_declaration x) kind ≡ false → (is_declaration x kind ≡ false) × (some_below (is_declaration x) kind ≡ false)
    none_declared kind none = (first_none (is_declaration x kind) (some_below (is_declaration x) kind) none, second_none (is_declaration x kind) (some_below (is_declaration x) kind) none)

    by_case : {P A B : Type 0} → A ⊎ B → (A → P) → (B → P) → P
    by_case (inl a) left right = left a
    by_case (inr b) left right = right b

    -- where a block among these declares it, it is not known behind them
    own_unknown : (k l : Known) {n : _} (row : Row_of-Stmt n) → l x ≡ false → Fresh k (declared_in_row row) → some_in_body (declares_in_block x) row ≡ true → quads.all_declared variables l row x ≡ false
    own_unknown k l end_of-Stmt unknown fresh is = unknown
    own_unknown k l (more_of-Stmt place kind rest) unknown fresh is =
        by_case (or_cases (some_statement (declares_in_block x) kind) (some_in_body (declares_in_block x) rest) is)
        (λ here.
        let after = not_second k (declared_in kind) (declared_in_row rest) (some_in_body (is_declaration x) rest) fresh (known_statement kind (block_declares kind here)) (λ there m new. declared_before x m rest there new) in
        unknown_behind globals x MayCall variables outer (quads.declared variables l kind) rest (still_unknown globals x MayCall variables outer l kind unknown (no_own kind here)) after)
        (λ there.
        let before = none_declared kind (not_first k (declared_in kind) (declared_in_row rest) (some_statement (is_declaration x) kind) fresh (λ here m. known_statement kind here m)
        (λ m new. declared_before x m rest (block_rows rest there) new)) in
        own_unknown k (quads.declared variables l kind) rest (still_unknown globals x MayCall variables outer l kind unknown before.0) (fresh_behind k (declared_in kind) (declared_in_row rest) fresh) there)

    mutual
      own_block : (k l : Known) (loop : Bool) (region : Region) (kind : StmtKind) → l x ≡ false → StatementKnown globals MayCall variables outer l loop region kind → Fresh k (declared_in kind) →
          some_statement (declares_in_block x) kind ≡ true → some_statement (is_sharing x) kind ≡ false
      own_block k l loop region stmt.Empty unknown known fresh is = refl
      own_block k l loop region (stmt.Value e) unknown known fresh is = refl
      own_block k l loop region (stmt.Declare slot value) unknown known fresh is = refl
      own_block k l loop region (stmt.Block' shape body) unknown known fresh is = own_rows k l loop region body unknown known fresh is
      own_block k l loop region (stmt.If' test shape body other) unknown known fresh is =
          by_case (or_cases (some_in_body (declares_in_block x) body) (some_in_other (declares_in_block x) other) is)
          (λ here. neither (own_rows k l loop region body unknown known.1 (fresh_front k (declared_in_row body) (declared_in_else other) fresh) here)
          (unshared_else globals x MayCall variables outer l loop region other unknown known.2
          (not_second k (declared_in_row body) (declared_in_else other) (some_in_other (is_declaration x) other) fresh (known_behind body (block_rows body here)) (λ there m new. declared_in_other x m other there new))))
          (λ there. neither (unshared_rows globals x MayCall variables outer l loop region body unknown known.1
          (not_first k (declared_in_row body) (declared_in_else other) (some_in_body (is_declaration x) body) fresh (λ here m. known_behind body here m) (λ m new. declared_in_other x m other (block_else other there) new)))
          (own_else k l loop region other unknown known.2 (fresh_behind k (declared_in_row body) (declared_in_else other) fresh) there))
      own_block k l loop region (stmt.While' test shape body) unknown known fresh is = own_rows k l true region body unknown known.1 fresh is
      own_block k l loop region (stmt.Do' shape body test) unknown known fresh is = own_rows k l true region body unknown known.1 fresh is
      own_block k l loop region (stmt.For' first_shape first test third shape body) unknown known fresh is =
          by_case (or_cases (some_in_body (declares_in_block x) first) (some_in_body (declares_in_block x) body) is)
          (λ here.
          let after = not_second k (declared_in_row first) (declared_in_row body) (some_in_body (is_declaration x) body) fresh (known_behind first (block_rows first here)) (λ there m new. declared_before x m body there new) in
          neither (own_rows k l loop region first unknown known.0 (fresh_front k (declared_in_row first) (declared_in_row body) fresh) here)
          (unshared_rows globals x MayCall variables outer (quads.all_declared variables l first) true region body (own_unknown k l first unknown (fresh_front k (declared_in_row first) (declared_in_row body) fresh) here) known.3 after))
          (λ there.
          let before = not_first k (declared_in_row first) (declared_in_row body) (some_in_body (is_declaration x) first) fresh (λ here m. known_behind first here m) (λ m new. declared_before x m body (block_rows body there) new) in
          neither (unshared_rows globals x MayCall variables outer l loop region first unknown known.0 before)
          (own_rows k (quads.all_declared variables l first) true region body (unknown_behind globals x MayCall variables outer l first unknown before) known.3 (fresh_behind k (declared_in_row first) (declared_in_row body) fresh) there))
      own_block k l loop region stmt.Break unknown known fresh is = refl
      own_block k l loop region stmt.Continue unknown known fresh is = refl
      own_block k l loop region (stmt.Return value) unknown known fresh is = refl
      own_block k l loop region (stmt.Spawn' low high shape block) unknown known fresh is =
          neither (and_right (is_written_in x block) (not (is_declared_in x block))
          (not_from_true (is_declared_in x block) (merged (is_declared_in x block) (some_in_body (declares_in_block x) block) (is_declared_in x block) is (λ here. here) (λ here. block_rows block here))))
          (none_in_rows l false block known.3)
      own_block k l loop region (stmt.Ps v r) unknown known fresh is = refl
      own_block k l loop region (stmt.Psm v p) unknown known fresh is = refl
      own_block k l loop region (stmt.Print text values) unknown known fresh is = refl

      pub own_rows : (k l : Known) (loop : Bool) (region : Region) {n : _} (row : Row_of-Stmt n) → l x ≡ false → SequenceKnown globals MayCall variables outer l loop region row → Fresh k (declared_in_row row) →
          some_in_body (declares_in_block x) row ≡ true → some_in_body (is_sharing x) row ≡ false
      own_rows k l loop region end_of-Stmt unknown known fresh is = refl
      own_rows k l loop region (more_of-Stmt place kind rest) unknown known fresh is =
          by_case (or_cases (some_statement (declares_in_block x) kind) (some_in_body (declares_in_block x) rest) is)
          (λ here.
          let after = not_second k (declared_in kind) (declared_in_row rest) (some_in_body (is_declaration x) rest) fresh (known_statement kind (block_declares kind here)) (λ there m new. declared_before x m rest there new) in
          neither (own_block k l loop region kind unknown known.0 (fresh_front k (declared_in kind) (declared_in_row rest) fresh) here)
          (unshared_rows globals x MayCall variables outer (quads.declared variables l kind) loop region rest (still_unknown globals x MayCall variables outer l kind unknown (no_own kind here)) known.1 after))
          (λ there.
          let before = none_declared kind (not_first k (declared_in kind) (declared_in_row rest) (some_statement (is_declaration x) kind) fresh (λ here m. known_statement kind here m)
          (λ m new. declared_before x m rest (block_rows rest there) new)) in
          neither (unshared globals x MayCall variables outer l loop region kind unknown known.0 before.1)
          (own_rows k (quads.declared variables l kind) loop region rest (still_unknown globals x MayCall variables outer l kind unknown before.0) known.1
          (fresh_behind k (declared_in kind) (declared_in_row rest) fresh) there))

      own_else : (k l : Known) (loop : Bool) (region : Region) (other : Held-StmtKind-If-2) → l x ≡ false → ElseKnown globals MayCall variables outer l loop region other → Fresh k (declared_in_else other) →
          some_in_other (declares_in_block x) other ≡ true → some_in_other (is_sharing x) other ≡ false
      own_else k l loop region None' unknown known fresh is = refl
      own_else k l loop region (Some' shape body) unknown known fresh is = own_rows k l loop region body unknown known fresh is
