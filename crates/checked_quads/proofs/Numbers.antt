-- Names that are known stay so under other numbers of shared variables, where a variable that a block declares has none.
use Rattle.std.proofs.Common.{◌≡◌, ℕ, Bool, true, false, Option, None}
use Rattle.std.proofs.lemmas.Bool.{or_left, or_right}
use Rattle.source_meaning.specs.declared.tree.StmtKind.{StmtKind, Row_of-Stmt, end_of-Stmt, more_of-Stmt, Held-StmtKind-If-2, None', Some'}
use Rattle.source_meaning.specs.declared.tree.StmtKind.TheVariants as stmt
use Rattle.source_meaning.specs.Inside.{some_in_body, some_in_other, some_statement}
use Rattle.source_meaning.specs.Variables.{is_declared_in}
use Rattle.checked_programs.specs.Fits.{Known}
use Rattle.quad_code.specs.Known as quads
use Rattle.quad_code.specs.Known.{Region, InBlock, StatementKnown, SequenceKnown, ElseKnown}
use Rattle.checked_quads.proofs.OwnBlocks.{declares_in_block}

module _ (globals : ℕ) (MayCall : Region → (function values : ℕ) → Type 0) (variables : ℕ) (old new : (slot : ℕ) → Option ℕ) where
  mutual
    renumbered : (l : Known) (loop : Bool) (region : Region) (kind : StmtKind) → StatementKnown globals MayCall variables old l loop region kind →
        ((x : ℕ) → some_statement (declares_in_block x) kind ≡ true → new x ≡ None) → StatementKnown globals MayCall variables new l loop region kind
    renumbered l loop region stmt.Empty known alone = known
    renumbered l loop region (stmt.Value e) known alone = known
    renumbered l loop region (stmt.Declare slot value) known alone = known
    renumbered l loop region (stmt.Block' shape body) known alone = renumbered_rows l loop region body known alone
    renumbered l loop region (stmt.If' test shape body other) known alone = (
      known.0,
      renumbered_rows l loop region body known.1 (λ x is. alone x (or_left (some_in_body (declares_in_block x) body) (some_in_other (declares_in_block x) other) is)),
      renumbered_else l loop region other known.2 (λ x is. alone x (or_right (some_in_body (declares_in_block x) body) (some_in_other (declares_in_block x) other) is)),
    )
    renumbered l loop region (stmt.While' test shape body) known alone = (known.0, renumbered_rows l true region body known.1 alone)
    renumbered l loop region (stmt.Do' shape body test) known alone = (known.0, renumbered_rows l true region body known.1 alone)
    renumbered l loop region (stmt.For' first_shape first test third shape body) known alone = (
      renumbered_rows l loop region first known.0 (λ x is. alone x (or_left (some_in_body (declares_in_block x) first) (some_in_body (declares_in_block x) body) is)),
      known.1,
      known.2,
      renumbered_rows (quads.all_declared variables l first) true region body known.3
          (λ x is. alone x (or_right (some_in_body (declares_in_block x) first) (some_in_body (declares_in_block x) body) is)),
    )
    renumbered l loop region stmt.Break known alone = known
    renumbered l loop region stmt.Continue known alone = known
    renumbered l loop region (stmt.Return value) known alone = known
    renumbered l loop region (stmt.Spawn' low high shape block) known alone = (
      known.0,
      known.1,
      λ x declared. ((known.2 x declared).0, alone x (or_left (is_declared_in x block) (some_in_body (declares_in_block x) block) declared)),
      renumbered_rows l false InBlock block known.3 (λ x is. alone x (or_right (is_declared_in x block) (some_in_body (declares_in_block x) block) is)),
      known.4,
    )
    renumbered l loop region (stmt.Ps v r) known alone = known
    renumbered l loop region (stmt.Psm v p) known alone = known
    renumbered l loop region (stmt.Print text values) known alone = known

    pub renumbered_rows : (l : Known) (loop : Bool) (region : Region) {n : _} (row : Row_of-Stmt n) → SequenceKnown globals MayCall variables old l loop region row →
        ((x : ℕ) → some_in_body (declares_in_block x) row ≡ true → new x ≡ None) → SequenceKnown globals MayCall variables new l loop region row
    renumbered_rows l loop region end_of-Stmt known alone = tt
    renumbered_rows l loop region (more_of-Stmt place kind rest) known alone = (
      renumbered l loop region kind known.0 (λ x is. alone x (or_left (some_statement (declares_in_block x) kind) (some_in_body (declares_in_block x) rest) is)),
      renumbered_rows (quads.declared variables l kind) loop region rest known.1 (λ x is. alone x (or_right (some_statement (declares_in_block x) kind) (some_in_body (declares_in_block x) rest) is)),
    )

    renumbered_else : (l : Known) (loop : Bool) (region : Region) (other : Held-StmtKind-If-2) → ElseKnown globals MayCall variables old l loop region other →
        ((x : ℕ) → some_in_other (declares_in_block x) other ≡ true → new x ≡ None) → ElseKnown globals MayCall variables new l loop region other
    renumbered_else l loop region None' known alone = tt
    renumbered_else l loop region (Some' shape body) known alone = renumbered_rows l loop region body known alone
