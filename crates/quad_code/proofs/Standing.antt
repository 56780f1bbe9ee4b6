-- Code at its place in a function, and how a thread of quads stands to a thread of the source.
use Rattle.std.proofs.Common.{◌≡◌, arith, subst, ℕ, ◌+◌, ◌<◌, true, false, List, [], ◌∷◌, ◌++◌, length, Option, Some, None}
use Rattle.std.specs.Prelude.{Bool}
use mathlib.Core.Former.{Count}
use Rattle.xmt_base.specs.declared.values.TrapKind.{TrapKind}
use Rattle.xmt_base.specs.Action as action
use Rattle.source_meaning.specs.declared.tree.GlobalVar.{GlobalVar}
use Rattle.source_meaning.specs.declared.tree.StmtKind.{Row_of-Stmt}
use Rattle.source_meaning.specs.Store.{Private, Store}
use Rattle.source_meaning.specs.Variables.{Frame, block_frame}
use Rattle.source_meaning.specs.Term.{Code}
use Rattle.source_meaning.specs.Next as source
use Rattle.source_meaning.specs.Next.{Asks, Spawning}
use Rattle.source_meaning.specs.Trace.{shared_of}
use Rattle.source_meaning.specs.Code.{sequence}
use Rattle.xmt_quads.specs.declared.code.Operand.{Operand}
use Rattle.xmt_quads.specs.declared.code.Quad.{Quad}
use Rattle.xmt_quads.specs.declared.code.Quad.TheVariants as quad
use Rattle.xmt_quads.specs.declared.code.QuadProgram.{QuadProgram}
use Rattle.xmt_quads.specs.Program.{quads_in, quad_at, line_at, text_at, site_at, behind_join}
use Rattle.xmt_quads.specs.Meaning.{QuadThread, operand_value, Traps, quad_of, line_of, next_of}
use Rattle.quad_code.specs.Lined.{Note, Plain, Spawns, Prints, Lined, one}
use Rattle.quad_code.specs.Statements.{Counts, sequence_at}
use Rattle.quad_code.specs.Known.{Region, InBlock, OwnVariables, SequenceKnown}

-- ---- code at a place

-- what a note says of a quad there
abbrev pub IsNoted : QuadProgram → (function at : ℕ) → Quad → Note → Type 0
IsNoted program function at q Plain = Unit {0}
IsNoted program function at q (Spawns site behind) = (site_at program function at ≡ site) × (behind_join (quads_in program function) at ≡ behind)
IsNoted program function at (quad.Print number) (Prints text) = text_at program number ≡ text
IsNoted program function at q (Prints text) = Unit {0}

-- these quads stand in the function at this place
abbrev pub HasAt : QuadProgram → (function at : ℕ) → List Lined → Type 0
HasAt program function at [] = Unit {0}
HasAt program function at (l ∷ rest) =
    (quad_at program function at ≡ Some l.quad) × (line_at program function at ≡ l.line) × HasAt program function (at + 1) rest × IsNoted program function at l.quad l.note

module _ (program : QuadProgram) (function : ℕ) where
  pub has_front : (at : ℕ) (a b : List Lined) → HasAt program function at (a ++ b) → HasAt program function at a
  has_front at [] b h = tt
  has_front at (l ∷ a) b h = (h.0, h.1, has_front (at + 1) a b h.2, h.3)

  pub has_back : (at : ℕ) (a b : List Lined) → HasAt program function at (a ++ b) → HasAt program function (at + length a) b
  has_back at [] b h = let e : at ≡ at + 0 = omega arith in subst (λ n. HasAt program function n b) e h
  has_back at (l ∷ a) b h =
      let e : at + 1 + length a ≡ at + length (l ∷ a) = omega arith in
      subst (λ n. HasAt program function n b) e (has_back (at + 1) a b h.2)

-- ---- where both are at a spawn

-- The quads behind the spawn at which a thread is, up to the join, are those of the block, and what is known before the spawn fits. The variables outside are those of the thread with this number.
pub record BlockAt (program : QuadProgram) (globals : List GlobalVar) (base_of size_of : ℕ → ℕ) (MayCall : Region → (function values : ℕ) → Type 0) (serial : ℕ) (t : QuadThread) (store : Store) (block : ℕ → Code) : Type 0 where
  pub count : Count
  pub body : Row_of-Stmt count
  pub own : (child : ℕ) → Frame
  pub frame : Frame
  pub outer : ℕ → Option ℕ
  pub variables : ℕ
  pub known : ℕ → Bool
  pub met : Counts
  pub leave : ℕ
  pub again : ℕ
  pub line : ℕ
  pub is_block : block ≡ (λ child. sequence globals own (block_frame (own child) body frame) met.spawned body)
  pub stands : HasAt program t.function (t.at + 1) (sequence_at base_of size_of outer variables (t.at + 1) leave again met body ++ one line quad.Join)
  pub is_known : SequenceKnown (length globals) MayCall variables outer known false InBlock body
  pub owned : OwnVariables outer known body
  pub known_low : (x : ℕ) → known x ≡ true → x < variables
  pub fits : (slot : ℕ) → known slot ≡ true → outer slot ≡ None → t.registers slot ≡ store (frame slot)
  pub own_private : (child slot : ℕ) → outer slot ≡ None → own child slot ≡ Private child 0 slot
  pub frame_private : (slot : ℕ) → outer slot ≡ None → frame slot ≡ Private serial (length t.callers) slot
  pub frame_shared : (slot number : ℕ) → outer slot ≡ Some number → shared_of (frame slot) ≡ Some (action.Outer (length t.callers) number)

-- ---- how a thread of quads stands to the source

-- Both are at a spawn with the same numbers, and of the block this holds.
abbrev pub IsSpawning : (AtSpawn : QuadThread → Store → (ℕ → Code) → Type 0) {U S : Type 0} → QuadProgram → QuadThread → Store → source.Next U S → (low high : Operand) → Type 0
IsSpawning AtSpawn {U = U} {S = S} program t store n low high =
    (block : ℕ → Code) × (left : ℕ → U) ×
    (n ≡ Asks (Spawning (site_at program t.function t.at) (operand_value t.registers low) (operand_value t.registers high) block) left) × AtSpawn t store block

-- The source is at the trap at which the thread is, and at the spawn.
pub record StandsAs (AtSpawn : QuadThread → Store → (ℕ → Code) → Type 0) {U S : Type 0} (program : QuadProgram) (t : QuadThread) (store : Store) (n : source.Next U S) : Type 0 where
  pub traps : (kind : TrapKind) → next_of program t ≡ Traps kind → n ≡ source.Traps kind (line_of program t)
  pub spawns : (low high : Operand) → quad_of program t ≡ Some (quad.Spawn low high) → IsSpawning AtSpawn program t store n low high

abbrev pub IsOver : QuadThread → Type 0
IsOver t = t.ended ≡ true
