-- Which registers are live, by the paths that lead on from a position, and from where to where a register is in use.
use Rattle.std.specs.Prelude.{◌≡◌, ◌⊎◌, ℕ, ◌+◌, ◌≤◌, ◌==◌, ◌||◌, Bool, true, false, List, [], ◌∷◌, Contains, Some, slice_get}
use Rattle.xmt_quads.specs.declared.code.Operand.{Operand}
use Rattle.xmt_quads.specs.declared.code.Operand.TheVariants.{Reg, Literal}
use Rattle.xmt_quads.specs.declared.code.Where.{Where}
use Rattle.xmt_quads.specs.declared.code.Where.TheVariants.{Element}
use Rattle.xmt_quads.specs.declared.code.Quad.{Quad}
use Rattle.xmt_quads.specs.declared.code.Quad.TheVariants as quad
use Rattle.xmt_quads.specs.Program.{behind_join}

abbrev pub is_register : (r : ℕ) → Operand → Bool
is_register r (Reg other) = r == other
is_register r (Literal n) = false

abbrev pub is_index : (r : ℕ) → Where → Bool
is_index r (Element base index) = is_register r index
is_index r _ = false

-- a quad reads the register
abbrev pub reads : (r : ℕ) → Quad → Bool
reads r (quad.Copy to o) = is_register r o
reads r (quad.Unary op to o) = is_register r o
reads r (quad.Binary op to a b) = is_register r a || is_register r b
reads r (quad.Test o length) = is_register r o
reads r (quad.Load to place) = is_index r place
reads r (quad.Store place o) = is_index r place || is_register r o
reads r (quad.Add to place o) = is_index r place || is_register r o
reads r (quad.IfZero o to) = is_register r o
reads r (quad.IfNot o to) = is_register r o
reads r (quad.Argument place o) = is_register r o
reads r (quad.Return o) = is_register r o
reads r (quad.Spawn low high) = is_register r low || is_register r high
reads r _ = false

-- a quad writes the register
abbrev pub writes : (r : ℕ) → Quad → Bool
writes r (quad.Copy to o) = r == to
writes r (quad.Unary op to o) = r == to
writes r (quad.Binary op to a b) = r == to
writes r (quad.Dollar to) = r == to
writes r (quad.Load to place) = r == to
writes r (quad.Add to place o) = r == to
writes r (quad.Parameter to place) = r == to
writes r (quad.Result to) = r == to
writes r _ = false

-- The positions to which a quad leads. A spawn leads into its block and behind its join, and a join or a return ends its path.
abbrev pub leads_to : List Quad → (at : ℕ) → Quad → List ℕ
leads_to quads at (quad.Jump to) = to ∷ []
leads_to quads at (quad.IfZero o to) = to ∷ (at + 1) ∷ []
leads_to quads at (quad.IfNot o to) = to ∷ (at + 1) ∷ []
leads_to quads at (quad.Return o) = []
leads_to quads at (quad.Spawn low high) = (at + 1) ∷ behind_join quads at ∷ []
leads_to quads at quad.Join = []
leads_to quads at q = (at + 1) ∷ []

-- some path from a position reads the register before it writes it
pub data IsLive (quads : List Quad) (r : ℕ) : ℕ → Type 0 where
  is_read : (at : ℕ) (q : Quad) → slice_get quads at ≡ Some q → reads r q ≡ true → IsLive quads r at
  is_kept : (at to : ℕ) (q : Quad) → slice_get quads at ≡ Some q → writes r q ≡ false → Contains (leads_to quads at q) to → IsLive quads r to → IsLive quads r at

-- the register is written or live at a position
abbrev pub IsInUse : List Quad → (r at : ℕ) → Type 0
IsInUse quads r at = ((q : Quad) × (slice_get quads at ≡ Some q) × (writes r q ≡ true)) ⊎ IsLive quads r at

-- the interval of a register: from the least to the greatest position where it is in use
pub record IsInterval (quads : List Quad) (r first last : ℕ) : Type 0 where
  pub begins : IsInUse quads r first
  pub ends : IsInUse quads r last
  pub reaches : (at : ℕ) → IsInUse quads r at → (first ≤ at) × (at ≤ last)
