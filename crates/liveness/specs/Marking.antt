-- Which positions are marked, and what the marks say of a register.
use Rattle.std.specs.Prelude.{ℕ, suc, ◌+◌, ◌≡◌, Bool, not, ◌&&◌, ◌||◌, true, false, List, [], ◌∷◌, Some, slice_get, slice_index_or}
use Rattle.xmt_quads.specs.declared.code.Quad.{Quad}
use Rattle.xmt_quads.specs.declared.code.Quad.TheVariants as quad
use Rattle.xmt_quads.specs.Program.{behind_join}
use Rattle.xmt_quads.specs.Live.{reads, writes, IsLive}

abbrev pub is_marked : (marks : List Bool) → (at : ℕ) → Bool
is_marked marks at = slice_index_or marks at false

-- a quad leads to a marked position, where the next quad and the one behind the next join stand at these
abbrev pub leads_on : (marks : List Bool) → (next behind : ℕ) → Quad → Bool
leads_on marks next behind (quad.Jump to) = is_marked marks to
leads_on marks next behind (quad.IfZero o to) = is_marked marks to || is_marked marks next
leads_on marks next behind (quad.IfNot o to) = is_marked marks to || is_marked marks next
leads_on marks next behind (quad.Return o) = false
leads_on marks next behind (quad.Spawn low high) = is_marked marks next || is_marked marks behind
leads_on marks next behind quad.Join = false
leads_on marks next behind q = is_marked marks next

-- a quad reads the register, or leads to a marked position and doesn't write it
abbrev pub passes : (r : ℕ) → (marks : List Bool) → (next behind : ℕ) → Quad → Bool
passes r marks next behind q = reads r q || (not (writes r q) && leads_on marks next behind q)

-- a position that isn't marked has to be
abbrev pub is_due_at : (r : ℕ) → (marks : List Bool) → (at behind : ℕ) → Quad → Bool
is_due_at r marks at behind q = not (is_marked marks at) && passes r marks (at + 1) behind q

-- the position behind the next join, from the one that is it from the next quad on
abbrev pub behind_from : Quad → (next behind : ℕ) → ℕ
behind_from quad.Join next behind = next
behind_from _ next behind = behind

-- at each marked position the register is live
pub record AreSound (quads : List Quad) (r : ℕ) (marks : List Bool) : Type 0 where
  pub live : (at : ℕ) → is_marked marks at ≡ true → IsLive quads r at

-- where a quad reads the register, or leads to a marked position and doesn't write it, is marked
pub record AreClosed (quads : List Quad) (r : ℕ) (marks : List Bool) : Type 0 where
  pub marked : (at : ℕ) (q : Quad) → slice_get quads at ≡ Some q → passes r marks (at + 1) (behind_join quads at) q ≡ true → is_marked marks at ≡ true

abbrev pub count_of_marked : (marks : List Bool) → ℕ
count_of_marked [] = 0
count_of_marked (true ∷ marks) = suc (count_of_marked marks)
count_of_marked (false ∷ marks) = count_of_marked marks
