-- Code on its way: quads with their lines, put at a place of their function.
use Rattle.std.specs.Prelude.{ℕ, ◌+◌, List, [], ◌∷◌, ◌++◌, length}
use Rattle.xmt_quads.specs.declared.code.Operand.{Operand}
use Rattle.xmt_quads.specs.declared.code.Quad.{Quad}
use Rattle.xmt_quads.specs.declared.code.Quad.TheVariants as quad

-- what a quad stands for beside its own fields
pub data Note : Type 0 where
  Plain : Note
  -- a spawn, by its number in the text and the place behind its join
  Spawns : (site behind : ℕ) → Note
  -- a print, by its text
  Prints : (text : List ℕ) → Note

pub record Lined : Type 0 where
  pub quad : Quad
  pub line : ℕ
  pub note : Note

abbrev pub lined : (line : ℕ) → Quad → Lined
lined line q = record { quad = q; line = line; note = Plain }

abbrev pub one : (line : ℕ) → Quad → List Lined
one line q = lined line q ∷ []

-- some code, and what comes behind it, put there
abbrev pub code_then : (at : ℕ) → List Lined → (ℕ → List Lined) → List Lined
code_then at first rest = first ++ rest (at + length first)

-- A choice: a jump to the second side, the first side, a jump past the second side, and the second side.
abbrev pub choice : (line at : ℕ) → (skip : (to : ℕ) → Quad) → (first second : ℕ → List Lined) → List Lined
choice line at skip first second =
    let a = first (at + 1) in
    let middle = at + 1 + length a + 1 in
    let b = second middle in
    lined line (skip middle) ∷ (a ++ lined line (quad.Jump (middle + length b)) ∷ b)

-- A loop. A `break` comes to the position behind the test's jump, and a `continue` to the next one, so that both are known before the body.
abbrev pub loop_code : (line at : ℕ) → (test : ℕ → List Lined) → Operand → (body : (at leave again : ℕ) → List Lined) → (third : ℕ → List Lined) → List Lined
loop_code line at test o body third =
    let t = test at in
    let leave = at + length t + 1 in
    let start = leave + 1 + 1 in
    let b = body start leave (leave + 1) in
    let behind = start + length b in
    let last = third behind in
    t ++ lined line (quad.IfNot o start) ∷ lined line (quad.Jump (behind + length last + 1)) ∷ lined line (quad.Jump behind) ∷ (b ++ (last ++ one line (quad.Jump at)))

-- a loop whose test comes behind its body
abbrev pub do_code : (line at : ℕ) → (test : ℕ → List Lined) → Operand → (body : (at leave again : ℕ) → List Lined) → List Lined
do_code line at test o body =
    let start = at + 1 + 1 + 1 in
    let b = body start (at + 1) (at + 1 + 1) in
    let behind = start + length b in
    let t = test behind in
    lined line (quad.Jump start) ∷ lined line (quad.Jump (behind + length t + 1)) ∷ lined line (quad.Jump behind) ∷ (b ++ (t ++ one line (quad.IfNot o start)))

-- a spawn, its block and its join
abbrev pub spawn_code : (line at site : ℕ) → (low high : Operand) → (block : (at : ℕ) → List Lined) → List Lined
spawn_code line at site low high block =
    let b = block (at + 1) in
    record { quad = quad.Spawn low high; line = line; note = Spawns site (at + 1 + length b + 1) } ∷ (b ++ one line quad.Join)
