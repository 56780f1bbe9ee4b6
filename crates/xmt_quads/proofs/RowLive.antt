-- `x = 5; y = 6; spawn(0, 1) { g = x; }`, with x in register 0 and y in register 1: x is live where the block begins, and y is not.
use Rattle.std.proofs.Common.{◌≡◌, refl, List, [], ◌∷◌}
use Rattle.xmt_quads.specs.declared.code.Operand.TheVariants.{Reg, Literal}
use Rattle.xmt_quads.specs.declared.code.Where.TheVariants.{Word}
use Rattle.xmt_quads.specs.declared.code.Quad.{Quad}
use Rattle.xmt_quads.specs.declared.code.Quad.TheVariants.{Copy, Store, Spawn, Join, Return}
use Rattle.xmt_quads.specs.Live.{IsLive, is_read, leads_to}

abbrev quads : List Quad
quads = Copy 0 (Literal 5) ∷ Copy 1 (Literal 6) ∷ Spawn (Literal 0) (Literal 1) ∷ Store (Word 0) (Reg 0) ∷ Join ∷ Return (Literal 0) ∷ []

-- the block reads x first
x_is_live : IsLive quads 0 3
x_is_live = is_read 3 (Store (Word 0) (Reg 0)) refl refl

-- the spawn leads into its block, and behind its join
spawn_leads : leads_to quads 2 (Spawn (Literal 0) (Literal 1)) ≡ 3 ∷ 5 ∷ []
spawn_leads = refl
