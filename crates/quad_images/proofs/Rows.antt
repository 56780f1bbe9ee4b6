-- Images of small programs, and the numbers of their instructions.
use Rattle.std.proofs.Common.{◌≡◌, refl, List, [], ◌∷◌, true, false}
use Rattle.xmt_base.specs.declared.operators.BinOp.TheVariants.{Sub, Gt}
use Rattle.xmt_quads.specs.declared.code.Operand.TheVariants.{Reg, Literal}
use Rattle.xmt_quads.specs.declared.code.Where.TheVariants.{Element, PsReg}
use Rattle.xmt_quads.specs.declared.code.Quad.TheVariants as quad
use Rattle.xmt_quads.specs.declared.code.QuadFunction.{QuadFunction}
use Rattle.xmt_quads.specs.declared.homes.Home.{Home}
use Rattle.xmt_quads.specs.declared.homes.Home.TheVariants.{Slot}
use Rattle.quad_images.specs.Instructions.{instr, size}
use Rattle.quad_images.specs.Image.{codes_from, lines_of_all, entries_from, slot_in}

-- `int f(int n) { return n - 1; }` in line 2
abbrev less_one : QuadFunction
less_one =
    record {
      quads = quad.Parameter 0 0 ∷ quad.Binary Sub 1 (Reg 0) (Literal 1) ∷ quad.Return (Reg 1) ∷ [];
      lines = 2 ∷ 2 ∷ 2 ∷ [];
      registers = 2;
      inner = true;
    }

-- `x = 5; while (x > 0) x = f(x); spawn(0, x) { ps(y, p); a[$] = x; }`, with x and y in registers 0 and 1
abbrev counts_down : QuadFunction
counts_down =
    record {
      quads =
          quad.Copy 0 (Literal 5) ∷
          quad.Binary Gt 2 (Reg 0) (Literal 0) ∷
          quad.IfZero (Reg 2) 7 ∷
          quad.Argument 0 (Reg 0) ∷
          quad.Call 0 ∷
          quad.Result 0 ∷
          quad.Jump 1 ∷
          quad.Spawn (Literal 0) (Reg 0) ∷
          quad.Add 1 (PsReg 3) (Literal 1) ∷
          quad.Dollar 2 ∷
          quad.Store (Element 40 (Reg 2)) (Reg 0) ∷
          quad.Join ∷
          quad.Return (Literal 0) ∷ [];
      lines = 4 ∷ 5 ∷ 5 ∷ 6 ∷ 6 ∷ 6 ∷ 5 ∷ 7 ∷ 8 ∷ 9 ∷ 9 ∷ 10 ∷ 11 ∷ [];
      registers = 3;
      inner = false;
    }

abbrev functions : List QuadFunction
functions = less_one ∷ counts_down ∷ []

-- the registers of the second function live in slots in reverse
abbrev homes : List (List Home)
homes = (Slot 0 ∷ Slot 1 ∷ []) ∷ (Slot 2 ∷ Slot 1 ∷ Slot 0 ∷ []) ∷ []

-- In the block x is the master's, and the others are the thread's own.
code : codes_from (slot_in homes) 0 0 functions ≡
    instr 28 3 0 0 0 ∷ instr 26 0 3 0 0 ∷
    instr 25 3 0 0 0 ∷ instr 1 4 0 0 1 ∷ instr 4 3 3 4 0 ∷ instr 26 0 3 0 1 ∷
    instr 25 2 0 0 1 ∷ instr 24 0 0 0 0 ∷
    instr 1 3 0 0 5 ∷ instr 26 0 3 0 2 ∷
    instr 25 3 0 0 2 ∷ instr 1 4 0 0 0 ∷ instr 13 3 4 3 0 ∷ instr 26 0 3 0 0 ∷
    instr 25 3 0 0 0 ∷ instr 21 0 3 0 21 ∷
    instr 25 3 0 0 2 ∷ instr 27 0 3 0 0 ∷
    instr 23 0 0 0 0 ∷
    instr 26 0 2 0 2 ∷
    instr 20 0 0 0 10 ∷
    instr 1 3 0 0 0 ∷ instr 25 4 0 0 2 ∷ instr 44 3 4 0 0 ∷
    instr 1 3 0 0 1 ∷ instr 42 3 0 0 3 ∷ instr 26 0 3 0 1 ∷
    instr 26 0 1 0 0 ∷
    instr 29 3 0 0 2 ∷ instr 25 4 0 0 0 ∷ instr 35 3 4 0 40 ∷
    instr 45 0 0 0 0 ∷
    instr 1 2 0 0 0 ∷ instr 24 0 0 0 0 ∷ []
code = refl

lines : lines_of_all functions ≡ 2 ∷ 2 ∷ 2 ∷ 2 ∷ 2 ∷ 2 ∷ 2 ∷ 2 ∷ 4 ∷ 4 ∷ 5 ∷ 5 ∷ 5 ∷ 5 ∷ 5 ∷ 5 ∷ 6 ∷ 6 ∷ 6 ∷ 6 ∷ 5 ∷ 7 ∷ 7 ∷ 7 ∷ 8 ∷ 8 ∷ 8 ∷ 9 ∷ 9 ∷ 9 ∷ 9 ∷ 10 ∷ 11 ∷ 11 ∷ []
lines = refl

entries : entries_from 0 functions ≡ record { start = 0; slots = 512; inner = 1 } ∷ record { start = 8; slots = 512; inner = 0 } ∷ []
entries = refl

-- an element takes one instruction more
element_more : size (quad.Add 0 (Element 9 (Reg 1)) (Literal 1)) ≡ 4
element_more = refl
