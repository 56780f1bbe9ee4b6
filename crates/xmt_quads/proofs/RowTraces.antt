-- The thread of a small program: `main() { g = f(2); }` with `int f(int x) { return x + 1; }`.
use Rattle.std.proofs.Common.{refl, List, [], ◌∷◌, inl, replicate, true, false}
use Rattle.xmt_base.specs.Action.{Action, Store, Ended, Main, Word}
use Rattle.interleaving.specs.Actors.{Entry}
use Rattle.xmt_quads.specs.declared.code.Operand.TheVariants.{Reg, Literal}
use Rattle.xmt_quads.specs.declared.code.Where.TheVariants as place
use Rattle.xmt_quads.specs.declared.code.Quad.TheVariants as quad
use Rattle.xmt_quads.specs.declared.code.QuadProgram.{QuadProgram}
use Rattle.xmt_base.specs.declared.operators.BinOp.TheVariants.{Add}
use Rattle.xmt_quads.specs.Meaning.{QuadThread, with_register}
use Rattle.xmt_quads.specs.Traces.{Contents, main_thread, HasTrace}

abbrev program : QuadProgram
program =
    record {
      functions =
          record { quads = quad.Argument 0 (Literal 2) ∷ quad.Call 1 ∷ quad.Result 0 ∷ quad.Store (place.Word 0) (Reg 0) ∷ quad.Return (Literal 0) ∷ []; lines = replicate 5 1; registers = 1; inner = false } ∷
          record { quads = quad.Parameter 0 0 ∷ quad.Binary Add 1 (Reg 0) (Literal 1) ∷ quad.Return (Reg 1) ∷ []; lines = replicate 3 2; registers = 2; inner = true } ∷ [];
      main = 0;
      texts = [];
      symbols = [];
      words = 0 ∷ [];
      ps = replicate 8 0;
      outer = 0;
    }

-- what it finds at its beginning
abbrev contents : Contents
contents = record { registers = λ r. 91; list = λ place. 92; found = λ call r. 93 }

abbrev part : List (Entry Action)
part = record { actor = 0; action = Store (Word 0) 3; reply = 0 } ∷ record { actor = 0; action = Ended; reply = 0 } ∷ []

abbrev end : QuadThread
end =
    record (main_thread program contents) {
      at = 4;
      registers = with_register contents.registers 0 3;
      list = with_register contents.list 0 2;
      result = 3;
      found = λ call r. 93;
      ended = true;
    }

-- eight quads, of which one is a call and one writes an argument
stores_three : HasTrace program Main [] (Store (Word 0) 3 ∷ Ended ∷ []) 70
stores_three =
    record {
      thread = main_thread program contents;
      begins = (contents, refl);
      part = part;
      end = end;
      steps = 8;
      does = (68, refl, (24, refl, (20, refl, (16, refl, (12, refl, (8, refl, (4, refl, (refl, (0, refl, (refl, (refl, refl, refl)))))))))));
      told = ([], refl);
      is_trace = inl refl;
    }
