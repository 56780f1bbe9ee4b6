-- A program as it is lowered.
use Rattle.std.proofs.Common.{◌≡◌, ◌∙◌, ap, subst, refl, arith, ℕ, ◌+◌, List, []}
use Rattle.xmt_base.specs.declared.values.Symbol.{Symbol}
use Rattle.source_meaning.specs.declared.tree.Program.{Program}
use Rattle.source_meaning.specs.Layout.{symbols_from, opening_words, opening_registers}
use Rattle.spawn_check.specs.Words.{outer_words}
use Rattle.xmt_quads.specs.declared.code.QuadFunction.{QuadFunction}
use Rattle.lowered_quads.specs.Lowered.{IsLowered}
use Rattle.lowering.specs.Whole.{AreFunctionsOf, AreLowered, is_unmarked}
use Rattle.lowering.proofs.Marks.{are_inner, marked_from}

pub program_made : (program : Program) (made : List QuadFunction) (before texts : List (List ℕ)) (symbols : List Symbol) (words ps : List ℕ) (outer : ℕ) → before ≡ [] → AreLowered program made before texts →
    symbols ≡ symbols_from 0 program.globals → words ≡ opening_words program.globals → ps ≡ opening_registers program → outer ≡ outer_words program.functions →
    IsLowered program (record { functions = made; main = program.main; texts = texts; symbols = symbols; words = words; ps = ps; outer = outer })
program_made program made before texts symbols words ps outer empty h are_symbols are_words are_values is_outer =
    let all : AreFunctionsOf program h.prints h.spawns 0 program.functions [] texts made = subst (λ t. AreFunctionsOf program h.prints h.spawns 0 program.functions t texts made) empty h.functions in
    record {
      code = record { are_quads = all.quads 0; are_lines = all.lines 0; main = refl; texts = all.texts; symbols = are_symbols; words = are_words };
      registers = all.registers;
      inner = is_unmarked h.prints h.spawns;
      are_inner = are_inner program.functions h.prints h.spawns h.are_prints h.are_spawns;
      marked = λ f code is. let at : 0 + f ≡ f = omega arith in marked_from h.prints h.spawns program.functions made 0 f code all.inner is ∙ ap (is_unmarked h.prints h.spawns) at;
      ps = are_values;
      outer = is_outer;
    }
