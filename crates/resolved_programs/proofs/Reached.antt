-- The globals, registers and functions of a program are numbered in the order of their declarations in the file.
use Rattle.std.proofs.Common.{◌≡◌, sym, ◌∙◌, ap, arith, ℕ, ◌+◌, Bool, List, [], ◌∷◌, ◌++◌, length, length-append, append_assoc}
use Rattle.std.proofs.lemmas.List.{length-map}
use Rattle.std.specs.Prelude.{map}
use Rattle.raw_tree.specs.declared.tree.RawGlobal.{RawGlobal}
use Rattle.raw_tree.specs.declared.tree.RawRegister.{RawRegister}
use Rattle.raw_tree.specs.declared.tree.RawItem.{RawItem}
use Rattle.raw_tree.specs.declared.tree.RawItemKind.{RawItemKind}
use Rattle.raw_tree.specs.declared.tree.RawItemKind.TheVariants as i
use Rattle.source_meaning.specs.declared.tree.GlobalVar.{GlobalVar}
use Rattle.source_meaning.specs.declared.tree.Register.{Register}
use Rattle.source_meaning.specs.declared.tree.Function.{Function}
use Rattle.source_meaning.specs.declared.tree.Program.{Program}
use Rattle.name_scopes.specs.declared.scope.Declared.{Declared}
use Rattle.name_scopes.specs.Locals.{is_constant}
use Rattle.name_faults.specs.Nodes.{params_of}
use Rattle.name_faults.specs.Items.{Names, enter_global, enter_register, enter_globals, enter_registers, enter, enter_all, name_of_global, name_of_head}
use Rattle.typed_programs.specs.Items.{global, register, function, globals_of, registers_of, functions_of, all_of}

-- so many more are declared
record Counts (old new : Names) (g r f : ℕ) : Type 0 where
  globals : length new.globals ≡ length old.globals + g
  registers : length new.registers ≡ length old.registers + r
  functions : length new.functions ≡ length old.functions + f

counted_globals : (constant : Bool) (all : List RawGlobal) (file : Names) → Counts file (enter_globals constant all file) (length all) 0 0
counted_globals constant [] file = record { globals = omega arith; registers = omega arith; functions = omega arith }
counted_globals constant (g ∷ rest) file =
    let behind = counted_globals constant rest (enter_global constant g file) in
    let one = length-append file.globals ((name_of_global g).at ∷ []) in
    record { globals = omega (arith, behind.globals, one); registers = behind.registers; functions = behind.functions }

counted_registers : (all : List RawRegister) (file : Names) → Counts file (enter_registers all file) 0 (length all) 0
counted_registers [] file = record { globals = omega arith; registers = omega arith; functions = omega arith }
counted_registers (r ∷ rest) file =
    let behind = counted_registers rest (enter_register r file) in
    let one = length-append file.registers (r.name.at ∷ []) in
    record { globals = behind.globals; registers = omega (arith, behind.registers, one); functions = behind.functions }

module _ (p : Program) (ds : List Declared) where
  -- what stands in the program before these items is what the file has declared so far
  pub record Reached (rest : List RawItem) (file : Names) : Type 0 where
    pub gs : List GlobalVar
    pub rs : List Register
    pub fs : List Function
    pub globals : p.globals ≡ gs ++ all_of globals_of rest
    pub registers : p.registers ≡ rs ++ all_of registers_of rest
    pub functions : p.functions ≡ fs ++ all_of (functions_of ds) rest
    pub at_globals : length file.globals ≡ length gs
    pub at_registers : length file.registers ≡ length rs
    pub at_functions : length file.functions ≡ length fs

  pub reached_next : (x : RawItem) (rest : List RawItem) (file : Names) → Reached (x ∷ rest) file → Reached rest (enter x.kind file)
  reached_next x rest file reached = by_kind x.kind reached.globals reached.registers reached.functions
    where
      by_kind : (kind : RawItemKind) → p.globals ≡ reached.gs ++ (globals_of kind ++ all_of globals_of rest) → p.registers ≡ reached.rs ++ (registers_of kind ++ all_of registers_of rest) →
          p.functions ≡ reached.fs ++ (functions_of ds kind ++ all_of (functions_of ds) rest) → Reached rest (enter kind file)
      by_kind (i.Globals ty all) globals registers functions =
          let counted = counted_globals (is_constant ty.qualifiers) all file in
          let more : List GlobalVar = map (global (is_constant ty.qualifiers)) all in
          record {
            gs = reached.gs ++ more;
            rs = reached.rs;
            fs = reached.fs;
            globals = globals ∙ sym (append_assoc reached.gs more (all_of globals_of rest));
            registers = registers;
            functions = functions;
            at_globals = omega (arith, counted.globals, reached.at_globals, length-append reached.gs more, length-map all (global (is_constant ty.qualifiers)));
            at_registers = omega (arith, counted.registers, reached.at_registers);
            at_functions = omega (arith, counted.functions, reached.at_functions);
          }
      by_kind (i.Registers int all) globals registers functions =
          let counted = counted_registers all file in
          let more : List Register = map register all in
          record {
            gs = reached.gs;
            rs = reached.rs ++ more;
            fs = reached.fs;
            globals = globals;
            registers = registers ∙ sym (append_assoc reached.rs more (all_of registers_of rest));
            functions = functions;
            at_globals = omega (arith, counted.globals, reached.at_globals);
            at_registers = omega (arith, counted.registers, reached.at_registers, length-append reached.rs more, length-map all register);
            at_functions = omega (arith, counted.functions, reached.at_functions);
          }
      by_kind (i.Function result params body) globals registers functions =
          let more : List Function = function ds result (params_of params) body ∷ [] in
          record {
            gs = reached.gs;
            rs = reached.rs;
            fs = reached.fs ++ more;
            globals = globals;
            registers = registers;
            functions = functions ∙ sym (append_assoc reached.fs more (all_of (functions_of ds) rest));
            at_globals = reached.at_globals;
            at_registers = reached.at_registers;
            at_functions = omega (arith, reached.at_functions, length-append file.functions ((name_of_head result).at ∷ []), length-append reached.fs more);
          }
      by_kind (i.Proto result params) globals registers functions =
          record {
            gs = reached.gs;
            rs = reached.rs;
            fs = reached.fs;
            globals = globals;
            registers = registers;
            functions = functions;
            at_globals = reached.at_globals;
            at_registers = reached.at_registers;
            at_functions = reached.at_functions;
          }

  pub reached_end : (rest : List RawItem) (file : Names) → Reached rest file → Reached [] (enter_all rest file)
  reached_end [] file reached = reached
  reached_end (x ∷ rest) file reached = reached_end rest (enter x.kind file) (reached_next x rest file reached)

  -- at the end the program has as many of each as the file declares
  pub record HasCounts (file : Names) : Type 0 where
    pub globals : length p.globals ≡ length file.globals
    pub registers : length p.registers ≡ length file.registers
    pub functions : length p.functions ≡ length file.functions

  pub counts_at_end : (file : Names) → Reached [] file → HasCounts file
  counts_at_end file reached =
      record {
        globals = omega (arith, ap length reached.globals, length-append reached.gs (all_of globals_of []), reached.at_globals);
        registers = omega (arith, ap length reached.registers, length-append reached.rs (all_of registers_of []), reached.at_registers);
        functions = omega (arith, ap length reached.functions, length-append reached.fs (all_of (functions_of ds) []), reached.at_functions);
      }
