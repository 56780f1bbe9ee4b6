-- Worked rows: what the definitions compute to, and images that do not implement `int main() {}`.
use Rattle.std.proofs.Common.{◌≡◌, refl, sym, ◌∙◌, ap, subst, ℕ, suc, zero, ◌<◌, true, false, List, [], ◌∷◌, replicate, Option, Some, None, arith, ◌⊎◌, inl, inr}
use Rattle.std.specs.Prelude.{codes, count_by}
use Rattle.std.specs.List.{Contains}
use Rattle.xmt_base.specs.declared.values.TrapKind.TheVariants.{DivideByZero}
use Rattle.xmt_base.specs.declared.values.Trap.{Trap}
use Rattle.source_meaning.specs.declared.tree.Program.{Program}
use Rattle.source_meaning.specs.Layout.{opening_registers}
use Rattle.source_meaning.specs.Opened.{opened}
use Rattle.source_meaning.specs.Run as source
use Rattle.source_meaning.specs.Run.{Thread, Configuration, start, can_step, thread_numbers}
use Rattle.source_meaning.specs.Term.{Code, Done}
use Rattle.source_meaning.proofs.Written.{function, program_of}
use Rattle.xmt_isa.specs.declared.image.Image.{Image}
use Rattle.xmt_isa.specs.declared.image.Instr.{Instr}
use Rattle.xmt_compile.specs.Implements.{reached, is_under_way, Implements}

-- ---- what definitions compute to

registers_open : opening_registers (program_of [] (record { name = codes "x"; opening = 5 } ∷ record { name = codes "y"; opening = 7 } ∷ []) []) ≡ 5 ∷ 7 ∷ 0 ∷ 0 ∷ 0 ∷ 0 ∷ 0 ∷ 0 ∷ []
registers_open = refl

abbrev thread : Option Code → Thread
thread code = record { code = code; number = 0; outermost = None; parent = None }

-- the serial code and four virtual threads, of which the first and the third have ended, and the last has taken no step
abbrev some_threads : Configuration
some_threads = record { store = λ cell. 0; threads = thread (Some Done) ∷ thread None ∷ thread (Some Done) ∷ thread None ∷ thread (Some Done) ∷ []; output = [] }

one_under_way : count_by (is_under_way (0 ∷ 2 ∷ 1 ∷ 3 ∷ 1 ∷ 2 ∷ []) some_threads) (thread_numbers some_threads) ≡ 1
one_under_way = refl

-- ---- an empty program

unfoldable pub empty : Program
empty = program_of [] [] (function (codes "main") 0 [] ∷ [])

-- it has one step
runs_of_empty : (schedule : List ℕ) → source.IsLegal empty (start empty []) schedule → (schedule ≡ []) ⊎ (schedule ≡ 0 ∷ [])
unfolding empty opened
runs_of_empty [] legal = inl refl
runs_of_empty (zero ∷ []) legal = inr refl
runs_of_empty (zero ∷ zero ∷ schedule) legal = (let never : false ≡ true = legal.1.0 in cc)
runs_of_empty (zero ∷ suc t ∷ schedule) legal = (let never : false ≡ true = legal.1.0 in cc)
runs_of_empty (suc t ∷ schedule) legal = (let never : false ≡ true = legal.0 in cc)

abbrev image_of : Instr → Image
image_of i = record {
  code = i ∷ record { op = 24; a = 0; b = 0; c = 0; imm = 0 } ∷ [];
  lines = 3 ∷ 4 ∷ [];
  functions = record { start = 0; slots = 0; inner = 0 } ∷ [];
  texts = codes "a" ∷ [];
  symbols = [];
  words = [];
  ps = replicate 8 0;
  outer = 0;
  entry = 0;
}

-- an image that prints
abbrev printing : Image
printing = image_of (record { op = 43; a = 0; b = 0; c = 0; imm = 0 })

-- an image that divides 0 by 0
abbrev dividing : Image
dividing = image_of (record { op = 6; a = 2; b = 0; c = 0; imm = 0 })

prints_nothing : (schedule : List ℕ) → source.IsLegal empty (start empty []) schedule → (reached empty [] schedule).output ≡ []
unfolding empty opened
prints_nothing schedule legal = elim (runs_of_empty schedule legal) [
  | inl e ↦ ap (λ s. (reached empty [] s).output) e
  | inr e ↦ ap (λ s. (reached empty [] s).output) e
]

stands_at_no_trap : (schedule : List ℕ) → source.IsLegal empty (start empty []) schedule → source.traps empty (reached empty [] schedule) ≡ []
unfolding empty opened
stands_at_no_trap schedule legal = elim (runs_of_empty schedule legal) [
  | inl e ↦ ap (λ s. source.traps empty (reached empty [] s)) e
  | inr e ↦ ap (λ s. source.traps empty (reached empty [] s)) e
]

no_byte : ◌≡◌ {A = List ℕ} [] (97 ∷ []) → ⊥
no_byte e = cc

-- what prints more does not implement it
printing_does_not : Implements empty printing → ⊥
unfolding empty
printing_does_not h =
    let r = h.runs [] 1 (0 ∷ []) refl (omega arith) (omega arith) ((refl, refl), tt) in
    no_byte (sym (prints_nothing r.0 r.1.legal) ∙ r.1.printed)

none_within : (trap : Trap) → Contains [] trap → ⊥
none_within trap h = (let less : h.0 < 0 = h.1 in omega (arith, less))

-- what stands at a trap does not
dividing_does_not : Implements empty dividing → ⊥
unfolding empty
dividing_does_not h =
    let r = h.runs [] 1 [] refl (omega arith) (omega arith) tt in
    none_within _ (subst (λ traps. Contains traps (record { kind = DivideByZero; line = 3; thread = None })) (stands_at_no_trap r.0 r.1.legal) (r.1.traps 0 _ DivideByZero refl refl refl))
