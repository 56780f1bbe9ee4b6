-- What a unit of a valid image asks for is there.
use Rattle.std.proofs.Common.{◌≡◌, refl, sym, ◌∙◌, subst, ℕ, ◌+◌, ◌*◌, ◌<◌, ◌≤◌, nat_lt, Bool, true, false, if◌then◌else◌, [], length, get_or, Option, Some, None, arith}
use Rattle.std.proofs.lemmas.Bool.Decides.{nat_tests}
use Rattle.std.proofs.lemmas.List.Elements.{All-get_or}
use Rattle.std.proofs.lemmas.Option.{unwrap_or-slice_get}
use Rattle.std.proofs.Math.Nat.{mul-le-mul_left}
use Rattle.std.specs.Prelude.{⊤}
use Rattle.std.specs.Option.{IfSome}
use Rattle.xmt_base.specs.Format.{IsFormat, directives}
use Rattle.xmt_base.specs.Operators.{binary_value}
use Rattle.xmt_base.specs.declared.values.TrapKind.TheVariants.{DivideByZero, Index, PsIncrement, CallDepth, Address}
use Rattle.xmt_isa.specs.declared.image.Image.{Image}
use Rattle.xmt_isa.specs.declared.operation.Operation.{Operation}
use Rattle.xmt_isa.specs.declared.operation.Operation.TheVariants.{Binary, Call, Check, Load, Store, Add, Print, Spawn, Join}
use Rattle.xmt_isa.specs.declared.operation.Location.{Location}
use Rattle.xmt_isa.specs.declared.operation.Location.TheVariants.{Word, Indexed, Outer, Register}
use Rattle.xmt_isa.specs.declared.unit.Unit.{Unit}
use Rattle.xmt_isa.specs.declared.unit.UnitState.TheVariants.{Runs}
use Rattle.xmt_isa.specs.declared.unit.Start.{Start}
use Rattle.xmt_isa.specs.declared.unit.Request.{Request}
use Rattle.xmt_isa.specs.declared.unit.Request.TheVariants as request
use Rattle.xmt_isa.specs.declared.unit.Next.{Next}
use Rattle.xmt_isa.specs.declared.unit.Next.TheVariants as next
use Rattle.xmt_isa.specs.Image.{operation_at}
use Rattle.xmt_isa.specs.Step.{reg, outer_depth, word_of, access, adds, divides, next_at, next_here, next_of}
use Rattle.xmt_isa.specs.Machine.{text_of}
use Rattle.xmt_isa.specs.Regions.{IsPrint}
use Rattle.xmt_isa.specs.Targets.{LocationFits, TargetFits}
use Rattle.xmt_isa.specs.Valid.{IsValid}
use Rattle.machine_places.specs.Keeps.{IsShared}
use Rattle.machine_places.proofs.Units.{next_of-runs}
use Rattle.xmt_isa.proofs.Numbers.{number_of}
use Rattle.unit_steps.specs.Keeps.{IsThere}
use Rattle.unit_steps.proofs.Instructions.{sound_instr, op_at}

-- ---- facts on what a unit does next

module _ (P : Next → Type 0) where
  holds_either : (b : Bool) (x y : Next) → P x → P y → P (if b then x else y)
  holds_either true x y p q = p
  holds_either false x y p q = q

  holds_divides : (value : Option ℕ) → P (next.Trap DivideByZero) → P next.Local → P (divides value)
  holds_divides None trap plain = trap
  holds_divides (Some value) trap plain = plain

  holds_access : (word : Option ℕ) (ask : ℕ → Request) → P (next.Trap Address) → IfSome word (λ at. P (next.Ask (ask at))) → P (access word ask)
  holds_access None ask trap holds = trap
  holds_access (Some at) ask trap holds = holds

-- it asks for what is there
abbrev ThereNext : Image → Next → Type 0
ThereNext image next.Local = ⊤
ThereNext image (next.Trap kind) = ⊤
ThereNext image (next.Ask ask) = IsThere image ask

-- ---- the words of a location

module _ (image : Image) (start : Start) (u : Unit) (deep : outer_depth start u ≤ 256) where
  -- each is a word of the table that threads share
  word_there : (place : Location) → LocationFits image place → IfSome (word_of image start u place) (IsShared image)
  word_there (Word i) inside = record { above = omega arith; below = omega (arith, inside) }
  word_there (Register i) inside = record { above = omega arith; below = omega (arith, inside) }
  word_there (Indexed b i) inside = by_test (nat_lt (i + reg u b) (length image.words)) refl
    where
      by_test : (t : Bool) → nat_lt (i + reg u b) (length image.words) ≡ t → IfSome (if t then Some (12 + (i + reg u b)) else None) (IsShared image)
      by_test true e = record { above = omega arith; below = (let less : i + reg u b < length image.words = grind (arith, nat_tests, e) in omega (arith, less)) }
      by_test false e = tt
  word_there (Outer i) inside =
      let product : image.outer * outer_depth start u ≤ image.outer * 256 = mul-le-mul_left image.outer deep in
      below (image.outer * outer_depth start u) product
    where
      below : (n : ℕ) → n ≤ image.outer * 256 → IsShared image (12 + length image.words + n + i)
      below n less = record { above = omega arith; below = omega (arith, less, inside) }

  -- a register takes 0 or 1; the other words lie behind the registers
  added_there : (place : Location) (value : ℕ) → LocationFits image place → ThereNext image (adds (word_of image start u place) place value)
  added_there (Word i) value inside = (word_there (Word i) inside, λ less. absurd (omega (arith, less)))
  added_there (Outer i) value inside = (word_there (Outer i) inside, outer_above (image.outer * outer_depth start u))
    where
      outer_above : (n : ℕ) → 12 + length image.words + n + i < 12 → value ≤ 1
      outer_above n less = absurd (omega (arith, less))
  added_there (Indexed b i) value inside = holds_access (ThereNext image) (word_of image start u (Indexed b i)) (λ at. request.Add at value) tt (by_test (nat_lt (i + reg u b) (length image.words)) (word_there (Indexed b i) inside))
    where
      by_test : (t : Bool) → IfSome (if t then Some (12 + (i + reg u b)) else None) (IsShared image) → IfSome (if t then Some (12 + (i + reg u b)) else None) (λ at. IsShared image at × (at < 12 → value ≤ 1))
      by_test true shared = (shared, λ less. absurd (omega (arith, less)))
      by_test false shared = tt
  added_there (Register i) value inside = by_test (nat_lt 1 value) refl
    where
      by_test : (t : Bool) → nat_lt 1 value ≡ t → ThereNext image (if t then next.Trap PsIncrement else next.Ask (request.Add (4 + i) value))
      by_test true e = tt
      by_test false e = (word_there (Register i) inside, λ less. grind (arith, nat_tests, e))

  -- a text of a valid image has at most 16 values
  text_there : (valid : IsValid image) (text : ℕ) → text < length image.texts → IsThere image (request.Print text)
  text_there valid text inside =
      let same : text_of image text ≡ get_or image.texts text [] = unwrap_or-slice_get image.texts text [] in
      (inside, subst (λ xs. directives false xs ≤ 16) (sym same) (All-get_or IsFormat image.texts text [] inside valid.texts.each).values)

  -- each operation asks for what is there
  there_at : (valid : IsValid image) (number : ℕ) (o : Operation) → TargetFits image number o → ThereNext image (next_at image start u o)
  there_at valid number (Load a place) fits = holds_access (ThereNext image) (word_of image start u place) (λ at. request.Load at) tt (word_there place fits)
  there_at valid number (Store a place) fits = holds_access (ThereNext image) (word_of image start u place) (λ at. request.Store at (reg u a)) tt (word_there place fits)
  there_at valid number (Add a place) fits = added_there place (reg u a) fits
  there_at valid number (Print text) fits = text_there valid text fits
  there_at valid number (Binary op a b c) fits = holds_divides (ThereNext image) (binary_value op (reg u b) (reg u c)) tt tt
  there_at valid number (Call f) fits = holds_either (ThereNext image) (nat_lt u.depth 256) next.Local (next.Trap CallDepth) tt tt
  there_at valid number (Check b n) fits = holds_either (ThereNext image) (nat_lt (reg u b) n) next.Local (next.Trap Index) tt tt
  there_at valid number (Spawn a b mask) fits = tt
  there_at valid number Join fits = tt
  there_at valid number o fits = tt

  -- so does a unit that runs
  pub there_runs : IsValid image → u.state ≡ Runs → (ask : Request) → next_of image start u ≡ next.Ask ask → IsThere image ask
  there_runs valid runs ask is = subst (ThereNext image) (sym (next_of-runs image start u runs) ∙ is) (by_operation (operation_at image u.at) refl)
    where
      by_operation : (o : Option Operation) → operation_at image u.at ≡ o → ThereNext image (next_here image start u o)
      by_operation None at = tt
      by_operation (Some o) at = let r = sound_instr image valid u.at o at in there_at valid r.0.imm o r.2.target

-- ---- a print

-- where it asks to print, it stands at a print
abbrev PrintNext : Image → (at : ℕ) → Next → Type 0
PrintNext image at next.Local = ⊤
PrintNext image at (next.Trap kind) = ⊤
PrintNext image at (next.Ask (request.Load word)) = ⊤
PrintNext image at (next.Ask (request.Store word value)) = ⊤
PrintNext image at (next.Ask (request.Add word value)) = ⊤
PrintNext image at (next.Ask request.Draw) = ⊤
PrintNext image at (next.Ask (request.Spawn ask)) = ⊤
PrintNext image at (next.Ask (request.Print text)) = IsPrint image at

print_op : (image : Image) (at text : ℕ) → operation_at image at ≡ Some (Print text) → IsPrint image at
unfolding number_of
print_op image at text is = op_at image at (Print text) is

module _ (image : Image) (start : Start) (u : Unit) where
  any_some : (A : ℕ → Type 0) (o : Option ℕ) → ((n : ℕ) → A n) → IfSome o A
  any_some A None f = tt
  any_some A (Some n) f = f n

  print_access : (word : Option ℕ) (ask : ℕ → Request) → ((n : ℕ) → PrintNext image u.at (next.Ask (ask n))) → PrintNext image u.at (access word ask)
  print_access word ask each = holds_access (PrintNext image u.at) word ask tt (any_some (λ n. PrintNext image u.at (next.Ask (ask n))) word each)

  print_adds : (word : Option ℕ) (place : Location) (value : ℕ) → PrintNext image u.at (adds word place value)
  print_adds word (Word i) value = print_access word (λ at. request.Add at value) (λ n. tt)
  print_adds word (Indexed b i) value = print_access word (λ at. request.Add at value) (λ n. tt)
  print_adds word (Outer i) value = print_access word (λ at. request.Add at value) (λ n. tt)
  print_adds word (Register i) value = holds_either (PrintNext image u.at) (nat_lt 1 value) (next.Trap PsIncrement) (access word (λ at. request.Add at value)) tt (print_access word (λ at. request.Add at value) (λ n. tt))

  -- each operation but a print asks for something else
  print_at : (o : Operation) → operation_at image u.at ≡ Some o → PrintNext image u.at (next_at image start u o)
  print_at (Load a place) is = print_access (word_of image start u place) (λ at. request.Load at) (λ n. tt)
  print_at (Store a place) is = print_access (word_of image start u place) (λ at. request.Store at (reg u a)) (λ n. tt)
  print_at (Add a place) is = print_adds (word_of image start u place) place (reg u a)
  print_at (Print text) is = print_op image u.at text is
  print_at (Binary op a b c) is = holds_divides (PrintNext image u.at) (binary_value op (reg u b) (reg u c)) tt tt
  print_at (Call f) is = holds_either (PrintNext image u.at) (nat_lt u.depth 256) next.Local (next.Trap CallDepth) tt tt
  print_at (Check b n) is = holds_either (PrintNext image u.at) (nat_lt (reg u b) n) next.Local (next.Trap Index) tt tt
  print_at (Spawn a b mask) is = tt
  print_at Join is = tt
  print_at o is = tt

  print_here : (o : Option Operation) → operation_at image u.at ≡ o → PrintNext image u.at (next_here image start u o)
  print_here None at = tt
  print_here (Some o) at = print_at o at

  pub at_print : (text : ℕ) → u.state ≡ Runs → next_of image start u ≡ next.Ask (request.Print text) → IsPrint image u.at
  at_print text runs is = subst (PrintNext image u.at) (sym (next_of-runs image start u runs) ∙ is) (print_here (operation_at image u.at) refl)
