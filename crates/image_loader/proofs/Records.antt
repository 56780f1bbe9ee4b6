-- The fields of an image, its header and all of its bytes.
use Rattle.std.proofs.Common.{◌≡◌, ◌&&◌, ℕ, suc, ◌≤◌, Bool, true, false, cond, ltb, eqb, List, [], ◌∷◌, ◌++◌, length, drop, Result, Ok, Err, refl, sym, ap, subst, ◌∙◌, arith}
use Rattle.std.specs.List.{flat_map}
use Rattle.std.proofs.lemmas.Bool.{ltb-false, le-ltb, eqb-true}
use Rattle.std.proofs.lemmas.List.{append-nil, nil_from_length, length-append}
use Rattle.byteorder.specs.Endian.{little_number}
use Rattle.byteorder.specs.Numbers.{little_number-reads_back}
use Rattle.xmt_base.specs.declared.values.Symbol.{Symbol}
use Rattle.xmt_isa.specs.declared.image.Image.{Image}
use Rattle.xmt_isa.specs.declared.image.Instr.{Instr}
use Rattle.xmt_isa.specs.declared.image.FunctionEntry.{FunctionEntry}
use Rattle.std.specs.Prelude.{IfOk}
use Rattle.image_loader.specs.declared.refusal.LoadRefusal.{LoadRefusal}
use Rattle.image_loader.specs.declared.refusal.LoadKind.{LoadKind}
use Rattle.image_loader.specs.declared.refusal.LoadKind.TheVariants.{Short, BadMark, BadVersion, Extra}
use Rattle.image_loader.specs.Layout.{number, text, instruction, function, symbol, mark, header, body, IsWord, TextFits, InstructionFits, FunctionFits, SymbolFits, Fits, Bytes}
use Rattle.image_loader.specs.Reading.{◌>>=◌, Gives, Header, number_at, instruction_at, function_at, text_at, symbol_at, items_at, mark_at, version_at, numbers_at, body_at, image_at}
use Rattle.image_loader.proofs.Fields.{IsBytes, bind_ok, guard_ok, ok_is, Takes, Takes-then, Reads, step, step_again, last_again, number_reads, text_reads, items_read, Counted}

-- a test that did not fail
guard_is : {A : Type 0} (b : Bool) (d : LoadKind) (x y : A) → cond b (Ok x) (Err d) ≡ Ok y → (b ≡ true) × (x ≡ y)
guard_is true d x y e = (refl, cc)
guard_is false d x y e = absurd cc

-- ---- functions

abbrev function_2 : ℕ → ℕ → ℕ × List ℕ → Result (FunctionEntry × List ℕ) LoadKind
function_2 start slots inner = Ok (record { start = start; slots = slots; inner = inner.0 }, inner.1)

abbrev function_1 : ℕ → ℕ × List ℕ → Result (FunctionEntry × List ℕ) LoadKind
function_1 start slots = number_at slots.1 >>= function_2 start slots.0

abbrev function_0 : ℕ × List ℕ → Result (FunctionEntry × List ℕ) LoadKind
function_0 start = number_at start.1 >>= function_1 start.0

function_takes : (bytes : List ℕ) (x : FunctionEntry × List ℕ) → IsBytes bytes → function_at bytes ≡ Ok x → Takes bytes (function x.0) x.1 × FunctionFits x.0
unfolding function_at
function_takes bytes x fits e =
    let a = step number_at number IsWord number_reads bytes function_0 x fits e in
    let b = step number_at number IsWord number_reads a.rest (function_1 a.x) x a.takes.rest_fits a.later in
    let c = step number_at number IsWord number_reads b.rest (function_2 a.x b.x) x b.takes.rest_fits b.later in
    let bc = Takes-then a.rest (number b.x) b.rest (number c.x) c.rest b.takes c.takes in
    let abc = Takes-then bytes (number a.x) a.rest (number b.x ++ number c.x) c.rest a.takes bc in
    let made : FunctionEntry × List ℕ = (record { start = a.x; slots = b.x; inner = c.x }, c.rest) in
    subst (λ (y : FunctionEntry × List ℕ). Takes bytes (function y.0) y.1 × FunctionFits y.0) (ok_is made x c.later) (abc, record { start = a.fits; slots = b.fits; inner = c.fits })

function_again : (f : FunctionEntry) (rest : List ℕ) → FunctionFits f → function_at (function f ++ rest) ≡ Ok (f, rest)
unfolding function_at
function_again f rest fits =
    step_again number_at number IsWord number_reads f.start (number f.slots ++ number f.inner) rest function_0 fits.start
    ∙ step_again number_at number IsWord number_reads f.slots (number f.inner) rest (function_1 f.start) fits.slots
    ∙ last_again number_at number IsWord number_reads f.inner rest (function_2 f.start f.slots) fits.inner

function_reads : Reads function_at function FunctionFits
function_reads = record { takes = function_takes; again = function_again }

-- ---- symbols

abbrev symbol_2 : ℕ → ℕ → List ℕ × List ℕ → Result (Symbol × List ℕ) LoadKind
symbol_2 base words name = Ok (record { base = base; length = words; name = name.0 }, name.1)

abbrev symbol_1 : ℕ → ℕ × List ℕ → Result (Symbol × List ℕ) LoadKind
symbol_1 base words = text_at words.1 >>= symbol_2 base words.0

abbrev symbol_0 : ℕ × List ℕ → Result (Symbol × List ℕ) LoadKind
symbol_0 base = number_at base.1 >>= symbol_1 base.0

symbol_takes : (bytes : List ℕ) (x : Symbol × List ℕ) → IsBytes bytes → symbol_at bytes ≡ Ok x → Takes bytes (symbol x.0) x.1 × SymbolFits x.0
unfolding symbol_at
symbol_takes bytes x fits e =
    let a = step number_at number IsWord number_reads bytes symbol_0 x fits e in
    let b = step number_at number IsWord number_reads a.rest (symbol_1 a.x) x a.takes.rest_fits a.later in
    let c = step text_at text TextFits text_reads b.rest (symbol_2 a.x b.x) x b.takes.rest_fits b.later in
    let bc = Takes-then a.rest (number b.x) b.rest (text c.x) c.rest b.takes c.takes in
    let abc = Takes-then bytes (number a.x) a.rest (number b.x ++ text c.x) c.rest a.takes bc in
    let made : Symbol × List ℕ = (record { base = a.x; length = b.x; name = c.x }, c.rest) in
    subst (λ (y : Symbol × List ℕ). Takes bytes (symbol y.0) y.1 × SymbolFits y.0) (ok_is made x c.later) (abc, record { base = a.fits; length = b.fits; name = c.fits })

symbol_again : (s : Symbol) (rest : List ℕ) → SymbolFits s → symbol_at (symbol s ++ rest) ≡ Ok (s, rest)
unfolding symbol_at
symbol_again s rest fits =
    step_again number_at number IsWord number_reads s.base (number s.length ++ text s.name) rest symbol_0 fits.base
    ∙ step_again number_at number IsWord number_reads s.length (text s.name) rest (symbol_1 s.base) fits.length
    ∙ last_again text_at text TextFits text_reads s.name rest (symbol_2 s.base s.length) fits.name

symbol_reads : Reads symbol_at symbol SymbolFits
symbol_reads = record { takes = symbol_takes; again = symbol_again }

-- ---- instructions

instruction_takes : (bytes : List ℕ) (x : Instr × List ℕ) → IsBytes bytes → instruction_at bytes ≡ Ok x → Takes bytes (instruction x.0) x.1 × InstructionFits x.0
instruction_takes (a ∷ b ∷ c ∷ d ∷ bytes) x fits e =
    let g = guard_ok (ltb (length (a ∷ b ∷ c ∷ d ∷ bytes)) 8) Short (record { op = a; a = b; b = c; c = d; imm = little_number 4 bytes }, drop 4 bytes) x e in
    let long : 8 ≤ length (a ∷ b ∷ c ∷ d ∷ bytes) = ltb-false _ _ g.0 in
    let short : ltb (length bytes) 4 ≡ false = le-ltb _ _ (omega (arith, long)) in
    let number_is : number_at bytes ≡ Ok (little_number 4 bytes, drop 4 bytes) = rw short refl in
    let n = number_reads.takes bytes (little_number 4 bytes, drop 4 bytes) (λ i. fits (suc (suc (suc (suc i))))) number_is in
    let whole : Takes (a ∷ b ∷ c ∷ d ∷ bytes) ((a ∷ b ∷ c ∷ d ∷ []) ++ number (little_number 4 bytes)) (drop 4 bytes) = record { parts = ap (λ (rest : List ℕ). a ∷ b ∷ c ∷ d ∷ rest) n.0.parts; rest_fits = n.0.rest_fits } in
    subst (λ (y : Instr × List ℕ). Takes (a ∷ b ∷ c ∷ d ∷ bytes) (instruction y.0) y.1 × InstructionFits y.0) g.1 (whole, record { op = fits 0; a = fits 1; b = fits 2; c = fits 3; imm = n.1 })
instruction_takes [] x fits e = absurd cc
instruction_takes (a ∷ []) x fits e = absurd cc
instruction_takes (a ∷ b ∷ []) x fits e = absurd cc
instruction_takes (a ∷ b ∷ c ∷ []) x fits e = absurd cc

abbrev read : {A : Type 0} → A → Result A LoadKind
read x = Ok x

instruction_again : (i : Instr) (rest : List ℕ) → InstructionFits i → instruction_at (instruction i ++ rest) ≡ Ok (i, rest)
instruction_again i rest fits =
    let long : ltb (length (instruction i ++ rest)) 8 ≡ false = le-ltb _ _ (omega (arith, length-append (instruction i) rest)) in
    rw long (ap (λ (m : ℕ). read (record i { imm = m }, rest)) (little_number-reads_back 4 i.imm rest fits.imm))

instruction_reads : Reads instruction_at instruction InstructionFits
instruction_reads = record { takes = instruction_takes; again = instruction_again }

-- ---- the header

openings_read : Reads (items_at number_at 8) (flat_map number) (Counted IsWord 8)
openings_read = items_read number_at number IsWord number_reads 8

abbrev numbers_spelled : Header → List ℕ
numbers_spelled h = number h.code ++ (number h.functions ++ (number h.texts ++ (number h.symbols ++ (number h.words ++ (number h.outer ++ (flat_map number h.ps ++ (number h.entry)))))))

record HeaderFits (h : Header) : Type 0 where
  pub code : IsWord h.code
  pub functions : IsWord h.functions
  pub texts : IsWord h.texts
  pub symbols : IsWord h.symbols
  pub words : IsWord h.words
  pub outer : IsWord h.outer
  pub ps : Counted IsWord 8 h.ps
  pub entry : IsWord h.entry

abbrev numbers_7 : ℕ → ℕ → ℕ → ℕ → ℕ → ℕ → List ℕ → ℕ × List ℕ → Result (Header × List ℕ) LoadKind
numbers_7 code functions texts symbols words outer ps entry = Ok (record { code = code; functions = functions; texts = texts; symbols = symbols; words = words; outer = outer; ps = ps; entry = entry.0 }, entry.1)

abbrev numbers_6 : ℕ → ℕ → ℕ → ℕ → ℕ → ℕ → List ℕ × List ℕ → Result (Header × List ℕ) LoadKind
numbers_6 code functions texts symbols words outer ps = number_at ps.1 >>= numbers_7 code functions texts symbols words outer ps.0

abbrev numbers_5 : ℕ → ℕ → ℕ → ℕ → ℕ → ℕ × List ℕ → Result (Header × List ℕ) LoadKind
numbers_5 code functions texts symbols words outer = items_at number_at 8 outer.1 >>= numbers_6 code functions texts symbols words outer.0

abbrev numbers_4 : ℕ → ℕ → ℕ → ℕ → ℕ × List ℕ → Result (Header × List ℕ) LoadKind
numbers_4 code functions texts symbols words = number_at words.1 >>= numbers_5 code functions texts symbols words.0

abbrev numbers_3 : ℕ → ℕ → ℕ → ℕ × List ℕ → Result (Header × List ℕ) LoadKind
numbers_3 code functions texts symbols = number_at symbols.1 >>= numbers_4 code functions texts symbols.0

abbrev numbers_2 : ℕ → ℕ → ℕ × List ℕ → Result (Header × List ℕ) LoadKind
numbers_2 code functions texts = number_at texts.1 >>= numbers_3 code functions texts.0

abbrev numbers_1 : ℕ → ℕ × List ℕ → Result (Header × List ℕ) LoadKind
numbers_1 code functions = number_at functions.1 >>= numbers_2 code functions.0

abbrev numbers_0 : ℕ × List ℕ → Result (Header × List ℕ) LoadKind
numbers_0 code = number_at code.1 >>= numbers_1 code.0

-- the second half of the header, behind the first
record RestFits (code functions texts symbols : ℕ) (h : Header) : Type 0 where
  pub same_code : h.code ≡ code
  pub same_functions : h.functions ≡ functions
  pub same_texts : h.texts ≡ texts
  pub same_symbols : h.symbols ≡ symbols
  pub words : IsWord h.words
  pub outer : IsWord h.outer
  pub ps : Counted IsWord 8 h.ps
  pub entry : IsWord h.entry

rest_takes : (code functions texts symbols : ℕ) (bytes : List ℕ) (x : Header × List ℕ) → IsBytes bytes → (number_at bytes >>= numbers_4 code functions texts symbols) ≡ Ok x → Takes bytes (number x.0.words ++ (number x.0.outer ++ (flat_map number x.0.ps ++ (number x.0.entry)))) x.1 × RestFits code functions texts symbols x.0
rest_takes code functions texts symbols bytes x fits e =
    let e = step number_at number IsWord number_reads bytes (numbers_4 code functions texts symbols) x fits e in
    let f = step number_at number IsWord number_reads e.rest (numbers_5 code functions texts symbols e.x) x e.takes.rest_fits e.later in
    let g = step (items_at number_at 8) (flat_map number) (Counted IsWord 8) openings_read f.rest (numbers_6 code functions texts symbols e.x f.x) x f.takes.rest_fits f.later in
    let h = step number_at number IsWord number_reads g.rest (numbers_7 code functions texts symbols e.x f.x g.x) x g.takes.rest_fits g.later in
    let t2 = Takes-then f.rest (flat_map number g.x) g.rest (number h.x) h.rest g.takes h.takes in
    let t1 = Takes-then e.rest (number f.x) f.rest (flat_map number g.x ++ (number h.x)) h.rest f.takes t2 in
    let t0 = Takes-then bytes (number e.x) e.rest (number f.x ++ (flat_map number g.x ++ (number h.x))) h.rest e.takes t1 in
    let made : Header × List ℕ = (record { code = code; functions = functions; texts = texts; symbols = symbols; words = e.x; outer = f.x; ps = g.x; entry = h.x }, h.rest) in
    subst (λ (y : Header × List ℕ). Takes bytes (number y.0.words ++ (number y.0.outer ++ (flat_map number y.0.ps ++ (number y.0.entry)))) y.1 × RestFits code functions texts symbols y.0) (ok_is made x h.later) (t0, record { same_code = refl; same_functions = refl; same_texts = refl; same_symbols = refl; words = e.fits; outer = f.fits; ps = g.fits; entry = h.fits })

halves : (a b c d : ℕ) (h : Header) (bytes rest : List ℕ) → h.code ≡ a → h.functions ≡ b → h.texts ≡ c → h.symbols ≡ d → Takes bytes (number a ++ (number b ++ (number c ++ (number d ++ (number h.words ++ (number h.outer ++ (flat_map number h.ps ++ (number h.entry)))))))) rest → Takes bytes (numbers_spelled h) rest
halves a b c d h bytes rest ea eb ec ed t = rw (ea, eb, ec, ed) t

word_is : (x y : ℕ) → x ≡ y → IsWord y → IsWord x
word_is x y e fits = rw e fits

numbers_take : (bytes : List ℕ) (x : Header × List ℕ) → IsBytes bytes → numbers_at bytes ≡ Ok x → Takes bytes (numbers_spelled x.0) x.1 × HeaderFits x.0
unfolding numbers_at
numbers_take bytes x fits e =
    let a = step number_at number IsWord number_reads bytes numbers_0 x fits e in
    let b = step number_at number IsWord number_reads a.rest (numbers_1 a.x) x a.takes.rest_fits a.later in
    let c = step number_at number IsWord number_reads b.rest (numbers_2 a.x b.x) x b.takes.rest_fits b.later in
    let d = step number_at number IsWord number_reads c.rest (numbers_3 a.x b.x c.x) x c.takes.rest_fits c.later in
    let r = rest_takes a.x b.x c.x d.x d.rest x d.takes.rest_fits d.later in
    let t3 = Takes-then c.rest (number d.x) d.rest (number x.0.words ++ (number x.0.outer ++ (flat_map number x.0.ps ++ (number x.0.entry)))) x.1 d.takes r.0 in
    let t2 = Takes-then b.rest (number c.x) c.rest (number d.x ++ (number x.0.words ++ (number x.0.outer ++ (flat_map number x.0.ps ++ (number x.0.entry))))) x.1 c.takes t3 in
    let t1 = Takes-then a.rest (number b.x) b.rest (number c.x ++ (number d.x ++ (number x.0.words ++ (number x.0.outer ++ (flat_map number x.0.ps ++ (number x.0.entry)))))) x.1 b.takes t2 in
    let t0 = Takes-then bytes (number a.x) a.rest (number b.x ++ (number c.x ++ (number d.x ++ (number x.0.words ++ (number x.0.outer ++ (flat_map number x.0.ps ++ (number x.0.entry))))))) x.1 a.takes t1 in
    (halves a.x b.x c.x d.x x.0 bytes x.1 r.1.same_code r.1.same_functions r.1.same_texts r.1.same_symbols t0, record { code = word_is x.0.code a.x r.1.same_code a.fits; functions = word_is x.0.functions b.x r.1.same_functions b.fits; texts = word_is x.0.texts c.x r.1.same_texts c.fits; symbols = word_is x.0.symbols d.x r.1.same_symbols d.fits; words = r.1.words; outer = r.1.outer; ps = r.1.ps; entry = r.1.entry })

numbers_again : (h : Header) (rest : List ℕ) → HeaderFits h → numbers_at (numbers_spelled h ++ rest) ≡ Ok (h, rest)
unfolding numbers_at
numbers_again h rest fits =
    step_again number_at number IsWord number_reads h.code (number h.functions ++ (number h.texts ++ (number h.symbols ++ (number h.words ++ (number h.outer ++ (flat_map number h.ps ++ (number h.entry))))))) rest numbers_0 fits.code
    ∙ step_again number_at number IsWord number_reads h.functions (number h.texts ++ (number h.symbols ++ (number h.words ++ (number h.outer ++ (flat_map number h.ps ++ (number h.entry)))))) rest (numbers_1 h.code) fits.functions
    ∙ step_again number_at number IsWord number_reads h.texts (number h.symbols ++ (number h.words ++ (number h.outer ++ (flat_map number h.ps ++ (number h.entry))))) rest (numbers_2 h.code h.functions) fits.texts
    ∙ step_again number_at number IsWord number_reads h.symbols (number h.words ++ (number h.outer ++ (flat_map number h.ps ++ (number h.entry)))) rest (numbers_3 h.code h.functions h.texts) fits.symbols
    ∙ step_again number_at number IsWord number_reads h.words (number h.outer ++ (flat_map number h.ps ++ (number h.entry))) rest (numbers_4 h.code h.functions h.texts h.symbols) fits.words
    ∙ step_again number_at number IsWord number_reads h.outer (flat_map number h.ps ++ (number h.entry)) rest (numbers_5 h.code h.functions h.texts h.symbols h.words) fits.outer
    ∙ step_again (items_at number_at 8) (flat_map number) (Counted IsWord 8) openings_read h.ps (number h.entry) rest (numbers_6 h.code h.functions h.texts h.symbols h.words h.outer) fits.ps
    ∙ last_again number_at number IsWord number_reads h.entry rest (numbers_7 h.code h.functions h.texts h.symbols h.words h.outer h.ps) fits.entry

numbers_read : Reads numbers_at numbers_spelled HeaderFits
numbers_read = record { takes = numbers_take; again = numbers_again }

-- ---- what follows the header

-- the image is one of this header
record BodyFits (h : Header) (image : Image) : Type 0 where
  pub code : Counted InstructionFits h.code image.code
  pub lines : Counted IsWord h.code image.lines
  pub functions : Counted FunctionFits h.functions image.functions
  pub texts : Counted TextFits h.texts image.texts
  pub symbols : Counted SymbolFits h.symbols image.symbols
  pub words : Counted IsWord h.words image.words
  pub ps : image.ps ≡ h.ps
  pub outer : image.outer ≡ h.outer
  pub entry : image.entry ≡ h.entry

abbrev body_5 : Header → List Instr → List ℕ → List FunctionEntry → List (List ℕ) → List Symbol → List ℕ × List ℕ → Result (Image × List ℕ) LoadKind
body_5 h code lines functions texts symbols words = Ok (record { code = code; lines = lines; functions = functions; texts = texts; symbols = symbols; words = words.0; ps = h.ps; outer = h.outer; entry = h.entry }, words.1)

abbrev body_4 : Header → List Instr → List ℕ → List FunctionEntry → List (List ℕ) → List Symbol × List ℕ → Result (Image × List ℕ) LoadKind
body_4 h code lines functions texts symbols = items_at number_at h.words symbols.1 >>= body_5 h code lines functions texts symbols.0

abbrev body_3 : Header → List Instr → List ℕ → List FunctionEntry → List (List ℕ) × List ℕ → Result (Image × List ℕ) LoadKind
body_3 h code lines functions texts = items_at symbol_at h.symbols texts.1 >>= body_4 h code lines functions texts.0

abbrev body_2 : Header → List Instr → List ℕ → List FunctionEntry × List ℕ → Result (Image × List ℕ) LoadKind
body_2 h code lines functions = items_at text_at h.texts functions.1 >>= body_3 h code lines functions.0

abbrev body_1 : Header → List Instr → List ℕ × List ℕ → Result (Image × List ℕ) LoadKind
body_1 h code lines = items_at function_at h.functions lines.1 >>= body_2 h code lines.0

abbrev body_0 : Header → List Instr × List ℕ → Result (Image × List ℕ) LoadKind
body_0 h code = items_at number_at h.code code.1 >>= body_1 h code.0

body_takes : (h : Header) (bytes : List ℕ) (x : Image × List ℕ) → IsBytes bytes → body_at h bytes ≡ Ok x → Takes bytes (body x.0) x.1 × BodyFits h x.0
unfolding body_at
body_takes h bytes x fits e =
    let a = step (items_at instruction_at h.code) (flat_map instruction) (Counted InstructionFits h.code) (items_read instruction_at instruction InstructionFits instruction_reads h.code) bytes (body_0 h) x fits e in
    let b = step (items_at number_at h.code) (flat_map number) (Counted IsWord h.code) (items_read number_at number IsWord number_reads h.code) a.rest (body_1 h a.x) x a.takes.rest_fits a.later in
    let c = step (items_at function_at h.functions) (flat_map function) (Counted FunctionFits h.functions) (items_read function_at function FunctionFits function_reads h.functions) b.rest (body_2 h a.x b.x) x b.takes.rest_fits b.later in
    let d = step (items_at text_at h.texts) (flat_map text) (Counted TextFits h.texts) (items_read text_at text TextFits text_reads h.texts) c.rest (body_3 h a.x b.x c.x) x c.takes.rest_fits c.later in
    let e = step (items_at symbol_at h.symbols) (flat_map symbol) (Counted SymbolFits h.symbols) (items_read symbol_at symbol SymbolFits symbol_reads h.symbols) d.rest (body_4 h a.x b.x c.x d.x) x d.takes.rest_fits d.later in
    let f = step (items_at number_at h.words) (flat_map number) (Counted IsWord h.words) (items_read number_at number IsWord number_reads h.words) e.rest (body_5 h a.x b.x c.x d.x e.x) x e.takes.rest_fits e.later in
    let t4 = Takes-then d.rest (flat_map symbol e.x) e.rest (flat_map number f.x) f.rest e.takes f.takes in
    let t3 = Takes-then c.rest (flat_map text d.x) d.rest (flat_map symbol e.x ++ (flat_map number f.x)) f.rest d.takes t4 in
    let t2 = Takes-then b.rest (flat_map function c.x) c.rest (flat_map text d.x ++ (flat_map symbol e.x ++ (flat_map number f.x))) f.rest c.takes t3 in
    let t1 = Takes-then a.rest (flat_map number b.x) b.rest (flat_map function c.x ++ (flat_map text d.x ++ (flat_map symbol e.x ++ (flat_map number f.x)))) f.rest b.takes t2 in
    let t0 = Takes-then bytes (flat_map instruction a.x) a.rest (flat_map number b.x ++ (flat_map function c.x ++ (flat_map text d.x ++ (flat_map symbol e.x ++ (flat_map number f.x))))) f.rest a.takes t1 in
    let made : Image × List ℕ = (record { code = a.x; lines = b.x; functions = c.x; texts = d.x; symbols = e.x; words = f.x; ps = h.ps; outer = h.outer; entry = h.entry }, f.rest) in
    subst (λ (y : Image × List ℕ). Takes bytes (body y.0) y.1 × BodyFits h y.0) (ok_is made x f.later) (t0, record { code = a.fits; lines = b.fits; functions = c.fits; texts = d.fits; symbols = e.fits; words = f.fits; ps = refl; outer = refl; entry = refl })

-- the header of an image
abbrev header_of : Image → Header
header_of image = record { code = length image.code; functions = length image.functions; texts = length image.texts; symbols = length image.symbols; words = length image.words; outer = image.outer; ps = image.ps; entry = image.entry }

body_again : (image : Image) (rest : List ℕ) → Fits image → body_at (header_of image) (body image ++ rest) ≡ Ok (image, rest)
unfolding body_at
body_again image rest fits =
    let h = header_of image in
    step_again (items_at instruction_at h.code) (flat_map instruction) (Counted InstructionFits h.code) (items_read instruction_at instruction InstructionFits instruction_reads h.code) image.code (flat_map number image.lines ++ (flat_map function image.functions ++ (flat_map text image.texts ++ (flat_map symbol image.symbols ++ (flat_map number image.words))))) rest (body_0 h) (refl, fits.parts.code)
    ∙ step_again (items_at number_at h.code) (flat_map number) (Counted IsWord h.code) (items_read number_at number IsWord number_reads h.code) image.lines (flat_map function image.functions ++ (flat_map text image.texts ++ (flat_map symbol image.symbols ++ (flat_map number image.words)))) rest (body_1 h image.code) (fits.lines, fits.parts.lines)
    ∙ step_again (items_at function_at h.functions) (flat_map function) (Counted FunctionFits h.functions) (items_read function_at function FunctionFits function_reads h.functions) image.functions (flat_map text image.texts ++ (flat_map symbol image.symbols ++ (flat_map number image.words))) rest (body_2 h image.code image.lines) (refl, fits.parts.functions)
    ∙ step_again (items_at text_at h.texts) (flat_map text) (Counted TextFits h.texts) (items_read text_at text TextFits text_reads h.texts) image.texts (flat_map symbol image.symbols ++ (flat_map number image.words)) rest (body_3 h image.code image.lines image.functions) (refl, fits.parts.texts)
    ∙ step_again (items_at symbol_at h.symbols) (flat_map symbol) (Counted SymbolFits h.symbols) (items_read symbol_at symbol SymbolFits symbol_reads h.symbols) image.symbols (flat_map number image.words) rest (body_4 h image.code image.lines image.functions image.texts) (refl, fits.parts.symbols)
    ∙ last_again (items_at number_at h.words) (flat_map number) (Counted IsWord h.words) (items_read number_at number IsWord number_reads h.words) image.words rest (body_5 h image.code image.lines image.functions image.texts image.symbols) (refl, fits.parts.words)

-- ---- the mark and the version

ands : (p q : Bool) → (p && q) ≡ true → (p ≡ true) × (q ≡ true)
ands true true e = (refl, refl)
ands true false e = absurd cc
ands false q e = absurd cc

guard_then : {A : Type 0} (b : Bool) (d : LoadKind) (r : Result A LoadKind) (y : A) → cond b (Err d) r ≡ Ok y → (b ≡ false) × (r ≡ Ok y)
guard_then true d r y e = absurd cc
guard_then false d r y e = (refl, e)

mark_takes : (bytes rest : List ℕ) → IsBytes bytes → mark_at bytes ≡ Ok rest → Takes bytes mark rest
mark_takes (a ∷ b ∷ c ∷ d ∷ bytes) rest fits e =
    let g = guard_then (ltb (length (a ∷ b ∷ c ∷ d ∷ bytes)) 4) Short (cond (eqb a 88 && eqb b 77 && eqb c 84 && eqb d 73) (Ok bytes) (Err BadMark)) rest e in
    let m = guard_is (eqb a 88 && eqb b 77 && eqb c 84 && eqb d 73) BadMark bytes rest g.1 in
    let abc_d = ands (eqb a 88 && eqb b 77 && eqb c 84) (eqb d 73) m.0 in
    let ab_c = ands (eqb a 88 && eqb b 77) (eqb c 84) abc_d.0 in
    let a_b = ands (eqb a 88) (eqb b 77) ab_c.0 in
    let is_a : a ≡ 88 = eqb-true _ _ a_b.0 in
    let is_b : b ≡ 77 = eqb-true _ _ a_b.1 in
    let is_c : c ≡ 84 = eqb-true _ _ ab_c.1 in
    let is_d : d ≡ 73 = eqb-true _ _ abc_d.1 in
    record { parts = λ i. is_a i ∷ is_b i ∷ is_c i ∷ is_d i ∷ m.1 i; rest_fits = subst IsBytes m.1 (λ i. fits (suc (suc (suc (suc i))))) }
mark_takes [] rest fits e = absurd cc
mark_takes (a ∷ []) rest fits e = absurd cc
mark_takes (a ∷ b ∷ []) rest fits e = absurd cc
mark_takes (a ∷ b ∷ c ∷ []) rest fits e = absurd cc

mark_again : (rest : List ℕ) → mark_at (mark ++ rest) ≡ Ok rest
mark_again rest =
    let long : ltb (length (mark ++ rest)) 4 ≡ false = le-ltb _ _ (omega (arith, length-append mark rest)) in
    rw long refl

version_takes : (bytes rest : List ℕ) → IsBytes bytes → version_at bytes ≡ Ok rest → Takes bytes (number 1) rest
unfolding version_at
version_takes bytes rest fits e =
    let a = step number_at number IsWord number_reads bytes (λ version. cond (eqb version.0 1) (Ok version.1) (Err BadVersion)) rest fits e in
    let g = guard_is (eqb a.x 1) BadVersion a.rest rest a.later in
    let one : a.x ≡ 1 = eqb-true _ _ g.0 in
    subst (λ (r : List ℕ). Takes bytes (number 1) r) g.1 (subst (λ (n : ℕ). Takes bytes (number n) a.rest) one a.takes)

version_again : (rest : List ℕ) → version_at (number 1 ++ rest) ≡ Ok rest
unfolding version_at
version_again rest = last_again number_at number IsWord number_reads 1 rest (λ version. cond (eqb version.0 1) (Ok version.1) (Err BadVersion)) (omega arith)

-- ---- all of the bytes

abbrev image_3 : Image × List ℕ → Result Image LoadKind
image_3 image = cond (eqb (length image.1) 0) (Ok image.0) (Err Extra)

abbrev image_2 : Header × List ℕ → Result Image LoadKind
image_2 numbers = body_at numbers.0 numbers.1 >>= image_3

abbrev image_1 : List ℕ → Result Image LoadKind
image_1 rest = numbers_at rest >>= image_2

abbrev image_0 : List ℕ → Result Image LoadKind
image_0 unmarked = version_at unmarked >>= image_1

header_is : (h : Header) (image : Image) → BodyFits h image → header_of image ≡ h
header_is h image f = λ i. record { code = f.code.0 i; functions = f.functions.0 i; texts = f.texts.0 i; symbols = f.symbols.0 i; words = f.words.0 i; outer = f.outer i; ps = f.ps i; entry = f.entry i }

together : (h : Header) (image : Image) (bytes a b c : List ℕ) → Takes bytes mark a → Takes a (number 1) b → Takes b (numbers_spelled h) c → Takes c (body image) [] → HeaderFits h → BodyFits h image → Bytes image bytes
together h image bytes a b c marked versioned headed bodied hf bf =
    let is = header_is h image bf in
    let fits : HeaderFits (header_of image) = subst HeaderFits (sym is) hf in
    let numbers : Takes b (numbers_spelled (header_of image)) c = subst (λ (k : Header). Takes b (numbers_spelled k) c) (sym is) headed in
    let later = Takes-then a (number 1) b (numbers_spelled (header_of image)) c versioned numbers in
    let whole : bytes ≡ header image ++ c = (Takes-then bytes mark a (number 1 ++ numbers_spelled (header_of image)) c marked later).parts in
    record {
      fits = record {
        code = fits.code;
        lines = bf.lines.0 ∙ sym bf.code.0;
        functions = fits.functions;
        texts = fits.texts;
        symbols = fits.symbols;
        words = fits.words;
        openings = record { outer = fits.outer; registers = fits.ps.0; each_register = fits.ps.1; entry = fits.entry };
        parts = record { code = bf.code.1; lines = bf.lines.1; functions = bf.functions.1; texts = bf.texts.1; symbols = bf.symbols.1; words = bf.words.1 };
      };
      spelled = whole ∙ ap (λ (r : List ℕ). header image ++ r) (bodied.parts ∙ append-nil (body image));
    }

-- what is read is spelled so
pub image_takes : (bytes : List ℕ) (image : Image) → IsBytes bytes → image_at bytes ≡ Ok image → Bytes image bytes
unfolding image_at
image_takes bytes image fits e =
    let m = bind_ok (mark_at bytes) image_0 image e in
    let marked = mark_takes bytes m.0 fits m.1 in
    let v = bind_ok (version_at m.0) image_1 image m.2 in
    let versioned = version_takes m.0 v.0 marked.rest_fits v.1 in
    let n = step numbers_at numbers_spelled HeaderFits numbers_read v.0 image_2 image versioned.rest_fits v.2 in
    let b = bind_ok (body_at n.x n.rest) image_3 image n.later in
    let bodied = body_takes n.x n.rest b.0 n.takes.rest_fits b.1 in
    let g = guard_is (eqb (length b.0.1) 0) Extra b.0.0 image b.2 in
    let nothing : b.0.1 ≡ [] = nil_from_length b.0.1 (eqb-true _ _ g.0) in
    let ended : Takes n.rest (body b.0.0) [] = subst (λ (r : List ℕ). Takes n.rest (body b.0.0) r) nothing bodied.0 in
    subst (λ (i : Image). Bytes i bytes) g.1 (together n.x b.0.0 bytes m.0 v.0 n.rest marked versioned n.takes ended n.fits bodied.1)

goes : {A B : Type 0} (r : Result A LoadKind) (f : A → Result B LoadKind) (x : A) → r ≡ Ok x → (r >>= f) ≡ f x
goes r f x e = rw e refl

header_fits : (image : Image) → Fits image → HeaderFits (header_of image)
header_fits image f = record { code = f.code; functions = f.functions; texts = f.texts; symbols = f.symbols; words = f.words; outer = f.openings.outer; ps = (f.openings.registers, f.openings.each_register); entry = f.openings.entry }

-- what is spelled so is read
pub image_again : (image : Image) (bytes : List ℕ) → Bytes image bytes → image_at bytes ≡ Ok image
unfolding image_at
image_again image bytes b =
    let h = header_of image in
    let ended : body_at (header_of image) (body image) ≡ Ok (image, []) = ap (body_at (header_of image)) (sym (append-nil (body image))) ∙ body_again image [] b.fits in
    ap image_at b.spelled
    ∙ goes (mark_at (mark ++ (number 1 ++ (numbers_spelled h ++ body image)))) image_0 (number 1 ++ (numbers_spelled h ++ body image)) (mark_again (number 1 ++ (numbers_spelled h ++ body image)))
    ∙ goes (version_at (number 1 ++ (numbers_spelled h ++ body image))) image_1 (numbers_spelled h ++ body image) (version_again (numbers_spelled h ++ body image))
    ∙ last_again numbers_at numbers_spelled HeaderFits numbers_read h (body image) image_2 (header_fits image b.fits)
    ∙ goes (body_at h (body image)) image_3 (image, []) ended

pub is_found : (bytes : List ℕ) (r : Result Image LoadRefusal) → IsBytes bytes → Gives (λ i. i) r (image_at bytes) → IfOk r (λ image. Bytes image bytes)
is_found bytes (Ok image) fits given = image_takes bytes image fits given
is_found bytes (Err e) fits given = tt

-- one byte string spells at most one image
pub one_image : (image other : Image) (bytes : List ℕ) → Bytes image bytes → Bytes other bytes → image ≡ other
one_image image other bytes a b = ok_is image other (sym (image_again image bytes a) ∙ image_again other bytes b)
