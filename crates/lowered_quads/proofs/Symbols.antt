-- The words and the symbols of the globals of a checked program.
use Rattle.std.proofs.Common.{arith, ◌≡◌, ◌≢◌, refl, sym, ◌∙◌, ap, subst, ℕ, zero, suc, ◌+◌, ◌-◌, ◌<◌, List, [], ◌∷◌, length, length-append, get_or, false}
use Rattle.std.specs.Prelude.{All}
use Rattle.std.specs.List.{AllPairs}
use Rattle.std.proofs.lemmas.List.{length-replicate}
use Rattle.std.proofs.lemmas.List.Elements.{All-nil, All-cons, All-head, All-tail}
use Rattle.std.proofs.lemmas.List.Sums.{sum_by-cons}
use Rattle.xmt_base.specs.declared.values.Symbol.{Symbol}
use Rattle.xmt_isa.specs.Symbols.{Covers}
use Rattle.source_meaning.specs.declared.tree.GlobalVar.{GlobalVar}
use Rattle.source_meaning.specs.Layout.{all_words, opening_words, symbols_from, HasRoom}

one_more : (g : GlobalVar) (globals : List GlobalVar) → all_words (g ∷ globals) ≡ g.length + all_words globals
one_more g globals = sum_by-cons (λ global. global.length) g globals

pub length_opening : (globals : List GlobalVar) → All HasRoom globals → length (opening_words globals) ≡ all_words globals
length_opening [] room = refl
length_opening (g ∷ globals) room =
    omega (
      arith,
      one_more g globals,
      length-append {A = ℕ},
      length-replicate {A = ℕ} (g.length - length g.opening) 0,
      All-head HasRoom g globals room,
      length_opening globals (All-tail HasRoom g globals room),
    )

pub length_symbols : (base : ℕ) (globals : List GlobalVar) → length (symbols_from base globals) ≡ length globals
length_symbols base [] = refl
length_symbols base (g ∷ globals) = ap suc (length_symbols (base + g.length) globals)

pub all_symbols : (P : Symbol → Type 0) (Q : GlobalVar → Type 0) → ((global : GlobalVar) (base : ℕ) → Q global → P (record { name = global.name; base = base; length = global.length })) → (base : ℕ) (globals : List GlobalVar) → All Q globals → All P (symbols_from base globals)
all_symbols P Q holds base [] all = All-nil P
all_symbols P Q holds base (global ∷ globals) all =
    All-cons P (record { name = global.name; base = base; length = global.length }) (symbols_from (base + global.length) globals) (holds global base (All-head Q global globals all))
    (all_symbols P Q holds (base + global.length) globals (All-tail Q global globals all))

symbol_name : (base : ℕ) (globals : List GlobalVar) (i : ℕ) (d : Symbol) (e : GlobalVar) → i < length globals → (get_or (symbols_from base globals) i d).name ≡ (get_or globals i e).name
symbol_name base [] i d e below = absurd (omega arith)
symbol_name base (global ∷ globals) zero d e below = refl
symbol_name base (global ∷ globals) (suc i) d e below = symbol_name (base + global.length) globals i d e (omega (arith, below))

no_global : GlobalVar
no_global = record { name = []; array = false; length = 0; constant = false; opening = [] }

pub names_differ : (globals : List GlobalVar) → AllPairs (λ a b. a.name ≢ b.name) globals → AllPairs (λ s t. s.name ≢ t.name) (symbols_from 0 globals)
names_differ globals differ i j d less within same =
    let last : j < length globals = omega (arith, within, length_symbols 0 globals) in
    differ i j no_global less last (sym (symbol_name 0 globals i d no_global (omega (arith, less, last))) ∙ same ∙ symbol_name 0 globals j d no_global last)

pub covers : (from : ℕ) (globals : List GlobalVar) → Covers from (symbols_from from globals) (from + all_words globals)
covers from [] = omega arith
covers from (global ∷ globals) =
    let to : from + global.length + all_words globals ≡ from + all_words (global ∷ globals) = omega (arith, one_more global globals) in
    (refl, subst (λ to. Covers (from + global.length) (symbols_from (from + global.length) globals) to) to (covers (from + global.length) globals))
