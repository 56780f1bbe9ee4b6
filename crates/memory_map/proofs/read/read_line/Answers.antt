use Rattle.std.proofs.Common.{◌≡◌, ℕ, ◌≤◌, false, List, [], ◌∷◌, length, get_or, map, Bor, Err, refl, arith}
use Rattle.std.proofs.lemmas.Bool.{false_from_ne_true, iff_false}
use Rattle.xmt_base.specs.Name.{is_name}
use Rattle.xmt_base.specs.declared.values.Symbol.{Symbol}
use Rattle.memory_map.specs.declared.read.MapRefusal.TheVariants.{BadLine}
use Rattle.memory_map.specs.declared.read.Reading.{Reading}
use Rattle.memory_map.specs.MapText.{read_line}
use Rattle.memory_map.proofs.read.read_line.Goals as goal

-- a first word that is no name
not_named : (symbols : List Symbol) (number : ℕ) (old : Reading) (words : List (Bor (List ℕ))) (d : Bor (List ℕ)) → 1 ≤ length words → is_name (get_or words 0 d).now ≡ false → read_line symbols number old (map (λ text. text.now) words) ≡ Err (BadLine number)
not_named symbols number old [] d some other = absurd (omega (arith, some))
not_named symbols number old (word ∷ words) d some other = rw other refl

pub returns-then-not-is_name-clause-read : goal.returns-then-not-is_name-clause-read
returns-then-not-is_name-clause-read c =
    not_named c.args.symbols.now c.args.number c.args.reading.now c.args.words.now _ c.in-len1-up.len_at_least (false_from_ne_true _ (iff_false c.is_name.ensures c.if-not-is_name.true))
