-- How the answer of `parse` stands to the grammar.
use Rattle.std.specs.Prelude.{◌≡◌, ◌⊎◌, ◌≤◌, ◌==◌, ℕ, ◌+◌, List, [], ◌∷◌, Result, Ok, Err, Some, None, if◌then◌else◌}
use Rattle.xmt_base.specs.declared.Place.{Place}
use Rattle.xmt_parse.specs.declared.ParseRefusal.{ParseRefusal}
use Rattle.xmt_parse.specs.declared.ParseRefusal.TheVariants as refusal
use Rattle.raw_tree.specs.declared.tree.RawItem.{RawItem}
use Rattle.raw_tree.specs.declared.tree.RawProgram.{RawProgram}
use Rattle.raw_tree.specs.Level.{Tokens}
use Rattle.raw_tree.specs.Items.{SpellsItems}
use Rattle.xmt_parse.specs.Deep.{too_deep}

-- the tokens spell these items, of nesting at most 200
abbrev pub IsSpelled : List ℕ → Tokens → List RawItem → Type 0
IsSpelled source ts items = (n : ℕ) × SpellsItems source n items ts × (n ≤ 200)

-- the tokens spell no program of nesting at most 200
abbrev pub NothingSpelled : List ℕ → Tokens → Type 0
NothingSpelled source ts = (items : List RawItem) → IsSpelled source ts items → ⊥

-- the place one past the last byte
abbrev pub end_from : Place → List ℕ → Place
end_from p [] = p
end_from p (b ∷ bs) = end_from (if b == 10 then record { line = p.line + 1; column = 1 } else record { line = p.line; column = p.column + 1 }) bs

abbrev pub end_of : List ℕ → Place
end_of source = end_from (record { line = 1; column = 1 }) source

-- the place is that of a token, or the end of the source
abbrev pub IsPlaceIn : List ℕ → Tokens → Place → Type 0
IsPlaceIn source [] p = p ≡ end_of source
IsPlaceIn source (t ∷ ts) p = (p ≡ t.place) ⊎ IsPlaceIn source ts p

-- The answer of `parse`. Want of memory alone is free.
abbrev pub Parses : Result RawProgram ParseRefusal → List ℕ → Tokens → Type 0
Parses (Ok program) source ts = IsSpelled source ts program.items × (program.end ≡ end_of source) × (too_deep 0 ts ≡ None)
Parses (Err (refusal.TooDeep p)) source ts = too_deep 0 ts ≡ Some p
Parses (Err (refusal.Syntax p)) source ts = (too_deep 0 ts ≡ None) × NothingSpelled source ts × IsPlaceIn source ts p
Parses (Err refusal.NoMemory) source ts = Unit {0}
