-- The look-up of a map of words is the look-up of the list of its entries.
use Rattle.std.proofs.Common.{◌≡◌, ◌↔◌, IsTrue, sym, ℕ, Bool, true, false, List, [], ◌∷◌, ◌++◌, map, cond, Option, None, Some, Vec, nat_eq, refl, ap, ◌∙◌}
use Rattle.std.proofs.lemmas.List.{map-append}
use Rattle.std.specs.Cmp.Lexicographic.{pointwise}
use Rattle.std.specs.declared.alloc.Global.{Global}
use Rattle.std.specs.Map.{lookup as find_by}
use Rattle.indexmap.specs.IndexMap.{IndexMap, insert_entry}
use Rattle.indexmap.proofs.CallerLemmas.{insert_entry-new}
use Rattle.xmt_lex.specs.Lex.{Text, lookup}

abbrev pub Word : Type 0
Word = Vec ℕ Global

abbrev pub same_word : Word → Word → Bool
same_word x y = pointwise nat_eq x.items y.items

abbrev pub entry_of : Word × ℕ → Text × ℕ
entry_of e = (e.0.items, e.1)

pub found : (w : Text) (es : List (Word × ℕ)) → find_by (λ k. pointwise nat_eq w k.items) es ≡ lookup (map entry_of es) w
found w [] = refl
found w (e ∷ es) = ap (λ (o : Option ℕ). cond (pointwise nat_eq w e.0.items) (Some e.1) o) (found w es)

-- a new word goes last
pub added : {S : Type 0} (m : IndexMap Word ℕ S) (k : Word) (w : Text) (v : ℕ) → k.items ≡ w → lookup (map entry_of m.entries) w ≡ None →
    map entry_of (insert_entry same_word m.entries k v) ≡ map entry_of m.entries ++ (w, v) ∷ []
added m k w v is absent =
    ap (map entry_of) (insert_entry-new same_word m k v (found k.items m.entries ∙ ap (lookup (map entry_of m.entries)) is ∙ absent))
    ∙ map-append entry_of m.entries ((k, v) ∷ [])
    ∙ ap (λ (u : Text). map entry_of m.entries ++ (u, v) ∷ []) is

-- a test that says what another one says
pub same_test : (b c : Bool) → (IsTrue b ↔ IsTrue c) → b ≡ c
same_test true true h = refl
same_test false false h = refl
same_test true false h = sym (h.0 refl)
same_test false true h = h.1 refl
