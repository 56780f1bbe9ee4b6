-- What the names of a thin source stand for.
use Rattle.std.proofs.Common.{◌≡◌, refl, ◌∙◌, ap, subst, arith, ℕ, zero, suc, ◌+◌, ◌<◌, Bool, true, false, cond, List, [], ◌∷◌, length, get_or, Option, Some, None}
use Rattle.std.specs.Prelude.{if◌then◌else◌, is_some, slice_get}
use Rattle.std.specs.List.{position}
use Rattle.std.specs.Str.{bytes_eq}
use Rattle.std.proofs.lemmas.Slice.Eq.{bytes_eq-Decides}
use Rattle.std.proofs.lemmas.List.Quantifiers.{position-Some}
use Rattle.std.proofs.lemmas.Option.{slice_get-get_or}
use Rattle.source_meaning.specs.declared.tree.GlobalVar.{GlobalVar}
use Rattle.thin_source.specs.Names.{has_shape, of_shape}
use Rattle.raw_tree.specs.declared.tree.RawName.{RawName}
use Rattle.name_scopes.specs.declared.scope.Meaning.{Meaning}
use Rattle.name_scopes.specs.declared.scope.Meaning.TheVariants as means
use Rattle.name_scopes.specs.declared.scope.Binding.{Binding}
use Rattle.name_scopes.specs.declared.scope.Declared.{Declared}
use Rattle.name_scopes.specs.Scope.{look, declare, or_hidden}
use Rattle.name_scopes.proofs.Table.{look_behind}
use Rattle.name_faults.specs.Expressions.{meaning_of}
use Rattle.name_faults.specs.Items.{declare_first}
use Rattle.thin_law.proofs.Trees.{number_of}

-- the first of two, where there is one
abbrev pub or_else : Option Meaning → Option Meaning → Option Meaning
or_else None b = b
or_else (Some a) b = Some a

abbrev pub if_named : (is : Bool) → Meaning → Option Meaning
if_named is meaning = if is then Some meaning else None

pub or_else_assoc : (a b c : Option Meaning) → or_else (or_else a b) c ≡ or_else a (or_else b c)
or_else_assoc None b c = refl
or_else_assoc (Some a) b c = refl

-- ---- the first declaration of a name counts

same_name : (a b : List ℕ) → bytes_eq a b ≡ true → a ≡ b
same_name a b = (bytes_eq-Decides a b).0

abbrev bound : ℕ → Meaning → Binding
bound place meaning = record { place = place; meaning = meaning }

hidden_by : (before : Option Binding) (place : ℕ) (meaning : Meaning) (is : Bool) → (is ≡ true → before ≡ None) →
    meaning_of (or_hidden before (cond is (Some (bound place meaning)) None)) ≡ or_else (meaning_of before) (if_named is meaning)
hidden_by None place meaning true h = refl
hidden_by None place meaning false h = refl
hidden_by (Some b) place meaning true h = absurd (let clash : Some b ≡ None = h refl in cc)
hidden_by (Some b) place meaning false h = refl

kept_by : (found : Option Binding) (meaning : Meaning) (is : Bool) → (is ≡ true → is_some found ≡ true) → meaning_of found ≡ or_else (meaning_of found) (if_named is meaning)
kept_by None meaning true h = absurd (let clash : false ≡ true = h refl in cc)
kept_by None meaning false h = refl
kept_by (Some b) meaning is h = refl

pub first_counts : (name : RawName) (meaning : Meaning) (ds : List Declared) (other : List ℕ) →
    meaning_of (look (declare_first name meaning ds) other) ≡ or_else (meaning_of (look ds other)) (if_named (bytes_eq other name.bytes) meaning)
first_counts name meaning ds other = by (is_some (look ds name.bytes)) refl
  where
    nothing : (found : Option Binding) → is_some found ≡ false → found ≡ None
    nothing None is = refl
    nothing (Some b) is = absurd (cc)

    by : (there : Bool) → is_some (look ds name.bytes) ≡ there →
        meaning_of (look (cond there ds (declare name.bytes meaning ds)) other) ≡ or_else (meaning_of (look ds other)) (if_named (bytes_eq other name.bytes) meaning)
    by true is = kept_by (look ds other) meaning (bytes_eq other name.bytes) (λ same. ap (λ w. is_some (look ds w)) (same_name other name.bytes same) ∙ is)
    by false is =
        ap meaning_of (look_behind ds (record { name = name.bytes; binding = bound (length ds) meaning; hidden = look ds name.bytes }) other)
        ∙ hidden_by (look ds other) (length ds) meaning (bytes_eq other name.bytes) (λ same. ap (look ds) (same_name other name.bytes same) ∙ nothing (look ds name.bytes) is)

-- ---- globals by their names

-- what a global is, by its number
abbrev pub meaning_at : (number : ℕ) → GlobalVar → Meaning
meaning_at number global = if global.array then means.Array number false else means.Scalar number false

-- what a name stands for among globals of which the first has this number
abbrev pub find : (number : ℕ) → List GlobalVar → List ℕ → Option Meaning
find number [] name = None
find number (global ∷ globals) name = or_else (if_named (bytes_eq name global.name) (meaning_at number global)) (find (suc number) globals name)

find_at : (globals : List GlobalVar) (name : List ℕ) (number i : ℕ) (d : GlobalVar) → i < length globals → bytes_eq name (get_or globals i d).name ≡ true →
    ((k : ℕ) → k < i → bytes_eq name (get_or globals k d).name ≡ false) → find number globals name ≡ Some (meaning_at (number + i) (get_or globals i d))
find_at [] name number i d within here before = absurd (omega arith)
find_at (global ∷ globals) name number zero d within here before =
    let same : number ≡ number + 0 = omega arith in
    rw here (ap (λ n. Some (meaning_at n global)) same)
find_at (global ∷ globals) name number (suc i) d within here before =
    let passed : bytes_eq name global.name ≡ false = before 0 (omega arith) in
    let same : suc number + i ≡ number + suc i = omega arith in
    ap (λ is. or_else (if_named is (meaning_at number global)) (find (suc number) globals name)) passed
    ∙ find_at globals name (suc number) i d (omega arith) here (λ k less. before (suc k) (omega arith))
    ∙ ap (λ n. Some (meaning_at n (get_or globals i d))) same

abbrev no_global : GlobalVar
no_global = record { name = []; array = false; length = 0; constant = false; opening = [] }

-- the meaning of a name by the shape of its global
abbrev pub of_kind : (array : Bool) → (number : ℕ) → Meaning
of_kind array number = if array then means.Array number false else means.Scalar number false

shaped : (array : Bool) (found : Option GlobalVar) (global : GlobalVar) (i number : ℕ) → found ≡ Some global → (if has_shape array found then Some i else None) ≡ Some number →
    (i ≡ number) × (global.array ≡ array)
shaped array None global i number is h = absurd (cc)
shaped array (Some other) global i number is h = by array other.array refl (let same : other ≡ global = cc in ap (λ (g : GlobalVar). g.array) same) h
  where
    by : (wanted is_array : Bool) → other.array ≡ is_array → other.array ≡ global.array → (if has_shape wanted (Some other) then Some i else None) ≡ Some number → (i ≡ number) × (global.array ≡ wanted)
    by true true has same h = let other_h = rw has at h in (cc, cc)
    by true false has same h = let other_h = rw has at h in absurd (cc)
    by false true has same h = let other_h = rw has at h in absurd (cc)
    by false false has same h = let other_h = rw has at h in (cc, cc)

-- the global that a name stands for
pub named : (globals : List GlobalVar) (array : Bool) (name : RawName) (number : ℕ) → number_of globals array name ≡ Some number →
    (find 0 globals name.bytes ≡ Some (of_kind array number)) × (number < length globals)
named globals array name number is = by (position (λ global. bytes_eq name.bytes global.name) globals) refl is
  where
    by : (found : Option ℕ) → position (λ global. bytes_eq name.bytes global.name) globals ≡ found → of_shape globals array found ≡ Some number →
        (find 0 globals name.bytes ≡ Some (of_kind array number)) × (number < length globals)
    by None at h = absurd (cc)
    by (Some i) at h =
        let place = position-Some (λ global. bytes_eq name.bytes global.name) globals i no_global at in
        let parts = shaped array (slice_get globals i) (get_or globals i no_global) i number (slice_get-get_or globals i no_global place.0) h in
        let same : 0 + i ≡ number = omega (arith, parts.0) in (
          find_at globals name.bytes 0 i no_global place.0 place.1 place.2 ∙ ap (λ n. Some (meaning_at n (get_or globals i no_global))) same ∙ ap (λ is. Some (of_kind is number)) parts.1,
          subst (λ n. n < length globals) parts.0 place.0,
        )
