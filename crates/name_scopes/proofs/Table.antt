-- The table keeps what it says of the declarations in reach.
use Rattle.std.proofs.Common.{◌≡◌, refl, sym, ◌∙◌, ap, subst, arith, ℕ, zero, suc, ◌+◌, ◌<◌, ◌≤◌, ◌⊎◌, inl, inr, Bool, true, false, cond, List, [], ◌∷◌, ◌++◌, length, length-append, take, get_or, Option, Some, None}
use Rattle.std.specs.Prelude.{Vec}
use Rattle.std.specs.declared.alloc.Global.{Global}
use Rattle.std.specs.Str.{bytes_eq}
use Rattle.std.specs.Map.{lookup}
use Rattle.std.proofs.lemmas.Slice.Eq.{bytes_eq-Decides}
use Rattle.std.proofs.lemmas.List.{take-append-le}
use Rattle.indexmap.specs.IndexMap.{insert_entry}
use Rattle.name_scopes.specs.declared.scope.Binding.{Binding}
use Rattle.name_scopes.specs.declared.scope.Declared.{Declared}
use Rattle.name_scopes.specs.declared.scope.Meaning.{Meaning}
use Rattle.name_scopes.specs.declared.scope.Scope.{Scope}
use Rattle.name_scopes.specs.Scope.{or_hidden, look, declare}
use Rattle.name_scopes.specs.Table.{found, IsTable}

same_bytes : (a b : List ℕ) → bytes_eq a b ≡ true → a ≡ b
same_bytes a b = (bytes_eq-Decides a b).0

equal_bytes : (a b : List ℕ) → a ≡ b → bytes_eq a b ≡ true
equal_bytes a b = (bytes_eq-Decides a b).1

differ : (name a b : List ℕ) → bytes_eq a b ≡ false → bytes_eq name b ≡ true → bytes_eq name a ≡ false
differ name a b apart one = other (bytes_eq name a) refl
  where
    other : (t : Bool) → bytes_eq name a ≡ t → bytes_eq name a ≡ false
    other false is = is
    other true is =
        let same : a ≡ b = sym (same_bytes name a is) ∙ same_bytes name b one in
        absurd (let clash : true ≡ false = sym (equal_bytes a b same) ∙ apart in cc)

abbrev Entries : Type 0
Entries = List (Vec ℕ Global × Option Binding)

abbrev by_bytes : Vec ℕ Global → Vec ℕ Global → Bool
by_bytes a b = bytes_eq a.items b.items

abbrev looked : List ℕ → Entries → Option (Option Binding)
looked name es = lookup (λ (k : Vec ℕ Global). bytes_eq name k.items) es

swapped : {X : Type 0} (s t : Bool) (x y : X) (rest : Option X) → (s ≡ true → t ≡ false) → cond s (Some x) (cond t (Some y) rest) ≡ cond t (Some y) (cond s (Some x) rest)
swapped false false x y rest apart = refl
swapped false true x y rest apart = refl
swapped true false x y rest apart = refl
swapped true true x y rest apart = absurd (let clash : true ≡ false = apart refl in cc)

twice : {X : Type 0} (t : Bool) (x y : X) (rest : Option X) → cond t (Some x) rest ≡ cond t (Some x) (cond t (Some y) rest)
twice true x y rest = refl
twice false x y rest = refl

inserted_step : (name : List ℕ) (e : Vec ℕ Global × Option Binding) (es more : Entries) (key : Vec ℕ Global) (value : Option Binding) →
    looked name more ≡ cond (bytes_eq name key.items) (Some value) (looked name es) → (t : Bool) → bytes_eq key.items e.0.items ≡ t →
    looked name (cond t ((e.0, value) ∷ es) (e ∷ more)) ≡ cond (bytes_eq name key.items) (Some value) (cond (bytes_eq name e.0.items) (Some e.1) (looked name es))
inserted_step name e es more key value rest true is =
    let same : key.items ≡ e.0.items = same_bytes key.items e.0.items is in
    subst (λ (bs : List ℕ). cond (bytes_eq name bs) (Some value) (looked name es) ≡ cond (bytes_eq name key.items) (Some value) (cond (bytes_eq name bs) (Some e.1) (looked name es)))
    same (twice (bytes_eq name key.items) value e.1 (looked name es))
inserted_step name e es more key value rest false is =
    ap (λ rest. cond (bytes_eq name e.0.items) (Some e.1) rest) rest
    ∙ swapped (bytes_eq name e.0.items) (bytes_eq name key.items) e.1 value (looked name es) (λ one. differ name key.items e.0.items is one)

-- what is found once a key has a value
lookup_inserted : (name : List ℕ) (es : Entries) (key : Vec ℕ Global) (value : Option Binding) →
    looked name (insert_entry by_bytes es key value) ≡ cond (bytes_eq name key.items) (Some value) (looked name es)
lookup_inserted name [] key value = refl
lookup_inserted name (e ∷ es) key value =
    inserted_step name e es (insert_entry by_bytes es key value) key value (lookup_inserted name es key value) (bytes_eq key.items e.0.items) refl

or_assoc : (a b c : Option Binding) → or_hidden a (or_hidden b c) ≡ or_hidden (or_hidden a b) c
or_assoc a b None = refl
or_assoc a b (Some c) = refl

or_none : (a : Option Binding) → or_hidden None a ≡ a
or_none None = refl
or_none (Some a) = refl

pub look_behind : (ds : List Declared) (d : Declared) (name : List ℕ) → look (ds ++ d ∷ []) name ≡ or_hidden (look ds name) (cond (bytes_eq name d.name) (Some d.binding) None)
look_behind [] d name = sym (or_none (cond (bytes_eq name d.name) (Some d.binding) None))
look_behind (x ∷ ds) d name =
    ap (λ rest. or_hidden (cond (bytes_eq name x.name) (Some x.binding) None) rest) (look_behind ds d name)
    ∙ or_assoc (cond (bytes_eq name x.name) (Some x.binding) None) (look ds name) (cond (bytes_eq name d.name) (Some d.binding) None)

-- ---- lists with one more at the end

at_end : {X : Type 0} (xs : List X) (x d : X) → get_or (xs ++ x ∷ []) (length xs) d ≡ x
at_end [] x d = refl
at_end (y ∷ xs) x d = at_end xs x d

before_end : {X : Type 0} (xs : List X) (x d : X) (i : ℕ) → i < length xs → get_or (xs ++ x ∷ []) i d ≡ get_or xs i d
before_end [] x d i below = absurd (omega arith)
before_end (y ∷ xs) x d zero below = refl
before_end (y ∷ xs) x d (suc i) below = before_end xs x d i (omega (arith, below))

take_before : {X : Type 0} (xs : List X) (x : X) (i : ℕ) → i ≤ length xs → take i (xs ++ x ∷ []) ≡ take i xs
take_before xs x i below = take-append-le _ _ _ below

take_whole : {X : Type 0} (xs : List X) (x : X) → take (length xs) (xs ++ x ∷ []) ≡ xs
take_whole [] x = refl
take_whole (y ∷ xs) x = ap (λ ys. y ∷ ys) (take_whole xs x)

abbrev Restores : List Declared → Type 0
Restores ds = (place : ℕ) (default : Declared) → place < length ds → (get_or ds place default).hidden ≡ look (take place ds) (get_or ds place default).name

choose_found : (t : Bool) (b : Binding) (rest : Option (Option Binding)) → found (cond t (Some (Some b)) rest) ≡ or_hidden (found rest) (cond t (Some b) None)
choose_found true b rest = refl
choose_found false b rest = refl

restores_behind : (ds : List Declared) (d : Declared) → d.hidden ≡ look ds d.name → Restores ds → Restores (ds ++ d ∷ [])
restores_behind ds d hides before place default below = cases (nat_cases place (length ds) (omega (arith, below, length-append ds (d ∷ []))))
  where
    nat_cases : (i n : ℕ) → i < n + 1 → (i < n) ⊎ (i ≡ n)
    nat_cases i n within = grind arith

    cases : (place < length ds) ⊎ (place ≡ length ds) → (get_or (ds ++ d ∷ []) place default).hidden ≡ look (take place (ds ++ d ∷ [])) (get_or (ds ++ d ∷ []) place default).name
    cases (inl less) =
        let here = before_end ds d default place less in
        ap (λ x. x.hidden) here ∙ before place default less ∙ ap (λ (x : Declared). look (take place ds) x.name) (sym here)
        ∙ ap (λ xs. look xs (get_or (ds ++ d ∷ []) place default).name) (sym (take_before ds d place (omega arith)))
    cases (inr same) =
        let here : get_or (ds ++ d ∷ []) place default ≡ d = ap (λ i. get_or (ds ++ d ∷ []) i default) same ∙ at_end ds d default in
        ap (λ x. x.hidden) here ∙ hides ∙ ap (λ (x : Declared). look ds x.name) (sym here)
        ∙ ap (λ xs. look xs (get_or (ds ++ d ∷ []) place default).name) (sym (ap (λ i. take i (ds ++ d ∷ [])) same ∙ take_whole ds d))

-- the table with one more declaration
pub declared_table : (old new : Scope) (key : Vec ℕ Global) (name : List ℕ) (meaning : Meaning) → key.items ≡ name → new.declared ≡ declare name meaning old.declared →
    new.by_name.entries ≡ insert_entry by_bytes old.by_name.entries key (Some (record { place = length old.declared; meaning = meaning })) →
    IsTable old → IsTable new
declared_table old new key name meaning is declared entries table =
    let d : Declared = record { name = name; binding = record { place = length old.declared; meaning = meaning }; hidden = look old.declared name } in
    record {
      finds = λ other.
          ap (λ es. found (looked other es)) entries
          ∙ ap found (lookup_inserted other old.by_name.entries key (Some d.binding))
          ∙ choose_found (bytes_eq other key.items) d.binding (looked other old.by_name.entries)
          ∙ ap (λ bs. or_hidden (found (looked other old.by_name.entries)) (cond (bytes_eq other bs) (Some d.binding) None)) is
          ∙ ap (λ before. or_hidden before (cond (bytes_eq other name) (Some d.binding) None)) (table.finds other)
          ∙ sym (look_behind old.declared d other)
          ∙ ap (λ ds. look ds other) (sym declared);
      restores = subst Restores (sym declared) (restores_behind old.declared d refl table.restores);
    }

forgotten : (t : Bool) (hidden before : Option Binding) (b : Binding) (rest : Option (Option Binding)) → found rest ≡ or_hidden before (cond t (Some b) None) → (t ≡ true → hidden ≡ before) →
    found (cond t (Some hidden) rest) ≡ before
forgotten true hidden before b rest is same = same refl
forgotten false hidden before b rest is same = is

restores_before : (ds : List Declared) (d : Declared) → Restores (ds ++ d ∷ []) → Restores ds
restores_before ds d all place default below =
    let here = before_end ds d default place below in
    ap (λ x. x.hidden) (sym here) ∙ all place default (omega (arith, below, length-append ds (d ∷ [])))
    ∙ ap (λ (x : Declared). look (take place (ds ++ d ∷ [])) x.name) here
    ∙ ap (λ xs. look xs (get_or ds place default).name) (take_before ds d place (omega arith))

-- the table without the last declaration
pub left_table : (old new : Scope) (last : Declared) (key : Vec ℕ Global) → old.declared ≡ new.declared ++ last ∷ [] → key.items ≡ last.name →
    new.by_name.entries ≡ insert_entry by_bytes old.by_name.entries key last.hidden → IsTable old → IsTable new
left_table old new last key popped is entries table =
    let all : Restores (new.declared ++ last ∷ []) = subst Restores popped table.restores in
    let one : get_or (new.declared ++ last ∷ []) (length new.declared) last ≡ last = at_end new.declared last last in
    let hides : last.hidden ≡ look new.declared last.name =
    ap (λ x. x.hidden) (sym one) ∙ all (length new.declared) last (omega (arith, length-append new.declared (last ∷ [])))
    ∙ ap (λ (x : Declared). look (take (length new.declared) (new.declared ++ last ∷ [])) x.name) one
    ∙ ap (λ xs. look xs last.name) (take_whole new.declared last) in
    record {
      finds = λ other.
          ap (λ es. found (looked other es)) entries
          ∙ ap found (lookup_inserted other old.by_name.entries key last.hidden)
          ∙ forgotten (bytes_eq other key.items) last.hidden (look new.declared other) last.binding (looked other old.by_name.entries)
          (table.finds other ∙ ap (λ ds. look ds other) popped ∙ look_behind new.declared last other ∙ ap (λ bs. or_hidden (look new.declared other) (cond (bytes_eq other bs) (Some last.binding) None)) (sym is))
          (λ same. hides ∙ ap (look new.declared) (sym is ∙ sym (same_bytes other key.items same)));
      restores = restores_before new.declared last all;
    }

pub take_popped : (count : ℕ) (old new : List Declared) (last : Declared) → old ≡ new ++ last ∷ [] → count < length old → take count new ≡ take count old
take_popped count old new last popped within =
    sym (ap (take count) popped ∙ take_before new last count (omega (arith, within, ap length popped, length-append new (last ∷ []))))

pub take_short : {X : Type 0} (count : ℕ) (xs : List X) → length xs ≤ count → take count xs ≡ xs
take_short zero [] short = refl
take_short zero (x ∷ xs) short = absurd (omega arith)
take_short (suc count) [] short = refl
take_short (suc count) (x ∷ xs) short = ap (λ ys. x ∷ ys) (take_short count xs (omega (arith, short)))
