-- What holds at the places of lists.
use Rattle.std.proofs.Common.{◌≡◌, refl, sym, ◌∙◌, ap, subst, arith, ℕ, zero, suc, Bool, List, [], ◌∷◌, length, map, Some, None}
use Rattle.std.specs.Prelude.{All, slice_get, ◌||◌}
use Rattle.std.specs.Option.{unwrap_or, option_map}
use Rattle.std.proofs.lemmas.List.{length-map}
use Rattle.std.proofs.lemmas.List.Elements.{All-nil, All-cons, All-head, All-tail}
use Rattle.std.proofs.lemmas.Option.{slice_get-map}
use Rattle.source_meaning.specs.declared.tree.Stmt.{Stmt}
use Rattle.source_meaning.specs.declared.tree.StmtKind.{StmtKind}
use Rattle.source_meaning.specs.Inside.{some_statement, some_in_body, some_in_list}
use Rattle.quad_code.specs.Rows.{rows_of}

-- what holds of each element holds of the one at a place
pub at_place : {X : Type 0} (P : X → Type 0) (xs : List X) (n : ℕ) (x : X) → All P xs → slice_get xs n ≡ Some x → P x
at_place P [] n x all found = absurd (let clash : None ≡ Some x = found in cc)
at_place P (y ∷ xs) zero x all found = subst P (ap (λ o. unwrap_or o y) found) (All-head P y xs all)
at_place P (y ∷ xs) (suc n) x all found = at_place P xs n x (All-tail P y xs all) found

-- and what holds at each place holds of each element
pub everywhere : {X : Type 0} (P : X → Type 0) (xs : List X) → ((n : ℕ) (x : X) → slice_get xs n ≡ Some x → P x) → All P xs
everywhere P [] holds = All-nil P
everywhere P (x ∷ xs) holds = All-cons P x xs (holds zero x refl) (everywhere P xs (λ n y found. holds (suc n) y found))

-- a place of one list is a place of another as long
pub there : {X Y : Type 0} (xs : List X) (ys : List Y) (n : ℕ) (x : X) → slice_get xs n ≡ Some x → length xs ≡ length ys → (y : Y) × (slice_get ys n ≡ Some y)
there [] ys n x found same = absurd (let clash : None ≡ Some x = found in cc)
there (z ∷ xs) [] n x found same = absurd (omega (arith, same))
there (z ∷ xs) (y ∷ ys) zero x found same = (y, refl)
there (z ∷ xs) (y ∷ ys) (suc n) x found same = there xs ys n x found (omega (arith, same))

-- equal images have equal elements
pub same_at : {X Y Z : Type 0} (f : X → Z) (g : Y → Z) (xs : List X) (ys : List Y) (n : ℕ) (x : X) (y : Y) → map f xs ≡ map g ys → slice_get xs n ≡ Some x → slice_get ys n ≡ Some y → f x ≡ g y
same_at f g xs ys n x y same left right =
    let both : Some (f x) ≡ Some (g y) =
    sym (ap (option_map f) left) ∙ sym (slice_get-map f xs n) ∙ ap (λ zs. slice_get zs n) same ∙ slice_get-map g ys n ∙ ap (option_map g) right in
    cc

pub as_long : {X Y Z : Type 0} (f : X → Z) (g : Y → Z) (xs : List X) (ys : List Y) → map f xs ≡ map g ys → length xs ≡ length ys
as_long f g xs ys same = sym (length-map xs f) ∙ ap (λ (zs : List _). length zs) same ∙ length-map ys g

pub in_rows : (test : StmtKind → Bool) (body : List Stmt) → some_in_body test (rows_of body) ≡ some_in_list test body
in_rows test [] = refl
in_rows test (s ∷ rest) = ap (λ found. some_statement test s.kind || found) (in_rows test rest)
