-- Writing piece after piece.
use Rattle.std.proofs.Common.{◌≡◌, ℕ, ◌+◌, ◌<◌, List, [], ◌∷◌, ◌++◌, length, get_or, take, sym, ap, ◌∙◌, append_assoc, add-one}
use Rattle.std.specs.List.{flat_map}
use Rattle.std.proofs.Math.Seq.{take-suc}
use Rattle.std.proofs.lemmas.List.{append-nil}
use Rattle.std.proofs.lemmas.Grind.{flat_map-append}

pub three : (o a b c o1 o2 o3 : List ℕ) → o1 ≡ o ++ a → o2 ≡ o1 ++ b → o3 ≡ o2 ++ c → o3 ≡ o ++ (a ++ (b ++ c))
three o a b c o1 o2 o3 e1 e2 e3 = e3 ∙ ap (λ (x : List ℕ). x ++ c) (e2 ∙ ap (λ (x : List ℕ). x ++ b) e1) ∙ append_assoc (o ++ a) b c ∙ append_assoc o a (b ++ c)

-- one more piece
pub piece_at : {X : Type 0} (f : X → List ℕ) (xs : List X) (i : ℕ) (d : X) (o o1 o2 : List ℕ) → i < length xs → o1 ≡ o ++ flat_map f (take i xs) → o2 ≡ o1 ++ f (get_or xs i d) → o2 ≡ o ++ flat_map f (take (i + 1) xs)
piece_at f xs i d o o1 o2 lt before now =
    let x = get_or xs i d in
    let more : take (i + 1) xs ≡ take i xs ++ x ∷ [] = rw add-one (take-suc xs i d lt) in
    let parts : flat_map f (take (i + 1) xs) ≡ flat_map f (take i xs) ++ f x = ap (flat_map f) more ∙ flat_map-append f (take i xs) (x ∷ []) ∙ ap (λ (y : List ℕ). flat_map f (take i xs) ++ y) (append-nil (f x)) in
    now ∙ ap (λ (y : List ℕ). y ++ f x) before ∙ append_assoc o (flat_map f (take i xs)) (f x) ∙ ap (λ (y : List ℕ). o ++ y) (sym parts)

pub piece : {X : Type 0} (f : X → List ℕ) (xs : List X) (i : ℕ) (x : X) (o o1 o2 : List ℕ) → i < length xs → x ≡ get_or xs i x → o1 ≡ o ++ flat_map f (take i xs) → o2 ≡ o1 ++ f x → o2 ≡ o ++ flat_map f (take (i + 1) xs)
piece f xs i x o o1 o2 lt is before now = piece_at f xs i x o o1 o2 lt before (now ∙ ap (λ y. o1 ++ f y) is)
