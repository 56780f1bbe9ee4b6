-- One turn of the loops over lists, as the code makes it.
use Rattle.std.proofs.Common.{◌≡◌, ℕ, zero, suc, max, ◌-◌, ◌<◌, List, [], ◌∷◌, ◌++◌, Option, Some, None, Result, Err, sym, ◌∙◌, arith}
use Rattle.raw_tree.specs.declared.read.Read.{Read}
use Rattle.raw_tree.specs.declared.read.ReadError.{ReadError}
use Rattle.raw_tree.specs.declared.read.ReadError.TheVariants.{Syntax, NoMemory}
use Rattle.raw_tree.specs.Level.{Tokens}
use Rattle.raw_tree.specs.Gives.{Gives}
use Rattle.raw_tree.specs.Reading.{Got, ReaderOf, got, past, comma, parted}

module _ {A : Type 0} (one : ReaderOf A) where
  pub parted_none : (turns : ℕ) (done : List A) (n : ℕ) (ts : Tokens) → one ts ≡ None → parted one turns done n ts ≡ None
  unfolding parted
  parted_none zero done n ts h = rw h
  parted_none (suc f) done n ts h = rw h

  pub parted_ends : (turns : ℕ) (done : List A) (n : ℕ) (a : A) (i : ℕ) (ts r : Tokens) → one ts ≡ got a i r → past comma r ≡ None → parted one turns done n ts ≡ got (done ++ a ∷ []) (max n i) r
  unfolding parted
  parted_ends zero done n a i ts r h ends = rw (h, ends)
  parted_ends (suc f) done n a i ts r h ends = rw (h, ends)

  pub parted_spent : (turns : ℕ) (done : List A) (n : ℕ) (a : A) (i : ℕ) (ts r us : Tokens) → turns ≡ 0 → one ts ≡ got a i r → past comma r ≡ Some us → parted one turns done n ts ≡ None
  unfolding parted
  parted_spent zero done n a i ts r us is h more = rw (h, more)
  parted_spent (suc f) done n a i ts r us is h more = absurd (omega (arith, is))

  pub parted_turns : (turns : ℕ) (done : List A) (n : ℕ) (a : A) (i : ℕ) (ts r us : Tokens) → 0 < turns → one ts ≡ got a i r → past comma r ≡ Some us → parted one turns done n ts ≡ parted one (turns - 1) (done ++ a ∷ []) (max n i) us
  unfolding parted
  parted_turns zero done n a i ts r us some h more = absurd (omega (arith, some))
  parted_turns (suc f) done n a i ts r us some h more = let less : suc f - 1 ≡ f = omega arith in rw (less, h, more)

  -- the same at what the code has: x is what the loop comes to
  exit_at : (e : ReadError) (turns : ℕ) (done : List A) (n : ℕ) (ts : Tokens) (x : Option (Got (List A))) → parted one turns done n ts ≡ x → Gives (Err e) (one ts) → Gives (Err e) x
  exit_at (Syntax left) turns done n ts x so_far none = sym so_far ∙ parted_none turns done n ts none
  exit_at NoMemory turns done n ts x so_far none = tt

  pub parts_exit : (turns : ℕ) (done : List A) (n : ℕ) (ts : Tokens) (x : Option (Got (List A))) (r : Result (Read (List A)) ReadError) {y e : ReadError} → r ≡ Err y → y ≡ e → parted one turns done n ts ≡ x → Gives (Err e) (one ts) → Gives r x
  parts_exit turns done n ts x r {y} {e} is same so_far none = rw (is, same) (exit_at e turns done n ts x so_far none)

  pub parts_end : (turns : ℕ) (done : List A) (n : ℕ) (ts : Tokens) (x : Option (Got (List A))) (g : Got A) (all : List A) (k : ℕ) → parted one turns done n ts ≡ x → one ts ≡ Some g → past comma g.rest ≡ None → all ≡ done ++ g.tree ∷ [] → k ≡ max n g.nest → x ≡ got all k g.rest
  parts_end turns done n ts x g all k so_far found ends put most = rw (put, most) (sym so_far ∙ parted_ends turns done n g.tree g.nest ts g.rest found ends)

  pub parts_spent : (turns : ℕ) (done : List A) (n : ℕ) (ts us : Tokens) (x : Option (Got (List A))) (g : Got A) → parted one turns done n ts ≡ x → turns ≡ 0 → one ts ≡ Some g → past comma g.rest ≡ Some us → x ≡ None
  parts_spent turns done n ts us x g so_far spent found goes_on = sym so_far ∙ parted_spent turns done n g.tree g.nest ts g.rest us spent found goes_on

  pub parts_turn : (turns : ℕ) (done : List A) (n : ℕ) (ts us : Tokens) (x : Option (Got (List A))) (g : Got A) (all : List A) (k : ℕ) → parted one turns done n ts ≡ x → 0 < turns → one ts ≡ Some g → past comma g.rest ≡ Some us → all ≡ done ++ g.tree ∷ [] → k ≡ max n g.nest → parted one (turns - 1) all k us ≡ x
  parts_turn turns done n ts us x g all k so_far some found goes_on put most = rw (put, most) (sym (parted_turns turns done n g.tree g.nest ts g.rest us some found goes_on) ∙ so_far)
