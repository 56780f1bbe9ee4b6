-- One turn of the readers of items, as the code makes it.
use Rattle.std.proofs.Common.{◌≡◌, ℕ, zero, suc, max, ◌-◌, ◌<◌, true, false, List, [], ◌∷◌, ◌++◌, length, Option, Some, None, Result, Err, refl, sym, ◌∙◌, arith}
use Rattle.xmt_base.specs.declared.Place.{Place}
use Rattle.raw_tree.specs.declared.read.Read.{Read}
use Rattle.raw_tree.specs.declared.read.ReadError.{ReadError}
use Rattle.raw_tree.specs.declared.read.ReadError.TheVariants.{Syntax, NoMemory}
use Rattle.raw_tree.specs.declared.tree.RawExpr.{RawExpr}
use Rattle.raw_tree.specs.declared.tree.RawItem.{RawItem}
use Rattle.raw_tree.specs.declared.tree.RawValues.{RawValues}
use Rattle.raw_tree.specs.Level.{Tokens}
use Rattle.raw_tree.specs.Gives.{Gives, GivesAll}
use Rattle.raw_tree.specs.Reading.{Got, GotExpr, ReaderOf, Reader, got, past, comma}
use Rattle.raw_tree.specs.ReadingStatements.{close_curly}
use Rattle.raw_tree.specs.ReadingItems.{values, values_step, values_more, values_on, items, read_item, read_items}
use Rattle.raw_tree.proofs.Parted.{past_some}
use Rattle.raw_statements.proofs.Turns.{past_none}

-- ---- the values of an array; x is what the loop comes to

module _ (at : Place) (more : List RawExpr → ℕ → Tokens → Option (Got RawValues)) (done : List RawExpr) (n : ℕ) where
  ends_here : (r us : Tokens) → past close_curly r ≡ Some us → values_more more at done n r ≡ got (record { at = at; values = done; comma = false }) n us
  ends_here r us closed = let p = past_some close_curly r us closed in rw (p.1, p.2)

  no_comma : (r : Tokens) → past close_curly r ≡ None → past comma r ≡ None → values_more more at done n r ≡ None
  no_comma [] unclosed none = refl
  no_comma (c ∷ ts) unclosed none = rw (past_none close_curly c ts unclosed, past_none comma c ts none)

  at_comma : (r us : Tokens) → past close_curly r ≡ None → past comma r ≡ Some us → values_more more at done n r ≡ values_on more at done n us
  at_comma [] us unclosed found = absurd (cc)
  at_comma (c ∷ ts) us unclosed found =
      let p = past_some comma (c ∷ ts) us found in
      let same_token : c ≡ p.0 = cc in let same_rest : ts ≡ us = cc in
      rw (past_none close_curly c ts unclosed, same_token, p.2, same_rest)

  ends_behind : (us vs : Tokens) → past close_curly us ≡ Some vs → values_on more at done n us ≡ got (record { at = at; values = done; comma = true }) n vs
  ends_behind us vs closed = let p = past_some close_curly us vs closed in rw (p.1, p.2)

  goes_on : (us : Tokens) → past close_curly us ≡ None → (us ≡ [] → ⊥) → values_on more at done n us ≡ more done n us
  goes_on [] unclosed some = absurd (some refl)
  goes_on (c ∷ ts) unclosed some = rw (past_none close_curly c ts unclosed)

module _ (cond : Reader) (at : Place) where
  abbrev next_values : (turns : ℕ) → List RawExpr → ℕ → Tokens → Option (Got RawValues)
  next_values zero all k us = None
  next_values (suc f) all k us = values cond f at all k us

  values_go : (turns : ℕ) (done : List RawExpr) (n : ℕ) (ts : Tokens) → values cond turns at done n ts ≡ values_step (next_values turns) at done n (cond ts)
  unfolding values
  values_go zero done n ts = refl
  values_go (suc f) done n ts = refl

  next_turn : (turns : ℕ) (all : List RawExpr) (k : ℕ) (us : Tokens) → 0 < turns → next_values turns all k us ≡ values cond (turns - 1) at all k us
  next_turn zero all k us h = absurd (omega (arith, h))
  next_turn (suc f) all k us h = let is : suc f - 1 ≡ f = omega arith in rw is

  module _ (turns : ℕ) (done : List RawExpr) (n : ℕ) (ts : Tokens) (x : Option (Got RawValues)) (so_far : values cond turns at done n ts ≡ x) where
    at_fault : (e : ReadError) → Gives (Err e) (cond ts) → Gives (Err e) x
    at_fault (Syntax left) none = sym so_far ∙ values_go turns done n ts ∙ rw none
    at_fault NoMemory none = tt

    pub values_exit : (r : Result (Read RawValues) ReadError) {y e : ReadError} → r ≡ Err y → y ≡ e → Gives (Err e) (cond ts) → Gives r x
    values_exit r {y} {e} is same none = rw (is, same) (at_fault e none)

    module _ (g : GotExpr) (found : cond ts ≡ Some g) (all : List RawExpr) (k : ℕ) (put : all ≡ done ++ g.tree ∷ []) (most : k ≡ max n g.nest) where
      behind_one : x ≡ values_more (next_values turns) at all k g.rest
      behind_one = rw (put, most) (sym so_far ∙ values_go turns done n ts ∙ rw found)

      pub values_end : (us : Tokens) → past close_curly g.rest ≡ Some us → x ≡ got (record { at = at; values = all; comma = false }) k us
      values_end us closed = behind_one ∙ ends_here at (next_values turns) all k g.rest us closed

      pub values_no_comma : past close_curly g.rest ≡ None → past comma g.rest ≡ None → x ≡ None
      values_no_comma unclosed none = behind_one ∙ no_comma at (next_values turns) all k g.rest unclosed none

      pub values_comma_end : (us vs : Tokens) → past close_curly g.rest ≡ None → past comma g.rest ≡ Some us → past close_curly us ≡ Some vs → x ≡ got (record { at = at; values = all; comma = true }) k vs
      values_comma_end us vs unclosed behind closed = behind_one ∙ at_comma at (next_values turns) all k g.rest us unclosed behind ∙ ends_behind at (next_values turns) all k us vs closed

      pub values_cut : (us : Tokens) → past close_curly g.rest ≡ None → past comma g.rest ≡ Some us → us ≡ [] → x ≡ None
      values_cut us unclosed behind none = behind_one ∙ at_comma at (next_values turns) all k g.rest us unclosed behind ∙ rw none

      pub values_spent : (us : Tokens) → past close_curly g.rest ≡ None → past comma g.rest ≡ Some us → past close_curly us ≡ None → (us ≡ [] → ⊥) → turns ≡ 0 → x ≡ None
      values_spent us unclosed behind on some spent =
          behind_one ∙ at_comma at (next_values turns) all k g.rest us unclosed behind ∙ goes_on at (next_values turns) all k us on some ∙ rw spent

      pub values_turn : (us : Tokens) → past close_curly g.rest ≡ None → past comma g.rest ≡ Some us → past close_curly us ≡ None → (us ≡ [] → ⊥) → 0 < turns → values cond (turns - 1) at all k us ≡ x
      values_turn us unclosed behind on some left =
          sym (behind_one ∙ at_comma at (next_values turns) all k g.rest us unclosed behind ∙ goes_on at (next_values turns) all k us on some ∙ next_turn turns all k us left)

-- ---- items; x is what the loop comes to

module _ (one : ReaderOf RawItem) (done : List RawItem) where
  at_the_end : (f : ℕ) (us : Tokens) → us ≡ [] → items one f done us ≡ got done 0 []
  unfolding items
  at_the_end zero us h = rw h
  at_the_end (suc f) us h = rw h

  none_read : (f : ℕ) (us : Tokens) → (us ≡ [] → ⊥) → one us ≡ None → items one f done us ≡ None
  unfolding items
  none_read f [] some none = absurd (some refl)
  none_read zero (t ∷ ts) some none = refl
  none_read (suc f) (t ∷ ts) some none = rw none

  no_turns : (f : ℕ) (us : Tokens) → (us ≡ [] → ⊥) → f ≡ 0 → items one f done us ≡ None
  unfolding items
  no_turns f [] some spent = absurd (some refl)
  no_turns zero (t ∷ ts) some spent = refl
  no_turns (suc f) (t ∷ ts) some spent = absurd (omega (arith, spent))

  one_read : (f : ℕ) (us : Tokens) (g : Got RawItem) → (us ≡ [] → ⊥) → 0 < f → one us ≡ Some g → items one f done us ≡ items one (f - 1) (done ++ g.tree ∷ []) g.rest
  unfolding items
  one_read f [] g some left found = absurd (some refl)
  one_read zero (t ∷ ts) g some left found = absurd (omega (arith, left))
  one_read (suc f) (t ∷ ts) g some left found = let is : suc f - 1 ≡ f = omega arith in rw (is, found)

  module _ (turns : ℕ) (ts : Tokens) (x : Option (Got (List RawItem))) (so_far : items one turns done ts ≡ x) where
    pub items_end : ts ≡ [] → x ≡ got done 0 []
    items_end is = sym so_far ∙ at_the_end turns ts is

    at_item : (e : ReadError) → (ts ≡ [] → ⊥) → Gives (Err e) (one ts) → GivesAll (Err e) x
    at_item (Syntax left) some none = sym so_far ∙ none_read turns ts some none
    at_item NoMemory some none = tt

    pub items_exit : (r : Result (List RawItem) ReadError) {y e : ReadError} → r ≡ Err y → y ≡ e → (ts ≡ [] → ⊥) → Gives (Err e) (one ts) → GivesAll r x
    items_exit r {y} {e} is same some none = rw (is, same) (at_item e some none)

    pub items_spent : (ts ≡ [] → ⊥) → turns ≡ 0 → x ≡ None
    items_spent some spent = sym so_far ∙ no_turns turns ts some spent

    pub items_turn : (g : Got RawItem) (all : List RawItem) → (ts ≡ [] → ⊥) → 0 < turns → one ts ≡ Some g → all ≡ done ++ g.tree ∷ [] → items one (turns - 1) all g.rest ≡ x
    items_turn g all some left found put = rw put (sym (one_read turns ts g some left found) ∙ so_far)

pub items_begin : (source : List ℕ) (depth : ℕ) (ts : Tokens) → (ts ≡ [] → ⊥) → items (read_item source depth) (length ts) [] ts ≡ read_items source depth ts
items_begin source depth [] some = absurd (some refl)
items_begin source depth (t ∷ ts) some = refl
