-- A section: callers at once, each with a pass of its own that draws one number, and then one pass takes all of them in.
-- `Local u es v`: the entries es are those that lead a caller from u to v.
use Rattle.std.specs.Prelude.{◌≡◌, ℕ, ◌+◌, List, [], ◌∷◌, ◌++◌, length, nat_eq, Contains, None}
use Rattle.std.specs.List.{IsDistinct}
use Rattle.shared_words.specs.declared.log.Entry.{Entry}
use Rattle.shared_words.specs.declared.log.History.{History}
use Rattle.shared_words.specs.declared.log.Known.{Known}
use Rattle.shared_words.specs.History.{enrolment, own, IsLegal}
use Rattle.shared_words.specs.Passes.{IsSole, Begins, Merges}

-- a pass that has no number, and may draw one
abbrev pub unnumbered : History → Known
unnumbered seen = record { numbers = []; writes_with = None; room = 1; seen = seen }

-- a pass that took in others, one after another
abbrev pub Gathers : Known → List Known → Known → Type 0
Gathers k [] after = k ≡ after
Gathers k (f ∷ fs) after = (mid : Known) × Merges k f mid × Gathers mid fs after

module _ {U : Type 0} (Local : U → List Entry → U → Type 0) where
  -- the number was drawn, and the other entries that have it led from one state to the other
  pub record OwnRun (entries : List Entry) (number : ℕ) (unit after : U) : Type 0 where
    pub made : List Entry
    pub are : own number entries ≡ enrolment number ∷ made
    pub steps : Local unit made after

  -- the same of each caller
  abbrev pub AllOwnRuns : List Entry → List ℕ → List U → List U → Type 0
  AllOwnRuns entries [] [] [] = Unit {0}
  AllOwnRuns entries (n ∷ ns) (u ∷ us) (v ∷ vs) = OwnRun entries n u v × AllOwnRuns entries ns us vs
  AllOwnRuns entries _ _ _ = ⊥

  -- what a caller's pass knows after its run, where it had seen `seen` before
  pub record Ran (seen : History) (number : ℕ) (k : Known) (unit after : U) : Type 0 where
    pub numbers : k.numbers ≡ number ∷ []
    pub room : k.room ≡ 0
    pub begins : Begins seen k.seen
    pub new : own number seen.entries ≡ []
    pub run : OwnRun k.seen.entries number unit after

  abbrev pub AllRan : History → List ℕ → List Known → List U → List U → Type 0
  AllRan seen [] [] [] [] = Unit {0}
  AllRan seen (n ∷ ns) (k ∷ ks) (u ∷ us) (v ∷ vs) = Ran seen n k u v × AllRan seen ns ks us vs
  AllRan seen _ _ _ _ = ⊥

  -- what a pass knows before and after a section of callers with these states: the new entries are those of the runs, and no others
  pub record Section (before after : Known) (units afters : List U) : Type 0 where
    pub numbers : List ℕ
    pub new : List Entry
    pub opened : after.seen.opened ≡ before.seen.opened
    pub entries : after.seen.entries ≡ before.seen.entries ++ new
    pub legal : IsLegal after.seen
    pub distinct : IsDistinct nat_eq numbers
    pub runs : AllOwnRuns new numbers units afters
    pub only : (e : Entry) → Contains new e → Contains numbers e.number
    pub sole : IsSole after
    pub room : after.room + length units ≡ before.room
    pub writes_with : after.writes_with ≡ before.writes_with
