-- What a host tells at one moment, and what stays of it between two.
use Rattle.std.specs.Prelude.{◌≡◌, ℕ, ◌≤◌, Bool, IsTrue, List}
use Rattle.std.specs.declared.option.Option.{Option}

-- the files by their names: the bytes of each, and None where there is no such file
abbrev pub FileMap : Type 0
FileMap = List ℕ → Option (List ℕ)

-- The files and both streams, each where the host tells it; how often a call has failed, and how many bytes were read,
-- two counters of 64 bits. On a steady host no call fails but the reading of an absent file.
pub record Told : Type 0 where
  pub files : Option FileMap
  pub out : Option (List ℕ)
  pub err : Option (List ℕ)
  pub faults : ℕ
  pub taken : ℕ
  pub steady : Bool

-- on a steady host with such files no fault was met
abbrev pub MeetsNoFault : (before now : Told) → (has : Option FileMap → Type 0) → Type 0
MeetsNoFault before now has = IsTrue before.steady → has before.files → now.faults ≡ before.faults

module _ (before now : Told) where
  -- nothing was done but to read
  pub record OnlyReads : Type 0 where
    pub later : before.faults ≤ now.faults
    pub steady : now.steady ≡ before.steady
    pub files : now.files ≡ before.files
    pub out : now.out ≡ before.out
    pub err : now.err ≡ before.err

  -- nothing was done but to put files, and a steady host met no fault
  pub record OnlyPuts : Type 0 where
    pub later : before.faults ≤ now.faults
    pub steady : now.steady ≡ before.steady
    pub no_fault : IsTrue before.steady → now.faults ≡ before.faults
    pub taken : now.taken ≡ before.taken
    pub out : now.out ≡ before.out
    pub err : now.err ≡ before.err

  pub record OnlyPrints : Type 0 where
    pub later : before.faults ≤ now.faults
    pub steady : now.steady ≡ before.steady
    pub no_fault : IsTrue before.steady → now.faults ≡ before.faults
    pub taken : now.taken ≡ before.taken
    pub files : now.files ≡ before.files
    pub err : now.err ≡ before.err

  pub record OnlyComplains : Type 0 where
    pub later : before.faults ≤ now.faults
    pub steady : now.steady ≡ before.steady
    pub no_fault : IsTrue before.steady → now.faults ≡ before.faults
    pub taken : now.taken ≡ before.taken
    pub files : now.files ≡ before.files
    pub out : now.out ≡ before.out

  -- nothing was done but to read, to put files and to print
  pub record OnlyWorks : Type 0 where
    pub later : before.faults ≤ now.faults
    pub steady : now.steady ≡ before.steady
    pub err : now.err ≡ before.err
