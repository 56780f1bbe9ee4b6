-- The breaches of the rules of names and types, and which of them comes first.
use Rattle.std.specs.Prelude.{◌≡◌, ◌⊎◌, ℕ, nat_lt, ◌==◌, ◌&&◌, ◌||◌, if◌then◌else◌, Bool, false, List, Option, Some, None, slice_get}
use Rattle.xmt_base.specs.declared.values.Place.{Place}
use Rattle.name_scopes.specs.declared.fault.Which.{Which}
use Rattle.name_scopes.specs.declared.fault.Which.TheVariants as which
use Rattle.name_scopes.specs.declared.fault.NameKind.{NameKind}
use Rattle.name_scopes.specs.declared.fault.NameKind.TheVariants as kind
use Rattle.name_scopes.specs.declared.fault.Fault.{Fault}

-- the place of a kind in the table
abbrev pub rank_of_limit : Which → ℕ
rank_of_limit which.Variables = 12
rank_of_limit which.Parameters = 13
rank_of_limit which.Globals = 14
rank_of_limit which.Functions = 15
rank_of_limit which.Registers = 16
rank_of_limit which.PrintValues = 17
rank_of_limit which.Waiting = 18
rank_of_limit which.Nodes = 19

abbrev pub rank : NameKind → ℕ
rank kind.Unknown = 0
rank kind.Double = 1
rank kind.NotScalar = 2
rank kind.NotArray = 3
rank kind.NotFunction = 4
rank kind.NotRegister = 5
rank kind.WrongCount = 6
rank kind.BadFormat = 7
rank kind.VoidValue = 8
rank kind.ConstWrite = 9
rank kind.NotConstant = 10
rank kind.BadLength = 11
rank (kind.TooMany limit) = rank_of_limit limit
rank kind.NoMain = 20

-- a stands at an earlier place than b, or at the same place and earlier in the table
abbrev pub is_before : Fault → Fault → Bool
is_before a b =
    nat_lt a.place.line b.place.line
    || (a.place.line == b.place.line
    && (nat_lt a.place.column b.place.column
    || (a.place.column == b.place.column && nat_lt (rank a.kind) (rank b.kind))))

-- the first of two, where there are any
abbrev pub earlier : Option Fault → Option Fault → Option Fault
earlier None b = b
earlier (Some a) None = Some a
earlier (Some a) (Some b) = Some (if is_before b a then b else a)

-- the breaches in a tree: none, one, or those of two parts
pub data Faults : Type 0 where
  none : Faults
  one : NameKind → Place → Faults
  both : Faults → Faults → Faults

-- a breach, if the test holds
abbrev pub when : Bool → NameKind → Place → Faults
when holds what place = if holds then one what place else none

-- the first thing past a limit, where there is one
abbrev pub past_limit : Which → Option Place → Faults
past_limit limit None = none
past_limit limit (Some place) = one (kind.TooMany limit) place

abbrev pub over : (limit : ℕ) → Which → List Place → Faults
over limit what places = past_limit what (slice_get places limit)

abbrev pub IsAmong : Fault → Faults → Type 0
IsAmong fault none = ⊥
IsAmong fault (one what place) = fault ≡ record { kind = what; place = place }
IsAmong fault (both a b) = IsAmong fault a ⊎ IsAmong fault b

-- the fault is among these, and none of these comes before it
pub record IsFirst (faults : Faults) (fault : Fault) : Type 0 where
  pub among : IsAmong fault faults
  pub least : (other : Fault) → IsAmong other faults → is_before other fault ≡ false

-- the first of these, where there are any
abbrev pub first : Faults → Option Fault
first none = None
first (one what place) = Some (record { kind = what; place = place })
first (both a b) = earlier (first a) (first b)

-- what is found is the first of these, or there are none
abbrev pub IsFirstOf : Faults → Option Fault → Type 0
IsFirstOf faults None = (fault : Fault) → ¬ IsAmong fault faults
IsFirstOf faults (Some fault) = IsFirst faults fault
