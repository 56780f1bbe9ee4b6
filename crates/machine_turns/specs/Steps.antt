-- How many steps units have done.
use Rattle.std.specs.Prelude.{◌≡◌, ℕ, ◌-◌, ◌≤◌, List, All, map, sum_by, slice_set}
use Rattle.xmt_isa.specs.declared.unit.Unit.{Unit}
use Rattle.xmt_isa.specs.Step.{more}

abbrev pub steps_of : Unit → ℕ
steps_of u = u.counts.steps

-- the unit in one place has done one more step, and no other unit has
abbrev pub Advances : List Unit → List Unit → ℕ → Unit → Type 0
Advances old new k u = map steps_of new ≡ slice_set (map steps_of old) k (more (steps_of u))

-- no unit has done more steps than the budget
abbrev pub IsWithin : ℕ → List Unit → Type 0
IsWithin budget units = All (λ s. s ≤ budget) (map steps_of units)

-- how many steps all units have left
abbrev pub steps_left : ℕ → List Unit → ℕ
steps_left budget units = sum_by (λ s. budget - s) (map steps_of units)
