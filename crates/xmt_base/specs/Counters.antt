-- Counters of 64 bits.
use Rattle.std.specs.Prelude.{ℕ, ◌-◌, ◌^◌, min}

-- a counter of 64 bits, which stays at its end
abbrev pub capped : ℕ → ℕ
capped n = min n (2 ^ 64 - 1)
