-- Numbers among the words.
use Rattle.std.specs.Prelude.{ℕ, ◌-◌, ◌^◌, ◌&&◌, Bool, if◌then◌else◌, nat_lt, nat_le, length}
use Rattle.std.specs.declared.option.Option.{Option}
use Rattle.std.specs.declared.option.Option.TheVariants.{Some, None}
use Rattle.std.specs.Option.{option_map}
use Rattle.std.specs.Char.{is_ascii_digit}
use Rattle.std.specs.List.{list_all}
use Rattle.std.specs.Str.Parse.{digits_value}
use Rattle.xmt_cli.specs.Given.{Text}

-- 1 to 20 decimal digits, of which the first may be zeros
abbrev pub is_number : Text → Bool
is_number text = nat_lt 0 (length text) && nat_le (length text) 20 && list_all is_ascii_digit text

abbrev pub is_within : ℕ → ℕ → ℕ → Bool
is_within low high n = nat_le low n && nat_le n high

-- the number from low to high that a text is
abbrev pub number_in : ℕ → ℕ → Text → Option ℕ
number_in low high text = if is_number text && is_within low high (digits_value 10 text) then Some (digits_value 10 text) else None

-- the number, or the usual one where none is given
abbrev pub number_or : ℕ → ℕ → ℕ → Option Text → Option ℕ
number_or usual low high None = Some usual
number_or usual low high (Some text) = number_in low high text

-- a seed that may be given
abbrev pub seed_of : Option Text → Option (Option ℕ)
seed_of None = Some None
seed_of (Some text) = option_map (λ n. Some n) (number_in 0 (2 ^ 64 - 1) text)
