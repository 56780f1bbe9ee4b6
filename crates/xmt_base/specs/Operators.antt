-- The operators on numbers of 32 bits. A value is a number below 2^32, and a signed one is read off it in two's complement.
use Rattle.std.specs.Prelude.{ℕ, ◌+◌, ◌-◌, ◌*◌, ◌%◌, ◌^◌, ◌==◌, Bool, not, if◌then◌else◌, ℤ, int_lt, int_div, int_rem, Option, Some, None, bit_and, bit_or, bit_xor}
use Rattle.std.specs.Int.{w32, cast_signed, cast_unsigned, int_shr}
use Rattle.xmt_base.specs.declared.operators.UnOp.{UnOp}
use Rattle.xmt_base.specs.declared.operators.UnOp.TheVariants.{Neg, Plus, Not, Flip}
use Rattle.xmt_base.specs.declared.operators.BinOp.{BinOp}
use Rattle.xmt_base.specs.declared.operators.BinOp.TheVariants.{Add, Sub, Mul, Div, Rem, Shl, Shr, BitAnd, BitOr, BitXor, Lt, Le, Gt, Ge, Eq, Ne}

-- the signed number that a value stands for
abbrev pub signed : ℕ → ℤ
signed a = cast_signed w32 a

-- the value of a signed number from -2^31 to 2^31; the value of 2^31 is that of -2^31
abbrev pub value_of : ℤ → ℕ
value_of z = cast_unsigned w32 z

-- 1 for true, and 0 for false
abbrev pub truth : Bool → ℕ
truth b = if b then 1 else 0

-- the quotient, cut towards zero, and none by 0
abbrev pub quotient : ℕ → ℕ → Option ℕ
quotient a b = if b == 0 then None else Some (value_of (int_div (signed a) (signed b)))

-- what that quotient leaves over
abbrev pub remainder : ℕ → ℕ → Option ℕ
remainder a b = if b == 0 then None else Some (value_of (int_rem (signed a) (signed b)))

-- what a unary operator gives
abbrev pub unary_value : UnOp → ℕ → ℕ
unary_value Neg a = (2 ^ 32 - a) % 2 ^ 32
unary_value Plus a = a
unary_value Not a = truth (a == 0)
unary_value Flip a = 2 ^ 32 - 1 - a

-- what a binary operator gives, or none where it traps
abbrev pub binary_value : BinOp → ℕ → ℕ → Option ℕ
binary_value Add a b = Some ((a + b) % 2 ^ 32)
binary_value Sub a b = Some ((a + (2 ^ 32 - b)) % 2 ^ 32)
binary_value Mul a b = Some (a * b % 2 ^ 32)
binary_value Div a b = quotient a b
binary_value Rem a b = remainder a b
binary_value Shl a b = Some (a * 2 ^ (b % 32) % 2 ^ 32)
binary_value Shr a b = Some (value_of (int_shr (signed a) (b % 32)))
binary_value BitAnd a b = Some (bit_and a b)
binary_value BitOr a b = Some (bit_or a b)
binary_value BitXor a b = Some (bit_xor a b)
binary_value Lt a b = Some (truth (int_lt (signed a) (signed b)))
binary_value Le a b = Some (truth (not (int_lt (signed b) (signed a))))
binary_value Gt a b = Some (truth (int_lt (signed b) (signed a)))
binary_value Ge a b = Some (truth (not (int_lt (signed a) (signed b))))
binary_value Eq a b = Some (truth (a == b))
binary_value Ne a b = Some (truth (not (a == b)))

-- how many numbers there are from low to high, both included and both read as signed
abbrev pub count_between : (low high : ℕ) → ℕ
count_between low high = if int_lt (signed high) (signed low) then 0 else (high + (2 ^ 32 - low)) % 2 ^ 32 + 1
