-- What C's conversions and operators on whole numbers mean, over whole numbers without bounds. No interval stands here.
-- The types char, short, int, long and long long have 8, 16, 32, 32 and 64 bits, and signed ones are in two's complement: this project's own choice (ISO C 5.2.4.2.1, 6.2.6.2).
use Rattle.std.specs.Prelude.{ℕ, ◌^◌, ◌-◌, ℤ, pos, negsuc, ◌+ℤ◌, ◌-ℤ◌, ◌*ℤ◌, ◌≤ℤ◌, int_div, int_rem, unsigned_abs, Bool, true, false, ◌&&◌, not, nat_le, if◌then◌else◌, Result, Ok, Err}
use Rattle.std.specs.Int.{w128, int_rem_euclid, int_bit_and, int_bit_or, int_bit_xor, int_shr}
use Rattle.std.specs.Int.RustNames.{int_le, int_lt}
use Rattle.std.specs.Ordering.{int_eq}
use Rattle.sa_base.specs.Numbers.{num_lo, num_hi}
use Rattle.sa_base.specs.declared.alarm.Kind.{Kind}
use Rattle.sa_base.specs.declared.alarm.Kind.TheVariants.{Overflow, Division, Shift, Conversion}
use Rattle.sa_base.specs.declared.num.Num.{Num}
use Rattle.sa_base.specs.declared.num.Num.TheVariants.{I8, U8, I16, U16, I32, U32, I64, U64}
use Rattle.sa_typed.specs.declared.expr.Operator.{Operator}
use Rattle.sa_typed.specs.declared.expr.Operator.TheVariants as o
use Rattle.sa_typed.specs.declared.expr.Prefix.{Prefix}
use Rattle.sa_typed.specs.declared.expr.Prefix.TheVariants as p

-- ---- types

-- how many bits a type has, its sign bit included (6.2.6.2)
abbrev pub bits : Num → ℕ
bits I8 = 8
bits U8 = 8
bits I16 = 16
bits U16 = 16
bits I32 = 32
bits U32 = 32
bits I64 = 64
bits U64 = 64

abbrev pub is_signed : Num → Bool
is_signed I8 = true
is_signed U8 = false
is_signed I16 = true
is_signed U16 = false
is_signed I32 = true
is_signed U32 = false
is_signed I64 = true
is_signed U64 = false

-- the number is a value of the type: the test, and the fact
abbrev pub is_of : Num → ℤ → Bool
is_of num z = int_le (num_lo num) z && int_le z (num_hi num)

pub record IsOf (num : Num) (z : ℤ) : Type 0 where
  pub low : num_lo num ≤ℤ z
  pub high : z ≤ℤ num_hi num

-- the number is between the least and the greatest value of all types
pub record IsSmall (z : ℤ) : Type 0 where
  pub low : negsuc (2 ^ 63 - 1) ≤ℤ z
  pub high : z ≤ℤ pos (2 ^ 64 - 1)

-- the number is between the least and the greatest value of all signed types
pub record IsHalf (z : ℤ) : Type 0 where
  pub low : negsuc (2 ^ 63 - 1) ≤ℤ z
  pub high : z ≤ℤ pos (2 ^ 63 - 1)

-- the integer promotions: an int holds every value of a narrower type (6.3.1.1p2)
abbrev pub promoted : Num → Num
promoted I8 = I32
promoted U8 = I32
promoted I16 = I32
promoted U16 = I32
promoted I32 = I32
promoted U32 = U32
promoted I64 = I64
promoted U64 = U64

-- the usual arithmetic conversions of two types, after promotion (6.3.1.8): to the type of the greater rank, of two of one rank to the unsigned one; the signed 64 bits hold every value of the unsigned 32
abbrev pub common : Num → Num → Num
common U64 b = U64
common I64 U64 = U64
common I64 b = I64
common U32 U64 = U64
common U32 I64 = I64
common U32 b = U32
common a U64 = U64
common a I64 = I64
common a U32 = U32
common a b = I32

-- ---- conversions

-- the number modulo 2 ^ bits
unfoldable pub wrapped : Num → ℤ → ℤ
wrapped num z = int_rem_euclid z (pos (2 ^ bits num))

-- an operand as it is converted to the type in which its operator works: an unsigned type wraps (6.3.1.3p2), and a signed one holds every operand that is converted to it (6.3.1.8)
unfoldable pub as_num : Num → ℤ → ℤ
as_num num z = if is_signed num then z else wrapped num z

-- the number in a type: a signed type holds it or there is an error of this kind, an unsigned one wraps
unfoldable pub in_type : Kind → Num → ℤ → Result ℤ Kind
in_type kind num z = if is_signed num then (if is_of num z then Ok z else Err kind) else Ok (wrapped num z)

-- conversion by a cast or an assignment (6.3.1.3); that a signed type which doesn't hold the number makes it an error is this project's own choice among what 6.3.1.3p3 allows
abbrev pub converted : Num → ℤ → Result ℤ Kind
converted num z = in_type Conversion num z

-- the result of arithmetic: outside a signed type it is an error (6.5p5), of an unsigned one it is reduced (6.2.5p9)
abbrev pub fitted : Num → ℤ → Result ℤ Kind
fitted num z = in_type Overflow num z

-- ---- operators, of operands in the type

-- a quotient truncates towards zero, and there is none by 0 (6.5.5p5, p6)
unfoldable pub divided : Num → ℤ → ℤ → Result ℤ Kind
divided num x y = if int_eq y (pos 0) then Err Division else fitted num (int_div x y)

-- a remainder has its dividend's sign (6.5.5p6); where the quotient can't be represented it is an error, which is this project's own reading of 6.5.5p6 with 6.5p5
unfoldable pub remaindered : Num → ℤ → ℤ → Result ℤ Kind
remaindered num x y =
    if int_eq y (pos 0) then Err Division
    else (if is_signed num && not (is_of num (int_div x y)) then Err Overflow else Ok (int_rem x y))

-- a count is from 0 to the width less 1 (6.5.7p3)
abbrev pub is_count : Num → ℤ → Bool
is_count num y = int_le (pos 0) y && int_lt y (pos (bits num))

-- to the left: the product by a power of two, reduced in an unsigned type; in a signed one neither the number is negative nor the result outside (6.5.7p4)
abbrev pub shifted : ℤ → ℤ → ℤ
shifted x y = x *ℤ pos (2 ^ unsigned_abs y)

unfoldable pub shifted_left : Num → ℤ → ℤ → Result ℤ Kind
shifted_left num x y =
    if not (is_count num y) then Err Shift
    else (if is_signed num then (if int_le (pos 0) x && int_le (shifted x y) (num_hi num) then Ok (shifted x y) else Err Shift)
    else Ok (wrapped num (shifted x y)))

-- to the right: the quotient by a power of two (6.5.7p5), rounded down, which for a negative number is this project's own choice
unfoldable pub shifted_right : Num → ℤ → ℤ → Result ℤ Kind
shifted_right num x y = if is_count num y then Ok (int_shr x (unsigned_abs y)) else Err Shift

-- 1 where it holds and 0 where not (6.5.8p6, 6.5.9p3)
abbrev pub truth : Bool → ℤ
truth true = pos 1
truth false = pos 0

-- an operator in the type `num`, of operands that aren't converted to it yet; the count of a shift stays as it is (6.5.7p3)
unfoldable pub operate : Operator → Num → ℤ → ℤ → Result ℤ Kind
operate o.Plus num x y = fitted num (as_num num x +ℤ as_num num y)
operate o.Minus num x y = fitted num (as_num num x -ℤ as_num num y)
operate o.Times num x y = fitted num (as_num num x *ℤ as_num num y)
operate o.Divide num x y = divided num (as_num num x) (as_num num y)
operate o.Remainder num x y = remaindered num (as_num num x) (as_num num y)
operate o.ShiftLeft num x y = shifted_left num (as_num num x) y
operate o.ShiftRight num x y = shifted_right num (as_num num x) y
operate o.BitAnd num x y = Ok (int_bit_and w128 (as_num num x) (as_num num y))
operate o.BitXor num x y = Ok (int_bit_xor w128 (as_num num x) (as_num num y))
operate o.BitOr num x y = Ok (int_bit_or w128 (as_num num x) (as_num num y))
operate o.Equal num x y = Ok (truth (int_eq (as_num num x) (as_num num y)))
operate o.NotEqual num x y = Ok (truth (not (int_eq (as_num num x) (as_num num y))))
operate o.Less num x y = Ok (truth (int_lt (as_num num x) (as_num num y)))
operate o.LessEqual num x y = Ok (truth (int_le (as_num num x) (as_num num y)))
operate o.Greater num x y = Ok (truth (int_lt (as_num num y) (as_num num x)))
operate o.GreaterEqual num x y = Ok (truth (int_le (as_num num y) (as_num num x)))

-- the complement of each bit (6.5.3.3p4)
abbrev pub complemented : Num → ℤ → ℤ
complemented num x = (if is_signed num then negsuc 0 else num_hi num) -ℤ x

-- an operator before its operand, in the type `num` (6.5.3.3)
unfoldable pub prefixed : Prefix → Num → ℤ → Result ℤ Kind
prefixed p.Minus num x = fitted num (pos 0 -ℤ as_num num x)
prefixed p.Plus num x = Ok (as_num num x)
prefixed p.Complement num x = Ok (complemented num (as_num num x))
prefixed p.Not num x = Ok (truth (int_eq (as_num num x) (pos 0)))

-- ---- the type of a result

-- a comparison gives an int (6.5.8p6, 6.5.9p3)
abbrev pub result_type : Operator → Num → Num
result_type o.Equal num = I32
result_type o.NotEqual num = I32
result_type o.Less num = I32
result_type o.LessEqual num = I32
result_type o.Greater num = I32
result_type o.GreaterEqual num = I32
result_type op num = num

-- `!` gives an int (6.5.3.3p5)
abbrev pub prefix_type : Prefix → Num → Num
prefix_type p.Not num = I32
prefix_type op num = num

-- ---- what is known of an operand

-- an operand of an operator that works in `num`: converted to that type it is a value of it, as 6.3.1.8 sees to
pub record IsOperand (num : Num) (z : ℤ) : Type 0 where
  pub small : IsSmall z
  pub converts : IsOf num (as_num num z)

-- a right operand; the count of a shift may be of any type
abbrev pub IsRight : Operator → Num → ℤ → Type 0
IsRight o.ShiftLeft num z = IsSmall z
IsRight o.ShiftRight num z = IsSmall z
IsRight op num z = IsOperand num z

-- ---- literals

abbrev pub first_holding : Num → Num → ℕ → Num
first_holding a b v = if int_le (pos v) (num_hi a) then a else b

-- the type of a literal with this value, with `u` or without, with so many `l`, decimal or not: the first of its list in 6.4.4.1p5 that holds the value. A decimal literal without `u` is below 2 ^ 63
unfoldable pub literal_type : ℕ → Bool → ℕ → Bool → Num
literal_type v has_u longs decimal =
    if nat_le 2 longs then (if has_u then U64 else (if decimal then I64 else first_holding I64 U64 v))
    else (if has_u then first_holding U32 U64 v
    else (if decimal then first_holding I32 I64 v
    else (if nat_le v (2 ^ 32 - 1) then first_holding I32 U32 v else first_holding I64 U64 v)))
