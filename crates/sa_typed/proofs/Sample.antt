-- The definitions computed on samples, whose values come from C's rules by hand.
use Rattle.std.proofs.Common.{◌≡◌, pos, negsuc, true, false, refl}
use Rattle.std.specs.Prelude.{Ok, Err}
use Rattle.sa_base.specs.declared.alarm.Kind.TheVariants.{Overflow, Division, Shift, Conversion}
use Rattle.sa_base.specs.declared.num.Num.TheVariants.{I8, U8, U16, I32, U32, I64, U64}
use Rattle.sa_typed.specs.Arithmetic.{wrapped, as_num, in_type, converted, divided, remaindered, shifted_left, shifted_right, operate, prefixed, common, literal_type}
use Rattle.sa_typed.specs.declared.expr.Operator.TheVariants as o
use Rattle.sa_typed.specs.declared.expr.Prefix.TheVariants as p

-- the greatest int and 1, and the greatest unsigned int and 1
sum_overflows : operate o.Plus I32 (pos 2147483647) (pos 1) ≡ Err Overflow
unfolding operate as_num in_type
sum_overflows = refl

sum_wraps : operate o.Plus U32 (pos 4294967295) (pos 1) ≡ Ok (pos 0)
unfolding operate as_num in_type wrapped
sum_wraps = refl

-- the product of the greatest numbers of 64 bits is 1 modulo 2 ^ 64
product_wraps : operate o.Times U64 (pos 18446744073709551615) (pos 18446744073709551615) ≡ Ok (pos 1)
unfolding operate as_num in_type wrapped
product_wraps = refl

-- -7 / 2 and -7 % 2, and the least int by -1 and by 0
quotient_truncates : operate o.Divide I32 (negsuc 6) (pos 2) ≡ Ok (negsuc 2)
unfolding operate as_num in_type divided
quotient_truncates = refl

remainder_sign : operate o.Remainder I32 (negsuc 6) (pos 2) ≡ Ok (negsuc 0)
unfolding operate as_num remaindered
remainder_sign = refl

least_quotient : operate o.Divide I32 (negsuc 2147483647) (negsuc 0) ≡ Err Overflow
unfolding operate as_num in_type divided
least_quotient = refl

least_remainder : operate o.Remainder I32 (negsuc 2147483647) (negsuc 0) ≡ Err Overflow
unfolding operate as_num remaindered
least_remainder = refl

no_quotient : operate o.Divide U64 (pos 5) (pos 0) ≡ Err Division
unfolding operate as_num wrapped divided
no_quotient = refl

-- 1 << 30, 1 << 31, 1u << 31, 3000000000u << 1, -1 << 1, 1 << 32, -5 >> 1, and a count of another type
shift_fits : operate o.ShiftLeft I32 (pos 1) (pos 30) ≡ Ok (pos 1073741824)
unfolding operate as_num shifted_left
shift_fits = refl

shift_leaves : operate o.ShiftLeft I32 (pos 1) (pos 31) ≡ Err Shift
unfolding operate as_num shifted_left
shift_leaves = refl

shift_unsigned : operate o.ShiftLeft U32 (pos 1) (pos 31) ≡ Ok (pos 2147483648)
unfolding operate as_num shifted_left wrapped
shift_unsigned = refl

shift_wraps : operate o.ShiftLeft U32 (pos 3000000000) (pos 1) ≡ Ok (pos 1705032704)
unfolding operate as_num shifted_left wrapped
shift_wraps = refl

shift_negative : operate o.ShiftLeft I32 (negsuc 0) (pos 1) ≡ Err Shift
unfolding operate as_num shifted_left
shift_negative = refl

shift_far : operate o.ShiftLeft I32 (pos 1) (pos 32) ≡ Err Shift
unfolding operate as_num shifted_left
shift_far = refl

shift_rounds_down : operate o.ShiftRight I32 (negsuc 4) (pos 1) ≡ Ok (negsuc 2)
unfolding operate as_num shifted_right
shift_rounds_down = refl

shift_by_another_type : operate o.ShiftRight U32 (pos 8) (negsuc 0) ≡ Err Shift
unfolding operate as_num wrapped shifted_right
shift_by_another_type = refl

-- 5 & -4, -1 ^ 5, 5 | 8
and_is : operate o.BitAnd I32 (pos 5) (negsuc 3) ≡ Ok (pos 4)
unfolding operate as_num
and_is = refl

xor_is : operate o.BitXor I32 (negsuc 0) (pos 5) ≡ Ok (negsuc 5)
unfolding operate as_num
xor_is = refl

or_is : operate o.BitOr U64 (pos 5) (pos 8) ≡ Ok (pos 13)
unfolding operate as_num wrapped
or_is = refl

-- -1 < 1u is false
less_is : operate o.Less U32 (negsuc 0) (pos 1) ≡ Ok (pos 0)
unfolding operate as_num wrapped
less_is = refl

-- the least int negated, -1u, ~0, ~0u, !7
negation_overflows : prefixed p.Minus I32 (negsuc 2147483647) ≡ Err Overflow
unfolding prefixed as_num in_type
negation_overflows = refl

negation_wraps : prefixed p.Minus U32 (pos 1) ≡ Ok (pos 4294967295)
unfolding prefixed as_num in_type wrapped
negation_wraps = refl

complement_signed : prefixed p.Complement I32 (pos 0) ≡ Ok (negsuc 0)
unfolding prefixed as_num
complement_signed = refl

complement_unsigned : prefixed p.Complement U32 (pos 0) ≡ Ok (pos 4294967295)
unfolding prefixed as_num wrapped
complement_unsigned = refl

not_is : prefixed p.Not I64 (pos 7) ≡ Ok (pos 0)
unfolding prefixed as_num
not_is = refl

-- 200 as a signed char, -1 as an unsigned one
conversion_errs : converted I8 (pos 200) ≡ Err Conversion
unfolding in_type
conversion_errs = refl

conversion_wraps : converted U8 (negsuc 0) ≡ Ok (pos 255)
unfolding in_type wrapped
conversion_wraps = refl

-- char and unsigned short, unsigned int and long long, long long and unsigned long long
common_small : common I8 U16 ≡ I32
common_small = refl

common_long : common U32 I64 ≡ I64
common_long = refl

common_unsigned : common I64 U64 ≡ U64
common_unsigned = refl

-- 2147483648, 0x80000000, 0x100000000, 0xffffffffffffffff, 1u, 4294967296u, 1ll, 1ull
decimal_long : literal_type 2147483648 false 0 true ≡ I64
unfolding literal_type
decimal_long = refl

hexadecimal_unsigned : literal_type 2147483648 false 0 false ≡ U32
unfolding literal_type
hexadecimal_unsigned = refl

hexadecimal_long : literal_type 4294967296 false 0 false ≡ I64
unfolding literal_type
hexadecimal_long = refl

hexadecimal_greatest : literal_type 18446744073709551615 false 0 false ≡ U64
unfolding literal_type
hexadecimal_greatest = refl

suffix_u : literal_type 1 true 1 true ≡ U32
unfolding literal_type
suffix_u = refl

suffix_u_long : literal_type 4294967296 true 0 true ≡ U64
unfolding literal_type
suffix_u_long = refl

suffix_ll : literal_type 1 false 2 true ≡ I64
unfolding literal_type
suffix_ll = refl

suffix_ull : literal_type 1 true 2 true ≡ U64
unfolding literal_type
suffix_ull = refl
