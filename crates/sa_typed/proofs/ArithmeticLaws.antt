-- Sizes of results, and the types that they are of.
use Rattle.std.proofs.Common.{◌≡◌, ℕ, ◌^◌, ◌+◌, ◌-◌, ◌*◌, ◌≤◌, ◌<◌, ℤ, pos, negsuc, ◌≤ℤ◌, ◌<ℤ◌, ◌+ℤ◌, ◌*ℤ◌, int_div, int_rem, unsigned_abs, Bool, true, false, ◌&&◌, not, cond, FitsSigned, arith, refl}
use Rattle.std.specs.Prelude.{Result, Ok, Err, IfOk}
use Rattle.std.specs.Int.{w128, int_shr, int_bit_and, int_bit_or, int_bit_xor}
use Rattle.std.specs.Int.RustNames.{int_le}
use Rattle.std.specs.Ordering.{int_eq}
use Rattle.std.proofs.Math.IntN.{zero-*ℤ}
use Rattle.std.proofs.Math.Nat.{div-le_self}
use Rattle.std.proofs.lemmas.Int.{ints, by_lt_z, fits_signed_mul}
use Rattle.std.proofs.lemmas.Nat.{pow_pos}
use Rattle.sa_base.specs.Numbers.{num_lo, num_hi}
use Rattle.sa_base.specs.declared.alarm.Kind.{Kind}
use Rattle.sa_base.specs.declared.alarm.Kind.TheVariants.{Overflow, Division, Shift}
use Rattle.sa_base.specs.declared.num.Num.{Num}
use Rattle.sa_base.specs.declared.num.Num.TheVariants.{I8, U8, I16, U16, I32, U32, I64, U64}
use Rattle.sa_numbers.proofs.Bits.{FitsBits, and-fits, or-fits, xor-fits, and-below_first, or-within, xor-within}
use Rattle.sa_numbers.proofs.Order.{le_from, le_to, ≤ℤ_trans}
use Rattle.sa_numbers.proofs.Products.{times_up}
use Rattle.sa_numbers.proofs.Remainders.{remainder_of_above, remainder_of_below}
use Rattle.sa_numbers.proofs.Residues.{residue-range}
use Rattle.sa_numbers.proofs.Shifts.{powers_rise}
use Rattle.sa_typed.specs.Arithmetic.{bits, is_signed, is_of, IsOf, IsSmall, IsHalf, wrapped, as_num, in_type, fitted, divided, remaindered, is_count, shifted, shifted_left, shifted_right, truth, complemented, operate, prefixed, result_type, prefix_type, IsOperand, IsRight}
use Rattle.sa_typed.specs.declared.expr.Operator.{Operator}
use Rattle.sa_typed.specs.declared.expr.Operator.TheVariants as o
use Rattle.sa_typed.specs.declared.expr.Prefix.{Prefix}
use Rattle.sa_typed.specs.declared.expr.Prefix.TheVariants as p

-- 64 bits, shifted by at most 63
pub shift_fits : (x : ℤ) (count : ℕ) → pos 0 ≤ℤ x → x ≤ℤ pos (2 ^ 64 - 1) → count ≤ 63 → FitsSigned w128 (x *ℤ pos (2 ^ count))
shift_fits (pos n) count low high h =
    let rise = powers_rise count 63 h in
    fits_signed_mul w128 (pos n) (pos (2 ^ count)) (2 ^ 64 - 1) (2 ^ 63) (omega (arith, ints)) (omega arith) (omega arith)
shift_fits (negsuc n) count low high h = absurd (omega (arith, ints))

size_of_half : (x : ℤ) → IsHalf x → unsigned_abs x ≤ 2 ^ 63
size_of_half (pos n) h = omega (arith, ints, h.high)
size_of_half (negsuc n) h = omega (arith, ints, h.low)

pub product_fits : (x y : ℤ) → IsHalf x → IsHalf y → FitsSigned w128 (x *ℤ y)
product_fits x y h k = fits_signed_mul w128 x y (2 ^ 63) (2 ^ 63) (size_of_half x h) (size_of_half y k) (omega arith)

pub signed_half : (num : Num) (x : ℤ) → is_signed num ≡ true → IsOf num x → IsHalf x
signed_half I8 x e h = record { low = omega (arith, ints, h.low); high = omega (arith, ints, h.high) }
signed_half I16 x e h = record { low = omega (arith, ints, h.low); high = omega (arith, ints, h.high) }
signed_half I32 x e h = record { low = omega (arith, ints, h.low); high = omega (arith, ints, h.high) }
signed_half I64 x e h = record { low = h.low; high = h.high }
signed_half U8 x e h = cc
signed_half U16 x e h = cc
signed_half U32 x e h = cc
signed_half U64 x e h = cc

pub unsigned_low : (num : Num) → is_signed num ≡ false → num_lo num ≡ pos 0
unsigned_low U8 e = refl
unsigned_low U16 e = refl
unsigned_low U32 e = refl
unsigned_low U64 e = refl
unsigned_low I8 e = cc
unsigned_low I16 e = cc
unsigned_low I32 e = cc
unsigned_low I64 e = cc

pub record NumFacts (num : Num) : Type 0 where
  pub width : (1 ≤ bits num) × (bits num ≤ 64)
  pub least : negsuc (2 ^ 63 - 1) ≤ℤ num_lo num
  pub not_above : num_lo num ≤ℤ pos 0
  pub not_below : pos 1 ≤ℤ num_hi num
  pub greatest : num_hi num ≤ℤ pos (2 ^ 64 - 1)

pub num_facts : (num : Num) → NumFacts num
num_facts I8 = record { width = (omega arith, omega arith); least = omega (arith, ints); not_above = omega (arith, ints); not_below = omega (arith, ints); greatest = omega (arith, ints) }
num_facts U8 = record { width = (omega arith, omega arith); least = omega (arith, ints); not_above = omega (arith, ints); not_below = omega (arith, ints); greatest = omega (arith, ints) }
num_facts I16 = record { width = (omega arith, omega arith); least = omega (arith, ints); not_above = omega (arith, ints); not_below = omega (arith, ints); greatest = omega (arith, ints) }
num_facts U16 = record { width = (omega arith, omega arith); least = omega (arith, ints); not_above = omega (arith, ints); not_below = omega (arith, ints); greatest = omega (arith, ints) }
num_facts I32 = record { width = (omega arith, omega arith); least = omega (arith, ints); not_above = omega (arith, ints); not_below = omega (arith, ints); greatest = omega (arith, ints) }
num_facts U32 = record { width = (omega arith, omega arith); least = omega (arith, ints); not_above = omega (arith, ints); not_below = omega (arith, ints); greatest = omega (arith, ints) }
num_facts I64 = record { width = (omega arith, omega arith); least = omega (arith, ints); not_above = omega (arith, ints); not_below = omega (arith, ints); greatest = omega (arith, ints) }
num_facts U64 = record { width = (omega arith, omega arith); least = omega (arith, ints); not_above = omega (arith, ints); not_below = omega (arith, ints); greatest = omega (arith, ints) }

pub of_small : (num : Num) (x : ℤ) → IsOf num x → IsSmall x
of_small num x h =
    let facts = num_facts num in
    record { low = ≤ℤ_trans _ _ _ facts.least h.low; high = ≤ℤ_trans _ _ _ h.high facts.greatest }

-- a number of an unsigned type, as the code converts it
pub magnitude_small : (num : Num) (x : ℤ) → is_signed num ≡ false → IsOf num x → (pos 0 ≤ℤ x) × (x <ℤ pos (2 ^ 64))
magnitude_small num x e h = let facts = num_facts num in (rw (unsigned_low num e) at h.low, omega (arith, ints, h.high, facts.greatest))

-- a product in an unsigned type wraps
pub unsigned_fits : (num : Num) (x y : ℤ) → is_signed num ≡ false → pos 0 ≤ℤ x → pos 0 ≤ℤ y → Ok (wrapped num (pos (unsigned_abs x * unsigned_abs y))) ≡ fitted num (x *ℤ y)
unfolding in_type
unsigned_fits num (pos m) (pos n) e p q = rw e refl
unsigned_fits num (pos m) (negsuc n) e p q = absurd (omega (arith, ints))
unsigned_fits num (negsuc m) y e p q = absurd (omega (arith, ints))

-- ---- tests and facts

both_true : (p q : Bool) → (p && q) ≡ true → (p ≡ true) × (q ≡ true)
both_true true q e = (refl, e)
both_true false q e = cc

pub is_of_from : (num : Num) (z : ℤ) → is_of num z ≡ true → IsOf num z
is_of_from num z e =
    let both = both_true (int_le (num_lo num) z) (int_le z (num_hi num)) e in
    record { low = le_from (num_lo num) z both.0; high = le_from z (num_hi num) both.1 }

pub is_of_to : (num : Num) (z : ℤ) → IsOf num z → is_of num z ≡ true
is_of_to num z h = rw (le_to (num_lo num) z h.low, le_to z (num_hi num) h.high) refl

-- ---- results are of their types

pub unsigned_high : (num : Num) → is_signed num ≡ false → num_hi num ≡ pos (2 ^ bits num - 1)
unsigned_high U8 e = refl
unsigned_high U16 e = refl
unsigned_high U32 e = refl
unsigned_high U64 e = refl
unsigned_high I8 e = cc
unsigned_high I16 e = cc
unsigned_high I32 e = cc
unsigned_high I64 e = cc

pub wrapped_of : (num : Num) (z : ℤ) → is_signed num ≡ false → IsOf num (wrapped num z)
unfolding wrapped
wrapped_of num z e =
    let range = residue-range z (2 ^ bits num) (pow_pos (bits num)) in
    record { low = rw (unsigned_low num e) range.0; high = rw (unsigned_high num e) (omega (arith, ints, range.1)) }

abbrev GivesOf : Num → Result ℤ Kind → Type 0
GivesOf num r = IfOk r (λ z. IsOf num z)

pub in_type_of : (kind : Kind) (num : Num) (z : ℤ) → GivesOf num (in_type kind num z)
unfolding in_type
in_type_of kind num z =
    elim (is_signed num) as (λ s. is_signed num ≡ s → GivesOf num (cond s (cond (is_of num z) (Ok z) (Err kind)) (Ok (wrapped num z)))) [
      | true ↦ λ _. elim (is_of num z) as (λ b. is_of num z ≡ b → GivesOf num (cond b (Ok z) (Err kind))) [
        | true ↦ λ e. is_of_from num z e
        | false ↦ λ _. tt
      ] refl
      | false ↦ λ e. wrapped_of num z e
    ] refl

divided_of : (num : Num) (x y : ℤ) → GivesOf num (divided num x y)
unfolding divided
divided_of num x y =
    elim (int_eq y (pos 0)) as (λ b. GivesOf num (cond b (Err Division) (fitted num (int_div x y)))) [
      | true ↦ tt
      | false ↦ in_type_of Overflow num (int_div x y)
    ]

-- a number between 0 and one of the type is of the type
pub remainder_of_type : (num : Num) (x y : ℤ) → IsOf num x → IsOf num (int_rem x y)
remainder_of_type num x y h =
    let facts = num_facts num in
    by_lt_z x (pos 0)
    (λ down. let r = remainder_of_below x y (omega (arith, ints)) in record { low = ≤ℤ_trans _ _ _ h.low r.0; high = omega (arith, ints, facts.not_below, r.1) })
    (λ rest. let r = remainder_of_above x y rest in record { low = ≤ℤ_trans _ _ _ facts.not_above r.0; high = ≤ℤ_trans _ _ _ r.1 h.high })

remaindered_of : (num : Num) (x y : ℤ) → IsOf num x → GivesOf num (remaindered num x y)
unfolding remaindered
remaindered_of num x y h =
    elim (int_eq y (pos 0)) as (λ b. GivesOf num (cond b (Err Division) (cond (is_signed num && not (is_of num (int_div x y))) (Err Overflow) (Ok (int_rem x y))))) [
      | true ↦ tt
      | false ↦ elim (is_signed num && not (is_of num (int_div x y))) as (λ b. GivesOf num (cond b (Err Overflow) (Ok (int_rem x y)))) [
        | true ↦ tt
        | false ↦ remainder_of_type num x y h
      ]
    ]

pub shifted_of_type : (num : Num) (x : ℤ) (k : ℕ) → IsOf num x → IsOf num (int_shr x k)
shifted_of_type num (pos n) k h =
    let facts = num_facts num in
    let le = div-le_self n (2 ^ k) in
    record { low = omega (arith, ints, facts.not_above); high = omega (arith, ints, h.high) }
shifted_of_type num (negsuc n) k h =
    let facts = num_facts num in
    let le = div-le_self n (2 ^ k) in
    record { low = omega (arith, ints, h.low); high = omega (arith, ints, facts.not_below) }

shifted_right_of : (num : Num) (x y : ℤ) → IsOf num x → GivesOf num (shifted_right num x y)
unfolding shifted_right
shifted_right_of num x y h =
    elim (is_count num y) as (λ b. GivesOf num (cond b (Ok (int_shr x (unsigned_abs y))) (Err Shift))) [
      | true ↦ shifted_of_type num x (unsigned_abs y) h
      | false ↦ tt
    ]

pub shifted_up : (x y : ℤ) → pos 0 ≤ℤ x → pos 0 ≤ℤ shifted x y
shifted_up x y up =
    let rise = times_up (pos 0) x (pos (2 ^ unsigned_abs y)) (omega (arith, ints)) up in
    let none = zero-*ℤ (pos (2 ^ unsigned_abs y)) in
    rw none at rise

signed_left_of : (num : Num) (x z : ℤ) → (pos 0 ≤ℤ x → pos 0 ≤ℤ z) → GivesOf num (cond (int_le (pos 0) x && int_le z (num_hi num)) (Ok z) (Err Shift))
signed_left_of num x z up =
    elim (int_le (pos 0) x && int_le z (num_hi num)) as (λ b. (int_le (pos 0) x && int_le z (num_hi num)) ≡ b → GivesOf num (cond b (Ok z) (Err Shift))) [
      | true ↦ λ e.
          let both = both_true (int_le (pos 0) x) (int_le z (num_hi num)) e in
          record { low = ≤ℤ_trans _ _ _ (num_facts num).not_above (up (le_from (pos 0) x both.0)); high = le_from z (num_hi num) both.1 }
      | false ↦ λ _. tt
    ] refl

shifted_left_of : (num : Num) (x y : ℤ) → GivesOf num (shifted_left num x y)
unfolding shifted_left
shifted_left_of num x y =
    elim (is_count num y) as (λ b. GivesOf num (cond (not b) (Err Shift) (cond (is_signed num) (cond (int_le (pos 0) x && int_le (shifted x y) (num_hi num)) (Ok (shifted x y)) (Err Shift)) (Ok (wrapped num (shifted x y)))))) [
      | true ↦ elim (is_signed num) as (λ s. is_signed num ≡ s → GivesOf num (cond s (cond (int_le (pos 0) x && int_le (shifted x y) (num_hi num)) (Ok (shifted x y)) (Err Shift)) (Ok (wrapped num (shifted x y))))) [
        | true ↦ λ _. signed_left_of num x (shifted x y) (shifted_up x y)
        | false ↦ λ e. wrapped_of num (shifted x y) e
      ] refl
      | false ↦ tt
    ]

-- an operation on bits that keeps k bits and a sign, and k bits without one
record KeepsBits (op : ℤ → ℤ → ℤ) : Type 0 where
  signed : (j k : ℕ) (x y : ℤ) → j + k ≡ 128 → 0 < j → FitsBits k x → FitsBits k y → FitsBits k (op x y)
  unsigned : (x y : ℤ) (k : ℕ) → k ≤ 127 → pos 0 ≤ℤ x → pos 0 ≤ℤ y → x <ℤ pos (2 ^ k) → y <ℤ pos (2 ^ k) → (pos 0 ≤ℤ op x y) × (op x y <ℤ pos (2 ^ k))

and_keeps : KeepsBits (int_bit_and w128)
and_keeps = record {
  signed = and-fits;
  unsigned = λ x y k small p q a b.
      let most = powers_rise k 127 small in
      let r = and-below_first x y p (omega (arith, ints)) in
      (r.0, omega (arith, ints, r.1));
}

or_keeps : KeepsBits (int_bit_or w128)
or_keeps = record {
  signed = or-fits;
  unsigned = λ x y k small p q a b. let r = or-within x y k small p q a b in (omega (arith, ints, r.0), r.2);
}

xor_keeps : KeepsBits (int_bit_xor w128)
xor_keeps = record { signed = xor-fits; unsigned = xor-within }

signed_bits : (op : ℤ → ℤ → ℤ) → KeepsBits op → (k : ℕ) (x y : ℤ) → k ≤ 63 → FitsBits k x → FitsBits k y → FitsBits k (op x y)
signed_bits op keeps k x y small h j = keeps.signed (128 - k) k x y (omega arith) (omega arith) h j

fits_from : (k : ℕ) (z : ℤ) → negsuc (2 ^ k - 1) ≤ℤ z → z ≤ℤ pos (2 ^ k - 1) → FitsBits k z
fits_from k z low high = let some = pow_pos k in record { low = omega (arith, ints); high = omega (arith, ints) }

of_fits : (k : ℕ) (z : ℤ) → FitsBits k z → (negsuc (2 ^ k - 1) ≤ℤ z) × (z ≤ℤ pos (2 ^ k - 1))
of_fits k z h = let some = pow_pos k in (omega (arith, ints, h.low), omega (arith, ints, h.high))

-- a signed type has this many bits beside its sign
signed_ends : (num : Num) → is_signed num ≡ true → (k : ℕ) × (k ≤ 63) × (num_lo num ≡ negsuc (2 ^ k - 1)) × (num_hi num ≡ pos (2 ^ k - 1))
signed_ends I8 e = (7, omega arith, refl, refl)
signed_ends I16 e = (15, omega arith, refl, refl)
signed_ends I32 e = (31, omega arith, refl, refl)
signed_ends I64 e = (63, omega arith, refl, refl)
signed_ends U8 e = cc
signed_ends U16 e = cc
signed_ends U32 e = cc
signed_ends U64 e = cc

bits_of_type : (op : ℤ → ℤ → ℤ) → KeepsBits op → (num : Num) (x y : ℤ) → IsOf num x → IsOf num y → IsOf num (op x y)
bits_of_type op keeps num x y h j =
    elim (is_signed num) as (λ s. is_signed num ≡ s → IsOf num (op x y)) [
      | true ↦ λ e.
          let ends = signed_ends num e in
          let first = fits_from ends.0 x (rw (← ends.2) h.low) (rw (← ends.3) h.high) in
          let second = fits_from ends.0 y (rw (← ends.2) j.low) (rw (← ends.3) j.high) in
          let r = of_fits ends.0 (op x y) (signed_bits op keeps ends.0 x y ends.1 first second) in
          record { low = rw ends.2 r.0; high = rw ends.3 r.1 }
      | false ↦ λ e.
          let low = unsigned_low num e in
          let high = unsigned_high num e in
          let some = pow_pos (bits num) in
          let few = (num_facts num).width.1 in
          let r = keeps.unsigned x y (bits num) (omega (arith, few)) (rw low at h.low) (rw low at j.low) (omega (arith, ints, rw high at h.high)) (omega (arith, ints, rw high at j.high)) in
          record { low = rw low r.0; high = rw high (omega (arith, ints, r.1)) }
    ] refl

truth_of : (b : Bool) → IsOf I32 (truth b)
truth_of true = record { low = omega (arith, ints); high = omega (arith, ints) }
truth_of false = record { low = omega (arith, ints); high = omega (arith, ints) }

complement_top : (num : Num) → num_lo num +ℤ num_hi num ≡ cond (is_signed num) (negsuc 0) (num_hi num)
complement_top I8 = refl
complement_top U8 = refl
complement_top I16 = refl
complement_top U16 = refl
complement_top I32 = refl
complement_top U32 = refl
complement_top I64 = refl
complement_top U64 = refl

complemented_of : (num : Num) (x : ℤ) → IsOf num x → IsOf num (complemented num x)
complemented_of num x h = rw (← complement_top num) (record { low = omega (arith, ints, h.high); high = omega (arith, ints, h.low) })

both_of : (op : Operator) (num : Num) (x y : ℤ) → IsOf num (as_num num x) → IsOf num (as_num num y) → GivesOf (result_type op num) (operate op num x y)
unfolding operate
both_of o.Plus num x y h k = in_type_of Overflow num _
both_of o.Minus num x y h k = in_type_of Overflow num _
both_of o.Times num x y h k = in_type_of Overflow num _
both_of o.Divide num x y h k = divided_of num _ _
both_of o.Remainder num x y h k = remaindered_of num _ _ h
both_of o.ShiftLeft num x y h k = shifted_left_of num _ y
both_of o.ShiftRight num x y h k = shifted_right_of num _ y h
both_of o.BitAnd num x y h k = bits_of_type (int_bit_and w128) and_keeps num _ _ h k
both_of o.BitXor num x y h k = bits_of_type (int_bit_xor w128) xor_keeps num _ _ h k
both_of o.BitOr num x y h k = bits_of_type (int_bit_or w128) or_keeps num _ _ h k
both_of o.Equal num x y h k = truth_of _
both_of o.NotEqual num x y h k = truth_of _
both_of o.Less num x y h k = truth_of _
both_of o.LessEqual num x y h k = truth_of _
both_of o.Greater num x y h k = truth_of _
both_of o.GreaterEqual num x y h k = truth_of _

shift_left_of : (num : Num) (x y : ℤ) → GivesOf num (operate o.ShiftLeft num x y)
unfolding operate
shift_left_of num x y = shifted_left_of num _ y

shift_right_of : (num : Num) (x y : ℤ) → IsOf num (as_num num x) → GivesOf num (operate o.ShiftRight num x y)
unfolding operate
shift_right_of num x y h = shifted_right_of num _ y h

pub operate_of : (op : Operator) (num : Num) (x y : ℤ) → IsOperand num x → IsRight op num y → IfOk (operate op num x y) (λ z. IsOf (result_type op num) z)
operate_of o.ShiftLeft num x y h k = shift_left_of num x y
operate_of o.ShiftRight num x y h k = shift_right_of num x y h.converts
operate_of op num x y h k = both_of op num x y h.converts k.converts

pub prefixed_of : (op : Prefix) (num : Num) (x : ℤ) → IsOperand num x → IfOk (prefixed op num x) (λ z. IsOf (prefix_type op num) z)
unfolding prefixed
prefixed_of p.Minus num x h = in_type_of Overflow num _
prefixed_of p.Plus num x h = h.converts
prefixed_of p.Complement num x h = complemented_of num _ h.converts
prefixed_of p.Not num x h = truth_of _
