-- Bit operations on two's complement of 128 bits, by how many bits their operands need.
use Rattle.std.proofs.Common.{◌≡◌, ℕ, suc, ◌+◌, ◌-◌, ◌*◌, ◌/◌, ◌%◌, ◌^◌, ◌<◌, ◌≤◌, ℤ, pos, negsuc, neg_ℤ, ◌≤ℤ◌, ◌<ℤ◌, ◌⊎◌, inl, inr, to_z, of_z, arith, sym, ap, ◌∙◌}
use mir.Syntax.{w128}
use Rattle.std.proofs.Math.Nat.{div-eq_of_lt, mul-le-mul_right}
use Rattle.std.proofs.lemmas.Int.{ints, to_z_pos, to_z-of_z}
use Rattle.std.proofs.lemmas.Nat.{pow-add, pow_pos, div-mul-add, div-add-mod', mod_below, le_or_l, le_or_r}
use Rattle.sa_numbers.proofs.Shifts.{powers_rise}
use Rattle.std.specs.Int.{int_bit_and, int_bit_or, int_bit_xor}
use Rattle.std.specs.Int.Bits.{bit_and, bit_or, bit_xor, and_self, or_self, xor_self, and_zero_l, and_zero_r, or_zero_l, or_zero_r, xor_zero_l, xor_zero_r, and_shr, or_shr, xor_shr, and_le_l, and_le_r, and_lt, or_lt, xor_lt}

-- a number of at most k bits and a sign
pub record FitsBits (k : ℕ) (z : ℤ) : Type 0 where
  pub low : neg_ℤ (pos (2 ^ k)) ≤ℤ z
  pub high : z <ℤ pos (2 ^ k)

-- the bits above the lowest k, of which there are j: all 0, or all 1
abbrev IsSign : ℕ → ℕ → Type 0
IsSign j h = (h ≡ 0) ⊎ (h ≡ 2 ^ j - 1)

top_block : (p m t n : ℕ) → t ≡ suc p * m → n < m → (t - suc n) / m ≡ p
top_block p m t n e h =
    let is : t - suc n ≡ p * m + (m - suc n) = omega arith in
    rw is (div-mul-add p m (m - suc n) (omega arith))

whole : (j k : ℕ) → j + k ≡ 128 → 2 ^ 128 ≡ 2 ^ j * 2 ^ k
whole j k e = ap (λ n. 2 ^ n) (sym e) ∙ pow-add 2 j k

sign_of : (j k : ℕ) (z : ℤ) → j + k ≡ 128 → FitsBits k z → IsSign j (of_z w128 z / 2 ^ k)
sign_of j k (pos n) e f = let high = f.high in inl (div-eq_of_lt (omega (arith, ints)))
sign_of j k (negsuc n) e f =
    let low = f.low in
    let some = pow_pos j in
    let all = whole j k e in
    let ones : suc (2 ^ j - 1) ≡ 2 ^ j = omega arith in
    inr (top_block (2 ^ j - 1) (2 ^ k) (2 ^ 128) n (rw ones all) (omega (arith, ints)))

low_part : (m r : ℕ) → m + m ≤ 2 ^ 128 → r < m → (neg_ℤ (pos m) ≤ℤ to_z w128 r) × (to_z w128 r <ℤ pos m)
low_part m r half h =
    let is : to_z w128 r ≡ pos r = to_z_pos w128 r (omega arith) in
    rw is (omega (arith, ints), omega (arith, ints))

negative_is : (r n : ℕ) → r + suc n ≡ 2 ^ 128 → n < 2 ^ 127 → to_z w128 r ≡ negsuc n
negative_is r n e h =
    let is : r ≡ 2 ^ 128 - suc n = omega arith in
    rw is (to_z-of_z w128 (negsuc n) (record { sfits = h }))

high_part : (m r : ℕ) → m + m ≤ 2 ^ 128 → r < 2 ^ 128 → 2 ^ 128 ≤ r + m → (neg_ℤ (pos m) ≤ℤ to_z w128 r) × (to_z w128 r <ℤ pos m)
high_part m r half fits h =
    let is : to_z w128 r ≡ negsuc (2 ^ 128 - suc r) = negative_is r (2 ^ 128 - suc r) (omega arith) (omega arith) in
    rw is (omega (arith, ints), omega (arith, ints))

bits_from : (j k r : ℕ) → j + k ≡ 128 → 0 < j → r < 2 ^ 128 → IsSign j (r / 2 ^ k) → FitsBits k (to_z w128 r)
bits_from j k r e some fits sign =
    let split : r / 2 ^ k * 2 ^ k + r % 2 ^ k ≡ r = div-add-mod' r (2 ^ k) in
    let rest : r % 2 ^ k < 2 ^ k = mod_below r (2 ^ k) (pow_pos k) in
    let all : 2 ^ 128 ≡ 2 ^ j * 2 ^ k = whole j k e in
    let two : 2 ≤ 2 ^ j = powers_rise 1 j some in
    let twice : 2 ^ k + 2 ^ k ≤ 2 ^ 128 = rw all (omega (arith, mul-le-mul_right (2 ^ k) two)) in
    elim sign [
      | inl none ↦
          let parts = low_part (2 ^ k) r twice (omega (arith, rw none at split)) in
          record { low = parts.0; high = parts.1 }
      | inr ones ↦
          let up : 2 ^ j ≡ suc (2 ^ j - 1) = omega (arith, two) in
          let top : 2 ^ 128 ≡ suc (2 ^ j - 1) * 2 ^ k = all ∙ ap (λ n. n * 2 ^ k) up in
          let parts = high_part (2 ^ k) r twice fits (omega (arith, rw ones at split, top)) in
          record { low = parts.0; high = parts.1 }
    ]

and_signs : (j a b : ℕ) → IsSign j a → IsSign j b → IsSign j (bit_and a b)
and_signs j a b (inl e) t = inl (rw e (and_zero_l b))
and_signs j a b (inr e) (inl f) = inl (rw f (and_zero_r a))
and_signs j a b (inr e) (inr f) = inr (rw (e, f) (and_self (2 ^ j - 1)))

or_signs : (j a b : ℕ) → IsSign j a → IsSign j b → IsSign j (bit_or a b)
or_signs j a b (inl e) t = rw (e, or_zero_l b) t
or_signs j a b (inr e) (inl f) = inr (rw (f, or_zero_r a) e)
or_signs j a b (inr e) (inr f) = inr (rw (e, f) (or_self (2 ^ j - 1)))

xor_signs : (j a b : ℕ) → IsSign j a → IsSign j b → IsSign j (bit_xor a b)
xor_signs j a b (inl e) t = rw (e, xor_zero_l b) t
xor_signs j a b (inr e) (inl f) = inr (rw (f, xor_zero_r a) e)
xor_signs j a b (inr e) (inr f) = inl (rw (e, f) (xor_self (2 ^ j - 1)))

-- the operands' bits fit 128 bits
of_z_fits : (z : ℤ) (k : ℕ) → k ≤ 127 → FitsBits k z → of_z w128 z < 2 ^ 128
of_z_fits (pos n) k h f = let high = f.high in let most = powers_rise k 127 h in omega (arith, ints)
of_z_fits (negsuc n) k h f = omega arith

-- operands of k bits and a sign have a result of as many
pub and-fits : (j k : ℕ) (x y : ℤ) → j + k ≡ 128 → 0 < j → FitsBits k x → FitsBits k y → FitsBits k (int_bit_and w128 x y)
and-fits j k x y e some f g =
    let a = of_z w128 x in
    let b = of_z w128 y in
    bits_from j k (bit_and a b) e some (and_lt 128 a b (of_z_fits x k (omega arith) f) (of_z_fits y k (omega arith) g)) (rw (and_shr a b k) (and_signs j _ _ (sign_of j k x e f) (sign_of j k y e g)))

pub or-fits : (j k : ℕ) (x y : ℤ) → j + k ≡ 128 → 0 < j → FitsBits k x → FitsBits k y → FitsBits k (int_bit_or w128 x y)
or-fits j k x y e some f g =
    let a = of_z w128 x in
    let b = of_z w128 y in
    bits_from j k (bit_or a b) e some (or_lt 128 a b (of_z_fits x k (omega arith) f) (of_z_fits y k (omega arith) g)) (rw (or_shr a b k) (or_signs j _ _ (sign_of j k x e f) (sign_of j k y e g)))

pub xor-fits : (j k : ℕ) (x y : ℤ) → j + k ≡ 128 → 0 < j → FitsBits k x → FitsBits k y → FitsBits k (int_bit_xor w128 x y)
xor-fits j k x y e some f g =
    let a = of_z w128 x in
    let b = of_z w128 y in
    bits_from j k (bit_xor a b) e some (xor_lt 128 a b (of_z_fits x k (omega arith) f) (of_z_fits y k (omega arith) g)) (rw (xor_shr a b k) (xor_signs j _ _ (sign_of j k x e f) (sign_of j k y e g)))

-- `&` with a number that is not negative
pub and-below_first : (x y : ℤ) → pos 0 ≤ℤ x → x <ℤ pos (2 ^ 127) → (pos 0 ≤ℤ int_bit_and w128 x y) × (int_bit_and w128 x y ≤ℤ x)
and-below_first (pos n) y h k =
    let b = of_z w128 y in
    let le = and_le_l n b in
    let is : to_z w128 (bit_and n b) ≡ pos (bit_and n b) = to_z_pos w128 (bit_and n b) (omega (arith, ints)) in
    rw is (omega (arith, ints), omega (arith, ints))
and-below_first (negsuc n) y h k = absurd (omega (arith, ints))

pub and-below_second : (x y : ℤ) → pos 0 ≤ℤ y → y <ℤ pos (2 ^ 127) → (pos 0 ≤ℤ int_bit_and w128 x y) × (int_bit_and w128 x y ≤ℤ y)
and-below_second x (pos n) h k =
    let a = of_z w128 x in
    let le = and_le_r a n in
    let is : to_z w128 (bit_and a n) ≡ pos (bit_and a n) = to_z_pos w128 (bit_and a n) (omega (arith, ints)) in
    rw is (omega (arith, ints), omega (arith, ints))
and-below_second x (negsuc n) h k = absurd (omega (arith, ints))

-- `|` and `^` of two numbers of at most k bits that are not negative
pub or-within : (x y : ℤ) (k : ℕ) → k ≤ 127 → pos 0 ≤ℤ x → pos 0 ≤ℤ y → x <ℤ pos (2 ^ k) → y <ℤ pos (2 ^ k) → (x ≤ℤ int_bit_or w128 x y) × (y ≤ℤ int_bit_or w128 x y) × (int_bit_or w128 x y <ℤ pos (2 ^ k))
or-within (pos m) (pos n) k h p q a b =
    let lt = or_lt k m n (omega (arith, ints)) (omega (arith, ints)) in
    let first = le_or_l m n in
    let second = le_or_r m n in
    let most = powers_rise k 127 h in
    let is : to_z w128 (bit_or m n) ≡ pos (bit_or m n) = to_z_pos w128 (bit_or m n) (omega arith) in
    rw is (omega (arith, ints), omega (arith, ints), omega (arith, ints))
or-within (pos m) (negsuc n) k h p q a b = absurd (omega (arith, ints))
or-within (negsuc m) y k h p q a b = absurd (omega (arith, ints))

pub xor-within : (x y : ℤ) (k : ℕ) → k ≤ 127 → pos 0 ≤ℤ x → pos 0 ≤ℤ y → x <ℤ pos (2 ^ k) → y <ℤ pos (2 ^ k) → (pos 0 ≤ℤ int_bit_xor w128 x y) × (int_bit_xor w128 x y <ℤ pos (2 ^ k))
xor-within (pos m) (pos n) k h p q a b =
    let lt = xor_lt k m n (omega (arith, ints)) (omega (arith, ints)) in
    let most = powers_rise k 127 h in
    let is : to_z w128 (bit_xor m n) ≡ pos (bit_xor m n) = to_z_pos w128 (bit_xor m n) (omega arith) in
    rw is (omega (arith, ints), omega (arith, ints))
xor-within (pos m) (negsuc n) k h p q a b = absurd (omega (arith, ints))
xor-within (negsuc m) y k h p q a b = absurd (omega (arith, ints))
