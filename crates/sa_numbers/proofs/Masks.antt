-- The least mask is one, and a power of two by its bits.
use Rattle.std.proofs.Common.{◌≡◌, ℤ, pos, negsuc, ◌≤ℤ◌, unsigned_abs, FitsSigned, to_z, of_z, ℕ, suc, ◌+◌, ◌-◌, ◌*◌, ◌^◌, ◌<◌, ◌≤◌, inl, inr, arith, ap}
use Rattle.std.proofs.Math.Nat.{pow-suc}
use Rattle.std.proofs.lemmas.Bool.{cases_lt}
use Rattle.std.proofs.lemmas.Int.{ints, to_z-of_z}
use Rattle.std.proofs.lemmas.Nat.{leading_length, pow_pos}
use Rattle.std.specs.Int.{w128, leading_zeros}
use Rattle.sa_numbers.specs.Masks.{least_mask, IsLeastMask}
use Rattle.sa_numbers.proofs.Shifts.{powers_rise}

-- least_mask m is 2 ^ n - 1, with m below 2 ^ n
pub least_mask_bits : (m : ℕ) → m < 2 ^ 128 → (n : ℕ) × (least_mask m ≡ 2 ^ n - 1) × (m < 2 ^ n) × (2 ^ n ≤ 2 * m + 1)
unfolding least_mask
least_mask_bits m h =
    let top = leading_length 128 m h in
    let n = top.0 in
    let is : 128 - leading_zeros w128 m ≡ n = omega (arith, top.1) in
    (n, ap (λ k. 2 ^ k - 1) is, top.2, top.3)

pub least_mask_is : (m : ℕ) → m < 2 ^ 128 → IsLeastMask m (least_mask m)
least_mask_is m h =
    let bits = least_mask_bits m h in
    let n = bits.0 in
    let is = bits.1 in
    let above : m < 2 ^ n = bits.2 in
    let near : 2 ^ n ≤ 2 * m + 1 = bits.3 in
    record {
      form = (n, is);
      holds = rw is (omega arith);
      least = λ k within. elim (cases_lt k n) [
        | inl shorter ↦
            let double : 2 ^ suc k ≤ 2 ^ n = powers_rise (suc k) n (omega arith) in
            let some = pow_pos k in
            absurd (omega (arith, rw pow-suc at double))
        | inr enough ↦ let rise = powers_rise n k enough in rw is (omega arith)
      ];
    }

-- the bits of a number that is not negative, as `leading_zeros` reads them
pub bits_of : (m : ℤ) → FitsSigned w128 m → pos 0 ≤ℤ m → of_z w128 (to_z w128 (of_z w128 m)) ≡ unsigned_abs m
bits_of (pos n) fits h = ap (of_z w128) (to_z-of_z w128 (pos n) fits)
bits_of (negsuc n) fits h = absurd (omega (arith, ints))

-- a number below 2 ^ k has at most k digits, so its mask is below 2 ^ k too
pub digits_small : (m k : ℕ) → k ≤ 128 → m < 2 ^ k → 128 - leading_zeros w128 m ≤ k
digits_small m k within h =
    let rise = powers_rise k 128 within in
    let top = leading_length 128 m (omega arith) in
    let n = top.0 in
    let near : 2 ^ n ≤ 2 * m + 1 = top.3 in
    elim (cases_lt k n) [
      | inl long ↦
          let double : 2 ^ suc k ≤ 2 ^ n = powers_rise (suc k) n (omega arith) in
          absurd (omega (arith, rw pow-suc at double))
      | inr short ↦ omega (arith, top.1, short)
    ]

pub least_mask_small : (m k : ℕ) → k ≤ 128 → m < 2 ^ k → least_mask m < 2 ^ k
least_mask_small m k within h =
    let rise = powers_rise k 128 within in
    let some = pow_pos k in
    let least = (least_mask_is m (omega arith)).least k (omega arith) in
    omega arith
