-- Shifts to the right, which round down: order by the number and by the count, and the corners of two rows.
use Rattle.std.proofs.Common.{ℕ, ◌^◌, ◌≤◌, ℤ, pos, negsuc, neg_ℤ, ◌≤ℤ◌, arith}
use Rattle.std.proofs.Math.Nat.{div-le_self, pow-le-pow_right}
use Rattle.std.proofs.lemmas.Int.{ints, clamps}
use Rattle.std.proofs.lemmas.Nat.{pow_pos}
use Rattle.std.specs.Int.{int_shr}
use Rattle.sa_numbers.specs.Corners.{least_of_four, greatest_of_four}
use Rattle.sa_numbers.proofs.Corners.{Between, between_corners}
use Rattle.sa_numbers.proofs.Quotients.{div-le-div_left, div-le-div_right}

pub powers_rise : (j k : ℕ) → j ≤ k → 2 ^ j ≤ 2 ^ k
powers_rise j k h = pow-le-pow_right (omega arith) h

pub shift-monotone : (x y : ℤ) (k : ℕ) → x ≤ℤ y → int_shr x k ≤ℤ int_shr y k
shift-monotone (pos x) (pos y) k h = let le = div-le-div_left x y (2 ^ k) (pow_pos k) (omega (arith, ints)) in omega (arith, ints)
shift-monotone (pos x) (negsuc y) k h = absurd (omega (arith, ints))
shift-monotone (negsuc x) (pos y) k h = omega (arith, ints)
shift-monotone (negsuc x) (negsuc y) k h = let le = div-le-div_left y x (2 ^ k) (pow_pos k) (omega (arith, ints)) in omega (arith, ints)

between_numbers : (a b x : ℤ) (k : ℕ) → a ≤ℤ x → x ≤ℤ b → Between (int_shr a k) (int_shr b k) (int_shr x k)
between_numbers a b x k p q =
    let low = shift-monotone a x k p in
    let high = shift-monotone x b k q in
    record { low = omega (arith, ints, clamps); high = omega (arith, ints, clamps) }

between_counts : (x : ℤ) (c k d : ℕ) → c ≤ k → k ≤ d → Between (int_shr x c) (int_shr x d) (int_shr x k)
between_counts (pos x) c k d p q =
    let most = div-le-div_right x (2 ^ c) (2 ^ k) (pow_pos c) (powers_rise c k p) in
    let least = div-le-div_right x (2 ^ k) (2 ^ d) (pow_pos k) (powers_rise k d q) in
    record { low = omega (arith, ints, clamps); high = omega (arith, ints, clamps) }
between_counts (negsuc x) c k d p q =
    let most = div-le-div_right x (2 ^ c) (2 ^ k) (pow_pos c) (powers_rise c k p) in
    let least = div-le-div_right x (2 ^ k) (2 ^ d) (pow_pos k) (powers_rise k d q) in
    record { low = omega (arith, ints, clamps); high = omega (arith, ints, clamps) }

-- a number from a to b, by a count from c to d
pub shift-corners : (a b x : ℤ) (c d k : ℕ) → a ≤ℤ x → x ≤ℤ b → c ≤ k → k ≤ d →
    (least_of_four (int_shr a c) (int_shr a d) (int_shr b c) (int_shr b d) ≤ℤ int_shr x k) × (int_shr x k ≤ℤ greatest_of_four (int_shr a c) (int_shr a d) (int_shr b c) (int_shr b d))
shift-corners a b x c d k ax xb ck kd =
    between_corners (int_shr x k) (int_shr a k) (int_shr b k) _ _ _ _ (between_numbers a b x k ax xb) (between_counts a c k d ck kd) (between_counts b c k d ck kd)

-- a number shifted to the right is no greater in size
pub shift-size : (x : ℤ) (k m : ℕ) → neg_ℤ (pos m) ≤ℤ x → x ≤ℤ pos m → (neg_ℤ (pos m) ≤ℤ int_shr x k) × (int_shr x k ≤ℤ pos m)
shift-size (pos x) k m h l = let le = div-le_self x (2 ^ k) in (omega (arith, ints), omega (arith, ints))
shift-size (negsuc x) k m h l = let le = div-le_self x (2 ^ k) in (omega (arith, ints), omega (arith, ints))
