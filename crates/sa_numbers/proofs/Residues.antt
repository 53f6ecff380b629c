-- Residues by a power of two: what is left when numbers wrap.
use Rattle.std.proofs.Common.{◌≡◌, ℕ, suc, ◌+◌, ◌-◌, ◌*◌, ◌/◌, ◌%◌, ◌^◌, ◌<◌, ◌≤◌, ℤ, pos, negsuc, neg_ℤ, ◌≤ℤ◌, ◌<ℤ◌, to_z, arith, ap, ◌∙◌}
use mir.Syntax.{w128}
use Rattle.std.proofs.lemmas.Int.{ints, to_z_pos}
use Rattle.std.proofs.lemmas.Nat.{pow-add, pow_pos, div-add-mod', mod_below, mod-mul-add, div_below}
use Rattle.std.specs.Int.{int_rem_euclid, int_bit_and}
use Rattle.std.specs.Int.Bits.{and_mask}
use Rattle.std.specs.Int.Signed.{shr_z}
use Rattle.sa_numbers.proofs.Quotients.{div-le-div_left}
use Rattle.sa_numbers.proofs.Shifts.{powers_rise}

-- a residue lies from 0 to below the divisor
pub residue-range : (z : ℤ) (m : ℕ) → 0 < m → (pos 0 ≤ℤ int_rem_euclid z (pos m)) × (int_rem_euclid z (pos m) <ℤ pos m)
residue-range (pos n) m h = let lt = mod_below n m h in (omega (arith, ints), omega (arith, ints))
residue-range (negsuc n) m h = (omega (arith, ints), omega (arith, ints))

-- with one quotient, residues keep the order of their numbers
same_quotient : (a c b m : ℕ) → 0 < m → a / m ≡ b / m → a ≤ c → c ≤ b → (a % m ≤ c % m) × (c % m ≤ b % m)
same_quotient a c b m some e p q =
    let first : a / m ≤ c / m = div-le-div_left a c m some p in
    let second : c / m ≤ b / m = div-le-div_left c b m some q in
    let same : c / m ≡ b / m = omega arith in
    let at_a : b / m * m + a % m ≡ a = rw (← e) (div-add-mod' a m) in
    let at_c : b / m * m + c % m ≡ c = rw (← same) (div-add-mod' c m) in
    let at_b : b / m * m + b % m ≡ b = div-add-mod' b m in
    (omega arith, omega arith)

pub residues-ordered : (a c b : ℤ) (m : ℕ) → 0 < m → shr_z a m ≡ shr_z b m → a ≤ℤ c → c ≤ℤ b →
    (int_rem_euclid a (pos m) ≤ℤ int_rem_euclid c (pos m)) × (int_rem_euclid c (pos m) ≤ℤ int_rem_euclid b (pos m))
residues-ordered (pos a) (pos c) (pos b) m some e p q =
    let order = same_quotient a c b m some (omega (arith, ints)) (omega (arith, ints)) (omega (arith, ints)) in
    (omega (arith, ints, order.0), omega (arith, ints, order.1))
residues-ordered (pos a) (pos c) (negsuc b) m some e p q = absurd (omega (arith, ints))
residues-ordered (pos a) (negsuc c) b m some e p q = absurd (omega (arith, ints))
residues-ordered (negsuc a) (pos c) (pos b) m some e p q = cc
residues-ordered (negsuc a) (pos c) (negsuc b) m some e p q = absurd (omega (arith, ints))
residues-ordered (negsuc a) (negsuc c) (pos b) m some e p q = cc
residues-ordered (negsuc a) (negsuc c) (negsuc b) m some e p q =
    let order = same_quotient b c a m some (omega (arith, ints)) (omega (arith, ints)) (omega (arith, ints)) in
    (omega (arith, ints, order.1, mod_below a m some, mod_below c m some), omega (arith, ints, order.0, mod_below b m some, mod_below c m some))

-- the residue of a number counted down from the end of a whole number of blocks
residue_from_top : (t p m n : ℕ) → t ≡ p * m → 0 < m → n < t → (t - suc n) % m ≡ m - 1 - n % m
residue_from_top t p m n e some h =
    let below : n / m < p = div_below n m p some (rw (← e) h) in
    let parts : n / m * m + n % m ≡ n = div-add-mod' n m in
    let rest : n % m < m = mod_below n m some in
    let blocks : ℕ = p - suc (n / m) in
    let count : p ≡ blocks + suc (n / m) = omega arith in
    let is : t - suc n ≡ blocks * m + (m - 1 - n % m) = let all : t ≡ (blocks + suc (n / m)) * m = e ∙ ap (λ k. k * m) count in omega arith in
    rw is (mod-mul-add blocks m (m - 1 - n % m) (omega arith))

-- a mask keeps the residue
pub mask_keeps_residue : (z : ℤ) (k : ℕ) → k ≤ 126 → neg_ℤ (pos (2 ^ 127)) ≤ℤ z → z <ℤ pos (2 ^ 127) → int_bit_and w128 z (pos (2 ^ k - 1)) ≡ int_rem_euclid z (pos (2 ^ k))
mask_keeps_residue (pos n) k h low high =
    let most = powers_rise k 126 h in
    let rest : n % 2 ^ k < 2 ^ k = mod_below n (2 ^ k) (pow_pos k) in
    ap (to_z w128) (and_mask n k) ∙ to_z_pos w128 (n % 2 ^ k) (omega arith)
mask_keeps_residue (negsuc n) k h low high =
    let most = powers_rise k 126 h in
    let some = pow_pos k in
    let all : 2 ^ 128 ≡ 2 ^ (128 - k) * 2 ^ k = ap (λ i. 2 ^ i) (let e : 128 ≡ 128 - k + k = omega arith in e) ∙ pow-add 2 (128 - k) k in
    let is : (2 ^ 128 - suc n) % 2 ^ k ≡ 2 ^ k - 1 - n % 2 ^ k = residue_from_top (2 ^ 128) (2 ^ (128 - k)) (2 ^ k) n all some (omega (arith, ints)) in
    ap (to_z w128) (and_mask (2 ^ 128 - suc n) k ∙ is) ∙ to_z_pos w128 (2 ^ k - 1 - n % 2 ^ k) (omega arith)
