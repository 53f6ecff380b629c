-- Residues lie in their row.
use Rattle.std.proofs.Common.{◌≡◌, ℕ, ◌^◌, ◌-◌, ◌≤◌, ℤ, pos, ◌≤ℤ◌, ◌<ℤ◌, Bool, true, false, ◌&&◌, not, cond, arith, refl}
use Rattle.std.specs.Int.{int_shr, int_rem_euclid}
use Rattle.std.specs.Ordering.{int_eq}
use Rattle.std.proofs.lemmas.Int.{ints}
use Rattle.std.proofs.lemmas.Nat.{pow_pos}
use Rattle.sa_interval.specs.Span.{Span, Within, IsInterval, Holds, cut}
use Rattle.sa_interval.specs.Types.{unsigned_range}
use Rattle.sa_interval.specs.BitRows.{is_cut, in_one_block, Residues, wrap_of}
use Rattle.sa_numbers.proofs.Cut.{cut-inside}
use Rattle.sa_numbers.proofs.Residues.{residue-range, residues-ordered}
use Rattle.sa_numbers.proofs.Shifts.{powers_rise}

-- a residue is within the limits
small : (x : ℤ) (bits : ℕ) → bits ≤ 64 → (pos 0 ≤ℤ int_rem_euclid x (pos (2 ^ bits))) × (int_rem_euclid x (pos (2 ^ bits)) ≤ℤ pos (2 ^ bits - 1)) × (int_rem_euclid x (pos (2 ^ bits)) <ℤ pos (2 ^ 64))
small x bits h =
    let some = pow_pos bits in
    let rise = powers_rise bits 64 h in
    let range = residue-range x (2 ^ bits) some in
    (range.0, omega (arith, ints, range.1), omega (arith, ints, range.1))

same_quotient : (p : Bool) (x y : ℤ) → (p && int_eq x y) ≡ true → x ≡ y
same_quotient true x y e = grind (arith, ints)
same_quotient false x y e = cc

-- residues of one block are in order
pub block_ordered : (a : Span) (x : ℤ) (bits : ℕ) → in_one_block a bits ≡ true → a.lo ≤ℤ x → x ≤ℤ a.hi →
    (int_rem_euclid a.lo (pos (2 ^ bits)) ≤ℤ int_rem_euclid x (pos (2 ^ bits))) × (int_rem_euclid x (pos (2 ^ bits)) ≤ℤ int_rem_euclid a.hi (pos (2 ^ bits)))
block_ordered a x bits e p q = residues-ordered a.lo x a.hi (2 ^ bits) (pow_pos bits) (same_quotient (not (is_cut a)) (int_shr a.lo bits) (int_shr a.hi bits) e) p q

pub block_is_interval : (a : Span) (bits : ℕ) → bits ≤ 64 → a.lo ≤ℤ a.hi → in_one_block a bits ≡ true → IsInterval (record { lo = int_rem_euclid a.lo (pos (2 ^ bits)); hi = int_rem_euclid a.hi (pos (2 ^ bits)) })
block_is_interval a bits h order e =
    let order = block_ordered a a.hi bits e order (omega (arith, ints)) in
    let first = small a.lo bits h in
    let second = small a.hi bits h in
    record { ordered = order.0; low = omega (arith, ints, first.0); high = omega (arith, ints, second.2) }

pub residues_hold : (a : Span) (bits : ℕ) → bits ≤ 64 → Holds (Residues a bits) (wrap_of a bits)
residues_hold a bits h z (x, w, is) =
    let range = small x bits h in
    let keeps : cut z ≡ int_rem_euclid x (pos (2 ^ bits)) = rw is (cut-inside (int_rem_euclid x (pos (2 ^ bits))) (omega (arith, ints, range.0)) (omega (arith, ints, range.2))) in
    let block : Span = record { lo = int_rem_euclid a.lo (pos (2 ^ bits)); hi = int_rem_euclid a.hi (pos (2 ^ bits)) } in
    let held : Within (wrap_of a bits) (int_rem_euclid x (pos (2 ^ bits))) = elim (in_one_block a bits) as (λ b. in_one_block a bits ≡ b → Within (cond b block (unsigned_range bits)) (int_rem_euclid x (pos (2 ^ bits)))) [
      | true ↦ λ e. let order = block_ordered a x bits e w.above w.below in record { above = order.0; below = order.1 }
      | false ↦ λ _. record { above = range.0; below = range.1 }
    ] refl in
    rw keeps held
