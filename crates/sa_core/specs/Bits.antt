-- A work for tests: the part of a branch is a number of 128 bits with the branch's bit alone, and merging is `|`.
use Rattle.std.specs.Prelude.{◌≡◌, ℕ, ◌<◌, ◌^◌, nat_lt, if◌then◌else◌, bit_or}
use Rattle.std.proofs.Common.{arith, lit<, inl, inr}
use Rattle.std.specs.Int.Bits.{or_self, or_zero_l}
use Rattle.std.proofs.lemmas.Nat.{or_comm, or_lt, pow_below}
use Rattle.std.proofs.lemmas.Nat.Bits.{bit_at_or, same_from_bits}
use Rattle.std.proofs.lemmas.Bool.{cases_Bool}
use Rattle.std.proofs.lemmas.Bool.Decides.{nat_tests}
use Rattle.sa_core.specs.Laws.{Parts, MergeLaws}

-- branches past the last bit have no bit
abbrev pub bit_of : ℕ → ℕ
bit_of k = if nat_lt k 128 then 2 ^ k else 0

abbrev pub FitsBits : ℕ → Type 0
FitsBits p = p < 2 ^ 128

or_group : (a b c : ℕ) → bit_or (bit_or a b) c ≡ bit_or a (bit_or b c)
or_group a b c = same_from_bits _ _ (λ i. grind (arith, bit_at_or))

bit_of_fits : (k : ℕ) → FitsBits (bit_of k)
bit_of_fits k = elim (cases_Bool (nat_lt k 128)) [
  | inl t ↦ let h : k < 128 = grind (arith, nat_tests) in rw t (pow_below k 128 h)
  | inr f ↦ rw f (lit< tt)
]

abbrev pub bits : Parts ℕ
bits = record { none_of = 0; part_of = bit_of; merge_of = bit_or }

pub bits_laws : MergeLaws FitsBits bits
bits_laws = record {
  none_fits = lit< tt;
  part_fits = bit_of_fits;
  merge_fits = or_lt 128;
  swap = λ p q fp fq. or_comm p q;
  group = λ p q r fp fq fr. or_group p q r;
  twice = λ p fp. or_self p;
  neutral = λ p fp. or_zero_l p;
}
