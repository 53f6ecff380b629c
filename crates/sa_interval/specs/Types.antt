-- The ranges of C's whole-number types in two's complement (ISO C 6.2.6.2).
use Rattle.std.specs.Prelude.{ℕ, ◌^◌, ◌-◌, ◌==◌, pos, neg_ℤ, ◌≡◌, ◌⊎◌, Bool, ◌||◌, IsTrue}
use Rattle.sa_interval.specs.Span.{Span}

-- a type has this many bits
abbrev pub is_width : ℕ → Bool
is_width bits = (bits == 8) || (bits == 16) || (bits == 32) || (bits == 64)

abbrev pub signed_range : ℕ → Span
signed_range bits = record { lo = neg_ℤ (pos (2 ^ (bits - 1))); hi = pos (2 ^ (bits - 1) - 1) }

abbrev pub unsigned_range : ℕ → Span
unsigned_range bits = record { lo = pos 0; hi = pos (2 ^ bits - 1) }

-- the numbers of a type
abbrev pub IsTypeRange : Span → Type 0
IsTypeRange full = (bits : ℕ) × IsTrue (is_width bits) × ((full ≡ signed_range bits) ⊎ (full ≡ unsigned_range bits))
