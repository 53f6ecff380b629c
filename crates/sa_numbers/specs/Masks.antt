-- Numbers of the form 2 ^ n - 1, whose n lowest bits are 1 and all others 0.
use Rattle.std.specs.Prelude.{ℕ, ◌≡◌, ◌≤◌, ◌-◌, ◌^◌}
use Rattle.std.specs.Int.{w128, leading_zeros}

-- the least such number that is at least m, for m below 2 ^ 128
unfoldable pub least_mask : ℕ → ℕ
least_mask m = 2 ^ (128 - leading_zeros w128 m) - 1

-- the same by what it is for
pub record IsLeastMask (m r : ℕ) : Type 0 where
  pub form : (n : ℕ) × (r ≡ 2 ^ n - 1)
  pub holds : m ≤ r
  pub least : (n : ℕ) → m ≤ 2 ^ n - 1 → r ≤ 2 ^ n - 1
