-- The limit of cells, by a count that stops at the greatest one.
use Rattle.std.proofs.Common.{◌≡◌, ℕ, ◌+◌, ◌-◌, ◌^◌, ◌≤◌, min, Bool, arith}
use Rattle.std.specs.Prelude.{nat_le}
use Rattle.std.proofs.lemmas.Bool.Decides.{nat_tests}
use Rattle.sa_scopes.specs.Structures.{kept}

pub fits : (cells more : ℕ) → nat_le (min (kept cells + more) (2 ^ 64 - 1)) 65536 ≡ nat_le (cells + more) 65536
fits cells more = grind (arith, nat_tests)
