use Rattle.std.proofs.Common.{◌≡◌, ◌≢◌, ℕ, ◌^◌, ◌<◌, ◌/◌, None}
use Rattle.sa_dbm.specs.Tables.{nodes, entry, IsMatrix, IsWithin}
use Rattle.sa_octagon.proofs.fill.forget_all.Given as goal

abbrev pub invariant-loop-k : goal.invariant-loop-k
invariant-loop-k l = record {
  vars : l.matrix.vars ≡ l.vars;
  matrix : IsMatrix l.matrix;
  within : IsWithin (2 ^ 100) l.matrix;
  empty : (p q : ℕ) → p < nodes l.matrix → q < nodes l.matrix → p ≢ q → p / 2 < l.k → entry l.matrix p q ≡ None;
}
