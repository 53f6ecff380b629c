use Rattle.std.proofs.Common.{◌≡◌, ℕ, ◌+◌, ◌^◌, ◌<◌, List, map, drop, true}
use Rattle.sa_scopes.specs.Structures.{kept, sum_by, var_shape}
use Rattle.sa_scopes.proofs.structs.vars_size.Given as goal

abbrev pub invariant-loop-var : goal.invariant-loop-var
invariant-loop-var l = record {
  fits : l.total < 2 ^ 64;
  summed : (exact : List ℕ) → l.sizes ≡ map kept exact → kept (l.total + sum_by true exact (map var_shape (drop l.var-index l.vars))) ≡ kept (sum_by true exact (map var_shape l.vars));
}
