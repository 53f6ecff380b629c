use Rattle.std.proofs.Common.{◌≡◌, ℕ, ◌+◌, ◌^◌, ◌<◌, List, map, drop}
use Rattle.sa_scopes.specs.Structures.{kept, sum_by, field_shape}
use Rattle.sa_scopes.proofs.structs.fields_size.Given as goal

abbrev pub invariant-loop-field : goal.invariant-loop-field
invariant-loop-field l = record {
  fits : l.total < 2 ^ 64;
  summed : (exact : List ℕ) → l.sizes ≡ map kept exact → kept (l.total + sum_by l.starred exact (map field_shape (drop l.field-index l.fields))) ≡ kept (sum_by l.starred exact (map field_shape l.fields));
}
