use Rattle.std.proofs.Common.{◌≡◌, ℕ, ◌-◌, length, drop}
use Rattle.sa_scopes.specs.Structures.{extent, kept}
use Rattle.sa_scopes.proofs.structs.extent.Given as goal

abbrev pub invariant-loop-taken : goal.invariant-loop-taken
invariant-loop-taken l = (exact : ℕ) → l.fn.inner ≡ kept exact → l.size ≡ kept (extent l.starred (drop (length l.dims - l.taken) l.dims) exact)
