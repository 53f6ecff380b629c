use Rattle.std.proofs.Common.{ℕ, ◌<◌}
use Rattle.sa_interval.specs.Span.{IsInterval}
use Rattle.sa_octagon.specs.Packs.{span_at}
use Rattle.sa_octagon.proofs.fill.read_all.Given as goal

abbrev pub invariant-loop-k : goal.invariant-loop-k
invariant-loop-k l = (j : ℕ) → j < l.k → IsInterval (span_at l.spans j)
