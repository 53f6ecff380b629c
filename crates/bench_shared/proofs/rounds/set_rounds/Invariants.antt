use Rattle.std.proofs.Common.{◌≡◌}
use Rattle.sa_shared.specs.declared.nodes.Root.{Root}
use Rattle.sa_shared.specs.Forest.{Belongs}
use Rattle.bench_shared.proofs.rounds.set_rounds.Given as goal

abbrev pub invariant-loop-round : goal.invariant-loop-round
invariant-loop-round l = record {
  slots : l.layer.slots ≡ 65536;
  last : Belongs (λ _ _. Unit {0}) l.layer l.last;
  older : (r : Root) → Belongs (λ _ _. Unit {0}) l.fn.layer r → Belongs (λ _ _. Unit {0}) l.layer r;
}
