use Rattle.std.proofs.Common.{◌≡◌}
use Rattle.sa_shared.specs.Forest.{Belongs}
use Rattle.bench_shared.proofs.rounds.join_rounds.Given as goal

abbrev pub invariant-loop-round : goal.invariant-loop-round
invariant-loop-round g l = record {
  slots : l.layer.slots ≡ 65536;
  first : Belongs (λ _ _. Unit {0}) l.layer l.a;
  second : Belongs (λ _ _. Unit {0}) l.layer l.b;
  last : Belongs (λ _ _. Unit {0}) l.layer l.last;
}
