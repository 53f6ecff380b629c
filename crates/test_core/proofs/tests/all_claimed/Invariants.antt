use Rattle.std.proofs.Common.{◌≡◌, length}
use Rattle.sa_core.specs.Bits.{bits}
use Rattle.sa_core.specs.Gathered.{IsCoreOf}
use Rattle.test_core.proofs.tests.all_claimed.Given as goal

abbrev pub invariant-loop : goal.invariant-loop
invariant-loop l = record { count : length l.core.branches ≡ l.branches; same_work : IsCoreOf bits l.core }
