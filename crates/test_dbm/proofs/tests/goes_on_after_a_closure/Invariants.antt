use Rattle.std.proofs.Common.{◌≡◌}
use Rattle.sa_dbm.specs.Tables.{IsWithin}
use Rattle.test_dbm.proofs.tests.goes_on_after_a_closure.Given as goal

abbrev pub invariant-loop-k : goal.invariant-loop-k
invariant-loop-k g l = record { vars : l.m.vars ≡ 8; within : IsWithin 200 l.m }

abbrev pub invariant-loop-k-2 : goal.invariant-loop-k-2
invariant-loop-k-2 g l = record { vars : l.m.vars ≡ 8; within : IsWithin 200 l.m }
