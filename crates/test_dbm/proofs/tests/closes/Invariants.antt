use Rattle.std.proofs.Common.{◌≡◌}
use Rattle.test_dbm.proofs.tests.closes.Given as goal

abbrev pub invariant-loop-i : goal.invariant-loop-i
invariant-loop-i g l = record { vars : l.m.vars ≡ 2 }
