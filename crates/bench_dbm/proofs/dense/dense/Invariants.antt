use Rattle.std.proofs.Common.{◌≡◌, ◌^◌}
use Rattle.sa_dbm.specs.Tables.{IsWithin}
use Rattle.bench_dbm.proofs.dense.dense.Given as goal

abbrev pub invariant-loop-i : goal.invariant-loop-i
invariant-loop-i l = record { vars : l.m.vars ≡ 8; within : IsWithin (2 ^ 100) l.m }

abbrev pub invariant-loop-j : goal.invariant-loop-j
invariant-loop-j l = record { vars : l.m.vars ≡ 8; within : IsWithin (2 ^ 100) l.m }
