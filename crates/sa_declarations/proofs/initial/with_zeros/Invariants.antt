use Rattle.std.proofs.Common.{◌≡◌, ◌++◌}
use Rattle.sa_declarations.specs.Initialisers.{zeros}
use Rattle.sa_declarations.proofs.initial.with_zeros.Given as goal

abbrev pub invariant-loop-i : goal.invariant-loop-i
invariant-loop-i l = l.written ≡ l.fn.values ++ zeros l._i
