use Rattle.std.proofs.Common.{◌≡◌, take, false}
use Rattle.std.specs.List.{fold}
use Rattle.sa_scopes.specs.Types.{or_volatile}
use Rattle.sa_scopes.proofs.types.has_volatile.Given as goal

abbrev pub invariant-loop-qualifier : goal.invariant-loop-qualifier
invariant-loop-qualifier l = l.found ≡ fold or_volatile false (take l.qualifier-index l.qualifiers)
