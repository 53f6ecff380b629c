use Rattle.std.proofs.Common.{◌≡◌, take, false}
use Rattle.std.specs.List.{fold}
use Rattle.sa_scopes.specs.Types.{or_const}
use Rattle.sa_scopes.proofs.types.has_const.Given as goal

abbrev pub invariant-loop-qualifier : goal.invariant-loop-qualifier
invariant-loop-qualifier l = l.found ≡ fold or_const false (take l.qualifier-index l.qualifiers)
