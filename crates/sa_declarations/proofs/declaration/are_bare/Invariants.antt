use Rattle.std.proofs.Common.{◌≡◌, take, true}
use Rattle.std.specs.List.{fold}
use Rattle.sa_declarations.specs.Declarations.{and_bare}
use Rattle.sa_declarations.proofs.declaration.are_bare.Given as goal

abbrev pub invariant-loop-one : goal.invariant-loop-one
invariant-loop-one l = l.found ≡ fold and_bare true (take l.one-index l.all)
