use Rattle.std.proofs.Common.{◌≡◌, drop}
use Rattle.std.specs.Option.{option_copied}
use Rattle.std.specs.Prelude.{None}
use Rattle.sa_ir.specs.Cursors.{referred}
use Rattle.sa_ir.proofs.places.referred.Given as goal

abbrev pub invariant-loop-reference : goal.invariant-loop-reference
invariant-loop-reference l = referred (drop l.reference-index l.references) l.var (option_copied l.found) ≡ referred l.references l.var None
