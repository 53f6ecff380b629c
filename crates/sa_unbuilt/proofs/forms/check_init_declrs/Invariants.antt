use Rattle.std.proofs.Common.{◌≡◌, drop}
use Rattle.sa_unbuilt.specs.Unbuilt.{first_in, in_init_declr}
use Rattle.sa_unbuilt.proofs.forms.check_init_declrs.Given as goal

abbrev pub invariant-loop-declr : goal.invariant-loop-declr
invariant-loop-declr l = first_in in_init_declr l.declrs ≡ first_in in_init_declr (drop l.declr-index l.declrs)
