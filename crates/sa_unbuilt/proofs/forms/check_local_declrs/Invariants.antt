use Rattle.std.proofs.Common.{◌≡◌, drop}
use Rattle.sa_unbuilt.specs.Unbuilt.{first_in, in_local_declr}
use Rattle.sa_unbuilt.proofs.forms.check_local_declrs.Given as goal

abbrev pub invariant-loop-declr : goal.invariant-loop-declr
invariant-loop-declr l = first_in in_local_declr l.declrs ≡ first_in in_local_declr (drop l.declr-index l.declrs)
