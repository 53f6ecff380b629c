use Rattle.std.proofs.Common.{◌≡◌, drop}
use Rattle.sa_unbuilt.specs.Unbuilt.{first_in, in_init}
use Rattle.sa_unbuilt.proofs.forms.+initialisers.Given as goal

abbrev pub invariant-check_inits-loop-init : goal.invariant-check_inits-loop-init
invariant-check_inits-loop-init l = first_in in_init l.inits ≡ first_in in_init (drop l.init-index l.inits)
