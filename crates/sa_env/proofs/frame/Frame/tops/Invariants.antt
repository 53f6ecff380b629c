use Rattle.std.proofs.Common.{◌≡◌, take}
use Rattle.sa_env.proofs.frame.Frame.tops.Given as goal

abbrev pub invariant-loop-top : goal.invariant-loop-top
invariant-loop-top l = l.tops.items ≡ take l.top-index l.top-items
