use Rattle.std.proofs.Common.{◌≡◌, drop}
use Rattle.sa_ir.specs.Lists.{links_after}
use Rattle.sa_ir.proofs.cells.links_after.Given as goal

abbrev pub invariant-loop-link : goal.invariant-loop-link
invariant-loop-link l = links_after l.num (drop l.link-index l.links) ≡ links_after l.initial.num l.links
