use Rattle.std.proofs.Common.{◌≡◌, drop}
use Rattle.sa_ir.specs.Shown.{is_within}
use Rattle.sa_lower.proofs.shown.is_within.Given as goal

abbrev pub invariant-loop-span : goal.invariant-loop-span
invariant-loop-span l = is_within l.scope l.cell ≡ is_within (drop l.span-index l.scope) l.cell
