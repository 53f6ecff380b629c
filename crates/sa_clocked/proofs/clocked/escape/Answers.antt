use Rattle.std.proofs.Common.{◌∙◌, ap₂, ℤ}
use Rattle.std.specs.Int.{w128}
use Rattle.std.proofs.lemmas.Int.{to_z-of_z}
use Rattle.sa_interval.specs.Span.{Span}
use Rattle.sa_clocked.proofs.clocked.escape.Goals as goal

from_to : ℤ → ℤ → Span
from_to lo hi = record { lo = lo; hi = hi }

pub returns : goal.returns
unfolding from_to
returns c =
    c.new.ensures
    ∙ ap₂ from_to (to_z-of_z w128 c.low_end-lo.result (record { sfits = c.low_end-lo.type_inv }) ∙ c.low_end-lo.ensures.row)
    (to_z-of_z w128 c.high_end-hi.result (record { sfits = c.high_end-hi.type_inv }) ∙ c.high_end-hi.ensures.row)
