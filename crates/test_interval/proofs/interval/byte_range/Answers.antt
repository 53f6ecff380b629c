use Rattle.std.proofs.Common.{inr, refl}
use Rattle.test_interval.proofs.interval.byte_range.Goals as goal

pub returns : goal.returns
returns c = (8, refl, inr c.new.ensures)
