use Rattle.std.proofs.Common.{inl, refl}
use Rattle.test_interval.proofs.interval.int_range.Goals as goal

pub returns : goal.returns
returns c = (32, refl, inl c.new.ensures)
