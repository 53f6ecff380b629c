use Rattle.std.proofs.Common.{refl}
use Rattle.sa_rules.specs.Rules.{oversized}
use Rattle.sa_rules.proofs.Counts.{size_rule}
use Rattle.sa_rules.proofs.Exact.{exact}
use Rattle.sa_rules.proofs.laws.dimensions_are_in_range.Goals as goal

pub returns : goal.returns
returns c = record { listed = size_rule; exact = exact oversized 19 refl size_rule }
