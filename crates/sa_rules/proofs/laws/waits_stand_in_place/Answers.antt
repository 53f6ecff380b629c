use Rattle.std.proofs.Common.{refl}
use Rattle.sa_rules.specs.Rules.{astray}
use Rattle.sa_rules.proofs.Counts.{wait_rule}
use Rattle.sa_rules.proofs.Exact.{exact}
use Rattle.sa_rules.proofs.laws.waits_stand_in_place.Goals as goal

pub returns : goal.returns
returns c = record { listed = wait_rule; exact = exact astray 23 refl wait_rule }
