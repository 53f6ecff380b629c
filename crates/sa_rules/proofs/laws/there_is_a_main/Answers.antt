use Rattle.sa_rules.proofs.Counts.{main_rule}
use Rattle.sa_rules.proofs.laws.there_is_a_main.Goals as goal

pub returns : goal.returns
returns c = main_rule
