use Rattle.sa_rules.proofs.SiteTexts.{stand_at_sites}
use Rattle.sa_rules.proofs.laws.operands_are_refused_at_their_sites.Goals as goal

pub returns : goal.returns
returns c = stand_at_sites
