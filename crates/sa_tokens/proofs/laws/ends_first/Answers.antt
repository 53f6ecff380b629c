use Rattle.sa_tokens.proofs.EndLaws.{each_until_is_first, each_comment_has_its_end}
use Rattle.sa_tokens.proofs.laws.ends_first.Goals as goal

pub returns : goal.returns
returns c = record { until = each_until_is_first; comment = each_comment_has_its_end }
