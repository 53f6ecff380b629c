use Rattle.sa_lower.proofs.Counts.{lengths-are-counts}
use Rattle.sa_lower.proofs.laws.lengths_are_counts.Goals as goal

pub returns : goal.returns
returns c = lengths-are-counts
