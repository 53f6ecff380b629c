use Rattle.std.proofs.Common.{arith, append_assoc}
use Rattle.sa_gen.specs.Source.{case_line}
use Rattle.sa_gen.proofs.push_case.Goals as goal

pub returns : goal.returns
unfolding case_line
returns c = grind (arith, append_assoc)
