use Rattle.sa_calls.proofs.FirstLemmas.{all-seen}
use Rattle.sa_calls.proofs.recursion.first_in.Goals as goal

pub returns : goal.returns
returns c = all-seen c.args.graph.now c.loop-f.f c.loop-f.best c.loop-f-test.false c.loop-f.invariant
