use Rattle.sa_clocked.proofs.TripleLaws.{triple_holds, holds_as}
use Rattle.sa_clocked.proofs.clocked.Clocked.of.Goals as goal

pub returns-clause-holds : goal.returns-clause-holds
returns-clause-holds c = λ x t h k.
    holds_as c.args.v _ _ c.sub.result c.add.result x t c.sub.ensures.row c.add.ensures.row (triple_holds c.args.v c.args.clock x t c.requires.v c.requires.clock h k)
