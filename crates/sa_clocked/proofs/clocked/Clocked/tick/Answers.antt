use Rattle.std.proofs.Common.{◌∙◌, ap}
use Rattle.sa_interval.specs.Rows.{sum_of, difference_of}
use Rattle.sa_clocked.proofs.TripleLaws.{tick_holds, holds_as}
use Rattle.sa_clocked.proofs.clocked.Clocked.tick.Goals as goal

pub returns-clause-holds : goal.returns-clause-holds
returns-clause-holds c = λ x t h.
    holds_as c.args.self.v _ _ c.sub.result c.add.result x _ (c.sub.ensures.row ∙ ap (difference_of c.args.self.minus) c.new-one.ensures) (c.add.ensures.row ∙ ap (sum_of c.args.self.plus) c.new-one.ensures)
    (tick_holds c.args.self x t c.requires h)
