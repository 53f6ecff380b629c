use Rattle.std.proofs.Common.{◌∙◌, ◌+ℤ◌, Some, ap, ap₂, arith}
use Rattle.sa_dbm.proofs.TableLaws.{bar-half}
use Rattle.sa_octagon.specs.Packs.{reach, reach_between}
use Rattle.sa_octagon.proofs.Ends.{sum_stored}
use Rattle.sa_octagon.proofs.fill.reach_between.Goals as goal

pub reach-requires-2-clause-node : goal.reach-requires-2-clause-node
reach-requires-2-clause-node c = rw (c.other.ensures, bar-half) (omega arith)

pub returns-clause-value : goal.returns-clause-value
unfolding reach_between
returns-clause-value c =
    ap Some (sum_stored c.reach.result c.reach-2.result c.reach.ensures.size c.reach-2.ensures.size
    ∙ ap₂ (λ a b. a +ℤ b) c.reach.ensures.value (c.reach-2.ensures.value ∙ ap (reach c.args.spans.now) c.other.ensures))
