use Rattle.sa_typed.specs.Frames.{kept_indices, all_kept}
use Rattle.sa_lower.proofs.KeptLaws.{sum-more, sum-end, sum-fits, args-step, args-none}
use Rattle.sa_lower.proofs.kept.all_kept.Goals as goal

pub loop-arg-preserved : goal.loop-arg-preserved
loop-arg-preserved c = (
  sum-more kept_indices all_kept args-step c.args.args.now c.loop-arg.arg-index c.arg-item.result c.arg-item.is c.loop-arg-test.true
      c.loop-arg.count c.kept_indices.result c.saturating_add-count.result _ c.kept_indices.ensures c.saturating_add-count.ensures c.loop-arg.invariant.0,
  sum-fits c.loop-arg.count _ _ c.saturating_add-count.ensures,
)

pub returns : goal.returns
returns c = sum-end all_kept args-none c.args.args.now c.loop-arg.arg-index c.loop-arg.count _ c.loop-arg-test.false c.loop-arg.invariant.1 c.loop-arg.invariant.0
