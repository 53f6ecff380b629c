use Rattle.std.proofs.Common.{arith}
use Rattle.sa_calls.proofs.RoomLemmas.{args-more, args-end}
use Rattle.sa_calls.proofs.rooms.all_kept.Goals as goal

pub loop-arg-preserved : goal.loop-arg-preserved
loop-arg-preserved c =
    let e = c.saturating_add-sum.ensures in (
      omega (arith, e),
      args-more c.loop-arg.sum c.saturating_add-sum.result c.kept_indices.result c.args.args.now c.loop-arg.arg-index c.arg-item.result c.loop-arg-test.true c.arg-item.is e c.kept_indices.ensures c.loop-arg.invariant.1,
    )

pub returns : goal.returns
returns c = args-end c.loop-arg.sum c.args.args.now c.loop-arg.arg-index c.loop-arg.invariant.0 c.loop-arg-test.false c.loop-arg.invariant.1
