use Rattle.sa_lower.proofs.Lists.{every-step, every-end}
use Rattle.sa_lower.proofs.named.push_every.Goals as goal

pub loop-turn-preserved : goal.loop-turn-preserved
loop-turn-preserved c =
    every-step c.args.n c.args.stride c.loop-turn.next c.in_ok-cell.cell c.loop-turn.cells.items _ _ c.loop-turn._turn c.loop-turn-test.true
    c.in_ok-cell.ensures c.in_ok-push.ensures.items c.loop-turn.invariant

pub returns : goal.returns
returns c = every-end c.args.n c.args.stride c.loop-turn.next c.loop-turn.cells.items _ c.loop-turn._turn c.loop-turn-test.false c.loop-turn.invariant
