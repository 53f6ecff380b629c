use Rattle.std.proofs.Common.{arith}
use Rattle.std.specs.List.{flat_map}
use Rattle.sa_cells.specs.Reached.{spaced, all_runs}
use Rattle.sa_cells.proofs.PlaceLemmas.{flat-end}
use Rattle.sa_cells.proofs.place.cells_of.Goals as goal

pub returns : goal.returns
unfolding all_runs
returns c =
    flat-end (λ o. spaced 1 c.args.cells o) c.args.firsts.now c.loop-first.first-index c.loop-first.all.items (flat_map (λ o. spaced 1 c.args.cells o) c.args.firsts.now)
    (omega arith) c.loop-first.invariant
