use Rattle.std.proofs.Common.{◌≡◌, ◌+◌, ◌*◌, ◌++◌, ◌∷◌, [], arith}
use Rattle.sa_cells.specs.Reached.{spaced}
use Rattle.sa_cells.proofs.PlaceLemmas.{spaced-more, spaced-end}
use Rattle.sa_cells.proofs.place.push_spaced.Goals as goal

pub loop-k-preserved : goal.loop-k-preserved
loop-k-preserved c =
    spaced-more c.args.width c.args.count c.loop-k.k c.args.from c.loop-k.all.items c.push.new.self.items (c.args.all.now.items ++ spaced c.args.width c.args.count c.args.from)
    (omega arith) c.in_ok-push.ensures.items c.loop-k.invariant

pub returns : goal.returns
returns c =
    spaced-end c.args.width c.args.count c.loop-k.k c.args.from c.loop-k.all.items (c.args.all.now.items ++ spaced c.args.width c.args.count c.args.from)
    c.loop-k-test.false c.loop-k.invariant
