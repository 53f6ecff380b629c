use Rattle.std.proofs.Common.{arith}
use Rattle.std.proofs.lemmas.Int.{ints, clamps}
use Rattle.sa_cells.proofs.env.widened_clock.Goals as goal

pub new-requires-clause-low : goal.new-requires-clause-low
new-requires-clause-low c =
    let i = c.requires.i_in.above in
    let j = c.requires.j_in.above in
    let p = c.lo.ensures.value in
    let q = c.lo-2.ensures.value in
    omega (arith, ints, clamps, i, j, p, q)
