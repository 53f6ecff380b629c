use Rattle.std.proofs.Common.{◌≡◌, ◌∙◌, to_z, of_z, sym, arith}
use mir.Syntax.{w128}
use Rattle.std.proofs.lemmas.Int.{ints, to_z-of_z}
use Rattle.sa_interval.proofs.TypeRanges.{width-range}
use Rattle.sa_interval.proofs.Wraps.{block_is_interval}
use Rattle.sa_interval.proofs.interval.Interval.wrap_row.Goals as goal

pub invariant_of-result : goal.invariant_of-result
invariant_of-result c =
    let a : to_z w128 (of_z w128 c.self.inside.lo) ≡ c.self.inside.lo = omega (arith, ints) in
    let b : to_z w128 (of_z w128 c.self.inside.hi) ≡ c.self.inside.hi = omega (arith, ints) in
    let lo = to_z-of_z w128 c.residue.result (record { sfits = c.residue.type_inv }) ∙ rw a at c.residue.ensures in
    let hi = to_z-of_z w128 c.residue-then-in_one_block.result (record { sfits = c.residue-then-in_one_block.type_inv }) ∙ rw b at c.residue-then-in_one_block.ensures in
    let block = rw (← c.self.view_is) at (sym c.in_one_block.ensures ∙ c.if-in_one_block.true) in
    rw (lo, hi) (block_is_interval _ c.args.bits (width-range c.args.bits c.requires).1 c.self.invariant.ordered block)
