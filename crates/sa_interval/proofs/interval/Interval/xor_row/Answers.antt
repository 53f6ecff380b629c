use Rattle.std.proofs.Common.{arith}
use mir.Syntax.{w128}
use Rattle.std.specs.Int.{int_bit_xor}
use Rattle.std.proofs.lemmas.Int.{ints}
use Rattle.sa_interval.proofs.BitOps.{xor_keeps, ends_bound}
use Rattle.sa_interval.proofs.TypeRanges.{part_small}
use Rattle.sa_interval.proofs.interval.Interval.xor_row.Goals as goal

pub single-requires-clause-low : goal.single-requires-clause-low
single-requires-clause-low c =
    (ends_bound (int_bit_xor w128) xor_keeps _ _ c.args.full c.requires.full (rw (← c.self.view_is) at c.requires.first) (rw (← c.o.view_is) at c.requires.second) c.self.invariant.ordered c.o.invariant.ordered).low

pub single-requires-clause-high : goal.single-requires-clause-high
single-requires-clause-high c =
    (ends_bound (int_bit_xor w128) xor_keeps _ _ c.args.full c.requires.full (rw (← c.self.view_is) at c.requires.first) (rw (← c.o.view_is) at c.requires.second) c.self.invariant.ordered c.o.invariant.ordered).high

pub mask_of_highs-requires-clause-first : goal.mask_of_highs-requires-clause-first
mask_of_highs-requires-clause-first c = let small = (part_small c.args.self c.args.full c.requires.full c.requires.first).1 in omega (arith, ints, small)

pub mask_of_highs-requires-clause-second : goal.mask_of_highs-requires-clause-second
mask_of_highs-requires-clause-second c = let small = (part_small c.args.o c.args.full c.requires.full c.requires.second).1 in omega (arith, ints, small)
