use Rattle.std.proofs.Common.{◌≡◌, ◌^◌, ◌-◌, pos, neg_ℤ, ◌-ℤ◌, ◌≤ℤ◌, to_z, of_z, refl, arith}
use mir.Syntax.{w128}
use Rattle.std.proofs.lemmas.Int.{ints}
use Rattle.sa_interval.proofs.TypeRanges.{part_small}
use Rattle.sa_interval.proofs.Complements.{complements_hold}
use Rattle.sa_interval.proofs.interval.Interval.not.Goals as goal

operand_small : (c : goal.After-struct_told-2-1) → (neg_ℤ (pos (2 ^ 63)) ≤ℤ c.self.inside.lo) × (c.self.inside.hi ≤ℤ pos (2 ^ 64 - 1))
operand_small c = rw (← c.self.view_is) at (part_small c.args.self c.args.full c.requires.full c.requires.operand)

pub invariant_of-result : goal.invariant_of-result
invariant_of-result c =
    let small = operand_small c in
    record {
      ordered = omega (arith, ints, small.0, small.1);
      low = omega (arith, ints, small.0, small.1);
      high = omega (arith, ints, small.0, small.1);
    }

pub returns-clause-row : goal.returns-clause-row
returns-clause-row c =
    let small = operand_small c in
    let lo : to_z w128 (of_z w128 (to_z w128 (of_z w128 c.complement_top-top.result) -ℤ to_z w128 (of_z w128 c.self.inside.hi))) ≡ c.complement_top-top.result -ℤ c.self.inside.hi = omega (arith, ints, small.0, small.1) in
    let hi : to_z w128 (of_z w128 (to_z w128 (of_z w128 c.complement_top-top.result) -ℤ to_z w128 (of_z w128 c.self.inside.lo))) ≡ c.complement_top-top.result -ℤ c.self.inside.lo = omega (arith, ints, small.0, small.1) in
    rw (lo, hi, c.complement_top-top.ensures.value, ← c.self.view_is) refl

pub returns-clause-holds : goal.returns-clause-holds
returns-clause-holds c = rw (returns-clause-row c) (complements_hold c.args.self c.args.full c.complement_top-top.result c.requires.full c.requires.operand c.complement_top-top.ensures.value c.complement_top-top.ensures.low c.complement_top-top.ensures.high)
