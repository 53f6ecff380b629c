use Rattle.std.proofs.Common.{◌≡◌, ◌^◌, pos, to_z, of_z, arith}
use mir.Syntax.{w128}
use Rattle.std.proofs.lemmas.Int.{ints, to_z-of_z}
use Rattle.sa_numbers.proofs.Shifts.{powers_rise}
use Rattle.sa_typed.proofs.ArithmeticLaws.{shift_fits}
use Rattle.sa_typed.proofs.arithmetic.shifted.Goals as goal

number : (c : goal.After-power) → to_z w128 (of_z w128 c.args.x) ≡ c.args.x
number c = to_z-of_z w128 c.args.x c.ranges.x

factor : (c : goal.After-power) → to_z w128 (of_z w128 c.power.result) ≡ pos (2 ^ c.args.count)
factor c = let rise = powers_rise c.args.count 63 c.requires.count in omega (arith, ints)

pub overflow_mul-result : goal.overflow_mul-result
overflow_mul-result c = rw (number c, factor c) (shift_fits c.args.x c.args.count c.requires.low c.requires.high c.requires.count)

pub returns : goal.returns
returns c = rw (number c, factor c) (to_z-of_z w128 _ (shift_fits c.args.x c.args.count c.requires.low c.requires.high c.requires.count))
