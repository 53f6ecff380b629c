use Rattle.std.proofs.Common.{◌≡◌, ◌∙◌, ◌-◌, ◌^◌, pos, ◌-ℤ◌, to_z, of_z, ap, arith}
use mir.Syntax.{w128}
use Rattle.std.specs.Int.{int_bit_and}
use Rattle.std.proofs.lemmas.Int.{ints}
use Rattle.std.proofs.lemmas.Nat.{pow_pos}
use Rattle.sa_numbers.proofs.Residues.{mask_keeps_residue}
use Rattle.sa_numbers.proofs.Shifts.{powers_rise}
use Rattle.sa_interval.proofs.interval.bits.residue.Goals as goal

pub returns : goal.returns
returns c =
    let some = pow_pos c.args.bits in
    let rise = powers_rise c.args.bits 64 c.requires.bits in
    let mask : to_z w128 (of_z w128 c.power.result) -ℤ pos 1 ≡ pos (2 ^ c.args.bits - 1) = omega (arith, ints) in
    ap (int_bit_and w128 c.args.z) mask
    ∙ mask_keeps_residue c.args.z c.args.bits (omega (arith, c.requires.bits)) (omega (arith, ints, c.requires.z.low)) (omega (arith, ints, c.requires.z.high))
