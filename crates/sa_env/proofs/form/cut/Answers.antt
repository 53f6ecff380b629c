use Rattle.std.proofs.Common.{◌≡◌, ◌∙◌, ◌-ℤ◌, pos, to_z, of_z, arith, refl}
use mir.Syntax.{w128}
use Rattle.std.specs.Int.{int_max}
use Rattle.std.proofs.lemmas.Int.{ints, clamps}
use Rattle.sa_env.specs.Forms.{cut, span_between}
use Rattle.sa_env.proofs.form.cut.Goals as goal

pub returns-else-plus-clause-value : goal.returns-else-plus-clause-value
returns-else-plus-clause-value c =
    let low : to_z w128 (of_z w128 c.max.result) ≡ int_max c.args.s.lo (pos 0 -ℤ c.args.k) = omega (arith, ints, clamps) in
    let high : to_z w128 (of_z w128 c.hi-else-plus.result) ≡ c.args.s.hi = omega (arith, ints) in
    c.between-else-plus.ensures.value ∙ rw (low, high, c.if-plus.false) refl
