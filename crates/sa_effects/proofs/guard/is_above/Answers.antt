use Rattle.std.proofs.Common.{◌≡◌, ◌∙◌, ap, ℤ, ◌-ℤ◌, arith, to_z, of_z}
use mir.Syntax.{w128}
use Rattle.std.proofs.lemmas.Int.{ints}
use Rattle.std.specs.Prelude.{int_lt}
use Rattle.sa_effects.proofs.guard.is_above.Goals as goal

pub returns : goal.returns
returns c =
    let k : to_z w128 (of_z w128 c.args.k) ≡ c.args.k = let below = c.requires.low in let above = c.requires.high in omega (arith, ints) in
    let lo = c.lo.ensures.value in
    let hi = c.hi.ensures.value in
    let s = c.lo.ensures.whole in
    let t = c.hi.ensures.whole in
    let low = s.low in
    let order = s.ordered in
    let high = s.high in
    let low_2 = t.low in
    let order_2 = t.ordered in
    let high_2 = t.high in
    let less : to_z w128 (of_z w128 (to_z w128 (of_z w128 c.lo.result) -ℤ to_z w128 (of_z w128 c.hi.result))) ≡ c.args.s.lo -ℤ c.args.t.hi = omega (arith, ints) in
    ap (λ (z : ℤ). int_lt z (to_z w128 (of_z w128 (to_z w128 (of_z w128 c.lo.result) -ℤ to_z w128 (of_z w128 c.hi.result))))) k ∙ ap (λ (z : ℤ). int_lt c.args.k z) less
