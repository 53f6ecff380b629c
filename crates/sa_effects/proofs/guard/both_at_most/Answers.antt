use Rattle.std.proofs.Common.{◌≡◌, ◌∙◌, ℤ, subst, arith, to_z, of_z}
use mir.Syntax.{w128}
use Rattle.std.proofs.lemmas.Int.{ints}
use Rattle.sa_env.proofs.Lists.{if_ok}
use Rattle.sa_flat.specs.Intervals as reference
use Rattle.sa_flat.specs.Meanings.{at_most}
use Rattle.sa_flat.specs.Passes.{alive_then}
use Rattle.sa_effects.specs.Stands.{state_of}
use Rattle.sa_effects.proofs.Guards.{then_then}
use Rattle.sa_effects.proofs.guard.both_at_most.Goals as goal

pub returns-clause-value : goal.returns-clause-value
returns-clause-value c =
    let s = c.args.shop.now in
    let u = c.at_most.new.shop in
    let t = c.at_most-2.new.shop in
    let first = c.in_ok-first.first in
    let j = to_z w128 (of_z w128 c.args.j) in
    let k = to_z w128 (of_z w128 c.args.k) in
    let same_j : j ≡ c.args.j = omega (arith, ints) in
    let same_k : k ≡ c.args.k = omega (arith, ints) in
    if_ok (λ made. (r : reference.Limits) → state_of t made ≡ alive_then (state_of u first) (at_most (reference.intervals r) c.args.g k))
    (λ made. (r : reference.Limits) → state_of t made ≡ alive_then (state_of s c.args.e.now) (λ a. alive_then (at_most (reference.intervals r) c.args.f c.args.j a) (at_most (reference.intervals r) c.args.g c.args.k)))
    c.at_most-2.result
    (λ made eq r.
    let here = subst (λ (z : ℤ). state_of u first ≡ alive_then (state_of s c.args.e.now) (at_most (reference.intervals r) c.args.f z)) same_j (c.in_ok-first.ensures.value r) in
    let there = subst (λ (z : ℤ). state_of t made ≡ alive_then (state_of u first) (at_most (reference.intervals r) c.args.g z)) same_k (eq r) in
    there ∙ then_then (state_of s c.args.e.now) (state_of u first) (at_most (reference.intervals r) c.args.f c.args.j) (at_most (reference.intervals r) c.args.g c.args.k) here)
    c.at_most-2.ensures.value
