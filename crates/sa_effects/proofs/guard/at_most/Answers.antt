use Rattle.std.proofs.Common.{◌≡◌, ℤ, subst, arith, to_z, of_z}
use mir.Syntax.{w128}
use Rattle.std.proofs.lemmas.Int.{ints}
use Rattle.sa_env.specs.Forms.{imposed, IsForm}
use Rattle.sa_env.specs.Shop.{flat_of}
use Rattle.sa_env.proofs.Lists.{if_ok}
use Rattle.sa_flat.specs.Intervals as reference
use Rattle.sa_flat.specs.Meanings.{at_most}
use Rattle.sa_flat.specs.Passes.{alive_then}
use Rattle.sa_effects.specs.Stands.{state_of}
use Rattle.sa_effects.proofs.Guards.{keeps_self, at_most_none, imposed_here, holds_of}
use Rattle.sa_effects.proofs.guard.at_most.Goals as goal

pub returns-in-None-clause-value : goal.returns-in-None-clause-value
returns-in-None-clause-value c = λ r. at_most_none r c.args.form c.args.k _ c.in-None.is

pub returns-in-None-clause-older : goal.returns-in-None-clause-older
returns-in-None-clause-older c = keeps_self c.args.shop.now

pub returns-in-Some-clause-value : goal.returns-in-Some-clause-value
returns-in-Some-clause-value c =
    let s = c.args.shop.now in
    let t = c.impose.new.self in
    let j = to_z w128 (of_z w128 c.args.k) in
    let same : j ≡ c.args.k = omega (arith, ints) in
    if_ok (λ made. flat_of t made ≡ imposed c.in-Some.f j (flat_of s c.args.e.now))
    (λ made. (r : reference.Limits) → state_of t made ≡ alive_then (state_of s c.args.e.now) (at_most (reference.intervals r) c.args.form c.args.k))
    c.impose.result
    (λ made eq r. subst (λ (z : ℤ). state_of t made ≡ alive_then (state_of s c.args.e.now) (at_most (reference.intervals r) c.args.form z)) same
    (imposed_here r s t c.args.e.now made c.args.form c.in-Some.f j c.in-Some.is (holds_of (IsForm s.limits.tops) c.args.form c.in-Some.f c.in-Some.is c.requires.form) c.requires.belongs eq))
    c.impose.ensures.value
