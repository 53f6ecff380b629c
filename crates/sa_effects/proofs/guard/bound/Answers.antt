use Rattle.std.proofs.Common.{rules, ◌≡◌, ◌∙◌, ℤ, ◌-ℤ◌, true, false, subst, arith, to_z, of_z}
use mir.Syntax.{w128}
use Rattle.std.proofs.lemmas.Int.{ints}
use Rattle.std.specs.Prelude.{int_lt}
use Rattle.sa_env.proofs.Lists.{if_ok}
use Rattle.sa_flat.specs.Forms.{difference_form}
use Rattle.sa_flat.specs.Intervals as reference
use Rattle.sa_flat.specs.Meanings.{both_forms, imposed, bound}
use Rattle.sa_flat.specs.Passes.{alive_then}
use Rattle.sa_effects.specs.Stands.{state_of}
use Rattle.sa_effects.specs.Values.{everywhere}
use Rattle.sa_effects.proofs.Guards.{dead_belongs, dead_state, first_none, second_none, all_above, some_not_above}
use Rattle.sa_effects.proofs.guard.bound.Goals as goal

pub returns-in-None-default-clause-belongs : goal.returns-in-None-default-clause-belongs
returns-in-None-default-clause-belongs c = dead_belongs c.args.shop.now

pub returns-in-None-default-clause-value : goal.returns-in-None-default-clause-value
returns-in-None-default-clause-value c = λ r. dead_state c.args.shop.now ∙ first_none r c.args.a.now c.args.b.now c.args.k (state_of c.args.shop.now c.args.e.now) c.in-None-default.is-0

pub returns-in-Some-None-clause-belongs : goal.returns-in-Some-None-clause-belongs
returns-in-Some-None-clause-belongs c = dead_belongs c.args.shop.now

pub returns-in-Some-None-clause-value : goal.returns-in-Some-None-clause-value
returns-in-Some-None-clause-value c =
    λ r. dead_state c.args.shop.now ∙ second_none r c.args.a.now c.args.b.now c.args.k (state_of c.args.shop.now c.args.e.now) c.in-Some-None.field-0-0 c.in-Some-None.is-0 c.in-Some-None.is-1

pub returns-then-is_above-clause-belongs : goal.returns-then-is_above-clause-belongs
returns-then-is_above-clause-belongs c = dead_belongs c.args.shop.now

pub returns-then-is_above-clause-value : goal.returns-then-is_above-clause-value
returns-then-is_above-clause-value c =
    let test : int_lt c.args.k (c.in-Some-Some.s.lo -ℤ c.in-Some-Some.t.hi) ≡ true = search rules in
    λ r. dead_state c.args.shop.now ∙ all_above r c.args.a.now c.args.b.now c.args.k (state_of c.args.shop.now c.args.e.now) c.in-Some-Some.s c.in-Some-Some.t c.in-Some-Some.is-0 c.in-Some-Some.is-1 test

pub returns-else-is_above-clause-value : goal.returns-else-is_above-clause-value
returns-else-is_above-clause-value c =
    let s = c.args.shop.now in
    let t = c.imposed.new.shop in
    let a = c.args.a.now in
    let b = c.args.b.now in
    let test : int_lt c.args.k (c.in-Some-Some.s.lo -ℤ c.in-Some-Some.t.hi) ≡ false = search rules in
    let k = to_z w128 (of_z w128 c.args.k) in
    let same : k ≡ c.args.k = omega (arith, ints) in
    if_ok (λ made. (r : reference.Limits) → state_of t made ≡ alive_then (state_of s c.args.e.now) (imposed (reference.intervals r) (both_forms a.form b.form difference_form) a.form b.form c.in-Some-Some.s c.in-Some-Some.t k))
    (λ made. (r : reference.Limits) → state_of t made ≡ alive_then (state_of s c.args.e.now) (bound (reference.intervals r) (everywhere a) (everywhere b) c.args.k))
    c.imposed.result
    (λ made eq r.
    subst (λ (z : ℤ). state_of t made ≡ alive_then (state_of s c.args.e.now) (imposed (reference.intervals r) (both_forms a.form b.form difference_form) a.form b.form c.in-Some-Some.s c.in-Some-Some.t z)) same (eq r)
    ∙ some_not_above r a b c.args.k (state_of s c.args.e.now) c.in-Some-Some.s c.in-Some-Some.t c.in-Some-Some.is-0 c.in-Some-Some.is-1 test)
    c.imposed.ensures.value
