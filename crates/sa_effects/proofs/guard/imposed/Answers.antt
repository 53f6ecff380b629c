use Rattle.std.proofs.Common.{◌≡◌, ◌∙◌, sym, ap, Option, ℤ, ◌+ℤ◌, ◌-ℤ◌, subst, arith, to_z, of_z}
use mir.Syntax.{w128}
use Rattle.std.proofs.lemmas.Int.{ints}
use Rattle.std.specs.Prelude.{IfSome, option_map}
use Rattle.sa_env.specs.declared.form.Form.{Form}
use Rattle.sa_env.specs.Forms.{IsForm}
use Rattle.sa_env.proofs.Lists.{if_ok}
use Rattle.sa_flat.specs.Forms.{negative, difference_form}
use Rattle.sa_flat.specs.Intervals as reference
use Rattle.sa_flat.specs.Meanings.{at_most, both_forms, imposed}
use Rattle.sa_flat.specs.Passes.{alive_then}
use Rattle.sa_effects.specs.Stands.{state_of}
use Rattle.sa_effects.proofs.Guards.{holds_of, difference_is_form, negative_is_form, imposed_none}
use Rattle.sa_effects.proofs.guard.imposed.Goals as goal

pub at_most-requires-clause-form : goal.at_most-requires-clause-form
at_most-requires-clause-form c =
    let tops = c.args.shop.now.limits.tops in
    holds_of (IsForm tops) (both_forms c.args.a.now.form c.args.b.now.form difference_form) c.in-Some.h (sym c.difference_forms.ensures ∙ c.in-Some.is) (difference_is_form tops c.args.a.now.form c.args.b.now.form c.requires.first c.requires.second)

pub both_at_most-requires-clause-second : goal.both_at_most-requires-clause-second
both_at_most-requires-clause-second c =
    let tops = c.args.shop.now.limits.tops in
    subst (λ (o : Option Form). IfSome o (IsForm tops)) (sym c.negative_form.ensures) (negative_is_form tops c.args.b.now.form c.requires.second)

pub returns-in-None-clause-value : goal.returns-in-None-clause-value
returns-in-None-clause-value c =
    let s = c.args.shop.now in
    let t = c.both_at_most.new.shop in
    let a = c.args.a.now in
    let b = c.args.b.now in
    let above = to_z w128 (of_z w128 (to_z w128 (of_z w128 c.args.k) +ℤ to_z w128 (of_z w128 c.hi.result))) in
    let below = to_z w128 (of_z w128 (to_z w128 (of_z w128 c.args.k) -ℤ to_z w128 (of_z w128 c.lo.result))) in
    let same_hi = c.hi.ensures.value in
    let same_lo = c.lo.ensures.value in
    let above_is : above ≡ c.args.k +ℤ c.args.t.hi = omega (arith, ints) in
    let below_is : below ≡ c.args.k -ℤ c.args.s.lo = omega (arith, ints) in
    if_ok (λ made. (r : reference.Limits) → state_of t made ≡ alive_then (state_of s c.args.e.now) (λ x. alive_then (at_most (reference.intervals r) a.form above x) (at_most (reference.intervals r) c.negative_form.result below)))
    (λ made. (r : reference.Limits) → state_of t made ≡ alive_then (state_of s c.args.e.now) (imposed (reference.intervals r) (both_forms a.form b.form difference_form) a.form b.form c.args.s c.args.t c.args.k))
    c.both_at_most.result
    (λ made eq r.
    let to : ℤ → Option Form → ℤ → Option reference.Flat = λ j g k. alive_then (state_of s c.args.e.now) (λ x. alive_then (at_most (reference.intervals r) a.form j x) (at_most (reference.intervals r) g k)) in
    eq r ∙ (ap (λ (j : ℤ). to j c.negative_form.result below) above_is ∙ (ap (λ (g : Option Form). to (c.args.k +ℤ c.args.t.hi) g below) c.negative_form.ensures
    ∙ (ap (λ (k : ℤ). to (c.args.k +ℤ c.args.t.hi) (option_map negative b.form) k) below_is
    ∙ imposed_none r (both_forms a.form b.form difference_form) a.form b.form c.args.s c.args.t c.args.k (state_of s c.args.e.now) (sym c.difference_forms.ensures ∙ c.in-None.is)))))
    c.both_at_most.ensures.value
