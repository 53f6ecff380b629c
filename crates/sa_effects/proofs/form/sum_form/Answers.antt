use Rattle.std.proofs.Common.{rules, ◌≡◌, ◌∙◌, ap, Option, true, false, arith, ◌+ℤ◌, to_z, of_z}
use mir.Syntax.{w128}
use Rattle.std.proofs.lemmas.Int.{ints}
use Rattle.sa_env.specs.declared.form.Term.{Term}
use Rattle.sa_effects.specs.Values.{alone, has_none, sum_of_both}
use Rattle.sa_effects.proofs.Forms.{sum_second, sum_first, sum_both}
use Rattle.sa_effects.proofs.form.sum_form.Goals as goal

pub returns-then-has_none : goal.returns-then-has_none
returns-then-has_none c =
    let h : has_none c.args.f.first c.args.f.second ≡ true = search rules in
    let e = c.both_constants-c.ensures in
    let k : to_z w128 (of_z w128 c.both_constants-c.result) ≡ c.args.f.c +ℤ c.args.g.c = omega (arith, ints) in
    c.of_terms.ensures ∙ sum_second c.args.f c.args.g _ k h

pub returns-then-has_none-2 : goal.returns-then-has_none-2
returns-then-has_none-2 c =
    let h : has_none c.args.f.first c.args.f.second ≡ false = search rules in
    let j : has_none c.args.g.first c.args.g.second ≡ true = search rules in
    let e = c.both_constants-c.ensures in
    let k : to_z w128 (of_z w128 c.both_constants-c.result) ≡ c.args.f.c +ℤ c.args.g.c = omega (arith, ints) in
    c.of_terms-then-has_none-2.ensures ∙ sum_first c.args.f c.args.g _ k h j

pub returns-else-has_none-2 : goal.returns-else-has_none-2
returns-else-has_none-2 c =
    let h : has_none c.args.f.first c.args.f.second ≡ false = search rules in
    let j : has_none c.args.g.first c.args.g.second ≡ false = search rules in
    let e = c.both_constants-c.ensures in
    let z = to_z w128 (of_z w128 c.both_constants-c.result) in
    let k : z ≡ c.args.f.c +ℤ c.args.g.c = omega (arith, ints) in
    c.sum_of_both.ensures ∙ (ap (λ (o : Option Term). sum_of_both o c.alone-else-has_none-2.result z) c.alone.ensures
    ∙ (ap (λ (o : Option Term). sum_of_both (alone c.args.f.first c.args.f.second) o z) c.alone-else-has_none-2.ensures
    ∙ sum_both c.args.f c.args.g z k h j))
