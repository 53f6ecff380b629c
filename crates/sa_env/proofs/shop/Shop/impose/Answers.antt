use Rattle.std.proofs.Common.{◌≡◌, ◌∙◌, ◌-ℤ◌, sym, ap, subst, to_z, of_z, arith}
use mir.Syntax.{w128}
use Rattle.std.proofs.lemmas.Int.{ints}
use Rattle.std.specs.Result.{IfOk}
use Rattle.sa_env.specs.Flat.{Flat}
use Rattle.sa_env.specs.Forms.{imposed, term_imposed, cut_by}
use Rattle.sa_env.specs.Shop.{flat_of}
use Rattle.sa_env.proofs.Shops.{keeps_on}
use Rattle.sa_env.proofs.Imposing.{imposed_first, imposed_second, imposed_both, imposed_nothing}
use Rattle.sa_env.proofs.shop.Shop.impose.Goals as goal

pub returns-in-None-None-clause-value : goal.returns-in-None-None-clause-value
returns-in-None-None-clause-value c = imposed_nothing c.args.f c.args.k _ c.in-None-None.is-0 c.in-None-None.is-1

pub returns-in_ok-e-in-Some-Some-clause-value : goal.returns-in_ok-e-in-Some-Some-clause-value
returns-in_ok-e-in-Some-Some-clause-value c =
    let k : to_z w128 (of_z w128 (to_z w128 (of_z w128 c.args.k) -ℤ to_z w128 (of_z w128 c.args.f.c))) ≡ c.args.k -ℤ c.args.f.c = omega (arith, ints) in
    subst (λ (x : Flat). IfOk c.cut_by-in-Some-Some.result (λ made. flat_of c.cut_by-in-Some-Some.new.self made ≡ x))
    (ap (λ j. cut_by c.in-Some-Some.u c.in-Some-Some.t j (flat_of c.cut_by.new.self c.in_ok-e-in-Some-Some.e)) k
    ∙ ap (cut_by c.in-Some-Some.u c.in-Some-Some.t (c.args.k -ℤ c.args.f.c)) (c.in_ok-e-in-Some-Some.ensures.value ∙ ap (λ j. cut_by c.in-Some-Some.t c.in-Some-Some.u j (flat_of c.args.self.now c.args.e.now)) k)
    ∙ imposed_both c.args.f c.args.k (flat_of c.args.self.now c.args.e.now) c.in-Some-Some.t c.in-Some-Some.u c.in-Some-Some.is-0 c.in-Some-Some.is-1)
    c.cut_by-in-Some-Some.ensures.value

pub returns-in_ok-e-in-Some-Some-clause-older : goal.returns-in_ok-e-in-Some-Some-clause-older
returns-in_ok-e-in-Some-Some-clause-older c = keeps_on _ _ _ c.cut_by.ensures.older c.cut_by-in-Some-Some.ensures.older

pub returns-in-Some-None-clause-value : goal.returns-in-Some-None-clause-value
returns-in-Some-None-clause-value c =
    let k : to_z w128 (of_z w128 (to_z w128 (of_z w128 c.args.k) -ℤ to_z w128 (of_z w128 c.args.f.c))) ≡ c.args.k -ℤ c.args.f.c = omega (arith, ints) in
    subst (λ (x : Flat). IfOk c.impose_term-in-Some-None.result (λ made. flat_of c.impose_term-in-Some-None.new.self made ≡ x))
    (ap (λ j. term_imposed c.in-Some-None.t j (flat_of c.args.self.now c.args.e.now)) k ∙ imposed_first c.args.f c.args.k (flat_of c.args.self.now c.args.e.now) c.in-Some-None.t c.in-Some-None.is-0 c.in-Some-None.is-1)
    c.impose_term-in-Some-None.ensures.value

pub returns-in-None-Some-clause-value : goal.returns-in-None-Some-clause-value
returns-in-None-Some-clause-value c =
    let k : to_z w128 (of_z w128 (to_z w128 (of_z w128 c.args.k) -ℤ to_z w128 (of_z w128 c.args.f.c))) ≡ c.args.k -ℤ c.args.f.c = omega (arith, ints) in
    subst (λ (x : Flat). IfOk c.impose_term.result (λ made. flat_of c.impose_term.new.self made ≡ x))
    (ap (λ j. term_imposed c.in-None-Some.t j (flat_of c.args.self.now c.args.e.now)) k ∙ imposed_second c.args.f c.args.k (flat_of c.args.self.now c.args.e.now) c.in-None-Some.t c.in-None-Some.is-0 c.in-None-Some.is-1)
    c.impose_term.ensures.value
