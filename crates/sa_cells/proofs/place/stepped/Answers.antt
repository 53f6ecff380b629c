use Rattle.std.proofs.Common.{◌∙◌, sym, subst, arith}
use Rattle.std.proofs.lemmas.Bool.Decides.{nat_tests}
use Rattle.std.proofs.lemmas.List.{nil_from_length}
use Rattle.sa_reference.specs.declared.reach.Reach.{Reach}
use Rattle.sa_cells.specs.Places.{IsNowhere}
use Rattle.sa_cells.proofs.StepLemmas.{nowhere-at, nowhere-below, nowhere-into}
use Rattle.sa_cells.proofs.place.stepped.Goals as goal

pub returns-in-empty : goal.returns-in-empty
returns-in-empty c =
    subst (λ (r : Reach). IsNowhere c.args.program.now r c.args.place) (sym c.in-At.is) (nowhere-at c.args.program.now c.in-At.span c.args.place (let none = c.in-empty.len_below in nil_from_length c.args.place.dims.now (omega (arith, none))))

pub returns-then-not-is_empty : goal.returns-then-not-is_empty
returns-then-not-is_empty c =
    subst (λ (r : Reach). IsNowhere c.args.program.now r c.args.place) (sym c.in-Into.is) (nowhere-below c.args.program.now c.in-Into.f c.args.place (let some = sym c.is_empty.ensures ∙ c.if-not-is_empty.true in grind (arith, nat_tests, some)))

pub returns-in-Scalar : goal.returns-in-Scalar
returns-in-Scalar c =
    subst (λ (r : Reach). IsNowhere c.args.program.now r c.args.place) (sym c.in-Into.is) (nowhere-into c.args.program.now c.in-Into.f c.args.place c.in-Scalar.field-0 (let none = sym c.is_empty.ensures ∙ c.if-not-is_empty.false in nil_from_length c.args.place.dims.now (grind (arith, nat_tests, none))) c.in-Scalar.is)
