use Rattle.std.proofs.Common.{◌≡◌, ◌∙◌, ◌∷◌, [], sym, refl, arith}
use Rattle.std.proofs.lemmas.Grind.{common_steps}
use Rattle.sa_cells.proofs.StepLemmas.{no-variable, stretch-known, start, not-both}
use Rattle.sa_cells.proofs.place.variable.Goals as goal

pub returns-in_default : goal.returns-in_default
returns-in_default c = no-variable c.args.program.now c.args.var (sym c.in_default.ensures.value)

pub returns-in_default-get : goal.returns-in_default-get
returns-in_default-get c =
    absurd (not-both _ _ (stretch-known c.args.program.now c.args.var c.in-Some.known.now _ (sym c.in-Some.ensures.value) (c.requires.vars c.args.var)) (sym c.in_default-get.ensures.value))

pub returns : goal.returns
returns c =
    start c.args.program.now c.args.var c.in-Some.known.now c.in-Some-get.stretch.now _ c.requires.few (sym c.in-Some.ensures.value) (c.in-Some-get.ensures.value ∙ c.requires.vars c.args.var)
    c.as_slice.ensures refl c.len.ensures refl (c.in_ok-push.ensures.items ∙ rw c.new-firsts.ensures.items refl)
