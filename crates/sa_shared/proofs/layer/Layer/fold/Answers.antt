use Rattle.std.proofs.Common.{◌∙◌, ap, sym, subst}
use Rattle.sa_shared.specs.Forest.{list_of}
use Rattle.sa_shared.specs.Walks.{InRange, folded, step_in_range}
use Rattle.sa_shared.proofs.Walking.{at_within, folded_range}
use Rattle.sa_shared.proofs.layer.Layer.fold.Goals as goal

pub fold-requires-clause-fits : goal.fold-requires-clause-fits
fold-requires-clause-fits g c =
    let a = c.args in
    let fits = subst (λ f. InRange a.from a.to (g.A.Fold.fits a.start) (list_of f a.r)) (sym c.self.view_is) c.requires.fits in
    at_within a.from a.to (g.A.Fold.fits a.start) _ fits

pub returns : goal.returns
returns g c =
    let a = c.args in
    c.fold.ensures ∙ ap (λ f. folded (step_in_range a.from a.to g.A.Fold.with_of) 0 a.start (list_of f a.r)) c.self.view_is
    ∙ folded_range a.from a.to g.A.Fold.with_of a.start (list_of a.self.now a.r)
