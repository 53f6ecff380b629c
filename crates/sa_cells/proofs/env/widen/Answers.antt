use Rattle.std.proofs.Common.{◌∙◌, pos, refl, sym, subst}
use Rattle.sa_reference.specs.Environments.{widen_of}
use Rattle.sa_cells.proofs.EnvLemmas.{same-flat}
use Rattle.sa_cells.proofs.env.widen.Goals as goal

pub returns-clause-value : goal.returns-clause-value
unfolding widen_of
returns-clause-value c =
    same-flat _ _ c.widened_clock.ensures.value
    (c.in_ok-widened_cells.ensures.value ∙ rw (c.as_slice.ensures, c.as_slice-2.ensures, c.as_slice-3.ensures, c.requires.ground.tops, c.requires.thresholds) refl)
