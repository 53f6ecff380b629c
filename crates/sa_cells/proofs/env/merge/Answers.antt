use Rattle.std.proofs.Common.{◌∙◌, pos, refl, sym, subst}
use Rattle.sa_reference.specs.declared.flat.Flat.{Flat}
use Rattle.sa_reference.specs.Environments.{merge_of}
use Rattle.sa_reference.specs.Fair.{IsFair}
use Rattle.sa_cells.proofs.EnvLemmas.{merge-fair, same-flat}
use Rattle.sa_cells.proofs.env.merge.Goals as goal

pub returns-clause-fair : goal.returns-clause-fair
returns-clause-fair c =
    let m = pos c.args.max_clock in
    let p = c.args.program.now in
    subst (λ (e : Flat). IsFair p m e)
    (sym (same-flat (record { clock = c.join.result; cells = c.in_ok-joined_cells.field-0 }) (merge_of c.args.a.now c.args.b.now) c.join.ensures.row
    (c.in_ok-joined_cells.ensures ∙ rw (c.as_slice.ensures, c.as_slice-2.ensures) refl)))
    (merge-fair p m c.args.a.now c.args.b.now c.requires.a_fair c.requires.b_fair)
