use Rattle.std.proofs.Common.{◌≡◌, ◌∙◌, pos, sym, subst, arith, rules}
use Rattle.std.proofs.lemmas.Int.{ints}
use Rattle.sa_reference.specs.declared.flat.Flat.{Flat}
use Rattle.sa_reference.specs.Environments.{top_of, whole_clock}
use Rattle.sa_reference.specs.Fair.{IsFair}
use Rattle.sa_cells.proofs.EnvLemmas.{top-fair, same-flat}
use Rattle.sa_cells.proofs.env.top.Goals as goal

pub returns-clause-fair : goal.returns-clause-fair
returns-clause-fair c =
    let m = pos c.args.max_clock in
    let p = c.args.program.now in
    let clock : c.new.result ≡ whole_clock m = search rules in
    subst (λ (e : Flat). IsFair p m e)
    (sym (same-flat (record { clock = c.new.result; cells = c.in_ok-from_slice.field-0 }) (top_of p (whole_clock m)) clock (c.in_ok-from_slice.ensures ∙ c.as_slice.ensures ∙ c.requires.ground.tops)))
    (top-fair p c.args.max_clock)
