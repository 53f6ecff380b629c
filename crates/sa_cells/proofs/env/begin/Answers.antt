use Rattle.std.proofs.Common.{◌≡◌, ◌∙◌, ◌+◌, ap, sym, subst, List}
use Rattle.std.specs.Prelude.{OnOk}
use Rattle.sa_interval.specs.Span.{Span}
use Rattle.sa_typed.specs.Cells.{cells}
use Rattle.sa_reference.specs.Environments.{items_span}
use Rattle.sa_reference.specs.Assignments.{set_cells}
use Rattle.sa_cells.specs.Settings.{begun}
use Rattle.sa_cells.proofs.StepLemmas.{there-is}
use Rattle.sa_cells.proofs.SetLemmas.{begun-local, begun-others}
use Rattle.sa_cells.proofs.env.begin.Goals as goal

pub returns-in_default-clause-value : goal.returns-in_default-clause-value
returns-in_default-clause-value c = absurd (there-is c.args.program.now.vars c.args.var c.requires.inside (sym c.in_default.ensures.value))

pub returns-then-is_local-clause-value : goal.returns-then-is_local-clause-value
returns-then-is_local-clause-value c =
    c.requires.begun ∙ begun-local c.args.program.now c.args.var c.in-Some.known.now (cells c.args.program.now) (sym c.in-Some.ensures.value) (sym c.is_local.ensures ∙ c.if-is_local.true)

pub returns-clause-value : goal.returns-clause-value
returns-clause-value c =
    let p = c.args.program.now in
    subst (λ (l : List Span). OnOk c.set_values.result (c.set_values.new.spans ≡ l))
    (ap (λ (l : List Span). set_cells (items_span p) c.args.var (cells p) l) c.requires.begun
    ∙ begun-others p c.args.var c.in-Some.known.now (cells p) (sym c.in-Some.ensures.value) (sym c.is_local.ensures ∙ c.if-is_local.false))
    c.set_values.ensures.value
