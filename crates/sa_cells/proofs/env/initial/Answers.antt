use Rattle.std.proofs.Common.{◌≡◌, ◌∙◌, ◌≤◌, ap, sym, subst, List, length, arith}
use Rattle.sa_interval.specs.Span.{Span}
use Rattle.sa_typed.specs.Cells.{cells}
use Rattle.sa_reference.specs.Environments.{initial_env}
use Rattle.sa_reference.specs.Fair.{AreIn}
use Rattle.sa_cells.specs.Settings.{begun}
use Rattle.sa_cells.proofs.EnvLemmas.{ranges-in, same-flat}
use Rattle.sa_cells.proofs.SetLemmas.{begun-none, begun-all}
use Rattle.sa_cells.proofs.env.initial.Goals as goal

pub loop-var-init : goal.loop-var-init
loop-var-init c =
    let p = c.args.program.now in
    let is = c.in_ok-cells.ensures ∙ c.as_slice.ensures ∙ c.requires.ground.tops in
    record {
      value = is ∙ begun-none p (cells p);
      kept = subst (λ (l : List Span). AreIn (cells p) l) (sym is) (ranges-in (cells p));
    }

pub returns-clause-value : goal.returns-clause-value
returns-clause-value c =
    let p = c.args.program.now in
    let n = c.len-var-end.ensures in
    let h = c.loop-var-test.false in
    same-flat _ (initial_env p) c.new.ensures (c.loop-var.invariant.value ∙ begun-all p c.loop-var.var (omega (arith, n, h)))
