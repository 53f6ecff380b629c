use Rattle.std.proofs.Common.{◌≡◌, ◌∙◌, ap, sym, subst, ℕ, List}
use Rattle.std.specs.Prelude.{IfOk}
use Rattle.sa_cells.specs.Reached.{all_runs}
use Rattle.sa_cells.proofs.StepLemmas.{at-last}
use Rattle.sa_cells.proofs.place.named.Goals as goal

pub returns : goal.returns
returns c =
    let whole = ap (λ (os : List ℕ). all_runs c.loop-reach.place.cells os) c.deref.ensures.value
    ∙ sym (at-last c.args.program.now c.loop-reach.place c.args.reaches.now c.loop-reach.reach-index c.loop-reach.invariant.place c.loop-reach-test.false) ∙ sym c.loop-reach.invariant.same in
    subst (λ (x : List ℕ). IfOk c.cells_of.result (λ ks. ks.items ≡ x)) whole c.cells_of.ensures
