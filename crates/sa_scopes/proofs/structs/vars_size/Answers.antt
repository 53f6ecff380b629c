use Rattle.std.proofs.Common.{true}
use Rattle.sa_scopes.specs.Structures.{size_by}
use Rattle.sa_scopes.proofs.SizeLemmas.{vars-next, vars-end, one_more, all_summed}
use Rattle.sa_scopes.proofs.structs.vars_size.Goals as goal

pub loop-var-preserved : goal.loop-var-preserved
loop-var-preserved c = record {
  fits = c.saturating_add-total.type_inv;
  summed = λ exact e.
      one_more c.loop-var.total c.saturating_add-total.result c.size_by.result (size_by true exact c.var-item.result.shape) _ _ _
      (c.size_by.ensures exact e) c.saturating_add-total.ensures
      (rw (← c.var-item.is) at (vars-next exact c.args.vars.now c.loop-var.var-index c.var-item.result c.loop-var-test.true))
      (c.loop-var.invariant.summed exact e);
}

pub returns : goal.returns
returns c = λ exact e.
    all_summed c.loop-var.total _ _ c.loop-var.invariant.fits (vars-end exact c.args.vars.now c.loop-var.var-index c.loop-var-test.false) (c.loop-var.invariant.summed exact e)
