use Rattle.std.proofs.Common.{◌∙◌, ◌+◌, sym, ap, drop, List, Bool}
use Rattle.sa_ir.specs.Tables.{with_params}
use Rattle.sa_ir.proofs.TableLemmas.{params-more, params-end}
use Rattle.sa_ir.proofs.table.with_params.Goals as goal

pub loop-param-preserved : goal.loop-param-preserved
loop-param-preserved c =
    let ps = c.args.params.now in
    let i = c.loop-param.param-index in
    ap (λ (bs : List Bool). with_params (drop (i + 1) ps) bs) c.with_param.ensures ∙ sym (params-more ps i _ c.loop-param.flags c.loop-param-test.true) ∙ c.loop-param.invariant

pub returns : goal.returns
returns c = sym (params-end c.args.params.now c.loop-param.param-index c.loop-param.flags c.loop-param-test.false) ∙ c.loop-param.invariant
