use Rattle.std.proofs.Common.{◌∙◌, ◌+◌, sym, ap, drop, List, Bool}
use Rattle.sa_typed.specs.declared.program.Func.{Func}
use Rattle.sa_typed.specs.declared.program.Param.{Param}
use Rattle.sa_ir.specs.Tables.{with_params, with_funcs}
use Rattle.sa_ir.proofs.TableLemmas.{funcs-more, funcs-end}
use Rattle.sa_ir.proofs.table.with_funcs.Goals as goal

pub loop-func-preserved : goal.loop-func-preserved
loop-func-preserved c =
    let fs = c.args.funcs.now in
    let i = c.loop-func.func-index in
    ap (λ (bs : List Bool). with_funcs (drop (i + 1) fs) bs)
    (c.with_params.ensures ∙ ap (λ (ps : List Param). with_params ps c.loop-func.flags) (c.as_slice.ensures ∙ ap (λ (f : Func). f.params) c.func-item.is))
    ∙ sym (funcs-more fs i c.func-item.result c.loop-func.flags c.loop-func-test.true) ∙ c.loop-func.invariant

pub returns : goal.returns
returns c = sym (funcs-end c.args.funcs.now c.loop-func.func-index c.loop-func.flags c.loop-func-test.false) ∙ c.loop-func.invariant
