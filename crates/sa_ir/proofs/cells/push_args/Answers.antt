use Rattle.std.proofs.Common.{◌∙◌, ◌++◌, ap}
use Rattle.sa_typed.specs.declared.stmt.Arg.{Arg}
use Rattle.sa_ir.specs.Frames.{arg_cells}
use Rattle.sa_ir.proofs.CallLemmas.{flat-more, flat-end}
use Rattle.sa_ir.proofs.cells.push_args.Goals as goal

pub loop-arg-preserved : goal.loop-arg-preserved
loop-arg-preserved c =
    flat-more arg_cells c.args.args.now c.loop-arg.arg-index c.arg-item.result c.loop-arg.cells.items _ _ c.loop-arg-test.true
    (c.in_ok-push_arg.ensures ∙ ap (λ (s : Arg). c.loop-arg.cells.items ++ arg_cells s) c.arg-item.is) c.loop-arg.invariant

pub returns : goal.returns
returns c = flat-end arg_cells c.args.args.now c.loop-arg.arg-index c.loop-arg.cells.items _ c.loop-arg-test.false c.loop-arg.invariant
