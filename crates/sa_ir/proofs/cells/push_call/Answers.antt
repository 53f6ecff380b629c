use Rattle.std.proofs.Common.{◌∙◌, ◌++◌, ap}
use Rattle.std.proofs.lemmas.Result.{on_ok_weaker}
use Rattle.std.specs.Prelude.{Option}
use Rattle.sa_base.specs.declared.num.Num.{Num}
use Rattle.sa_ir.specs.Frames.{result_cells, call_cells}
use Rattle.sa_ir.proofs.CallLemmas.{three-joined}
use Rattle.sa_ir.proofs.cells.push_call.Goals as goal

pub returns : goal.returns
unfolding call_cells
returns c =
    on_ok_weaker c.push_result.result
    (λ h. three-joined c.args.cells.now.items c.push_home.new.cells.items c.push_args.new.cells.items c.push_result.new.cells.items _ _ _ c.in_ok-push_home.ensures c.in_ok-push_args.ensures
    (h ∙ ap (λ (o : Option Num). c.push_args.new.cells.items ++ result_cells o) c.result_of.ensures))
    c.push_result.ensures
