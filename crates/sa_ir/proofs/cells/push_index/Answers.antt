use Rattle.std.proofs.Common.{◌∙◌, ◌++◌, List, sym, ap, append-nil}
use Rattle.sa_ir.specs.declared.ir.Cell.{Cell}
use Rattle.sa_ir.proofs.CallLemmas.{no-step}
use Rattle.sa_ir.proofs.cells.push_index.Goals as goal

pub returns-in-Field : goal.returns-in-Field
returns-in-Field c = sym (ap (λ (l : List Cell). c.args.cells.now.items ++ l) (no-step c.args.step.now _ c.in-Field.is) ∙ append-nil c.args.cells.now.items)
