use Rattle.std.proofs.Common.{◌≡◌, drop}
use Rattle.sa_ir.specs.Tables.{with_funcs}
use Rattle.sa_ir.proofs.table.with_funcs.Given as goal

abbrev pub invariant-loop-func : goal.invariant-loop-func
invariant-loop-func l = with_funcs (drop l.func-index l.funcs) l.flags ≡ with_funcs l.funcs l.initial.flags
