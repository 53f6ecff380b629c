use Rattle.std.proofs.Common.{◌≡◌, drop}
use Rattle.sa_ir.specs.Tables.{with_params}
use Rattle.sa_ir.proofs.table.with_params.Given as goal

abbrev pub invariant-loop-param : goal.invariant-loop-param
invariant-loop-param l = with_params (drop l.param-index l.params) l.flags ≡ with_params l.params l.initial.flags
