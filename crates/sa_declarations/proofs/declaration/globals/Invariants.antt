use Rattle.std.proofs.Common.{◌≡◌, drop}
use Rattle.sa_declarations.specs.Declarations.{globals}
use Rattle.sa_declarations.proofs.declaration.globals.Given as goal

abbrev pub invariant-loop-one : goal.invariant-loop-one
invariant-loop-one l = globals l.volatile l.ty l.all l.fn.typer ≡ globals l.volatile l.ty (drop l.one-index l.all) l.typer
