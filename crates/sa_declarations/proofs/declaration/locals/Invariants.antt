use Rattle.std.proofs.Common.{◌≡◌, drop}
use Rattle.sa_declarations.specs.Declarations.{locals}
use Rattle.sa_declarations.proofs.declaration.locals.Given as goal

abbrev pub invariant-loop-one : goal.invariant-loop-one
invariant-loop-one l = locals l.ty l.all l.fn.found l.fn.typer ≡ locals l.ty (drop l.one-index l.all) l.found l.typer
