use Rattle.std.proofs.Common.{◌≡◌, [], drop}
use Rattle.sa_typer.specs.Bodies.{items}
use Rattle.sa_typer.proofs.statement.+statements.Given as goal

abbrev pub invariant-items-loop-one : goal.invariant-items-loop-one
invariant-items-loop-one l = items l.all [] l.fn.typer ≡ items (drop l.one-index l.all) l.found l.typer
