use Rattle.std.proofs.Common.{◌≡◌, drop, None}
use Rattle.sa_typer.specs.Units.{items}
use Rattle.sa_typer.proofs.unit.items.Given as goal

abbrev pub invariant-loop-one : goal.invariant-loop-one
invariant-loop-one l = items l.all None l.fn.typer ≡ items (drop l.one-index l.all) l.found l.typer
