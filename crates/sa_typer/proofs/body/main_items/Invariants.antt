use Rattle.std.proofs.Common.{◌≡◌, drop}
use Rattle.sa_typer.specs.Bodies.{main_items, no_body}
use Rattle.sa_typer.proofs.body.main_items.Given as goal

abbrev pub invariant-loop-one : goal.invariant-loop-one
invariant-loop-one l = main_items l.all no_body l.fn.typer ≡ main_items (drop l.one-index l.all) l.found l.typer
