use Rattle.std.proofs.Common.{◌≡◌, [], drop}
use Rattle.sa_operands.specs.Lists as list
use Rattle.sa_operands.proofs.expr.+typing.Given as goal

abbrev pub invariant-links-loop-one : goal.invariant-links-loop-one
invariant-links-loop-one l = list.links l.all l.fn.first l.fn.typer ≡ list.links (drop l.one-index l.all) l.left l.typer

abbrev pub invariant-steps-loop-one : goal.invariant-steps-loop-one
invariant-steps-loop-one l = list.steps l.all l.fn.first l.fn.typer ≡ list.steps (drop l.one-index l.all) l.spot l.typer

abbrev pub invariant-fields-loop-one : goal.invariant-fields-loop-one
invariant-fields-loop-one l = list.fields l.all l.fn.found l.fn.typer ≡ list.fields (drop l.one-index l.all) l.found l.typer

abbrev pub invariant-declrs-loop-one : goal.invariant-declrs-loop-one
invariant-declrs-loop-one l = list.declrs l.ty l.all l.fn.found l.fn.typer ≡ list.declrs l.ty (drop l.one-index l.all) l.found l.typer

abbrev pub invariant-bounds-loop-one : goal.invariant-bounds-loop-one
invariant-bounds-loop-one l = list.bounds l.all [] l.fn.typer ≡ list.bounds (drop l.one-index l.all) l.found l.typer
