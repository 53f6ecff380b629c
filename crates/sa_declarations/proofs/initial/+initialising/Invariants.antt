use Rattle.std.proofs.Common.{List}
use Rattle.std.specs.Prelude.{ℤ}
use Rattle.sa_scopes.specs.Forms.{inside}
use Rattle.sa_declarations.specs.Initialisers.{Stands}
use Rattle.sa_declarations.proofs.InitRows.{Goes}
use Rattle.sa_declarations.proofs.initial.+initialising.Given as goal

abbrev pub invariant-items-loop-at : goal.invariant-items-loop-at
invariant-items-loop-at l = (zs : List ℤ) → Stands l.fn.first zs → Goes l.all l.pos (inside l.depth l.shape) zs l.fn.typer l.at l.found l.typer
