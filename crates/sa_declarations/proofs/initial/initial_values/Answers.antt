use Rattle.std.proofs.Common.{[]}
use Rattle.sa_declarations.proofs.InitRows.{given_all}
use Rattle.sa_declarations.proofs.initial.initial_values.Goals as goal

pub returns : goal.returns
returns c = given_all _ _ _ _ _ (c.in_ok-found.ensures [] c.new.ensures)
