use Rattle.sa_scopes.proofs.ScopeLemmas.{place_in-updated}
use Rattle.sa_scopes.proofs.scope.note.Goals as goal

pub returns-clause-ok : goal.returns-clause-ok
returns-clause-ok c = place_in-updated c.args.name.now c.args.places.now c.insert.new.self _ c.in_ok-insert.ensures.updates
