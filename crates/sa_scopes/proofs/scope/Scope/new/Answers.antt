use Rattle.sa_scopes.proofs.ScopeLemmas.{finds-nothing}
use Rattle.sa_scopes.proofs.scope.Scope.new.Goals as goal

pub invariant_of-result : goal.invariant_of-result
invariant_of-result g c = finds-nothing c.new-3.result c.new.result.items c.new.ensures.items
