use Rattle.std.proofs.Common.{refl}
use Rattle.std.proofs.lemmas.List.{take-map}
use Rattle.sa_scopes.proofs.ScopeLemmas.{finds-taken}
use Rattle.sa_scopes.proofs.scope.Scope.truncate.Goals as goal

pub invariant_of-self : goal.invariant_of-self
invariant_of-self g c = finds-taken c.self.inside.places c.args.count c.self.inside.words.items c.truncate.new.self.items c.truncate.ensures.items c.self.invariant

pub returns : goal.returns
returns g c = simp (c.truncate.ensures.items, c.truncate-2.ensures.items, ← c.self.view_is, ← take-map) refl
