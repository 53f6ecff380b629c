use Rattle.std.proofs.Common.{ap, sym, ◌∙◌}
use Rattle.std.proofs.lemmas.List.{length-map}
use Rattle.sa_scopes.specs.Scopes.{Scope, is_visible, count}
use Rattle.sa_scopes.proofs.ScopeLemmas.{finds-noted, finds-pushed}
use Rattle.sa_scopes.proofs.scope.Scope.declare.Goals as goal

pub invariant_of-self-in_err-push-2 : goal.invariant_of-self-in_err-push-2
invariant_of-self-in_err-push-2 g c = finds-pushed c.self.inside.places c.note.new.places c.args.name c.self.inside.words.items c.push.new.self.items c.count-place.result c.in_ok-push.ensures.items (ap (λ (s : Scope g.row.M.Denot). is_visible s c.args.name.now) c.self.view_is ∙ c.requires) (c.count-place.ensures ∙ ap (λ (s : Scope g.row.M.Denot). count s) (sym c.self.view_is) ∙ length-map c.self.inside.words.items _) c.self.invariant c.in_ok-note.ensures.ok

pub invariant_of-self-2 : goal.invariant_of-self-2
invariant_of-self-2 g c = finds-pushed c.self.inside.places c.note.new.places c.args.name c.self.inside.words.items c.push.new.self.items c.count-place.result c.in_ok-push.ensures.items (ap (λ (s : Scope g.row.M.Denot). is_visible s c.args.name.now) c.self.view_is ∙ c.requires) (c.count-place.ensures ∙ ap (λ (s : Scope g.row.M.Denot). count s) (sym c.self.view_is) ∙ length-map c.self.inside.words.items _) c.self.invariant c.in_ok-note.ensures.ok
