use Rattle.std.proofs.Common.{sym, ap, ◌∙◌, Some, None}
use Rattle.sa_scopes.specs.Scopes.{Scope, index_of, texts}
use Rattle.sa_scopes.proofs.ScopeLemmas.{is_index, is_no_index, is_nowhere}
use Rattle.sa_scopes.proofs.scope.Scope.index.Goals as goal

pub returns-in-None : goal.returns-in-None
returns-in-None g c =
    sym (is_nowhere c.self.inside.places (texts c.self.inside.words.items) c.args.name.now c.self.invariant (sym c.place_in.ensures ∙ c.in-None.is))
    ∙ ap (λ (s : Scope g.row.M.Denot). index_of s c.args.name.now) c.self.view_is

pub returns-then-names_at : goal.returns-then-names_at
returns-then-names_at g c =
    sym (is_index c.self.inside.places (texts c.self.inside.words.items) c.args.name.now c.in-Some.at c.self.invariant (sym c.place_in.ensures ∙ c.in-Some.is) (rw (← c.deref.ensures.value) (sym c.names_at.ensures ∙ c.if-names_at.true)))
    ∙ ap (λ (s : Scope g.row.M.Denot). index_of s c.args.name.now) c.self.view_is

pub returns-else-names_at : goal.returns-else-names_at
returns-else-names_at g c =
    sym (is_no_index c.self.inside.places (texts c.self.inside.words.items) c.args.name.now c.in-Some.at c.self.invariant (sym c.place_in.ensures ∙ c.in-Some.is) (rw (← c.deref.ensures.value) (sym c.names_at.ensures ∙ c.if-names_at.false)))
    ∙ ap (λ (s : Scope g.row.M.Denot). index_of s c.args.name.now) c.self.view_is
