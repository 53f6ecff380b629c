use Rattle.std.proofs.Common.{◌≡◌, ◌∙◌, sym, ap, refl, subst}
use Rattle.std.proofs.lemmas.Option.{slice_get-map}
use Rattle.std.proofs.Common.{get_or}
use Rattle.std.specs.Prelude.{Some, option_map}
use Rattle.sa_interval.specs.Span.{Span}
use Rattle.sa_shared.specs.Forest.{list_of}
use Rattle.sa_shared.specs.Slots.{EachSlot}
use Rattle.sa_env.specs.Slots.{span_of, spans_of}
use Rattle.sa_env.specs.Flat.{IsIn, cell_of}
use Rattle.sa_env.proofs.Spreading.{in_at}
use Rattle.sa_env.proofs.Shops.{cells_given, given_dead, live_given, fair_given, not_dead, root_given, flat_given}
use Rattle.sa_env.proofs.shop.Shop.cell.Goals as goal

pub get-requires-clause-root : goal.get-requires-clause-root
get-requires-clause-root c = root_given _ _ _ _ _ _ c.self.view_is c.in-Live.is c.requires.belongs

pub returns-in-Dead-clause-value : goal.returns-in-Dead-clause-value
returns-in-Dead-clause-value c = sym (ap (cell_of c.args.c) (given_dead c.args.self.now c.args.e.now c.in-Dead.is))

pub returns-in-Dead-clause-none : goal.returns-in-Dead-clause-none
returns-in-Dead-clause-none c = ((λ _. given_dead c.args.self.now c.args.e.now c.in-Dead.is), (λ _. refl))

pub returns-in-Live-clause-value : goal.returns-in-Live-clause-value
returns-in-Live-clause-value c =
    let xs = list_of c.self.inside.layer c.in-Live.root in
    ap (λ (t : Span). Some t) c.span.ensures ∙ sym (slice_get-map span_of xs c.args.c ∙ ap (option_map span_of) c.get.ensures)
    ∙ sym (ap (cell_of c.args.c) (flat_given _ _ _ _ _ _ c.self.view_is c.in-Live.is))

pub returns-in-Live-clause-none : goal.returns-in-Live-clause-none
returns-in-Live-clause-none c = ((λ h. cc), (λ h. absurd (not_dead c.args.self.now c.args.e.now _ _ c.in-Live.is h)))

pub returns-in-Live-clause-range : goal.returns-in-Live-clause-range
returns-in-Live-clause-range c =
    let xs = list_of c.self.inside.layer c.in-Live.root in
    let h : EachSlot IsIn c.args.self.now.limits.tops (spans_of xs) = cells_given _ _ _ _ _ _ c.self.view_is c.in-Live.is c.requires.belongs in
    subst (λ (t : Span). IsIn (get_or c.args.self.now.limits.tops c.args.c c.span.result) t) (sym c.span.ensures) (in_at c.args.self.now.limits.tops xs c.args.c c.get.result.now c.span.result h c.get.ensures).1
