use Rattle.std.proofs.Common.{◌≡◌, ◌∙◌, sym, ap, refl, List}
use Rattle.sa_env.proofs.Shops.{given_dead, flat_given, root_given}
use Rattle.sa_shared.specs.Forest.{list_of}
use Rattle.sa_env.specs.declared.walks.Hull.{Hull}
use Rattle.sa_env.proofs.Hulls.{hull_between, none_between}
use Rattle.sa_env.specs.Flat.{join_between}
use Rattle.sa_env.proofs.shop.Shop.cells_join.Goals as goal

pub fold-requires-clause-root : goal.fold-requires-clause-root
fold-requires-clause-root c = root_given _ _ _ _ _ _ c.self.view_is c.in-Live.is c.requires.belongs

pub returns-in-Dead : goal.returns-in-Dead
returns-in-Dead c = sym (ap (join_between c.args.first c.args.count) (given_dead c.args.self.now c.args.e.now c.in-Dead.is) ∙ none_between c.args.first c.args.count)

pub returns-in-Live : goal.returns-in-Live
returns-in-Live c =
    ap (λ (h : Hull). h.span) c.fold.ensures
    ∙ hull_between c.args.first c.args.count c.end-end.result (list_of c.self.inside.layer c.in-Live.root) c.end-end.ensures
    ∙ sym (ap (join_between c.args.first c.args.count) (flat_given _ _ _ _ _ _ c.self.view_is c.in-Live.is))
