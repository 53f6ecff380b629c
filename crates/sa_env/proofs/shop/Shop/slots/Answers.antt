use Rattle.std.proofs.Common.{◌≡◌, ◌∙◌, sym, ap, refl, [], List}
use Rattle.sa_env.specs.declared.slot.SlotValue.{SlotValue}
use Rattle.sa_env.specs.Slots.{spans_of}
use Rattle.sa_env.specs.Flat.{cells_of}
use Rattle.sa_env.specs.Shop.{flat_of}
use Rattle.sa_shared.specs.Forest.{list_of}
use Rattle.sa_env.proofs.Lists.{if_ok}
use Rattle.sa_env.proofs.Shops.{given_dead, flat_given, root_given}
use Rattle.sa_env.proofs.shop.Shop.slots.Goals as goal

pub copies-requires : goal.copies-requires
copies-requires c = root_given _ _ _ _ _ _ c.self.view_is c.in-Live.is c.requires.belongs

pub returns-in-Dead : goal.returns-in-Dead
returns-in-Dead c = ap spans_of c.new.ensures.items ∙ sym (ap cells_of (given_dead c.args.self.now c.args.e.now c.in-Dead.is))

pub returns-in-Live : goal.returns-in-Live
returns-in-Live c =
    if_ok (λ slots. slots.items ≡ list_of c.self.inside.layer c.in-Live.root) (λ slots. spans_of slots.items ≡ cells_of (flat_of c.args.self.now c.args.e.now)) c.copies.result
    (λ slots e. ap spans_of e ∙ sym (ap cells_of (flat_given _ _ _ _ _ _ c.self.view_is c.in-Live.is))) c.copies.ensures
