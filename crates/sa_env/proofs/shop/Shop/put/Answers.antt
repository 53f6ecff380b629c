use Rattle.std.proofs.Common.{◌≡◌, ◌∙◌, sym, ap, refl, length}
use Rattle.std.proofs.lemmas.List.Elements.{length_all_zip}
use Rattle.sa_env.specs.declared.env.Env.TheVariants.{Live}
use Rattle.sa_env.specs.Slots.{spans_of}
use Rattle.sa_env.specs.Flat.{IsIn, live}
use Rattle.sa_env.specs.Shop.{Stock, shop_over, flat_of}
use Rattle.sa_env.proofs.Shops.{base_grows, may_be_put, kept, made_belongs, flat_live}
use Rattle.sa_env.proofs.shop.Shop.put.Goals as goal

pub put-requires : goal.put-requires
put-requires c = record {
  alike =
      may_be_put c.self.inside.frame.now c.self.inside.layer c.args.slots.items c.self.invariant
      (sym (length_all_zip IsIn c.args.self.now.limits.tops (spans_of c.args.slots.items) c.requires.fair.1) ∙ sym (ap (λ (s : Stock). length s.limits.tops) c.self.view_is));
}

pub returns-in_err-root-clause-older : goal.returns-in_err-root-clause-older
returns-in_err-root-clause-older c = kept _ _ _ _ c.self.view_is c.in_err-root.ensures.older

value : (c : goal.In_ok-root) → flat_of (shop_over c.self.inside.frame.now c.put.new.self) (Live c.args.clock c.in_ok-root.root) ≡ live c.args.clock (spans_of c.args.slots.items)
value c = flat_live c.self.inside.frame.now c.put.new.self c.args.clock c.in_ok-root.root c.args.slots.items (spans_of c.args.slots.items) c.in_ok-root.ensures.list refl

pub returns-clause-value : goal.returns-clause-value
returns-clause-value c = value c

pub returns-clause-belongs : goal.returns-clause-belongs
returns-clause-belongs c = made_belongs _ _ _ _ _ _ _ c.self.view_is c.in_ok-root.ensures.root (value c) c.requires.fair

pub returns-clause-older : goal.returns-clause-older
returns-clause-older c = kept _ _ _ _ c.self.view_is c.in_ok-root.ensures.older
