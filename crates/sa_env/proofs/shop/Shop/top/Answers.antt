use Rattle.std.proofs.Common.{◌≡◌, ◌∙◌, sym, ap, refl, length}
use Rattle.sa_interval.specs.Span.{Span}
use Rattle.sa_env.specs.declared.env.Env.TheVariants.{Live}
use Rattle.sa_env.specs.Slots.{spans_of}
use Rattle.sa_env.specs.Flat.{Flat, live, whole_clock, top_of, IsFair}
use Rattle.sa_env.specs.Shop.{Stock, shop_over, flat_of}
use Rattle.sa_env.proofs.Shops.{base_grows, may_be_put, kept, belongs_live, flat_live}
use Rattle.sa_env.proofs.shop.Shop.top.Goals as goal

pub put-requires : goal.put-requires
put-requires c = record { alike = may_be_put c.self.inside.frame.now c.self.inside.layer c.in_ok-tops.field-0.items c.self.invariant (ap length c.in_ok-tops.ensures) }

pub returns-in_err-root-clause-older : goal.returns-in_err-root-clause-older
returns-in_err-root-clause-older c = kept _ _ _ _ c.self.view_is c.in_err-root.ensures.older

value : (c : goal.In_ok-root) → flat_of (shop_over c.self.inside.frame.now c.put.new.self) (Live c.clock-clock.result c.in_ok-root.root) ≡ top_of c.self.inside.frame.now
value c =
    flat_live c.self.inside.frame.now c.put.new.self c.clock-clock.result c.in_ok-root.root c.in_ok-tops.field-0.items c.self.inside.frame.now.tops c.in_ok-root.ensures.list c.in_ok-tops.ensures
    ∙ ap (λ (t : Span). live t c.self.inside.frame.now.tops) c.clock-clock.ensures.value

pub returns-clause-value : goal.returns-clause-value
returns-clause-value c = value c ∙ ap (λ (s : Stock). top_of s.limits) c.self.view_is

pub returns-clause-belongs : goal.returns-clause-belongs
returns-clause-belongs c = belongs_live c.self.inside.frame.now c.put.new.self c.clock-clock.result c.in_ok-root.root (top_of c.self.inside.frame.now) c.in_ok-root.ensures.root (value c) c.clock-clock.ensures.fair

pub returns-clause-older : goal.returns-clause-older
returns-clause-older c = kept _ _ _ _ c.self.view_is c.in_ok-root.ensures.older
