use Rattle.std.proofs.Common.{◌≡◌, ◌∙◌, ◌+◌, ℕ, sym, ap, refl, List}
use Rattle.sa_shared.specs.Forest.{list_of}
use Rattle.sa_shared.specs.Walks.{in_range, changed}
use Rattle.sa_env.specs.declared.slot.SlotValue.{SlotValue}
use Rattle.sa_env.specs.declared.env.Env.TheVariants.{Live}
use Rattle.sa_env.specs.Slots.{spans_of, slot_weakened}
use Rattle.sa_env.specs.Flat.{weakened, weakly_assigned}
use Rattle.sa_env.specs.Shop.{shop_over, flat_of}
use Rattle.sa_env.proofs.Weak.{weakly_fair, spans_weakened}
use Rattle.sa_env.proofs.Shops.{base_grows, kept, made_belongs, root_given, flat_given, flat_live, flat_dead, given_dead}
use Rattle.sa_env.proofs.shop.Shop.assign_weak_range.Goals as goal

pub change-requires-clause-root : goal.change-requires-clause-root
change-requires-clause-root c = root_given _ _ _ _ _ _ c.self.view_is c.in-Live.is c.requires.belongs

pub returns-in_err-root-in-Live-clause-older : goal.returns-in_err-root-in-Live-clause-older
returns-in_err-root-in-Live-clause-older c = kept _ _ _ _ c.self.view_is c.in_err-root-in-Live.ensures.older

pub returns-in-Dead-clause-value : goal.returns-in-Dead-clause-value
returns-in-Dead-clause-value c = flat_dead c.args.self.now ∙ sym (ap (weakly_assigned c.args.first c.args.count c.args.v) (given_dead c.args.self.now c.args.e.now c.in-Dead.is))

value : (c : goal.After-result-1) → flat_of (shop_over c.self.inside.frame.now c.change.new.self) (Live c.in-Live.clock c.in_ok-root-in-Live.root) ≡ weakly_assigned c.args.first c.args.count c.args.v (flat_of c.args.self.now c.args.e.now)
value c =
    let xs = list_of c.self.inside.layer c.in-Live.root in
    let v = c.args.v in
    let first = c.args.first in
    let count = c.args.count in
    flat_live c.self.inside.frame.now c.change.new.self c.in-Live.clock c.in_ok-root-in-Live.root (changed (in_range first (first + count) (λ n x. slot_weakened v x)) 0 xs) (weakened first count v (spans_of xs))
    (c.in_ok-root-in-Live.ensures.list ∙ ap (λ (n : ℕ). changed (in_range first n (λ n x. slot_weakened v x)) 0 xs) c.end-end.ensures) (spans_weakened v first count xs)
    ∙ sym (ap (weakly_assigned first count v) (flat_given _ _ _ _ _ _ c.self.view_is c.in-Live.is))

pub returns-in_ok-root-in-Live-clause-value : goal.returns-in_ok-root-in-Live-clause-value
returns-in_ok-root-in-Live-clause-value c = value c

pub returns-in_ok-root-in-Live-clause-belongs : goal.returns-in_ok-root-in-Live-clause-belongs
returns-in_ok-root-in-Live-clause-belongs c =
    made_belongs _ _ _ _ _ _ _ c.self.view_is c.in_ok-root-in-Live.ensures.root (value c)
    (weakly_fair c.args.self.now.limits c.args.first c.args.count c.args.v (flat_of c.args.self.now c.args.e.now) c.requires.ranges c.requires.belongs.fair)

pub returns-in_ok-root-in-Live-clause-older : goal.returns-in_ok-root-in-Live-clause-older
returns-in_ok-root-in-Live-clause-older c = kept _ _ _ _ c.self.view_is c.in_ok-root-in-Live.ensures.older
