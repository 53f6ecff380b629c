use Rattle.std.proofs.Common.{◌≡◌, ◌∙◌, sym, ap, refl, List}
use Rattle.sa_interval.specs.Span.{Span}
use Rattle.sa_interval.specs.Rows.{join_of}
use Rattle.sa_shared.specs.Forest.{list_of}
use Rattle.sa_shared.specs.Slots.{slotwise}
use Rattle.sa_env.specs.declared.env.Env.TheVariants.{Live}
use Rattle.sa_env.specs.Slots.{spans_of, slot_join}
use Rattle.sa_env.specs.Flat.{Flat, live, join}
use Rattle.sa_env.specs.Shop.{shop_over, flat_of}
use Rattle.sa_env.proofs.Fairness.{join_fair}
use Rattle.sa_env.proofs.Lists.{spans_join}
use Rattle.sa_env.proofs.Shops.{base_grows, kept, made_belongs, root_given, flat_given, live_given, given_dead, flat_live, of_two}
use Rattle.sa_env.proofs.shop.Shop.join.Goals as goal

pub joined-requires-clause-first : goal.joined-requires-clause-first
joined-requires-clause-first c = root_given _ _ _ _ _ _ c.self.view_is c.in-Live-Live.is-0 c.requires.first

pub joined-requires-clause-second : goal.joined-requires-clause-second
joined-requires-clause-second c = root_given _ _ _ _ _ _ c.self.view_is c.in-Live-Live.is-1 c.requires.second

pub returns-in_err-root-in-Live-Live-clause-older : goal.returns-in_err-root-in-Live-Live-clause-older
returns-in_err-root-in-Live-Live-clause-older c = kept _ _ _ _ c.self.view_is c.in_err-root-in-Live-Live.ensures.older

pub returns-in-Dead-default-clause-value : goal.returns-in-Dead-default-clause-value
returns-in-Dead-default-clause-value c =
    sym (ap (λ (x : Flat). join x (flat_of c.args.self.now c.args.b.now)) (given_dead c.args.self.now c.args.a.now c.in-Dead-default.is-0))

pub returns-in_default-Dead-clause-value : goal.returns-in_default-Dead-clause-value
returns-in_default-Dead-clause-value c =
    let g = live_given c.args.self.now c.args.a.now _ _ c.in_default-Dead.is-0 in
    g ∙ sym (of_two join _ _ _ _ g (given_dead c.args.self.now c.args.b.now c.in_default-Dead.is-1))

value : (c : goal.After-join) → flat_of (shop_over c.self.inside.frame.now c.joined.new.layer) (Live c.join.result c.in_ok-root-in-Live-Live.root) ≡ join (flat_of c.args.self.now c.args.a.now) (flat_of c.args.self.now c.args.b.now)
value c =
    let xs = list_of c.self.inside.layer c.in-Live-Live.root in
    let ys = list_of c.self.inside.layer c.in-Live-Live.other_root in
    flat_live c.self.inside.frame.now c.joined.new.layer c.join.result c.in_ok-root-in-Live-Live.root (slotwise slot_join xs ys) (slotwise join_of (spans_of xs) (spans_of ys)) c.in_ok-root-in-Live-Live.ensures.list (spans_join xs ys)
    ∙ ap (λ (t : Span). live t (slotwise join_of (spans_of xs) (spans_of ys))) c.join.ensures.row
    ∙ sym (of_two join _ _ _ _ (flat_given _ _ _ _ _ _ c.self.view_is c.in-Live-Live.is-0) (flat_given _ _ _ _ _ _ c.self.view_is c.in-Live-Live.is-1))

pub returns-in_ok-root-in-Live-Live-clause-value : goal.returns-in_ok-root-in-Live-Live-clause-value
returns-in_ok-root-in-Live-Live-clause-value c = value c

pub returns-in_ok-root-in-Live-Live-clause-belongs : goal.returns-in_ok-root-in-Live-Live-clause-belongs
returns-in_ok-root-in-Live-Live-clause-belongs c =
    made_belongs _ _ _ _ _ _ _ c.self.view_is c.in_ok-root-in-Live-Live.ensures.root (value c)
    (join_fair c.args.self.now.limits (flat_of c.args.self.now c.args.a.now) (flat_of c.args.self.now c.args.b.now) c.requires.first.fair c.requires.second.fair)

pub returns-in_ok-root-in-Live-Live-clause-older : goal.returns-in_ok-root-in-Live-Live-clause-older
returns-in_ok-root-in-Live-Live-clause-older c = kept _ _ _ _ c.self.view_is c.in_ok-root-in-Live-Live.ensures.older
