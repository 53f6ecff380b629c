use Rattle.std.proofs.Common.{◌≡◌, ◌∙◌, sym, ap, refl, List, subst}
use Rattle.sa_interval.specs.Span.{Span, IsPart}
use Rattle.sa_shared.specs.Forest.{list_of}
use Rattle.sa_shared.specs.Walks.{combined}
use Rattle.sa_env.specs.declared.env.Env.TheVariants.{Live}
use Rattle.sa_env.specs.Slots.{spans_of}
use Rattle.sa_env.specs.Walks.{spread_at}
use Rattle.sa_env.specs.Flat.{Flat, live, Limits, whole_clock, widened_clock, widened_spans, spread}
use Rattle.sa_env.specs.Shop.{Stock, shop_over, flat_of}
use Rattle.sa_env.proofs.Fairness.{spread_fair}
use Rattle.sa_env.proofs.Spreading.{spans_spread, are_under}
use Rattle.sa_env.proofs.Shops.{base_grows, kept, made_belongs, root_given, flat_given, live_given, given_dead, given_in, flat_live, named_length, of_two}
use Rattle.sa_env.proofs.shop.Shop.spread.Goals as goal

pub combine-requires-clause-first : goal.combine-requires-clause-first
combine-requires-clause-first c = root_given _ _ _ _ _ _ c.self.view_is c.in-Live-Live.is-0 c.requires.first

pub combine-requires-clause-second : goal.combine-requires-clause-second
combine-requires-clause-second c = root_given _ _ _ _ _ _ c.self.view_is c.in-Live-Live.is-1 c.requires.second

pub combine-requires-clause-fits : goal.combine-requires-clause-fits
combine-requires-clause-fits c =
    are_under c.self.inside.frame.now.tops (list_of c.self.inside.layer c.in-Live-Live.root) (list_of c.self.inside.layer c.in-Live-Live.other_root)
    (given_in _ _ _ _ _ _ c.self.view_is c.in-Live-Live.is-0 c.requires.first).1
    (given_in _ _ _ _ _ _ c.self.view_is c.in-Live-Live.is-1 c.requires.second).1

pub returns-in_err-root-in-Live-Live-clause-older : goal.returns-in_err-root-in-Live-Live-clause-older
returns-in_err-root-in-Live-Live-clause-older c = kept _ _ _ _ c.self.view_is c.in_err-root-in-Live-Live.ensures.older

pub widened_clock-requires : goal.widened_clock-requires
widened_clock-requires c = record {
  old = subst (λ (t : Span). IsPart c.in-Live-Live.clock t) (sym c.clock.ensures.value) (given_in _ _ _ _ _ _ c.self.view_is c.in-Live-Live.is-0 c.requires.first).0.part;
}

pub returns-in-Dead-default-clause-value : goal.returns-in-Dead-default-clause-value
returns-in-Dead-default-clause-value c =
    sym (ap (λ (x : Flat). spread c.args.self.now.limits c.args.thresholds.now c.args.pass x (flat_of c.args.self.now c.args.b.now)) (given_dead c.args.self.now c.args.a.now c.in-Dead-default.is-0))

pub returns-in_default-Dead-clause-value : goal.returns-in_default-Dead-clause-value
returns-in_default-Dead-clause-value c =
    let g = live_given c.args.self.now c.args.a.now _ _ c.in_default-Dead.is-0 in
    g ∙ sym (of_two (spread c.args.self.now.limits c.args.thresholds.now c.args.pass) _ _ _ _ g (given_dead c.args.self.now c.args.b.now c.in_default-Dead.is-1))

value : (c : goal.After-widened_clock) → flat_of (shop_over c.self.inside.frame.now c.combine.new.self) (Live c.widened_clock.result c.in_ok-root-in-Live-Live.root)
    ≡ spread c.args.self.now.limits c.args.thresholds.now c.args.pass (flat_of c.args.self.now c.args.a.now) (flat_of c.args.self.now c.args.b.now)
value c =
    let l = c.self.inside.frame.now in
    let ts = c.args.thresholds.now in
    let xs = list_of c.self.inside.layer c.in-Live-Live.root in
    let ys = list_of c.self.inside.layer c.in-Live-Live.other_root in
    let t = c.in-Live-Live.clock in
    let u = c.in-Live-Live.other_clock in
    let n = named_length l c.self.inside.layer c.in-Live-Live.root c.self.invariant (root_given _ _ _ _ _ _ c.self.view_is c.in-Live-Live.is-0 c.requires.first) in
    flat_live l c.combine.new.self c.widened_clock.result c.in_ok-root-in-Live-Live.root (combined (spread_at l.tops ts c.args.pass) 0 xs ys) (widened_spans ts c.args.pass l.tops (spans_of xs) (spans_of ys))
    c.in_ok-root-in-Live-Live.ensures.list (spans_spread l.tops ts c.args.pass xs ys n)
    ∙ ap (λ (w : Span). live w (widened_spans ts c.args.pass l.tops (spans_of xs) (spans_of ys))) (c.widened_clock.ensures ∙ ap (λ (w : Span). widened_clock w t u) c.clock.ensures.value)
    ∙ ap (λ (s : Stock). spread s.limits ts c.args.pass (live t (spans_of xs)) (live u (spans_of ys))) c.self.view_is
    ∙ sym (of_two (spread c.args.self.now.limits ts c.args.pass) _ _ _ _ (flat_given _ _ _ _ _ _ c.self.view_is c.in-Live-Live.is-0) (flat_given _ _ _ _ _ _ c.self.view_is c.in-Live-Live.is-1))

pub returns-in_ok-root-in-Live-Live-clause-value : goal.returns-in_ok-root-in-Live-Live-clause-value
returns-in_ok-root-in-Live-Live-clause-value c = value c

pub returns-in_ok-root-in-Live-Live-clause-belongs : goal.returns-in_ok-root-in-Live-Live-clause-belongs
returns-in_ok-root-in-Live-Live-clause-belongs c =
    made_belongs _ _ _ _ _ _ _ c.self.view_is c.in_ok-root-in-Live-Live.ensures.root (value c)
    (spread_fair c.args.self.now.limits c.args.thresholds.now c.args.pass (flat_of c.args.self.now c.args.a.now) (flat_of c.args.self.now c.args.b.now) c.requires.first.fair c.requires.second.fair)

pub returns-in_ok-root-in-Live-Live-clause-older : goal.returns-in_ok-root-in-Live-Live-clause-older
returns-in_ok-root-in-Live-Live-clause-older c = kept _ _ _ _ c.self.view_is c.in_ok-root-in-Live-Live.ensures.older
