use Rattle.std.proofs.Common.{◌≡◌, ◌∙◌, sym, ap, refl, subst, List}
use Rattle.std.specs.Prelude.{Option}
use Rattle.sa_interval.specs.Span.{Span}
use Rattle.sa_shared.specs.Forest.{list_of}
use Rattle.sa_env.specs.declared.env.Env.{Env}
use Rattle.sa_env.specs.Slots.{spans_of}
use Rattle.sa_env.specs.Flat.{Flat, IsFair, at_clock, clock_of, with_clock}
use Rattle.sa_env.specs.Shop.{flat_of, env_at, Belongs}
use Rattle.sa_env.proofs.Fairness.{with_clock_fair}
use Rattle.sa_env.proofs.Shops.{flat_dead, given_dead, live_given, root_given, flat_at, belongs_at, stock_is}
use Rattle.sa_env.proofs.shop.Shop.with_clock.Goals as goal

pub returns-in-Dead-clause-value : goal.returns-in-Dead-clause-value
returns-in-Dead-clause-value c =
    flat_dead c.args.self.now ∙ sym (ap (λ (x : Flat). with_clock x (flat_of c.args.self.now c.args.of.now)) (given_dead c.args.self.now c.args.e.now c.in-Dead.is))

value : (c : goal.After-env_at) → flat_of c.args.self.now (env_at c.clock.result c.in-Live.root) ≡ with_clock (flat_of c.args.self.now c.args.e.now) (flat_of c.args.self.now c.args.of.now)
value c =
    let s = c.args.self.now in
    flat_at s c.clock.result c.in-Live.root
    ∙ ap (λ (o : Option Span). at_clock o (spans_of (list_of s.lists c.in-Live.root))) c.clock.ensures.value
    ∙ sym (ap (λ (x : Flat). with_clock x (flat_of s c.args.of.now)) (live_given s c.args.e.now c.in-Live.clock c.in-Live.root c.in-Live.is))

pub returns-in-Live-clause-value : goal.returns-in-Live-clause-value
returns-in-Live-clause-value c = ap (λ (e : Env). flat_of c.args.self.now e) c.env_at.ensures ∙ value c

pub returns-in-Live-clause-belongs : goal.returns-in-Live-clause-belongs
returns-in-Live-clause-belongs c =
    let s = c.args.self.now in
    subst (λ (e : Env). Belongs s e) (sym c.env_at.ensures)
    (belongs_at s.limits s.lists s c.clock.result c.in-Live.root (stock_is s) (root_given _ _ _ _ _ _ (stock_is s) c.in-Live.is c.requires.belongs)
    (subst (λ (x : Flat). IsFair s.limits x) (sym (value c)) (with_clock_fair s.limits (flat_of s c.args.e.now) (flat_of s c.args.of.now) c.requires.belongs.fair c.requires.of.fair)))
