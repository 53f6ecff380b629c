use Rattle.std.proofs.Common.{◌≡◌, ◌∙◌, sym, ap, refl, subst, List, pos}
use Rattle.std.specs.Prelude.{Option}
use Rattle.sa_interval.specs.Span.{Span}
use Rattle.sa_interval.specs.Rows.{meet_of, sum_of, single}
use Rattle.sa_shared.specs.Forest.{list_of}
use Rattle.sa_env.specs.declared.env.Env.{Env}
use Rattle.sa_env.specs.Slots.{spans_of}
use Rattle.sa_env.specs.Flat.{Flat, IsFair, whole_clock, at_clock, ticked}
use Rattle.sa_env.specs.Shop.{Stock, flat_of, env_at, Belongs}
use Rattle.sa_env.proofs.Fairness.{ticked_fair}
use Rattle.sa_env.proofs.Shops.{flat_dead, given_dead, live_given, root_given, flat_at, belongs_at, stock_is}
use Rattle.sa_env.proofs.shop.Shop.tick.Goals as goal

pub returns-in-Dead-clause-value : goal.returns-in-Dead-clause-value
returns-in-Dead-clause-value c =
    flat_dead c.args.self.now ∙ sym (ap (λ (x : Flat). ticked c.args.self.now.limits x) (given_dead c.args.self.now c.args.e.now c.in-Dead.is))

clock_is : (c : goal.After-env_at) → c.meet.result ≡ meet_of (sum_of c.in-Live.clock (single (pos 1))) (whole_clock c.args.self.now.limits)
clock_is c =
    let one : c.new.result ≡ single (pos 1) = c.new.ensures in
    c.meet.ensures.row
    ∙ ap (λ (t : Span). meet_of t c.clock.result) (c.add-next.ensures.row ∙ ap (λ (t : Span). sum_of c.in-Live.clock t) one)
    ∙ ap (λ (t : Span). meet_of (sum_of c.in-Live.clock (single (pos 1))) t) (c.clock.ensures.value ∙ ap (λ (s : Stock). whole_clock s.limits) c.self.view_is)

value : (c : goal.After-env_at) → flat_of c.args.self.now (env_at c.meet.result c.in-Live.root) ≡ ticked c.args.self.now.limits (flat_of c.args.self.now c.args.e.now)
value c =
    let s = c.args.self.now in
    flat_at s c.meet.result c.in-Live.root
    ∙ ap (λ (o : Option Span). at_clock o (spans_of (list_of s.lists c.in-Live.root))) (clock_is c)
    ∙ sym (ap (λ (x : Flat). ticked s.limits x) (live_given s c.args.e.now c.in-Live.clock c.in-Live.root c.in-Live.is))

pub returns-clause-value : goal.returns-clause-value
returns-clause-value c = ap (λ (e : Env). flat_of c.args.self.now e) c.env_at.ensures ∙ value c

pub returns-clause-belongs : goal.returns-clause-belongs
returns-clause-belongs c =
    let s = c.args.self.now in
    subst (λ (e : Env). Belongs s e) (sym c.env_at.ensures)
    (belongs_at s.limits s.lists s c.meet.result c.in-Live.root (stock_is s) (root_given _ _ _ _ _ _ (stock_is s) c.in-Live.is c.requires.belongs)
    (subst (λ (x : Flat). IsFair s.limits x) (sym (value c)) (ticked_fair s.limits (flat_of s c.args.e.now) c.requires.belongs.fair)))
