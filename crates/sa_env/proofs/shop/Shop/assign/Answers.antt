use Rattle.std.proofs.Common.{◌≡◌, ◌∙◌, sym, ap, set, rules}
use Rattle.std.proofs.lemmas.List.{map-set}
use Rattle.sa_shared.specs.Forest.{list_of}
use Rattle.sa_env.specs.declared.env.Env.TheVariants.{Live}
use Rattle.sa_env.specs.declared.slot.SlotValue.TheVariants.{Cell}
use Rattle.sa_env.specs.Slots.{span_of, spans_of}
use Rattle.sa_env.specs.Flat.{assigned}
use Rattle.sa_env.specs.Shop.{shop_over, flat_of}
use Rattle.sa_env.proofs.Fairness.{assigned_fair}
use Rattle.sa_env.proofs.Shops.{base_grows, kept, made_belongs, root_given, flat_given, flat_live, flat_dead, given_dead, belongs_dead}
use Rattle.sa_env.proofs.shop.Shop.assign.Goals as goal

pub set-requires-clause-root : goal.set-requires-clause-root
set-requires-clause-root c = root_given _ _ _ _ _ _ c.self.view_is c.in-Live.is c.requires.belongs

pub invariant_of-self : goal.invariant_of-self
invariant_of-self c = base_grows _ _ _ c.self.invariant c.in_err-root-in-Live.ensures.older

pub returns-in_err-root-in-Live-clause-older : goal.returns-in_err-root-in-Live-clause-older
returns-in_err-root-in-Live-clause-older c = kept _ _ _ _ c.self.view_is c.in_err-root-in-Live.ensures.older

pub invariant_of-self-in-Live : goal.invariant_of-self-in-Live
invariant_of-self-in-Live c = base_grows _ _ _ c.self.invariant c.in_ok-root-in-Live.ensures.older

pub returns-in-Dead-clause-value : goal.returns-in-Dead-clause-value
returns-in-Dead-clause-value c = flat_dead c.args.self.now ∙ sym (ap (assigned c.args.c c.args.v) (given_dead c.args.self.now c.args.e.now c.in-Dead.is))

pub returns-in-Dead-clause-belongs : goal.returns-in-Dead-clause-belongs
returns-in-Dead-clause-belongs c = belongs_dead c.args.self.now

value : (c : goal.After-result-1) → flat_of (shop_over c.self.inside.frame.now c.set.new.self) (Live c.in-Live.clock c.in_ok-root-in-Live.root) ≡ assigned c.args.c c.args.v (flat_of c.args.self.now c.args.e.now)
value c =
    let xs = list_of c.self.inside.layer c.in-Live.root in
    flat_live c.self.inside.frame.now c.set.new.self c.in-Live.clock c.in_ok-root-in-Live.root (set xs c.args.c (Cell c.args.v)) (set (spans_of xs) c.args.c c.args.v)
    (c.in_ok-root-in-Live.ensures.list ∙ ap (set xs c.args.c) c.cell.ensures.value) (map-set span_of xs c.args.c (Cell c.args.v))
    ∙ sym (ap (assigned c.args.c c.args.v) (flat_given _ _ _ _ _ _ c.self.view_is c.in-Live.is))

pub returns-in_ok-root-in-Live-clause-value : goal.returns-in_ok-root-in-Live-clause-value
returns-in_ok-root-in-Live-clause-value c = value c

pub returns-in_ok-root-in-Live-clause-belongs : goal.returns-in_ok-root-in-Live-clause-belongs
returns-in_ok-root-in-Live-clause-belongs c =
    made_belongs _ _ _ _ _ _ _ c.self.view_is c.in_ok-root-in-Live.ensures.root (value c)
    (assigned_fair c.args.self.now.limits c.args.c c.args.v (flat_of c.args.self.now c.args.e.now) (record { ordered = c.cell.ensures.whole.ordered; part = c.requires.range }) c.requires.belongs.fair)

pub returns-in_ok-root-in-Live-clause-older : goal.returns-in_ok-root-in-Live-clause-older
returns-in_ok-root-in-Live-clause-older c = kept _ _ _ _ c.self.view_is c.in_ok-root-in-Live.ensures.older
