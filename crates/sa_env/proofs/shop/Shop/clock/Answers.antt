use Rattle.std.proofs.Common.{◌≡◌, ◌∙◌, sym, ap, refl, subst}
use Rattle.sa_env.specs.Flat.{clock_of}
use Rattle.sa_env.proofs.Shops.{given_dead, live_given, fair_given, not_dead}
use Rattle.sa_env.proofs.shop.Shop.clock.Goals as goal

pub returns-in-Dead-clause-value : goal.returns-in-Dead-clause-value
returns-in-Dead-clause-value c = sym (ap clock_of (given_dead c.args.self.now c.args.e.now c.in-Dead.is))

pub returns-in-Dead-clause-none : goal.returns-in-Dead-clause-none
returns-in-Dead-clause-none c = ((λ _. given_dead c.args.self.now c.args.e.now c.in-Dead.is), (λ _. refl))

pub returns-in-Live-clause-value : goal.returns-in-Live-clause-value
returns-in-Live-clause-value c = sym (ap clock_of (live_given c.args.self.now c.args.e.now _ _ c.in-Live.is))

pub returns-in-Live-clause-none : goal.returns-in-Live-clause-none
returns-in-Live-clause-none c = ((λ h. cc), (λ h. absurd (not_dead c.args.self.now c.args.e.now _ _ c.in-Live.is h)))

pub returns-in-Live-clause-range : goal.returns-in-Live-clause-range
returns-in-Live-clause-range c = (fair_given c.args.self.now c.args.e.now _ _ c.in-Live.is c.requires.belongs).0
