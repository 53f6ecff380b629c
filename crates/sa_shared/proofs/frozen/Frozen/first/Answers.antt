use Rattle.std.proofs.Common.{subst}
use Rattle.sa_shared.specs.Forest.{Belongs}
use Rattle.sa_shared.proofs.frozen.Frozen.first.Goals as goal

pub returns-clause-belongs : goal.returns-clause-belongs
returns-clause-belongs g c =
    subst (λ f. Belongs g.T.Slot.like f c.self.inside.first) c.self.view_is c.self.invariant
