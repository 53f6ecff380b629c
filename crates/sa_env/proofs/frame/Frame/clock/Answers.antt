use Rattle.sa_env.specs.Flat.{Limits, IsFair, top_of}
use Rattle.std.proofs.Common.{subst, sym}
use Rattle.sa_env.proofs.Fairness.{top_fair}
use Rattle.sa_env.proofs.frame.Frame.clock.Goals as goal

pub returns-clause-fair : goal.returns-clause-fair
returns-clause-fair c = subst (λ (l : Limits). IsFair l (top_of l)) (c.self.view_is) (top_fair _ c.self.invariant)
