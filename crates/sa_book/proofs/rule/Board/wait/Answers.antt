use Rattle.std.proofs.Common.{subst}
use Rattle.sa_book.specs.Steps.{Sees}
use Rattle.sa_book.proofs.rule.Board.wait.Goals as goal

pub returns-then-look-clause-sees : goal.returns-then-look-clause-sees
returns-then-look-clause-sees g c = subst (λ me. Sees g.W.Work.fits me.0 c.look.new.token.me) c.loop.invariant.1 c.if-look.ensures.sees
