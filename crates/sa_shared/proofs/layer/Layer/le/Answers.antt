use Rattle.std.proofs.Common.{sym, subst}
use Rattle.sa_shared.specs.Forest.{Belongs}
use Rattle.sa_shared.proofs.Lists.{each_between}
use Rattle.sa_shared.proofs.layer.Layer.le.Goals as goal

pub le-requires-clause-alike : goal.le-requires-clause-alike
le-requires-clause-alike g c =
    let like = g.T.Slot.like in
    let laws = g.met.T.Slot.laws in
    let nodes = c.self.inside.nodes in
    let a = subst (λ f. Belongs like f c.args.a) (sym c.self.view_is) c.requires.first in
    let b = subst (λ f. Belongs like f c.args.b) (sym c.self.view_is) c.requires.second in
    each_between like laws.like_back laws.like_on _ _ _ a.alike b.alike
