use Rattle.std.proofs.Common.{◌≡◌, replicate, rules}
use Rattle.sa_core.specs.declared.event.Branch.TheVariants.{Free}
use Rattle.sa_core.proofs.Keeping.{opened-core}
use Rattle.sa_core.proofs.machine.Core.open.Goals as goal

pub returns-clause-same_work : goal.returns-clause-same_work
returns-clause-same_work g c =
    let items : c.in_ok-vec.field-0.items ≡ replicate c.args.branches Free = search rules in
    rw (items, c.none.ensures) (opened-core (g.met.W.Work.laws c.args.work.now) c.args.branches)
