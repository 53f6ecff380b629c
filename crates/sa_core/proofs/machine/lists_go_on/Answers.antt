use Rattle.sa_core.proofs.Lists.{replayed-append, claims-first, given-up}
use Rattle.sa_core.specs.Machine.{opened}
use Rattle.sa_core.proofs.machine.lists_go_on.Goals as goal

pub returns-clause-follows : goal.returns-clause-follows
returns-clause-follows g c n first others core h =
    let m = g.W.Work.parts c.args.work.now in
    replayed-append m first others (opened m n) core h

pub returns-clause-claims_first : goal.returns-clause-claims_first
returns-clause-claims_first g c n w first others core h none = claims-first (g.met.W.Work.laws c.args.work.now) n w first others core h none

pub returns-clause-given_up : goal.returns-clause-given_up
returns-clause-given_up g c n w k first core h met = given-up (g.W.Work.parts c.args.work.now) n w k first core h met
