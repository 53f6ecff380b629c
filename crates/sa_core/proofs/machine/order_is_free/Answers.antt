use Rattle.std.proofs.Common.{◌∙◌, sym}
use Rattle.sa_core.specs.Gathered.{is_taken_in}
use Rattle.sa_core.proofs.Gathering.{gathered-or, gathered-same, whole-gathered}
use Rattle.sa_core.proofs.Keeping.{replayed-gathers}
use Rattle.sa_core.proofs.machine.order_is_free.Goals as goal

pub returns-clause-merged : goal.returns-clause-merged
returns-clause-merged g c n events core h = replayed-gathers (g.met.W.Work.laws c.args.work.now) n events core h

pub returns-clause-whole : goal.returns-clause-whole
returns-clause-whole g c n events core h all =
    let w = c.args.work.now in
    replayed-gathers (g.met.W.Work.laws w) n events core h
    ∙ whole-gathered (g.W.Work.parts w) n (is_taken_in events) all

pub returns-clause-alike : goal.returns-clause-alike
returns-clause-alike g c n events others core other h k same =
    let w = c.args.work.now in
    replayed-gathers (g.met.W.Work.laws w) n events core h
    ∙ gathered-same (g.W.Work.parts w) n (is_taken_in events) (is_taken_in others) same
    ∙ sym (replayed-gathers (g.met.W.Work.laws w) n others other k)

pub returns-clause-grouped : goal.returns-clause-grouped
returns-clause-grouped g c n p q = gathered-or (g.met.W.Work.laws c.args.work.now) n p q
