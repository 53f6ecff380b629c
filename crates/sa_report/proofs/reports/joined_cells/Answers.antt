use Rattle.std.proofs.Common.{◌≤◌, arith, length}
use Rattle.std.specs.Prelude.{min}
use Rattle.sa_interval.specs.Rows.{join_of}
use Rattle.sa_report.proofs.ReportLemmas.{zip-over}
use Rattle.sa_report.proofs.reports.joined_cells.Goals as goal

pub returns : goal.returns
returns c =
    let a = c.args.a.now in
    let b = c.args.b.now in
    let end : min (length a) (length b) ≤ c.loop-k.k = (let e = c.min-k-end.ensures in let f = c.loop-k-test.false in omega (arith, e, f)) in
    zip-over join_of a b c.loop-k.k c.loop-k.all _ end c.loop-k.invariant
