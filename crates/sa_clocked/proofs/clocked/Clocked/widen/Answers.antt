use Rattle.sa_clocked.proofs.TripleLaws.{either_holds, escaped}
use Rattle.sa_clocked.proofs.clocked.Clocked.widen.Goals as goal

pub returns-clause-between : goal.returns-clause-between
returns-clause-between c =
    let v = c.widen.ensures.between in
    let m = escaped c.args.self.minus c.args.new.minus c.args.top.minus c.escape.result c.escape.ensures c.requires.old.minus c.requires.new.minus in
    let p = escaped c.args.self.plus c.args.new.plus c.args.top.plus c.escape-2.result c.escape-2.ensures c.requires.old.plus c.requires.new.plus in
    (record { v = v.holds_old; minus = m.0; plus = p.0 }, record { v = v.holds_new; minus = m.1; plus = p.1 }, record { v = v.inside; minus = m.2; plus = p.2 })

pub returns-clause-holds : goal.returns-clause-holds
returns-clause-holds c = λ x t h.
    let b = returns-clause-between c in
    either_holds c.args.self c.args.new _ b.0 b.1 x t h
