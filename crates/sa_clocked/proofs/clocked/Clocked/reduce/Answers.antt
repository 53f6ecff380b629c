use Rattle.sa_clocked.proofs.TripleLaws.{rule_holds, rule_never, rule_below, rule_none}
use Rattle.sa_clocked.proofs.clocked.Clocked.reduce.Goals as goal

pub returns-clause-none : goal.returns-clause-none
returns-clause-none c = rule_none c.args.self c.args.clock c.meets.result c.meets.ensures

pub returns-clause-holds : goal.returns-clause-holds
returns-clause-holds c = λ x t h k. rule_holds c.args.self c.args.clock c.meets.result c.meets.ensures c.requires.triple c.requires.clock x t h k

pub returns-clause-never : goal.returns-clause-never
returns-clause-never c = λ x t h k n. rule_never c.args.self c.args.clock c.meets.result c.meets.ensures c.requires.triple c.requires.clock x t h k n

pub returns-clause-below : goal.returns-clause-below
returns-clause-below c = rule_below c.args.self c.args.clock c.meets.result c.meets.ensures
