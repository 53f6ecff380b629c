use Rattle.sa_gen.specs.Source.{case_line}
use Rattle.sa_gen.proofs.Lines.{lines-more, lines-over}
use Rattle.sa_gen.proofs.push_cases.Goals as goal

pub loop-i-preserved : goal.loop-i-preserved
loop-i-preserved c = lines-more case_line c.args.n c.loop-i.i _ _ _ c.loop-i-test.true c.in_ok-push_case.ensures c.loop-i.invariant

pub returns : goal.returns
returns c = lines-over case_line c.args.n c.loop-i.i _ _ c.loop-i-test.false c.loop-i.invariant
