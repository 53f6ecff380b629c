use Rattle.std.proofs.Common.{◌≡◌, rules}
use Rattle.sa_operators.specs.Operators.{range_of}
use Rattle.sa_operators.proofs.FitLaws.{type_range}
use Rattle.sa_operators.proofs.operators.range_of.Goals as goal

pub returns-clause-whole : goal.returns-clause-whole
returns-clause-whole c =
    let is : c.new.result ≡ range_of c.args.num = search rules in
    rw is (type_range c.args.num)
