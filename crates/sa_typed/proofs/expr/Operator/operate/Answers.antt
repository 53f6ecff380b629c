use Rattle.std.proofs.Common.{◌≡◌}
use mir.Syntax.{w128}
use Rattle.std.proofs.lemmas.Int.{to_z-of_z}
use Rattle.sa_typed.specs.Arithmetic.{operate}
use Rattle.sa_typed.proofs.ArithmeticLaws.{operate_of}
use Rattle.sa_typed.proofs.expr.Operator.operate.Goals as goal

pub returns-clause-of_type : goal.returns-clause-of_type
returns-clause-of_type c =
    let is : c.operated.result ≡ operate c.args.self c.args.num c.args.x c.args.y = rw (to_z-of_z w128 c.args.x c.ranges.x, to_z-of_z w128 c.args.y c.ranges.y) at c.operated.ensures in
    rw is (operate_of c.args.self c.args.num c.args.x c.args.y c.requires.left c.requires.right)
