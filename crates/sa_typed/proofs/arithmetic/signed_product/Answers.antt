use mir.Syntax.{w128}
use Rattle.std.proofs.lemmas.Int.{to_z-of_z}
use Rattle.sa_typed.proofs.ArithmeticLaws.{product_fits}
use Rattle.sa_typed.proofs.arithmetic.signed_product.Goals as goal

pub returns : goal.returns
returns c = rw (to_z-of_z w128 c.args.x c.ranges.x, to_z-of_z w128 c.args.y c.ranges.y) (to_z-of_z w128 _ (product_fits c.args.x c.args.y c.requires.x c.requires.y))
