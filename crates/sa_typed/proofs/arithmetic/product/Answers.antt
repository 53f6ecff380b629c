use Rattle.std.proofs.Common.{◌≡◌, ◌∙◌, ◌*◌, false, pos, unsigned_abs, FitsSigned, to_z, of_z, ap, sym}
use mir.Syntax.{w128}
use Rattle.std.proofs.lemmas.Int.{to_z-of_z}
use Rattle.sa_typed.specs.Arithmetic.{is_signed, wrapped}
use Rattle.sa_typed.proofs.ArithmeticLaws.{unsigned_fits, magnitude_small}
use Rattle.sa_typed.proofs.arithmetic.product.Goals as goal

pub returns-else-is_signed : goal.returns-else-is_signed
returns-else-is_signed c =
    let x : c.unsigned_abs.result ≡ unsigned_abs c.args.x = c.unsigned_abs.ensures.value ∙ ap unsigned_abs (to_z-of_z w128 c.args.x c.ranges.x) in
    let y : c.unsigned_abs-else-is_signed.result ≡ unsigned_abs c.args.y = c.unsigned_abs-else-is_signed.ensures.value ∙ ap unsigned_abs (to_z-of_z w128 c.args.y c.ranges.y) in
    let fits : FitsSigned w128 c.unsigned_product.result = record { sfits = c.unsigned_product.type_inv } in
    let is : c.unsigned_product.result ≡ wrapped c.args.num (pos (unsigned_abs c.args.x * unsigned_abs c.args.y)) = rw (x, y) at c.unsigned_product.ensures in
    let unsigned : is_signed c.args.num ≡ false = sym c.if-is_signed.ensures in
    let made : to_z w128 (of_z w128 c.unsigned_product.result) ≡ wrapped c.args.num (pos (unsigned_abs c.args.x * unsigned_abs c.args.y)) = to_z-of_z w128 c.unsigned_product.result fits ∙ is in
    rw made (unsigned_fits c.args.num c.args.x c.args.y unsigned (magnitude_small c.args.num c.args.x unsigned c.requires.x).0 (magnitude_small c.args.num c.args.y unsigned c.requires.y).0)
