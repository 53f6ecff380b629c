use Rattle.std.proofs.Common.{refl}
use Rattle.std.specs.Int.{w128}
use Rattle.std.proofs.lemmas.Int.{to_z-of_z}
use Rattle.sa_scopes.proofs.ConstantLemmas.{left_operand, right_operand}
use Rattle.sa_scopes.proofs.constant.Constant.operated.Goals as goal

pub operate-requires-clause-left : goal.operate-requires-clause-left
operate-requires-clause-left c =
    let e = to_z-of_z w128 c.value.result (record { sfits = c.value.type_inv }) in
    rw (e, c.value.ensures.value) (left_operand c.args.op c.args.self.num c.args.other.num c.working-num.result c.args.self.value (rw (c.working-num.ensures, c.num.ensures, c.num-2.ensures) refl) c.value.ensures.of_type)

pub operate-requires-clause-right : goal.operate-requires-clause-right
operate-requires-clause-right c =
    let e = to_z-of_z w128 c.value-2.result (record { sfits = c.value-2.type_inv }) in
    rw (e, c.value-2.ensures.value) (right_operand c.args.op c.args.self.num c.args.other.num c.working-num.result c.args.other.value (rw (c.working-num.ensures, c.num.ensures, c.num-2.ensures) refl) c.value-2.ensures.of_type)
