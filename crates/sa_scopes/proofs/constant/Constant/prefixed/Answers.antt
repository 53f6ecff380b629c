use Rattle.std.proofs.Common.{refl}
use Rattle.std.specs.Int.{w128}
use Rattle.std.proofs.lemmas.Int.{to_z-of_z}
use Rattle.sa_scopes.proofs.ConstantLemmas.{prefix_operand}
use Rattle.sa_scopes.proofs.constant.Constant.prefixed.Goals as goal

pub operate-requires : goal.operate-requires
operate-requires c =
    let e = to_z-of_z w128 c.value.result (record { sfits = c.value.type_inv }) in
    rw (e, c.value.ensures.value) (prefix_operand c.args.self.num c.promoted-num.result c.args.self.value (rw (c.promoted-num.ensures, c.num.ensures) refl) c.value.ensures.of_type)
