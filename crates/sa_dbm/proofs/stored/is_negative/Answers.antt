use Rattle.std.proofs.Common.{◌∙◌, sym, ap, int_lt, pos}
use Rattle.std.specs.Int.{w128}
use Rattle.std.proofs.lemmas.Int.{to_z-of_z}
use Rattle.sa_dbm.proofs.StoredLaws.{negative-shown}
use Rattle.sa_dbm.proofs.stored.is_negative.Goals as goal

pub returns : goal.returns
returns c = ap (λ z. int_lt z (pos 0)) (to_z-of_z w128 c.args.a c.ranges.a) ∙ sym (negative-shown c.args.a)
