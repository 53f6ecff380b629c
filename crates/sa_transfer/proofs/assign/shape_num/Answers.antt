use Rattle.std.proofs.Common.{sym, arith, Bool}
use Rattle.std.specs.Prelude.{IsTrue}
use Rattle.std.proofs.lemmas.Bool.{false≢true}
use Rattle.sa_transfer.proofs.ChangeLaws.{array_num}
use Rattle.sa_transfer.proofs.assign.shape_num.Goals as goal

pub returns-then-not-is_empty : goal.returns-then-not-is_empty
returns-then-not-is_empty c = λ structs.
    sym (array_num structs c.args.shape.now (λ e. let t : IsTrue c.is_empty.result = c.is_empty.ensures.1 e in let f = c.if-not-is_empty.true in grind (arith, t, f)))
