use Rattle.std.proofs.Common.{rules}
use Rattle.sa_program.proofs.Consuming.{consumes_more, refusal_fits}
use Rattle.sa_program.proofs.real.read_to_limit.Goals as goal

pub returns-in-Err-clause-told : goal.returns-in-Err-clause-told
returns-in-Err-clause-told g c =
    let e = c.in-Err.ensures in
    refusal_fits _ _ _ _ _ (search rules) (consumes_more _ _ _ _ _ c.loop-buf.invariant e.keeps e.bytes)

pub loop-buf-preserved : goal.loop-buf-preserved
loop-buf-preserved g c =
    let e = c.read_some.ensures in
    consumes_more _ _ _ _ _ c.loop-buf.invariant e.keeps e.bytes
