use Rattle.std.proofs.Common.{rules, ◌∙◌, get_or, pos, arith, ap, sym, FitsSigned, below_more}
use Rattle.std.specs.Int.{w128}
use Rattle.sa_dbm.specs.Bounds.{is_negative}
use Rattle.sa_dbm.proofs.StoredLaws.{read_is, sum_read}
use Rattle.sa_dbm.proofs.Pivots.{flat_from_test}
use Rattle.sa_dbm.proofs.closing.contradict.Goals as goal

pub sum-requires-clause-first : goal.sum-requires-clause-first
sum-requires-clause-first c =
    let f : FitsSigned w128 (get_or c.args.first.now c.loop-i.i (pos 0)) = search rules in
    rw (read_is c.args.first.now c.loop-i.i (omega arith) f) (c.requires.first c.loop-i.i c.loop-i-test.true)

pub sum-requires-clause-second : goal.sum-requires-clause-second
sum-requires-clause-second c =
    let f : FitsSigned w128 (get_or c.args.second.now c.loop-i.i (pos 0)) = search rules in
    rw (read_is c.args.second.now c.loop-i.i (omega arith) f) (c.requires.second c.loop-i.i c.loop-i-test.true)

pub returns-then-is_negative : goal.returns-then-is_negative
returns-then-is_negative c =
    let i = c.loop-i.i in
    let f : FitsSigned w128 (get_or c.args.first.now i (pos 0)) = search rules in
    let g : FitsSigned w128 (get_or c.args.second.now i (pos 0)) = search rules in
    let e = sum_read c.args.first.now c.args.second.now i c.sum.result (omega arith) (omega arith) f g (record { sfits = c.sum.type_inv }) c.sum.ensures in
    (i, c.loop-i-test.true, ap is_negative (sym e) ∙ sym c.is_negative.ensures ∙ c.if-is_negative.true)

pub loop-i-preserved : goal.loop-i-preserved
loop-i-preserved c =
    let i = c.loop-i.i in
    let f : FitsSigned w128 (get_or c.args.first.now i (pos 0)) = search rules in
    let g : FitsSigned w128 (get_or c.args.second.now i (pos 0)) = search rules in
    let e = sum_read c.args.first.now c.args.second.now i c.sum.result (omega arith) (omega arith) f g (record { sfits = c.sum.type_inv }) c.sum.ensures in
    below_more _ i c.loop-i.invariant (flat_from_test _ (ap is_negative (sym e) ∙ sym c.is_negative.ensures ∙ c.if-is_negative.false))
