use Rattle.std.proofs.Common.{rules, length, FitsSigned, below_more}
use Rattle.std.specs.Int.{w128}
use Rattle.std.proofs.lemmas.List.{length_push}
use Rattle.std.proofs.lemmas.Slice.Zip.{zip_turn}
use Rattle.sa_dbm.specs.Bounds.{AtMost}
use Rattle.sa_dbm.specs.Stored.{shown_at, no_bound}
use Rattle.sa_dbm.proofs.StoredLaws.{compared, at_most_holds}
use Rattle.sa_dbm.proofs.entries.all_at_most.Goals as goal

pub returns-then-other-bound : goal.returns-then-other-bound
returns-then-other-bound c =
    let k = length c.loop-bound.yielded in
    let turn = zip_turn c.args.bounds.now c.args.others.now c.loop-bound.yielded c.into_iter-bound-iterator.result c.loop-bound.bound-iterator c.next.new.self c.next.result (cc) (cc) c.loop-bound.yielded_by (c.in-Some.bound, c.in-Some.other) c.in-Some.is c.next.ensures.steps in
    let f : FitsSigned w128 c.in-Some.bound.now = search rules in
    let g : FitsSigned w128 c.in-Some.other.now = search rules in
    (k, turn.0, compared c.args.bounds.now c.args.others.now k c.in-Some.bound.now c.in-Some.other.now _ (turn.2 no_bound) (turn.3 no_bound) f g c.if-other-bound.true)

pub loop-bound-preserved : goal.loop-bound-preserved
loop-bound-preserved c =
    let k = length c.loop-bound.yielded in
    let turn = zip_turn c.args.bounds.now c.args.others.now c.loop-bound.yielded c.into_iter-bound-iterator.result c.loop-bound.bound-iterator c.next.new.self c.next.result (cc) (cc) c.loop-bound.yielded_by (c.in-Some.bound, c.in-Some.other) c.in-Some.is c.next.ensures.steps in
    let f : FitsSigned w128 c.in-Some.bound.now = search rules in
    let g : FitsSigned w128 c.in-Some.other.now = search rules in
    let here = at_most_holds _ _ (compared c.args.bounds.now c.args.others.now k c.in-Some.bound.now c.in-Some.other.now _ (turn.2 no_bound) (turn.3 no_bound) f g c.if-other-bound.false) in
    rw length_push (below_more (λ k. AtMost (shown_at c.args.bounds.now k) (shown_at c.args.others.now k)) k c.loop-bound.invariant here)
