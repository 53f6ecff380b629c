use Rattle.std.proofs.Common.{rules, ◌≡◌, ◌∙◌, get_or, pos, FitsSigned, arith, subst, ap, ap₂}
use Rattle.std.specs.Int.{w128}
use Rattle.std.proofs.lemmas.Int.{to_z-of_z}
use Rattle.sa_dbm.specs.Bounds.{plus, lesser}
use Rattle.sa_dbm.specs.Stored.{shown, shown_at}
use Rattle.sa_dbm.proofs.StoredLaws.{read_is, place_more, place_past}
use Rattle.sa_dbm.proofs.closing.lower_row.Goals as goal

pub sum-requires-clause-second : goal.sum-requires-clause-second
sum-requires-clause-second c =
    let f : FitsSigned w128 (get_or c.args.others.now c.loop-i.i (pos 0)) = search rules in
    rw (read_is c.args.others.now c.loop-i.i (omega arith) f) (c.requires.others c.loop-i.i (omega arith))

pub loop-i-preserved : goal.loop-i-preserved
loop-i-preserved c =
    let i = c.loop-i.i in
    let f : FitsSigned w128 (get_or c.args.others.now i (pos 0)) = search rules in
    let sum = ap shown (to_z-of_z w128 c.sum.result (record { sfits = c.sum.type_inv })) ∙ rw (read_is c.args.others.now i (omega arith) f) at c.sum.ensures in
    record {
      lowered =
          place_more c.loop-i.row c.lower_at.new.bounds i _ c.loop-i.invariant.lowered c.lower_at.ensures.others
          (c.lower_at.ensures.here ∙ ap₂ lesser (c.loop-i.invariant.untouched i (omega arith)) sum);
      untouched = λ k h. c.lower_at.ensures.others k (place_past i k h) ∙ c.loop-i.invariant.untouched k (omega arith);
    }

pub returns : goal.returns
returns c = λ k h. subst (λ z. shown_at c.loop-i.row k ≡ lesser (shown_at c.args.row.now k) (plus (shown z) (shown_at c.args.others.now k))) (to_z-of_z w128 c.args.by c.ranges.by) (c.loop-i.invariant.lowered k (omega arith))
