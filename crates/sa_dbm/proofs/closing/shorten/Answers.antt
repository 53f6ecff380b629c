use Rattle.std.proofs.Common.{rules, ◌≡◌, ◌∙◌, ◌+◌, ◌*◌, not, get_or, pos, arith, sym, subst, ap, FitsSigned, below_more}
use Rattle.std.specs.Int.{w128}
use Rattle.std.proofs.lemmas.Bool.{MatchBool-at_true}
use Rattle.sa_dbm.specs.Stored.{stored}
use Rattle.sa_dbm.proofs.Pivots.{negative_walk, FlatPivots, flat_from_test}
use Rattle.sa_dbm.proofs.Shortening.{Totals, totals-first, own_total, totals_more, totals_summable, end_answer, end_walks}
use Rattle.sa_dbm.proofs.closing.shorten.Goals as goal

pub loop-pivot-init : goal.loop-pivot-init
loop-pivot-init c = record { totals = totals-first c.args.vars c.args.bounds.now; flat = λ h b. absurd (omega arith) }

pub returns-then-is_negative-clause-answer : goal.returns-then-is_negative-clause-answer
unfolding stored
returns-then-is_negative-clause-answer c =
    let k = c.loop-pivot.pivot in
    let n = 2 * c.args.vars in
    let f : FitsSigned w128 (get_or c.loop-pivot.bounds (k * n + k) (pos 0)) = search rules in
    let own = own_total c.args.vars k c.args.bounds.now c.loop-pivot.bounds c.is_negative.result (c.loop-pivot.auto.bounds ∙ c.requires.square) c.loop-pivot-test.true c.loop-pivot.invariant.totals f c.is_negative.ensures in
    ap not (sym (negative_walk (stored c.args.vars c.args.bounds.now) k k c.requires.matrix (omega arith) c.loop-pivot-test.true (sym own ∙ c.if-is_negative.true)))

pub lower_by_pivot-requires-clause-summable : goal.lower_by_pivot-requires-clause-summable
lower_by_pivot-requires-clause-summable c =
    totals_summable c.args.vars c.loop-pivot.pivot c.args.bounds.now c.loop-pivot.bounds c.requires.few (omega arith) c.requires.within c.loop-pivot.invariant.totals

pub loop-pivot-preserved : goal.loop-pivot-preserved
loop-pivot-preserved c =
    let k = c.loop-pivot.pivot in
    let n = 2 * c.args.vars in
    let f : FitsSigned w128 (get_or c.loop-pivot.bounds (k * n + k) (pos 0)) = search rules in
    let own = own_total c.args.vars k c.args.bounds.now c.loop-pivot.bounds c.is_negative.result (c.loop-pivot.auto.bounds ∙ c.requires.square) c.loop-pivot-test.true c.loop-pivot.invariant.totals f c.is_negative.ensures in
    record {
      totals = totals_more (stored c.args.vars c.args.bounds.now) n k c.loop-pivot.bounds c.lower_by_pivot.new.bounds c.loop-pivot-test.true c.loop-pivot.invariant.totals c.lower_by_pivot.ensures;
      flat = below_more _ k c.loop-pivot.invariant.flat (flat_from_test _ (sym own ∙ c.if-is_negative.false));
    }

pub returns-clause-answer : goal.returns-clause-answer
returns-clause-answer c =
    let done : c.loop-pivot.pivot ≡ 2 * c.args.vars = omega arith in
    let m = stored c.args.vars c.args.bounds.now in
    end_answer c.args.vars c.args.bounds.now c.loop-pivot.bounds c.requires.matrix (c.loop-pivot.auto.bounds ∙ c.requires.square)
    (subst (λ k. Totals m (2 * c.args.vars) k c.loop-pivot.bounds) done c.loop-pivot.invariant.totals) (subst (FlatPivots m) done c.loop-pivot.invariant.flat)
    c.is_flat.result c.is_flat.ensures

pub returns-clause-walks : goal.returns-clause-walks
returns-clause-walks c =
    let done : c.loop-pivot.pivot ≡ 2 * c.args.vars = omega arith in
    let m = stored c.args.vars c.args.bounds.now in
    λ t. end_walks c.args.vars c.args.bounds.now c.loop-pivot.bounds c.requires.matrix (c.loop-pivot.auto.bounds ∙ c.requires.square)
    (subst (λ k. Totals m (2 * c.args.vars) k c.loop-pivot.bounds) done c.loop-pivot.invariant.totals) (subst (FlatPivots m) done c.loop-pivot.invariant.flat)
    (MatchBool-at_true _ _ t c.is_flat.ensures)
