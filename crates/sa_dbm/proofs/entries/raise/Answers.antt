use Rattle.std.proofs.Common.{rules, ◌≢◌, ◌∙◌, ℕ, ◌+◌, ◌≤◌, ap, ap₂, get_or, pos, FitsSigned, arith}
use Rattle.std.specs.Int.{w128}
use Rattle.std.proofs.lemmas.Int.{to_z-of_z}
use Rattle.sa_dbm.specs.Bounds.{greater}
use Rattle.sa_dbm.specs.Stored.{shown, shown_at}
use Rattle.sa_dbm.proofs.StoredLaws.{read_is, filled_more, shown_at-set_other, shown-max}
use Rattle.sa_dbm.proofs.entries.raise.Goals as goal

pub loop-i-preserved : goal.loop-i-preserved
loop-i-preserved c =
    let i = c.loop-i.i in
    let xs = c.loop-i.bounds in
    let ys = c.args.others.now in
    let f : FitsSigned w128 (get_or xs i (pos 0)) = search rules in
    let g : FitsSigned w128 (get_or ys i (pos 0)) = search rules in
    let old = ap shown (read_is xs i (omega arith) f) ∙ c.loop-i.invariant.untouched i (omega arith) in
    record {
      raised =
          filled_more xs i _ (λ k. greater (shown_at c.args.bounds.now k) (shown_at ys k)) (omega arith) c.loop-i.invariant.raised
          (ap shown (to_z-of_z w128 c.max.result (record { sfits = c.max.type_inv }) ∙ c.max.ensures.value) ∙ shown-max _ _
          ∙ ap₂ greater old (ap shown (read_is ys i (omega arith) g)));
      untouched = λ k h. shown_at-set_other xs i k _ (above_differs k i h) ∙ c.loop-i.invariant.untouched k (omega arith);
    }
  where
    above_differs : (k i : ℕ) → i + 1 ≤ k → k ≢ i
    above_differs k i h = omega arith
