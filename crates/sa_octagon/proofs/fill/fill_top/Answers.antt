use Rattle.std.proofs.Common.{◌∙◌, ◌*◌, ◌+◌, ◌≤◌, ◌/◌, ◌%◌, Some, length, sym, subst, ap, arith}
use Rattle.sa_octagon.specs.Packs.{reach_between}
use Rattle.sa_octagon.specs.Filled.{lowered_to, IsFilled}
use Rattle.sa_octagon.proofs.Filling.{filled_more, filled_skip}
use Rattle.sa_octagon.proofs.Ends.{stored_again}
use Rattle.sa_octagon.proofs.Tops.{span_entries, top_start}
use Rattle.sa_octagon.proofs.fill.fill_top.Goals as goal
use Rattle.sa_octagon.proofs.fill.fill_top.Goals.{then-i-nodes+then-j-nodes+then-i-j, else-i-nodes, else-i-nodes-via-then-i-nodes+then-j-nodes+else-i-j, else-i-nodes-via-then-i-nodes+else-j-nodes, else-i-nodes-via-else-i-nodes}

pub loop-at-init : goal.loop-at-init
loop-at-init c = top_start c.args.spans.now c.args.matrix.now c.requires.some c.requires.few c.requires.small c.requires.empty

pub loop-at-preserved : goal.loop-at-preserved
loop-at-preserved c =
    let spans = c.args.spans.now in
    let k = c.loop-at.at in
    let n = 2 * length spans in
    let m = c.loop-at.matrix in
    let few : n ≤ 16 = omega (arith, c.requires.few) in
    let entries = span_entries spans c.requires.small in
    elim c.if-i-nodes.branch [
      | then-i-nodes+then-j-nodes+then-i-j w ↦
          subst (IsFilled n (reach_between spans) (k + 1)) (sym (w.matrix-is ∙ w.lower_to.ensures ∙ ap (lowered_to m (k / 16) (k % 16)) (ap Some (stored_again w.reach_between.result w.reach_between.ensures.size) ∙ w.reach_between.ensures.value)))
          (filled_more n (reach_between spans) few entries m (k / 16) (k % 16) k w.if-i-nodes.true w.if-j-nodes.true w.if-i-j.true (omega arith) c.loop-at.invariant)
      | else-i-nodes w ↦
          subst (IsFilled n (reach_between spans) (k + 1)) (sym w.matrix-is)
          (filled_skip n (reach_between spans) few entries m k
          (elim w.else-i-nodes.branch [
            | else-i-nodes-via-then-i-nodes+then-j-nodes+else-i-j w' ↦ λ p q a b d e. d (let same = w'.if-i-j.false in omega arith)
            | else-i-nodes-via-then-i-nodes+else-j-nodes w' ↦ λ p q a b d e. (let out = w'.if-j-nodes.false in absurd (omega arith))
            | else-i-nodes-via-else-i-nodes w' ↦ λ p q a b d e. (let out = w'.if-i-nodes.false in absurd (omega arith))
          ])
          c.loop-at.invariant)
    ]
