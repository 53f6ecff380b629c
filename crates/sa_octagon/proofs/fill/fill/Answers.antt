use Rattle.std.proofs.Common.{◌∙◌, ◌+◌, ◌/◌, ◌%◌, sym, subst, ap, arith}
use Rattle.sa_octagon.specs.Filled.{at_place, lowered_to, IsFilled}
use Rattle.sa_octagon.proofs.Filling.{place_is, filled_start, filled_more, filled_skip}
use Rattle.sa_octagon.proofs.fill.fill.Goals as goal
use Rattle.sa_octagon.proofs.fill.fill.Goals.{then-i-count+then-j-count+then-i-j, else-i-count, else-i-count-via-then-i-count+then-j-count+else-i-j, else-i-count-via-then-i-count+else-j-count, else-i-count-via-else-i-count}

pub lower_to-requires-clause-bound : goal.lower_to-requires-clause-bound
lower_to-requires-clause-bound c = λ z e.
    let k = c.loop-at.at in
    c.requires.entries.sizes (k / 16) (k % 16) z c.if-i-count.true c.if-j-count.true c.if-i-j.true (sym (place_is c.args.entries.now k) ∙ e)

pub loop-at-init : goal.loop-at-init
loop-at-init c =
    filled_start c.args.count (at_place c.args.entries.now) c.requires.few c.requires.entries c.args.matrix.now c.requires.size c.requires.matrix c.requires.within c.requires.empty

pub loop-at-preserved : goal.loop-at-preserved
loop-at-preserved c =
    let f = at_place c.args.entries.now in
    let k = c.loop-at.at in
    let n = c.args.count in
    let m = c.loop-at.matrix in
    elim c.if-i-count.branch [
      | then-i-count+then-j-count+then-i-j w ↦
          subst (IsFilled n f (k + 1)) (sym (w.matrix-is ∙ w.lower_to.ensures ∙ ap (lowered_to m (k / 16) (k % 16)) (place_is c.args.entries.now k)))
          (filled_more n f c.requires.few c.requires.entries m (k / 16) (k % 16) k w.if-i-count.true w.if-j-count.true w.if-i-j.true (omega arith) c.loop-at.invariant)
      | else-i-count w ↦
          subst (IsFilled n f (k + 1)) (sym w.matrix-is)
          (filled_skip n f c.requires.few c.requires.entries m k
          (elim w.else-i-count.branch [
            | else-i-count-via-then-i-count+then-j-count+else-i-j w' ↦ λ p q a b d e. d (let same = w'.if-i-j.false in let few = c.requires.few in omega arith)
            | else-i-count-via-then-i-count+else-j-count w' ↦ λ p q a b d e. (let out = w'.if-j-count.false in let few = c.requires.few in absurd (omega arith))
            | else-i-count-via-else-i-count w' ↦ λ p q a b d e. (let out = w'.if-i-count.false in let few = c.requires.few in absurd (omega arith))
          ])
          c.loop-at.invariant)
    ]
