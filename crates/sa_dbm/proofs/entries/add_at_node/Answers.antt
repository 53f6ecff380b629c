use Rattle.std.proofs.Common.{◌∙◌, ◌+◌, ◌*◌, sym, subst, arith}
use Rattle.sa_dbm.specs.Stored.{IsSummable}
use Rattle.sa_dbm.proofs.StoredLaws.{places_differ}
use Rattle.sa_dbm.proofs.NodeLaws.{added_skip, added_more}
use Rattle.sa_dbm.proofs.entries.add_at_node.Goals as goal
use Rattle.sa_dbm.proofs.entries.add_at_node.Goals.{then-i-node, else-i-node}

pub add_at-requires-then-i-node-clause-bound : goal.add_at-requires-then-i-node-clause-bound
add_at-requires-then-i-node-clause-bound c =
    let n = c.args.nodes in
    let v = c.args.node in
    let i = c.loop-i.i in
    let apart = c.add_at.ensures.others (i * n + v) (places_differ n v i i v c.loop-i-test.true c.requires.node (λ e _. c.if-i-node.true e)) in
    subst IsSummable (sym (apart ∙ c.loop-i.invariant.others i v c.loop-i-test.true c.requires.node (λ e _. absurd (c.if-i-node.true e)) (λ _ b. absurd (omega arith))))
    (c.requires.summable i v c.loop-i-test.true c.requires.node)

pub loop-i-preserved : goal.loop-i-preserved
loop-i-preserved c =
    let n = c.args.nodes in
    let v = c.args.node in
    let i = c.loop-i.i in
    elim c.if-i-node.branch [
      | then-i-node w ↦
          rw w.bounds-is (added_more n v i c.args.bounds.now c.loop-i.bounds _ _ c.requires.node c.loop-i-test.true c.loop-i.invariant w.add_at.new.bounds w.add_at-then-i-node.new.bounds w.if-i-node.true
          w.add_at.ensures.here w.add_at.ensures.others w.add_at-then-i-node.ensures.here w.add_at-then-i-node.ensures.others)
      | else-i-node w ↦ rw w.bounds-is (added_skip n v i c.args.bounds.now c.loop-i.bounds _ _ c.requires.node c.loop-i-test.true c.loop-i.invariant w.if-i-node.false)
    ]
