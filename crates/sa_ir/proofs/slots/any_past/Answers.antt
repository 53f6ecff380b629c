use Rattle.std.proofs.Common.{◌∙◌, ◌+◌, ap, sym, List, ℕ, drop, get_or, arith}
use Rattle.std.proofs.lemmas.List.{drop_more, drop_all}
use Rattle.sa_ir.specs.Slots.{any_past}
use Rattle.sa_ir.proofs.RunLemmas.{past-here, past-later}
use Rattle.sa_ir.proofs.slots.any_past.Goals as goal

pub returns-then-saturating_add-len : goal.returns-then-saturating_add-len
returns-then-saturating_add-len c =
    let f = c.ranges.len in
    let t = c.if-saturating_add-len.true in
    let e = c.saturating_add.ensures in
    sym (past-here c.args.len c.args.by (get_or c.args.at.now c.loop-o.o-index 0) (drop (c.loop-o.o-index + 1) c.args.at.now) (omega (arith, f)) (omega (arith, t, e)))
    ∙ ap (λ (l : List ℕ). any_past c.args.len c.args.by l) (sym (drop_more c.args.at.now c.loop-o.o-index 0 c.loop-o-test.true)) ∙ c.loop-o.invariant

pub loop-o-preserved : goal.loop-o-preserved
loop-o-preserved c =
    let f = c.ranges.len in
    let t = c.if-saturating_add-len.false in
    let e = c.saturating_add.ensures in
    sym (past-later c.args.len c.args.by (get_or c.args.at.now c.loop-o.o-index 0) (drop (c.loop-o.o-index + 1) c.args.at.now) (omega (arith, t, e)) (omega (arith, f)))
    ∙ ap (λ (l : List ℕ). any_past c.args.len c.args.by l) (sym (drop_more c.args.at.now c.loop-o.o-index 0 c.loop-o-test.true)) ∙ c.loop-o.invariant

pub returns : goal.returns
unfolding any_past
returns c = ap (λ (l : List ℕ). any_past c.args.len c.args.by l) (sym (drop_all c.loop-o.o-index c.args.at.now c.loop-o-test.false)) ∙ c.loop-o.invariant
