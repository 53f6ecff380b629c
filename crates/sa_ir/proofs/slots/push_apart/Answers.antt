use Rattle.std.proofs.Common.{◌∙◌, ◌∷◌, [], ◌++◌, ap, ℕ, arith}
use Rattle.sa_ir.specs.declared.slots.Elements.{Elements}
use Rattle.sa_ir.specs.Slots.{moved_on, apart}
use Rattle.sa_ir.proofs.RunLemmas.{apart-more, apart-end}
use Rattle.sa_ir.proofs.slots.push_apart.Goals as goal

pub loop-k-preserved : goal.loop-k-preserved
loop-k-preserved c =
    let f = c.ranges.len in
    apart-more c.args.len c.args.row.width c.args.row.n c.loop-k.k c.args.elements.now c.loop-k.all.items c.push.new.self.items
    (c.args.all.now.items ++ apart c.args.len c.args.row.width c.args.row.n 0 c.args.elements.now) (omega (arith, f)) c.loop-k-test.true
    (c.in_ok-push.ensures.items ∙ ap (λ (e : Elements). c.loop-k.all.items ++ e ∷ []) (c.in_ok-moved_on.ensures ∙ ap (λ (k : ℕ). moved_on c.args.len k c.args.elements.now) c.saturating_mul-by.ensures))
    c.loop-k.invariant

pub returns : goal.returns
returns c =
    apart-end c.args.len c.args.row.width c.args.row.n c.loop-k.k c.args.elements.now c.loop-k.all.items
    (c.args.all.now.items ++ apart c.args.len c.args.row.width c.args.row.n 0 c.args.elements.now) c.loop-k-test.false c.loop-k.invariant
