use Rattle.std.proofs.Common.{◌∙◌, ap, [], ◌∷◌, ◌++◌}
use Rattle.sa_interval.specs.Span.{Span}
use Rattle.sa_transfer.proofs.StoreLaws.{spans_more, spans_end}
use Rattle.sa_transfer.proofs.cells.spans_at.Goals as goal

pub loop-k-preserved : goal.loop-k-preserved
loop-k-preserved c =
    spans_more c.args.spans.now c.args.ks.now c.loop-k.k-index 0 c.loop-k.all.items c.push.new.self.items _ c.loop-k-test.true
    (c.in_ok-push.ensures.items ∙ ap (λ (s : Span). c.loop-k.all.items ++ s ∷ []) c.cell_span.ensures) c.loop-k.invariant

pub returns : goal.returns
returns c = spans_end c.args.spans.now c.args.ks.now c.loop-k.k-index c.loop-k.all.items _ c.loop-k-test.false c.loop-k.invariant
