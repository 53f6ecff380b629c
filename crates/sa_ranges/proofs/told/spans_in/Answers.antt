use Rattle.std.proofs.Common.{◌∙◌, sym}
use Rattle.sa_ranges.proofs.ToldLemmas.{spans_step, spans_stop, spans_end}
use Rattle.sa_ranges.proofs.told.spans_in.Goals as goal

pub returns-in-None : goal.returns-in-None
returns-in-None c =
    spans_stop c.loop-item.spans.items c.args.items.now c.loop-item.item-index c.item-item.result c.loop-item-test.true c.item-item.is (sym c.span_of.ensures ∙ c.in-None.is) ∙ c.loop-item.invariant

pub loop-item-preserved : goal.loop-item-preserved
loop-item-preserved c =
    rw c.in_ok-push-in-Some.ensures.items
    (spans_step c.loop-item.spans.items c.args.items.now c.loop-item.item-index c.item-item.result c.in-Some.span c.loop-item-test.true c.item-item.is (sym c.span_of.ensures ∙ c.in-Some.is) ∙ c.loop-item.invariant)

pub returns : goal.returns
returns c = spans_end c.loop-item.spans.items c.args.items.now c.loop-item.item-index c.loop-item-test.false ∙ c.loop-item.invariant
