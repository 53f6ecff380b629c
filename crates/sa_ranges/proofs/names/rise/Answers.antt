use Rattle.std.proofs.Common.{◌∙◌, sym}
use Rattle.sa_ranges.proofs.TableLemmas.{rise_step, rise_stop, rise_end}
use Rattle.sa_ranges.proofs.names.rise.Goals as goal

pub returns-then-not-follows : goal.returns-then-not-follows
returns-then-not-follows c = rise_stop c.loop-span.last c.args.spans.now c.loop-span.span-index _ c.loop-span-test.true (sym (c.if-not-follows.ensures)) ∙ c.loop-span.invariant

pub loop-span-preserved : goal.loop-span-preserved
loop-span-preserved c = rise_step c.loop-span.last c.args.spans.now c.loop-span.span-index _ c.loop-span-test.true (sym c.if-not-follows.ensures) ∙ c.loop-span.invariant

pub returns : goal.returns
returns c = rise_end c.loop-span.last c.args.spans.now c.loop-span.span-index c.loop-span-test.false ∙ c.loop-span.invariant
