use Rattle.std.proofs.Common.{◌∙◌, sym}
use Rattle.sa_ranges.proofs.TableLemmas.{fit_step, fit_stop, fit_end}
use Rattle.sa_ranges.proofs.names.all_fit.Goals as goal

pub returns-then-not-span_fits : goal.returns-then-not-span_fits
returns-then-not-span_fits c = fit_stop c.args.allowed c.args.spans.now c.loop-span.span-index _ c.loop-span-test.true (sym (c.if-not-span_fits.ensures)) ∙ c.loop-span.invariant

pub loop-span-preserved : goal.loop-span-preserved
loop-span-preserved c = fit_step c.args.allowed c.args.spans.now c.loop-span.span-index _ c.loop-span-test.true (sym c.if-not-span_fits.ensures) ∙ c.loop-span.invariant

pub returns : goal.returns
returns c = fit_end c.args.allowed c.args.spans.now c.loop-span.span-index c.loop-span-test.false ∙ c.loop-span.invariant
