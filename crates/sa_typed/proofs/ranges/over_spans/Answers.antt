use Rattle.std.proofs.Common.{◌∙◌, ◌≡◌, sym, pos}
use Rattle.sa_typed.specs.Ranges.{Span, range, at}
use Rattle.sa_typed.specs.Gathering.{gathered}
use Rattle.sa_typed.proofs.SpanLaws.{least_is_one, spans-least, between-least, gathered-step, gathered-end}
use Rattle.sa_typed.proofs.ranges.over_spans.Goals as goal

pub loop-span-preserved : goal.loop-span-preserved
loop-span-preserved c =
    let none : Span = (0, pos 0, pos 0) in
    rw c.with_span-held.ensures
    (gathered-step c.args.from c.args.to (range c.loop-span.held) c.args.spans.now c.loop-span.span-index none c.loop-span-test.true ∙ c.loop-span.invariant)

-- what the loop leaves is what the spans give
held : (c : goal.After-loop-span) → range c.loop-span.held ≡ gathered c.args.from c.args.to (range (pos 0, pos 0)) c.args.spans.now
held c = sym (gathered-end c.args.from c.args.to (range c.loop-span.held) c.args.spans.now c.loop-span.span-index c.loop-span-test.false) ∙ c.loop-span.invariant

pub returns-clause-law : goal.returns-clause-law
returns-clause-law c = rw (held c) (spans-least c.args.spans.now c.args.from c.args.to c.requires.spans c.requires.ordered)

pub returns-clause-value : goal.returns-clause-value
returns-clause-value c =
    least_is_one (at c.args.spans.now) c.args.from c.args.to _ _ (returns-clause-law c) (between-least c.args.spans.now c.args.from c.args.to c.requires.ordered)
