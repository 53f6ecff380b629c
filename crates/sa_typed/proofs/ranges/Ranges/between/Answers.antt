use Rattle.std.proofs.Common.{◌≡◌, ◌∙◌, sym, ap, [], subst, length, ◌<◌}
use Rattle.sa_typed.specs.Ranges.{spans_of}
use Rattle.sa_typed.proofs.SpanLaws.{spans_found}
use Rattle.sa_typed.proofs.ranges.Ranges.between.Goals as goal

-- the spans that are gone over are those of the input
spans_are : (c : goal.After-deref) → c.deref.result.now ≡ spans_of c.args.self.now c.args.i
spans_are c = c.deref.ensures.value
    ∙ spans_found (λ v. v.items) c.self.inside.inputs.items c.args.self.now c.args.i c.index.result.now (ap (λ r. r.inputs) c.self.view_is) c.requires.input c.index.ensures

pub over_spans-requires-clause-spans : goal.over_spans-requires-clause-spans
over_spans-requires-clause-spans c = rw (spans_are c, ← c.self.view_is) (c.self.invariant.spans c.args.i [] (subst (λ r. c.args.i < length r.inputs) (sym c.self.view_is) c.requires.input))
