use Rattle.std.proofs.Common.{◌∙◌, sym, ap, subst, List, map}
use Rattle.sa_typed.specs.Ranges.{Span, InputRanges, AreOf, clock_unless_told, whole_type}
use Rattle.sa_typed.proofs.SpanLaws.{ordered_types, spans_of_map, types_suit}
use Rattle.sa_typed.proofs.ranges.Ranges.widest.Goals as goal

pub of-requires-clause-spans : goal.of-requires-clause-spans
of-requires-clause-spans c =
    spans_of_map (λ v. v.items) c.in_ok-inputs.inputs.items (map whole_type c.args.program.now.inputs)
    (c.in_ok-inputs.ensures ∙ ap (map whole_type) c.as_slice.ensures) (ordered_types c.args.program.now.inputs)

pub returns-clause-value : goal.returns-clause-value
unfolding clock_unless_told
returns-clause-value c =
    let made : List (List Span) → InputRanges = λ inputs. record { max_clock = clock_unless_told; inputs = inputs } in
    c.of.ensures ∙ ap made (c.in_ok-inputs.ensures ∙ ap (map whole_type) c.as_slice.ensures)

pub returns-clause-suits : goal.returns-clause-suits
returns-clause-suits c = subst (λ r. AreOf r c.args.program.now) (sym (returns-clause-value c)) (types_suit c.args.program.now.inputs)
