use Rattle.std.proofs.Common.{◌∙◌, ◌≡◌, sym, ap, option_map, Some, None, List}
use Rattle.serde_json.specs.View.{view}
use Rattle.sa_ranges.specs.Table.{begin_well, all_fit}
use Rattle.sa_ranges.specs.declared.fault.RangesFault.TheVariants.{Name, Spans, Bounds}
use Rattle.sa_ranges.proofs.RowLemmas.{shape_told, name_told, spans_are_told, bounds_are_told, nothing_told}
use Rattle.sa_ranges.proofs.names.check_name.Goals as goal

pub returns-in_default-clause-fault : goal.returns-in_default-clause-fault
returns-in_default-clause-fault c = shape_told c.args.version c.args.allowed c.args.name.now (view c.args.value.now) (sym c.in_ok-spans.ensures ∙ ap (option_map (λ v. v.items)) c.in_default.is)

pub returns-in_default-allowed-clause-fault : goal.returns-in_default-allowed-clause-fault
returns-in_default-allowed-clause-fault c =
    name_told c.args.version c.args.allowed c.args.name.now (view c.args.value.now) _ (sym c.in_ok-spans.ensures ∙ ap (option_map (λ v. v.items)) c.in-Some.is) c.in_default-allowed.is
    ∙ ap (λ n. Some (Name n)) (sym c.in_ok-of_bytes.ensures)

pub returns-then-not-begin_well-clause-fault : goal.returns-then-not-begin_well-clause-fault
returns-then-not-begin_well-clause-fault c =
    spans_are_told c.args.version c.args.allowed _ c.args.name.now (view c.args.value.now) _ (sym c.in_ok-spans.ensures ∙ ap (option_map (λ v. v.items)) c.in-Some.is) c.in-Some-allowed.is
    (ap begin_well (sym c.deref.ensures.value) ∙ sym c.if-not-begin_well.ensures)
    ∙ ap (λ n. Some (Spans n)) (sym c.in_ok-of_bytes-2.ensures)

pub returns-then-not-all_fit-clause-fault : goal.returns-then-not-all_fit-clause-fault
returns-then-not-all_fit-clause-fault c =
    bounds_are_told c.args.version c.args.allowed _ c.args.name.now (view c.args.value.now) _ (sym c.in_ok-spans.ensures ∙ ap (option_map (λ v. v.items)) c.in-Some.is) c.in-Some-allowed.is
    (ap begin_well (sym c.deref.ensures.value) ∙ sym c.if-not-begin_well.ensures)
    (ap (all_fit c.in-Some-allowed.allowed) (sym c.deref-2.ensures.value) ∙ sym c.if-not-all_fit.ensures)
    ∙ ap (λ n. Some (Bounds n)) (sym c.in_ok-of_bytes-3.ensures)

pub returns-clause-ok : goal.returns-clause-ok
returns-clause-ok c =
    nothing_told c.args.version c.args.allowed _ c.args.name.now (view c.args.value.now) _ (sym c.in_ok-spans.ensures ∙ ap (option_map (λ v. v.items)) c.in-Some.is) c.in-Some-allowed.is
    (ap begin_well (sym c.deref.ensures.value) ∙ sym c.if-not-begin_well.ensures)
    (ap (all_fit c.in-Some-allowed.allowed) (sym c.deref-2.ensures.value) ∙ sym c.if-not-all_fit.ensures)
