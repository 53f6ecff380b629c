use Rattle.std.proofs.Common.{◌∙◌, sym, ap, refl, string_bytes}
use Rattle.std.proofs.lemmas.Result.{err_from_is_err_and}
use Rattle.serde_json.specs.View.{view}
use Rattle.sa_ranges.specs.Inputs.{range_in_map}
use Rattle.sa_ranges.specs.Table.{first, name_rows}
use Rattle.sa_ranges.proofs.MemberLemmas.{names_step, names_stop, names_end}
use Rattle.sa_ranges.proofs.RowLemmas.{row_at, tells_more}
use Rattle.sa_ranges.proofs.names.check_names.Goals as goal

pub returns-in_default-clause-ok : goal.returns-in_default-clause-ok
unfolding name_rows first
returns-in_default-clause-ok c = rw c.in_default.is refl

pub loop-name-preserved : goal.loop-name-preserved
loop-name-preserved c =
    let f = range_in_map c.args.by_names.now in
    names_step c.args.version f c.loop-name.name-iterator (c.in-Some-2.name.now, c.in-Some-2.value.now) c.next.new.self c.in-Some-2.ensures.steps
    (ap first (row_at c.args.version f c.as_bytes-name.result.now (string_bytes c.in-Some-2.name.now) c.allowed_in.result (view c.in-Some-2.value.now) c.as_bytes-name.ensures.value c.allowed_in.ensures) ∙ c.in_ok-check_name.ensures.ok)
    ∙ c.loop-name.invariant

pub returns-in_err-check_name-clause-fault : goal.returns-in_err-check_name-clause-fault
returns-in_err-check_name-clause-fault c =
    let f = range_in_map c.args.by_names.now in
    let p = err_from_is_err_and c.from_residual.result c.from_residual.ensures.1 in
    rw (p.1, p.2)
    (tells_more _ _ c.in_err-check_name.field-0.0
    (λ g t. sym c.loop-name.invariant
    ∙ names_stop c.args.version f c.loop-name.name-iterator (c.in-Some-2.name.now, c.in-Some-2.value.now) c.next.new.self g c.in-Some-2.ensures.steps
    (ap first (row_at c.args.version f c.as_bytes-name.result.now (string_bytes c.in-Some-2.name.now) c.allowed_in.result (view c.in-Some-2.value.now) c.as_bytes-name.ensures.value c.allowed_in.ensures) ∙ t))
    c.in_err-check_name.ensures.fault)

pub returns-clause-ok : goal.returns-clause-ok
returns-clause-ok c = sym c.loop-name.invariant ∙ names_end c.args.version (range_in_map c.args.by_names.now) c.loop-name.name-iterator c.in-None.ensures.steps.0
