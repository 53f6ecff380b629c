use Rattle.std.proofs.Common.{◌∙◌, ◌≡◌, refl, sym, ap, subst, map, option_map, None, Ok}
use Rattle.std.proofs.lemmas.Result.{err_from_is_err_and}
use Rattle.serde_json.specs.View.{view, members_view}
use Rattle.sa_typed.specs.Ranges.{AreOf}
use Rattle.sa_typed.proofs.SpanLaws.{spans_of_map}
use Rattle.sa_ranges.specs.Answer.{spans_for}
use Rattle.sa_ranges.specs.Keys.{members_in}
use Rattle.sa_ranges.specs.Inputs.{range_in_map, range_named}
use Rattle.sa_ranges.specs.Table.{first, name_rows}
use Rattle.sa_ranges.proofs.FileLemmas.{IsFile, shape_1, shape_2, shape_3, shape_4, shape_5, name_refused, accepted, clock_is_small, all_in_order, suits, names_pass, made_of}
use Rattle.sa_ranges.proofs.RowLemmas.{rows_same, faults_are}
use Rattle.sa_ranges.proofs.read.of_data.Goals as goal

pub returns-in_default-clause-fault : goal.returns-in_default-clause-fault
returns-in_default-clause-fault c = shape_1 c.args.program.now.inputs (view c.args.file.now) (sym c.as_object.ensures ∙ ap (option_map (λ m. members_view m.now.entries)) c.in_default.is)

pub returns-then-not-knows_all-clause-fault : goal.returns-then-not-knows_all-clause-fault
returns-then-not-knows_all-clause-fault c =
    shape_2 c.args.program.now.inputs (view c.args.file.now) _ (sym c.as_object.ensures ∙ ap (option_map (λ m. members_view m.now.entries)) c.in-Some.is) (sym c.if-not-knows_all.ensures)

pub returns-in_default-version-clause-fault : goal.returns-in_default-version-clause-fault
returns-in_default-version-clause-fault c =
    shape_3 c.args.program.now.inputs (view c.args.file.now) _ (sym c.as_object.ensures ∙ ap (option_map (λ m. members_view m.now.entries)) c.in-Some.is) (sym c.if-not-knows_all.ensures)
    (sym c.version.ensures ∙ c.in_default-version.is)

pub returns-in_default-last_clock-clause-fault : goal.returns-in_default-last_clock-clause-fault
returns-in_default-last_clock-clause-fault c =
    shape_4 c.args.program.now.inputs (view c.args.file.now) _ _ (sym c.as_object.ensures ∙ ap (option_map (λ m. members_view m.now.entries)) c.in-Some.is) (sym c.if-not-knows_all.ensures)
    (sym c.version.ensures ∙ c.in-Some-version.is) (sym c.last_clock.ensures ∙ c.in_default-last_clock.is)

pub returns-in_default-named-clause-fault : goal.returns-in_default-named-clause-fault
returns-in_default-named-clause-fault c =
    shape_5 c.args.program.now.inputs (view c.args.file.now) _ _ _ (sym c.as_object.ensures ∙ ap (option_map (λ m. members_view m.now.entries)) c.in-Some.is) (sym c.if-not-knows_all.ensures)
    (sym c.version.ensures ∙ c.in-Some-version.is) (sym c.last_clock.ensures ∙ c.in-Some-last_clock.is) (sym c.named.ensures ∙ ap (option_map members_in) c.in_default-named.is)

pub returns-in_err-check_names-clause-fault : goal.returns-in_err-check_names-clause-fault
returns-in_err-check_names-clause-fault c =
    let is = c.args.program.now.inputs in
    let file : IsFile (view c.args.file.now) c.in-Some-version.version c.in-Some-last_clock.max_clock (members_in c.in-Some-named.named) = record {
      object = members_view c.in-Some.members.now.entries;
      is = sym c.as_object.ensures ∙ ap (option_map (λ m. members_view m.now.entries)) c.in-Some.is;
      known = sym c.if-not-knows_all.ensures;
      version = sym c.version.ensures ∙ c.in-Some-version.is;
      clock = sym c.last_clock.ensures ∙ c.in-Some-last_clock.is;
      names = sym c.named.ensures ∙ ap (option_map members_in) c.in-Some-named.is;
    } in
    let same = rows_same c.in-Some-version.version (range_in_map c.in_ok-by_names.field-0) (range_named is) (λ n. c.in_ok-by_names.ensures n ∙ ap (λ xs. range_named xs n) c.as_slice-inputs.ensures) (members_in c.in-Some-named.named) in
    let p = err_from_is_err_and c.from_residual-in_err-check_names.result c.from_residual-in_err-check_names.ensures.1 in
    rw (p.1, p.2)
    (faults_are _ _ c.in_err-check_names.field-0.0
    (λ g t. name_refused is (view c.args.file.now) c.in-Some-version.version c.in-Some-last_clock.max_clock (members_in c.in-Some-named.named) file g (sym (ap first same) ∙ t))
    c.in_err-check_names.ensures.fault)

pub of-requires-clause-clock : goal.of-requires-clause-clock
of-requires-clause-clock c = clock_is_small (view c.args.file.now) c.in-Some-last_clock.max_clock (sym c.last_clock.ensures ∙ c.in-Some-last_clock.is)

pub of-requires-clause-spans : goal.of-requires-clause-spans
of-requires-clause-spans c =
    let is = c.args.program.now.inputs in
    let v = c.in-Some-version.version in
    let ns = members_in c.in-Some-named.named in
    spans_of_map (λ v. v.items) c.in_ok-spans.spans.items _ (c.in_ok-spans.ensures ∙ ap (map (spans_for v ns)) c.as_slice-inputs.ensures)
    (all_in_order v (range_named is) ns (names_pass is c.as_slice-inputs.result.now c.as_slice-inputs.ensures (range_in_map c.in_ok-by_names.field-0) c.in_ok-by_names.ensures v ns c.in_ok-check_names.ensures.ok) is _ refl)

-- what is made of the spans
made : (c : goal.After-of) → c.of.result ≡ made_of c.in-Some-last_clock.max_clock (map (spans_for c.in-Some-version.version (members_in c.in-Some-named.named)) c.args.program.now.inputs)
made c =
    c.of.ensures
    ∙ ap (made_of c.in-Some-last_clock.max_clock) (c.in_ok-spans.ensures ∙ ap (map (spans_for c.in-Some-version.version (members_in c.in-Some-named.named))) c.as_slice-inputs.ensures)

pass : (c : goal.After-of) → first (name_rows c.in-Some-version.version (range_named c.args.program.now.inputs) (members_in c.in-Some-named.named)) ≡ None
pass c =
    names_pass c.args.program.now.inputs c.as_slice-inputs.result.now c.as_slice-inputs.ensures (range_in_map c.in_ok-by_names.field-0) c.in_ok-by_names.ensures
    c.in-Some-version.version (members_in c.in-Some-named.named) c.in_ok-check_names.ensures.ok

pub returns-clause-ok : goal.returns-clause-ok
returns-clause-ok c =
    let file : IsFile (view c.args.file.now) c.in-Some-version.version c.in-Some-last_clock.max_clock (members_in c.in-Some-named.named) = record {
      object = members_view c.in-Some.members.now.entries;
      is = sym c.as_object.ensures ∙ ap (option_map (λ m. members_view m.now.entries)) c.in-Some.is;
      known = sym c.if-not-knows_all.ensures;
      version = sym c.version.ensures ∙ c.in-Some-version.is;
      clock = sym c.last_clock.ensures ∙ c.in-Some-last_clock.is;
      names = sym c.named.ensures ∙ ap (option_map members_in) c.in-Some-named.is;
    } in
    accepted c.args.program.now.inputs (view c.args.file.now) c.in-Some-version.version c.in-Some-last_clock.max_clock (members_in c.in-Some-named.named) file (pass c)
    ∙ ap Ok (sym (made c))

pub returns-clause-suits : goal.returns-clause-suits
returns-clause-suits c =
    subst (λ r. AreOf r c.args.program.now) (sym (made c)) (suits c.in-Some-version.version c.args.program.now.inputs (members_in c.in-Some-named.named) (pass c))
