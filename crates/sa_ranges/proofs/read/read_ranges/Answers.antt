use Rattle.std.proofs.Common.{◌≡◌, sym, subst, Ok, IfOk, IfErr}
use Rattle.std.proofs.lemmas.Result.{err_from_is_err_and}
use Rattle.serde_json.specs.View.{view}
use Rattle.sa_ranges.specs.Answer.{IsFault}
use Rattle.sa_ranges.proofs.BytesLemmas.{ranges_are, no_ranges}
use Rattle.sa_ranges.proofs.read.read_ranges.Goals as goal

pub returns-in_err-file-clause-fault : goal.returns-in_err-file-clause-fault
returns-in_err-file-clause-fault c =
    let p = err_from_is_err_and c.from_residual.result c.from_residual.ensures.1 in
    rw (p.1, p.2) (no_ranges c.args.program.now c.args.bytes.now c.in_err-file.field-0.0 c.in_err-file.ensures.fault)

pub returns-clause-ok : goal.returns-clause-ok
returns-clause-ok c = subst (λ told. IfOk c.of_data.result (λ r. told ≡ Ok r)) (sym (ranges_are c.args.program.now c.args.bytes.now (view c.in_ok-file.file) c.in_ok-file.ensures.ok)) c.of_data.ensures.ok

pub returns-clause-fault : goal.returns-clause-fault
returns-clause-fault c = subst (λ told. IfErr c.of_data.result (IsFault told)) (sym (ranges_are c.args.program.now c.args.bytes.now (view c.in_ok-file.file) c.in_ok-file.ensures.ok)) c.of_data.ensures.fault
