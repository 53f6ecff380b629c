use Rattle.std.proofs.Common.{rules}
use Rattle.std.proofs.lemmas.Result.{err_from_is_err_and}
use Rattle.std.proofs.Common.{sym, ◌∙◌}
use Rattle.sa_top.proofs.ReplyLemmas.{tokens-rejected, parser-rejected, unbuilt-rejected, typer-rejected, typed-accepted}
use Rattle.sa_top.proofs.source.read_source.Goals as goal

pub returns-in_err-tokens-clause-rejected : goal.returns-in_err-tokens-clause-rejected
returns-in_err-tokens-clause-rejected c =
    let p = err_from_is_err_and c.from_residual.result c.from_residual.ensures.1 in
    rw (p.1, p.2) (tokens-rejected c.args.source.now c.in_err-tokens.field-0.0 c.requires c.in_err-tokens.ensures.refused)

pub returns-in_err-unit-clause-rejected : goal.returns-in_err-unit-clause-rejected
returns-in_err-unit-clause-rejected c =
    let p = err_from_is_err_and c.from_residual-in_err-unit.result c.from_residual-in_err-unit.ensures.1 in
    rw (p.1, p.2)
    (parser-rejected c.args.source.now c.in_ok-tokens.tokens.items c.deref.result.now c.end_of-end.result c.in_err-unit.field-0.0 c.requires c.in_ok-tokens.ensures.lexed c.deref.ensures.value c.end_of-end.ensures c.in_err-unit.ensures.fault)

pub returns-in-Some-clause-rejected : goal.returns-in-Some-clause-rejected
returns-in-Some-clause-rejected c =
    unbuilt-rejected c.args.source.now c.in_ok-tokens.tokens.items c.deref.result.now c.in_ok-unit.unit c.end_of-end.result c.requires c.in_ok-tokens.ensures.lexed c.deref.ensures.value c.end_of-end.ensures c.in_ok-unit.ensures.ok _ (sym c.first_unbuilt.ensures ∙ c.in-Some.is)

pub returns-in_err-type_unit-clause-rejected : goal.returns-in_err-type_unit-clause-rejected
returns-in_err-type_unit-clause-rejected c =
    let p = err_from_is_err_and c.from_residual-in_err-type_unit.result c.from_residual-in_err-type_unit.ensures.1 in
    rw (p.1, p.2)
    (typer-rejected c.args.source.now c.in_ok-tokens.tokens.items c.deref.result.now c.in_ok-unit.unit c.end_of-end.result c.requires c.in_ok-tokens.ensures.lexed c.deref.ensures.value c.end_of-end.ensures c.in_ok-unit.ensures.ok c.in_err-type_unit.field-0.0 (sym c.first_unbuilt.ensures ∙ c.in_default.is) c.in_err-type_unit.ensures.refused)

pub returns-clause-accepted : goal.returns-clause-accepted
returns-clause-accepted c =
    typed-accepted c.args.source.now c.in_ok-tokens.tokens.items c.deref.result.now c.in_ok-unit.unit c.end_of-end.result c.requires c.in_ok-tokens.ensures.lexed c.deref.ensures.value c.end_of-end.ensures c.in_ok-unit.ensures.ok _ (sym c.first_unbuilt.ensures ∙ c.in_default.is) c.in_ok-type_unit.ensures.accepted
