use Rattle.std.proofs.Common.{rules, ◌∙◌, ap, sym}
use Rattle.std.proofs.lemmas.Result.{on_ok_weaker}
use Rattle.sa_typed.specs.Cells.{cells}
use Rattle.sa_typed.specs.declared.stmt.Stmt.{Stmt, the_lemmas}
use Rattle.sa_iterate.proofs.TypedForms.{loop_typed}
use Rattle.sa_report.specs.Marks.{by_stmt}
use Rattle.sa_report.proofs.MarkLaws.{has_block, in-clock, stmt-none, stmts-more, stmts-end}
use Rattle.sa_report.proofs.shown.+statements.Goals as goal

pub mark_stmt-mark_stmts-requires : goal.mark_stmt-mark_stmts-requires
mark_stmt-mark_stmts-requires t c = search (rules, the_lemmas, has_block)

pub mark_stmt-mark_stmt-requires : goal.mark_stmt-mark_stmt-requires
mark_stmt-mark_stmt-requires t c = search (rules, the_lemmas, loop_typed)

pub mark_stmt-returns-in-Loop : goal.mark_stmt-returns-in-Loop
mark_stmt-returns-in-Loop t c =
    let p = c.args.program.now in
    let l = c.in-Loop in
    on_ok_weaker c.mark_stmt.result (λ h. h ∙ ap (λ (s : Stmt). by_stmt (cells p) s c.args.marks.now) c.get.ensures ∙ sym (in-clock p c.args.stmt.now l.field-0 l.field-1 l.field-2 l.body l.field-4 l.is c.requires.typed (cells p) c.args.marks.now)) c.mark_stmt.ensures

pub mark_stmt-returns-in_default : goal.mark_stmt-returns-in_default
mark_stmt-returns-in_default t c =
    sym (stmt-none (cells c.args.program.now) c.args.stmt.now c.args.marks.now c.in_default.not-Simple c.in_default.not-Block c.in_default.not-Loop)

pub mark_stmts-loop-stmt-preserved : goal.mark_stmts-loop-stmt-preserved
mark_stmts-loop-stmt-preserved t c =
    stmts-more (cells c.args.program.now) _ _ _ c.args.stmts.now c.loop-stmt.stmt-index c.stmt-item.result c.loop-stmt-test.true c.stmt-item.is c.in_ok-mark_stmt.ensures c.loop-stmt.invariant

pub mark_stmts-returns : goal.mark_stmts-returns
mark_stmts-returns t c = stmts-end (cells c.args.program.now) _ _ c.args.stmts.now c.loop-stmt.stmt-index c.loop-stmt-test.false c.loop-stmt.invariant
