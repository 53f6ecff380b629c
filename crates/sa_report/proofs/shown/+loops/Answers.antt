use Rattle.std.proofs.Common.{rules, ◌∙◌, ap, sym}
use Rattle.std.proofs.lemmas.Result.{on_ok_weaker}
use Rattle.sa_typed.specs.Cells.{cells}
use Rattle.sa_typed.specs.declared.stmt.Stmt.{Stmt, the_lemmas}
use Rattle.sa_iterate.proofs.TypedForms.{loop_typed}
use Rattle.sa_report.specs.Marks.{by_stmt, by_loop}
use Rattle.sa_report.proofs.MarkLaws.{has_block, in-this, in-inner, loop-none, loops-more, loops-end}
use Rattle.sa_report.proofs.shown.+loops.Goals as goal

pub mark_loop-mark_loops-requires : goal.mark_loop-mark_loops-requires
mark_loop-mark_loops-requires t c = search (rules, the_lemmas, has_block)

pub mark_loop-mark_stmt-requires : goal.mark_loop-mark_stmt-requires
mark_loop-mark_stmt-requires t c = search (rules, the_lemmas, loop_typed)

pub mark_loop-mark_loop-requires : goal.mark_loop-mark_loop-requires
mark_loop-mark_loop-requires t c = search (rules, the_lemmas, loop_typed)

pub mark_loop-returns-then-is_same : goal.mark_loop-returns-then-is_same
mark_loop-returns-then-is_same t c =
    let p = c.args.program.now in
    let l = c.in-Loop in
    on_ok_weaker c.mark_stmt.result
    (λ h. h ∙ ap (λ (s : Stmt). by_stmt (cells p) s c.args.marks.now) c.get.ensures
    ∙ sym (in-this p c.args.stmt.now l.at l.field-1 l.field-2 l.body l.field-4 l.is c.requires.typed (cells p) c.args.marks.now c.args.place (sym c.is_same.ensures ∙ c.if-is_same.true)))
    c.mark_stmt.ensures

pub mark_loop-returns-else-is_same : goal.mark_loop-returns-else-is_same
mark_loop-returns-else-is_same t c =
    let p = c.args.program.now in
    let l = c.in-Loop in
    on_ok_weaker c.mark_loop.result
    (λ h. h ∙ ap (λ (s : Stmt). by_loop c.args.place (cells p) s c.args.marks.now) c.get-else-is_same.ensures
    ∙ sym (in-inner p c.args.stmt.now l.at l.field-1 l.field-2 l.body l.field-4 l.is c.requires.typed (cells p) c.args.marks.now c.args.place (sym c.is_same.ensures ∙ c.if-is_same.false)))
    c.mark_loop.ensures

pub mark_loop-returns-in_default : goal.mark_loop-returns-in_default
mark_loop-returns-in_default t c =
    sym (loop-none (cells c.args.program.now) c.args.place c.args.stmt.now c.args.marks.now c.in_default.not-Block c.in_default.not-Loop)

pub mark_loops-loop-stmt-preserved : goal.mark_loops-loop-stmt-preserved
mark_loops-loop-stmt-preserved t c =
    loops-more (cells c.args.program.now) c.args.place _ _ _ c.args.stmts.now c.loop-stmt.stmt-index c.stmt-item.result c.loop-stmt-test.true c.stmt-item.is c.in_ok-mark_loop.ensures c.loop-stmt.invariant

pub mark_loops-returns : goal.mark_loops-returns
mark_loops-returns t c = loops-end (cells c.args.program.now) c.args.place _ _ c.args.stmts.now c.loop-stmt.stmt-index c.loop-stmt-test.false c.loop-stmt.invariant
