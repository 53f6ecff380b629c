use Rattle.std.proofs.Common.{◌∙◌, ◌++◌, ap, sym, append-nil, List, ℕ}
use Rattle.std.proofs.lemmas.Result.{on_ok_weaker}
use Rattle.sa_typed.specs.declared.stmt.Stmt.{Stmt}
use Rattle.sa_iterate.specs.Analysis.{found_by}
use Rattle.sa_report.specs.Loops.{all_text}
use Rattle.sa_report.specs.Report.{stmt_text}
use Rattle.sa_report.proofs.ReportLemmas.{text-none, text-block, text-passed, text-over, both-parts}
use Rattle.sa_report.proofs.reports.+loops.Goals as goal

pub push_stmt-returns-in_default : goal.push_stmt-returns-in_default
push_stmt-returns-in_default t c =
    let old = c.args.text.now.items in
    sym (ap (λ (x : List ℕ). old ++ x) (text-none c.args.program.now (found_by c.args.analysis.now) c.args.stmt.now c.in_default.not-Block c.in_default.not-Loop) ∙ append-nil old)

pub push_stmt-returns-in-Block : goal.push_stmt-returns-in-Block
push_stmt-returns-in-Block t c =
    let p = c.args.program.now in
    let f = found_by c.args.analysis.now in
    on_ok_weaker c.push_stmts.result
    (λ h. h ∙ ap (λ (x : List ℕ). c.args.text.now.items ++ x) (ap (all_text p f) c.as_slice.ensures ∙ sym (ap (stmt_text p f) c.in-Block.is ∙ text-block p f c.in-Block.all))) c.push_stmts.ensures

pub push_stmt-returns-in_ok-push_loop-in-Loop : goal.push_stmt-returns-in_ok-push_loop-in-Loop
push_stmt-returns-in_ok-push_loop-in-Loop t c =
    let p = c.args.program.now in
    let f = found_by c.args.analysis.now in
    let l = c.in-Loop in
    on_ok_weaker c.push_stmt.result
    (λ h. both-parts p f c.args.stmt.now l.place l.field-1 l.field-2 l.body l.field-4 c.args.text.now.items c.push_loop.new.text.items c.push_stmt.new.text.items l.is
    c.in_ok-push_loop-in-Loop.ensures (h ∙ ap (λ (s : Stmt). c.push_loop.new.text.items ++ stmt_text p f s) c.get.ensures))
    c.push_stmt.ensures

pub push_stmts-loop-stmt-preserved : goal.push_stmts-loop-stmt-preserved
push_stmts-loop-stmt-preserved t c = text-passed c.args.program.now (found_by c.args.analysis.now) c.args.stmts.now c.loop-stmt.stmt-index c.stmt-item.result _ _ _ c.loop-stmt-test.true c.stmt-item.is c.in_ok-push_stmt.ensures c.loop-stmt.invariant

pub push_stmts-returns : goal.push_stmts-returns
push_stmts-returns t c = text-over c.args.program.now (found_by c.args.analysis.now) c.args.stmts.now c.loop-stmt.stmt-index _ _ c.loop-stmt-test.false c.loop-stmt.invariant
