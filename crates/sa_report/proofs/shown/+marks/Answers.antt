use Rattle.std.proofs.Common.{rules}
use Rattle.sa_typed.specs.Cells.{cells}
use Rattle.sa_typed.specs.declared.expr.Expr.{the_lemmas}
use Rattle.sa_report.proofs.MarkLaws.{has_read, has_prefix, has_cast, has_first, has_links, has_index, links-more, links-end, steps-more, steps-end}
use Rattle.sa_report.proofs.shown.+marks.Goals as goal

pub mark_expr-mark_access-requires : goal.mark_expr-mark_access-requires
mark_expr-mark_access-requires t c = search (rules, the_lemmas, has_read)

pub mark_expr-mark_expr-requires : goal.mark_expr-mark_expr-requires
mark_expr-mark_expr-requires t c = search (rules, the_lemmas, has_prefix)

pub mark_expr-mark_expr-requires-in-Cast : goal.mark_expr-mark_expr-requires-in-Cast
mark_expr-mark_expr-requires-in-Cast t c = search (rules, the_lemmas, has_cast)

pub mark_expr-mark_expr-requires-in-Chain : goal.mark_expr-mark_expr-requires-in-Chain
mark_expr-mark_expr-requires-in-Chain t c = search (rules, the_lemmas, has_first)

pub mark_expr-mark_links-requires : goal.mark_expr-mark_links-requires
mark_expr-mark_links-requires t c = search (rules, the_lemmas, has_links)

pub mark_step-mark_expr-requires : goal.mark_step-mark_expr-requires
mark_step-mark_expr-requires t c = search (rules, the_lemmas, has_index)

pub mark_links-loop-link-preserved : goal.mark_links-loop-link-preserved
mark_links-loop-link-preserved t c =
    links-more (cells c.args.program.now) _ _ _ c.args.links.now c.loop-link.link-index c.link-item.result c.loop-link-test.true c.link-item.is c.in_ok-mark_expr.ensures c.loop-link.invariant

pub mark_links-returns : goal.mark_links-returns
mark_links-returns t c = links-end (cells c.args.program.now) _ _ c.args.links.now c.loop-link.link-index c.loop-link-test.false c.loop-link.invariant

pub mark_steps-loop-step-preserved : goal.mark_steps-loop-step-preserved
mark_steps-loop-step-preserved t c =
    steps-more (cells c.args.program.now) _ _ _ c.args.steps.now c.loop-step.step-index c.step-item.result c.loop-step-test.true c.step-item.is c.in_ok-mark_step.ensures c.loop-step.invariant

pub mark_steps-returns : goal.mark_steps-returns
mark_steps-returns t c = steps-end (cells c.args.program.now) _ _ c.args.steps.now c.loop-step.step-index c.loop-step-test.false c.loop-step.invariant
