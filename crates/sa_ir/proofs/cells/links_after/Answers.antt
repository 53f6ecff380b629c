use Rattle.std.proofs.Common.{◌∙◌, ◌+◌, sym, ap, drop}
use Rattle.sa_base.specs.declared.num.Num.{Num}
use Rattle.sa_typed.specs.Arithmetic.{result_type}
use Rattle.sa_typed.specs.declared.expr.Link.{Link, out-Link}
use Rattle.sa_ir.specs.Lists.{links_after}
use Rattle.sa_ir.proofs.TypeLemmas.{links-more, links-end}
use Rattle.sa_ir.proofs.cells.links_after.Goals as goal

pub loop-link-preserved : goal.loop-link-preserved
loop-link-preserved c =
    let ls = c.args.links.now in
    let i = c.loop-link.link-index in
    ap (λ (num : Num). links_after num (drop (i + 1) ls)) (c.result_type-num.ensures ∙ ap (λ (l : Link). result_type (out-Link l).op (out-Link l).num) c.link-item.is)
    ∙ sym (links-more ls i c.link-item.result c.loop-link.num c.loop-link-test.true) ∙ c.loop-link.invariant

pub returns : goal.returns
returns c = sym (links-end c.args.links.now c.loop-link.link-index c.loop-link.num c.loop-link-test.false) ∙ c.loop-link.invariant
