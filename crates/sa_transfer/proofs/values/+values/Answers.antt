use Rattle.std.proofs.Common.{rules, arith, ◌≡◌, ◌∙◌, refl, sym, ap, Option}
use Rattle.std.proofs.lemmas.Result.{on_ok_weaker}
use Rattle.sa_interval.specs.Span.{Span}
use Rattle.sa_typed.specs.declared.expr.Expr.{the_lemmas}
use Rattle.sa_typed.specs.declared.expr.Link.{out-Link}
use Rattle.sa_reference.specs.Sound.{widest}
use Rattle.sa_reference.specs.Values.{linked, reach_of, step_alarms}
use Rattle.sa_transfer.specs.Lists.{next_span, with_reach}
use Rattle.sa_typed.proofs.LinkLaws.{prefix_typed, cast_typed, chain_typed}
use Rattle.sa_transfer.proofs.FormLaws.{span_input, alarms_prefix, alarms_cast, alarms_chain, alarms_at, access_steps, read_typed, index_typed}
use Rattle.sa_transfer.proofs.ListLaws.{two_parts, one_more, none_more, link_noted, span_more, span_end, alarms_end, reached_first, reached_more, indices_more, reached_end, indices_end}
use Rattle.sa_transfer.proofs.TypeLaws.{input_is, prefix_suits, expr_small, chain_after, link_typed, link_left, link_right, after_more}
use Rattle.sa_transfer.proofs.values.+values.Goals as goal

pub span_of-named_cells-requires : goal.span_of-named_cells-requires
span_of-named_cells-requires t c = search (rules, the_lemmas, access_steps, read_typed)

pub span_of-span_of-requires : goal.span_of-span_of-requires
span_of-span_of-requires t c = search (rules, the_lemmas, prefix_typed)

pub span_of-span_of-requires-in-Cast : goal.span_of-span_of-requires-in-Cast
span_of-span_of-requires-in-Cast t c = search (rules, the_lemmas, cast_typed)

pub span_of-span_of-requires-in-Chain : goal.span_of-span_of-requires-in-Chain
span_of-span_of-requires-in-Chain t c = search (rules, the_lemmas, chain_typed)

pub reach_of-span_of-requires : goal.reach_of-span_of-requires
reach_of-span_of-requires t c = search (rules, the_lemmas, index_typed)

pub span_of-prefixed-requires : goal.span_of-prefixed-requires
span_of-prefixed-requires t c = search (rules, prefix_suits)

pub span_of-converted-requires : goal.span_of-converted-requires
span_of-converted-requires t c = search (rules, expr_small, cast_typed)

pub span_of-span_after-requires : goal.span_of-span_after-requires
span_of-span_after-requires t c = search (rules, the_lemmas, chain_after)

pub span_of-returns-in_ok-s-in-Prefix-clause-alarms : goal.span_of-returns-in_ok-s-in-Prefix-clause-alarms
span_of-returns-in_ok-s-in-Prefix-clause-alarms t c =
    on_ok_weaker c.prefixed.result (λ h. two_parts _ _ _ _ _ _ _ c.in_ok-s-in-Prefix.ensures.alarms h (search (rules, alarms_prefix))) c.prefixed.ensures.alarms

pub span_of-returns-in_ok-s-in-Cast-clause-alarms : goal.span_of-returns-in_ok-s-in-Cast-clause-alarms
span_of-returns-in_ok-s-in-Cast-clause-alarms t c =
    on_ok_weaker c.converted.result (λ h. two_parts _ _ _ _ _ _ _ c.in_ok-s-in-Cast.ensures.alarms h (grind (arith, alarms_cast))) c.converted.ensures.alarms

pub span_of-returns-in_ok-s-in-Chain-clause-alarms : goal.span_of-returns-in_ok-s-in-Chain-clause-alarms
span_of-returns-in_ok-s-in-Chain-clause-alarms t c =
    on_ok_weaker c.span_after.result (λ h. two_parts _ _ _ _ _ _ _ c.in_ok-s-in-Chain.ensures.alarms h (grind (arith, alarms_chain))) c.span_after.ensures.alarms

pub reach_of-returns-in_ok-s-in-At-clause-alarms : goal.reach_of-returns-in_ok-s-in-At-clause-alarms
reach_of-returns-in_ok-s-in-At-clause-alarms t c =
    on_ok_weaker c.index_reach.result (λ h. two_parts _ _ _ _ _ _ _ c.in_ok-s-in-At.ensures.alarms h (grind (arith, alarms_at))) c.index_reach.ensures.alarms

pub span_after-span_of-requires : goal.span_after-span_of-requires
span_after-span_of-requires t c =
    (search (rules, the_lemmas), (c.requires.ground, (link_typed c.args.program.now c.args.env.now c.requires.spans c.loop-link.value c.args.links.now c.loop-link.link-index c.link-item.result c.loop-link-test.true c.link-item.is c.loop-link.invariant.rest, c.requires.spans)))

pub span_after-operated-requires-clause-left : goal.span_after-operated-requires-clause-left
span_after-operated-requires-clause-left t c = search (rules, link_left)

pub span_after-operated-requires-clause-right : goal.span_after-operated-requires-clause-right
span_after-operated-requires-clause-right t c = rw c.in_ok-right.ensures.value (link_right c.args.program.now c.args.env.now c.requires.spans c.loop-link.value c.args.links.now c.loop-link.link-index c.link-item.result c.loop-link-test.true c.link-item.is c.loop-link.invariant.rest)

pub span_of-returns-in-Input-clause-value : goal.span_of-returns-in-Input-clause-value
span_of-returns-in-Input-clause-value t c = grind (arith, span_input, input_is)

pub span_after-loop-link-preserved : goal.span_after-loop-link-preserved
span_after-loop-link-preserved t c =
    let p = c.args.program.now in
    let env = c.args.env.now in
    let l = c.link-item.result in
    let o = c.loop-link.value in
    let value : c.in_ok-value.value ≡ next_span p env o l = c.in_ok-value.ensures.value ∙ ap (λ (r : Option Span). linked (out-Link l).op (out-Link l).num o r) c.in_ok-right.ensures.value in
    record {
      value = rw value (sym (span_more p env c.args.links.now c.loop-link.link-index o l c.loop-link-test.true c.link-item.is) ∙ c.loop-link.invariant.value);
      alarms = link_noted c.args.checking p env c.args.links.now c.loop-link.link-index o l c.loop-link-test.true c.link-item.is c.in_ok-right.right c.in_ok-value.value _ _ _ _
          c.in_ok-right.ensures.value value c.in_ok-right.ensures.alarms c.in_ok-value.ensures.alarms c.loop-link.invariant.alarms;
      rest = rw value (after_more p env c.requires.spans o c.args.links.now c.loop-link.link-index l c.loop-link-test.true c.link-item.is c.loop-link.invariant.rest);
    }

pub span_after-returns-clause-value : goal.span_after-returns-clause-value
span_after-returns-clause-value t c =
    sym (span_end c.args.program.now c.args.env.now c.args.links.now c.loop-link.link-index c.loop-link.value c.loop-link-test.false) ∙ c.loop-link.invariant.value

pub span_after-returns-clause-alarms : goal.span_after-returns-clause-alarms
span_after-returns-clause-alarms t c =
    none_more c.args.checking c.loop-link.alarms.items _ (rw (alarms_end c.args.program.now c.args.env.now c.args.links.now c.loop-link.link-index c.loop-link.value c.loop-link-test.false) at c.loop-link.invariant.alarms)

pub reached-loop-step-init : goal.reached-loop-step-init
reached-loop-step-init t c = record { value = rw c.new.ensures (reached_first _); alarms = refl }

pub reached-loop-step-preserved : goal.reached-loop-step-preserved
reached-loop-step-preserved t c =
    let p = c.args.program.now in
    let env = c.args.env.now in
    let s = c.step-item.result in
    let more : c.in_ok-reaches.reaches ≡ with_reach c.loop-step.reaches (reach_of p (widest p) env s) = c.in_ok-reaches.ensures ∙ ap (with_reach c.loop-step.reaches) c.in_ok-reach.ensures.value in
    record {
      value = rw more (sym (reached_more p env c.args.steps.now c.loop-step.step-index c.loop-step.reaches s c.loop-step-test.true c.step-item.is) ∙ c.loop-step.invariant.value);
      alarms = one_more c.args.checking c.loop-step.alarms.items c.reach_of.new.alarms.items _ (step_alarms p (widest p) env s) _ c.in_ok-reach.ensures.alarms
          (rw (indices_more p env c.args.steps.now c.loop-step.step-index s c.loop-step-test.true c.step-item.is) at c.loop-step.invariant.alarms);
    }

pub reached-returns-clause-value : goal.reached-returns-clause-value
reached-returns-clause-value t c =
    sym (reached_end c.args.program.now c.args.env.now c.args.steps.now c.loop-step.step-index c.loop-step.reaches c.loop-step-test.false) ∙ c.loop-step.invariant.value

pub reached-returns-clause-alarms : goal.reached-returns-clause-alarms
reached-returns-clause-alarms t c =
    none_more c.args.checking c.loop-step.alarms.items _ (rw (indices_end c.args.program.now c.args.env.now c.args.steps.now c.loop-step.step-index c.loop-step-test.false) at c.loop-step.invariant.alarms)
