use Rattle.std.proofs.Common.{rules, ◌≡◌, true, false}
use Rattle.sa_typed.specs.Constants.{constant_value}
use Rattle.sa_typed.specs.Links.{next_value, ands_after, ors_after, settles_and, settles_or}
use Rattle.sa_typed.specs.declared.expr.Expr.{the_lemmas}
use Rattle.sa_typed.proofs.LinkLaws.{prefix_has, prefix_operand, cast_has, chain_has, chain_after, and_has, and_rest, or_has, or_rest, choice_test, choice_first, choice_second, ands_end, ands_stop, ands_more, ors_end, ors_stop, ors_more, operand_has, operands_more, link_has, link_left, link_right, after_more, value_more, value_end}
use Rattle.sa_typed.proofs.constants.+values.Goals as goal

pub constant_value-constant_value-requires : goal.constant_value-constant_value-requires
constant_value-constant_value-requires t c = search (rules, the_lemmas, prefix_has)

pub constant_value-prefixed-requires : goal.constant_value-prefixed-requires
constant_value-prefixed-requires t c =
    rw (c.constant_value.ensures, c.get.ensures) (prefix_operand c.args.e.now c.in-Prefix.op c.in-Prefix.field-1 c.in-Prefix.num c.in-Prefix.operand c.in-Prefix.is c.requires)

pub constant_value-constant_value-requires-in-Cast : goal.constant_value-constant_value-requires-in-Cast
constant_value-constant_value-requires-in-Cast t c = search (rules, the_lemmas, cast_has)

pub constant_value-constant_value-requires-in-Chain : goal.constant_value-constant_value-requires-in-Chain
constant_value-constant_value-requires-in-Chain t c = search (rules, the_lemmas, chain_has)

pub constant_value-value_after-requires : goal.constant_value-value_after-requires
constant_value-value_after-requires t c =
    (search (rules, the_lemmas), rw (c.constant_value-in-Chain.ensures, c.get-in-Chain.ensures, c.as_slice.ensures) (chain_after c.args.e.now c.in-Chain.first c.in-Chain.links c.in-Chain.is c.requires))

pub value_after-constant_value-requires : goal.value_after-constant_value-requires
value_after-constant_value-requires t c =
    (search (rules, the_lemmas), link_has c.loop-link.value c.args.links.now c.loop-link.link-index c.link-item.result c.loop-link-test.true c.link-item.is c.loop-link.invariant.rest)

pub value_after-operated-value-requires-clause-left : goal.value_after-operated-value-requires-clause-left
value_after-operated-value-requires-clause-left t c = link_left c.loop-link.value c.args.links.now c.loop-link.link-index c.link-item.result c.loop-link-test.true c.link-item.is c.loop-link.invariant.rest

pub value_after-operated-value-requires-clause-right : goal.value_after-operated-value-requires-clause-right
value_after-operated-value-requires-clause-right t c =
    rw c.constant_value.ensures (link_right c.loop-link.value c.args.links.now c.loop-link.link-index c.link-item.result c.loop-link-test.true c.link-item.is c.loop-link.invariant.rest)

pub value_after-loop-link-preserved : goal.value_after-loop-link-preserved
value_after-loop-link-preserved t c =
    let is : c.operated-value.result ≡ next_value c.loop-link.value c.link-item.result = search rules in
    record {
      value = rw is (value_more _ c.args.links.now c.loop-link.link-index c.loop-link.value c.link-item.result c.loop-link-test.true c.link-item.is c.loop-link.invariant.value);
      rest = rw is (after_more c.loop-link.value c.args.links.now c.loop-link.link-index c.link-item.result c.loop-link-test.true c.link-item.is c.loop-link.invariant.rest);
    }

pub value_after-returns : goal.value_after-returns
value_after-returns t c = value_end _ c.args.links.now c.loop-link.link-index c.loop-link.value c.loop-link-test.false c.loop-link.invariant.value

pub constant_value-constant_value-requires-in-And : goal.constant_value-constant_value-requires-in-And
constant_value-constant_value-requires-in-And t c = search (rules, the_lemmas, and_has)

pub constant_value-ands_after-requires : goal.constant_value-ands_after-requires
constant_value-ands_after-requires t c =
    (search (rules, the_lemmas), rw c.as_slice-in-And.ensures (and_rest c.args.e.now c.in-And.first c.in-And.rest c.in-And.is c.requires))

pub ands_after-constant_value-value-requires : goal.ands_after-constant_value-value-requires
ands_after-constant_value-value-requires t c =
    (search (rules, the_lemmas), operand_has c.args.operands.now c.loop-operand.operand-index c.operand-item.result c.loop-operand-test.true c.operand-item.is c.loop-operand.invariant.rest)

pub ands_after-loop-operand-preserved : goal.ands_after-loop-operand-preserved
ands_after-loop-operand-preserved t c =
    let go : settles_and c.loop-operand.value ≡ false = search rules in
    let is : c.constant_value-value.result ≡ constant_value c.operand-item.result = search rules in
    record {
      value = rw is (ands_more _ c.loop-operand.value c.args.operands.now c.loop-operand.operand-index c.operand-item.result c.loop-operand-test.true c.operand-item.is c.loop-operand.invariant.value go);
      rest = operands_more c.args.operands.now c.loop-operand.operand-index c.operand-item.result c.loop-operand-test.true c.operand-item.is c.loop-operand.invariant.rest;
    }

pub ands_after-returns-then-settles_and : goal.ands_after-returns-then-settles_and
ands_after-returns-then-settles_and t c =
    let stop : settles_and c.loop-operand.value ≡ true = search rules in
    rw c.truth.ensures (ands_stop _ c.loop-operand.value c.args.operands.now c.loop-operand.operand-index c.operand-item.result c.loop-operand-test.true c.operand-item.is c.loop-operand.invariant.value stop)

pub ands_after-returns : goal.ands_after-returns
ands_after-returns t c = rw c.truth-2.ensures (ands_end _ c.loop-operand.value c.args.operands.now c.loop-operand.operand-index c.loop-operand-test.false c.loop-operand.invariant.value)

pub constant_value-constant_value-requires-in-Or : goal.constant_value-constant_value-requires-in-Or
constant_value-constant_value-requires-in-Or t c = search (rules, the_lemmas, or_has)

pub constant_value-ors_after-requires : goal.constant_value-ors_after-requires
constant_value-ors_after-requires t c =
    (search (rules, the_lemmas), rw c.as_slice-in-Or.ensures (or_rest c.args.e.now c.in-Or.first c.in-Or.rest c.in-Or.is c.requires))

pub ors_after-constant_value-value-requires : goal.ors_after-constant_value-value-requires
ors_after-constant_value-value-requires t c =
    (search (rules, the_lemmas), operand_has c.args.operands.now c.loop-operand.operand-index c.operand-item.result c.loop-operand-test.true c.operand-item.is c.loop-operand.invariant.rest)

pub ors_after-loop-operand-preserved : goal.ors_after-loop-operand-preserved
ors_after-loop-operand-preserved t c =
    let go : settles_or c.loop-operand.value ≡ false = search rules in
    let is : c.constant_value-value.result ≡ constant_value c.operand-item.result = search rules in
    record {
      value = rw is (ors_more _ c.loop-operand.value c.args.operands.now c.loop-operand.operand-index c.operand-item.result c.loop-operand-test.true c.operand-item.is c.loop-operand.invariant.value go);
      rest = operands_more c.args.operands.now c.loop-operand.operand-index c.operand-item.result c.loop-operand-test.true c.operand-item.is c.loop-operand.invariant.rest;
    }

pub ors_after-returns-then-settles_or : goal.ors_after-returns-then-settles_or
ors_after-returns-then-settles_or t c =
    let stop : settles_or c.loop-operand.value ≡ true = search rules in
    rw c.truth.ensures (ors_stop _ c.loop-operand.value c.args.operands.now c.loop-operand.operand-index c.operand-item.result c.loop-operand-test.true c.operand-item.is c.loop-operand.invariant.value stop)

pub ors_after-returns : goal.ors_after-returns
ors_after-returns t c = rw c.truth-2.ensures (ors_end _ c.loop-operand.value c.args.operands.now c.loop-operand.operand-index c.loop-operand-test.false c.loop-operand.invariant.value)

pub constant_value-constant_value-requires-in-Choice : goal.constant_value-constant_value-requires-in-Choice
constant_value-constant_value-requires-in-Choice t c =
    (search (rules, the_lemmas), rw c.get-in-Choice.ensures (choice_test c.args.e.now c.in-Choice.test c.in-Choice.first c.in-Choice.second c.in-Choice.num c.in-Choice.is c.requires))

pub constant_value-constant_value-requires-in-Choice-2 : goal.constant_value-constant_value-requires-in-Choice-2
constant_value-constant_value-requires-in-Choice-2 t c =
    (search (rules, the_lemmas), rw c.get-in-Choice-2.ensures (choice_first c.args.e.now c.in-Choice.test c.in-Choice.first c.in-Choice.second c.in-Choice.num c.in-Choice.is c.requires))

pub constant_value-constant_value-requires-in-Choice-3 : goal.constant_value-constant_value-requires-in-Choice-3
constant_value-constant_value-requires-in-Choice-3 t c =
    (search (rules, the_lemmas), rw c.get-in-Choice-3.ensures (choice_second c.args.e.now c.in-Choice.test c.in-Choice.first c.in-Choice.second c.in-Choice.num c.in-Choice.is c.requires))
