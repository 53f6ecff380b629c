use Rattle.std.proofs.Common.{rules, arith}
use Rattle.std.proofs.lemmas.Grind.{common_steps}
use Rattle.sa_syntax.specs.Reading.{while_from}
use Rattle.sa_syntax.specs.ReadStmt.{a_label}
use Rattle.sa_syntax.specs.Words.{begins_with_label}
use Rattle.sa_cursor.proofs.Turns.{one_more, no_more}
use Rattle.sa_statements.proofs.stmt.more_labels.Goals as goal

pub returns-then-not-sees_label : goal.returns-then-not-sees_label
unfolding while_from
returns-then-not-sees_label c =
    let e = one_more (λ n. while_from begins_with_label (a_label c.args.grammar.now.names.now c.args.room) n c.loop-turn.found c.loop-turn.tokens) _ c.loop-turn._turn c.loop-turn-test.true c.loop-turn.invariant in
    first_of (search rules, grind (arith, common_steps))

pub returns-in_err-label : goal.returns-in_err-label
unfolding while_from
returns-in_err-label c =
    let e = one_more (λ n. while_from begins_with_label (a_label c.args.grammar.now.names.now c.args.room) n c.loop-turn.found c.loop-turn.tokens) _ c.loop-turn._turn c.loop-turn-test.true c.loop-turn.invariant in
    first_of (search rules, grind (arith, common_steps))

pub loop-turn-preserved : goal.loop-turn-preserved
unfolding while_from
loop-turn-preserved c =
    let e = one_more (λ n. while_from begins_with_label (a_label c.args.grammar.now.names.now c.args.room) n c.loop-turn.found c.loop-turn.tokens) _ c.loop-turn._turn c.loop-turn-test.true c.loop-turn.invariant in
    first_of (search rules, grind (arith, common_steps))

pub returns : goal.returns
unfolding while_from
returns c =
    let e = no_more (λ n. while_from begins_with_label (a_label c.args.grammar.now.names.now c.args.room) n c.loop-turn.found c.loop-turn.tokens) _ c.loop-turn._turn c.loop-turn-test.false c.loop-turn.invariant in
    first_of (search rules, grind (arith, common_steps))
