use Rattle.std.proofs.Common.{rules, arith}
use Rattle.std.proofs.lemmas.Grind.{common_steps}
use Rattle.sa_syntax.specs.Reading.{while_from}
use Rattle.sa_syntax.specs.ReadStmt as read
use Rattle.sa_syntax.specs.ReadStmt.{bodies, no_close, block_items, groups, stmt}
use Rattle.sa_syntax.specs.Words.{begins_with_label}
use Rattle.sa_statements.specs.Parts as parts
use Rattle.sa_statements.proofs.Directives.{break_is, return_is, wait_is, partition_is, known_fact_is, assert_is}
use Rattle.sa_cursor.proofs.Turns.{one_more, no_more}
use Rattle.sa_statements.proofs.stmt.+statement.Goals as goal

pub nested-returns-then-sees : goal.nested-returns-then-sees
unfolding while_from block_items
nested-returns-then-sees t c =
    let e = one_more (λ n. while_from (no_close) (read.block_item c.args.grammar.now.names.now c.args.room (bodies c.args.grammar.now.names.now c.args.room) (bodies c.args.grammar.now.names.now c.args.room).stmt) n c.loop-turn.found c.loop-turn.tokens) _ c.loop-turn._turn c.loop-turn-test.true c.loop-turn.invariant in
    first_of (search rules, grind (arith, common_steps))

pub nested-returns-in_err-nested_item : goal.nested-returns-in_err-nested_item
unfolding while_from block_items
nested-returns-in_err-nested_item t c =
    let e = one_more (λ n. while_from (no_close) (read.block_item c.args.grammar.now.names.now c.args.room (bodies c.args.grammar.now.names.now c.args.room) (bodies c.args.grammar.now.names.now c.args.room).stmt) n c.loop-turn.found c.loop-turn.tokens) _ c.loop-turn._turn c.loop-turn-test.true c.loop-turn.invariant in
    first_of (search rules, grind (arith, common_steps))

pub nested-loop-turn-preserved : goal.nested-loop-turn-preserved
unfolding while_from block_items
nested-loop-turn-preserved t c =
    let e = one_more (λ n. while_from (no_close) (read.block_item c.args.grammar.now.names.now c.args.room (bodies c.args.grammar.now.names.now c.args.room) (bodies c.args.grammar.now.names.now c.args.room).stmt) n c.loop-turn.found c.loop-turn.tokens) _ c.loop-turn._turn c.loop-turn-test.true c.loop-turn.invariant in
    first_of (search rules, grind (arith, common_steps))

pub nested-returns : goal.nested-returns
unfolding while_from block_items
nested-returns t c =
    let e = no_more (λ n. while_from (no_close) (read.block_item c.args.grammar.now.names.now c.args.room (bodies c.args.grammar.now.names.now c.args.room) (bodies c.args.grammar.now.names.now c.args.room).stmt) n c.loop-turn.found c.loop-turn.tokens) _ c.loop-turn._turn c.loop-turn-test.false c.loop-turn.invariant in
    first_of (search rules, grind (arith, common_steps))

pub groups-returns-then-not-sees_label : goal.groups-returns-then-not-sees_label
unfolding while_from groups
groups-returns-then-not-sees_label t c =
    let e = one_more (λ n. while_from (begins_with_label) (read.a_group c.args.grammar.now.names.now c.args.room (bodies c.args.grammar.now.names.now c.args.room)) n c.loop-turn.found c.loop-turn.tokens) _ c.loop-turn._turn c.loop-turn-test.true c.loop-turn.invariant in
    first_of (search rules, grind (arith, common_steps))

pub groups-returns-in_err-group : goal.groups-returns-in_err-group
unfolding while_from groups
groups-returns-in_err-group t c =
    let e = one_more (λ n. while_from (begins_with_label) (read.a_group c.args.grammar.now.names.now c.args.room (bodies c.args.grammar.now.names.now c.args.room)) n c.loop-turn.found c.loop-turn.tokens) _ c.loop-turn._turn c.loop-turn-test.true c.loop-turn.invariant in
    first_of (search rules, grind (arith, common_steps))

pub groups-loop-turn-preserved : goal.groups-loop-turn-preserved
unfolding while_from groups
groups-loop-turn-preserved t c =
    let e = one_more (λ n. while_from (begins_with_label) (read.a_group c.args.grammar.now.names.now c.args.room (bodies c.args.grammar.now.names.now c.args.room)) n c.loop-turn.found c.loop-turn.tokens) _ c.loop-turn._turn c.loop-turn-test.true c.loop-turn.invariant in
    first_of (search rules, grind (arith, common_steps))

pub groups-returns : goal.groups-returns
unfolding while_from groups
groups-returns t c =
    let e = no_more (λ n. while_from (begins_with_label) (read.a_group c.args.grammar.now.names.now c.args.room (bodies c.args.grammar.now.names.now c.args.room)) n c.loop-turn.found c.loop-turn.tokens) _ c.loop-turn._turn c.loop-turn-test.false c.loop-turn.invariant in
    first_of (search rules, grind (arith, common_steps))

pub body_of_group-returns-then-not-goes_on : goal.body_of_group-returns-then-not-goes_on
unfolding while_from
body_of_group-returns-then-not-goes_on t c =
    let e = one_more (λ n. while_from (parts.goes_on) ((bodies c.args.grammar.now.names.now c.args.room).stmt) n c.loop-turn.found c.loop-turn.tokens) _ c.loop-turn._turn c.loop-turn-test.true c.loop-turn.invariant in
    first_of (search rules, grind (arith, common_steps))

pub body_of_group-returns-in_err-inner : goal.body_of_group-returns-in_err-inner
unfolding while_from
body_of_group-returns-in_err-inner t c =
    let e = one_more (λ n. while_from (parts.goes_on) ((bodies c.args.grammar.now.names.now c.args.room).stmt) n c.loop-turn.found c.loop-turn.tokens) _ c.loop-turn._turn c.loop-turn-test.true c.loop-turn.invariant in
    first_of (search rules, grind (arith, common_steps))

pub body_of_group-loop-turn-preserved : goal.body_of_group-loop-turn-preserved
unfolding while_from
body_of_group-loop-turn-preserved t c =
    let e = one_more (λ n. while_from (parts.goes_on) ((bodies c.args.grammar.now.names.now c.args.room).stmt) n c.loop-turn.found c.loop-turn.tokens) _ c.loop-turn._turn c.loop-turn-test.true c.loop-turn.invariant in
    first_of (search rules, grind (arith, common_steps))

pub body_of_group-returns : goal.body_of_group-returns
unfolding while_from
body_of_group-returns t c =
    let e = no_more (λ n. while_from (parts.goes_on) ((bodies c.args.grammar.now.names.now c.args.room).stmt) n c.loop-turn.found c.loop-turn.tokens) _ c.loop-turn._turn c.loop-turn-test.false c.loop-turn.invariant in
    first_of (search rules, grind (arith, common_steps))

pub statement-returns-in-Some-Break : goal.statement-returns-in-Some-Break
unfolding stmt
statement-returns-in-Some-Break t c =
    let e = break_is c.args.grammar.now.names.now c.args.room (bodies c.args.grammar.now.names.now c.args.room) c.args.tokens.now in
    first_of (search rules, grind (arith, common_steps))

pub statement-returns-in-Some-Return : goal.statement-returns-in-Some-Return
unfolding stmt
statement-returns-in-Some-Return t c =
    let e = return_is c.args.grammar.now.names.now c.args.room (bodies c.args.grammar.now.names.now c.args.room) c.args.tokens.now in
    first_of (search rules, grind (arith, common_steps))

pub statement-returns-in-Some-WaitForClock : goal.statement-returns-in-Some-WaitForClock
unfolding stmt
statement-returns-in-Some-WaitForClock t c =
    let e = wait_is c.args.room c.args.tokens.now in
    first_of (search rules, grind (arith, common_steps))

pub statement-returns-in-Some-Partition : goal.statement-returns-in-Some-Partition
unfolding stmt
statement-returns-in-Some-Partition t c =
    let e = partition_is c.args.room c.args.tokens.now in
    first_of (search rules, grind (arith, common_steps))

pub statement-returns-in-Some-KnownFact : goal.statement-returns-in-Some-KnownFact
unfolding stmt
statement-returns-in-Some-KnownFact t c =
    let e = known_fact_is c.args.grammar.now.names.now c.args.room c.args.tokens.now in
    first_of (search rules, grind (arith, common_steps))

pub statement-returns-in-Some-Assert : goal.statement-returns-in-Some-Assert
unfolding stmt
statement-returns-in-Some-Assert t c =
    let e = assert_is c.args.grammar.now.names.now c.args.room c.args.tokens.now in
    first_of (search rules, grind (arith, common_steps))
