use Rattle.std.proofs.Common.{rules, arith}
use Rattle.std.proofs.lemmas.Grind.{common_steps}
use Rattle.sa_syntax.specs.Reading.{while_from}
use Rattle.sa_syntax.specs.ReadStmt.{no_close}
use Rattle.sa_statements.specs.Parts.{block_item}
use Rattle.sa_cursor.proofs.Turns.{one_more, no_more}
use Rattle.sa_statements.proofs.body.outermost.Goals as goal

pub returns-then-sees : goal.returns-then-sees
unfolding while_from
returns-then-sees c =
    let e = one_more (λ n. while_from no_close (block_item c.args.grammar.now.names.now c.args.room) n c.loop-turn.found c.loop-turn.tokens) _ c.loop-turn._turn c.loop-turn-test.true c.loop-turn.invariant in
    first_of (search rules, grind (arith, common_steps))

pub returns-in_err-block_item : goal.returns-in_err-block_item
unfolding while_from
returns-in_err-block_item c =
    let e = one_more (λ n. while_from no_close (block_item c.args.grammar.now.names.now c.args.room) n c.loop-turn.found c.loop-turn.tokens) _ c.loop-turn._turn c.loop-turn-test.true c.loop-turn.invariant in
    first_of (search rules, grind (arith, common_steps))

pub loop-turn-preserved : goal.loop-turn-preserved
unfolding while_from
loop-turn-preserved c =
    let e = one_more (λ n. while_from no_close (block_item c.args.grammar.now.names.now c.args.room) n c.loop-turn.found c.loop-turn.tokens) _ c.loop-turn._turn c.loop-turn-test.true c.loop-turn.invariant in
    first_of (search rules, grind (arith, common_steps))

pub returns : goal.returns
unfolding while_from
returns c =
    let e = no_more (λ n. while_from no_close (block_item c.args.grammar.now.names.now c.args.room) n c.loop-turn.found c.loop-turn.tokens) _ c.loop-turn._turn c.loop-turn-test.false c.loop-turn.invariant in
    first_of (search rules, grind (arith, common_steps))
