use Rattle.std.proofs.Common.{rules, arith}
use Rattle.std.proofs.lemmas.Grind.{common_steps}
use Rattle.sa_syntax.specs.Reading.{while_from}
use Rattle.sa_syntax.specs.ReadExpr.{sees_scalar, scalar_word}
use Rattle.sa_cursor.proofs.Turns.{one_more, no_more}
use Rattle.sa_expressions.proofs.expr.more_words.Goals as goal

pub returns-then-not-sees_scalar : goal.returns-then-not-sees_scalar
unfolding while_from
returns-then-not-sees_scalar c =
    let e = one_more (λ n. while_from sees_scalar scalar_word n c.loop-turn.found c.loop-turn.tokens) _ c.loop-turn._turn c.loop-turn-test.true c.loop-turn.invariant in
    first_of (search rules, grind (arith, common_steps))

pub returns-in_err-scalar_word : goal.returns-in_err-scalar_word
unfolding while_from
returns-in_err-scalar_word c =
    let e = one_more (λ n. while_from sees_scalar scalar_word n c.loop-turn.found c.loop-turn.tokens) _ c.loop-turn._turn c.loop-turn-test.true c.loop-turn.invariant in
    first_of (search rules, grind (arith, common_steps))

pub loop-turn-preserved : goal.loop-turn-preserved
unfolding while_from
loop-turn-preserved c =
    let e = one_more (λ n. while_from sees_scalar scalar_word n c.loop-turn.found c.loop-turn.tokens) _ c.loop-turn._turn c.loop-turn-test.true c.loop-turn.invariant in
    first_of (search rules, grind (arith, common_steps))

pub returns : goal.returns
unfolding while_from
returns c =
    let e = no_more (λ n. while_from sees_scalar scalar_word n c.loop-turn.found c.loop-turn.tokens) _ c.loop-turn._turn c.loop-turn-test.false c.loop-turn.invariant in
    first_of (search rules, grind (arith, common_steps))
