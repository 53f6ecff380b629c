use Rattle.std.proofs.Common.{rules, arith}
use Rattle.std.proofs.lemmas.Grind.{common_steps}
use Rattle.sa_tokens.specs.declared.punct.Punct.TheVariants as m
use Rattle.sa_syntax.specs.ReadStmt as stmt
use Rattle.sa_syntax.specs.ReadStmt.{list_from}
use Rattle.sa_cursor.proofs.Turns.{one_more, no_more}
use Rattle.sa_parser.proofs.unit.param_list.Goals as goal

pub returns-in_err-param : goal.returns-in_err-param
unfolding list_from
returns-in_err-param c =
    let e = one_more (λ n. stmt.list_from m.CloseParen (stmt.param c.args.grammar.now.names.now c.args.room) n c.loop-turn.found c.loop-turn.tokens) _ c.loop-turn._turn c.loop-turn-test.true c.loop-turn.invariant in
    first_of (search rules, grind (arith, common_steps))

pub returns-in_err-expect : goal.returns-in_err-expect
unfolding list_from
returns-in_err-expect c =
    let e = one_more (λ n. stmt.list_from m.CloseParen (stmt.param c.args.grammar.now.names.now c.args.room) n c.loop-turn.found c.loop-turn.tokens) _ c.loop-turn._turn c.loop-turn-test.true c.loop-turn.invariant in
    first_of (search rules, grind (arith, common_steps))

pub returns-then-not-sees : goal.returns-then-not-sees
unfolding list_from
returns-then-not-sees c =
    let e = one_more (λ n. stmt.list_from m.CloseParen (stmt.param c.args.grammar.now.names.now c.args.room) n c.loop-turn.found c.loop-turn.tokens) _ c.loop-turn._turn c.loop-turn-test.true c.loop-turn.invariant in
    first_of (search rules, grind (arith, common_steps))

pub loop-turn-preserved : goal.loop-turn-preserved
unfolding list_from
loop-turn-preserved c =
    let e = one_more (λ n. stmt.list_from m.CloseParen (stmt.param c.args.grammar.now.names.now c.args.room) n c.loop-turn.found c.loop-turn.tokens) _ c.loop-turn._turn c.loop-turn-test.true c.loop-turn.invariant in
    first_of (search rules, grind (arith, common_steps))

pub returns : goal.returns
unfolding list_from
returns c =
    let e = no_more (λ n. stmt.list_from m.CloseParen (stmt.param c.args.grammar.now.names.now c.args.room) n c.loop-turn.found c.loop-turn.tokens) _ c.loop-turn._turn c.loop-turn-test.false c.loop-turn.invariant in
    first_of (search rules, grind (arith, common_steps))
