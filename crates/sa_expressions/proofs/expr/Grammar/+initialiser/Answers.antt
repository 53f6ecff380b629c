use Rattle.std.proofs.Common.{rules, arith}
use Rattle.std.proofs.lemmas.Grind.{common_steps}
use Rattle.sa_syntax.specs.ReadStmt as stmt
use Rattle.sa_syntax.specs.ReadStmt.{inits_from}
use Rattle.sa_cursor.proofs.Turns.{one_more, no_more}
use Rattle.sa_expressions.proofs.expr.Grammar.+initialiser.Goals as goal

pub inits-returns-in_err-init : goal.inits-returns-in_err-init
unfolding inits_from
inits-returns-in_err-init t c =
    let e = one_more (λ n. stmt.inits_from (stmt.init_at c.args.self.now.names.now c.args.room) n c.loop-turn.found c.loop-turn.tokens) _ c.loop-turn._turn c.loop-turn-test.true c.loop-turn.invariant in
    first_of (search rules, grind (arith, common_steps))

pub inits-returns-in_err-expect : goal.inits-returns-in_err-expect
unfolding inits_from
inits-returns-in_err-expect t c =
    let e = one_more (λ n. stmt.inits_from (stmt.init_at c.args.self.now.names.now c.args.room) n c.loop-turn.found c.loop-turn.tokens) _ c.loop-turn._turn c.loop-turn-test.true c.loop-turn.invariant in
    first_of (search rules, grind (arith, common_steps))

pub inits-returns-then-not-sees : goal.inits-returns-then-not-sees
unfolding inits_from
inits-returns-then-not-sees t c =
    let e = one_more (λ n. stmt.inits_from (stmt.init_at c.args.self.now.names.now c.args.room) n c.loop-turn.found c.loop-turn.tokens) _ c.loop-turn._turn c.loop-turn-test.true c.loop-turn.invariant in
    first_of (search rules, grind (arith, common_steps))

pub inits-returns-in_err-expect-2 : goal.inits-returns-in_err-expect-2
unfolding inits_from
inits-returns-in_err-expect-2 t c =
    let e = one_more (λ n. stmt.inits_from (stmt.init_at c.args.self.now.names.now c.args.room) n c.loop-turn.found c.loop-turn.tokens) _ c.loop-turn._turn c.loop-turn-test.true c.loop-turn.invariant in
    first_of (search rules, grind (arith, common_steps))

pub inits-returns-in_err-expect-3 : goal.inits-returns-in_err-expect-3
unfolding inits_from
inits-returns-in_err-expect-3 t c =
    let e = one_more (λ n. stmt.inits_from (stmt.init_at c.args.self.now.names.now c.args.room) n c.loop-turn.found c.loop-turn.tokens) _ c.loop-turn._turn c.loop-turn-test.true c.loop-turn.invariant in
    first_of (search rules, grind (arith, common_steps))

pub inits-returns-then-sees : goal.inits-returns-then-sees
unfolding inits_from
inits-returns-then-sees t c =
    let e = one_more (λ n. stmt.inits_from (stmt.init_at c.args.self.now.names.now c.args.room) n c.loop-turn.found c.loop-turn.tokens) _ c.loop-turn._turn c.loop-turn-test.true c.loop-turn.invariant in
    first_of (search rules, grind (arith, common_steps))

pub inits-loop-turn-preserved : goal.inits-loop-turn-preserved
unfolding inits_from
inits-loop-turn-preserved t c =
    let e = one_more (λ n. stmt.inits_from (stmt.init_at c.args.self.now.names.now c.args.room) n c.loop-turn.found c.loop-turn.tokens) _ c.loop-turn._turn c.loop-turn-test.true c.loop-turn.invariant in
    first_of (search rules, grind (arith, common_steps))

pub inits-returns : goal.inits-returns
unfolding inits_from
inits-returns t c =
    let e = no_more (λ n. stmt.inits_from (stmt.init_at c.args.self.now.names.now c.args.room) n c.loop-turn.found c.loop-turn.tokens) _ c.loop-turn._turn c.loop-turn-test.false c.loop-turn.invariant in
    first_of (search rules, grind (arith, common_steps))
