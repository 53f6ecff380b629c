use Rattle.std.proofs.Common.{rules, arith, ◌+◌, ◌-◌, ◌≡◌, ◌∙◌, List}
use Rattle.std.proofs.lemmas.Grind.{common_steps}
use Rattle.sa_tokens.specs.declared.punct.Punct.TheVariants as m
use Rattle.sa_syntax.specs.Reading.{while_from, sees}
use Rattle.sa_syntax.specs.ReadExpr as read
use Rattle.sa_syntax.specs.ReadExpr.{inside, steps, ranked, unary}
use Rattle.sa_tokens.specs.declared.token.Token.{Token}
use Rattle.sa_cursor.specs.declared.fault.Stop.{Stop}
use Rattle.sa_cursor.specs.Outcome.{stopped}
use Rattle.sa_expressions.proofs.Levels.{ranked_tightest, ranked_next, refused_above}
use Rattle.sa_cursor.proofs.Turns.{one_more, no_more}
use Rattle.sa_expressions.proofs.expr.Grammar.+expression.Goals as goal

pub links-returns-then-not-sees_operator : goal.links-returns-then-not-sees_operator
unfolding while_from
links-returns-then-not-sees_operator t c =
    let e = one_more (λ n. while_from (read.sees_operator c.args.level) (read.a_link c.args.self.now.names.now c.args.room (inside c.args.self.now.names.now c.args.room) (read.ranked c.args.self.now.names.now c.args.room (inside c.args.self.now.names.now c.args.room) (c.args.level - 1))) n c.loop-turn.found c.loop-turn.tokens) _ c.loop-turn._turn c.loop-turn-test.true c.loop-turn.invariant in
    first_of (search rules, grind (arith, common_steps))

pub links-returns-in_err-link : goal.links-returns-in_err-link
unfolding while_from
links-returns-in_err-link t c =
    let e = one_more (λ n. while_from (read.sees_operator c.args.level) (read.a_link c.args.self.now.names.now c.args.room (inside c.args.self.now.names.now c.args.room) (read.ranked c.args.self.now.names.now c.args.room (inside c.args.self.now.names.now c.args.room) (c.args.level - 1))) n c.loop-turn.found c.loop-turn.tokens) _ c.loop-turn._turn c.loop-turn-test.true c.loop-turn.invariant in
    first_of (search rules, grind (arith, common_steps))

pub links-loop-turn-preserved : goal.links-loop-turn-preserved
unfolding while_from
links-loop-turn-preserved t c =
    let e = one_more (λ n. while_from (read.sees_operator c.args.level) (read.a_link c.args.self.now.names.now c.args.room (inside c.args.self.now.names.now c.args.room) (read.ranked c.args.self.now.names.now c.args.room (inside c.args.self.now.names.now c.args.room) (c.args.level - 1))) n c.loop-turn.found c.loop-turn.tokens) _ c.loop-turn._turn c.loop-turn-test.true c.loop-turn.invariant in
    first_of (search rules, grind (arith, common_steps))

pub links-returns : goal.links-returns
unfolding while_from
links-returns t c =
    let e = no_more (λ n. while_from (read.sees_operator c.args.level) (read.a_link c.args.self.now.names.now c.args.room (inside c.args.self.now.names.now c.args.room) (read.ranked c.args.self.now.names.now c.args.room (inside c.args.self.now.names.now c.args.room) (c.args.level - 1))) n c.loop-turn.found c.loop-turn.tokens) _ c.loop-turn._turn c.loop-turn-test.false c.loop-turn.invariant in
    first_of (search rules, grind (arith, common_steps))

pub steps-returns-then-not-sees_step : goal.steps-returns-then-not-sees_step
unfolding while_from steps
steps-returns-then-not-sees_step t c =
    let e = one_more (λ n. while_from (read.sees_step) (read.a_step c.args.self.now.names.now c.args.room (inside c.args.self.now.names.now c.args.room)) n c.loop-turn.found c.loop-turn.tokens) _ c.loop-turn._turn c.loop-turn-test.true c.loop-turn.invariant in
    first_of (search rules, grind (arith, common_steps))

pub steps-returns-in_err-step : goal.steps-returns-in_err-step
unfolding while_from steps
steps-returns-in_err-step t c =
    let e = one_more (λ n. while_from (read.sees_step) (read.a_step c.args.self.now.names.now c.args.room (inside c.args.self.now.names.now c.args.room)) n c.loop-turn.found c.loop-turn.tokens) _ c.loop-turn._turn c.loop-turn-test.true c.loop-turn.invariant in
    first_of (search rules, grind (arith, common_steps))

pub steps-loop-turn-preserved : goal.steps-loop-turn-preserved
unfolding while_from steps
steps-loop-turn-preserved t c =
    let e = one_more (λ n. while_from (read.sees_step) (read.a_step c.args.self.now.names.now c.args.room (inside c.args.self.now.names.now c.args.room)) n c.loop-turn.found c.loop-turn.tokens) _ c.loop-turn._turn c.loop-turn-test.true c.loop-turn.invariant in
    first_of (search rules, grind (arith, common_steps))

pub steps-returns : goal.steps-returns
unfolding while_from steps
steps-returns t c =
    let e = no_more (λ n. while_from (read.sees_step) (read.a_step c.args.self.now.names.now c.args.room (inside c.args.self.now.names.now c.args.room)) n c.loop-turn.found c.loop-turn.tokens) _ c.loop-turn._turn c.loop-turn-test.false c.loop-turn.invariant in
    first_of (search rules, grind (arith, common_steps))

pub more_fields-returns-then-sees : goal.more_fields-returns-then-sees
unfolding while_from
more_fields-returns-then-sees t c =
    let e = one_more (λ n. while_from (read.no_brace c.args.self.now.names.now c.args.room (inside c.args.self.now.names.now c.args.room)) (read.field c.args.self.now.names.now c.args.room (inside c.args.self.now.names.now c.args.room)) n c.loop-turn.found c.loop-turn.tokens) _ c.loop-turn._turn c.loop-turn-test.true c.loop-turn.invariant in
    first_of (search rules, grind (arith, common_steps))

pub more_fields-returns-in_err-field : goal.more_fields-returns-in_err-field
unfolding while_from
more_fields-returns-in_err-field t c =
    let e = one_more (λ n. while_from (read.no_brace c.args.self.now.names.now c.args.room (inside c.args.self.now.names.now c.args.room)) (read.field c.args.self.now.names.now c.args.room (inside c.args.self.now.names.now c.args.room)) n c.loop-turn.found c.loop-turn.tokens) _ c.loop-turn._turn c.loop-turn-test.true c.loop-turn.invariant in
    first_of (search rules, grind (arith, common_steps))

pub more_fields-loop-turn-preserved : goal.more_fields-loop-turn-preserved
unfolding while_from
more_fields-loop-turn-preserved t c =
    let e = one_more (λ n. while_from (read.no_brace c.args.self.now.names.now c.args.room (inside c.args.self.now.names.now c.args.room)) (read.field c.args.self.now.names.now c.args.room (inside c.args.self.now.names.now c.args.room)) n c.loop-turn.found c.loop-turn.tokens) _ c.loop-turn._turn c.loop-turn-test.true c.loop-turn.invariant in
    first_of (search rules, grind (arith, common_steps))

pub more_fields-returns : goal.more_fields-returns
unfolding while_from
more_fields-returns t c =
    let e = no_more (λ n. while_from (read.no_brace c.args.self.now.names.now c.args.room (inside c.args.self.now.names.now c.args.room)) (read.field c.args.self.now.names.now c.args.room (inside c.args.self.now.names.now c.args.room)) n c.loop-turn.found c.loop-turn.tokens) _ c.loop-turn._turn c.loop-turn-test.false c.loop-turn.invariant in
    first_of (search rules, grind (arith, common_steps))

pub more_declrs-returns-then-not-sees : goal.more_declrs-returns-then-not-sees
unfolding while_from
more_declrs-returns-then-not-sees t c =
    let e = one_more (λ n. while_from (sees m.Comma) (read.next_declr c.args.self.now.names.now c.args.room (inside c.args.self.now.names.now c.args.room)) n c.loop-turn.found c.loop-turn.tokens) _ c.loop-turn._turn c.loop-turn-test.true c.loop-turn.invariant in
    first_of (search rules, grind (arith, common_steps))

pub more_declrs-returns-in_err-next_declr : goal.more_declrs-returns-in_err-next_declr
unfolding while_from
more_declrs-returns-in_err-next_declr t c =
    let e = one_more (λ n. while_from (sees m.Comma) (read.next_declr c.args.self.now.names.now c.args.room (inside c.args.self.now.names.now c.args.room)) n c.loop-turn.found c.loop-turn.tokens) _ c.loop-turn._turn c.loop-turn-test.true c.loop-turn.invariant in
    first_of (search rules, grind (arith, common_steps))

pub more_declrs-loop-turn-preserved : goal.more_declrs-loop-turn-preserved
unfolding while_from
more_declrs-loop-turn-preserved t c =
    let e = one_more (λ n. while_from (sees m.Comma) (read.next_declr c.args.self.now.names.now c.args.room (inside c.args.self.now.names.now c.args.room)) n c.loop-turn.found c.loop-turn.tokens) _ c.loop-turn._turn c.loop-turn-test.true c.loop-turn.invariant in
    first_of (search rules, grind (arith, common_steps))

pub more_declrs-returns : goal.more_declrs-returns
unfolding while_from
more_declrs-returns t c =
    let e = no_more (λ n. while_from (sees m.Comma) (read.next_declr c.args.self.now.names.now c.args.room (inside c.args.self.now.names.now c.args.room)) n c.loop-turn.found c.loop-turn.tokens) _ c.loop-turn._turn c.loop-turn-test.false c.loop-turn.invariant in
    first_of (search rules, grind (arith, common_steps))

pub bounds-returns-then-not-sees : goal.bounds-returns-then-not-sees
unfolding while_from
bounds-returns-then-not-sees t c =
    let e = one_more (λ n. while_from (sees m.OpenBracket) (read.a_bound c.args.self.now.names.now c.args.room (inside c.args.self.now.names.now c.args.room)) n c.loop-turn.found c.loop-turn.tokens) _ c.loop-turn._turn c.loop-turn-test.true c.loop-turn.invariant in
    first_of (search rules, grind (arith, common_steps))

pub bounds-returns-in_err-bound : goal.bounds-returns-in_err-bound
unfolding while_from
bounds-returns-in_err-bound t c =
    let e = one_more (λ n. while_from (sees m.OpenBracket) (read.a_bound c.args.self.now.names.now c.args.room (inside c.args.self.now.names.now c.args.room)) n c.loop-turn.found c.loop-turn.tokens) _ c.loop-turn._turn c.loop-turn-test.true c.loop-turn.invariant in
    first_of (search rules, grind (arith, common_steps))

pub bounds-loop-turn-preserved : goal.bounds-loop-turn-preserved
unfolding while_from
bounds-loop-turn-preserved t c =
    let e = one_more (λ n. while_from (sees m.OpenBracket) (read.a_bound c.args.self.now.names.now c.args.room (inside c.args.self.now.names.now c.args.room)) n c.loop-turn.found c.loop-turn.tokens) _ c.loop-turn._turn c.loop-turn-test.true c.loop-turn.invariant in
    first_of (search rules, grind (arith, common_steps))

pub bounds-returns : goal.bounds-returns
unfolding while_from
bounds-returns t c =
    let e = no_more (λ n. while_from (sees m.OpenBracket) (read.a_bound c.args.self.now.names.now c.args.room (inside c.args.self.now.names.now c.args.room)) n c.loop-turn.found c.loop-turn.tokens) _ c.loop-turn._turn c.loop-turn-test.false c.loop-turn.invariant in
    first_of (search rules, grind (arith, common_steps))

pub ranked-returns-in_err-value : goal.ranked-returns-in_err-value
ranked-returns-in_err-value t c =
    let h : (s : Stop) (us : List Token) → unary c.args.self.now.names.now c.args.room (inside c.args.self.now.names.now c.args.room) c.args.tokens.now ≡ stopped s us → ranked c.args.self.now.names.now c.args.room (inside c.args.self.now.names.now c.args.room) c.args.level c.args.tokens.now ≡ stopped s us =
    λ s us e. refused_above c.args.self.now.names.now c.args.room (inside c.args.self.now.names.now c.args.room) 0 c.args.level c.args.tokens.now s us (omega arith) (ranked_tightest c.args.self.now.names.now c.args.room (inside c.args.self.now.names.now c.args.room) c.args.tokens.now ∙ e) in
    first_of (search (rules, h), grind (arith, common_steps, h))

pub ranked-returns-in_err-links : goal.ranked-returns-in_err-links
ranked-returns-in_err-links t c =
    let one = ranked_next c.args.self.now.names.now c.args.room (inside c.args.self.now.names.now c.args.room) c.loop-below.below c.args.tokens.now in
    let h : (s : Stop) (us : List Token) → ranked c.args.self.now.names.now c.args.room (inside c.args.self.now.names.now c.args.room) (c.loop-below.below + 1) c.args.tokens.now ≡ stopped s us → ranked c.args.self.now.names.now c.args.room (inside c.args.self.now.names.now c.args.room) c.args.level c.args.tokens.now ≡ stopped s us =
    λ s us e. refused_above c.args.self.now.names.now c.args.room (inside c.args.self.now.names.now c.args.room) (c.loop-below.below + 1) c.args.level c.args.tokens.now s us (omega arith) e in
    first_of (search (rules, h), grind (arith, common_steps, h))
