use Rattle.std.proofs.Common.{rules, arith, ◌+◌, ◌-◌}
use Rattle.std.proofs.lemmas.Grind.{common_steps}
use Rattle.sa_syntax.specs.ReadStmt.{items_from}
use Rattle.sa_parser.proofs.SourceLemmas.{items_end, items_go, items_out}
use Rattle.sa_cursor.proofs.Turns.{one_more, no_more}
use Rattle.sa_parser.proofs.source.items.Goals as goal

pub returns-then-is_empty : goal.returns-then-is_empty
returns-then-is_empty c =
    let e = one_more (λ n. items_from c.args.room n c.loop-turn.names c.loop-turn.found c.loop-turn.tokens) _ c.loop-turn._turn c.loop-turn-test.true c.loop-turn.invariant in
    let f = items_end c.args.room (c.turns-turn-end.result - (c.loop-turn._turn + 1)) c.loop-turn.names c.loop-turn.found c.loop-turn.tokens in
    first_of (search rules, grind (arith, common_steps))

pub returns-in_err-item : goal.returns-in_err-item
returns-in_err-item c =
    let e = one_more (λ n. items_from c.args.room n c.loop-turn.names c.loop-turn.found c.loop-turn.tokens) _ c.loop-turn._turn c.loop-turn-test.true c.loop-turn.invariant in
    let f = items_go c.args.room (c.turns-turn-end.result - (c.loop-turn._turn + 1)) c.loop-turn.names c.loop-turn.found c.loop-turn.tokens in
    first_of (search rules, grind (arith, common_steps))

pub loop-turn-preserved : goal.loop-turn-preserved
loop-turn-preserved c =
    let e = one_more (λ n. items_from c.args.room n c.loop-turn.names c.loop-turn.found c.loop-turn.tokens) _ c.loop-turn._turn c.loop-turn-test.true c.loop-turn.invariant in
    let f = items_go c.args.room (c.turns-turn-end.result - (c.loop-turn._turn + 1)) c.loop-turn.names c.loop-turn.found c.loop-turn.tokens in
    first_of (search rules, grind (arith, common_steps))

pub returns : goal.returns
returns c =
    let e = no_more (λ n. items_from c.args.room n c.loop-turn.names c.loop-turn.found c.loop-turn.tokens) _ c.loop-turn._turn c.loop-turn-test.false c.loop-turn.invariant in
    let f = items_out c.args.room c.loop-turn.names c.loop-turn.found c.loop-turn.tokens in
    first_of (search rules, grind (arith, common_steps))
