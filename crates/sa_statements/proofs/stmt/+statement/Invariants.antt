use Rattle.std.proofs.Common.{◌≡◌, ◌+◌, ◌-◌, ◌*◌}
use Rattle.sa_syntax.specs.Reading.{many, while_from}
use Rattle.sa_syntax.specs.ReadStmt as stmt
use Rattle.sa_syntax.specs.ReadStmt.{bodies, no_close}
use Rattle.sa_syntax.specs.Words.{begins_with_label}
use Rattle.sa_statements.specs.Parts as parts
use Rattle.sa_statements.proofs.stmt.+statement.Given as goal

abbrev pub decreases-block : goal.decreases-block
decreases-block l = l.room * 20 + 17

abbrev pub decreases-body_of_group : goal.decreases-body_of_group
decreases-body_of_group l = l.room * 20 + 7

abbrev pub decreases-do_stmt : goal.decreases-do_stmt
decreases-do_stmt l = l.room * 20 + 18

abbrev pub decreases-for_stmt : goal.decreases-for_stmt
decreases-for_stmt l = l.room * 20 + 18

abbrev pub decreases-group : goal.decreases-group
decreases-group l = l.room * 20 + 8

abbrev pub decreases-groups : goal.decreases-groups
decreases-groups l = l.room * 20 + 9

abbrev pub decreases-if_stmt : goal.decreases-if_stmt
decreases-if_stmt l = l.room * 20 + 18

abbrev pub decreases-inner : goal.decreases-inner
decreases-inner l = l.room * 20 + 2

abbrev pub decreases-marked_stmt : goal.decreases-marked_stmt
decreases-marked_stmt l = l.room * 20 + 18

abbrev pub decreases-nested : goal.decreases-nested
decreases-nested l = l.room * 20 + 9

abbrev pub decreases-nested_item : goal.decreases-nested_item
decreases-nested_item l = l.room * 20 + 8

abbrev pub decreases-statement : goal.decreases-statement
decreases-statement l = l.room * 20 + 19

abbrev pub decreases-switch_stmt : goal.decreases-switch_stmt
decreases-switch_stmt l = l.room * 20 + 18

abbrev pub decreases-while_stmt : goal.decreases-while_stmt
decreases-while_stmt l = l.room * 20 + 18

abbrev pub invariant-nested-loop-turn : goal.invariant-nested-loop-turn
invariant-nested-loop-turn l = many (no_close) (stmt.block_item l.fn.grammar.names.now l.fn.room (bodies l.fn.grammar.names.now l.fn.room) (bodies l.fn.grammar.names.now l.fn.room).stmt) l.fn.tokens ≡ while_from (no_close) (stmt.block_item l.fn.grammar.names.now l.fn.room (bodies l.fn.grammar.names.now l.fn.room) (bodies l.fn.grammar.names.now l.fn.room).stmt) (l._turn-end - l._turn) l.found l.tokens

abbrev pub invariant-groups-loop-turn : goal.invariant-groups-loop-turn
invariant-groups-loop-turn l = many (begins_with_label) (stmt.a_group l.fn.grammar.names.now l.fn.room (bodies l.fn.grammar.names.now l.fn.room)) l.fn.tokens ≡ while_from (begins_with_label) (stmt.a_group l.fn.grammar.names.now l.fn.room (bodies l.fn.grammar.names.now l.fn.room)) (l._turn-end - l._turn) l.found l.tokens

abbrev pub invariant-body_of_group-loop-turn : goal.invariant-body_of_group-loop-turn
invariant-body_of_group-loop-turn l = many (parts.goes_on) ((bodies l.fn.grammar.names.now l.fn.room).stmt) l.fn.tokens ≡ while_from (parts.goes_on) ((bodies l.fn.grammar.names.now l.fn.room).stmt) (l._turn-end - l._turn) l.found l.tokens
