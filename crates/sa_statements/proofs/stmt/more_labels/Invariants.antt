use Rattle.std.proofs.Common.{◌≡◌, ◌-◌}
use Rattle.sa_syntax.specs.Reading.{many, while_from}
use Rattle.sa_syntax.specs.ReadStmt.{a_label}
use Rattle.sa_syntax.specs.Words.{begins_with_label}
use Rattle.sa_statements.proofs.stmt.more_labels.Given as goal

abbrev pub invariant-loop-turn : goal.invariant-loop-turn
invariant-loop-turn l = many begins_with_label (a_label l.fn.grammar.names.now l.fn.room) l.fn.tokens ≡ while_from begins_with_label (a_label l.fn.grammar.names.now l.fn.room) (l._turn-end - l._turn) l.found l.tokens
