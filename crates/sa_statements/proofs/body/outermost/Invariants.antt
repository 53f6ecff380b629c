use Rattle.std.proofs.Common.{◌≡◌, ◌-◌}
use Rattle.sa_syntax.specs.Reading.{many, while_from}
use Rattle.sa_syntax.specs.ReadStmt.{no_close}
use Rattle.sa_statements.specs.Parts.{block_item}
use Rattle.sa_statements.proofs.body.outermost.Given as goal

abbrev pub invariant-loop-turn : goal.invariant-loop-turn
invariant-loop-turn l = many no_close (block_item l.fn.grammar.names.now l.fn.room) l.fn.tokens ≡ while_from no_close (block_item l.fn.grammar.names.now l.fn.room) (l._turn-end - l._turn) l.found l.tokens
