use Rattle.std.proofs.Common.{◌≡◌, ◌-◌}
use Rattle.std.specs.Prelude.{[]}
use Rattle.sa_syntax.specs.Reading.{turns}
use Rattle.sa_syntax.specs.ReadStmt as stmt
use Rattle.sa_statements.proofs.parts.some_args.Given as goal

abbrev pub invariant-loop-turn : goal.invariant-loop-turn
invariant-loop-turn l = stmt.args_from l.fn.grammar.names.now l.fn.room (turns l.fn.tokens) l.fn.pos [] l.fn.tokens ≡ stmt.args_from l.fn.grammar.names.now l.fn.room (l._turn-end - l._turn) l.before l.found l.tokens
