use Rattle.std.proofs.Common.{◌≡◌, ◌-◌}
use Rattle.std.specs.Prelude.{[]}
use Rattle.sa_syntax.specs.Reading.{turns}
use Rattle.sa_syntax.specs.ReadStmt.{items_from}
use Rattle.sa_parser.proofs.source.items.Given as goal

abbrev pub invariant-loop-turn : goal.invariant-loop-turn
invariant-loop-turn l = items_from l.fn.room (turns l.fn.tokens) [] [] l.fn.tokens ≡ items_from l.fn.room (l._turn-end - l._turn) l.names l.found l.tokens
