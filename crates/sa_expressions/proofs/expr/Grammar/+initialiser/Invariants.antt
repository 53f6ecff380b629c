use Rattle.std.proofs.Common.{◌≡◌, ◌-◌, ◌+◌, ◌*◌}
use Rattle.std.specs.Prelude.{[]}
use Rattle.sa_syntax.specs.Reading.{turns}
use Rattle.sa_syntax.specs.ReadStmt as stmt
use Rattle.sa_expressions.proofs.expr.Grammar.+initialiser.Given as goal

abbrev pub invariant-inits-loop-turn : goal.invariant-inits-loop-turn
invariant-inits-loop-turn l = stmt.inits_from (stmt.init_at l.fn.self.names.now l.fn.room) (turns l.fn.tokens) [] l.fn.tokens ≡ stmt.inits_from (stmt.init_at l.fn.self.names.now l.fn.room) (l._turn-end - l._turn) l.found l.tokens

abbrev pub decreases-init : goal.decreases-init
decreases-init l = l.room * 3 + 1

abbrev pub decreases-braces : goal.decreases-braces
decreases-braces l = l.room * 3

abbrev pub decreases-inits : goal.decreases-inits
decreases-inits l = l.room * 3 + 2
