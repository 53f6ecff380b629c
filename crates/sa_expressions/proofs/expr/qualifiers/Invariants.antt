use Rattle.std.proofs.Common.{◌≡◌, ◌-◌}
use Rattle.sa_syntax.specs.Reading.{many, while_from}
use Rattle.sa_syntax.specs.ReadExpr.{sees_qualifier, qualifier}
use Rattle.sa_expressions.proofs.expr.qualifiers.Given as goal

abbrev pub invariant-loop-turn : goal.invariant-loop-turn
invariant-loop-turn l = many sees_qualifier qualifier l.fn.tokens ≡ while_from sees_qualifier qualifier (l._turn-end - l._turn) l.found l.tokens
