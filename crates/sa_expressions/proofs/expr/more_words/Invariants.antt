use Rattle.std.proofs.Common.{◌≡◌, ◌-◌}
use Rattle.sa_syntax.specs.Reading.{many, while_from}
use Rattle.sa_syntax.specs.ReadExpr.{sees_scalar, scalar_word}
use Rattle.sa_expressions.proofs.expr.more_words.Given as goal

abbrev pub invariant-loop-turn : goal.invariant-loop-turn
invariant-loop-turn l = many sees_scalar scalar_word l.fn.tokens ≡ while_from sees_scalar scalar_word (l._turn-end - l._turn) l.found l.tokens
