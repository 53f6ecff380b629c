use Rattle.std.proofs.Common.{◌≡◌, ◌-◌}
use Rattle.sa_tokens.specs.declared.punct.Punct.TheVariants as m
use Rattle.sa_syntax.specs.ReadStmt as stmt
use Rattle.sa_parser.proofs.unit.init_declrs.Given as goal

abbrev pub invariant-loop-turn : goal.invariant-loop-turn
invariant-loop-turn l = stmt.list m.Semicolon (stmt.init_declr l.fn.grammar.names.now l.fn.room) l.fn.tokens ≡ stmt.list_from m.Semicolon (stmt.init_declr l.fn.grammar.names.now l.fn.room) (l._turn-end - l._turn) l.found l.tokens
