use Rattle.std.proofs.Common.{◌≡◌, ◌≤◌, ◌+◌, take}
use Rattle.sa_tokens.specs.Lexed.{pos_past}
use Rattle.sa_tokens.proofs.lexer.pos_past.Given as goal

abbrev pub invariant-loop-b : goal.invariant-loop-b
invariant-loop-b l = record {
  col : 1 ≤ l.pos.col;
  small : l.pos.line + l.pos.col ≤ l.initial.pos.line + l.initial.pos.col + l.b-index;
  value : l.pos ≡ pos_past l.initial.pos (take l.b-index l.bytes);
}
