use Rattle.std.proofs.Common.{◌≤◌, ◌+◌, ◌-◌, ◌++◌, List, Option, true, length, drop}
use Rattle.sa_tokens.specs.declared.token.Token.{Token}
use Rattle.sa_tokens.specs.declared.fault.TokenFault.{TokenFault}
use Rattle.sa_tokens.specs.Lexed.{first_pos, most, Reads}
use Rattle.sa_tokens.proofs.lexer.tokens.Given as goal

abbrev pub invariant-loop-found : goal.invariant-loop-found
invariant-loop-found l = record {
  within : l.at ≤ length l.bytes;
  col : 1 ≤ l.pos.col;
  small : l.pos.line + l.pos.col ≤ l.at + 2;
  count : length l.found.items ≤ most;
  reads : (ts : List Token) (r : Option TokenFault) → Reads l.pos l.fresh (drop l.at l.bytes) ts r → Reads first_pos true l.bytes (l.found.items ++ ts) r;
}

abbrev pub decreases-loop-found : goal.decreases-loop-found
decreases-loop-found l = length l.initial.bytes - l.at
