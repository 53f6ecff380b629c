use Rattle.std.proofs.Common.{◌≡◌}
use Rattle.sa_book.proofs.rule.Board.wait.Given as goal

abbrev pub invariant-loop : goal.invariant-loop
invariant-loop g l = (l.token.table_id ≡ l.self.table.shared.table_id) × (l.token.me ≡ l.fn.token.me)
