-- What contracts see of a pass and of its board.
use Rattle.std.specs.Prelude.{◌≡◌}
use Rattle.sa_book.specs.declared.view.View.{View}
use Rattle.sa_book.specs.declared.rule.Board.{Board}
use Rattle.sa_book.specs.declared.rule.Pass.{Pass}
use Rattle.sa_book.specs.Steps.{IsAtRest}

module _ {W P : Type 0} where
  -- a pass of this board, as `open`, `split` and `meet` give it
  abbrev pub IsPassOf : Board W P → Pass W P → Type 0
  IsPassOf board pass = (pass.token.table_id ≡ board.table.shared.table_id) × IsAtRest board.terms pass.number pass.spares pass.token.me

  -- what was done with a pass
  abbrev pub seen_of : Pass W P → View W P
  seen_of pass = pass.token.me.0
