use Rattle.std.proofs.Common.{sym, ap, ◌≡◌, ◌∙◌, ℕ, List, ◌∷◌, Option, Some}
use Rattle.atomic_table.specs.Table.{rest}
use Rattle.sa_book.proofs.rule.Board.take.Goals as goal

pub exchange-requires : goal.exchange-requires
exchange-requires g c =
    let pages = c.requires.slot.0 in
    let e = c.requires.slot.1 in
    (c.requires.of_board, (Some pages, e ∙ sym (ap (λ l. (0, Some pages) ∷ rest l) e)))
