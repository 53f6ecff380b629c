use Rattle.std.proofs.Common.{refl, ap, ◌∙◌, ◌∷◌, Some}
use Rattle.atomic_table.specs.Table.{rest}
use Rattle.sa_book.specs.declared.view.Pages.{Pages}
use Rattle.sa_book.proofs.rule.Board.put.Goals as goal

pub returns-clause-put : goal.returns-clause-put
returns-clause-put g c =
    let longer : Pages g.row.W-Part.Denot = record { history = c.push_reserved.new.self; merged = c.args.pages.merged } in
    let p = c.push_reserved.ensures in
    (longer, record { history = p.items; merged_is = refl; room = p.capacity }, c.exchange.ensures.3 ∙ ap (λ l. (c.args.token.now.me.0, (0, Some longer) ∷ rest l)) c.requires.slot)
