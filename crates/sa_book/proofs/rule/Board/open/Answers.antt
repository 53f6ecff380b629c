use Rattle.std.proofs.Common.{arith, subst, sym, ap, ◌∙◌, ◌≡◌, ◌∷◌, [], ◌++◌, Some}
use Rattle.atomic_table.specs.Table.{opening}
use Rattle.sa_book.specs.declared.view.Terms.{Terms}
use Rattle.sa_book.specs.declared.view.Pages.{Pages}
use Rattle.sa_book.specs.Rule.{Holds}
use Rattle.sa_book.specs.Steps.{first_view}
use Rattle.sa_book.proofs.Ends.{opening_holds}
use Rattle.sa_book.proofs.rule.Board.open.Goals as goal

pub new-requires : goal.new-requires
new-requires g c =
    let m = g.W.Work.parts c.args.job.work in
    let terms : Terms g.row.W.Denot = record { job = c.args.job; seats = c.args.seats } in
    let pages : Pages g.row.W-Part.Denot = record { history = c.in_ok-history.history; merged = c.none-merged.result } in
    let one = c.push_reserved.ensures.items ∙ ap (λ l. l ++ Some pages ∷ []) c.in_ok-slots.ensures.items in
    subst (λ slots. Holds m terms (opening (0 ∷ 0 ∷ 0 ∷ []) slots (first_view terms))) (sym one)
    (opening_holds m terms pages c.requires.seats.0 c.requires.seats.1 c.requires.branches.1 c.in_ok-history.ensures.items c.none-merged.ensures c.in_ok-history.ensures.capacity)
