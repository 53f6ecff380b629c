use Rattle.std.proofs.Common.{arith, sym, ap, subst, ◌∙◌, ◌≡◌}
use Rattle.sa_core.specs.declared.event.Event.TheVariants.{Gave}
use Rattle.sa_book.specs.Steps.{IsWorking, IsLonger}
use Rattle.sa_book.proofs.Serving.{gives_up_allowed, same_slot}
use Rattle.sa_book.proofs.rule.Board.give_up.Goals as goal

pub fetch_add-requires : goal.fetch_add-requires
fetch_add-requires g c =
    let s = c.args.self.now in
    let key = s.table.shared.key in
    let seat = c.args.seat in
    let branch = c.args.branch in
    let old = c.args.token.now in
    let new = c.put.new.token in
    let pages = c.requires.turn.0 in
    let got = c.take-pages.result in
    let put = c.put.ensures.put in
    let same = same_slot got pages (sym c.take-pages.ensures.pages ∙ c.requires.turn.3) in
    let view = ap (λ me. me.0) put.2 ∙ ap (λ me. me.0) c.take-pages.ensures.taken in
    let work = subst (λ t. IsWorking t seat branch c.requires.turn.1 pages new.me.0) (sym s.key) (subst (λ v. IsWorking s.terms seat branch c.requires.turn.1 pages v) (sym view) c.requires.turn.2) in (
      c.put.ensures.of_board,
      omega (arith, s.words),
      gives_up_allowed (g.W.Work.parts key.job.work) key s.table.shared.table_id.slots seat branch c.requires.turn.1 new.id pages put.0 new.me work (ap (λ me. me.1) put.2) got
          (subst (λ p. IsLonger (Gave seat branch) p.merged got put.0) same put.1) (ap (λ p. p.history) same),
    )
