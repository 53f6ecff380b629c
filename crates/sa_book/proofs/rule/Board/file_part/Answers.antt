use Rattle.std.proofs.Common.{arith, sym, ap, subst, ◌∙◌, ◌≡◌}
use Rattle.sa_core.specs.declared.event.Event.TheVariants.{File, Gave}
use Rattle.sa_book.specs.declared.view.Pages.{Pages}
use Rattle.sa_book.specs.Steps.{IsWorking, IsLonger}
use Rattle.sa_book.proofs.Serving.{files_allowed, gives_up_allowed, same_slot}
use Rattle.sa_book.proofs.rule.Board.file_part.Goals as goal

pub fetch_add-requires : goal.fetch_add-requires
fetch_add-requires g c =
    let s = c.args.self.now in
    let key = s.table.shared.key in
    let m = g.W.Work.parts key.job.work in
    let seat = c.args.seat in
    let branch = c.args.branch in
    let new = c.put.new.token in
    let pages = c.requires.turn.0 in
    let taken = c.take-pages.result in
    let got : Pages g.row.W-Part.Denot = record { history = taken.history; merged = c.merge.new.acc } in
    let put = c.put.ensures.put in
    let same = same_slot taken pages (sym c.take-pages.ensures.pages ∙ c.requires.turn.3) in
    let merged = c.in-Ok.ensures.value
    ∙ ap (λ p. (g.W.Work.parts s.terms.job.work).merge_of p.merged c.args.part.now) same
    ∙ ap (λ q. (g.W.Work.parts s.terms.job.work).merge_of pages.merged q) c.requires.part
    ∙ ap (λ t. (g.W.Work.parts t.job.work).merge_of pages.merged ((g.W.Work.parts t.job.work).part_of branch)) (sym s.key) in
    let view = ap (λ me. me.0) put.2 ∙ ap (λ me. me.0) c.take-pages.ensures.taken in
    let work = subst (λ t. IsWorking t seat branch c.requires.turn.1 pages new.me.0) (sym s.key) (subst (λ v. IsWorking s.terms seat branch c.requires.turn.1 pages v) (sym view) c.requires.turn.2) in (
      c.put.ensures.of_board,
      omega (arith, s.words),
      files_allowed m key s.table.shared.table_id.slots seat branch c.requires.turn.1 new.id pages put.0 new.me work (ap (λ me. me.1) put.2) got
          (subst (λ p. IsLonger (File seat branch) p got put.0) merged put.1) (ap (λ p. p.history) same),
    )

pub fetch_add-requires-in-Err : goal.fetch_add-requires-in-Err
fetch_add-requires-in-Err g c =
    let s = c.args.self.now in
    let key = s.table.shared.key in
    let m = g.W.Work.parts key.job.work in
    let seat = c.args.seat in
    let branch = c.args.branch in
    let new = c.put-in-Err.new.token in
    let pages = c.requires.turn.0 in
    let taken = c.take-pages.result in
    let got : Pages g.row.W-Part.Denot = record { history = taken.history; merged = c.merge.new.acc } in
    let put = c.put-in-Err.ensures.put in
    let same = same_slot taken pages (sym c.take-pages.ensures.pages ∙ c.requires.turn.3) in
    let merged = c.in-Err.ensures.unchanged ∙ ap (λ p. p.merged) same in
    let view = ap (λ me. me.0) put.2 ∙ ap (λ me. me.0) c.take-pages.ensures.taken in
    let work = subst (λ t. IsWorking t seat branch c.requires.turn.1 pages new.me.0) (sym s.key) (subst (λ v. IsWorking s.terms seat branch c.requires.turn.1 pages v) (sym view) c.requires.turn.2) in (
      c.put-in-Err.ensures.of_board,
      omega (arith, s.words),
      gives_up_allowed m key s.table.shared.table_id.slots seat branch c.requires.turn.1 new.id pages put.0 new.me work (ap (λ me. me.1) put.2) got
          (subst (λ p. IsLonger (Gave seat branch) p got put.0) merged put.1) (ap (λ p. p.history) same),
    )
