use Rattle.std.proofs.Common.{arith, subst, sym, ap, ◌≡◌, ◌∙◌}
use Rattle.sa_book.specs.Steps.{IsIdle}
use Rattle.sa_book.proofs.Waiting.{looks_allowed}
use Rattle.sa_book.proofs.rule.Board.look.Goals as goal

pub load-requires : goal.load-requires
load-requires g c =
    let s = c.args.self.now in
    let t = c.args.token.now in
    let key = s.table.shared.key in
    let idle = subst (λ terms. IsIdle terms c.args.branch t.me) (sym s.key) c.requires.idle.0 in
    (c.requires.of_board, omega (arith, s.words), looks_allowed g.W.Work.fits (g.W.Work.parts key.job.work) key (g.met.W.Work.laws key.job.work) s.table.shared.table_id.slots c.args.branch t.id c.args.ticket t.me idle c.requires.idle.1)
