use Rattle.std.proofs.Common.{arith, subst, sym, ap, ◌≡◌, ◌∙◌}
use Rattle.sa_book.specs.Steps.{IsIdle}
use Rattle.sa_book.proofs.Waiting.{draws_allowed}
use Rattle.sa_book.proofs.rule.Board.draw.Goals as goal

pub fetch_add-requires : goal.fetch_add-requires
fetch_add-requires g c =
    let s = c.args.self.now in
    let t = c.args.token.now in
    let idle = subst (λ terms. IsIdle terms c.args.branch t.me) (sym s.key) c.requires.idle.0 in
    (c.requires.of_board, omega (arith, s.words), draws_allowed (g.W.Work.parts s.table.shared.key.job.work) s.table.shared.key s.table.shared.table_id.slots c.args.branch t.id t.me idle c.requires.idle.1)
