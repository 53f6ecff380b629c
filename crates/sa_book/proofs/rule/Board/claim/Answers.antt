use Rattle.std.proofs.Common.{arith, subst, sym, ◌≡◌}
use Rattle.sa_book.specs.Steps.{IsAtRest}
use Rattle.sa_book.proofs.Claiming.{claims_allowed}
use Rattle.sa_book.proofs.rule.Board.claim.Goals as goal

pub fetch_add-drawn-requires : goal.fetch_add-drawn-requires
fetch_add-drawn-requires g c =
    let s = c.args.self.now in
    let p = c.args.pass.now in
    let laws = g.met.W.Work.laws s.table.shared.key.job.work in
    let rest = subst (λ t. IsAtRest t p.number p.spares p.token.me) (sym s.key) c.requires.of_board.1 in
    (c.requires.of_board.0, omega (arith, s.words), claims_allowed laws s.table.shared.key s.table.shared.table_id.slots p.number p.spares p.token.id p.token.me rest c.requires.free c.requires.unmarked)
