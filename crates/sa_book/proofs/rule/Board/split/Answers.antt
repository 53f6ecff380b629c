use Rattle.std.proofs.Common.{arith, subst, sym, ◌≡◌}
use Rattle.sa_book.specs.Steps.{IsAtRest}
use Rattle.sa_book.proofs.Splitting.{splits_allowed}
use Rattle.sa_book.proofs.rule.Board.split.Goals as goal

pub split_seat-token-requires : goal.split_seat-token-requires
split_seat-token-requires g c =
    let s = c.args.self.now in
    let p = c.args.pass.now in
    let rest = subst (λ t. IsAtRest t p.number p.spares p.token.me) (sym s.key) c.requires.of_board.1 in
    (c.requires.of_board.0, omega (arith, s.words), splits_allowed (g.W.Work.parts s.table.shared.key.job.work) s.table.shared.key p.number p.spares p.token.id p.token.me rest c.requires.spare)
