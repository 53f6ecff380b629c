use Rattle.std.proofs.Common.{arith, subst, sym, ◌≡◌}
use Rattle.sa_book.specs.Steps.{IsAtRest}
use Rattle.sa_book.proofs.Joining.{joins_allowed}
use Rattle.sa_book.proofs.rule.Board.meet.Goals as goal

pub join_seat-requires : goal.join_seat-requires
join_seat-requires g c =
    let s = c.args.self.now in
    let a = c.args.a in
    let b = c.args.b in
    let rest = subst (λ t. IsAtRest t a.number a.spares a.token.me) (sym s.key) c.requires.first.1 in
    let rest_b = subst (λ t. IsAtRest t b.number b.spares b.token.me) (sym s.key) c.requires.second.1 in
    (c.requires.first.0, c.requires.second.0, rest_b.slot, omega (arith, s.words), joins_allowed (g.W.Work.parts s.table.shared.key.job.work) s.table.shared.key a.number a.spares b.number b.spares a.token.id b.token.id a.token.me b.token.me rest rest_b c.requires.free)
