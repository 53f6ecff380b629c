use Rattle.sa_book.proofs.Turns.{has_turn}
use Rattle.sa_book.proofs.rule.Board.file.Goals as goal

pub file_part-requires-clause-turn : goal.file_part-requires-clause-turn
file_part-requires-clause-turn g c κs within =
    let p = c.args.pass.now in
    has_turn g.W.Work.fits c.args.self.now.terms c.args.entry.seat c.args.entry.branch c.draw-ticket.result p.number p.spares p.token.me c.draw-ticket.new.token.me c.wait.new.token.me c.requires.of_board.1 c.requires.seat c.requires.held c.draw-ticket.ensures.drawn c.wait.ensures.sees

pub give_up-requires-clause-turn : goal.give_up-requires-clause-turn
give_up-requires-clause-turn g c κs within =
    let p = c.args.pass.now in
    has_turn g.W.Work.fits c.args.self.now.terms c.args.entry.seat c.args.entry.branch c.draw-ticket.result p.number p.spares p.token.me c.draw-ticket.new.token.me c.wait.new.token.me c.requires.of_board.1 c.requires.seat c.requires.held c.draw-ticket.ensures.drawn c.wait.ensures.sees
