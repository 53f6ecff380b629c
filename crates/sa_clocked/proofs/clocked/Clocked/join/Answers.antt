use Rattle.std.proofs.Common.{sym, subst}
use Rattle.sa_clocked.specs.Triples.{HoldsOf, triple}
use Rattle.sa_clocked.proofs.TripleLaws.{join_holds, joined_as}
use Rattle.sa_clocked.proofs.clocked.Clocked.join.Goals as goal

pub returns-clause-holds : goal.returns-clause-holds
returns-clause-holds c = λ x t h. joined_as c.args.self c.args.o _ _ _ c.join.ensures.row c.join-2.ensures.row c.join-3.ensures.row x t (join_holds c.args.self c.args.o x t h)
