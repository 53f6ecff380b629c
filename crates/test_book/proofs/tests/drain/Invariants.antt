use Rattle.std.proofs.Common.{◌≡◌, [], None}
use Rattle.sa_book.specs.Passes.{IsPassOf, seen_of}
use Rattle.test_book.proofs.tests.drain.Given as goal

abbrev pub invariant-loop : goal.invariant-loop
invariant-loop g l =
    record {
      of_board : IsPassOf l.board l.pass;
      free : (seen_of l.pass).held ≡ None;
      unmarked : (seen_of l.pass).over ≡ [];
      gathered : (seen_of l.pass).gathered ≡ (seen_of l.fn.pass).gathered;
      spares : (seen_of l.pass).spares ≡ (seen_of l.fn.pass).spares;
    }
