use Rattle.std.proofs.Common.{◌+◌, ◌*◌}
use Rattle.test_book.proofs.tests.+fn-work-join+arg2+work.Given as goal

abbrev pub decreases-join+arg2 : goal.decreases-join+arg2
decreases-join+arg2 g l = 2 * l.rest + 2

abbrev pub decreases-work : goal.decreases-work
decreases-work g l = 2 * l.further + 1
