use Rattle.std.proofs.Common.{sym}
use Rattle.sa_cursor.proofs.NameLemmas.{knows_none}
use Rattle.sa_cursor.proofs.names.TypeNames.new.Goals as goal

pub invariant_of-result : goal.invariant_of-result
invariant_of-result c = λ w. rw (c.new.ensures, c.new-2.ensures.empty) (sym (knows_none w))
