use Rattle.std.proofs.Common.{rules}
use Rattle.sa_syntax.specs.Reading.{same_mark}
use Rattle.sa_cursor.proofs.cursor.same_mark.Goals as goal

pub returns : goal.returns
unfolding same_mark
returns c = search rules
