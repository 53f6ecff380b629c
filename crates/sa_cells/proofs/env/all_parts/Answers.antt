use Rattle.std.proofs.Common.{sym}
use Rattle.sa_cells.proofs.EnvLemmas.{parts-of_lengths}
use Rattle.sa_cells.proofs.env.all_parts.Goals as goal

pub returns-then-a-b : goal.returns-then-a-b
returns-then-a-b c = sym (parts-of_lengths c.args.a.now c.args.b.now c.if-a-b.true)
