use Rattle.std.proofs.Common.{true, false}
use Rattle.sa_scopes.proofs.SizeLemmas.{counted-none}
use Rattle.sa_scopes.proofs.structs.Structs.new.Goals as goal

pub invariant_of-result : goal.invariant_of-result
invariant_of-result c = (counted-none false _ _ c.new-3.ensures c.new.ensures, counted-none true _ _ c.new-4.ensures c.new.ensures)
