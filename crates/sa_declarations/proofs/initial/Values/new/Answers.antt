use Rattle.std.proofs.Common.{refl}
use Rattle.sa_declarations.proofs.TrimLemmas.{stands_none}
use Rattle.sa_declarations.proofs.initial.Values.new.Goals as goal

pub returns : goal.returns
returns c = stands_none _ c.new.ensures refl
