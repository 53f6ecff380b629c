-- No promise of the top calls rests on this page: it is for laws beside them, for proofs and for inner functions.
-- What the exit status tells where there were no words for want of memory.
use Rattle.std.specs.Prelude.{Result, Ok, Err}
use Rattle.sa_base.specs.declared.status.Status.{Status}
use Rattle.sa_base.specs.declared.status.Status.TheVariants.{OutOfMemory}

abbrev pub status_or_memory : {E : Type 0} → Result Status E → Status
status_or_memory (Ok status) = status
status_or_memory (Err e) = OutOfMemory
