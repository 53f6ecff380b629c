use Rattle.std.proofs.Common.{◌≡◌, length}
use Rattle.sa_outside.specs.Files.{file_of}
use Rattle.sa_outside.specs.Memory.{files_in}
use Rattle.sa_outside.proofs.mem_shelf.find.Given as goal

-- what was passed by has another name
abbrev pub invariant-loop-rest : goal.invariant-loop-rest
invariant-loop-rest l = file_of l.name (files_in l.rest) ≡ file_of l.name (files_in l.initial.files)

abbrev pub decreases-loop-rest : goal.decreases-loop-rest
decreases-loop-rest l = length l.rest
