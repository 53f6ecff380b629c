-- No promise of the top calls rests on this page: it is for laws beside them, for proofs and for inner functions.
-- What is read of a reader that tells its bytes.
use Rattle.std.specs.Prelude.{ℕ, List, Option, Some, None, Result}
use Rattle.sa_outside.specs.declared.shelf.ShelfError.{ShelfError}
use Rattle.sa_outside.specs.Reading.{FitsFile}

-- the answer and the bytes are those of a file that holds what the reader had left
abbrev pub FitsReader : {T : Type 0} → Option (List ℕ) → ℕ → Result T ShelfError → List ℕ → Type 0
FitsReader None limit r got = Unit {0}
FitsReader (Some file) limit r got = FitsFile (Some file) limit r got
