-- No promise of the top calls rests on this page: it is for laws beside them, for proofs and for inner functions.
-- What the answer of a read says.
use Rattle.std.specs.Prelude.{ℕ, ◌≡◌, ◌<◌, ◌≤◌, ◌↔◌, List, [], length, take, Bool, Option, Some, None, Result, Ok, Err, IsTrue, IsSomeAnd, IfSome}
use Rattle.sa_outside.specs.declared.shelf.ShelfError.{ShelfError}
use Rattle.sa_outside.specs.declared.shelf.ShelfError.TheVariants.{Failed, TooLong, OutOfMemory}
use Rattle.sa_outside.specs.Files.{Files, file_of}
use Rattle.sa_outside.specs.Causes.{Rose}

-- `front` is the beginning of `whole`
abbrev pub IsPrefix : List ℕ → List ℕ → Type 0
IsPrefix front whole = front ≡ take (length front) whole

-- What an answer says of the file of that name, and of the bytes that were got: an answer that it was read
-- or is too long is right, and after any refusal what was got is a prefix. Nothing is got of no file.
abbrev pub FitsFile : {T : Type 0} → Option (List ℕ) → ℕ → Result T ShelfError → List ℕ → Type 0
FitsFile (Some file) limit (Ok _) got = (got ≡ file) × (length file ≤ limit)
FitsFile (Some file) limit (Err TooLong) got = IsPrefix got file × (limit < length file)
FitsFile (Some file) limit (Err Failed) got = IsPrefix got file
FitsFile (Some file) limit (Err OutOfMemory) got = IsPrefix got file
FitsFile None limit (Ok _) got = ⊥
FitsFile None limit (Err TooLong) got = ⊥
FitsFile None limit (Err Failed) got = got ≡ []
FitsFile None limit (Err OutOfMemory) got = got ≡ []

-- the same of a shelf that may tell its files or not
abbrev pub FitsTold : {T : Type 0} → Option Files → List ℕ → ℕ → Result T ShelfError → List ℕ → Type 0
FitsTold None name limit r got = Unit {0}
FitsTold (Some files) name limit r got = FitsFile (file_of name files) limit r got

-- what is too long was read up to the limit
abbrev pub StopsAtLimit : {T : Type 0} → ℕ → Result T ShelfError → List ℕ → Type 0
StopsAtLimit limit (Err TooLong) got = length got ≡ limit
StopsAtLimit limit (Err Failed) got = Unit {0}
StopsAtLimit limit (Err OutOfMemory) got = Unit {0}
StopsAtLimit limit (Ok _) got = Unit {0}

-- a failure comes only where the count of faults rose
abbrev pub FailsByFault : {T : Type 0} → ℕ → ℕ → Result T ShelfError → Type 0
FailsByFault before now (Err Failed) = Rose before now
FailsByFault before now (Err TooLong) = Unit {0}
FailsByFault before now (Err OutOfMemory) = Unit {0}
FailsByFault before now (Ok _) = Unit {0}

-- a sure shelf tells its files, and fails exactly where it holds no file of that name
abbrev pub FailsOnMissing : {T : Type 0} → Bool → Option Files → List ℕ → Result T ShelfError → Type 0
FailsOnMissing sure told name r = IsTrue sure → IsSomeAnd told (λ files. (r ≡ Err Failed) ↔ (file_of name files ≡ None))

-- where a file that a sure shelf holds is read, no fault is counted
abbrev pub KeepsCount : Bool → Option Files → List ℕ → ℕ → ℕ → Type 0
KeepsCount sure told name before now = IsTrue sure → IsSomeAnd told (λ files. IfSome (file_of name files) (λ _. now ≡ before))
