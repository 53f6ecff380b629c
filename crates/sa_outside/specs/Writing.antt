-- What the answer of a write says.
use Rattle.std.specs.Prelude.{ℕ, ◌≡◌, ◌<◌, ◌≤◌, List, ◌++◌, length, take, Option, Some, None, Result, Ok, Err}
use Rattle.sa_outside.specs.declared.sink.SinkFailed.{SinkFailed}

-- bytes that are told after a call were told before it, and `taken` went to their end
abbrev pub Appends : Option (List ℕ) → Option (List ℕ) → List ℕ → Type 0
Appends before None taken = Unit {0}
Appends None (Some now) taken = ⊥
Appends (Some was) (Some now) taken = now ≡ was ++ taken

-- how many bytes a call may take: one at least, and no more than it is given
abbrev pub IsCount : List ℕ → ℕ → Type 0
IsCount bytes n = (0 < n) × (n ≤ length bytes)

-- the bytes that a call took were appended; a fault leaves what was written as it was
abbrev pub Writes : Option (List ℕ) → Option (List ℕ) → List ℕ → Result ℕ SinkFailed → Type 0
Writes before now bytes (Ok n) = Appends before now (take n bytes)
Writes before now bytes (Err _) = now ≡ before
