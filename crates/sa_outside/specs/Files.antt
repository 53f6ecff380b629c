-- What a shelf holds.
use Rattle.std.specs.Prelude.{ℕ, List, [], ◌∷◌, Option, Some, None, if◌then◌else◌}
use Rattle.std.specs.Str.{bytes_eq}

-- names with their bytes; of two entries with one name the first counts
abbrev pub Files : Type 0
Files = List (List ℕ × List ℕ)

-- the file of that name
abbrev pub file_of : List ℕ → Files → Option (List ℕ)
file_of name [] = None
file_of name (entry ∷ rest) = if bytes_eq entry.0 name then Some entry.1 else file_of name rest
