-- No promise of the top calls rests on this page: it is for laws beside them, for proofs and for inner functions.
-- The shelf and the sinks in memory, as contracts see them.
use Rattle.std.specs.Prelude.{ℕ, ◌+◌, ◌-◌, ◌^◌, ◌==◌, min, List, [], ◌∷◌, ◌++◌, length, take, Bool, ◌||◌, Vec, Option, Some, None, if◌then◌else◌, is_none}
use Rattle.std.specs.List.{list_any}
use Rattle.std.specs.declared.alloc.Global.{Global}
use Rattle.sa_outside.specs.Files.{Files, file_of}
use Rattle.sa_outside.specs.Causes.{one_more}

-- the files of a list of pairs
abbrev pub files_in : List (List ℕ × Vec ℕ Global) → Files
files_in [] = []
files_in (entry ∷ rest) = (entry.0, entry.1.items) ∷ files_in rest

-- whether no call is to fail by its number
abbrev pub none_in : List ℕ → Bool
none_in fails = length fails == 0

-- whether the call after `calls` of them is to fail by its number, which is counted from 1
abbrev pub is_due : List ℕ → ℕ → Bool
is_due fails calls = list_any (λ n. n == one_more calls) fails

-- `faults`, and one more if this call fails
abbrev pub faults_after : Bool → ℕ → ℕ
faults_after failing faults = if failing then one_more faults else faults

-- A shelf: its files, the numbers of the calls that are to fail, and how many calls it had and failed.
pub record Shelved : Type 0 where
  pub files : Files
  pub fails : List ℕ
  pub calls : ℕ
  pub faults : ℕ

-- a read fails where its number is among those, or where no file has the name
abbrev pub fails_reading : Shelved → List ℕ → Bool
fails_reading s name = is_due s.fails s.calls || is_none (file_of name s.files)

-- the shelf after a read
abbrev pub after_read : Shelved → List ℕ → Shelved
after_read s name = record s { calls = one_more s.calls; faults = faults_after (fails_reading s name) s.faults }

-- A sink that keeps the first `room` bytes and counts the rest.
pub record Caught : Type 0 where
  pub room : ℕ
  pub kept : List ℕ
  pub rest : ℕ

-- the bytes written so far, where all of them were kept
abbrev pub told_by : Caught → Option (List ℕ)
told_by s = if s.rest == 0 then Some s.kept else None

-- the sink after more bytes
abbrev pub caught_more : Caught → List ℕ → Caught
caught_more s bytes =
    let all = s.kept ++ bytes in
    record s { kept = take s.room all; rest = min (s.rest + (length all - s.room)) (2 ^ 64 - 1) }

-- A sink that takes at most `take` bytes a call: what it caught, the numbers of the calls that are to
-- fail, and how many calls it had and failed.
pub record Failing : Type 0 where
  pub caught : Caught
  pub most : ℕ
  pub fails : List ℕ
  pub calls : ℕ
  pub faults : ℕ

-- a call takes as many bytes as it may, unless its number is among those that fail
abbrev pub taken_by : Failing → List ℕ → Option ℕ
taken_by s bytes = if is_due s.fails s.calls then None else Some (min (length bytes) s.most)

-- the sink after a call
abbrev pub after_write : Failing → List ℕ → Failing
after_write s bytes =
    record s {
      caught = if is_due s.fails s.calls then s.caught else caught_more s.caught (take s.most bytes);
      calls = one_more s.calls;
      faults = faults_after (is_due s.fails s.calls) s.faults;
    }
