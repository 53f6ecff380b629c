-- What a top call leaves.
use Rattle.std.specs.Prelude.{ℕ, Bool, IsTrue, ◌+◌, ◌-◌, ◌<◌, ◌≡◌, ◌≢◌, List, [], ◌++◌, length, take, Option, Some, None}
use Rattle.sa_base.specs.declared.status.Status.{Status}
use Rattle.sa_base.specs.declared.status.Status.TheVariants as s
use Rattle.sa_outside.specs.Files.{Files, file_of}
use Rattle.sa_outside.specs.Causes.{Rose}
use Rattle.sa_outside.specs.Writing.{Appends}
use Rattle.sa_typed.specs.declared.program.Program.{Program}
use Rattle.sa_top.specs.Accepted.{IsAccepted}
use Rattle.sa_top.specs.Answer.{Answer, Misses, answer_of, name_of, named_answer, content_of, Fits, IsWithin, report_status, report_of}

-- a proper prefix of the text was written
abbrev pub AppendsPart : Option (List ℕ) → Option (List ℕ) → List ℕ → Type 0
AppendsPart before None text = Unit {0}
AppendsPart None (Some now) text = ⊥
AppendsPart (Some was) (Some now) text = (now ≡ was ++ take (length now - length was) text) × (length now < length was + length text)

-- the status of the answer and its whole text
pub record WroteWhole (a : Answer) (status : Status) (before after : Option (List ℕ)) : Type 0 where
  pub text : List ℕ
  pub fits : Fits a status text
  pub appends : Appends before after text

-- a part of the answer's text
pub record WrotePart (a : Answer) (before after : Option (List ℕ)) : Type 0 where
  pub status : Status
  pub text : List ℕ
  pub fits : Fits a status text
  pub part : AppendsPart before after text

-- after a read fault or want of memory nothing new is written
abbrev pub Wrote : Answer → Status → Option (List ℕ) → Option (List ℕ) → Type 0
Wrote a s.ReadFault before after = Appends before after []
Wrote a s.OutOfMemory before after = Appends before after []
Wrote a s.WriteFault before after = WrotePart a before after
Wrote a s.Clean before after = WroteWhole a s.Clean before after
Wrote a s.Alarmed before after = WroteWhole a s.Alarmed before after
Wrote a s.Usage before after = WroteWhole a s.Usage before after
Wrote a s.SourceRefused before after = WroteWhole a s.SourceRefused before after
Wrote a s.RangesRefused before after = WroteWhole a s.RangesRefused before after
Wrote a s.Limit before after = WroteWhole a s.Limit before after

-- what the named file holds is what the shelf tells of it, where it tells its files
abbrev pub IsTold : Option Files → Option (List ℕ) → Option (List ℕ) → Type 0
IsTold None name content = Unit {0}
IsTold (Some files) name content = content ≡ content_of files name

-- Over a shelf that tells its files the status and the bytes are the answer to the words over these files. Over any other
-- shelf they are the answer for some content of the named file.
pub record Answers (files : Option Files) (words : List (List ℕ)) (status : Status) (before after : Option (List ℕ)) : Type 0 where
  pub content : Option (List ℕ)
  pub told : IsTold files (name_of words) content
  pub wrote : Wrote (named_answer (name_of words) content) status before after

-- a shelf that tells its files holds no file of that name
abbrev pub LacksFile : Option Files → List ℕ → Type 0
LacksFile None name = ⊥
LacksFile (Some files) name = file_of name files ≡ None

-- a shelf that tells its files holds no file that is asked for
abbrev pub IsMissing : Option Files → List (List ℕ) → Type 0
IsMissing None words = ⊥
IsMissing (Some files) words = answer_of words files ≡ Misses

-- Usage comes exactly where the words are refused, but for a fault of the write and want of memory.
abbrev pub UsageHolds : Option (List ℕ) → Status → Type 0
UsageHolds (Some name) status = status ≢ s.Usage
UsageHolds None s.Usage = Unit {0}
UsageHolds None s.WriteFault = Unit {0}
UsageHolds None s.OutOfMemory = Unit {0}
UsageHolds None _ = ⊥

-- A text is finished: its status, or a part of it was written.
abbrev pub Finished : Status → List ℕ → Status → Option (List ℕ) → Option (List ℕ) → Type 0
Finished status text s.WriteFault before after = AppendsPart before after text
Finished status text result before after = (result ≡ status) × Appends before after text

-- a sure shelf holds the file that is asked for, which is the source of a program, within the limit
pub record HoldsProgram (sure : Bool) (told : Option Files) (words : List (List ℕ)) (p : Program) : Type 0 where
  pub files : Files
  pub source : List ℕ
  pub is_sure : IsTrue sure
  pub tells : told ≡ Some files
  pub holds : content_of files (name_of words) ≡ Some source
  pub within : IsWithin source
  pub accepted : IsAccepted source p

-- no fault is counted
abbrev pub Stays : ℕ → ℕ → Type 0
Stays before now = Rose before now → ⊥

-- the report is written whole, or there is no memory for it
abbrev pub Reported : Program → Status → Option (List ℕ) → Option (List ℕ) → Type 0
Reported p s.OutOfMemory before after = Appends before after []
Reported p status before after = (status ≡ report_status p) × Appends before after (report_of p)
