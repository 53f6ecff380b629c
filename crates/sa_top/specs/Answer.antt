-- What a command line and files are to be answered with.
use Rattle.std.specs.Prelude.{ℕ, ◌≡◌, ◌<◌, ◌≤◌, List, [], ◌∷◌, if◌then◌else◌, Option, Some, None, codes, length}
use Rattle.std.specs.Str.{bytes_eq}
use Rattle.sa_base.specs.declared.pos.Pos.{Pos}
use Rattle.sa_base.specs.declared.alarm.Alarm.{Alarm}
use Rattle.sa_base.specs.declared.refusal.Refusal.{Refusal}
use Rattle.sa_base.specs.declared.refusal.Code.TheVariants as code
use Rattle.sa_base.specs.declared.limit.Limit.TheVariants.{Source, Tokens, Nesting, Cells}
use Rattle.sa_base.specs.Numbers.{limit_number}
use Rattle.sa_base.specs.declared.status.Status.{Status}
use Rattle.sa_base.specs.declared.status.Status.TheVariants as s
use Rattle.sa_outside.specs.Files.{Files, file_of}
use Rattle.sa_tokens.specs.declared.token.Token.{Token}
use Rattle.sa_tokens.specs.declared.fault.TokenFault.TheVariants.{BadByte, BadNumber, OpenComment, Directive}
use Rattle.sa_tokens.specs.Lexed.{IsLexed, IsRefused, HasTooMany, end_pos}
use Rattle.sa_parser.specs.declared.fault.ParseFault.TheVariants.{Syntax, TooDeep}
use Rattle.sa_parser.specs.Faults.{IsFault}
use Rattle.sa_typed.specs.declared.program.Program.{Program}
use Rattle.sa_report.specs.Alarms.{rising}
use Rattle.sa_report.specs.Report.{report_text}
use Rattle.sa_top.specs.Accepted.{IsRead, Unbuilt, Refused, TooLarge, IsAccepted}
use Rattle.sa_top.specs.Sound.{found_of}
use Rattle.sa_top.specs.Report.{refused_text, usage_text, limit_text}

-- ---- the answer to a source
-- no alarms, or at least one
abbrev pub verdict : List Alarm → Status
verdict [] = s.Clean
verdict (a ∷ as') = s.Alarmed

-- the status of a program's report, and the whole report
abbrev pub report_status : Program → Status
report_status p = verdict (rising (found_of p).alarms)

abbrev pub report_of : Program → List ℕ
report_of p = report_text p (found_of p)

-- its bytes are no tokens, or too many
pub data HasNoTokens (source : List ℕ) : Status → List ℕ → Type 0 where
  bad_byte : (p : Pos) → IsRefused source (BadByte p) → HasNoTokens source s.SourceRefused (refused_text code.BadByte p)
  bad_number : (p : Pos) → IsRefused source (BadNumber p) → HasNoTokens source s.SourceRefused (refused_text code.BadNumber p)
  open_comment : (p : Pos) → IsRefused source (OpenComment p) → HasNoTokens source s.SourceRefused (refused_text code.OpenComment p)
  directive : (p : Pos) → IsRefused source (Directive p) → HasNoTokens source s.SourceRefused (refused_text code.Directive p)
  too_many : HasTooMany source → HasNoTokens source s.Limit (limit_text Tokens)

-- its tokens begin no text at some place, or more is open at a token than may be, whichever comes first
pub data IsUnparsed (source : List ℕ) : Status → List ℕ → Type 0 where
  no_tree : (ts : List Token) (p : Pos) → IsLexed source ts → IsFault ts (end_pos source) (Syntax p) → IsUnparsed source s.SourceRefused (refused_text code.Syntax p)
  too_deep : (ts : List Token) (p : Pos) → IsLexed source ts → IsFault ts (end_pos source) (TooDeep p) → IsUnparsed source s.Limit (limit_text Nesting)

abbrev pub IsWithin : List ℕ → Type 0
IsWithin source = length source ≤ limit_number Source

-- a status and a text that answer a source, in the order of the refusals
pub data SourceAnswer (source : List ℕ) : Status → List ℕ → Type 0 where
  too_long : limit_number Source < length source → SourceAnswer source s.Limit (limit_text Source)
  unlexed : (status : Status) (text : List ℕ) → IsWithin source → HasNoTokens source status text → SourceAnswer source status text
  unparsed : (status : Status) (text : List ℕ) → IsWithin source → IsUnparsed source status text → SourceAnswer source status text
  unbuilt : (p : Pos) → IsWithin source → IsRead source (Unbuilt p) → SourceAnswer source s.SourceRefused (refused_text code.Unsupported p)
  refused : (r : Refusal) → IsWithin source → IsRead source (Refused r) → SourceAnswer source s.SourceRefused (refused_text r.code r.pos)
  too_large : IsWithin source → IsRead source TooLarge → SourceAnswer source s.Limit (limit_text Cells)
  report : (p : Program) → IsWithin source → IsAccepted source p → SourceAnswer source (report_status p) (report_of p)

-- Two answers to one source are the same.
abbrev pub OneAnswer : Type 0
OneAnswer = (source : List ℕ) (status other : Status) (text otherwise : List ℕ) → SourceAnswer source status text → SourceAnswer source other otherwise → (status ≡ other) × (text ≡ otherwise)

-- ---- the answer to words
-- a status with its text, or one of those that answer a source, or a file that is missing
pub data Answer : Type 0 where
  Says : Status → List ℕ → Answer
  AsSource : List ℕ → Answer
  Misses : Answer

-- the words are `analyze` and the name of the source, whatever its spelling
abbrev pub name_of : List (List ℕ) → Option (List ℕ)
name_of [] = None
name_of (mode ∷ []) = None
name_of (mode ∷ name ∷ []) = if bytes_eq mode (codes "analyze") then Some name else None
name_of (mode ∷ name ∷ more ∷ rest) = None

-- by what the named file holds
abbrev pub content_answer : Option (List ℕ) → Answer
content_answer None = Misses
content_answer (Some source) = AsSource source

-- by the name that the words give, and what that file holds
abbrev pub named_answer : Option (List ℕ) → Option (List ℕ) → Answer
named_answer None content = Says s.Usage usage_text
named_answer (Some name) content = content_answer content

abbrev pub content_of : Files → Option (List ℕ) → Option (List ℕ)
content_of files None = None
content_of files (Some name) = file_of name files

-- the answer to the words over these files
abbrev pub answer_of : List (List ℕ) → Files → Answer
answer_of words files = named_answer (name_of words) (content_of files (name_of words))

-- the status and the text are the answer's
abbrev pub Fits : Answer → Status → List ℕ → Type 0
Fits (Says s t) status text = (status ≡ s) × (text ≡ t)
Fits (AsSource source) status text = SourceAnswer source status text
Fits Misses status text = ⊥

-- a status that comes with its whole text
abbrev pub HasText : Status → Type 0
HasText s.ReadFault = ⊥
HasText s.WriteFault = ⊥
HasText s.OutOfMemory = ⊥
HasText s.Clean = Unit {0}
HasText s.Alarmed = Unit {0}
HasText s.Usage = Unit {0}
HasText s.SourceRefused = Unit {0}
HasText s.RangesRefused = Unit {0}
HasText s.Limit = Unit {0}
