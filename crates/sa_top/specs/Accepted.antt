-- The sources that are analysed.
use Rattle.std.specs.Prelude.{ℕ, ◌≡◌, List, Option, Some, None}
use Rattle.sa_base.specs.declared.pos.Pos.{Pos}
use Rattle.sa_base.specs.declared.refusal.Refusal.{Refusal}
use Rattle.sa_tokens.specs.declared.token.Token.{Token}
use Rattle.sa_tokens.specs.Lexed.{IsLexed, end_pos}
use Rattle.sa_syntax.specs.declared.unit.Unit.{Unit as Source}
use Rattle.sa_syntax.specs.Refusals.{IsSource}
use Rattle.sa_typed.specs.declared.program.Program.{Program}
use Rattle.sa_unbuilt.specs.Unbuilt.{first_unbuilt}
use Rattle.sa_typer.specs.Units.{Answer, Accepts, Refuses, TooManyCells, answer}

-- what a tree is read as: a form that isn't built yet, and where it begins, before all that typing says
pub data Reading : Type 0 where
  Unbuilt : Pos → Reading
  Refused : Refusal → Reading
  TooLarge : Reading
  Built : Program → Reading

abbrev pub typed_as : Answer → Reading
typed_as (Accepts p) = Built p
typed_as (Refuses r) = Refused r
typed_as TooManyCells = TooLarge

abbrev pub unless_unbuilt : Option Pos → Answer → Reading
unless_unbuilt (Some p) a = Unbuilt p
unless_unbuilt None a = typed_as a

-- of a tree whose text ends there
unfoldable pub reading_of : Pos → Source → Reading
reading_of end u = unless_unbuilt (first_unbuilt u) (answer u end)

-- the source has tokens (ISO C 6.4), they have this tree (ISO C 6.5 to 6.9), and it is read so
pub record IsRead (source : List ℕ) (r : Reading) : Type 0 where
  pub tokens : List Token
  pub tree : Source
  pub lexed : IsLexed source tokens
  pub parsed : IsSource tokens tree
  pub read : reading_of (end_pos source) tree ≡ r

-- the source is that of a program
abbrev pub IsAccepted : List ℕ → Program → Type 0
IsAccepted source p = IsRead source (Built p)

-- A source is read in one way: it is that of one program at most, it is refused in one way, or one form is the first that
-- isn't built.
abbrev pub OneReading : Type 0
OneReading = (source : List ℕ) (r q : Reading) → IsRead source r → IsRead source q → r ≡ q
