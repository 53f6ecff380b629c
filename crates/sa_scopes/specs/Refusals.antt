-- Which of the refusals of a text is told: the one that stands first, and at one place the one with the least number.
use Rattle.std.specs.List.{Contains, fold}
use Rattle.std.specs.Prelude.{◌≡◌, List, ◌==◌, ◌&&◌, ◌||◌, nat_lt, if◌then◌else◌, Bool, false, Option, Some, None}
use Rattle.sa_scopes.specs.declared.typer.Fault.{Fault}

-- before in the text, or at one place by the lesser number
unfoldable pub is_before : Fault → Fault → Bool
is_before a b =
    nat_lt a.pos.line b.pos.line
    || (a.pos.line == b.pos.line && (nat_lt a.pos.col b.pos.col || (a.pos.col == b.pos.col && nat_lt a.rule b.rule)))

abbrev pub lesser : Option Fault → Fault → Fault
lesser None b = b
lesser (Some a) b = if is_before a b then a else b

abbrev pub with_fault : Option Fault → Fault → Option Fault
with_fault least f = Some (lesser least f)

-- the least of them, where there is one
abbrev pub least_of : List Fault → Option Fault
least_of fs = fold with_fault None fs

-- a refusal of the list with none before it
pub record IsLeast (f : Fault) (fs : List Fault) : Type 0 where
  pub there : Contains fs f
  pub first : (g : Fault) → Contains fs g → is_before g f ≡ false
