-- No promise of the top calls rests on this page: it is for laws beside them, for proofs and for inner functions.
-- What the answer to a text says of its refusals.
use Rattle.std.specs.Prelude.{◌≡◌, ◌⊎◌, ◌↔◌, []}
use Rattle.sa_base.specs.declared.pos.Pos.{Pos}
use Rattle.sa_base.specs.declared.refusal.Refusal.{Refusal}
use Rattle.sa_syntax.specs.declared.unit.Unit.{Unit as Source}
use Rattle.sa_typed.specs.declared.program.Program.{Program}
use Rattle.sa_scopes.specs.declared.typer.Fault.{Fault}
use Rattle.sa_scopes.specs.Refusals.{IsLeast}
use Rattle.sa_typer.specs.Units.{Answer, Accepts, Refuses, TooManyCells, refusal, refusals, answer}

-- one of the refusals of the text, and none of them is before it
abbrev pub IsFirst : Source → Pos → Refusal → Type 0
IsFirst u end r = (f : Fault) × ((refusal f ≡ r) × IsLeast f (refusals u end))

-- what is answered as a refusal is the first one
abbrev pub RefusesTheLeast : Type 0
RefusesTheLeast = (u : Source) (end : Pos) (r : Refusal) → (answer u end ≡ Refuses r) ↔ IsFirst u end r

-- a program, or too many cells
abbrev pub IsUnrefused : Answer → Type 0
IsUnrefused a = ((p : Program) × (a ≡ Accepts p)) ⊎ (a ≡ TooManyCells)

-- a text without a refusal is a program or has too many cells, and no other text
abbrev pub AcceptsTheRest : Type 0
AcceptsTheRest = (u : Source) (end : Pos) → IsUnrefused (answer u end) ↔ (refusals u end ≡ [])
