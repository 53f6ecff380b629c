-- No promise of the top calls rests on this page: it is for laws beside them, for proofs and for inner functions.
-- What a fault of typing says of a tree.
use Rattle.std.specs.Prelude.{◌≡◌, ⊤}
use Rattle.sa_base.specs.declared.limit.Limit.TheVariants.{Cells}
use Rattle.sa_base.specs.declared.pos.Pos.{Pos}
use Rattle.sa_syntax.specs.declared.unit.Unit.{Unit as Source}
use Rattle.sa_typer.specs.declared.fault.TypeFault.{TypeFault}
use Rattle.sa_typer.specs.declared.fault.TypeFault.TheVariants as f
use Rattle.sa_typer.specs.Units.{answer, Refuses, TooManyCells}

abbrev pub IsFault : Source → Pos → TypeFault → Type 0
IsFault u end (f.Refused r) = answer u end ≡ Refuses r
IsFault u end (f.TooMany limit) = (limit ≡ Cells) × (answer u end ≡ TooManyCells)
IsFault u end f.OutOfMemory = ⊤
