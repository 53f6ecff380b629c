-- What typing tells, by its two outcomes.
use Rattle.std.proofs.Common.{◌≡◌, ◌≤◌, Ok, Err, length}
use Rattle.std.specs.Prelude.{Result, IfOk, IfErr}
use Rattle.sa_base.specs.declared.pos.Pos.{Pos}
use Rattle.sa_syntax.specs.declared.unit.Unit.{Unit as Source}
use Rattle.sa_typed.specs.Cells.{cells}
use Rattle.sa_typed.specs.TypedPrograms.{IsTypedProgram}
use Rattle.sa_typed.specs.WellTyped.{IsTyped}
use Rattle.sa_typed.specs.declared.program.Program.{Program}
use Rattle.sa_typer.specs.declared.fault.TypeFault.{TypeFault}
use Rattle.sa_typer.specs.declared.fault.TypeFault.TheVariants as f
use Rattle.sa_typer.specs.Answers.{IsFault}
use Rattle.sa_typer.specs.Units.{answer, Answer, Accepts, Tells}
use Rattle.sa_unbuilt.specs.Unbuilt.{IsBuilt}
use Rattle.sa_typer.proofs.UnitLaws.{accepted_typed, accepted_program, accepted_small}

pub told_accepted : (a : Answer) (r : Result Program TypeFault) → Tells a r → IfOk r (λ p. a ≡ Accepts p)
told_accepted a (Ok p) h = h
told_accepted a (Err e) h = tt

pub told_refused : (u : Source) (end : Pos) (r : Result Program TypeFault) → Tells (answer u end) r → IfErr r (IsFault u end)
told_refused u end (Ok p) h = tt
told_refused u end (Err (f.Refused r)) h = h
told_refused u end (Err (f.TooMany limit)) h = h
told_refused u end (Err f.OutOfMemory) h = tt

pub told_typed : (u : Source) (end : Pos) (r : Result Program TypeFault) → IsBuilt u → Tells (answer u end) r → IfOk r IsTyped
told_typed u end (Ok p) b h = accepted_typed u end p h b
told_typed u end (Err e) b h = tt

pub told_program : (u : Source) (end : Pos) (r : Result Program TypeFault) → Tells (answer u end) r → IfOk r IsTypedProgram
told_program u end (Ok p) h = accepted_program u end p h
told_program u end (Err e) h = tt

pub told_small : (u : Source) (end : Pos) (r : Result Program TypeFault) → Tells (answer u end) r → IfOk r (λ p. length (cells p) ≤ 65536)
told_small u end (Ok p) h = accepted_small u end p h
told_small u end (Err e) h = tt
