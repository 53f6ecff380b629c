-- Each visit of each execution is at a loop that the reference analysis reaches, and what the analysis says of the loop holds
-- there; a first error is among the alarms. No loop takes more than 32 passes.
use Rattle.std.specs.Prelude.{ℕ, ℤ, pos, ◌≡◌, ◌≤◌, ◌≤ℤ◌, ◌⊎◌, ◌^◌, List, [], ◌∷◌, map, Option, Some, None, slice_get}
use Rattle.std.specs.List.{AllByRecursion}
use Rattle.sa_base.specs.Numbers.{num_lo, num_hi}
use Rattle.sa_base.specs.declared.alarm.Alarm.{Alarm}
use Rattle.sa_typed.specs.declared.program.Input.{Input}
use Rattle.sa_typed.specs.declared.program.Program.{Program}
use Rattle.sa_typed.specs.Evaluation.{End, Error, Clock, Blocked, Tape, Going, Setting, Range}
use Rattle.sa_typed.specs.Executions.{Visit, Run, execution}
use Rattle.sa_typed.specs.WellTyped.{IsTyped}
pub use Rattle.sa_operators.specs.Alarms.{IsAmong}
use Rattle.sa_reference.specs.Domain.{Domain}
use Rattle.sa_reference.specs.Steps.{Record, Found}
use Rattle.sa_reference.specs.Reference.{reference, record_at}
use Rattle.sa_reference.specs.Intervals.{intervals}

-- not dead, and P holds
abbrev pub AliveAnd : {A : Type 0} → (A → Type 0) → Option A → Type 0
AliveAnd P None = ⊥
AliveAnd P (Some a) = P a

-- a loop that is visited is reached, and its state holds at the visit
abbrev pub IsInside : (D : Domain) → Option (Record D.Env) → Visit → Type 0
IsInside D o v = AliveAnd (λ r. D.Holds r.state v.store v.clock) o

abbrev pub IsCovered : List Alarm → End → Type 0
IsCovered alarms (Error place kind) = IsAmong (record { pos = place; kind = kind }) alarms
IsCovered alarms Clock = Unit {0}
IsCovered alarms Blocked = Unit {0}
IsCovered alarms Tape = Unit {0}
IsCovered alarms Going = Unit {0}

-- what is found is true of a run
pub record IsTrueOf (D : Domain) (f : Found D.Env) (r : Run) : Type 0 where
  pub inside : AllByRecursion (λ v. IsInside D (record_at D f.records v.loop) v) r.visits
  pub covered : IsCovered f.alarms r.end

-- the ranges of a setting lie in the types of the inputs, and the clock doesn't run backwards
pub record IsWithin (p : Program) (w : Setting) : Type 0 where
  pub clock : pos 0 ≤ℤ w.max_clock
  pub last : w.max_clock ≤ℤ pos (2 ^ 62)
  pub inputs : (k : ℕ) (i : Input) (r : Range) → slice_get p.inputs k ≡ Some i → slice_get w.inputs k ≡ Some r → (num_lo i.num ≤ℤ r.lo) × (r.lo ≤ℤ r.hi) × (r.hi ≤ℤ num_hi i.num)
  pub all : (k : ℕ) (i : Input) → slice_get p.inputs k ≡ Some i → (r : Range) × (slice_get w.inputs k ≡ Some r)

-- over every typed program, every setting of it, every tape and every number of visits
abbrev pub Sound : Type 0
Sound = (p : Program) (w : Setting) → IsTyped p → IsWithin p w → (tape : List ℤ) (n : ℕ) → IsTrueOf (intervals p w) (reference (intervals p w) p) (execution p w tape n)

abbrev pub Short : Type 0
Short = (p : Program) (w : Setting) → IsTyped p → IsWithin p w → AllByRecursion (λ r. r.passes ≤ 32) (reference (intervals p w) p).records

-- each input in the range of its type, and the last clock where nobody says another: this project's own choice
abbrev pub type_range : Input → Range
type_range i = record { lo = num_lo i.num; hi = num_hi i.num }

abbrev pub widest : Program → Setting
widest p = record { inputs = map type_range p.inputs; max_clock = pos 3600000 }
