-- Each visit of each execution is at a loop that the reference analysis reaches, each line that is printed of the loop is
-- true there, and a first error is among the alarms that are printed. No loop takes more than 32 passes.
use Rattle.std.specs.Prelude.{ℕ, ℤ, ◌≤◌, List, Option, Some, None}
use Rattle.std.specs.List.{AllByRecursion}
use Rattle.sa_typed.specs.declared.program.Program.{Program}
use Rattle.sa_typed.specs.Executions.{Visit, Run, execution}
use Rattle.sa_typed.specs.Lines.{IsTrueLine}
use Rattle.sa_reference.specs.declared.flat.Flat.{Flat}
use Rattle.sa_reference.specs.Steps.{Record, Found}
use Rattle.sa_reference.specs.Reference.{reference, record_at}
use Rattle.sa_reference.specs.Intervals.{intervals}
use Rattle.sa_reference.specs.Sound.{IsCovered, widest}
use Rattle.sa_report.specs.Alarms.{rising}
use Rattle.sa_report.specs.Report.{lines_of}
use Rattle.sa_top.specs.Accepted.{IsAccepted}

-- what the reference analysis finds of a program, where each input has its type's range
abbrev pub found_of : Program → Found Flat
found_of p = reference (intervals p (widest p)) p

-- a loop that is visited is reached, and its lines are true
abbrev pub AreTrueAt : Program → Option (Record Flat) → Visit → Type 0
AreTrueAt p None v = ⊥
AreTrueAt p (Some r) v = AllByRecursion (λ line. IsTrueLine line v.store v.clock) (lines_of p v.loop.place r.state)

-- what is printed of what was found is true of a run
pub record IsTrueOf (p : Program) (f : Found Flat) (r : Run) : Type 0 where
  pub inside : AllByRecursion (λ v. AreTrueAt p (record_at (intervals p (widest p)) f.records v.loop) v) r.visits
  pub covered : IsCovered (rising f.alarms) r.end

-- over every accepted source, every tape and every number of visits
abbrev pub Sound : Type 0
Sound = (source : List ℕ) (p : Program) → IsAccepted source p → (tape : List ℤ) (n : ℕ) → IsTrueOf p (found_of p) (execution p (widest p) tape n)

abbrev pub Short : Type 0
Short = (source : List ℕ) (p : Program) → IsAccepted source p → AllByRecursion (λ r. r.passes ≤ 32) (found_of p).records
