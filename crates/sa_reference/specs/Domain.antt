-- The operations of an abstract domain, over environments that aren't dead. None stands for the dead one.
use Rattle.std.specs.Prelude.{ℕ, ℤ, Bool, List, Option}
use Rattle.sa_base.specs.declared.alarm.Alarm.{Alarm}
use Rattle.sa_typed.specs.declared.stmt.Simple.{Simple}
use Rattle.sa_typed.specs.Evaluation.{Store}

pub record Domain : Type 1 where
  pub Env : Type 0
  -- the environment after a statement that changes the store alone, and its alarms
  pub simple : Simple → Env → Option Env
  pub simple_alarms : Simple → Env → List Alarm
  -- after the wait
  pub tick : Env → Option Env
  pub merge : Env → Env → Env
  pub le : Env → Env → Bool
  pub reduce : Env → Option Env
  -- what pass p from 4 to 30 makes of the iterate before it and of the merge of the entry with the turn's end
  pub widen : ℕ → Env → Env → Env
  -- the top, and the top with the clock of an environment
  pub top : Env
  pub peak : Env → Env
  pub initial : Env
  -- what an environment says of a store and a clock
  pub Holds : Env → Store → ℤ → Type 0
