-- The domain of an interval for the clock and one for each cell (Cousot and Cousot 1977; thresholds: Blanchet and others 2003).
use Rattle.std.specs.Prelude.{Some}
use Rattle.sa_typed.specs.Evaluation.{Setting}
use Rattle.sa_typed.specs.declared.program.Program.{Program}
use Rattle.sa_reference.specs.declared.flat.Flat.{Flat}
use Rattle.sa_reference.specs.Domain.{Domain}
use Rattle.sa_reference.specs.Environments.{whole_clock, top_of, initial_env, merge_of, le_of, tick_of, widen_of, Holds}
use Rattle.sa_reference.specs.Assignments.{simple_of, simple_alarms}

abbrev pub intervals : Program → Setting → Domain
intervals p w = record {
  Env = Flat;
  simple = simple_of p w;
  simple_alarms = simple_alarms p w;
  tick = tick_of w.max_clock;
  merge = merge_of;
  le = le_of;
  reduce = λ env. Some env;
  widen = widen_of p w.max_clock;
  top = top_of p (whole_clock w.max_clock);
  peak = λ env. top_of p env.clock;
  initial = initial_env p;
  Holds = Holds p;
}
