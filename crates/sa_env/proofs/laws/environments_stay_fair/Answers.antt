use Rattle.sa_env.proofs.Fairness.{top_fair, assigned_fair, join_fair, ticked_fair, with_clock_fair, widened_fair}
use Rattle.sa_env.proofs.Weak.{weakly_fair}
use Rattle.sa_env.proofs.Spreading.{spans_spread}
use Rattle.sa_env.proofs.laws.environments_stay_fair.Goals as goal

pub returns : goal.returns
returns c = λ l. record {
  top = top_fair l;
  assigned = assigned_fair l;
  weakly = weakly_fair l;
  ticked = ticked_fair l;
  with_clock = with_clock_fair l;
  join = join_fair l;
  widened = widened_fair l;
}
