use Rattle.sa_env.proofs.Order.{below_self, below_on, below_both, below_top, below_join_first, below_join_second, join_below, below_widened_first, below_widened_second, below_test}
use Rattle.sa_env.proofs.laws.environments_are_ordered.Goals as goal

pub returns : goal.returns
returns c = λ l. record {
  tested = below_test;
  same = below_self;
  through = below_on;
  both = below_both;
  least = λ e. tt;
  greatest = below_top l;
  join_first = below_join_first l;
  join_second = below_join_second l;
  join_least = join_below;
  widened_first = below_widened_first l;
  widened_second = below_widened_second l;
}
