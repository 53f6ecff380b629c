use Rattle.std.proofs.Common.{inl, inr}
use Rattle.sa_ranges.proofs.ToldLemmas.{not_two}
use Rattle.sa_ranges.proofs.told.range_in.Goals as goal

pub returns-in_default : goal.returns-in_default
returns-in_default c = not_two c.args.items.now (inl c.in_default.len_below)

pub returns-in_default-2 : goal.returns-in_default-2
returns-in_default-2 c = not_two c.args.items.now (inr c.in_default.len_at_least)
