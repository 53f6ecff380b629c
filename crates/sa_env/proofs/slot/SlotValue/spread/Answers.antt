use Rattle.std.proofs.Common.{◌≡◌, rules}
use Rattle.sa_env.specs.Slots.{widened_span}
use Rattle.sa_env.proofs.slot.SlotValue.spread.Goals as goal

pub returns-then-pass-le20 : goal.returns-then-pass-le20
unfolding widened_span
returns-then-pass-le20 c = search rules

pub returns-else-pass-le20 : goal.returns-else-pass-le20
unfolding widened_span
returns-else-pass-le20 c = search rules
