use Rattle.std.proofs.Common.{rules}
use Rattle.sa_lower.proofs.RowLaws.{led_same, led_further}
use Rattle.sa_lower.proofs.named.led.Goals as goal

pub returns-then-stride-eq0 : goal.returns-then-stride-eq0
returns-then-stride-eq0 c = search (rules, led_same)

pub returns : goal.returns
returns c = search (rules, led_further)
