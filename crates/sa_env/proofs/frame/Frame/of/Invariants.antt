use Rattle.std.proofs.Common.{◌≡◌, take, ◌<◌, ℕ}
use Rattle.std.specs.List.{All}
use Rattle.sa_interval.specs.Span.{IsInterval}
use Rattle.sa_env.specs.Slots.{spans_of}
use Rattle.sa_env.proofs.frame.Frame.of.Given as goal

abbrev pub invariant-loop-span : goal.invariant-loop-span
invariant-loop-span l = record {
  spans : spans_of l.tops.items ≡ take l.span-index l.span-items;
  whole : All IsInterval (spans_of l.tops.items);
}
