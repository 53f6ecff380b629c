-- What walks over slots do at each one.
use Rattle.std.specs.Prelude.{◌≡◌, ℕ, ◌<◌, ℤ, List, length, slice_index_or, Option, None, Some}
use Rattle.sa_interval.specs.Span.{Span, IsPart}
use Rattle.sa_env.specs.declared.slot.SlotValue.{SlotValue}
use Rattle.sa_env.specs.declared.slot.SlotValue.TheVariants.{Cell}
use Rattle.sa_env.specs.Slots.{span_of, slot_spread}

-- two values of a slot under its top
pub record AreUnder (tops : List Span) (k : ℕ) (x y : SlotValue) : Type 0 where
  pub inside : k < length tops
  pub old : IsPart (span_of x) (slice_index_or tops k (span_of x))
  pub new : IsPart (span_of y) (slice_index_or tops k (span_of x))

-- what a pass makes of the two values of a slot
abbrev pub spread_at : List Span → List ℤ → ℕ → ℕ → SlotValue → SlotValue → Option SlotValue
spread_at tops thresholds pass k x y = slot_spread thresholds pass (Cell (slice_index_or tops k (span_of x))) x y
