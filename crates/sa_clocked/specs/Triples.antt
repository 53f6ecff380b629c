-- Values relative to the clock: what a triple stands for, and what each call gives. The clocked domain is that of Blanchet and
-- others 2003; the order of the meets in a reduction is this project's own choice.
use Rattle.std.specs.Prelude.{◌≡◌, ◌^◌, ◌-◌, ℤ, pos, negsuc, ◌+ℤ◌, ◌-ℤ◌, ◌≤ℤ◌, List, Bool, ◌&&◌, if◌then◌else◌, ◌⊎◌, Option, Some, None}
use Rattle.std.specs.Int.RustNames.{int_le}
use Rattle.sa_interval.specs.Span.{Span, Within, IsPart, AreDisjoint}
use Rattle.sa_interval.specs.Rows.{sum_of, difference_of, meet_of, single, is_part}
use Rattle.sa_interval.specs.Rows as row
use Rattle.sa_interval.specs.Widening as interval
use Rattle.sa_clocked.specs.declared.clocked.Clocked.{Clocked}

-- the triple holds of a value x at the clock t
pub record HoldsOf (c : Clocked) (x t : ℤ) : Type 0 where
  pub v : Within c.v x
  pub minus : Within c.minus (x -ℤ t)
  pub plus : Within c.plus (x +ℤ t)

-- a number, and the bounds of a span, so small that sums of them aren't cut
pub record IsNear (z : ℤ) : Type 0 where
  pub low : negsuc (2 ^ 98 - 1) ≤ℤ z
  pub high : z ≤ℤ pos (2 ^ 98)

pub record IsSmall (s : Span) : Type 0 where
  pub low : IsNear s.lo
  pub high : IsNear s.hi

pub record AreSmall (c : Clocked) : Type 0 where
  pub v : IsSmall c.v
  pub minus : IsSmall c.minus
  pub plus : IsSmall c.plus

-- each interval lies in that of the other
pub record IsBelow (a b : Clocked) : Type 0 where
  pub v : IsPart a.v b.v
  pub minus : IsPart a.minus b.minus
  pub plus : IsPart a.plus b.plus

abbrev pub triple : Span → Span → Span → Clocked
triple v minus plus = record { v = v; minus = minus; plus = plus }

-- of a value and a clock that have nothing to do with one another
abbrev pub triple_of : Span → Span → Clocked
triple_of v clock = triple v (difference_of v clock) (sum_of v clock)

-- of a value in v that is c more than that of y
abbrev pub shifted : Clocked → Span → ℤ → Clocked
shifted y v c = triple v (sum_of y.minus (single c)) (sum_of y.plus (single c))

-- a tick later
abbrev pub ticked : Clocked → Clocked
ticked c = triple c.v (difference_of c.minus (single (pos 1))) (sum_of c.plus (single (pos 1)))

-- ---- the reduction, meet by meet
abbrev pub and_plus : Span → Clocked → Span → Span → Option Clocked
and_plus v c minus clock = elim (meet_of c.plus (sum_of v clock)) as (λ _. Option Clocked) [ None ↦ None | Some plus ↦ Some (triple v minus plus) ]

abbrev pub and_minus : Span → Clocked → Span → Option Clocked
and_minus v c clock = elim (meet_of c.minus (difference_of v clock)) as (λ _. Option Clocked) [ None ↦ None | Some minus ↦ and_plus v c minus clock ]

abbrev pub by_plus : Span → Clocked → Span → Option Clocked
by_plus v c clock = elim (meet_of v (difference_of c.plus clock)) as (λ _. Option Clocked) [ None ↦ None | Some w ↦ and_minus w c clock ]

unfoldable pub reduced : Clocked → Span → Option Clocked
reduced c clock = elim (meet_of c.v (sum_of c.minus clock)) as (λ _. Option Clocked) [ None ↦ None | Some v ↦ by_plus v c clock ]

-- a meet of the reduction is empty
abbrev pub AreEmpty : Clocked → Span → Type 0
AreEmpty c clock = reduced c clock ≡ None

-- ---- order
abbrev pub join_of : Clocked → Clocked → Clocked
join_of a b = triple (row.join_of a.v b.v) (row.join_of a.minus b.minus) (row.join_of a.plus b.plus)

abbrev pub is_below : Clocked → Clocked → Bool
is_below a b = is_part a.v b.v && is_part a.minus b.minus && is_part a.plus b.plus

-- a bound that the new one passes moves to that of the top
abbrev pub low_end : ℤ → ℤ → ℤ → ℤ
low_end old new top = if int_le old new then old else top

abbrev pub high_end : ℤ → ℤ → ℤ → ℤ
high_end old new top = if int_le new old then old else top

-- the old span, with each bound that the new one passes moved to that of the top
abbrev pub escape : Span → Span → Span → Span
escape old new top = record { lo = low_end old.lo new.lo top.lo; hi = high_end old.hi new.hi top.hi }

abbrev pub widening_of : List ℤ → Clocked → Clocked → Clocked → Clocked
widening_of thresholds old new top =
    triple (interval.widening_of thresholds old.v new.v top.v) (escape old.minus new.minus top.minus) (escape old.plus new.plus top.plus)
