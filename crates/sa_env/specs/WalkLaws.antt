-- What walks over slots owe: the values that they give are like those that stood there, and equal values stay.
use Rattle.std.specs.Prelude.{◌≡◌, ℕ, ℤ, List, Bool, true, false, Option, None, Some, unwrap_or, refl}
use Rattle.std.proofs.Common.{arith, IsTrue}
use Rattle.std.proofs.lemmas.Int.{ints}
use Rattle.sa_interval.specs.Span.{Span, IsPart}
use Rattle.sa_interval.specs.Rows.{is_part}
use Rattle.sa_shared.specs.Walks.{CombineLaws}
use Rattle.sa_env.specs.declared.slot.SlotValue.{SlotValue}
use Rattle.sa_env.specs.declared.slot.SlotValue.TheVariants.{Cell}
use Rattle.sa_env.specs.Slots.{Alike, slot_weakened, slot_spread}
use Rattle.sa_env.specs.Walks.{AreUnder, spread_at}

-- any two cells are alike
pub cells_alike : (x y : SlotValue) → Alike x y
cells_alike (Cell a) (Cell b) = tt

pub is_part_self : (a : Span) → is_part a a ≡ true
is_part_self a = grind (arith, ints)

pub spread_laws : (tops : List Span) (thresholds : List ℤ) (pass : ℕ) → CombineLaws Alike (AreUnder tops) (spread_at tops thresholds pass)
spread_laws tops thresholds pass = record { like = λ k x y z _ _ _. cells_alike x z; same = λ k x _ _. same k x }
  where
    same : (k : ℕ) (x : SlotValue) → unwrap_or (spread_at tops thresholds pass k x x) x ≡ x
    same k (Cell a) = rw (is_part_self a) refl
