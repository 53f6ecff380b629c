-- No clause of a call that changes a shop rests on this page: it has the laws of flat environments, for the layers above.
use Rattle.std.specs.Prelude.{◌≡◌, ◌↔◌, ℕ, ◌+◌, ◌<◌, ◌≤◌, ℤ, List, length, slice_index_or, IsTrue}
use Rattle.sa_interval.specs.Span.{Span, IsPart}
use Rattle.sa_env.specs.Flat.{Flat, dead, Limits, AreLimits, IsIn, IsFair, is_below, IsBelow, top_of, join, assigned, weakly_assigned, ticked, with_clock, widened}

-- what each operation makes of fair environments is fair
pub record KeepsFair (l : Limits) : Type 0 where
  pub top : AreLimits l → IsFair l (top_of l)
  pub assigned : (c : ℕ) (v : Span) (e : Flat) → IsIn (slice_index_or l.tops c v) v → IsFair l e → IsFair l (assigned c v e)
  pub weakly : (first count : ℕ) (v : Span) (e : Flat) → ((k : ℕ) → first ≤ k → k < first + count → IsPart v (slice_index_or l.tops k v)) → IsFair l e → IsFair l (weakly_assigned first count v e)
  pub ticked : (e : Flat) → IsFair l e → IsFair l (ticked l e)
  pub with_clock : (e of : Flat) → IsFair l e → IsFair l of → IsFair l (with_clock e of)
  pub join : (a b : Flat) → IsFair l a → IsFair l b → IsFair l (join a b)
  pub widened : AreLimits l → (thresholds : List ℤ) (pass : ℕ) (a b : Flat) → IsFair l a → IsFair l b → IsFair l (widened l thresholds pass a b)

-- a partial order with a least and a greatest environment; the join is the least upper bound, and widening is above both
-- (Cousot and Cousot 1977)
pub record IsOrdered (l : Limits) : Type 0 where
  pub tested : (a b : Flat) → IsTrue (is_below a b) ↔ IsBelow a b
  pub same : (e : Flat) → IsBelow e e
  pub through : (a b c : Flat) → IsBelow a b → IsBelow b c → IsBelow a c
  pub both : (a b : Flat) → IsBelow a b → IsBelow b a → a ≡ b
  pub least : (e : Flat) → IsBelow dead e
  pub greatest : (e : Flat) → IsFair l e → IsBelow e (top_of l)
  pub join_first : (a b : Flat) → IsFair l a → IsFair l b → IsBelow a (join a b)
  pub join_second : (a b : Flat) → IsFair l a → IsFair l b → IsBelow b (join a b)
  pub join_least : (a b c : Flat) → IsBelow a c → IsBelow b c → IsBelow (join a b) c
  pub widened_first : (thresholds : List ℤ) (pass : ℕ) (a b : Flat) → IsFair l a → IsFair l b → IsBelow a (widened l thresholds pass a b)
  pub widened_second : (thresholds : List ℤ) (pass : ℕ) (a b : Flat) → IsFair l a → IsFair l b → IsBelow b (widened l thresholds pass a b)
