-- The numbers from one bound to another, which is what an interval stands for (Cousot and Cousot 1977).
-- That bounds are cut at 2^100 is this project's own choice.
use Rattle.std.specs.Prelude.{ℤ, ◌≤ℤ◌}
pub use Rattle.sa_numbers.specs.Cut.{cut, low_limit, high_limit}

pub record Span : Type 0 where
  pub lo : ℤ
  pub hi : ℤ

-- the number lies in the span
pub record Within (s : Span) (z : ℤ) : Type 0 where
  pub above : s.lo ≤ℤ z
  pub below : z ≤ℤ s.hi

-- the first span lies in the second
pub record IsPart (s t : Span) : Type 0 where
  pub above : t.lo ≤ℤ s.lo
  pub below : s.hi ≤ℤ t.hi

-- the number may be a bound
pub record IsBound (z : ℤ) : Type 0 where
  pub low : low_limit ≤ℤ z
  pub high : z ≤ℤ high_limit

-- what every interval meets: it is not empty, and its bounds are within the limits
pub record IsInterval (s : Span) : Type 0 where
  pub ordered : s.lo ≤ℤ s.hi
  pub low : low_limit ≤ℤ s.lo
  pub high : s.hi ≤ℤ high_limit

-- the span holds the cut of each of these numbers
abbrev pub Holds : (ℤ → Type 0) → Span → Type 0
Holds results s = (z : ℤ) → results z → Within s (cut z)

-- the least span that holds the cut of each of these numbers
pub record IsLeast (results : ℤ → Type 0) (s : Span) : Type 0 where
  pub holds : Holds results s
  pub least : (t : Span) → Holds results t → IsPart s t

-- the least span that both lie in
pub record IsJoin (a b s : Span) : Type 0 where
  pub first : IsPart a s
  pub second : IsPart b s
  pub least : (t : Span) → IsPart a t → IsPart b t → IsPart s t

-- the span of the numbers that lie in both
pub record IsMeet (a b s : Span) : Type 0 where
  pub first : IsPart s a
  pub second : IsPart s b
  pub holds : (z : ℤ) → Within a z → Within b z → Within s z

-- no number lies in both
abbrev pub AreDisjoint : Span → Span → Type 0
AreDisjoint a b = (z : ℤ) → Within a z → Within b z → ⊥
