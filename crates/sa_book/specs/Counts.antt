-- Numbers and events, counted over the views of all passes.
use Rattle.std.specs.Prelude.{◌≡◌, ℕ, ◌+◌, ◌==◌, ◌&&◌, nat_lt, nat_le, Bool, true, false, if◌then◌else◌, Option, Some, None, List, [], ◌∷◌}
use mathlib.Core.Option.{some}
use lib.ListN.{get_elem?}

-- the sum of f over a list
abbrev pub total : {A : Type 0} → (A → ℕ) → List A → ℕ
total f [] = 0
total f (x ∷ xs) = f x + total f xs

-- 1 where both numbers are one, and else 0
abbrev pub same : ℕ → ℕ → ℕ
same x y = if y == x then 1 else 0

-- how often x stands in a list
abbrev pub times : ℕ → List ℕ → ℕ
times x xs = total (same x) xs

-- how often x stands in an option, 0 or 1
abbrev pub times_in : ℕ → Option ℕ → ℕ
times_in x None = 0
times_in x (Some y) = same x y

-- 1 for something, 0 for nothing
abbrev pub count_in : {A : Type 0} → Option A → ℕ
count_in None = 0
count_in (Some y) = 1

-- 1 for a number below n, and else 0
abbrev pub once_below : ℕ → ℕ → ℕ
once_below x n = if nat_lt x n then 1 else 0

-- 1 for a number from s on and below t, and else 0
abbrev pub once_between : ℕ → ℕ → ℕ → ℕ
once_between x s t = if nat_le s x && nat_lt x t then 1 else 0

-- P holds of each element of a list
abbrev pub Each : {A : Type 0} → (A → Type 0) → List A → Type 0
Each {A} P xs = (i : ℕ) (x : A) → get_elem? xs i ≡ some x → P x
