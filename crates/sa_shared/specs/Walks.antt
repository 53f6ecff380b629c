-- What walks over the slots of lists leave, by functions of a slot's number and value.
use Rattle.std.specs.Prelude.{◌≡◌, ◌⊎◌, ℕ, zero, suc, ◌+◌, ◌<◌, ◌≤◌, ◌==◌, ◌&&◌, nat_le, nat_lt, if◌then◌else◌, List, [], ◌∷◌, length, Option, None, Some, unwrap_or, slice_get}
use Rattle.sa_shared.specs.Tree.{Tree, empty, leaf, fork, values}

-- so many places, and the one above them if there are any
unfoldable pub with_above : ℕ → ℕ
with_above zero = 0
with_above (suc n) = suc (suc n)

-- nothing changes below a place and it keeps its node number, or it has a new one, behind so many older ones
abbrev pub IsKept : ℕ → ℕ → ℕ → ℕ → Type 0
IsKept count old nodes new = ((count ≡ 0) × (new ≡ old)) ⊎ ((0 < count) × (nodes ≤ new))

-- how many there are
unfoldable pub some_count : {A : Type 0} → Option A → ℕ
some_count None = 0
some_count (Some x) = 1

module _ {T : Type 0} where
  -- the function at the slots from the first number up to the second, which is not among them, and nothing elsewhere
  unfoldable pub in_range : ℕ → ℕ → (ℕ → T → Option T) → ℕ → T → Option T
  in_range from to f k x = if nat_le from k && nat_lt k to then f k x else None

  -- each slot has the value that the function gives, or its old one where that gives none; the first slot is number k
  unfoldable pub changed : (ℕ → T → Option T) → ℕ → List T → List T
  changed f k [] = []
  changed f k (x ∷ xs) = unwrap_or (f k x) x ∷ changed f (suc k) xs

  -- the same of two lists, where the first list's value stays if the function gives none
  unfoldable pub combined : (ℕ → T → T → Option T) → ℕ → List T → List T → List T
  combined f k [] ys = []
  combined f k (x ∷ xs) [] = []
  combined f k (x ∷ xs) (y ∷ ys) = unwrap_or (f k x y) x ∷ combined f (suc k) xs ys

  -- what is left of a start when the slots' values were taken in one after another; the first slot is number k
  unfoldable pub folded : {A : Type 0} → (A → ℕ → T → A) → ℕ → A → List T → A
  folded step k a [] = a
  folded step k a (x ∷ xs) = folded step (suc k) (step a k x) xs

  -- how many places of the tree stand over a slot that the function changes; the tree's first slot is number k
  unfoldable pub changes : (ℕ → T → Option T) → ℕ → Tree T → ℕ
  changes f k (empty n) = 0
  changes f k (leaf n x) = some_count (f k x)
  changes f k (fork n s t) = with_above (changes f k s + changes f (k + length (values s)) t)

  -- the same of two trees of one shape, where nothing changes below equal node numbers
  unfoldable pub combines : (ℕ → T → T → Option T) → ℕ → Tree T → Tree T → ℕ
  combines f k (fork i s t) (fork j u v) =
      if i == j then 0 else with_above (combines f k s u + combines f (k + length (values s)) t v)
  combines f k (leaf i x) (leaf j y) = if i == j then 0 else some_count (f k x y)
  combines f k s t = 0

  -- a step at the slots from the first number up to the second, which is not among them, and none elsewhere
  unfoldable pub step_in_range : {A : Type 0} → ℕ → ℕ → (A → ℕ → T → A) → A → ℕ → T → A
  step_in_range from to step a k x = if nat_le from k && nat_lt k to then step a k x else a

  -- it holds of each value with its slot's number; the first slot is number k
  abbrev pub AtEach : (ℕ → T → Type 0) → ℕ → List T → Type 0
  AtEach P k [] = Unit {0}
  AtEach P k (x ∷ xs) = P k x × AtEach P (suc k) xs

  -- the same of two lists' values
  abbrev pub AtBoth : (ℕ → T → T → Type 0) → ℕ → List T → List T → Type 0
  AtBoth P k [] ys = Unit {0}
  AtBoth P k (x ∷ xs) [] = Unit {0}
  AtBoth P k (x ∷ xs) (y ∷ ys) = P k x y × AtBoth P (suc k) xs ys

  -- it holds at the slots of the range
  abbrev pub Within : ℕ → ℕ → (ℕ → T → Type 0) → ℕ → T → Type 0
  Within from to P k x = from ≤ k → k < to → P k x

  -- it holds of each slot's number and value, in a range of slots
  abbrev pub InRange : ℕ → ℕ → (ℕ → T → Type 0) → List T → Type 0
  InRange from to P xs = (k : ℕ) (x : T) → from ≤ k → k < to → slice_get xs k ≡ Some x → P k x

  -- it holds of each slot's number and two values
  abbrev pub AtEachSlot : (ℕ → T → T → Type 0) → List T → List T → Type 0
  AtEachSlot P xs ys = (k : ℕ) (x y : T) → slice_get xs k ≡ Some x → slice_get ys k ≡ Some y → P k x y

  -- what a combination promises: its value is like the first one, and where both are equal it gives that value back
  pub record CombineLaws (Alike : T → T → Type 0) (Fits : ℕ → T → T → Type 0) (of : ℕ → T → T → Option T) : Type 0 where
    pub like : (k : ℕ) (x y z : T) → Alike x y → Fits k x y → of k x y ≡ Some z → Alike x z
    pub same : (k : ℕ) (x : T) → Alike x x → Fits k x x → unwrap_or (of k x x) x ≡ x
