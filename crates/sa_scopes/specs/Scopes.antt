-- Names and what each stands for. There is no shadowing: a name that is visible isn't declared again, so each stands once.
use Rattle.std.specs.Prelude.{ℕ, ◌≡◌, ◌+◌, List, [], ◌∷◌, ◌++◌, Bool, true, false, if◌then◌else◌, take, length, set, map, slice_get, Option, Some, None}
use denote.Ref.{Bor}
use Rattle.std.specs.Ordering.{nat_cmp}
use Rattle.std.specs.Cmp.Lexicographic.{slice_cmp}
use Rattle.std.specs.BTreeMap.{BTreeMap, get_by}
use Rattle.std.specs.Str.{bytes_eq}

-- the names, the oldest first, and what each stands for
pub record Scope (M : Type 0) : Type 0 where
  pub words : List (List ℕ)
  pub meanings : List M

abbrev pub nothing : {M : Type 0} → Scope M
nothing = record { words = []; meanings = [] }

-- the number of the first name in a list that is this one
unfoldable pub index_from : ℕ → List ℕ → List (List ℕ) → Option ℕ
index_from k w [] = None
index_from k w (n ∷ ns) = if bytes_eq w n then Some k else index_from (k + 1) w ns

abbrev pub index_of : {M : Type 0} → Scope M → List ℕ → Option ℕ
index_of s w = index_from 0 w s.words

abbrev pub at : {A : Type 0} → List A → Option ℕ → Option A
at xs None = None
at xs (Some i) = slice_get xs i

-- what a name stands for, where it is visible
unfoldable pub meaning_of : {M : Type 0} → Scope M → List ℕ → Option M
meaning_of s w = at s.meanings (index_of s w)

abbrev pub is_some : {A : Type 0} → Option A → Bool
is_some None = false
is_some (Some _) = true

abbrev pub is_visible : {M : Type 0} → Scope M → List ℕ → Bool
is_visible s w = is_some (index_of s w)

abbrev pub with_name : {M : Type 0} → Scope M → List ℕ → M → Scope M
with_name s w m = record { words = s.words ++ w ∷ []; meanings = s.meanings ++ m ∷ [] }

-- the scope in which a name that stands there has another meaning
abbrev pub with_meaning : {M : Type 0} → Scope M → ℕ → M → Scope M
with_meaning s i m = record { words = s.words; meanings = set s.meanings i m }

-- the oldest names alone
abbrev pub oldest : {M : Type 0} → ℕ → Scope M → Scope M
oldest n s = record { words = take n s.words; meanings = take n s.meanings }

-- how many names are visible
abbrev pub count : {M : Type 0} → Scope M → ℕ
count s = length s.words

-- names as they stand in the source
abbrev pub texts : List (Bor (List ℕ)) → List (List ℕ)
texts ws = map (λ w. w.now) ws

-- what a map from names has at a name
abbrev pub place_in : BTreeMap (Bor (List ℕ)) ℕ → List ℕ → Option ℕ
place_in places w = get_by (λ k. slice_cmp nat_cmp w k.now) places

-- the map has the place of each name
abbrev pub Finds : BTreeMap (Bor (List ℕ)) ℕ → List (List ℕ) → Type 0
Finds places words = (w : List ℕ) (i : ℕ) → index_from 0 w words ≡ Some i → place_in places w ≡ Some i

-- whether the name with that number is this one
abbrev pub is_same : List ℕ → Option (List ℕ) → Bool
is_same w None = false
is_same w (Some n) = bytes_eq n w

unfoldable pub names_at : List (List ℕ) → ℕ → List ℕ → Bool
names_at words i w = is_same w (slice_get words i)
