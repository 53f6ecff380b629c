-- Strictly rising lists: what `rising` makes of a list, and that no two have the same members.
use Rattle.std.proofs.Common.{◌≡◌, ℕ, ◌<◌, ◌≤◌, ℤ, ◌≤ℤ◌, ◌<ℤ◌, true, false, cond, List, [], ◌∷◌, length, get_or, ◌⊎◌, inl, inr, refl, sym, ap₂, arith, Contains}
use Rattle.std.specs.Int.RustNames.{int_lt}
use Rattle.std.specs.Cmp.{IsEquivalence, eq_by_cmp_equiv}
use Rattle.std.specs.List.{AllByRecursion, dedup}
use Rattle.std.specs.List.Sorted.{IsStrictlySortedBy, IsSorted, IsPermutation}
use Rattle.std.specs.Ordering.{int_cmp, eq_by_cmp}
use Rattle.std.specs.declared.cmp.Ordering.TheVariants.{Less}
use Rattle.std.proofs.lemmas.Bool.{cases_order}
use Rattle.std.proofs.lemmas.Cmp.{int_ranked, int_cmp_total}
use Rattle.std.proofs.lemmas.Int.{ints}
use Rattle.std.proofs.lemmas.List.Elements.{All-from_recursion, All-contains}
use Rattle.std.proofs.lemmas.List.Kept.{IsStrictlySortedBy-dedup, Contains-dedup, Contains-from_dedup}
use Rattle.std.proofs.lemmas.List.Sorted.{Contains-permutation, IsPermutation-sym}
use Rattle.std.proofs.lemmas.Map.Keys.{Less-from_sorted}
use Rattle.sa_interval.specs.Widening.{placed, rising, IsRisingOf}
use Rattle.sa_interval.proofs.Members.{Contains-head, Contains-tail, Contains-cons_cases}

abbrev IsRising : List ℤ → Type 0
IsRising = IsStrictlySortedBy int_cmp

-- each of these numbers is above x
abbrev AllAbove : ℤ → List ℤ → Type 0
AllAbove x = AllByRecursion (λ y. int_cmp x y ≡ Less)

pub less_from : (x y : ℤ) → int_cmp x y ≡ Less → x <ℤ y
less_from x y h = int_ranked x y Less (sym h)

less_to : (x y : ℤ) → int_lt x y ≡ true → int_cmp x y ≡ Less
less_to x y e = rw e refl

pub rising_far : (xs : List ℤ) → IsStrictlySortedBy int_cmp xs → (i j : ℕ) (d : ℤ) → i ≤ j → j < length xs → get_or xs i d ≤ℤ get_or xs j d
rising_far xs s i j d h l =
    elim (cases_order i j) [
      | inl same ↦ rw same (omega (arith, ints))
      | inr apart ↦ elim apart [
        | inl before ↦ let less : get_or xs i d <ℤ get_or xs j d = less_from (get_or xs i d) (get_or xs j d) (Less-from_sorted int_cmp xs i j d s before l) in omega (arith, ints)
        | inr after ↦ absurd (omega arith)
      ]
    ]

above_further : (z t : ℤ) (ts : List ℤ) → int_cmp z t ≡ Less → AllAbove t ts → AllAbove z ts
above_further z t [] l a = tt
above_further z t (y ∷ ts) l a = (int_cmp_total.trans z t y l a.0, above_further z t ts l a.1)

above_placed : (x z : ℤ) (ts : List ℤ) → int_cmp x z ≡ Less → AllAbove x ts → AllAbove x (placed z ts)
above_placed x z [] l a = (l, tt)
above_placed x z (t ∷ ts) l a =
    elim (int_lt z t) as (λ b. AllAbove x (cond b (z ∷ t ∷ ts) (cond (int_lt t z) (t ∷ placed z ts) (t ∷ ts)))) [
      | true ↦ (l, a)
      | false ↦ elim (int_lt t z) as (λ b. AllAbove x (cond b (t ∷ placed z ts) (t ∷ ts))) [ true ↦ (a.0, above_placed x z ts l a.1) | false ↦ a ]
    ]

rising_placed : (z : ℤ) (ts : List ℤ) → IsRising ts → IsRising (placed z ts)
unfolding IsStrictlySortedBy
rising_placed z [] s = (tt, tt)
rising_placed z (t ∷ ts) s =
    elim (int_lt z t) as (λ b. int_lt z t ≡ b → IsRising (cond b (z ∷ t ∷ ts) (cond (int_lt t z) (t ∷ placed z ts) (t ∷ ts)))) [
      | true ↦ λ e. ((less_to z t e, above_further z t ts (less_to z t e) s.0), s)
      | false ↦ λ _. elim (int_lt t z) as (λ b. int_lt t z ≡ b → IsRising (cond b (t ∷ placed z ts) (t ∷ ts))) [
        | true ↦ λ e. (above_placed t z ts (less_to t z e) s.0, rising_placed z ts s.1)
        | false ↦ λ _. s
      ] refl
    ] refl

rising_rises : (zs : List ℤ) → IsStrictlySortedBy int_cmp (rising zs)
unfolding IsStrictlySortedBy
rising_rises [] = tt
rising_rises (z ∷ zs) = rising_placed z (rising zs) (rising_rises zs)

neither : (x y : ℤ) → int_lt x y ≡ false → int_lt y x ≡ false → x ≡ y
neither x y p q = grind (arith, ints)

placed_itself : (z : ℤ) (ts : List ℤ) → Contains (placed z ts) z
placed_itself z [] = Contains-head z []
placed_itself z (t ∷ ts) =
    elim (int_lt z t) as (λ b. int_lt z t ≡ b → Contains (cond b (z ∷ t ∷ ts) (cond (int_lt t z) (t ∷ placed z ts) (t ∷ ts))) z) [
      | true ↦ λ _. Contains-head z (t ∷ ts)
      | false ↦ λ p. elim (int_lt t z) as (λ b. int_lt t z ≡ b → Contains (cond b (t ∷ placed z ts) (t ∷ ts)) z) [
        | true ↦ λ _. Contains-tail t z (placed z ts) (placed_itself z ts)
        | false ↦ λ q. (0, omega arith, sym (neither z t p q))
      ] refl
    ] refl

placed_keeps : (z : ℤ) (ts : List ℤ) (x : ℤ) → Contains ts x → Contains (placed z ts) x
placed_keeps z [] x h = absurd (omega (arith, h.1))
placed_keeps z (t ∷ ts) x h =
    elim (int_lt z t) as (λ b. Contains (cond b (z ∷ t ∷ ts) (cond (int_lt t z) (t ∷ placed z ts) (t ∷ ts))) x) [
      | true ↦ Contains-tail z x (t ∷ ts) h
      | false ↦ elim (int_lt t z) as (λ b. Contains (cond b (t ∷ placed z ts) (t ∷ ts)) x) [
        | true ↦ elim (Contains-cons_cases t x ts h) [ inl e ↦ (0, omega arith, e) | inr k ↦ Contains-tail t x (placed z ts) (placed_keeps z ts x k) ]
        | false ↦ h
      ]
    ]

placed_only : (z : ℤ) (ts : List ℤ) (x : ℤ) → Contains (placed z ts) x → (z ≡ x) ⊎ Contains ts x
placed_only z [] x h = Contains-cons_cases z x [] h
placed_only z (t ∷ ts) x held =
    elim (int_lt z t) as (λ b. Contains (cond b (z ∷ t ∷ ts) (cond (int_lt t z) (t ∷ placed z ts) (t ∷ ts))) x → (z ≡ x) ⊎ Contains (t ∷ ts) x) [
      | true ↦ λ h. Contains-cons_cases z x (t ∷ ts) h
      | false ↦ elim (int_lt t z) as (λ b. Contains (cond b (t ∷ placed z ts) (t ∷ ts)) x → (z ≡ x) ⊎ Contains (t ∷ ts) x) [
        | true ↦ λ h. elim (Contains-cons_cases t x (placed z ts) h) [
          | inl e ↦ inr (0, omega arith, e)
          | inr k ↦ elim (placed_only z ts x k) [ inl e ↦ inl e | inr i ↦ inr (Contains-tail t x ts i) ]
        ]
        | false ↦ λ h. inr h
      ]
    ] held

Contains-rising : (zs : List ℤ) (x : ℤ) → Contains zs x → Contains (rising zs) x
Contains-rising [] x h = h
Contains-rising (z ∷ zs) x h =
    elim (Contains-cons_cases z x zs h) [
      | inl e ↦ rw e (placed_itself x (rising zs))
      | inr k ↦ placed_keeps z (rising zs) x (Contains-rising zs x k)
    ]

Contains-from_rising : (zs : List ℤ) (x : ℤ) → Contains (rising zs) x → Contains zs x
Contains-from_rising [] x h = h
Contains-from_rising (z ∷ zs) x h =
    elim (placed_only z (rising zs) x h) [
      | inl e ↦ (0, omega arith, e)
      | inr k ↦ Contains-tail z x zs (Contains-from_rising zs x k)
    ]

pub rising_is : (zs : List ℤ) → IsRisingOf zs (rising zs)
rising_is zs = record { rises = rising_rises zs; keeps = Contains-rising zs; adds_none = Contains-from_rising zs }

-- what stands in the rest of a strictly rising list is above its head
above_head : (x z : ℤ) (xs : List ℤ) → AllAbove x xs → Contains xs z → x <ℤ z
above_head x z xs a k = less_from x z (All-contains (λ y. int_cmp x y ≡ Less) xs z (All-from_recursion (λ y. int_cmp x y ≡ Less) xs a) k)

same_head : (x y : ℤ) (xs ys : List ℤ) → AllAbove x xs → AllAbove y ys → Contains (y ∷ ys) x → Contains (x ∷ xs) y → x ≡ y
same_head x y xs ys a b h k =
    elim (Contains-cons_cases y x ys h) [
      | inl e ↦ sym e
      | inr i ↦ elim (Contains-cons_cases x y xs k) [
        | inl e ↦ e
        | inr j ↦ let up = above_head y x ys b i in let down = above_head x y xs a j in absurd (omega (arith, ints))
      ]
    ]

in_rest : (x y z : ℤ) (xs ys : List ℤ) → AllAbove x xs → x ≡ y → Contains xs z → Contains (y ∷ ys) z → Contains ys z
in_rest x y z xs ys a e k h =
    elim (Contains-cons_cases y z ys h) [
      | inl f ↦ let up = above_head x z xs a k in absurd (omega (arith, ints))
      | inr i ↦ i
    ]

pub same_rising : (xs ys : List ℤ) → IsStrictlySortedBy int_cmp xs → IsStrictlySortedBy int_cmp ys → ((z : ℤ) → Contains xs z → Contains ys z) → ((z : ℤ) → Contains ys z → Contains xs z) → xs ≡ ys
unfolding IsStrictlySortedBy
same_rising [] [] s t to from = refl
same_rising [] (y ∷ ys) s t to from = absurd (omega (arith, (from y (Contains-head y ys)).1))
same_rising (x ∷ xs) [] s t to from = absurd (omega (arith, (to x (Contains-head x xs)).1))
same_rising (x ∷ xs) (y ∷ ys) s t to from =
    let e : x ≡ y = same_head x y xs ys s.0 t.0 (to x (Contains-head x xs)) (from y (Contains-head y ys)) in
    let rest : xs ≡ ys =
    same_rising xs ys s.1 t.1
    (λ z k. in_rest x y z xs ys s.0 e k (to z (Contains-tail x z xs k)))
    (λ z k. in_rest y x z ys xs t.0 (sym e) k (from z (Contains-tail y z ys k))) in
    ap₂ (λ (u : ℤ) (us : List ℤ). u ∷ us) e rest

int_eq_exact : IsEquivalence (eq_by_cmp int_cmp)
int_eq_exact = eq_by_cmp_equiv int_cmp_total

-- a list that is sorted and freed of repeats is what `rising` makes of it
pub sorted_once : (zs ys all : List ℤ) → zs ≡ all → IsPermutation zs ys → IsSorted int_cmp ys → dedup (eq_by_cmp int_cmp) ys ≡ rising all
sorted_once zs ys all e moved sorted =
    same_rising (dedup (eq_by_cmp int_cmp) ys) (rising all)
    (IsStrictlySortedBy-dedup int_cmp_total (λ x y. refl) ys sorted)
    (rising_rises all)
    (λ z k. Contains-rising all z (let h = Contains-permutation ys zs z (IsPermutation-sym zs ys moved) (Contains-from_dedup (eq_by_cmp int_cmp) ys z k) in rw (← e) h))
    (λ z k. Contains-dedup int_eq_exact tied ys z (Contains-permutation zs ys z moved (rw e (Contains-from_rising all z k))))
  where
    tied : (x y : ℤ) → eq_by_cmp int_cmp x y ≡ true → x ≡ y
    tied x y h = grind (arith, ints)
