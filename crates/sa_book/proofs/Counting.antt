-- Sums over a list in which one element changes, or that gets one element more.
use Rattle.std.proofs.Common.{◌≡◌, ◌≢◌, ℕ, zero, suc, ◌+◌, ◌<◌, ◌≤◌, List, [], ◌∷◌, ◌++◌, map, length, set, Option, Some, None, refl, sym, ap, ◌∙◌, subst, inl, inr, arith}
use Rattle.std.specs.Prelude.{nat_lt, nat_le, if◌then◌else◌, ◌&&◌, ◌==◌}
use Rattle.std.proofs.lemmas.Bool.Decides.{nat_tests}
use mathlib.Core.Option.{some, some-injective, some-ne-none}
use lib.ListN.{get_elem?}
use Rattle.atomic_table.proofs.Lists.{at_set, at_snoc}
use Rattle.sa_book.specs.Counts.{total, same, once_below, once_between, count_in, times_in, Each}

module _ {A : Type 0} where
  pub total_set : (f : A → ℕ) (xs : List A) (i : ℕ) (v w : A) → get_elem? xs i ≡ some v → total f (set xs i w) + f v ≡ total f xs + f w
  total_set f [] i v w e = absurd (some-ne-none v (sym e))
  total_set f (x ∷ xs) zero v w e = let h : f x ≡ f v = ap f (some-injective x v e) in omega (arith, h)
  total_set f (x ∷ xs) (suc i) v w e = omega (arith, total_set f xs i v w e)

  -- where the change leaves the number that is summed, the sum stays
  pub total_kept : (f : A → ℕ) (xs : List A) (i : ℕ) (v w : A) → get_elem? xs i ≡ some v → f w ≡ f v → total f (set xs i w) ≡ total f xs
  total_kept f xs i v w e h = omega (arith, total_set f xs i v w e, h)

  pub total_append : (f : A → ℕ) (xs ys : List A) → total f (xs ++ ys) ≡ total f xs + total f ys
  total_append f [] ys = omega arith
  total_append f (x ∷ xs) ys = omega (arith, total_append f xs ys)

  pub total_snoc : (f : A → ℕ) (xs : List A) (w : A) → total f (xs ++ w ∷ []) ≡ total f xs + f w
  total_snoc f xs w = omega (arith, total_append f xs (w ∷ []))

  pub total_at : (f : A → ℕ) (xs : List A) (i : ℕ) (v : A) → get_elem? xs i ≡ some v → f v ≤ total f xs
  total_at f [] i v e = absurd (some-ne-none v (sym e))
  total_at f (x ∷ xs) zero v e = let h : f x ≡ f v = ap f (some-injective x v e) in omega (arith, h)
  total_at f (x ∷ xs) (suc i) v e = omega (arith, total_at f xs i v e)

  -- two elements count for themselves
  pub total_two : (f : A → ℕ) (xs : List A) (i j : ℕ) (v w : A) → i ≢ j → get_elem? xs i ≡ some v → get_elem? xs j ≡ some w → f v + f w ≤ total f xs
  total_two f [] i j v w n a b = absurd (some-ne-none v (sym a))
  total_two f (x ∷ xs) zero zero v w n a b = absurd (n refl)
  total_two f (x ∷ xs) zero (suc j) v w n a b = let h : f x ≡ f v = ap f (some-injective x v a) in omega (arith, h, total_at f xs j w b)
  total_two f (x ∷ xs) (suc i) zero v w n a b = let h : f x ≡ f w = ap f (some-injective x w b) in omega (arith, h, total_at f xs i v a)
  total_two f (x ∷ xs) (suc i) (suc j) v w n a b = omega (arith, total_two f xs i j v w (λ e. n (ap suc e)) a b)

  pub total_le : (f g : A → ℕ) (xs : List A) → Each (λ x. f x ≤ g x) xs → total f xs ≤ total g xs
  total_le f g [] h = omega arith
  total_le f g (x ∷ xs) h = omega (arith, h 0 x refl, total_le f g xs (λ i y at. h (suc i) y at))

  pub total_zero : (f : A → ℕ) (xs : List A) → Each (λ x. f x ≡ 0) xs → total f xs ≡ 0
  total_zero f [] h = refl
  total_zero f (x ∷ xs) h = omega (arith, h 0 x refl, total_zero f xs (λ i y at. h (suc i) y at))

  pub each_set : (P : A → Type 0) (xs : List A) (i : ℕ) (w : A) → P w → Each P xs → Each P (set xs i w)
  each_set P xs i w new old j x at = elim (at_set xs i j w x at) [ inl h ↦ subst P h.1 new | inr h ↦ old j x h.1 ]

  pub each_snoc : (P : A → Type 0) (xs : List A) (w : A) → P w → Each P xs → Each P (xs ++ w ∷ [])
  each_snoc P xs w new old j x at = elim (at_snoc xs w x j at) [ inl h ↦ old j x h | inr h ↦ subst P h new ]

  pub each_append : (P : A → Type 0) (xs ys : List A) → Each P xs → Each P ys → Each P (xs ++ ys)
  each_append P [] ys a b i y at = b i y at
  each_append P (x ∷ xs) ys a b zero y at = a zero y at
  each_append P (x ∷ xs) ys a b (suc i) y at = each_append P xs ys (λ j z e. a (suc j) z e) b i y at

  -- what stands where an element was written
  pub here : (xs : List A) (i : ℕ) (v w : A) → get_elem? xs i ≡ some v → get_elem? (set xs i w) i ≡ some w
  here [] i v w e = absurd (some-ne-none v (sym e))
  here (x ∷ xs) zero v w e = refl
  here (x ∷ xs) (suc i) v w e = here xs i v w e

  -- what held of each element after the change held before, where it held of the old one
  pub each_unset : (P : A → Type 0) (xs : List A) (i : ℕ) (v w : A) → get_elem? xs i ≡ some v → (P w → P v) → Each P (set xs i w) → Each P xs
  each_unset P [] i v w e back h j x at = absurd (some-ne-none x (sym at))
  each_unset P (y ∷ xs) zero v w e back h zero x at = subst P (some-injective v x (sym e ∙ at)) (back (h 0 w refl))
  each_unset P (y ∷ xs) zero v w e back h (suc j) x at = h (suc j) x at
  each_unset P (y ∷ xs) (suc i) v w e back h zero x at = h 0 x at
  each_unset P (y ∷ xs) (suc i) v w e back h (suc j) x at = each_unset P xs i v w e back (λ k z a. h (suc k) z a) j x at

pub once_more : (x n : ℕ) → same x n + once_below x n ≡ once_below x (n + 1)
once_more x n = grind (arith, nat_tests)

pub map_snoc : {A B : Type 0} (f : A → B) (xs : List A) (x : A) → map f (xs ++ x ∷ []) ≡ map f xs ++ f x ∷ []
map_snoc f [] x = refl
map_snoc f (y ∷ xs) x = ap (λ l. f y ∷ l) (map_snoc f xs x)
