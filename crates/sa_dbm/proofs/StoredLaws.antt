-- Stored numbers and the bounds that they stand for.
use Rattle.std.proofs.Common.{◌≡◌, ◌≢◌, ℕ, zero, suc, ◌+◌, ◌*◌, ◌^◌, ◌<◌, ◌≤◌, Bool, true, false, ℤ, pos, negsuc, neg_ℤ, ◌+ℤ◌, ◌-ℤ◌, unsigned_abs, int_lt, int_le, not, List, [], ◌∷◌, map, length, get_or, set, take, drop, Some, None, ◌⊎◌, inl, inr, ap, ap₂, sym, refl, ◌∙◌, arith, FitsSigned, to_z, of_z, rules, below_more}
use Rattle.std.specs.Int.{w128, int_min, int_max, int_shr}
use Rattle.std.proofs.lemmas.Bool.{cases_Bool, cases_lt, true≢false, false≢true}
use Rattle.std.proofs.lemmas.Int.{ints, to_z-of_z}
use Rattle.std.proofs.lemmas.Nat.{row_fits, same_from_place}
use borrow.Rule.Slice.PartMut.{put_mid}
use Rattle.std.proofs.lemmas.List.{places, length-map, get_or_default, get_or-set_same, get_or-set_other}
use Rattle.sa_numbers.proofs.Sizes.{size-negated}
use Rattle.sa_dbm.specs.Bounds.{Bound, plus, lesser, greater, half, is_negative, at_most, AtMost}
use Rattle.sa_dbm.specs.Tables.{entry, table}
use Rattle.sa_dbm.proofs.TableLaws.{table_is}
use Rattle.sa_dbm.specs.Stored.{no_bound, shown, shown_at, IsSummable, stored}

pub shown-number : (z : ℤ) → int_lt z no_bound ≡ true → shown z ≡ Some z
unfolding shown
shown-number z h = rw h refl

pub shown-none : (z : ℤ) → int_lt z no_bound ≡ false → shown z ≡ None
unfolding shown
shown-none z h = rw h refl

pub shown-no_bound : shown no_bound ≡ None
unfolding shown
shown-no_bound = refl

summable_size : (z : ℤ) → int_lt z no_bound ≡ true → IsSummable (shown z) → unsigned_abs z ≤ 2 ^ 120
summable_size z h s = s z (shown-number z h)

fits_by_size : (a b : ℤ) → unsigned_abs a ≤ 2 ^ 120 → unsigned_abs b ≤ 2 ^ 120 → FitsSigned w128 (a +ℤ b) × (int_lt (a +ℤ b) no_bound ≡ true)
fits_by_size (pos a) (pos b) p q = (omega (arith, ints), grind (arith, ints))
fits_by_size (pos a) (negsuc b) p q = (omega (arith, ints), grind (arith, ints))
fits_by_size (negsuc a) (pos b) p q = (omega (arith, ints), grind (arith, ints))
fits_by_size (negsuc a) (negsuc b) p q = (omega (arith, ints), grind (arith, ints))

pub sum_fits : (a b : ℤ) → int_lt a no_bound ≡ true → int_lt b no_bound ≡ true → IsSummable (shown a) → IsSummable (shown b) → FitsSigned w128 (a +ℤ b)
sum_fits a b h k s t = (fits_by_size a b (summable_size a h s) (summable_size b k t)).0

pub shown_sum : (a b : ℤ) → int_lt a no_bound ≡ true → int_lt b no_bound ≡ true → IsSummable (shown a) → IsSummable (shown b) → shown (a +ℤ b) ≡ plus (shown a) (shown b)
shown_sum a b h k s t =
    shown-number (a +ℤ b) (fits_by_size a b (summable_size a h s) (summable_size b k t)).1 ∙ sym (ap₂ plus (shown-number a h) (shown-number b k))

pub negative-shown : (a : ℤ) → is_negative (shown a) ≡ int_lt a (pos 0)
negative-shown a =
    elim (cases_Bool (int_lt a no_bound)) [ inl h ↦ ap is_negative (shown-number a h) | inr h ↦ ap is_negative (shown-none a h) ∙ sym (above a h) ]
  where
    above : (a : ℤ) → int_lt a no_bound ≡ false → int_lt a (pos 0) ≡ false
    above a h = grind (arith, ints)

pub half_fits : (a : ℤ) → FitsSigned w128 a → FitsSigned w128 (int_shr a 1)
half_fits (pos n) h = omega (arith, ints)
half_fits (negsuc n) h = omega (arith, ints)

pub shown_half : (a : ℤ) → int_lt a no_bound ≡ true → shown (int_shr a 1) ≡ half (shown a)
shown_half a h = rw (shown-number a h) (shown-number (int_shr a 1) (below a h))
  where
    below : (a : ℤ) → int_lt a no_bound ≡ true → int_lt (int_shr a 1) no_bound ≡ true
    below (pos n) h = grind (arith, ints)
    below (negsuc n) h = refl

-- ---- the order of stored numbers is that of the bounds

min_of_numbers : (a b : ℤ) → int_lt a no_bound ≡ true → int_lt b no_bound ≡ true → int_lt (int_min a b) no_bound ≡ true
min_of_numbers a b h k = grind (arith, ints)

min_first : (a b : ℤ) → int_lt a no_bound ≡ true → int_lt b no_bound ≡ false → int_min a b ≡ a
min_first a b h k = grind (arith, ints)

min_second : (a b : ℤ) → int_lt a no_bound ≡ false → int_lt b no_bound ≡ true → int_min a b ≡ b
min_second a b h k = grind (arith, ints)

min_of_none : (a b : ℤ) → int_lt a no_bound ≡ false → int_lt b no_bound ≡ false → int_lt (int_min a b) no_bound ≡ false
min_of_none a b h k = grind (arith, ints)

pub shown-min : (a b : ℤ) → shown (int_min a b) ≡ lesser (shown a) (shown b)
shown-min a b =
    elim (cases_Bool (int_lt a no_bound)) [
      | inl h ↦ elim (cases_Bool (int_lt b no_bound)) [
        | inl k ↦ rw (shown-number a h, shown-number b k) (shown-number (int_min a b) (min_of_numbers a b h k))
        | inr k ↦ rw (shown-number a h, shown-none b k) (ap shown (min_first a b h k) ∙ shown-number a h)
      ]
      | inr h ↦ elim (cases_Bool (int_lt b no_bound)) [
        | inl k ↦ rw (shown-none a h) (ap shown (min_second a b h k))
        | inr k ↦ rw (shown-none a h, shown-none b k) (shown-none (int_min a b) (min_of_none a b h k))
      ]
    ]

max_of_numbers : (a b : ℤ) → int_lt a no_bound ≡ true → int_lt b no_bound ≡ true → int_lt (int_max a b) no_bound ≡ true
max_of_numbers a b h k = grind (arith, ints)

max_of_none : (a b : ℤ) → (int_lt a no_bound ≡ false) ⊎ (int_lt b no_bound ≡ false) → int_lt (int_max a b) no_bound ≡ false
max_of_none a b (inl h) = grind (arith, ints)
max_of_none a b (inr h) = grind (arith, ints)

pub shown-max : (a b : ℤ) → shown (int_max a b) ≡ greater (shown a) (shown b)
shown-max a b =
    elim (cases_Bool (int_lt a no_bound)) [
      | inl h ↦ elim (cases_Bool (int_lt b no_bound)) [
        | inl k ↦ rw (shown-number a h, shown-number b k) (shown-number (int_max a b) (max_of_numbers a b h k))
        | inr k ↦ rw (shown-number a h, shown-none b k) (shown-none (int_max a b) (max_of_none a b (inr k)))
      ]
      | inr h ↦ rw (shown-none a h) (shown-none (int_max a b) (max_of_none a b (inl h)))
    ]

-- ---- places

pub read_is : (xs : List ℤ) (i : ℕ) → i < length xs → FitsSigned w128 (get_or xs i (pos 0)) → to_z w128 (of_z w128 (get_or xs i (pos 0))) ≡ get_or xs i no_bound
read_is xs i h f = to_z-of_z w128 (get_or xs i (pos 0)) f ∙ get_or_default xs i (pos 0) no_bound h

pub shown_at-set_same : (xs : List ℤ) (i : ℕ) (z : ℤ) → i < length xs → shown_at (set xs i z) i ≡ shown z
shown_at-set_same xs i z h = ap shown (get_or-set_same xs i z no_bound h)

pub shown_at-set_other : (xs : List ℤ) (i k : ℕ) (z : ℤ) → k ≢ i → shown_at (set xs i z) k ≡ shown_at xs k
shown_at-set_other xs i k z h = ap shown (get_or-set_other xs i k z no_bound h)

-- a list of which k elements from a on were overwritten by ys
module _ (a k : ℕ) (xs ys : List ℤ) (room : a + k ≤ length xs) (whole : length ys ≡ k) where
  shown_inside : (q : ℕ) → q < k → shown_at (put_mid a k xs ys) (a + q) ≡ shown_at ys q
  shown_inside q h = ap shown (search (rules, places))

  shown_before : (p : ℕ) → p < a → shown_at (put_mid a k xs ys) p ≡ shown_at xs p
  shown_before p h = ap shown (search (rules, places))

  shown_after : (p : ℕ) → a + k ≤ p → shown_at (put_mid a k xs ys) p ≡ shown_at xs p
  shown_after p h = ap shown (search (rules, places))

pub shown_part : (xs : List ℤ) (a k q : ℕ) → q < k → shown_at (take k (drop a xs)) q ≡ shown_at xs (a + q)
shown_part xs a k q h = ap shown (search (rules, places))

-- rows that stand one after another, of which row i was overwritten by ys
module _ (n i k : ℕ) (xs ys : List ℤ) (row : k ≡ n) (room : i * n + n ≤ length xs) (whole : length ys ≡ n) where
  pub shown_row : (q : ℕ) → q < n → shown_at (put_mid (i * n) k xs ys) (i * n + q) ≡ shown_at ys q
  shown_row q h = shown_inside (i * n) k xs ys (omega arith) (omega arith) q (omega arith)

  pub shown_other_row : (p q : ℕ) → p ≢ i → q < n → shown_at (put_mid (i * n) k xs ys) (p * n + q) ≡ shown_at xs (p * n + q)
  shown_other_row p q differ h =
      elim (cases_lt p i) [
        | inl below ↦ (let r = row_fits_in p i below in shown_before (i * n) k xs ys (omega arith) (omega arith) (p * n + q) (omega arith))
        | inr above ↦ (let r = row_fits_in i p (omega arith) in shown_after (i * n) k xs ys (omega arith) (omega arith) (p * n + q) (omega arith))
      ]
    where
      row_fits_in : (a b : ℕ) → a < b → a * n + n ≤ b * n
      row_fits_in a b h = row_fits a n b n h (omega arith)

-- one more place has its new bound, and the others are as they were
pub place_more : (xs ys : List ℤ) (i : ℕ) (f : ℕ → Bound) → ((k : ℕ) → k < i → shown_at xs k ≡ f k) → ((p : ℕ) → p ≢ i → shown_at ys p ≡ shown_at xs p) → shown_at ys i ≡ f i
    → (k : ℕ) → k < i + 1 → shown_at ys k ≡ f k
place_more xs ys i f before others here = below_more (λ k. shown_at ys k ≡ f k) i (λ k h. others k (differs k h) ∙ before k h) here
  where
    differs : (k : ℕ) → k < i → k ≢ i
    differs k h = omega arith

pub place_past : (i k : ℕ) → i + 1 ≤ k → k ≢ i
place_past i k h = omega arith

pub filled_more : (xs : List ℤ) (i : ℕ) (z : ℤ) (f : ℕ → Bound) → i < length xs → ((k : ℕ) → k < i → shown_at xs k ≡ f k) → shown z ≡ f i → (k : ℕ) → k < i + 1 → shown_at (set xs i z) k ≡ f k
filled_more xs i z f room before here = place_more xs (set xs i z) i f before (λ p. shown_at-set_other xs i p z) (shown_at-set_same xs i z room ∙ here)

-- an entry of the table that is stored
pub entry-stored : (vars : ℕ) (xs : List ℤ) (i j : ℕ) → entry (stored vars xs) i j ≡ shown_at xs (i * (2 * vars) + j)
unfolding entry stored
entry-stored vars xs i j = at xs (i * (2 * vars) + j)
  where
    at : (xs : List ℤ) (p : ℕ) → get_or (map shown xs) p None ≡ shown (get_or xs p no_bound)
    at [] p = sym shown-no_bound
    at (x ∷ xs) zero = refl
    at (x ∷ xs) (suc p) = at xs p

-- the sum of two numbers that were read, as the code has it
pub sum_read : (xs ys : List ℤ) (i : ℕ) (r : ℤ) → i < length xs → i < length ys → FitsSigned w128 (get_or xs i (pos 0)) → FitsSigned w128 (get_or ys i (pos 0)) → FitsSigned w128 r
    → shown r ≡ plus (shown (to_z w128 (of_z w128 (get_or xs i (pos 0))))) (shown (to_z w128 (of_z w128 (get_or ys i (pos 0)))))
    → shown (to_z w128 (of_z w128 r)) ≡ plus (shown_at xs i) (shown_at ys i)
sum_read xs ys i r p q f g h e = ap shown (to_z-of_z w128 r h) ∙ e ∙ ap₂ (λ x y. plus (shown x) (shown y)) (read_is xs i p f) (read_is ys i q g)

-- two places of a square are one only in the same row and column
pub places_differ : (n i j p q : ℕ) → j < n → q < n → (p ≡ i → q ≡ j → ⊥) → p * n + q ≢ i * n + j
places_differ n i j p q b d differ = λ e. let s = same_from_place p q i j n d b e in differ s.0 s.1

pub vars-stored : (vars : ℕ) (xs : List ℤ) → (stored vars xs).vars ≡ vars
unfolding stored
vars-stored vars xs = refl

-- what is stored is the table of a function, place by place
pub stored_is : (vars : ℕ) (xs : List ℤ) (f : ℕ → ℕ → Bound) → length xs ≡ 2 * vars * (2 * vars)
    → ((i j : ℕ) → i < 2 * vars → j < 2 * vars → shown_at xs (i * (2 * vars) + j) ≡ f i j) → stored vars xs ≡ table vars f
unfolding stored
stored_is vars xs f whole same = table_is (stored vars xs) f (length-map xs shown ∙ whole) (λ i j p q. entry-stored vars xs i j ∙ same i j p q)

-- an argument of moderate size stands for itself
pub argument_shown : (c : ℤ) → FitsSigned w128 c → unsigned_abs c ≤ 2 ^ 100 → shown (to_z w128 (of_z w128 c)) ≡ Some c
argument_shown c f h = ap shown (to_z-of_z w128 c f) ∙ shown-number c (below c h)
  where
    below : (c : ℤ) → unsigned_abs c ≤ 2 ^ 100 → int_lt c no_bound ≡ true
    below (pos n) h = grind (arith, ints)
    below (negsuc n) h = refl

pub negated_shown : (c : ℤ) → FitsSigned w128 c → unsigned_abs c ≤ 2 ^ 100 → shown (to_z w128 (of_z w128 (pos 0 -ℤ to_z w128 (of_z w128 c)))) ≡ Some (neg_ℤ c)
negated_shown c f h =
    ap (λ z. shown (to_z w128 (of_z w128 (pos 0 -ℤ z)))) (to_z-of_z w128 c f) ∙ ap (λ z. shown (to_z w128 (of_z w128 z))) (negated c)
    ∙ argument_shown (neg_ℤ c) (fits c h) (rw size-negated h)
  where
    negated : (c : ℤ) → pos 0 -ℤ c ≡ neg_ℤ c
    negated c = omega (arith, ints)

    fits : (c : ℤ) → unsigned_abs c ≤ 2 ^ 100 → FitsSigned w128 (neg_ℤ c)
    fits (pos zero) h = omega (arith, ints)
    fits (pos (suc n)) h = omega (arith, ints)
    fits (negsuc n) h = omega (arith, ints)

pub at_most-shown : (a b : ℤ) → FitsSigned w128 a → at_most (shown a) (shown b) ≡ not (int_lt b a)
at_most-shown a b f =
    elim (cases_Bool (int_lt b no_bound)) [
      | inl k ↦ elim (cases_Bool (int_lt a no_bound)) [
        | inl h ↦ rw (shown-number a h, shown-number b k) (turned a b)
        | inr h ↦ rw (shown-none a h, shown-number b k) (above a b h k)
      ]
      | inr k ↦ rw (shown-none b k) (below a b f k)
    ]
  where
    turned : (a b : ℤ) → int_le a b ≡ not (int_lt b a)
    turned a b = grind (arith, ints)

    above : (a b : ℤ) → int_lt a no_bound ≡ false → int_lt b no_bound ≡ true → false ≡ not (int_lt b a)
    above a b h k = grind (arith, ints)

    below : (a b : ℤ) → FitsSigned w128 a → int_lt b no_bound ≡ false → true ≡ not (int_lt b a)
    below a b f k = grind (arith, ints)

pub at_most_holds : (a b : Bound) → at_most a b ≡ true → AtMost a b
at_most_holds a None e = tt
at_most_holds None (Some y) e = absurd (false≢true e)
at_most_holds (Some x) (Some y) e = grind (arith, ints)

pub at_most_test : (a b : Bound) → AtMost a b → at_most a b ≡ true
at_most_test a None h = refl
at_most_test None (Some y) h = absurd h
at_most_test (Some x) (Some y) h = grind (arith, ints)

pub at_most_fails : (a b : Bound) → at_most a b ≡ false → ¬ AtMost a b
at_most_fails a None e h = absurd (true≢false e)
at_most_fails None (Some y) e h = h
at_most_fails (Some x) (Some y) e h = grind (arith, ints)

-- the test of two numbers that were read, as the code has it
pub compared : (xs ys : List ℤ) (k : ℕ) (a b : ℤ) (t : Bool) → a ≡ get_or xs k no_bound → b ≡ get_or ys k no_bound → FitsSigned w128 a → FitsSigned w128 b
    → int_lt (to_z w128 (of_z w128 b)) (to_z w128 (of_z w128 a)) ≡ t → at_most (shown_at xs k) (shown_at ys k) ≡ not t
compared xs ys k a b t e f fits_a fits_b h =
    ap₂ (λ x y. at_most (shown x) (shown y)) (sym e) (sym f) ∙ at_most-shown a b fits_a ∙ ap not (rw (to_z-of_z w128 a fits_a, to_z-of_z w128 b fits_b) at h)
