-- The order of bounds, their least and greatest, and their sums.
use Rattle.std.proofs.Common.{◌≡◌, ℕ, zero, suc, ◌<◌, ℤ, pos, ◌+ℤ◌, true, Some, None, ◌⊎◌, inl, inr, ap, sym, subst, refl, ◌∙◌, arith}
use Rattle.std.specs.Int.{int_min, int_shr}
use Rattle.std.proofs.lemmas.Int.{ints, clamps}
use Rattle.std.proofs.lemmas.Bool.{cases_eq}
use Rattle.std.proofs.lemmas.Option.{none-some, same_Some}
use Rattle.sa_dbm.specs.Bounds.{Bound, plus, lesser, greater, AtMost, least, half, even, is_negative}
use Rattle.sa_numbers.proofs.Halves.{even_below-low, half-double}
use Rattle.sa_numbers.proofs.Order.{≤ℤ_refl, ≤ℤ_trans, ≤ℤ_antisym}
use Rattle.sa_numbers.proofs.Sums.{add_mono, add-zero_right, add_zero_left, add_group}

pub at_most_refl : (a : Bound) → AtMost a a
at_most_refl None = tt
at_most_refl (Some x) = ≤ℤ_refl x

pub at_most_trans : (a b c : Bound) → AtMost a b → AtMost b c → AtMost a c
at_most_trans a b None h k = tt
at_most_trans a None (Some z) h k = absurd k
at_most_trans None (Some y) (Some z) h k = absurd h
at_most_trans (Some x) (Some y) (Some z) h k = ≤ℤ_trans x y z h k

pub at_most_antisym : (a b : Bound) → AtMost a b → AtMost b a → a ≡ b
at_most_antisym None None h k = refl
at_most_antisym None (Some y) h k = absurd h
at_most_antisym (Some x) None h k = absurd k
at_most_antisym (Some x) (Some y) h k = ap Some (≤ℤ_antisym x y h k)

-- ---- the lesser and the greater of two

pub lesser_left : (a b : Bound) → AtMost (lesser a b) a
lesser_left None b = tt
lesser_left (Some x) None = ≤ℤ_refl x
lesser_left (Some x) (Some y) = omega (arith, ints, clamps)

pub lesser_right : (a b : Bound) → AtMost (lesser a b) b
lesser_right a None = tt
lesser_right None (Some y) = ≤ℤ_refl y
lesser_right (Some x) (Some y) = omega (arith, ints, clamps)

pub lesser_greatest : (c a b : Bound) → AtMost c a → AtMost c b → AtMost c (lesser a b)
lesser_greatest c None b h k = k
lesser_greatest c (Some x) None h k = h
lesser_greatest None (Some x) (Some y) h k = absurd h
lesser_greatest (Some z) (Some x) (Some y) h k = omega (arith, ints, clamps)

pub lesser_is_one : (a b : Bound) → (lesser a b ≡ a) ⊎ (lesser a b ≡ b)
lesser_is_one None b = inr refl
lesser_is_one (Some x) None = inl refl
lesser_is_one (Some x) (Some y) = min_is_one x y
  where
    min_is_one : (x y : ℤ) → (Some (int_min x y) ≡ Some x) ⊎ (Some (int_min x y) ≡ Some y)
    min_is_one x y = grind arith

pub lesser_above : (a b : Bound) → AtMost a b → lesser a b ≡ a
lesser_above a b h = at_most_antisym (lesser a b) a (lesser_left a b) (lesser_greatest a a b (at_most_refl a) h)

pub lesser_below : (a b : Bound) → AtMost b a → lesser a b ≡ b
lesser_below a b h = at_most_antisym (lesser a b) b (lesser_right a b) (lesser_greatest b a b h (at_most_refl b))

pub greater_left : (a b : Bound) → AtMost a (greater a b)
greater_left None b = tt
greater_left (Some x) None = tt
greater_left (Some x) (Some y) = omega (arith, ints, clamps)

pub greater_right : (a b : Bound) → AtMost b (greater a b)
greater_right None b = tt
greater_right (Some x) None = tt
greater_right (Some x) (Some y) = omega (arith, ints, clamps)

-- ---- sums

pub plus_mono : (a b c d : Bound) → AtMost a b → AtMost c d → AtMost (plus a c) (plus b d)
plus_mono a None c d h k = tt
plus_mono a (Some y) c None h k = tt
plus_mono None (Some y) c (Some w) h k = absurd h
plus_mono (Some x) (Some y) None (Some w) h k = absurd k
plus_mono (Some x) (Some y) (Some z) (Some w) h k = add_mono x y z w h k

pub plus_none : (a : Bound) → plus a None ≡ None
plus_none None = refl
plus_none (Some x) = refl

pub plus_zero_left : (a : Bound) → plus (Some (pos 0)) a ≡ a
plus_zero_left None = refl
plus_zero_left (Some x) = ap Some (add_zero_left x)

pub plus-zero_right : (a : Bound) → plus a (Some (pos 0)) ≡ a
plus-zero_right None = refl
plus-zero_right (Some x) = ap Some (add-zero_right x)

pub plus_group : (a b c : Bound) → plus (plus a b) c ≡ plus a (plus b c)
plus_group None b c = refl
plus_group (Some x) None c = refl
plus_group (Some x) (Some y) None = refl
plus_group (Some x) (Some y) (Some z) = ap Some (add_group x y z)

pub plus_swap : (a b : Bound) → plus a b ≡ plus b a
plus_swap None None = refl
plus_swap None (Some y) = refl
plus_swap (Some x) None = refl
plus_swap (Some x) (Some y) = ap Some (omega (arith, ints))

-- ---- the least of a row

pub least_below : (n : ℕ) (f : ℕ → Bound) (k : ℕ) → k < n → AtMost (least n f) (f k)
least_below zero f k h = absurd (omega arith)
least_below (suc n) f k h =
    elim (cases_eq k n) [
      | inl same ↦ subst (λ l. AtMost (lesser (least n f) (f n)) (f l)) (sym same) (lesser_right (least n f) (f n))
      | inr other ↦ at_most_trans (lesser (least n f) (f n)) (least n f) (f k) (lesser_left (least n f) (f n)) (least_below n f k (omega arith))
    ]

pub least_greatest : (n : ℕ) (f : ℕ → Bound) (c : Bound) → ((k : ℕ) → k < n → AtMost c (f k)) → AtMost c (least n f)
least_greatest zero f c h = tt
least_greatest (suc n) f c h =
    lesser_greatest c (least n f) (f n) (least_greatest n f c (λ k b. h k (omega arith))) (h n (omega arith))

pub least_reached : (n : ℕ) (f : ℕ → Bound) (t : ℤ) → least n f ≡ Some t → (k : ℕ) × (k < n) × (f k ≡ Some t)
least_reached zero f t e = absurd (none-some t e)
least_reached (suc n) f t e =
    elim (lesser_is_one (least n f) (f n)) [
      | inl before ↦ one_further n f t (least_reached n f t (sym before ∙ e))
      | inr last ↦ (n, omega arith, sym last ∙ e)
    ]
  where
    one_further : (n : ℕ) (f : ℕ → Bound) (t : ℤ) → ((k : ℕ) × (k < n) × (f k ≡ Some t)) → (k : ℕ) × (k < suc n) × (f k ≡ Some t)
    one_further n f t r = let b = r.1 in (r.0, omega arith, r.2)

-- a sum that is a number is that of two numbers
pub plus_parts : (a b : Bound) (t : ℤ) → plus a b ≡ Some t → (x : ℤ) × (y : ℤ) × (a ≡ Some x) × (b ≡ Some y) × (t ≡ x +ℤ y)
plus_parts None b t e = absurd (none-some t e)
plus_parts (Some x) None t e = absurd (none-some t e)
plus_parts (Some x) (Some y) t e = (x, y, refl, refl, sym (same_Some (x +ℤ y) t e))

-- ---- halves

pub half-even : (b : Bound) → half (even b) ≡ half b
half-even None = refl
half-even (Some z) = ap Some (half-double (int_shr z 1))

pub even_below : (b : Bound) → AtMost (even b) b
even_below None = tt
even_below (Some z) = even_below-low z

-- twice a sum has its sign
pub flat_doubled : (a b : Bound) → AtMost (Some (pos 0)) (plus a b) → AtMost (Some (pos 0)) (plus (plus a a) (plus b b))
flat_doubled None b h = tt
flat_doubled (Some x) None h = tt
flat_doubled (Some x) (Some y) h = omega (arith, ints)

pub negative_doubled : (a b : Bound) → is_negative (plus a b) ≡ true → is_negative (plus (plus a a) (plus b b)) ≡ true
negative_doubled None b h = h
negative_doubled (Some x) None h = h
negative_doubled (Some x) (Some y) h = grind (arith, ints)

-- and it has the sign of its double
pub flat_halved : (a b : Bound) → AtMost (Some (pos 0)) (plus (plus a a) (plus b b)) → AtMost (Some (pos 0)) (plus a b)
flat_halved None b h = tt
flat_halved (Some x) None h = tt
flat_halved (Some x) (Some y) h = omega (arith, ints)
