-- Each bound of a closed table is reached by a point of it: a point over some variables extends by one more.
use Rattle.std.proofs.Common.{◌≡◌, ◌≢◌, ℕ, zero, suc, ◌+◌, ◌*◌, ◌/◌, ◌%◌, ◌<◌, ◌≤◌, ◌==◌, ◌||◌, Bool, true, false, cond, ℤ, pos, neg_ℤ, ◌+ℤ◌, ◌-ℤ◌, Some, None, ◌⊎◌, inl, inr, ap, ap₂, sym, subst, refl, ◌∙◌, arith}
use Rattle.std.specs.Int.{int_shr}
use Rattle.std.proofs.lemmas.Bool.{both_ways, cases_eq, cases_Bool, eq-eqb, ne_eqb, eqb-true, or_cases, or_left, or_right}
use Rattle.std.proofs.lemmas.Int.{ints}
use Rattle.std.proofs.lemmas.Option.{same_Some}
use Rattle.sa_dbm.specs.Bounds.{Bound, plus, AtMost, half, even, IsFlat, least}
use Rattle.sa_dbm.specs.Tables.{Table, nodes, bar, entry, IsMatrix}
use Rattle.sa_dbm.specs.Points.{Point, value, with_value, LiesIn, IsTight}
use Rattle.sa_dbm.specs.declared.closing.Closing.{Closing}
use Rattle.sa_dbm.specs.declared.closing.Closing.TheVariants.{Empty, Closed}
use Rattle.sa_dbm.specs.Closed.{IsClosed, ClosesTo, LeavesTight}
use Rattle.sa_numbers.proofs.Order.{≤ℤ_refl}
use Rattle.sa_dbm.proofs.BoundLaws.{at_most_refl, at_most_trans, plus_mono, plus_none, least_below, least_reached, even_below, flat_halved}
use Rattle.sa_dbm.proofs.TableLaws.{bar_bar, bar_below, bar-half}
use Rattle.sa_dbm.proofs.Soundness.{between, value-bar, value_elsewhere, below_halved}
use Rattle.sa_dbm.proofs.Closures.{half_mono, half-twice, closed_is_closed}

-- ---- a number between bounds

flipped : (b : Bound) (a : ℤ) → IsFlat (plus b (Some a)) → AtMost (Some (neg_ℤ a)) b
flipped None a h = tt
flipped (Some x) a h = omega (arith, ints)

below_none : (b x : Bound) → AtMost None b → AtMost x b
below_none None x h = tt
below_none (Some y) x h = absurd h

-- a number whose negation meets the first bounds and which meets the second ones
abbrev Between : ℕ → (f g : ℕ → Bound) → Type 0
Between n f g = (a : ℤ) × ((k : ℕ) → k < n → AtMost (Some (neg_ℤ a)) (f k)) × ((k : ℕ) → k < n → AtMost (Some a) (g k))

abbrev AllFlat : ℕ → (f g : ℕ → Bound) → Type 0
AllFlat n f g = (k l : ℕ) → k < n → l < n → IsFlat (plus (f k) (g l))

by_lowest : (n : ℕ) (f g : ℕ → Bound) → ((k : ℕ) → k < n → AtMost None (g k)) → (b : Bound) → least n f ≡ b → Between n f g
by_lowest n f g free None e = (pos 0, λ k p. below_none (f k) (Some (neg_ℤ (pos 0))) (subst (λ b. AtMost b (f k)) e (least_below n f k p)), λ k p. below_none (g k) (Some (pos 0)) (free k p))
by_lowest n f g free (Some b) e = (neg_ℤ b, λ k p. subst (λ x. AtMost x (f k)) (e ∙ ap Some (twice b)) (least_below n f k p), λ k p. below_none (g k) (Some (neg_ℤ b)) (free k p))
  where
    twice : (b : ℤ) → b ≡ neg_ℤ (neg_ℤ b)
    twice b = omega (arith, ints)

by_least : (n : ℕ) (f g : ℕ → Bound) → AllFlat n f g → (b : Bound) → least n g ≡ b → Between n f g
by_least n f g h None e = by_lowest n f g (λ k p. subst (λ b. AtMost b (g k)) e (least_below n g k p)) (least n f) refl
by_least n f g h (Some a) e =
    let r = least_reached n g a e in
    (a, λ k p. flipped (f k) a (subst (λ b. IsFlat (plus (f k) b)) r.2 (h k r.0 p r.1)), λ k p. subst (λ b. AtMost b (g k)) e (least_below n g k p))

chosen : (n : ℕ) (f g : ℕ → Bound) → AllFlat n f g → Between n f g
chosen n f g h = by_least n f g h (least n g) refl

-- a first bound, and then others
consed : Bound → (ℕ → Bound) → ℕ → Bound
consed b f zero = b
consed b f (suc k) = f k

-- ---- arithmetic on bounds

doubled : (y : ℤ) (b : Bound) → AtMost (Some y) (half b) → AtMost (Some (y +ℤ y)) b
doubled y b h = at_most_trans (Some (y +ℤ y)) (even b) b (plus_mono (Some y) (half b) (Some y) (half b) h h) (even_below b)

flat_by : (x : ℤ) (a b : Bound) → AtMost (Some (neg_ℤ x)) (plus a b) → IsFlat (plus b (plus a (Some x)))
flat_by x None b h = rw (plus_none b) tt
flat_by x (Some y) None h = tt
flat_by x (Some y) (Some z) h = omega (arith, ints)

flat_by' : (x : ℤ) (a b : Bound) → AtMost (Some x) (plus a b) → IsFlat (plus (plus a (Some (neg_ℤ x))) b)
flat_by' x None b h = tt
flat_by' x (Some y) None h = tt
flat_by' x (Some y) (Some z) h = omega (arith, ints)

flat_way : (x y : ℤ) (a b : Bound) → AtMost (Some (y -ℤ x)) (plus b a) → IsFlat (plus (plus a (Some (neg_ℤ y))) (plus b (Some x)))
flat_way x y None b h = tt
flat_way x y (Some u) None h = tt
flat_way x y (Some u) (Some v) h = omega (arith, ints)

above_less : (x y : ℤ) (b : Bound) → AtMost (Some (neg_ℤ x)) (plus b (Some (neg_ℤ y))) → AtMost (Some (y -ℤ x)) b
above_less x y None h = tt
above_less x y (Some z) h = omega (arith, ints)

above_more : (x y : ℤ) (b : Bound) → AtMost (Some x) (plus b (Some y)) → AtMost (Some (x -ℤ y)) b
above_more x y None h = tt
above_more x y (Some z) h = omega (arith, ints)

only_if : Bool → Bound → Bound
only_if true b = b
only_if false b = None

-- ---- nodes and their values

same_variable : (i k : ℕ) → k / 2 ≡ i / 2 → (k ≡ i) ⊎ (k ≡ bar i)
unfolding bar
same_variable i k h = grind arith

node_variable : (i v : ℕ) → i < 2 * v → i / 2 < v
node_variable i v h = omega arith

first_node : (v : ℕ) → 2 * v / 2 ≡ v
first_node v = omega arith

-- the point with a node at that value
with_node : Point → ℕ → ℤ → Point
with_node p i a = with_value p (i / 2) (cond (i % 2 == 0) a (neg_ℤ a))

value-there : (p : Point) (i : ℕ) (a : ℤ) → value (with_node p i a) i ≡ a
unfolding value with_node
value-there p i a = rw (eq-eqb (i / 2) (i / 2) refl) (turned (i % 2 == 0))
  where
    turned : (t : Bool) → cond t (cond t a (neg_ℤ a)) (neg_ℤ (cond t a (neg_ℤ a))) ≡ a
    turned true = refl
    turned false = omega (arith, ints)

value_away : (p : Point) (i k : ℕ) (a : ℤ) → k / 2 ≢ i / 2 → value (with_node p i a) k ≡ value p k
unfolding with_node
value_away p i k a n = value_elsewhere p (i / 2) (cond (i % 2 == 0) a (neg_ℤ a)) k n

-- a point with the same numbers has the same values
same_value : (p q : Point) (i : ℕ) → q (i / 2) ≡ p (i / 2) → value q i ≡ value p i
unfolding value
same_value p q i e = ap (λ z. cond (i % 2 == 0) z (neg_ℤ z)) e

module _ (m : Table) (h : IsMatrix m) (c : IsClosed m) where
  -- a bound holds of a point
  abbrev Meets : Point → ℕ → ℕ → Type 0
  Meets p i j = AtMost (between p i j) (entry m i j)

  -- all bounds between these variables hold
  abbrev Among : (ℕ → Bool) → Point → Type 0
  Among t p = (i j : ℕ) → i < nodes m → j < nodes m → t (i / 2) ≡ true → t (j / 2) ≡ true → Meets p i j

  meets_twin : (p : Point) (i j : ℕ) → i < nodes m → j < nodes m → Meets p i j → Meets p (bar j) (bar i)
  meets_twin p i j a b k =
      subst (AtMost (between p (bar j) (bar i))) (h.twins i j a b)
      (subst (λ x. AtMost x (entry m i j)) (ap Some (sym (turned (value p i) (value p j) (value p (bar i)) (value p (bar j)) (value-bar p i) (value-bar p j)))) k)
    where
      turned : (u v u' v' : ℤ) → u' ≡ neg_ℤ u → v' ≡ neg_ℤ v → u' -ℤ v' ≡ v -ℤ u
      turned u v u' v' e f = omega (arith, ints)

  meets_own : (p : Point) (i : ℕ) → i < nodes m → Meets p i i
  meets_own p i a = rw (h.diagonal i a) (none (value p i))
    where
      none : (v : ℤ) → AtMost (Some (v -ℤ v)) (Some (pos 0))
      none v = omega (arith, ints)

  -- what the bounds on a node alone ask of its value
  low_value : (p : Point) (i : ℕ) → Meets p i (bar i) → AtMost (Some (neg_ℤ (value p i))) (half (entry m i (bar i)))
  low_value p i k = below_halved (neg_ℤ (value p i)) (entry m i (bar i)) (subst (λ x. AtMost x (entry m i (bar i))) (ap Some (opposite (value p i) (value p (bar i)) (value-bar p i))) k)
    where
      opposite : (v w : ℤ) → w ≡ neg_ℤ v → w -ℤ v ≡ neg_ℤ v +ℤ neg_ℤ v
      opposite v w e = omega (arith, ints)

  low_meets : (p : Point) (i : ℕ) → AtMost (Some (neg_ℤ (value p i))) (half (entry m i (bar i))) → Meets p i (bar i)
  low_meets p i k = subst (λ x. AtMost x (entry m i (bar i))) (ap Some (sym (opposite (value p i) (value p (bar i)) (value-bar p i)))) (doubled (neg_ℤ (value p i)) (entry m i (bar i)) k)
    where
      opposite : (v w : ℤ) → w ≡ neg_ℤ v → w -ℤ v ≡ neg_ℤ v +ℤ neg_ℤ v
      opposite v w e = omega (arith, ints)

  high_value : (p : Point) (i : ℕ) → Meets p (bar i) i → AtMost (Some (value p i)) (half (entry m (bar i) i))
  high_value p i k = below_halved (value p i) (entry m (bar i) i) (subst (λ x. AtMost x (entry m (bar i) i)) (ap Some (opposite (value p i) (value p (bar i)) (value-bar p i))) k)
    where
      opposite : (v w : ℤ) → w ≡ neg_ℤ v → v -ℤ w ≡ v +ℤ v
      opposite v w e = omega (arith, ints)

  high_meets : (p : Point) (i : ℕ) → AtMost (Some (value p i)) (half (entry m (bar i) i)) → Meets p (bar i) i
  high_meets p i k = subst (λ x. AtMost x (entry m (bar i) i)) (ap Some (sym (opposite (value p i) (value p (bar i)) (value-bar p i)))) (doubled (value p i) (entry m (bar i) i) k)
    where
      opposite : (v w : ℤ) → w ≡ neg_ℤ v → v -ℤ w ≡ v +ℤ v
      opposite v w e = omega (arith, ints)

  halves_agree : (i : ℕ) → i < nodes m → IsFlat (plus (half (entry m i (bar i))) (half (entry m (bar i) i)))
  halves_agree i p =
      flat_halved (half (entry m i (bar i))) (half (entry m (bar i) i))
      (subst IsFlat (ap₂ plus (sym (c.evens i p)) (sym (subst (λ k. even (entry m (bar i) k) ≡ entry m (bar i) k) (bar_bar i) (c.evens (bar i) (bar_below i m.vars p))))) (c.agree i p))

  -- a half bound is at most that of another node and the way there
  half_step : (i k : ℕ) → i < nodes m → k < nodes m → AtMost (half (entry m i (bar i))) (plus (entry m i k) (half (entry m k (bar k))))
  half_step i k p q =
      let p' = bar_below i m.vars p in
      let q' = bar_below k m.vars q in
      let e = entry m in
      let first = c.triangle i k (bar i) p q p' in
      let second = c.triangle k (bar k) (bar i) q q' p' in
      let whole = at_most_trans (e i (bar i)) (plus (e i k) (e k (bar i))) (plus (e i k) (plus (e k (bar k)) (e (bar k) (bar i)))) first
      (plus_mono (e i k) (e i k) (e k (bar i)) (plus (e k (bar k)) (e (bar k) (bar i))) (at_most_refl (e i k)) second) in
      let turned : AtMost (e i (bar i)) (plus (e i k) (plus (e k (bar k)) (e i k))) = subst (λ b. AtMost (e i (bar i)) (plus (e i k) (plus (e k (bar k)) b))) (sym (h.twins i k p q)) whole in
      subst (AtMost (half (e i (bar i)))) (half-twice (e i k) (e k (bar k))) (half_mono _ _ turned)

  -- the same towards a node
  half_step' : (k j : ℕ) → k < nodes m → j < nodes m → AtMost (half (entry m (bar j) j)) (plus (entry m k j) (half (entry m (bar k) k)))
  half_step' k j p q =
      let step = half_step (bar j) (bar k) (bar_below j m.vars q) (bar_below k m.vars p) in
      subst (λ b. AtMost (half (entry m (bar j) j)) (plus b (half (entry m (bar k) k)))) (sym (h.twins k j p q)) (rw (bar_bar j, bar_bar k) at step)

  -- ---- one variable more

  module _ (t : ℕ → Bool) (p : Point) (v : ℕ) (inside : v < m.vars) (among : Among t p) where
    x : ℕ
    x = 2 * v

    x_inside : x < nodes m
    unfolding x
    x_inside = omega arith

    lows : ℕ → Bound
    lows = consed (half (entry m x (bar x))) (λ k. only_if (t (k / 2)) (plus (entry m x k) (Some (neg_ℤ (value p k)))))

    highs : ℕ → Bound
    highs = consed (half (entry m (bar x) x)) (λ k. only_if (t (k / 2)) (plus (entry m k x) (Some (value p k))))

    all_flat : AllFlat (suc (nodes m)) lows highs
    unfolding lows highs consed only_if
    all_flat zero zero a b = halves_agree x x_inside
    all_flat zero (suc l) a b = by (t (l / 2)) refl
      where
        by : (s : Bool) → t (l / 2) ≡ s → IsFlat (plus (half (entry m x (bar x))) (only_if s (plus (entry m l x) (Some (value p l)))))
        by false e = rw (plus_none (half (entry m x (bar x)))) tt
        by true e =
            let b' : l < nodes m = omega arith in
            flat_by (value p l) (entry m l x) (half (entry m x (bar x)))
            (at_most_trans (Some (neg_ℤ (value p l))) (half (entry m l (bar l))) (plus (entry m l x) (half (entry m x (bar x)))) (low_value p l (among l (bar l) b' (bar_below l m.vars b') e (ap t (bar-half l) ∙ e))) (half_step l x b' x_inside))
    all_flat (suc k) zero a b = by (t (k / 2)) refl
      where
        by : (s : Bool) → t (k / 2) ≡ s → IsFlat (plus (only_if s (plus (entry m x k) (Some (neg_ℤ (value p k))))) (half (entry m (bar x) x)))
        by false e = tt
        by true e =
            let a' : k < nodes m = omega arith in
            flat_by' (value p k) (entry m x k) (half (entry m (bar x) x))
            (at_most_trans (Some (value p k)) (half (entry m (bar k) k)) (plus (entry m x k) (half (entry m (bar x) x))) (high_value p k (among (bar k) k (bar_below k m.vars a') a' (ap t (bar-half k) ∙ e) e)) (half_step' x k x_inside a'))
    all_flat (suc k) (suc l) a b = by (t (k / 2)) refl (t (l / 2)) refl
      where
        by : (s : Bool) → t (k / 2) ≡ s → (u : Bool) → t (l / 2) ≡ u → IsFlat (plus (only_if s (plus (entry m x k) (Some (neg_ℤ (value p k))))) (only_if u (plus (entry m l x) (Some (value p l)))))
        by false e u f = tt
        by true e false f = rw (plus_none (plus (entry m x k) (Some (neg_ℤ (value p k))))) tt
        by true e true f =
            let a' : k < nodes m = omega arith in
            let b' : l < nodes m = omega arith in
            flat_way (value p l) (value p k) (entry m x k) (entry m l x)
            (at_most_trans (between p l k) (entry m l k) (plus (entry m l x) (entry m x k)) (among l k b' a' f e) (c.triangle l x k b' x_inside a'))

    found : Between (suc (nodes m)) lows highs
    found = chosen (suc (nodes m)) lows highs all_flat

    a : ℤ
    a = found.0

    q : Point
    q = with_node p x a

    abbrev more : ℕ → Bool
    more k = t k || k == v

    value_x : value q x ≡ a
    unfolding q
    value_x = value-there p x a

    value_other : (k : ℕ) → k / 2 ≢ v → value q k ≡ value p k
    unfolding q x
    value_other k n = value_away p (2 * v) k a (λ e. n (e ∙ first_node v))

    known : (k : ℕ) → more (k / 2) ≡ true → k / 2 ≢ v → t (k / 2) ≡ true
    known k e n = elim (or_cases (t (k / 2)) (k / 2 == v) e) [ inl y ↦ y | inr y ↦ absurd (n (eqb-true (k / 2) v y)) ]

    -- the new node and another one
    from_x : (k : ℕ) → k < nodes m → t (k / 2) ≡ true → k / 2 ≢ v → Meets q x k
    unfolding lows consed only_if a
    from_x k b e n =
        let low = subst (λ s. AtMost (Some (neg_ℤ a)) (only_if s (plus (entry m x k) (Some (neg_ℤ (value p k)))))) e (found.1 (suc k) (omega arith)) in
        rw (value_x, value_other k n) (above_less a (value p k) (entry m x k) low)

    to_x : (k : ℕ) → k < nodes m → t (k / 2) ≡ true → k / 2 ≢ v → Meets q k x
    unfolding highs consed only_if a
    to_x k b e n =
        let high = subst (λ s. AtMost (Some a) (only_if s (plus (entry m k x) (Some (value p k))))) e (found.2 (suc k) (omega arith)) in
        rw (value_x, value_other k n) (above_more a (value p k) (entry m k x) high)

    x_low : Meets q x (bar x)
    unfolding lows consed a
    x_low = low_meets q x (rw value_x (found.1 zero (omega arith)))

    x_high : Meets q (bar x) x
    unfolding highs consed a
    x_high = high_meets q x (rw value_x (found.2 zero (omega arith)))

    at_x : (k : ℕ) → k / 2 ≡ v → (k ≡ x) ⊎ (k ≡ bar x)
    unfolding x
    at_x k e = same_variable (2 * v) k (e ∙ sym (first_node v))

    extended_meets : Among more q
    extended_meets i j b d e f =
        elim (cases_eq (i / 2) v) [
          | inl same ↦ elim (cases_eq (j / 2) v) [
            | inl same' ↦ both (at_x i same) (at_x j same')
            | inr other' ↦ first (at_x i same) (known j f other') other'
          ]
          | inr other ↦ elim (cases_eq (j / 2) v) [
            | inl same' ↦ second (at_x j same') (known i e other) other
            | inr other' ↦ rw (value_other i other, value_other j other') (among i j b d (known i e other) (known j f other'))
          ]
        ]
      where
        both : (i ≡ x) ⊎ (i ≡ bar x) → (j ≡ x) ⊎ (j ≡ bar x) → Meets q i j
        both (inl y) (inl z) = rw (y, z) (meets_own q x x_inside)
        both (inl y) (inr z) = rw (y, z) x_low
        both (inr y) (inl z) = rw (y, z) x_high
        both (inr y) (inr z) = rw (y, z) (meets_own q (bar x) (bar_below x m.vars x_inside))

        first : (i ≡ x) ⊎ (i ≡ bar x) → t (j / 2) ≡ true → j / 2 ≢ v → Meets q i j
        first (inl y) g n = rw y (from_x j d g n)
        first (inr y) g n =
            let turned = meets_twin q (bar j) x (bar_below j m.vars d) x_inside (to_x (bar j) (bar_below j m.vars d) (ap t (bar-half j) ∙ g) (λ z. n (sym (bar-half j) ∙ z))) in
            rw y (subst (λ k. Meets q (bar x) k) (bar_bar j) turned)

        second : (j ≡ x) ⊎ (j ≡ bar x) → t (i / 2) ≡ true → i / 2 ≢ v → Meets q i j
        second (inl y) g n = rw y (to_x i b g n)
        second (inr y) g n =
            let turned = meets_twin q x (bar i) x_inside (bar_below i m.vars b) (from_x (bar i) (bar_below i m.vars b) (ap t (bar-half i) ∙ g) (λ z. n (sym (bar-half i) ∙ z))) in
            rw y (subst (λ k. Meets q k (bar x)) (bar_bar i) turned)

  -- ---- all variables, one after another

  fill_one : (t : ℕ → Bool) (p : Point) (v : ℕ) → v < m.vars → Among t p → (q : Point) × Among (λ k. t k || k == v) q × ((w : ℕ) → t w ≡ true → q w ≡ p w)
  unfolding q with_node x
  fill_one t p v inside among =
      elim (cases_Bool (t v)) [
        | inl old ↦ (p, λ i j a b e f. among i j a b (known_already (i / 2) old e) (known_already (j / 2) old f), λ w e. refl)
        | inr new ↦ (q t p v inside among, extended_meets t p v inside among, λ w e. elsewhere w (λ same. both_ways (t v) new (subst (λ k. t k ≡ true) same e)))
      ]
    where
      known_already : (k : ℕ) → t v ≡ true → (t k || k == v) ≡ true → t k ≡ true
      known_already k old e = elim (or_cases (t k) (k == v) e) [ inl y ↦ y | inr y ↦ subst (λ l. t l ≡ true) (sym (eqb-true k v y)) old ]

      elsewhere : (w : ℕ) → w ≢ v → q t p v inside among w ≡ p w
      elsewhere w n = rw (ne_eqb w (2 * v / 2) (λ e. n (e ∙ first_node v))) refl

  extended : (ℕ → Bool) → ℕ → ℕ → Bool
  extended t zero = t
  extended t (suc k) = λ v. extended t k v || v == k

  still : (t : ℕ → Bool) (k v : ℕ) → t v ≡ true → extended t k v ≡ true
  unfolding extended
  still t zero v e = e
  still t (suc k) v e = or_left (extended t k v) (v == k) (still t k v e)

  all_extended : (t : ℕ → Bool) (k v : ℕ) → v < k → extended t k v ≡ true
  unfolding extended
  all_extended t zero v b = absurd (omega arith)
  all_extended t (suc k) v b =
      elim (cases_eq v k) [
        | inl same ↦ or_right (extended t k v) (v == k) (eq-eqb v k same)
        | inr other ↦ or_left (extended t k v) (v == k) (all_extended t k v (omega arith))
      ]

  fill : (t : ℕ → Bool) (p : Point) → Among t p → (k : ℕ) → k ≤ m.vars → (q : Point) × Among (extended t k) q × ((w : ℕ) → t w ≡ true → q w ≡ p w)
  unfolding extended
  fill t p among zero b = (p, among, λ w e. refl)
  fill t p among (suc k) b =
      let r = fill t p among k (omega arith) in
      let s = fill_one (extended t k) r.0 k (omega arith) r.1 in
      (s.0, s.1, λ w e. s.2 w (still t k w e) ∙ r.2 w e)

  -- a point over some variables is one of all
  full : (t : ℕ → Bool) (p : Point) → Among t p → (q : Point) × LiesIn q m × ((i : ℕ) → t (i / 2) ≡ true → value q i ≡ value p i)
  full t p among =
      let r = fill t p among m.vars (omega arith) in
      (r.0, λ i j a b. r.1 i j a b (all_extended t m.vars (i / 2) (node_variable i m.vars a)) (all_extended t m.vars (j / 2) (node_variable j m.vars b)), λ i e. same_value p r.0 i (r.2 (i / 2) e))

  -- ---- a bound that is reached

  abbrev Reached : ℕ → ℕ → ℤ → Type 0
  Reached i j z = (p : Point) × LiesIn p m × (value p j -ℤ value p i ≡ z)

  origin : Point
  origin = λ _. pos 0

  of_itself : (i : ℕ) (z : ℤ) → i < nodes m → entry m i i ≡ Some z → Reached i i z
  of_itself i z a e =
      let r = full (λ _. false) origin (λ k l b d f g. absurd (both_ways false refl f)) in
      (r.0, r.1, none (value r.0 i) ∙ same_Some (pos 0) z (sym (h.diagonal i a) ∙ e))
    where
      none : (v : ℤ) → v -ℤ v ≡ pos 0
      none v = omega (arith, ints)

  -- nodes of one variable
  own_meets : (p : Point) (i : ℕ) → i < nodes m → Meets p i (bar i) → Meets p (bar i) i → (k l : ℕ) → k / 2 ≡ i / 2 → l / 2 ≡ i / 2 → Meets p k l
  own_meets p i a low high k l e f = by (same_variable i k e) (same_variable i l f)
    where
      by : (k ≡ i) ⊎ (k ≡ bar i) → (l ≡ i) ⊎ (l ≡ bar i) → Meets p k l
      by (inl y) (inl z) = rw (y, z) (meets_own p i a)
      by (inl y) (inr z) = rw (y, z) low
      by (inr y) (inl z) = rw (y, z) high
      by (inr y) (inr z) = rw (y, z) (meets_own p (bar i) (bar_below i m.vars a))

  of_double : (i : ℕ) (z : ℤ) → i < nodes m → entry m i (bar i) ≡ Some z → Reached i (bar i) z
  of_double i z a e =
      let r = full (λ k. k == i / 2) p among in
      (r.0, r.1, rw (r.2 i (eq-eqb (i / 2) (i / 2) refl), r.2 (bar i) (eq-eqb (bar i / 2) (i / 2) (bar-half i)), value-bar p i, there) (twice y z evened))
    where
      y : ℤ
      y = int_shr z 1

      evened : y +ℤ y ≡ z
      evened = same_Some (y +ℤ y) z (ap even (sym e) ∙ c.evens i a ∙ e)

      p : Point
      p = with_node origin i (neg_ℤ y)

      there : value p i ≡ neg_ℤ y
      there = value-there origin i (neg_ℤ y)

      twice : (y z : ℤ) → y +ℤ y ≡ z → neg_ℤ (neg_ℤ y) -ℤ neg_ℤ y ≡ z
      twice y z k = omega (arith, ints)

      back : (y : ℤ) → neg_ℤ (neg_ℤ y) ≡ y
      back y = omega (arith, ints)

      low : Meets p i (bar i)
      low = low_meets p i (rw (there, back y, e) (≤ℤ_refl y))

      opposite : (y : ℤ) (b : Bound) → IsFlat (plus (Some y) b) → AtMost (Some (neg_ℤ y)) b
      opposite y None k = tt
      opposite y (Some w) k = omega (arith, ints)

      high : Meets p (bar i) i
      high = high_meets p i (rw there (opposite y (half (entry m (bar i) i)) (subst (λ b. IsFlat (plus (half b) (half (entry m (bar i) i)))) e (halves_agree i a))))

      among : Among (λ k. k == i / 2) p
      among k l b d f g = own_meets p i a low high k l (eqb-true (k / 2) (i / 2) f) (eqb-true (l / 2) (i / 2) g)

  module _ (i j : ℕ) (z : ℤ) (a : i < nodes m) (b : j < nodes m) (e : entry m i j ≡ Some z) (apart : i / 2 ≢ j / 2) where
    lows2 : ℕ → Bound
    lows2 = consed (half (entry m i (bar i))) (consed (plus (half (entry m j (bar j))) (Some z)) (λ _. None))

    highs2 : ℕ → Bound
    highs2 = consed (half (entry m (bar i) i)) (consed (plus (half (entry m (bar j) j)) (Some (neg_ℤ z))) (λ _. None))

    back : AtMost (Some (neg_ℤ z)) (entry m j i)
    back =
        let round = c.triangle j i j b a b in
        flipped (entry m j i) z (rw (e, h.diagonal j b) at round)

    flat2 : AllFlat 2 lows2 highs2
    unfolding lows2 highs2 consed
    flat2 zero zero k l = halves_agree i a
    flat2 zero (suc zero) k l = strong_first z (half (entry m i (bar i))) (half (entry m (bar j) j)) (subst (λ x. AtMost x (plus (half (entry m i (bar i))) (half (entry m (bar j) j)))) e (c.strong i j a b))
      where
        strong_first : (z : ℤ) (x y : Bound) → AtMost (Some z) (plus x y) → IsFlat (plus x (plus y (Some (neg_ℤ z))))
        strong_first z None y k = tt
        strong_first z (Some x) None k = tt
        strong_first z (Some x) (Some y) k = omega (arith, ints)
    flat2 (suc zero) zero k l =
        strong_second z (half (entry m j (bar j))) (half (entry m (bar i) i))
        (at_most_trans (Some (neg_ℤ z)) (entry m j i) (plus (half (entry m j (bar j))) (half (entry m (bar i) i))) back (c.strong j i b a))
      where
        strong_second : (z : ℤ) (x y : Bound) → AtMost (Some (neg_ℤ z)) (plus x y) → IsFlat (plus (plus x (Some z)) y)
        strong_second z None y k = tt
        strong_second z (Some x) None k = tt
        strong_second z (Some x) (Some y) k = omega (arith, ints)
    flat2 (suc zero) (suc zero) k l = agreed z (half (entry m j (bar j))) (half (entry m (bar j) j)) (halves_agree j b)
      where
        agreed : (z : ℤ) (x y : Bound) → IsFlat (plus x y) → IsFlat (plus (plus x (Some z)) (plus y (Some (neg_ℤ z))))
        agreed z None y k = tt
        agreed z (Some x) None k = tt
        agreed z (Some x) (Some y) k = omega (arith, ints)
    flat2 zero (suc (suc n)) k l = absurd (omega arith)
    flat2 (suc zero) (suc (suc n)) k l = absurd (omega arith)
    flat2 (suc (suc n)) o k l = absurd (omega arith)

    found2 : Between 2 lows2 highs2
    found2 = chosen 2 lows2 highs2 flat2

    w : ℤ
    w = found2.0

    p2 : Point
    p2 = with_node (with_node origin i w) j (w +ℤ z)

    value_i : value p2 i ≡ w
    unfolding p2
    value_i = value_away (with_node origin i w) j i (w +ℤ z) apart ∙ value-there origin i w

    value_j : value p2 j ≡ w +ℤ z
    unfolding p2
    value_j = value-there (with_node origin i w) j (w +ℤ z)

    low_i : AtMost (Some (neg_ℤ w)) (half (entry m i (bar i)))
    unfolding lows2 consed w
    low_i = found2.1 0 (omega arith)

    high_j : AtMost (Some (w +ℤ z)) (half (entry m (bar j) j))
    unfolding highs2 consed w
    high_j = moved (half (entry m (bar j) j)) (found2.2 1 (omega arith))
      where
        moved : (x : Bound) → AtMost (Some w) (plus x (Some (neg_ℤ z))) → AtMost (Some (w +ℤ z)) x
        moved None k = tt
        moved (Some y) k = omega (arith, ints)

    i_low : Meets p2 i (bar i)
    i_low = low_meets p2 i (rw value_i low_i)

    i_high : Meets p2 (bar i) i
    unfolding highs2 consed w
    i_high = high_meets p2 i (rw value_i (found2.2 0 (omega arith)))

    j_low : Meets p2 j (bar j)
    unfolding lows2 consed w
    j_low = low_meets p2 j (rw value_j (moved (half (entry m j (bar j))) (found2.1 1 (omega arith))))
      where
        moved : (x : Bound) → AtMost (Some (neg_ℤ w)) (plus x (Some z)) → AtMost (Some (neg_ℤ (w +ℤ z))) x
        moved None k = tt
        moved (Some y) k = omega (arith, ints)

    j_high : Meets p2 (bar j) j
    j_high = high_meets p2 j (rw value_j high_j)

    i_to_j : Meets p2 i j
    i_to_j = rw (value_i, value_j, e) (exactly w z)
      where
        exactly : (w z : ℤ) → AtMost (Some ((w +ℤ z) -ℤ w)) (Some z)
        exactly w z = omega (arith, ints)

    j_to_i : Meets p2 j i
    j_to_i = rw (value_i, value_j) (subst (λ x. AtMost (Some x) (entry m j i)) (turned w z) back)
      where
        turned : (w z : ℤ) → neg_ℤ z ≡ w -ℤ (w +ℤ z)
        turned w z = omega (arith, ints)

    i_to_bar : Meets p2 i (bar j)
    i_to_bar =
        let round = c.triangle i j (bar i) a b (bar_below i m.vars a) in
        let twin : entry m j (bar i) ≡ entry m i (bar j) = h.twins j (bar i) b (bar_below i m.vars a) ∙ ap (λ k. entry m k (bar j)) (bar_bar i) in
        rw (value_i, value-bar p2 j, value_j)
        (moved w z (entry m i (bar j))
        (at_most_trans (Some (neg_ℤ w +ℤ neg_ℤ w)) (entry m i (bar i)) (plus (Some z) (entry m i (bar j))) (doubled (neg_ℤ w) (entry m i (bar i)) low_i) (rw (e, twin) at round)))
      where
        moved : (w z : ℤ) (x : Bound) → AtMost (Some (neg_ℤ w +ℤ neg_ℤ w)) (plus (Some z) x) → AtMost (Some (neg_ℤ (w +ℤ z) -ℤ w)) x
        moved w z None k = tt
        moved w z (Some y) k = omega (arith, ints)

    bar_to_j : Meets p2 (bar i) j
    bar_to_j =
        let round = c.triangle (bar j) (bar i) j (bar_below j m.vars b) (bar_below i m.vars a) b in
        rw (value_j, value-bar p2 i, value_i)
        (moved w z (entry m (bar i) j)
        (at_most_trans (Some ((w +ℤ z) +ℤ (w +ℤ z))) (entry m (bar j) j) (plus (Some z) (entry m (bar i) j)) (doubled (w +ℤ z) (entry m (bar j) j) high_j) (rw (← h.twins i j a b, e) at round)))
      where
        moved : (w z : ℤ) (x : Bound) → AtMost (Some ((w +ℤ z) +ℤ (w +ℤ z))) (plus (Some z) x) → AtMost (Some ((w +ℤ z) -ℤ neg_ℤ w)) x
        moved w z None k = tt
        moved w z (Some y) k = omega (arith, ints)

    across : (k l : ℕ) → k / 2 ≡ i / 2 → l / 2 ≡ j / 2 → Meets p2 k l
    across k l f g = by (same_variable i k f) (same_variable j l g)
      where
        by : (k ≡ i) ⊎ (k ≡ bar i) → (l ≡ j) ⊎ (l ≡ bar j) → Meets p2 k l
        by (inl y) (inl x) = rw (y, x) i_to_j
        by (inl y) (inr x) = rw (y, x) i_to_bar
        by (inr y) (inl x) = rw (y, x) bar_to_j
        by (inr y) (inr x) = rw (y, x) (meets_twin p2 j i b a j_to_i)

    across_back : (k l : ℕ) → k / 2 ≡ j / 2 → l / 2 ≡ i / 2 → Meets p2 k l
    across_back k l f g = by (same_variable j k f) (same_variable i l g)
      where
        by : (k ≡ j) ⊎ (k ≡ bar j) → (l ≡ i) ⊎ (l ≡ bar i) → Meets p2 k l
        by (inl y) (inl x) = rw (y, x) j_to_i
        by (inl y) (inr x) = rw (y, x) (subst (λ k. Meets p2 k (bar i)) (bar_bar j) (meets_twin p2 i (bar j) a (bar_below j m.vars b) i_to_bar))
        by (inr y) (inl x) = rw (y, x) (subst (λ k. Meets p2 (bar j) k) (bar_bar i) (meets_twin p2 (bar i) j (bar_below i m.vars a) b bar_to_j))
        by (inr y) (inr x) = rw (y, x) (meets_twin p2 i j a b i_to_j)

    among2 : Among (λ k. k == i / 2 || k == j / 2) p2
    among2 k l f g s t = by (or_cases (k / 2 == i / 2) (k / 2 == j / 2) s) (or_cases (l / 2 == i / 2) (l / 2 == j / 2) t)
      where
        by : ((k / 2 == i / 2) ≡ true) ⊎ ((k / 2 == j / 2) ≡ true) → ((l / 2 == i / 2) ≡ true) ⊎ ((l / 2 == j / 2) ≡ true) → Meets p2 k l
        by (inl y) (inl x) = own_meets p2 i a i_low i_high k l (eqb-true (k / 2) (i / 2) y) (eqb-true (l / 2) (i / 2) x)
        by (inl y) (inr x) = across k l (eqb-true (k / 2) (i / 2) y) (eqb-true (l / 2) (j / 2) x)
        by (inr y) (inl x) = across_back k l (eqb-true (k / 2) (j / 2) y) (eqb-true (l / 2) (i / 2) x)
        by (inr y) (inr x) = own_meets p2 j b j_low j_high k l (eqb-true (k / 2) (j / 2) y) (eqb-true (l / 2) (j / 2) x)

    of_two : Reached i j z
    of_two =
        let r = full (λ k. k == i / 2 || k == j / 2) p2 among2 in
        (r.0, r.1, rw (r.2 i (or_left (i / 2 == i / 2) (i / 2 == j / 2) (eq-eqb (i / 2) (i / 2) refl)), r.2 j (or_right (j / 2 == i / 2) (j / 2 == j / 2) (eq-eqb (j / 2) (j / 2) refl)), value_i, value_j) (exactly w z))
      where
        exactly : (w z : ℤ) → (w +ℤ z) -ℤ w ≡ z
        exactly w z = omega (arith, ints)

  pub tight : IsTight m
  tight i j z a b e =
      elim (cases_eq (j / 2) (i / 2)) [
        | inl same ↦ by (same_variable i j same)
        | inr other ↦ of_two i j z a b e (λ f. other (sym f))
      ]
    where
      by : (j ≡ i) ⊎ (j ≡ bar i) → Reached i j z
      by (inl y) = subst (λ k. Reached i k z) (sym y) (of_itself i z a (subst (λ k. entry m i k ≡ Some z) y e))
      by (inr y) = subst (λ k. Reached i k z) (sym y) (of_double i z a (subst (λ k. entry m i k ≡ Some z) y e))

pub left_tight : (m : Table) (answer : Closing) (after : Table) → IsMatrix m → IsMatrix after → ClosesTo m answer after → LeavesTight answer after
left_tight m Empty after h k e = tt
left_tight m Closed after h k e = tight after k (closed_is_closed m after h e)
