-- The table of the spans of places: its entries, that it is closed, and its points.
use Rattle.std.proofs.Common.{◌≡◌, ◌≢◌, ℕ, zero, suc, ◌+◌, ◌-◌, ◌*◌, ◌/◌, ◌%◌, ◌^◌, ◌<◌, ◌≤◌, ◌==◌, Bool, true, false, cond, ℤ, pos, neg_ℤ, ◌+ℤ◌, ◌-ℤ◌, ◌≤ℤ◌, unsigned_abs, Some, List, [], ◌∷◌, length, get_or, to_z, of_z, ◌↔◌, ap, ap₂, sym, subst, subst₂, ◌∙◌, inl, inr, arith}
use Rattle.std.specs.Int.{w128}
use Rattle.std.proofs.lemmas.Int.{ints}
use Rattle.std.proofs.lemmas.Bool.{cases_eq, eq-eqb, ne_eqb}
use Rattle.std.proofs.lemmas.Option.{same_Some}
use Rattle.std.proofs.lemmas.List.{get_or_default}
use Rattle.sa_interval.specs.Span.{Span, Within, IsInterval}
use Rattle.sa_numbers.proofs.Halves.{half-double}
use Rattle.sa_numbers.proofs.Sizes.{size_of_sum, size-negated}
use Rattle.sa_dbm.specs.Bounds.{plus, half, even, AtMost, IsFlat}
use Rattle.sa_dbm.specs.Tables.{Table, nodes, bar, entry, table, IsMatrix, IsWithin, top_table}
use Rattle.sa_dbm.specs.Points.{Point, value, LiesIn}
use Rattle.sa_dbm.specs.Closed.{IsClosed}
use Rattle.sa_dbm.proofs.BoundLaws.{at_most_refl, plus_zero_left, plus-zero_right}
use Rattle.sa_dbm.proofs.TableLaws.{bar_bar, bar_below, bar-half, bar-odd, bar_differs, table_is, vars-top, matrix-top}
use Rattle.sa_dbm.proofs.Sizes.{within-top}
use Rattle.sa_dbm.proofs.Soundness.{value-bar}
use Rattle.sa_dbm.proofs.Closures.{closed_by_rules}
use Rattle.sa_octagon.specs.Packs.{IsSpanWithin, AreSmall, AreWithin, span_at, node, reach, reach_between, top_of}
use Rattle.sa_octagon.specs.Filled.{AreEntries, IsFilled, IsEmpty}
use Rattle.sa_octagon.proofs.Filling.{filled_start, filled_entry, top_empty}
use Rattle.sa_octagon.proofs.Signs.{node_below, value-node}

-- ---- how large the entries are, and that they are the same in twins

pub reach_size : (limit : ℕ) (spans : List Span) (i : ℕ) → AreWithin limit spans → i / 2 < length spans → unsigned_abs (reach spans i) ≤ limit
unfolding reach
reach_size limit spans i small h = let s = small (i / 2) h in either (i % 2 == 0) (span_at spans (i / 2)) s.lo s.hi
  where
    either : (b : Bool) (s : Span) → unsigned_abs s.lo ≤ limit → unsigned_abs s.hi ≤ limit → unsigned_abs (cond b s.hi (neg_ℤ s.lo)) ≤ limit
    either true s p q = q
    either false s p q = rw size-negated p

pub between_within : (limit : ℕ) (spans : List Span) (i j : ℕ) → AreWithin limit spans → i < 2 * length spans → j < 2 * length spans → unsigned_abs (reach spans j +ℤ reach spans (bar i)) ≤ limit + limit
between_within limit spans i j small p q =
    size_of_sum (reach spans j) (reach spans (bar i)) limit limit (reach_size limit spans j small (omega arith))
    (reach_size limit spans (bar i) small (rw bar-half (omega arith)))

pub between_size : (spans : List Span) (i j : ℕ) → AreSmall spans → i < 2 * length spans → j < 2 * length spans → unsigned_abs (reach spans j +ℤ reach spans (bar i)) ≤ 2 ^ 64 + 2 ^ 64
between_size spans i j small p q = between_within (2 ^ 64) spans i j small p q

pub span_entries : (spans : List Span) → AreSmall spans → AreEntries (2 * length spans) (reach_between spans)
unfolding reach_between
span_entries spans small = record {
  twins = λ i j p q n. ap Some (ap (λ k. reach spans k +ℤ reach spans (bar i)) (sym (bar_bar j)) ∙ swapped (reach spans (bar (bar j))) (reach spans (bar i)));
  sizes = λ i j z p q n e. let size = between_size spans i j small p q in subst (λ x. unsigned_abs x ≤ 2 ^ 100) (same_Some _ z e) (omega arith);
}
  where
    swapped : (a b : ℤ) → a +ℤ b ≡ b +ℤ a
    swapped a b = omega (arith, ints)

-- ---- a table whose entries are sums of what the nodes reach

module _ (m : Table) (r : ℕ → ℤ) (h : IsMatrix m) (flat : (k : ℕ) → k < nodes m → pos 0 ≤ℤ (r k +ℤ r (bar k)))
    (e : (p q : ℕ) → p < nodes m → q < nodes m → p ≢ q → entry m p q ≡ Some (r q +ℤ r (bar p))) where
  own : (i : ℕ) → i < nodes m → entry m i (bar i) ≡ Some (r (bar i) +ℤ r (bar i))
  own i p = e i (bar i) p (bar_below i m.vars p) (λ s. bar_differs i (sym s))

  own' : (i : ℕ) → i < nodes m → entry m (bar i) i ≡ Some (r i +ℤ r i)
  own' i p = e (bar i) i (bar_below i m.vars p) p (bar_differs i) ∙ ap (λ k. Some (r i +ℤ r k)) (bar_bar i)

  half_own : (x : ℤ) → half (Some (x +ℤ x)) ≡ Some x
  half_own x = ap Some (half-double x)

  triangle : (i k j : ℕ) → i < nodes m → k < nodes m → j < nodes m → AtMost (entry m i j) (plus (entry m i k) (entry m k j))
  triangle i k j p q s =
      elim (cases_eq i k) [
        | inl same ↦
            subst (λ l. AtMost (entry m i j) (plus (entry m i l) (entry m l j))) same
            (subst (λ b. AtMost (entry m i j) (plus b (entry m i j))) (sym (h.diagonal i p)) (subst (AtMost (entry m i j)) (sym (plus_zero_left (entry m i j))) (at_most_refl (entry m i j))))
        | inr n ↦ elim (cases_eq k j) [
          | inl same ↦
              subst (λ l. AtMost (entry m i l) (plus (entry m i k) (entry m k l))) same
              (subst (λ b. AtMost (entry m i k) (plus (entry m i k) b)) (sym (h.diagonal k q)) (subst (AtMost (entry m i k)) (sym (plus-zero_right (entry m i k))) (at_most_refl (entry m i k))))
          | inr n' ↦ elim (cases_eq i j) [
            | inl same ↦
                subst₂ (λ a b. AtMost a (plus (entry m i k) b)) (sym (subst (λ l. entry m i l ≡ Some (pos 0)) same (h.diagonal i p))) (sym (e k j q s n'))
                (subst (λ a. AtMost (Some (pos 0)) (plus a (Some (r j +ℤ r (bar k))))) (sym (e i k p q n))
                (back (r j) (r (bar i)) (r k) (r (bar k)) (subst (λ l. pos 0 ≤ℤ (r l +ℤ r (bar i))) same (flat i p)) (flat k q)))
            | inr n'' ↦
                subst (λ a. AtMost a (plus (entry m i k) (entry m k j))) (sym (e i j p s n''))
                (subst₂ (λ a b. AtMost (Some (r j +ℤ r (bar i))) (plus a b)) (sym (e i k p q n)) (sym (e k j q s n')) (over (r j) (r (bar i)) (r k) (r (bar k)) (flat k q)))
          ]
        ]
      ]
    where
      back : (a b c d : ℤ) → pos 0 ≤ℤ (a +ℤ b) → pos 0 ≤ℤ (c +ℤ d) → pos 0 ≤ℤ ((c +ℤ b) +ℤ (a +ℤ d))
      back a b c d x y = omega (arith, ints)

      over : (a b c d : ℤ) → pos 0 ≤ℤ (c +ℤ d) → (a +ℤ b) ≤ℤ ((c +ℤ b) +ℤ (a +ℤ d))
      over a b c d y = omega (arith, ints)

  pub reached_closed : IsClosed m
  reached_closed =
      closed_by_rules m (record {
        matrix = h;
        triangle = triangle;
        evens = λ i p. ap even (own i p) ∙ ap₂ plus (half_own (r (bar i))) (half_own (r (bar i))) ∙ sym (own i p);
        agree = λ i p. subst₂ (λ a b. IsFlat (plus a b)) (sym (own i p)) (sym (own' i p)) (twice (r i) (r (bar i)) (flat i p));
        strong = λ i j p q.
            subst₂ (λ a b. AtMost (entry m i j) (plus (half a) (half b))) (sym (own i p)) (sym (own' j q))
            (subst₂ (λ a b. AtMost (entry m i j) (plus a b)) (sym (half_own (r (bar i)))) (sym (half_own (r j))) (by_halves i j p q));
      })
    where
      twice : (a b : ℤ) → pos 0 ≤ℤ (a +ℤ b) → pos 0 ≤ℤ ((b +ℤ b) +ℤ (a +ℤ a))
      twice a b x = omega (arith, ints)

      by_halves : (i j : ℕ) → i < nodes m → j < nodes m → AtMost (entry m i j) (Some (r (bar i) +ℤ r j))
      by_halves i j p q =
          elim (cases_eq i j) [
            | inl same ↦
                subst (λ a. AtMost a (Some (r (bar i) +ℤ r j))) (sym (subst (λ l. entry m i l ≡ Some (pos 0)) same (h.diagonal i p)))
                (level (r j) (r (bar i)) (subst (λ l. pos 0 ≤ℤ (r l +ℤ r (bar i))) same (flat i p)))
            | inr n ↦ subst (λ a. AtMost a (Some (r (bar i) +ℤ r j))) (sym (e i j p q n)) (swapped (r j) (r (bar i)))
          ]
        where
          level : (a b : ℤ) → pos 0 ≤ℤ (a +ℤ b) → pos 0 ≤ℤ (b +ℤ a)
          level a b x = omega (arith, ints)

          swapped : (a b : ℤ) → (a +ℤ b) ≤ℤ (b +ℤ a)
          swapped a b = omega (arith, ints)

  -- its points are those whose nodes are at most what they reach
  pub reached_points : (p : Point) → ((i : ℕ) → i < nodes m → value p i ≤ℤ r i) → LiesIn p m
  reached_points p below = λ i j s t.
      elim (cases_eq i j) [
        | inl same ↦
            subst (AtMost (Some (value p j -ℤ value p i))) (sym (subst (λ l. entry m i l ≡ Some (pos 0)) same (h.diagonal i s)))
            (subst (λ l. (value p l -ℤ value p i) ≤ℤ pos 0) same (none (value p i)))
        | inr n ↦
            subst (AtMost (Some (value p j -ℤ value p i))) (sym (e i j s t n))
            (sum (value p i) (value p j) (value p (bar i)) (r j) (r (bar i)) (value-bar p i) (below j t) (below (bar i) (bar_below i m.vars s)))
      ]
    where
      none : (a : ℤ) → (a -ℤ a) ≤ℤ pos 0
      none a = omega (arith, ints)

      sum : (a b c x y : ℤ) → c ≡ neg_ℤ a → b ≤ℤ x → c ≤ℤ y → (b -ℤ a) ≤ℤ (x +ℤ y)
      sum a b c x y f k l = omega (arith, ints)

  pub reached_below : (p : Point) → LiesIn p m → (i : ℕ) → i < nodes m → value p i ≤ℤ r i
  reached_below p l i s =
      halved (value p i) (value p (bar i)) (r i) (value-bar p i) (subst (AtMost (Some (value p i -ℤ value p (bar i)))) (own' i s) (l (bar i) i (bar_below i m.vars s) s))
    where
      halved : (a b x : ℤ) → b ≡ neg_ℤ a → (a -ℤ b) ≤ℤ (x +ℤ x) → a ≤ℤ x
      halved a b x f k = omega (arith, ints)

-- ---- what the nodes of a place reach

pub opposite_reaches : (spans : List Span) (k : ℕ) → (span_at spans (k / 2)).lo ≤ℤ (span_at spans (k / 2)).hi → pos 0 ≤ℤ (reach spans k +ℤ reach spans (bar k))
unfolding reach
opposite_reaches spans k h = rw (bar-half k, bar-odd k) (level (k % 2) (span_at spans (k / 2)) (omega arith) h)
  where
    level : (r : ℕ) (s : Span) → r < 2 → s.lo ≤ℤ s.hi → pos 0 ≤ℤ (cond (r == 0) s.hi (neg_ℤ s.lo) +ℤ cond (1 - r == 0) s.hi (neg_ℤ s.lo))
    level zero s b h = omega (arith, ints)
    level (suc zero) s b h = omega (arith, ints)
    level (suc (suc r)) s b h = absurd (omega arith)

pub reach-up : (spans : List Span) (k : ℕ) → reach spans (node true k) ≡ (span_at spans k).hi
unfolding reach
reach-up spans k =
    let half : 2 * k / 2 ≡ k = omega arith in
    let even : 2 * k % 2 ≡ 0 = omega arith in
    ap₂ (λ r j. cond (r == 0) (span_at spans j).hi (neg_ℤ (span_at spans j).lo)) even half

pub reach-down : (spans : List Span) (k : ℕ) → reach spans (node false k) ≡ neg_ℤ (span_at spans k).lo
unfolding reach
reach-down spans k =
    let half : (2 * k + 1) / 2 ≡ k = omega arith in
    let odd : (2 * k + 1) % 2 ≡ 1 = omega arith in
    ap₂ (λ r j. cond (r == 0) (span_at spans j).hi (neg_ℤ (span_at spans j).lo)) odd half

pub below_reach : (spans : List Span) (p : Point) (i : ℕ) → Within (span_at spans (i / 2)) (p (i / 2)) → value p i ≤ℤ reach spans i
unfolding value reach
below_reach spans p i h = either (i % 2 == 0) (p (i / 2)) (span_at spans (i / 2)) h
  where
    either : (b : Bool) (z : ℤ) (s : Span) → Within s z → cond b z (neg_ℤ z) ≤ℤ cond b s.hi (neg_ℤ s.lo)
    either true z s h = h.below
    either false z s h = let a = h.above in omega (arith, ints)

-- as they are stored
pub reach_even : (spans : List Span) (i : ℕ) (s : Span) (z : ℤ) → i / 2 < length spans → s ≡ get_or spans (i / 2) s → i % 2 ≡ 0 → z ≡ s.hi → IsInterval s
    → to_z w128 (of_z w128 z) ≡ reach spans i
unfolding reach
reach_even spans i s z p is even e h =
    ap (λ z. to_z w128 (of_z w128 z)) e ∙ again s h
    ∙ ap₂ (λ r (t : Span). cond (r == 0) t.hi (neg_ℤ t.lo)) (sym even) (is ∙ get_or_default spans (i / 2) s (record { lo = pos 0; hi = pos 0 }) p)
  where
    again : (s : Span) → IsInterval s → to_z w128 (of_z w128 s.hi) ≡ s.hi
    again s h = let a = h.ordered in let b = h.low in let c = h.high in omega (arith, ints)

pub reach_odd : (spans : List Span) (i : ℕ) (s : Span) (y z : ℤ) → i / 2 < length spans → s ≡ get_or spans (i / 2) s → i % 2 ≢ 0 → z ≡ neg_ℤ (to_z w128 (of_z w128 y)) → y ≡ s.lo → IsInterval s
    → to_z w128 (of_z w128 z) ≡ reach spans i
unfolding reach
reach_odd spans i s y z p is odd e f h =
    let one : i % 2 ≡ 1 = omega arith in
    ap (λ z. to_z w128 (of_z w128 z)) (e ∙ ap (λ y. neg_ℤ (to_z w128 (of_z w128 y))) f) ∙ again s h
    ∙ ap₂ (λ r (t : Span). cond (r == 0) t.hi (neg_ℤ t.lo)) (sym one) (is ∙ get_or_default spans (i / 2) s (record { lo = pos 0; hi = pos 0 }) p)
  where
    again : (s : Span) → IsInterval s → to_z w128 (of_z w128 (neg_ℤ (to_z w128 (of_z w128 s.lo)))) ≡ neg_ℤ s.lo
    again s h = let a = h.ordered in let b = h.low in let c = h.high in omega (arith, ints)

-- ---- the table of the spans

pub top_start : (spans : List Span) (m : Table) → 1 ≤ length spans → length spans ≤ 8 → AreSmall spans → m ≡ top_table (length spans) → IsFilled (2 * length spans) (reach_between spans) 0 m
top_start spans m some few small e =
    filled_start (2 * length spans) (reach_between spans) (omega arith) (span_entries spans small) m
    (ap nodes e ∙ ap (λ v. 2 * v) (vars-top (length spans))) (subst IsMatrix (sym e) (matrix-top (length spans) some few)) (subst (IsWithin (2 ^ 100)) (sym e) (within-top (2 ^ 100) (length spans)))
    (subst IsEmpty (sym e) (top_empty (length spans)))

module _ (spans : List Span) (few : length spans ≤ 8) (small : AreSmall spans) (m : Table) (f : IsFilled (2 * length spans) (reach_between spans) 256 m) where
  filled : (p q : ℕ) → p < nodes m → q < nodes m → p ≢ q → entry m p q ≡ reach_between spans p q
  filled p q a b n = filled_entry (2 * length spans) (reach_between spans) (omega arith) (span_entries spans small) m f p q (rw f.size at a) (rw f.size at b) n

  filled_vars : m.vars ≡ length spans
  filled_vars = let s = f.size in omega arith

  pub filled_top : m ≡ top_of spans
  unfolding top_of
  filled_top =
      table_is m (λ i j. cond (i == j) (Some (pos 0)) (reach_between spans i j)) f.matrix.whole (λ i j p q. at i j p q)
      ∙ ap (λ v. table v (λ i j. cond (i == j) (Some (pos 0)) (reach_between spans i j))) filled_vars
    where
      at : (i j : ℕ) → i < nodes m → j < nodes m → entry m i j ≡ cond (i == j) (Some (pos 0)) (reach_between spans i j)
      at i j p q =
          elim (cases_eq i j) [
            | inl same ↦ subst (λ l. entry m i l ≡ Some (pos 0)) same (f.matrix.diagonal i p) ∙ ap (λ t. cond t (Some (pos 0)) (reach_between spans i j)) (sym (eq-eqb i j same))
            | inr n ↦ filled i j p q n ∙ ap (λ t. cond t (Some (pos 0)) (reach_between spans i j)) (sym (ne_eqb i j n))
          ]

  sums : (p q : ℕ) → p < nodes m → q < nodes m → p ≢ q → entry m p q ≡ Some (reach spans q +ℤ reach spans (bar p))
  unfolding reach_between
  sums p q a b n = filled p q a b n

  pub filled_within : (limit : ℕ) → AreWithin limit spans → IsWithin (limit + limit) m
  filled_within limit all = λ i j z p q e.
      elim (cases_eq i j) [
        | inl same ↦ subst (λ x. unsigned_abs x ≤ limit + limit) (same_Some (pos 0) z (sym (subst (λ l. entry m i l ≡ Some (pos 0)) same (f.matrix.diagonal i p)) ∙ e)) (omega arith)
        | inr n ↦
            subst (λ x. unsigned_abs x ≤ limit + limit) (same_Some _ z (sym (sums i j p q n) ∙ e)) (between_within limit spans i j all (rw f.size at p) (rw f.size at q))
      ]

  -- the spans are those of intervals
  module _ (whole : (k : ℕ) → k < length spans → IsInterval (span_at spans k)) where
    flat_reach : (k : ℕ) → k < nodes m → pos 0 ≤ℤ (reach spans k +ℤ reach spans (bar k))
    flat_reach k p = let i = whole (k / 2) (let s = f.size in omega arith) in opposite_reaches spans k i.ordered

    pub filled_closed : IsClosed m
    filled_closed = reached_closed m (reach spans) f.matrix flat_reach sums

    -- exactly the points whose numbers lie in the spans
    pub filled_points : (p : Point) → LiesIn p m ↔ ((k : ℕ) → k < length spans → Within (span_at spans k) (p k))
    filled_points p = (
      λ l k h. (
          let up = reached_below m (reach spans) f.matrix flat_reach sums p l (node true k) (rw f.size (node_below true k (length spans) h)) in
          let down = reached_below m (reach spans) f.matrix flat_reach sums p l (node false k) (rw f.size (node_below false k (length spans) h)) in
          ends (span_at spans k) (p k) (subst₂ (λ a b. a ≤ℤ b) (value-node p true k) (reach-up spans k) up) (subst₂ (λ a b. a ≤ℤ b) (value-node p false k) (reach-down spans k) down)),
      λ h. reached_points m (reach spans) f.matrix flat_reach sums p (λ i s. below_reach spans p i (h (i / 2) (place_of i s))),
    )
      where
        ends : (s : Span) (z : ℤ) → z ≤ℤ s.hi → neg_ℤ z ≤ℤ neg_ℤ s.lo → Within s z
        ends s z a b = record { above = omega (arith, ints); below = a }

        place_of : (i : ℕ) → i < nodes m → i / 2 < length spans
        place_of i p = let s = f.size in omega arith

-- ---- lists of spans, one by one

pub none_within : (limit : ℕ) → AreWithin limit []
none_within limit = λ k h. absurd (omega arith)

pub more_within : (limit : ℕ) (s : Span) (spans : List Span) → IsSpanWithin limit s → AreWithin limit spans → AreWithin limit (s ∷ spans)
more_within limit s spans here rest = at
  where
    at : (k : ℕ) → k < length (s ∷ spans) → IsSpanWithin limit (span_at (s ∷ spans) k)
    at zero h = here
    at (suc k) h = rest k (omega arith)
