-- One more arc in a closed table: the least totals are had by at most one way over the arc, and one over its twin.
use Rattle.std.proofs.Common.{◌≡◌, ℕ, ◌+◌, ◌*◌, ◌^◌, ◌<◌, ◌≤◌, ◌==◌, ◌&&◌, ◌||◌, not, Bool, true, false, cond, ℤ, pos, ◌+ℤ◌, unsigned_abs, List, length, Some, None, inl, inr, ap, ap₂, sym, subst, subst₂, refl, ◌∙◌, arith}
use Rattle.std.proofs.lemmas.Bool.{true_from_ne_false, eqb-true, eq-eqb, both_ways, or_cases, or_left, or_right, and_from, and_parts}
use Rattle.std.proofs.lemmas.Int.{ints}
use Rattle.std.proofs.lemmas.Option.{same_Some}
use Rattle.sa_dbm.specs.Bounds.{Bound, plus, lesser, AtMost, IsFlat, is_negative}
use Rattle.sa_dbm.specs.Stored.{shown_at, stored, IsSmall, IsSummable}
use Rattle.sa_dbm.specs.Tables.{Table, nodes, bar, entry, table, IsMatrix, IsWithin, tightened}
use Rattle.sa_dbm.specs.Walks.{Walk, stay, go, walks}
use Rattle.sa_dbm.specs.Closed.{shortest, has_negative_walk, closed_form, IsClosed}
use Rattle.sa_numbers.proofs.Order.{≤ℤ_refl}
use Rattle.sa_numbers.proofs.Sizes.{size_of_sum}
use Rattle.sa_dbm.proofs.BoundLaws.{at_most_refl, at_most_trans, at_most_antisym, lesser_left, lesser_right, lesser_is_one, lesser_above, plus_mono, plus_group, plus_zero_left, plus-zero_right, plus_parts}
use Rattle.sa_dbm.proofs.TableLaws.{bar_bar, bar_below, at_or_twin, tightened_entry, matrix-tightened, vars-tightened, table_is}
use Rattle.sa_dbm.proofs.StoredLaws.{stored_is, entry-stored}
use Rattle.sa_dbm.proofs.WalkLaws.{reached_by_walk, at_most_by_numbers}
use Rattle.sa_dbm.proofs.Pivots.{none_negative, vars-walks, length-walks, test_from_flat, flat_from_test}
use Rattle.sa_dbm.proofs.Closures.{either_lesser, walks_triangle, flat_at, short_arc}

-- each total, or that over an arc from i to j of length k
pub over_arc : (ℕ → ℕ → Bound) → ℕ → ℕ → Bound → ℕ → ℕ → Bound
over_arc d i j k p q = lesser (d p q) (plus (plus (d p i) k) (d j q))

-- totals among n nodes: none by a third node is less, and from a node to itself it is 0
pub record Totals (n : ℕ) (d : ℕ → ℕ → Bound) : Type 0 where
  pub triangle : (i k j : ℕ) → i < n → k < n → j < n → AtMost (d i j) (plus (d i k) (d k j))
  pub own : (i : ℕ) → i < n → d i i ≡ Some (pos 0)

module _ (n : ℕ) (d : ℕ → ℕ → Bound) (t : Totals n d) (i j : ℕ) (k : Bound) (p' : i < n) (q' : j < n) (round : IsFlat (plus k (d j i))) where
  abbrev new : ℕ → ℕ → Bound
  new = over_arc d i j k

  pub below_old : (p q : ℕ) → AtMost (over_arc d i j k p q) (d p q)
  unfolding over_arc
  below_old p q = lesser_left (d p q) (plus (plus (d p i) k) (d j q))

  way : (p q : ℕ) → AtMost (new p q) (plus (plus (d p i) k) (d j q))
  unfolding over_arc
  way p q = lesser_right (d p q) (plus (plus (d p i) k) (d j q))

  pub arc_taken : AtMost (over_arc d i j k i j) k
  arc_taken = subst (AtMost (new i j)) (ap₂ (λ a b. plus (plus a k) b) (t.own i p') (t.own j q') ∙ plus-zero_right (plus (Some (pos 0)) k) ∙ plus_zero_left k) (way i j)

  -- round over the arc and back by any node isn't negative
  round_by : (p : ℕ) → p < n → IsFlat (plus (plus (d p i) k) (d j p))
  round_by p a =
      at_most_trans (Some (pos 0)) (plus k (d j i)) (plus (plus (d p i) k) (d j p)) round
      (turned (d p i) k (d j p) (d j i) (t.triangle j p i q' a p'))
    where
      turned : (a k b e : Bound) → AtMost e (plus b a) → AtMost (plus k e) (plus (plus a k) b)
      turned None k b e h = tt
      turned (Some a) None b e h = tt
      turned (Some a) (Some k) None e h = tt
      turned (Some a) (Some k) (Some b) None h = absurd h
      turned (Some a) (Some k) (Some b) (Some e) h = omega (arith, ints)

  own_new : (p : ℕ) → p < n → new p p ≡ Some (pos 0)
  unfolding over_arc
  own_new p a = ap (λ b. lesser b (plus (plus (d p i) k) (d j p))) (t.own p a) ∙ lesser_above (Some (pos 0)) _ (round_by p a)

  module _ (p r q : ℕ) (a : p < n) (b : r < n) (c : q < n) where
    through_old : AtMost (new p q) (plus (d p r) (d r q))
    through_old = at_most_trans (new p q) (d p q) (plus (d p r) (d r q)) (below_old p q) (t.triangle p r q a b c)

    second_over : AtMost (new p q) (plus (d p r) (plus (plus (d r i) k) (d j q)))
    second_over =
        at_most_trans (new p q) (plus (plus (d p i) k) (d j q)) (plus (d p r) (plus (plus (d r i) k) (d j q))) (way p q)
        (regroup (d p i) (d p r) (d r i) k (d j q) (t.triangle p r i a b p'))
      where
        regroup : (e x y k z : Bound) → AtMost e (plus x y) → AtMost (plus (plus e k) z) (plus x (plus (plus y k) z))
        regroup e x y k z h =
            rw (← plus_group x (plus y k) z, ← plus_group x y k)
            (plus_mono (plus e k) (plus (plus x y) k) z z (plus_mono e (plus x y) k k h (at_most_refl k)) (at_most_refl z))

    first_over : AtMost (new p q) (plus (plus (plus (d p i) k) (d j r)) (d r q))
    first_over =
        at_most_trans (new p q) (plus (plus (d p i) k) (d j q)) (plus (plus (plus (d p i) k) (d j r)) (d r q)) (way p q)
        (rw (plus_group (plus (d p i) k) (d j r) (d r q)) (plus_mono (plus (d p i) k) (plus (d p i) k) (d j q) (plus (d j r) (d r q)) (at_most_refl (plus (d p i) k)) (t.triangle j r q q' b c)))

    both_over : AtMost (new p q) (plus (plus (plus (d p i) k) (d j r)) (plus (plus (d r i) k) (d j q)))
    both_over =
        at_most_trans (new p q) (plus (plus (d p i) k) (d j q)) (plus (plus (plus (d p i) k) (d j r)) (plus (plus (d r i) k) (d j q))) (way p q)
        (regroup (plus (d p i) k) (d j r) (plus (d r i) k) (d j q) (rotated (d r i) k (d j r) (round_by r b)))
      where
        rotated : (x k y : Bound) → IsFlat (plus (plus x k) y) → IsFlat (plus y (plus x k))
        rotated None k None h = tt
        rotated None k (Some y) h = tt
        rotated (Some x) None None h = tt
        rotated (Some x) None (Some y) h = tt
        rotated (Some x) (Some k) None h = tt
        rotated (Some x) (Some k) (Some y) h = omega (arith, ints)

        regroup : (e x y z : Bound) → IsFlat (plus x y) → AtMost (plus e z) (plus (plus e x) (plus y z))
        regroup e x y z h =
            rw (plus_group e x (plus y z), ← plus_group x y z)
            (plus_mono e e z (plus (plus x y) z) (at_most_refl e)
            (subst (λ b. AtMost b (plus (plus x y) z)) (plus_zero_left z) (plus_mono (Some (pos 0)) (plus x y) z z h (at_most_refl z))))

    any_way : AtMost (new p q) (plus (new p r) (new r q))
    unfolding over_arc
    any_way =
        either_lesser (λ x. AtMost (new p q) (plus x (new r q))) (d p r) (plus (plus (d p i) k) (d j r))
        (either_lesser (λ y. AtMost (new p q) (plus (d p r) y)) (d r q) (plus (plus (d r i) k) (d j q)) through_old second_over)
        (either_lesser (λ y. AtMost (new p q) (plus (plus (plus (d p i) k) (d j r)) y)) (d r q) (plus (plus (d r i) k) (d j q)) first_over both_over)

  pub totals_new : Totals n (over_arc d i j k)
  totals_new = record { triangle = any_way; own = own_new }

-- ---- totals that are below all arcs of a table are below all walks

module _ (m : Table) (d : ℕ → ℕ → Bound) (t : Totals (nodes m) d) (below : (i j : ℕ) → i < nodes m → j < nodes m → AtMost (d i j) (entry m i j)) where
  under_walk : {k i j : ℕ} {x : ℤ} → i < nodes m → j < nodes m → Walk m k i j x → AtMost (d i j) (Some x)
  under_walk {i = i} p q stay = rw (t.own i p) (≤ℤ_refl (pos 0))
  under_walk {j = j} p q (go {i = i} {h} {x = x} {y} a b e w) =
      at_most_trans (d i j) (plus (d i h) (d h j)) (Some (x +ℤ y)) (t.triangle i h j p b q)
      (plus_mono (d i h) (Some x) (d h j) (Some y) (subst (AtMost (d i h)) e (below i h p b)) (under_walk b q w))

  under_shortest : (i j : ℕ) → i < nodes m → j < nodes m → AtMost (d i j) (entry (shortest m) i j)
  under_shortest i j p q = at_most_by_numbers (d i j) (entry (shortest m) i j) (λ x e. under_walk p q (reached_by_walk m 16 i j x p q e).2)

  level_by_totals : has_negative_walk (shortest m) ≡ false
  unfolding has_negative_walk
  level_by_totals =
      none_negative (nodes (shortest m)) (λ i. entry (shortest m) i i)
      (λ i p. let a : i < nodes m = rw (vars-walks m 16) at p in subst (λ b. AtMost b (entry (shortest m) i i)) (t.own i a) (under_shortest i i a a))

-- ---- a closed table with an arc and its twin

own_place : (i j : ℕ) → at_or_twin i j i j ≡ true
unfolding at_or_twin
own_place i j = or_left (i == i && j == j) (i == bar j && j == bar i) (and_from (i == i) (j == j) (eq-eqb i i refl) (eq-eqb j j refl))

twin_place : (i j : ℕ) → at_or_twin i j (bar j) (bar i) ≡ true
unfolding at_or_twin
twin_place i j =
    or_right (bar j == i && bar i == j) (bar j == bar j && bar i == bar i)
    (and_from (bar j == bar j) (bar i == bar i) (eq-eqb (bar j) (bar j) refl) (eq-eqb (bar i) (bar i) refl))

-- the place is one of the two
of_places : (i j p q : ℕ) (P : ℕ → ℕ → Type 0) → at_or_twin i j p q ≡ true → P i j → P (bar j) (bar i) → P p q
unfolding at_or_twin
of_places i j p q P e a b =
    elim (or_cases (p == i && q == j) (p == bar j && q == bar i) e) [
      | inl own ↦ (let t = and_parts (p == i) (q == j) own in subst₂ P (sym (eqb-true p i t.0)) (sym (eqb-true q j t.1)) a)
      | inr twin ↦ (let t = and_parts (p == bar j) (q == bar i) twin in subst₂ P (sym (eqb-true p (bar j) t.0)) (sym (eqb-true q (bar i) t.1)) b)
    ]

module _ (m : Table) (h : IsMatrix m) (c : IsClosed m) (i j : ℕ) (k : ℤ) (p' : i < nodes m) (q' : j < nodes m) (apart : i ≡ j → ⊥) where
  lowered : Table
  lowered = tightened m i j k

  first : ℕ → ℕ → Bound
  first = over_arc (entry m) i j (Some k)

  second : ℕ → ℕ → Bound
  second = over_arc first (bar j) (bar i) (Some k)

  old_totals : Totals (nodes m) (entry m)
  old_totals = record { triangle = c.triangle; own = h.diagonal }

  vars_lowered : lowered.vars ≡ m.vars
  unfolding lowered
  vars_lowered = vars-tightened m i j k

  entry_lowered : (p q : ℕ) → p < nodes m → q < nodes m → entry lowered p q ≡ cond (at_or_twin i j p q) (lesser (entry m p q) (Some k)) (entry m p q)
  unfolding lowered
  entry_lowered p q a b = tightened_entry m i j k p q a b

  is_lowered : (p q : ℕ) → p < nodes m → q < nodes m → at_or_twin i j p q ≡ true → entry lowered p q ≡ lesser (entry m p q) (Some k)
  is_lowered p q a b e = entry_lowered p q a b ∙ ap (λ t. cond t (lesser (entry m p q) (Some k)) (entry m p q)) e

  -- the least totals of the lowered table, where no walk back is negative
  module _ (level : has_negative_walk (shortest lowered) ≡ false) where
    s : ℕ → ℕ → Bound
    s p q = entry (shortest lowered) p q

    matrix' : IsMatrix lowered
    unfolding lowered
    matrix' = matrix-tightened m i j k h apart

    s_triangle : (p r q : ℕ) → p < nodes m → r < nodes m → q < nodes m → AtMost (s p q) (plus (s p r) (s r q))
    unfolding s
    s_triangle p r q a b d = walks_triangle lowered matrix' level p r q (rw vars_lowered a) (rw vars_lowered b) (rw vars_lowered d)

    s_arc : (p q : ℕ) → p < nodes m → q < nodes m → AtMost (s p q) (entry lowered p q)
    unfolding s
    s_arc p q a b = short_arc lowered p q (rw vars_lowered a) (rw vars_lowered b)

    s_old : (p q : ℕ) → p < nodes m → q < nodes m → AtMost (s p q) (entry m p q)
    s_old p q a b = at_most_trans (s p q) (entry lowered p q) (entry m p q) (s_arc p q a b) (rw (entry_lowered p q a b) (by (at_or_twin i j p q)))
      where
        by : (t : Bool) → AtMost (cond t (lesser (entry m p q) (Some k)) (entry m p q)) (entry m p q)
        by true = lesser_left (entry m p q) (Some k)
        by false = at_most_refl (entry m p q)

    s_new : (p q : ℕ) → p < nodes m → q < nodes m → at_or_twin i j p q ≡ true → AtMost (s p q) (Some k)
    s_new p q a b e = at_most_trans (s p q) (entry lowered p q) (Some k) (s_arc p q a b) (rw (is_lowered p q a b e) (lesser_right (entry m p q) (Some k)))

    s_over : (d : ℕ → ℕ → Bound) (x y : ℕ) → x < nodes m → y < nodes m → at_or_twin i j x y ≡ true → ((p q : ℕ) → p < nodes m → q < nodes m → AtMost (s p q) (d p q))
        → (p q : ℕ) → p < nodes m → q < nodes m → AtMost (s p q) (over_arc d x y (Some k) p q)
    unfolding over_arc
    s_over d x y a b e under p q a' b' =
        either_lesser (AtMost (s p q)) (d p q) (plus (plus (d p x) (Some k)) (d y q)) (under p q a' b')
        (at_most_trans (s p q) (plus (s p y) (s y q)) (plus (plus (d p x) (Some k)) (d y q)) (s_triangle p y q a' b b')
        (plus_mono (s p y) (plus (d p x) (Some k)) (s y q) (d y q)
        (at_most_trans (s p y) (plus (s p x) (s x y)) (plus (d p x) (Some k)) (s_triangle p x y a' a b) (plus_mono (s p x) (d p x) (s x y) (Some k) (under p x a' a) (s_new x y a b e)))
        (under y q b b')))

    -- so a way round over an arc isn't negative
    s_round : (d : ℕ → ℕ → Bound) (x y : ℕ) → x < nodes m → y < nodes m → at_or_twin i j x y ≡ true → ((p q : ℕ) → p < nodes m → q < nodes m → AtMost (s p q) (d p q)) → IsFlat (plus (Some k) (d y x))
    unfolding s
    s_round d x y a b e under =
        at_most_trans (Some (pos 0)) (s x x) (plus (Some k) (d y x)) (s_own x a)
        (at_most_trans (s x x) (plus (s x y) (s y x)) (plus (Some k) (d y x)) (s_triangle x y x a b a) (plus_mono (s x y) (Some k) (s y x) (d y x) (s_new x y a b e) (under y x b a)))
      where
        s_own : (x : ℕ) → x < nodes m → IsFlat (s x x)
        s_own x a = flat_at lowered matrix' level x (rw vars_lowered a)

    s_first : (p q : ℕ) → p < nodes m → q < nodes m → AtMost (s p q) (first p q)
    unfolding first
    s_first = s_over (entry m) i j p' q' (own_place i j) s_old

    s_second : (p q : ℕ) → p < nodes m → q < nodes m → AtMost (s p q) (second p q)
    unfolding second
    s_second = s_over first (bar j) (bar i) (bar_below j m.vars q') (bar_below i m.vars p') (twin_place i j) s_first

    round_first : IsFlat (plus (Some k) (entry m j i))
    round_first = s_round (entry m) i j p' q' (own_place i j) s_old

    round_second : IsFlat (plus (Some k) (first (bar i) (bar j)))
    round_second = s_round first (bar j) (bar i) (bar_below j m.vars q') (bar_below i m.vars p') (twin_place i j) s_first

  -- a way round that is negative is a walk back that is
  walk_first : is_negative (plus (Some k) (entry m j i)) ≡ true → has_negative_walk (shortest lowered) ≡ true
  walk_first e = true_from_ne_false _ (λ level. both_ways _ (test_from_flat _ (round_first level)) e)

  walk_second : is_negative (plus (Some k) (first (bar i) (bar j))) ≡ true → has_negative_walk (shortest lowered) ≡ true
  walk_second e = true_from_ne_false _ (λ level. both_ways _ (test_from_flat _ (round_second level)) e)

  -- where none is, the totals by the two arcs are the least ones
  module _ (flat_first : IsFlat (plus (Some k) (entry m j i))) (flat_second : IsFlat (plus (Some k) (first (bar i) (bar j)))) where
    first_totals : Totals (nodes m) first
    unfolding first
    first_totals = totals_new (nodes m) (entry m) old_totals i j (Some k) p' q' flat_first

    second_totals : Totals (nodes m) second
    unfolding second
    second_totals = totals_new (nodes m) first first_totals (bar j) (bar i) (Some k) (bar_below j m.vars q') (bar_below i m.vars p') flat_second

    second_old : (p q : ℕ) → AtMost (second p q) (first p q)
    unfolding second
    second_old p q = below_old (nodes m) first first_totals (bar j) (bar i) (Some k) (bar_below j m.vars q') (bar_below i m.vars p') flat_second p q

    first_old : (p q : ℕ) → AtMost (first p q) (entry m p q)
    unfolding first
    first_old p q = below_old (nodes m) (entry m) old_totals i j (Some k) p' q' flat_first p q

    own_arc : AtMost (second i j) (Some k)
    unfolding first
    own_arc = at_most_trans (second i j) (first i j) (Some k) (second_old i j) (arc_taken (nodes m) (entry m) old_totals i j (Some k) p' q' flat_first)

    twin_arc : AtMost (second (bar j) (bar i)) (Some k)
    unfolding second
    twin_arc = arc_taken (nodes m) first first_totals (bar j) (bar i) (Some k) (bar_below j m.vars q') (bar_below i m.vars p') flat_second

    under_arcs : (p q : ℕ) → p < nodes m → q < nodes m → AtMost (second p q) (entry lowered p q)
    under_arcs p q a b = rw (entry_lowered p q a b) (by (at_or_twin i j p q) refl)
      where
        old : AtMost (second p q) (entry m p q)
        old = at_most_trans (second p q) (first p q) (entry m p q) (second_old p q) (first_old p q)

        by : (t : Bool) → at_or_twin i j p q ≡ t → AtMost (second p q) (cond t (lesser (entry m p q) (Some k)) (entry m p q))
        by false e = old
        by true e = either_lesser (AtMost (second p q)) (entry m p q) (Some k) old (of_places i j p q (λ x y. AtMost (second x y) (Some k)) e own_arc twin_arc)

    level : has_negative_walk (shortest lowered) ≡ false
    level = level_by_totals lowered second (rw vars_lowered second_totals) (λ p q a b. under_arcs p q (rw vars_lowered at a) (rw vars_lowered at b))

    least : (p q : ℕ) → p < nodes m → q < nodes m → entry (shortest lowered) p q ≡ second p q
    unfolding s
    least p q a b =
        at_most_antisym (entry (shortest lowered) p q) (second p q) (s_second level p q a b)
        (under_shortest lowered second (rw vars_lowered second_totals) (λ p q a b. under_arcs p q (rw vars_lowered at a) (rw vars_lowered at b)) p q (rw vars_lowered a) (rw vars_lowered b))

-- ---- sizes, and what is stored then

pub summable_small : (b : Bound) → IsSmall b → IsSummable b
summable_small b h = λ z e. let k = h z e in omega arith

-- no number that the bound is exceeds the limit
abbrev pub AtMostSize : ℕ → Bound → Type 0
AtMostSize limit b = (z : ℤ) → b ≡ Some z → unsigned_abs z ≤ limit

sum_size : (a b : Bound) (s t : ℕ) → AtMostSize s a → AtMostSize t b → AtMostSize (s + t) (plus a b)
sum_size a b s t h k = λ z e.
    let parts = plus_parts a b z e in
    rw parts.4 (size_of_sum parts.0 parts.1 s t (h parts.0 parts.2) (k parts.1 parts.3))

-- a total over an arc is at most the sum of three sizes
pub over_size : (d : ℕ → ℕ → Bound) (i j : ℕ) (k : ℤ) (n s t : ℕ) → i < n → j < n → unsigned_abs k ≤ t → ((p q : ℕ) → p < n → q < n → AtMostSize s (d p q))
    → (p q : ℕ) → p < n → q < n → AtMostSize (s + t + s) (over_arc d i j (Some k) p q)
unfolding over_arc
over_size d i j k n s t a b size h p q p' q' =
    either_lesser (AtMostSize (s + t + s)) (d p q) (plus (plus (d p i) (Some k)) (d j q))
    (λ z e. let l = h p q p' q' z e in omega arith)
    (sum_size (plus (d p i) (Some k)) (d j q) (s + t) s (sum_size (d p i) (Some k) s t (h p i p' a) (λ z e. subst (λ x. unsigned_abs x ≤ t) (same_Some k z e) size)) (h j q b q'))

-- a table with these totals is that of the least ones
pub stored_least : (vars : ℕ) (xs : List ℤ) (m : Table) → m.vars ≡ vars → length xs ≡ 2 * vars * (2 * vars)
    → ((p q : ℕ) → p < nodes m → q < nodes m → entry (shortest m) p q ≡ shown_at xs (p * (2 * vars) + q)) → stored vars xs ≡ shortest m
stored_least vars xs m same whole h =
    let vars-same : (shortest m).vars ≡ vars = vars-walks m 16 ∙ same in
    stored_is vars xs (entry (shortest m)) whole (λ p q a b. sym (h p q (rw same a) (rw same b)))
    ∙ ap (λ v. table v (entry (shortest m))) (sym vars-same)
    ∙ sym (table_is (shortest m) (entry (shortest m)) (length-walks m 16) (λ i j a b. refl))

pub summable_over : (b : Bound) (k : ℤ) → IsSmall b → unsigned_abs k ≤ 2 ^ 100 → IsSummable (plus b (Some k))
summable_over b k h size = λ z e. let s = sum_size b (Some k) (2 ^ 102) (2 ^ 100) h (λ y f. subst (λ x. unsigned_abs x ≤ 2 ^ 100) (same_Some k y f) size) z e in omega arith

over_same : (d e : ℕ → ℕ → Bound) (n x y : ℕ) (k : Bound) → x < n → y < n → ((p q : ℕ) → p < n → q < n → d p q ≡ e p q) → (p q : ℕ) → p < n → q < n → over_arc d x y k p q ≡ over_arc e x y k p q
unfolding over_arc
over_same d e n x y k a b same p q p' q' = ap₂ lesser (same p q p' q') (ap₂ (λ u v. plus (plus u k) v) (same p x p' a) (same y q b q'))

-- what is stored after the arc, and after its twin
module _ (vars : ℕ) (xs ys zs : List ℤ) (i j : ℕ) (k : ℤ) (h : IsMatrix (stored vars xs)) (c : IsClosed (stored vars xs)) (p' : i < 2 * vars) (q' : j < 2 * vars) (apart : i ≡ j → ⊥) where
  abbrev pub at : List ℤ → ℕ → ℕ → Bound
  at ws p q = shown_at ws (p * (2 * vars) + q)

  -- the bounds of one list are those of the other with ways over an arc
  abbrev pub HasArc : (ws us : List ℤ) (from to : ℕ) → Type 0
  HasArc ws us from to = (p q : ℕ) → p < 2 * vars → q < 2 * vars → at us p q ≡ lesser (at ws p q) (plus (plus (at ws p from) (Some k)) (at ws to q))

  one : ℕ → ℕ → Bound
  unfolding stored
  one = first (stored vars xs) h c i j k p' q' apart

  two : ℕ → ℕ → Bound
  unfolding stored
  two = second (stored vars xs) h c i j k p' q' apart

  one_is : HasArc xs ys i j → (p q : ℕ) → p < 2 * vars → q < 2 * vars → at ys p q ≡ one p q
  unfolding one first over_arc stored
  one_is has p q a b = has p q a b ∙ sym (over_same (entry (stored vars xs)) (at xs) (2 * vars) i j (Some k) p' q' (λ p q a b. entry-stored vars xs p q) p q a b)

  two_is : HasArc xs ys i j → HasArc ys zs (bar j) (bar i) → (p q : ℕ) → p < 2 * vars → q < 2 * vars → at zs p q ≡ two p q
  unfolding one two second over_arc stored
  two_is has more p q a b = more p q a b ∙ over_same (at ys) one (2 * vars) (bar j) (bar i) (Some k) (bar_below j vars q') (bar_below i vars p') (one_is has) p q a b

  pub first_walk : is_negative (plus (Some k) (at xs j i)) ≡ true → has_negative_walk (shortest (tightened (stored vars xs) i j k)) ≡ true
  unfolding stored lowered
  first_walk e = walk_first (stored vars xs) h c i j k p' q' apart (ap (λ b. is_negative (plus (Some k) b)) (entry-stored vars xs j i) ∙ e)

  pub second_walk : HasArc xs ys i j → is_negative (plus (Some k) (at ys (bar i) (bar j))) ≡ true → has_negative_walk (shortest (tightened (stored vars xs) i j k)) ≡ true
  unfolding stored lowered one
  second_walk has e = walk_second (stored vars xs) h c i j k p' q' apart (ap (λ b. is_negative (plus (Some k) b)) (sym (one_is has (bar i) (bar j) (bar_below i vars p') (bar_below j vars q'))) ∙ e)

  module _ (has : HasArc xs ys i j) (clear : is_negative (plus (Some k) (at xs j i)) ≡ false) (clear' : is_negative (plus (Some k) (at ys (bar i) (bar j))) ≡ false) where
    flat : IsFlat (plus (Some k) (entry (stored vars xs) j i))
    flat = subst (λ b. IsFlat (plus (Some k) b)) (sym (entry-stored vars xs j i)) (flat_from_test _ clear)

    flat' : IsFlat (plus (Some k) (one (bar i) (bar j)))
    flat' = subst (λ b. IsFlat (plus (Some k) b)) (one_is has (bar i) (bar j) (bar_below i vars p') (bar_below j vars q')) (flat_from_test _ clear')

    pub none_back : has_negative_walk (shortest (tightened (stored vars xs) i j k)) ≡ false
    unfolding stored lowered one
    none_back = level (stored vars xs) h c i j k p' q' apart flat flat'

    pub totals_stored : HasArc ys zs (bar j) (bar i) → length zs ≡ 2 * vars * (2 * vars) → stored vars zs ≡ shortest (tightened (stored vars xs) i j k)
    unfolding stored lowered one two
    totals_stored more whole =
        stored_least vars zs (tightened (stored vars xs) i j k) (vars-tightened (stored vars xs) i j k) whole
        (λ p q a b.
        let a' : p < 2 * vars = rw (vars-tightened (stored vars xs) i j k) at a in
        let b' : q < 2 * vars = rw (vars-tightened (stored vars xs) i j k) at b in
        least (stored vars xs) h c i j k p' q' apart flat flat' p q a' b' ∙ sym (two_is has more p q a' b'))

-- how large what is stored is
pub stored_size : (vars : ℕ) (xs : List ℤ) (limit : ℕ) → IsWithin limit (stored vars xs) → (p q : ℕ) → p < 2 * vars → q < 2 * vars → AtMostSize limit (shown_at xs (p * (2 * vars) + q))
unfolding stored
stored_size vars xs limit h p q a b = λ z e. h p q z a b (entry-stored vars xs p q ∙ e)

-- and with an arc more
pub arc_sizes : (vars : ℕ) (xs ys : List ℤ) (from to : ℕ) (k : ℤ) (s : ℕ) → from < 2 * vars → to < 2 * vars → unsigned_abs k ≤ 2 ^ 100
    → ((p q : ℕ) → p < 2 * vars → q < 2 * vars → AtMostSize s (shown_at xs (p * (2 * vars) + q)))
    → ((p q : ℕ) → p < 2 * vars → q < 2 * vars → shown_at ys (p * (2 * vars) + q) ≡ lesser (shown_at xs (p * (2 * vars) + q)) (plus (plus (shown_at xs (p * (2 * vars) + from)) (Some k)) (shown_at xs (to * (2 * vars) + q))))
    → (p q : ℕ) → p < 2 * vars → q < 2 * vars → AtMostSize (s + 2 ^ 100 + s) (shown_at ys (p * (2 * vars) + q))
unfolding over_arc
arc_sizes vars xs ys from to k s a b size small has p q p' q' =
    subst (AtMostSize (s + 2 ^ 100 + s)) (sym (has p q p' q')) (over_size (λ p q. shown_at xs (p * (2 * vars) + q)) from to k (2 * vars) s (2 ^ 100) a b size small p q p' q')
