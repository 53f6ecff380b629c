-- What points lie in: that a closure keeps them, and what the other operations do to them.
use Rattle.std.proofs.Common.{◌≡◌, ◌≢◌, ℕ, zero, suc, ◌-◌, ◌*◌, ◌/◌, ◌%◌, ◌<◌, ◌==◌, ◌||◌, ◌&&◌, Bool, true, false, cond, ℤ, pos, neg_ℤ, ◌+ℤ◌, ◌-ℤ◌, ◌≤ℤ◌, Some, None, option_map, ◌⊎◌, ◌↔◌, inl, inr, ap, ap₂, sym, subst, subst₂, refl, ◌∙◌, arith}
use Rattle.std.proofs.lemmas.Bool.{cases_eq, cases_Bool, eq-eqb, ne_eqb, eqb-true, eqb-false, or_left, or_cases, or_parts, and_from, and_parts}
use Rattle.std.proofs.lemmas.Option.{none-some, same_Some}
use Rattle.std.proofs.lemmas.Int.{ints}
use Rattle.sa_dbm.specs.declared.closing.Closing.{Closing}
use Rattle.sa_dbm.specs.declared.closing.Closing.TheVariants.{Empty, Closed}
use Rattle.sa_dbm.specs.Bounds.{Bound, plus, lesser, greater, AtMost, half, even}
use Rattle.sa_dbm.specs.Tables.{Table, nodes, bar, entry, table, IsBelow, tightened, joined, forgotten, rise, shifted}
use Rattle.sa_dbm.specs.Walks.{Walk, stay, go}
use Rattle.sa_dbm.specs.Points.{Point, value, LiesIn, moved, with_value}
use Rattle.sa_dbm.specs.Closed.{shortest, has_negative_walk, rounded, has_contradiction, strengthened, tight_form, walked_form, closed_form, ClosesTo, KeepsPoints}
use Rattle.sa_numbers.proofs.Halves.{half-greatest}
use Rattle.sa_dbm.proofs.BoundLaws.{at_most_trans, lesser_left, lesser_right, lesser_greatest, greater_left, greater_right, plus_mono}
use Rattle.sa_dbm.proofs.TableLaws.{entry-table, vars-table, at_or_twin, bar_below, bar-half, bar-odd}
use Rattle.sa_dbm.proofs.WalkLaws.{one_arc, reached_by_walk, below_each_walk, at_most_by_numbers}
use Rattle.sa_dbm.proofs.Pivots.{none_negative, vars-walks}
use Rattle.sa_dbm.proofs.Strengthening.{rounded_unary, rounded_other, vars-rounded, below_half, above_half, strengthened_entry, vars-strengthened}

-- the difference that entry (i, j) bounds
abbrev pub between : Point → ℕ → ℕ → Bound
between p i j = Some (value p j -ℤ value p i)

pub value-bar : (p : Point) (i : ℕ) → value p (bar i) ≡ neg_ℤ (value p i)
unfolding value
value-bar p i = rw (bar-half i, bar-odd i) (turned (i % 2) (p (i / 2)) (omega arith))
  where
    turned : (r : ℕ) (z : ℤ) → r < 2 → cond (1 - r == 0) z (neg_ℤ z) ≡ neg_ℤ (cond (r == 0) z (neg_ℤ z))
    turned zero z h = refl
    turned (suc zero) z h = omega (arith, ints)
    turned (suc (suc r)) z h = absurd (omega arith)

below_walk : (p : Point) (m : Table) {a i j : ℕ} {t : ℤ} → LiesIn p m → Walk m a i j t → AtMost (between p i j) (Some t)
below_walk p m {i = i} l stay = omega (arith, ints)
below_walk p m l (go {i = i} {h} {j} {x} {y} r s e w) =
    let first = subst (AtMost (between p i h)) e (l i h r s) in
    let rest = below_walk p m l w in
    sum (value p i) (value p h) (value p j) x y first rest
  where
    sum : (u v w x y : ℤ) → (v -ℤ u) ≤ℤ x → (w -ℤ v) ≤ℤ y → (w -ℤ u) ≤ℤ (x +ℤ y)
    sum u v w x y h k = omega (arith, ints)

pub lies-shortest : (p : Point) (m : Table) → LiesIn p m → LiesIn p (shortest m)
lies-shortest p m l = λ i j q r.
    let a : i < nodes m = rw (vars-walks m 16) at q in
    let b : j < nodes m = rw (vars-walks m 16) at r in
    at_most_by_numbers (between p i j) (entry (shortest m) i j) (λ t e. below_walk p m l (reached_by_walk m 16 i j t a b e).2)

-- twice a node's value
opposite : (p : Point) (i : ℕ) → value p (bar i) -ℤ value p i ≡ neg_ℤ (value p i) +ℤ neg_ℤ (value p i)
opposite p i = rw (value-bar p i) (twice (value p i))
  where
    twice : (v : ℤ) → neg_ℤ v -ℤ v ≡ neg_ℤ v +ℤ neg_ℤ v
    twice v = omega (arith, ints)

-- a bound on a number's double, halved
pub below_halved : (v : ℤ) (b : Bound) → AtMost (Some (v +ℤ v)) b → AtMost (Some v) (half b)
below_halved v None h = tt
below_halved v (Some z) h = half-greatest v z h

below_rounded : (v : ℤ) (b : Bound) → AtMost (Some (v +ℤ v)) b → AtMost (Some (v +ℤ v)) (even b)
below_rounded v b h = let k = below_halved v b h in plus_mono (Some v) (half b) (Some v) (half b) k k

below_even : (p : Point) (i j : ℕ) (b : Bound) → j ≡ bar i → AtMost (between p i j) b → AtMost (between p i j) (even b)
below_even p i j b e h =
    let twice = ap (λ k. between p i k) e ∙ ap Some (opposite p i) in
    subst (λ d. AtMost d (even b)) (sym twice) (below_rounded (neg_ℤ (value p i)) b (subst (λ d. AtMost d b) twice h))

pub lies-rounded : (p : Point) (c : Table) → LiesIn p c → LiesIn p (rounded c)
lies-rounded p c l = λ i j q r. at i j (rw (vars-rounded c) at q) (rw (vars-rounded c) at r)
  where
    at : (i j : ℕ) → i < nodes c → j < nodes c → AtMost (between p i j) (entry (rounded c) i j)
    at i j q r =
        elim (cases_eq j (bar i)) [
          | inl e ↦ subst (AtMost (between p i j)) (sym (rounded_unary c i j q r e)) (below_even p i j (entry c i j) e (l i j q r))
          | inr n ↦ subst (AtMost (between p i j)) (sym (rounded_other c i j q r n)) (l i j q r)
        ]

-- a node's value is at most half of its bound from above, and its negation half of that from below
below_negated : (p : Point) (c : Table) (i : ℕ) → LiesIn p c → i < nodes c → AtMost (Some (neg_ℤ (value p i))) (below_half c i)
unfolding below_half
below_negated p c i l q =
    below_halved (neg_ℤ (value p i)) (entry c i (bar i)) (subst (λ d. AtMost d (entry c i (bar i))) (ap Some (opposite p i)) (l i (bar i) q (bar_below i c.vars q)))

below_own : (p : Point) (c : Table) (i : ℕ) → LiesIn p c → i < nodes c → AtMost (Some (value p i)) (above_half c i)
unfolding above_half
below_own p c i l q =
    below_halved (value p i) (entry c (bar i) i) (subst (λ d. AtMost d (entry c (bar i) i)) (ap Some (twice (value p i) (value p (bar i)) (value-bar p i))) (l (bar i) i (bar_below i c.vars q) q))
  where
    twice : (v w : ℤ) → w ≡ neg_ℤ v → v -ℤ w ≡ v +ℤ v
    twice v w e = omega (arith, ints)

pub lies-strengthened : (p : Point) (c : Table) → LiesIn p c → LiesIn p (strengthened (rounded c))
lies-strengthened p c l = λ i j q r. at i j (rw (vars-strengthened c) at q) (rw (vars-strengthened c) at r)
  where
    swapped : (v w : ℤ) → neg_ℤ v +ℤ w ≡ w -ℤ v
    swapped v w = omega (arith, ints)

    by_halves : (i j : ℕ) → i < nodes c → j < nodes c → AtMost (between p i j) (plus (below_half c i) (above_half c j))
    by_halves i j q r =
        subst (λ d. AtMost (Some d) (plus (below_half c i) (above_half c j))) (swapped (value p i) (value p j))
        (plus_mono (Some (neg_ℤ (value p i))) (below_half c i) (Some (value p j)) (above_half c j) (below_negated p c i l q) (below_own p c j l r))

    at : (i j : ℕ) → i < nodes c → j < nodes c → AtMost (between p i j) (entry (strengthened (rounded c)) i j)
    at i j q r =
        subst (AtMost (between p i j)) (sym (strengthened_entry c i j q r)) (lesser_greatest (between p i j) (entry c i j) _ (l i j q r) (by_halves i j q r))

-- a table in which a point lies has no negative walk back, and no contradiction
level : (p : Point) (c : Table) → LiesIn p c → has_negative_walk c ≡ false
unfolding has_negative_walk
level p c l = none_negative (nodes c) (λ i. entry c i i) (λ i q. subst (λ d. AtMost (Some d) (entry c i i)) (none (value p i)) (l i i q q))
  where
    none : (v : ℤ) → v -ℤ v ≡ pos 0
    none v = omega (arith, ints)

agreed : (p : Point) (r : Table) → LiesIn p r → has_contradiction r ≡ false
unfolding has_contradiction
agreed p r l =
    none_negative (nodes r) (λ i. plus (entry r i (bar i)) (entry r (bar i) i))
    (λ i q. subst (λ d. AtMost (Some d) (plus (entry r i (bar i)) (entry r (bar i) i))) (none (value p i) (value p (bar i)))
    (plus_mono (between p i (bar i)) (entry r i (bar i)) (between p (bar i) i) (entry r (bar i) i) (l i (bar i) q (bar_below i r.vars q)) (l (bar i) i (bar_below i r.vars q) q)))
  where
    none : (v w : ℤ) → (w -ℤ v) +ℤ (v -ℤ w) ≡ pos 0
    none v w = omega (arith, ints)

-- the closed form, by its two tests
pub closed-negative : (m : Table) → has_negative_walk (shortest m) ≡ true → closed_form m ≡ None
unfolding closed_form walked_form
closed-negative m e = rw e refl

pub closed-contradiction : (m : Table) → has_negative_walk (shortest m) ≡ false → has_contradiction (rounded (shortest m)) ≡ true → closed_form m ≡ None
unfolding closed_form walked_form tight_form
closed-contradiction m e f = rw (e, f) refl

pub closed-strengthened : (m : Table) → has_negative_walk (shortest m) ≡ false → has_contradiction (rounded (shortest m)) ≡ false → closed_form m ≡ Some (strengthened (rounded (shortest m)))
unfolding closed_form walked_form tight_form
closed-strengthened m e f = rw (e, f) refl

-- where the closed form isn't empty, both tests failed
pub closed_parts : (m after : Table) → closed_form m ≡ Some after
    → (has_negative_walk (shortest m) ≡ false) × (has_contradiction (rounded (shortest m)) ≡ false) × (strengthened (rounded (shortest m)) ≡ after)
closed_parts m after e =
    elim (cases_Bool (has_negative_walk (shortest m))) [
      | inl walk ↦ absurd (none-some after (sym (closed-negative m walk) ∙ e))
      | inr none ↦ elim (cases_Bool (has_contradiction (rounded (shortest m)))) [
        | inl found ↦ absurd (none-some after (sym (closed-contradiction m none found) ∙ e))
        | inr clear ↦ (none, clear, same_Some _ after (sym (closed-strengthened m none clear) ∙ e))
      ]
    ]

pub vars-closed : (m : Table) → (strengthened (rounded (shortest m))).vars ≡ m.vars
vars-closed m = vars-strengthened (shortest m) ∙ vars-walks m 16

pub closed_of_point : (p : Point) (m : Table) → LiesIn p m → closed_form m ≡ Some (strengthened (rounded (shortest m)))
closed_of_point p m l =
    let c = lies-shortest p m l in
    closed-strengthened m (level p (shortest m) c) (agreed p (rounded (shortest m)) (lies-rounded p (shortest m) c))

-- a point of a table lies in each one above it
pub lies_above : (p : Point) (m o : Table) → o.vars ≡ m.vars → IsBelow m o → LiesIn p m → LiesIn p o
lies_above p m o vars below l = λ i j q r.
    let a : i < nodes m = rw vars at q in
    let b : j < nodes m = rw vars at r in
    at_most_trans (between p i j) (entry m i j) (entry o i j) (l i j a b) (below i j a b)

-- the closed form is below the matrix
pub closed_below : (m : Table) → IsBelow (strengthened (rounded (shortest m))) m
closed_below m = λ i j q r.
    let c = shortest m in
    let a : i < nodes c = rw (vars-strengthened c) at q in
    let b : j < nodes c = rw (vars-strengthened c) at r in
    let d : i < nodes m = rw (vars-walks m 16) at a in
    let e : j < nodes m = rw (vars-walks m 16) at b in
    rw (strengthened_entry c i j a b)
    (at_most_trans _ (entry c i j) (entry m i j) (lesser_left (entry c i j) (plus (below_half c i) (above_half c j)))
    (at_most_by_numbers (entry c i j) (entry m i j) (λ t f. below_each_walk m 16 (omega arith) d e (one_arc m i j t d e f))))

-- a closure loses no point, and wins none
pub points_kept : (m : Table) (answer : Closing) (after : Table) → ClosesTo m answer after → KeepsPoints m answer after
points_kept m Empty after e = λ p l. none-some _ (sym e ∙ closed_of_point p m l)
points_kept m Closed after e = λ p. (λ l. kept p l, λ l. won p l)
  where
    kept : (p : Point) → LiesIn p m → LiesIn p after
    kept p l =
        let c = shortest m in
        subst (LiesIn p) (same_Some _ after (sym (closed_of_point p m l) ∙ e)) (lies-strengthened p c (lies-shortest p m l))

    won : (p : Point) → LiesIn p after → LiesIn p m
    won p l =
        let parts = closed_parts m after e in
        lies_above p (strengthened (rounded (shortest m))) m (sym (vars-closed m)) (closed_below m) (subst (LiesIn p) (sym parts.2) l)

-- ---- the other operations

lies_in_table : (p : Point) (vars : ℕ) (f : ℕ → ℕ → Bound) → ((i j : ℕ) → i < 2 * vars → j < 2 * vars → AtMost (between p i j) (f i j)) → LiesIn p (table vars f)
lies_in_table p vars f h = λ i j q r. at i j (rw (vars-table vars f) at q) (rw (vars-table vars f) at r)
  where
    at : (i j : ℕ) → i < 2 * vars → j < 2 * vars → AtMost (between p i j) (entry (table vars f) i j)
    at i j q r = subst (AtMost (between p i j)) (sym (entry-table vars f i j q r)) (h i j q r)

of_table : (p : Point) (vars : ℕ) (f : ℕ → ℕ → Bound) → LiesIn p (table vars f) → (i j : ℕ) → i < 2 * vars → j < 2 * vars → AtMost (between p i j) (f i j)
of_table p vars f l i j q r = subst (AtMost (between p i j)) (entry-table vars f i j q r) (l i j (rw (vars-table vars f) q) (rw (vars-table vars f) r))

-- a lowered entry holds of exactly the points that meet the new bound
module _ (m : Table) (i j : ℕ) (c : ℤ) (inside : i < nodes m) (within : j < nodes m) (p : Point) where
  new : ℕ → ℕ → Bound
  new a b = cond (at_or_twin i j a b) (lesser (entry m a b) (Some c)) (entry m a b)

  tightened_meets : LiesIn p (tightened m i j c) → LiesIn p m × ((value p j -ℤ value p i) ≤ℤ c)
  unfolding tightened at_or_twin new
  tightened_meets l = (λ a b q r. old (at_or_twin i j a b) (entry m a b) (between p a b) (of_table p m.vars new l a b q r), here)
    where
      own : at_or_twin i j i j ≡ true
      own = or_left (i == i && j == j) (i == bar j && j == bar i) (and_from (i == i) (j == j) (eq-eqb i i refl) (eq-eqb j j refl))

      here : (value p j -ℤ value p i) ≤ℤ c
      here =
          at_most_trans (between p i j) (lesser (entry m i j) (Some c)) (Some c)
          (subst (λ t. AtMost (between p i j) (cond t (lesser (entry m i j) (Some c)) (entry m i j))) own (of_table p m.vars new l i j inside within))
          (lesser_right (entry m i j) (Some c))

      old : (t : Bool) (e d : Bound) → AtMost d (cond t (lesser e (Some c)) e) → AtMost d e
      old true e d h = at_most_trans d (lesser e (Some c)) e h (lesser_left e (Some c))
      old false e d h = h

  meets_tightened : LiesIn p m → (value p j -ℤ value p i) ≤ℤ c → LiesIn p (tightened m i j c)
  unfolding tightened at_or_twin new
  meets_tightened l h = lies_in_table p m.vars new (λ a b q r. at a b (l a b q r) (at_or_twin i j a b) refl)
    where
      turned : (u v w x : ℤ) → w ≡ neg_ℤ u → x ≡ neg_ℤ v → (v -ℤ u) ≤ℤ c → (w -ℤ x) ≤ℤ c
      turned u v w x e f k = omega (arith, ints)

      met : (a b : ℕ) → at_or_twin i j a b ≡ true → AtMost (between p a b) (Some c)
      met a b e =
          elim (or_cases (a == i && b == j) (a == bar j && b == bar i) e) [
            | inl own ↦ (let t = and_parts (a == i) (b == j) own in subst₂ (λ x y. AtMost (between p x y) (Some c)) (sym (eqb-true a i t.0)) (sym (eqb-true b j t.1)) h)
            | inr twin ↦
                (let t = and_parts (a == bar j) (b == bar i) twin in
                turned (value p i) (value p j) (value p b) (value p a) (ap (value p) (eqb-true b (bar i) t.1) ∙ value-bar p i) (ap (value p) (eqb-true a (bar j) t.0) ∙ value-bar p j) h)
          ]

      at : (a b : ℕ) → AtMost (between p a b) (entry m a b) → (t : Bool) → at_or_twin i j a b ≡ t → AtMost (between p a b) (new a b)
      at a b k true e = rw e (lesser_greatest (between p a b) (entry m a b) (Some c) k (met a b e))
      at a b k false e = rw e k

pub points_tightened : (m : Table) (i j : ℕ) (c : ℤ) → i < nodes m → j < nodes m → (p : Point) → LiesIn p (tightened m i j c) ↔ (LiesIn p m × ((value p j -ℤ value p i) ≤ℤ c))
points_tightened m i j c q r p = (tightened_meets m i j c q r p, λ h. meets_tightened m i j c q r p h.0 h.1)

pub points_joined : (m o : Table) → m.vars ≡ o.vars → (p : Point) → LiesIn p m ⊎ LiesIn p o → LiesIn p (joined m o)
unfolding joined
points_joined m o vars p (inl l) = lies_in_table p m.vars (λ i j. greater (entry m i j) (entry o i j)) (λ i j q r. at_most_trans (between p i j) (entry m i j) _ (l i j q r) (greater_left (entry m i j) (entry o i j)))
points_joined m o vars p (inr l) = lies_in_table p m.vars (λ i j. greater (entry m i j) (entry o i j)) (λ i j q r. at_most_trans (between p i j) (entry o i j) _ (l i j (rw (← vars) q) (rw (← vars) r)) (greater_right (entry m i j) (entry o i j)))

pub value_elsewhere : (p : Point) (var : ℕ) (z : ℤ) (i : ℕ) → i / 2 ≢ var → value (with_value p var z) i ≡ value p i
unfolding value
value_elsewhere p var z i n = ap (λ y. cond (i % 2 == 0) y (neg_ℤ y)) (ap (λ t. cond t z (p (i / 2))) (ne_eqb (i / 2) var n))

pub points_forgotten : (m : Table) (var : ℕ) (p : Point) (z : ℤ) → LiesIn p m → LiesIn (with_value p var z) (forgotten m var)
unfolding forgotten
points_forgotten m var p z l = lies_in_table (with_value p var z) m.vars (λ i j. cond (i == j) (entry m i j) (cond (i / 2 == var || j / 2 == var) None (entry m i j))) (λ i j q r. at i j (l i j q r) (i == j) refl (i / 2 == var || j / 2 == var) refl)
  where
    same_level : (v w : ℤ) → v -ℤ v ≡ w -ℤ w
    same_level v w = omega (arith, ints)

    at : (i j : ℕ) → AtMost (between p i j) (entry m i j) → (s : Bool) → (i == j) ≡ s → (t : Bool) → (i / 2 == var || j / 2 == var) ≡ t
        → AtMost (between (with_value p var z) i j) (cond s (entry m i j) (cond t None (entry m i j)))
    at i j k true e t f =
        let same = eqb-true i j e in
        let q = with_value p var z in
        subst (λ d. AtMost d (entry m i j))
        (ap (between p i) (sym same) ∙ ap Some (same_level (value p i) (value q i)) ∙ ap (between q i) same) k
    at i j k false e true f = tt
    at i j k false e false f =
        let apart = or_parts (i / 2 == var) (j / 2 == var) f in
        subst (λ d. AtMost d (entry m i j))
        (sym (ap₂ (λ v w. Some (w -ℤ v)) (value_elsewhere p var z i (eqb-false (i / 2) var apart.0)) (value_elsewhere p var z j (eqb-false (j / 2) var apart.1)))) k

value-moved : (p : Point) (var : ℕ) (c : ℤ) (i : ℕ) → value (moved p var c) i ≡ value p i +ℤ rise var c i
unfolding value rise
value-moved p var c i = by_tests (i / 2 == var) (i % 2 == 0) (p (i / 2))
  where
    by_tests : (t u : Bool) (z : ℤ) → cond u (cond t (z +ℤ c) z) (neg_ℤ (cond t (z +ℤ c) z)) ≡ cond u z (neg_ℤ z) +ℤ cond t (cond u c (neg_ℤ c)) (pos 0)
    by_tests true true z = refl
    by_tests true false z = omega (arith, ints)
    by_tests false true z = omega (arith, ints)
    by_tests false false z = omega (arith, ints)

-- a bound that moves as the difference that it bounds does
module _ (u v w x r s : ℤ) (first : w ≡ u +ℤ r) (second : x ≡ v +ℤ s) where
  moves : (b : Bound) → AtMost (Some (v -ℤ u)) b → AtMost (Some (x -ℤ w)) (option_map (λ z. z +ℤ (s -ℤ r)) b)
  moves None h = tt
  moves (Some z) h = omega (arith, ints)

  moves_back : (b : Bound) → AtMost (Some (x -ℤ w)) (option_map (λ z. z +ℤ (s -ℤ r)) b) → AtMost (Some (v -ℤ u)) b
  moves_back None h = tt
  moves_back (Some z) h = omega (arith, ints)

pub points_shifted : (m : Table) (var : ℕ) (c : ℤ) (p : Point) → LiesIn p m ↔ LiesIn (moved p var c) (shifted m var c)
unfolding shifted
points_shifted m var c p = (
  λ l. lies_in_table (moved p var c) m.vars new (λ i j q r.
      moves (value p i) (value p j) (value (moved p var c) i) (value (moved p var c) j) (rise var c i) (rise var c j) (value-moved p var c i) (value-moved p var c j) (entry m i j) (l i j q r)),
  λ l i j q r.
      moves_back (value p i) (value p j) (value (moved p var c) i) (value (moved p var c) j) (rise var c i) (rise var c j) (value-moved p var c i) (value-moved p var c j) (entry m i j)
      (of_table (moved p var c) m.vars new l i j q r),
)
  where
    new : ℕ → ℕ → Bound
    new i j = option_map (λ z. z +ℤ (rise var c j -ℤ rise var c i)) (entry m i j)
