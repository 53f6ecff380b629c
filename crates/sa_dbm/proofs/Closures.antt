-- What a closed form obeys, and that a table that obeys it is its own closed form.
use Rattle.std.proofs.Common.{◌≡◌, ℕ, ◌*◌, ◌<◌, ◌≤◌, not, Bool, true, false, ℤ, pos, negsuc, ◌+ℤ◌, ◌≤ℤ◌, unsigned_abs, Some, None, ◌⊎◌, inl, inr, ap, ap₂, sym, subst, refl, ◌∙◌, arith}
use Rattle.std.specs.Int.{int_max, int_shr}
use Rattle.std.proofs.lemmas.Int.{ints, clamps}
use Rattle.sa_dbm.specs.Bounds.{Bound, plus, lesser, greater, AtMost, half, even, IsFlat}
use Rattle.sa_dbm.specs.Tables.{Table, nodes, bar, entry, IsMatrix, IsWithin, IsBelow, joined}
use Rattle.sa_dbm.specs.Walks.{Walk, stay, go}
use Rattle.sa_dbm.specs.Closed.{shortest, has_negative_walk, rounded, has_contradiction, strengthened, closed_form, IsBounded, IsClosed, ClosesTo, LeavesClosed, LeavesTop, LeavesTight, KeepsLimits}
use Rattle.sa_dbm.specs.declared.closing.Closing.{Closing}
use Rattle.sa_dbm.specs.declared.closing.Closing.TheVariants.{Empty, Closed}
use Rattle.sa_numbers.proofs.Halves.{even_below-low, even_below-near, half-monotone}
use Rattle.sa_numbers.proofs.Order.{≤ℤ_refl}
use Rattle.sa_dbm.proofs.BoundLaws.{at_most_refl, at_most_trans, at_most_antisym, lesser_left, lesser_right, lesser_is_one, lesser_above, lesser_below, greater_left, greater_right, plus_mono, plus_group, plus_swap, plus_parts, plus_zero_left, half-even, even_below, flat_doubled, flat_halved}
use Rattle.sa_dbm.proofs.TableLaws.{entry-table, same_tables, bar_bar, bar_below, matrix-joined, vars-joined}
use Rattle.sa_dbm.proofs.WalkLaws.{one_arc, joined_walks, reached_by_walk, below_each_walk, at_most_by_numbers, twin_totals, NoDescent, below_every_walk}
use Rattle.sa_dbm.proofs.Pivots.{none_negative, none_negative_at, vars-walks, length-walks}
use Rattle.sa_dbm.proofs.Strengthening.{below_half, above_half, strengthened_entry, strengthened_is, vars-strengthened, vars-rounded, no_contradiction, unary_sum}
use Rattle.sa_dbm.proofs.ClosedLaws.{matrix-closed, within_closed, false_of, true_of}
use Rattle.sa_dbm.proofs.Sizes.{within-top}
use Rattle.sa_dbm.proofs.Soundness.{closed-strengthened, closed-contradiction, closed_parts, closed_below, vars-closed}

-- ---- halves and the greater of two

pub half_mono : (a b : Bound) → AtMost a b → AtMost (half a) (half b)
half_mono a None h = tt
half_mono None (Some y) h = absurd h
half_mono (Some x) (Some y) h = half-monotone x y h

half_of_sum : (x y : ℤ) → int_shr (x +ℤ (y +ℤ x)) 1 ≡ x +ℤ int_shr y 1
half_of_sum x y =
    let low = even_below-low (x +ℤ (y +ℤ x)) in
    let near = even_below-near (x +ℤ (y +ℤ x)) in
    let low' = even_below-low y in
    let near' = even_below-near y in
    omega (arith, ints)

-- half of a sum in which one bound stands twice
pub half-twice : (a b : Bound) → half (plus a (plus b a)) ≡ plus a (half b)
half-twice None b = refl
half-twice (Some x) None = refl
half-twice (Some x) (Some y) = ap Some (half_of_sum x y)

pub greater_least : (a b c : Bound) → AtMost a c → AtMost b c → AtMost (greater a b) c
greater_least a b None h k = tt
greater_least None b (Some z) h k = absurd h
greater_least (Some x) None (Some z) h k = absurd k
greater_least (Some x) (Some y) (Some z) h k = omega (arith, ints, clamps)

pub greater_is_one : (a b : Bound) → (greater a b ≡ a) ⊎ (greater a b ≡ b)
greater_is_one None b = inl refl
greater_is_one (Some x) None = inr refl
greater_is_one (Some x) (Some y) = max_is_one x y
  where
    max_is_one : (x y : ℤ) → (Some (int_max x y) ≡ Some x) ⊎ (Some (int_max x y) ≡ Some y)
    max_is_one x y = grind arith

pub either_lesser : (P : Bound → Type 0) (a b : Bound) → P a → P b → P (lesser a b)
either_lesser P a b p q = elim (lesser_is_one a b) [ inl e ↦ subst P (sym e) p | inr e ↦ subst P (sym e) q ]

-- a least total is at most the arc
pub short_arc : (m : Table) (i j : ℕ) → i < nodes m → j < nodes m → AtMost (entry (shortest m) i j) (entry m i j)
short_arc m i j a b = at_most_by_numbers (entry (shortest m) i j) (entry m i j) (λ t e. below_each_walk m 16 (omega arith) a b (one_arc m i j t a b e))

-- ---- a table that obeys the rules is its own closed form

-- all that a closed form obeys
pub record Rules (m : Table) : Type 0 where
  pub matrix : IsMatrix m
  pub triangle : (i k j : ℕ) → i < nodes m → k < nodes m → j < nodes m → AtMost (entry m i j) (plus (entry m i k) (entry m k j))
  pub evens : (i : ℕ) → i < nodes m → even (entry m i (bar i)) ≡ entry m i (bar i)
  pub agree : (i : ℕ) → i < nodes m → IsFlat (plus (entry m i (bar i)) (entry m (bar i) i))
  pub strong : (i j : ℕ) → i < nodes m → j < nodes m → AtMost (entry m i j) (plus (half (entry m i (bar i))) (half (entry m (bar j) j)))

module _ (m : Table) (r : Rules m) where
  below_walk : {k i j : ℕ} {t : ℤ} → i < nodes m → j < nodes m → Walk m k i j t → AtMost (entry m i j) (Some t)
  below_walk {i = i} p q stay = rw (r.matrix.diagonal i p) (≤ℤ_refl (pos 0))
  below_walk {j = j} p q (go {i = i} {h} {x = x} {y} a b e w) =
      at_most_trans (entry m i j) (plus (entry m i h) (entry m h j)) (Some (x +ℤ y)) (r.triangle i h j p b q)
      (plus_mono (entry m i h) (Some x) (entry m h j) (Some y) (rw e (≤ℤ_refl x)) (below_walk b q w))

  own_shortest : shortest m ≡ m
  own_shortest =
      same_tables (shortest m) m (vars-walks m 16) (length-walks m 16) r.matrix.whole
      (λ i j p q.
      let a : i < nodes m = rw (vars-walks m 16) at p in
      let b : j < nodes m = rw (vars-walks m 16) at q in
      at_most_antisym (entry (shortest m) i j) (entry m i j)
      (short_arc m i j a b)
      (at_most_by_numbers (entry m i j) (entry (shortest m) i j) (λ t e. below_walk a b (reached_by_walk m 16 i j t a b e).2)))

  no_walk_back : has_negative_walk m ≡ false
  unfolding has_negative_walk
  no_walk_back = none_negative (nodes m) (λ i. entry m i i) (λ i p. rw (r.matrix.diagonal i p) (≤ℤ_refl (pos 0)))

  all_agree : has_contradiction (rounded m) ≡ false
  unfolding below_half above_half
  all_agree =
      no_contradiction m (λ i p.
      flat_halved (half (entry m i (bar i))) (half (entry m (bar i) i))
      (subst IsFlat (ap₂ plus (sym (r.evens i p)) (sym (opposite i p))) (r.agree i p)))
    where
      opposite : (i : ℕ) → i < nodes m → even (entry m (bar i) i) ≡ entry m (bar i) i
      opposite i p = subst (λ k. even (entry m (bar i) k) ≡ entry m (bar i) k) (bar_bar i) (r.evens (bar i) (bar_below i m.vars p))

  pub own_closed_form : closed_form m ≡ Some m
  unfolding below_half above_half
  own_closed_form =
      closed-strengthened m (ap has_negative_walk own_shortest ∙ no_walk_back) (ap (λ t. has_contradiction (rounded t)) own_shortest ∙ all_agree)
      ∙ ap (λ t. Some (strengthened (rounded t))) own_shortest
      ∙ ap Some (sym (strengthened_is m m refl r.matrix.whole (λ i j p q. sym (lesser_above (entry m i j) _ (r.strong i j p q)))))

  pub closed_by_rules : IsClosed m
  closed_by_rules = record { stays = own_closed_form; triangle = r.triangle; evens = r.evens; agree = r.agree; strong = r.strong }

-- ---- the closed form obeys them

module _ (m : Table) (h : IsMatrix m) (level : has_negative_walk (shortest m) ≡ false) where
  pub flat_at : (l : ℕ) → l < nodes m → IsFlat (entry (shortest m) l l)
  unfolding has_negative_walk
  flat_at l q = none_negative_at _ (λ i. entry (shortest m) i i) level l (subst (λ v. l < 2 * v) (sym (vars-walks m 16)) q)

  flat_walks : NoDescent m
  flat_walks l a t q c w = at_most_trans (Some (pos 0)) (entry (shortest m) l l) (Some t) (flat_at l q) (below_each_walk m 16 c q q w)

  pub walks_triangle : (i k j : ℕ) → i < nodes m → k < nodes m → j < nodes m → AtMost (entry (shortest m) i j) (plus (entry (shortest m) i k) (entry (shortest m) k j))
  walks_triangle i k j p q r =
      at_most_by_numbers (entry (shortest m) i j) (plus (entry (shortest m) i k) (entry (shortest m) k j)) (λ t e.
      let parts = plus_parts (entry (shortest m) i k) (entry (shortest m) k j) t e in
      let to = reached_by_walk m 16 i k parts.0 p q parts.2 in
      let from = reached_by_walk m 16 k j parts.1 q r parts.3 in
      rw parts.4 (below_every_walk m h.few flat_walks p r (joined_walks to.2 from.2)))

  module _ (agreed : has_contradiction (rounded (shortest m)) ≡ false) where
    s : ℕ → ℕ → Bound
    s i j = entry (shortest m) i j

    low : ℕ → Bound
    low i = below_half (shortest m) i

    high : ℕ → Bound
    high i = above_half (shortest m) i

    walks_twin : (i j : ℕ) → i < nodes m → j < nodes m → s (bar j) (bar i) ≡ s i j
    unfolding s
    walks_twin i j p q = sym (twin_totals m 16 i j h p q)

    -- a half bound is at most that of another node and the way there
    low_step : (i k : ℕ) → i < nodes m → k < nodes m → AtMost (low i) (plus (s i k) (low k))
    unfolding low s below_half
    low_step i k p q =
        let p' = bar_below i m.vars p in
        let q' = bar_below k m.vars q in
        let first : AtMost (s i (bar i)) (plus (s i k) (s k (bar i))) = walks_triangle i k (bar i) p q p' in
        let second : AtMost (s k (bar i)) (plus (s k (bar k)) (s (bar k) (bar i))) = walks_triangle k (bar k) (bar i) q q' p' in
        let both = at_most_trans (s i (bar i)) (plus (s i k) (s k (bar i))) (plus (s i k) (plus (s k (bar k)) (s (bar k) (bar i)))) first
        (plus_mono (s i k) (s i k) (s k (bar i)) (plus (s k (bar k)) (s (bar k) (bar i))) (at_most_refl (s i k)) second) in
        let turned : AtMost (s i (bar i)) (plus (s i k) (plus (s k (bar k)) (s i k))) = subst (λ b. AtMost (s i (bar i)) (plus (s i k) (plus (s k (bar k)) b))) (walks_twin i k p q) both in
        subst (AtMost (half (s i (bar i)))) (half-twice (s i k) (s k (bar k))) (half_mono _ _ turned)

    high_step : (k j : ℕ) → k < nodes m → j < nodes m → AtMost (high j) (plus (high k) (s k j))
    unfolding high low s below_half above_half
    high_step k j q r =
        let q' = bar_below k m.vars q in
        let r' = bar_below j m.vars r in
        let one = low_step (bar j) (bar k) r' q' in
        let as_low : AtMost (high j) (plus (s (bar j) (bar k)) (high k)) = rw (bar_bar j, bar_bar k) at one in
        subst (AtMost (high j)) (ap (λ b. plus b (high k)) (walks_twin k j q r) ∙ plus_swap (s k j) (high k)) as_low

    halves_agree : (i : ℕ) → i < nodes m → IsFlat (plus (low i) (high i))
    unfolding low high has_contradiction
    halves_agree i p =
        let c = shortest m in
        let r = rounded c in
        let inside : i < nodes c = rw (vars-walks m 16) p in
        flat_halved (below_half c i) (above_half c i)
        (subst IsFlat (unary_sum c i inside) (none_negative_at (nodes r) (λ i. plus (entry r i (bar i)) (entry r (bar i) i)) agreed i (rw (vars-rounded c) inside)))

    c : Table
    c = strengthened (rounded (shortest m))

    entry_is : (i j : ℕ) → i < nodes m → j < nodes m → entry c i j ≡ lesser (s i j) (plus (low i) (high j))
    unfolding c s low high
    entry_is i j p q = strengthened_entry (shortest m) i j (rw (vars-walks m 16) p) (rw (vars-walks m 16) q)

    -- the four ways by node k
    module _ (i k j : ℕ) (p : i < nodes m) (q : k < nodes m) (r : j < nodes m) where
      new : Bound
      new = lesser (s i j) (plus (low i) (high j))

      by_halves : (b : Bound) → AtMost (plus (low i) (high j)) b → AtMost new b
      unfolding new
      by_halves b l = at_most_trans new (plus (low i) (high j)) b (lesser_right (s i j) (plus (low i) (high j))) l

      by_walks : AtMost new (plus (s i k) (s k j))
      unfolding new s
      by_walks = at_most_trans new (s i j) _ (lesser_left (s i j) (plus (low i) (high j))) (walks_triangle i k j p q r)

      walk_first : AtMost new (plus (s i k) (plus (low k) (high j)))
      walk_first = by_halves _ (rw (← plus_group (s i k) (low k) (high j)) (plus_mono (low i) (plus (s i k) (low k)) (high j) (high j) (low_step i k p q) (at_most_refl (high j))))

      walk_second : AtMost new (plus (plus (low i) (high k)) (s k j))
      walk_second = by_halves _ (rw (plus_group (low i) (high k) (s k j)) (plus_mono (low i) (low i) (high j) (plus (high k) (s k j)) (at_most_refl (low i)) (high_step k j q r)))

      no_walk : AtMost new (plus (plus (low i) (high k)) (plus (low k) (high j)))
      no_walk =
          by_halves _ (rw (plus_group (low i) (high k) (plus (low k) (high j)), ← plus_group (high k) (low k) (high j))
          (plus_mono (low i) (low i) (high j) (plus (plus (high k) (low k)) (high j)) (at_most_refl (low i))
          (subst (λ b. AtMost b (plus (plus (high k) (low k)) (high j))) (plus_zero_left (high j))
          (plus_mono (Some (pos 0)) (plus (high k) (low k)) (high j) (high j) (subst IsFlat (plus_swap (low k) (high k)) (halves_agree k q)) (at_most_refl (high j))))))

      any_way : AtMost new (plus (lesser (s i k) (plus (low i) (high k))) (lesser (s k j) (plus (low k) (high j))))
      any_way =
          either_lesser (λ a. AtMost new (plus a (lesser (s k j) (plus (low k) (high j))))) (s i k) (plus (low i) (high k))
          (either_lesser (λ b. AtMost new (plus (s i k) b)) (s k j) (plus (low k) (high j)) by_walks walk_first)
          (either_lesser (λ b. AtMost new (plus (plus (low i) (high k)) b)) (s k j) (plus (low k) (high j)) walk_second no_walk)

    unary : (i : ℕ) → i < nodes m → entry c i (bar i) ≡ even (s i (bar i))
    unfolding low high s below_half above_half
    unary i p =
        entry_is i (bar i) p (bar_below i m.vars p)
        ∙ ap (λ k. lesser (s i (bar i)) (plus (low i) (half (s k (bar i))))) (bar_bar i)
        ∙ lesser_below (s i (bar i)) (even (s i (bar i))) (even_below (s i (bar i)))

    unary' : (i : ℕ) → i < nodes m → entry c (bar i) i ≡ even (s (bar i) i)
    unary' i p = subst (λ k. entry c (bar i) k ≡ even (s (bar i) k)) (bar_bar i) (unary (bar i) (bar_below i m.vars p))

    vars_c : c.vars ≡ m.vars
    unfolding c
    vars_c = vars-strengthened (shortest m) ∙ vars-walks m 16

    pub rules_of_closed : Rules (strengthened (rounded (shortest m)))
    unfolding c new low high s below_half above_half
    rules_of_closed =
        let inside : (i : ℕ) → i < nodes c → i < nodes m = λ i p. rw vars_c at p in
        record {
          matrix = matrix-closed m h level agreed;
          triangle = λ i k j p q r.
              let a = inside i p in
              let b = inside k q in
              let d = inside j r in
              rw (entry_is i j a d, entry_is i k a b, entry_is k j b d) (any_way i k j a b d);
          evens = λ i p. ap even (unary i (inside i p)) ∙ ap₂ plus (half-even (s i (bar i))) (half-even (s i (bar i))) ∙ sym (unary i (inside i p));
          agree = λ i p. let a = inside i p in rw (unary i a, unary' i a) (flat_doubled (low i) (high i) (halves_agree i a));
          strong = λ i j p q.
              let a = inside i p in
              let b = inside j q in
              rw (entry_is i j a b, unary i a, unary' j b, half-even (s i (bar i)), half-even (s (bar j) j)) (lesser_right (s i j) (plus (low i) (high j)));
        }

-- what a closure leaves is closed
pub closed_is_closed : (m after : Table) → IsMatrix m → closed_form m ≡ Some after → IsClosed after
closed_is_closed m after h e =
    let parts = closed_parts m after e in
    subst IsClosed parts.2 (closed_by_rules _ (rules_of_closed m h parts.0 parts.1))

-- ---- the join of two closed tables

rules_from : (m : Table) → IsMatrix m → IsClosed m → Rules m
rules_from m h k = record { matrix = h; triangle = k.triangle; evens = k.evens; agree = k.agree; strong = k.strong }

module _ (m o : Table) (same : m.vars ≡ o.vars) (h : IsMatrix m) (k : IsMatrix o) (a : IsClosed m) (b : IsClosed o) where
  both : (i j : ℕ) → i < nodes m → j < nodes m → entry (joined m o) i j ≡ greater (entry m i j) (entry o i j)
  unfolding joined
  both i j p q = entry-table m.vars (λ i j. greater (entry m i j) (entry o i j)) i j p q

  greater_mono : (w x y z : Bound) → AtMost w y → AtMost x z → AtMost (greater w x) (greater y z)
  greater_mono w x y z l r = greater_least w x (greater y z) (at_most_trans w y _ l (greater_left y z)) (at_most_trans x z _ r (greater_right y z))

  pub closed-joined : IsClosed (joined m o)
  closed-joined =
      closed_by_rules (joined m o) (record {
        matrix = matrix-joined m o h k same;
        triangle = λ i l j p q r.
            let p' = inside i p in
            let q' = inside l q in
            let r' = inside j r in
            rw (both i j p' r', both i l p' q', both l j q' r')
            (greater_least (entry m i j) (entry o i j) _
            (at_most_trans (entry m i j) _ _ (a.triangle i l j p' q' r') (plus_mono _ _ _ _ (greater_left (entry m i l) (entry o i l)) (greater_left (entry m l j) (entry o l j))))
            (at_most_trans (entry o i j) _ _ (b.triangle i l j (other i p') (other l q') (other j r')) (plus_mono _ _ _ _ (greater_right (entry m i l) (entry o i l)) (greater_right (entry m l j) (entry o l j)))));
        evens = λ i p.
            let p' = inside i p in
            rw (both i (bar i) p' (bar_below i m.vars p'))
            (elim (greater_is_one (entry m i (bar i)) (entry o i (bar i))) [
              | inl e ↦ subst (λ x. even x ≡ x) (sym e) (a.evens i p')
              | inr e ↦ subst (λ x. even x ≡ x) (sym e) (b.evens i (other i p'))
            ]);
        agree = λ i p.
            let p' = inside i p in
            let u = bar_below i m.vars p' in
            rw (both i (bar i) p' u, both (bar i) i u p')
            (at_most_trans (Some (pos 0)) _ _ (a.agree i p') (plus_mono _ _ _ _ (greater_left (entry m i (bar i)) (entry o i (bar i))) (greater_left (entry m (bar i) i) (entry o (bar i) i))));
        strong = λ i j p q.
            let p' = inside i p in
            let q' = inside j q in
            let u = bar_below i m.vars p' in
            let v = bar_below j m.vars q' in
            rw (both i j p' q', both i (bar i) p' u, both (bar j) j v q')
            (greater_least (entry m i j) (entry o i j) _
            (at_most_trans (entry m i j) _ _ (a.strong i j p' q') (plus_mono _ _ _ _ (half_mono _ _ (greater_left (entry m i (bar i)) (entry o i (bar i)))) (half_mono _ _ (greater_left (entry m (bar j) j) (entry o (bar j) j)))))
            (at_most_trans (entry o i j) _ _ (b.strong i j (other i p') (other j q')) (plus_mono _ _ _ _ (half_mono _ _ (greater_right (entry m i (bar i)) (entry o i (bar i)))) (half_mono _ _ (greater_right (entry m (bar j) j) (entry o (bar j) j))))));
      })
    where
      inside : (i : ℕ) → i < nodes (joined m o) → i < nodes m
      inside i p = rw (vars-joined m o) at p

      other : (i : ℕ) → i < nodes m → i < nodes o
      other i p = rw (← same) p

-- ---- how large bounds stay

-- a closed table below a bounded one is within its limit
module _ (m after : Table) (limit : ℕ) (h : IsMatrix after) (c : IsClosed after) (below : IsBelow after m) (same : after.vars ≡ m.vars) (bounded : IsBounded limit m) where
  -- a bound on a node alone is at most the limit
  own_limit : (i : ℕ) → i < nodes after → AtMost (entry after i (bar i)) (Some (pos limit))
  own_limit i p =
      let b = bounded i (rw same at p) in
      at_most_trans (entry after i (bar i)) (entry m i (bar i)) (Some (pos limit)) (below i (bar i) p (bar_below i after.vars p)) (rw b.1 (high b.0 limit b.2))
    where
      high : (z : ℤ) (n : ℕ) → unsigned_abs z ≤ n → z ≤ℤ pos n
      high (pos a) n l = omega (arith, ints)
      high (negsuc a) n l = omega (arith, ints)

  upper : (i j : ℕ) → i < nodes after → j < nodes after → AtMost (entry after i j) (Some (pos limit))
  upper i j p q =
      let first = half_mono (entry after i (bar i)) (Some (pos limit)) (own_limit i p) in
      let second = half_mono (entry after (bar j) j) (Some (pos limit)) (subst (λ k. AtMost (entry after (bar j) k) (Some (pos limit))) (bar_bar j) (own_limit (bar j) (bar_below j after.vars q))) in
      at_most_trans (entry after i j) _ (Some (pos limit)) (c.strong i j p q)
      (at_most_trans _ (even (Some (pos limit))) (Some (pos limit)) (plus_mono _ (half (Some (pos limit))) _ (half (Some (pos limit))) first second) (even_below (Some (pos limit))))

  pub limit_kept : IsWithin limit after
  limit_kept i j z p q e =
      let top = upper i j p q in
      let round = c.triangle i j i p q p in
      let back : AtMost (Some (pos 0)) (Some (z +ℤ pos limit)) =
      at_most_trans (Some (pos 0)) (plus (Some z) (entry after j i)) (Some (z +ℤ pos limit)) (rw (h.diagonal i p, e) at round)
      (plus_mono (Some z) (Some z) (entry after j i) (Some (pos limit)) (≤ℤ_refl z) (upper j i q p)) in
      sized z limit (rw e at top) back
    where
      sized : (z : ℤ) (n : ℕ) → z ≤ℤ pos n → pos 0 ≤ℤ (z +ℤ pos n) → unsigned_abs z ≤ n
      sized (pos a) n k l = omega (arith, ints)
      sized (negsuc a) n k l = omega (arith, ints)

-- ---- what a closure leaves, in all

pub left_closed : (m : Table) (answer : Closing) (after : Table) → IsMatrix m → ClosesTo m answer after → LeavesTop answer m.vars after → LeavesClosed m answer after
left_closed m Empty after h e free = free
left_closed m Closed after h e free =
    let parts = closed_parts m after e in
    (closed_is_closed m after h e, subst (λ t. IsBelow t m) parts.2 (closed_below m))

limits_of : (m after : Table) → IsMatrix m → IsMatrix after → closed_form m ≡ Some after → KeepsLimits m after
limits_of m after h k e =
    let parts = closed_parts m after e in
    record {
      grows = λ limit w. subst (IsWithin (32 * limit)) parts.2 (within_closed m limit w);
      stays = λ limit b. limit_kept m after limit k (closed_is_closed m after h e) (subst (λ t. IsBelow t m) parts.2 (closed_below m)) (ap (λ (t : Table). t.vars) (sym parts.2) ∙ vars-closed m) b;
    }

pub limits_left : (m : Table) (answer : Closing) (after : Table) → IsMatrix m → IsMatrix after → ClosesTo m answer after → LeavesTop answer m.vars after → KeepsLimits m after
limits_left m Closed after h k e free = limits_of m after h k e
limits_left m Empty after h k e free = record {
  grows = λ limit w. subst (IsWithin (32 * limit)) (sym (free)) (within-top (32 * limit) m.vars);
  stays = λ limit b. subst (IsWithin limit) (sym (free)) (within-top limit m.vars);
}

-- ---- a closure by the answers of its two steps

module _ (m c after : Table) (r s : Bool) (walks : r ≡ not (has_negative_walk (shortest m))) (totals : c ≡ shortest m) (opposite : s ≡ not (has_contradiction (rounded c))) (first : r ≡ true) where
  walks_level : has_negative_walk (shortest m) ≡ false
  walks_level = false_of _ r walks first

  agreed : s ≡ true → has_contradiction (rounded (shortest m)) ≡ false
  agreed e = ap (λ t. has_contradiction (rounded t)) (sym totals) ∙ false_of _ s opposite e

  pub closed_by_steps : s ≡ true → after ≡ strengthened (rounded c) → closed_form m ≡ Some after
  closed_by_steps e f = closed-strengthened m walks_level (agreed e) ∙ ap Some (sym (f ∙ ap (λ t. strengthened (rounded t)) totals))

  pub empty_by_steps : s ≡ false → closed_form m ≡ None
  empty_by_steps e = closed-contradiction m walks_level (ap (λ t. has_contradiction (rounded t)) (sym totals) ∙ true_of _ s opposite e)

  pub matrix_by_steps : IsMatrix m → s ≡ true → after ≡ strengthened (rounded c) → IsMatrix after
  matrix_by_steps h e f = subst IsMatrix (sym (f ∙ ap (λ t. strengthened (rounded t)) totals)) (matrix-closed m h walks_level (agreed e))
