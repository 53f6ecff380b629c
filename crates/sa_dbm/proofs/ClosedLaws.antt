-- The closed form: that it is a matrix, and how large its bounds are.
use Rattle.std.proofs.Common.{◌≡◌, ℕ, zero, suc, ◌*◌, ◌<◌, ◌≤◌, not, Bool, true, false, ℤ, pos, unsigned_abs, Some, None, inl, inr, ap, ap₂, sym, subst, refl, ◌∙◌, arith, suc-mul}
use Rattle.std.specs.Int.{int_shr}
use Rattle.std.proofs.lemmas.Bool.{not-true, not-false}
use Rattle.std.proofs.lemmas.Option.{none-some, same_Some}
use Rattle.sa_dbm.specs.Bounds.{Bound, plus, lesser, half, IsFlat}
use Rattle.sa_dbm.specs.Tables.{Table, nodes, bar, entry, IsMatrix, IsWithin}
use Rattle.sa_dbm.specs.Walks.{Walk, stay, go}
use Rattle.sa_dbm.specs.Closed.{shortest, has_negative_walk, rounded, has_contradiction, strengthened}
use Rattle.sa_numbers.proofs.Sizes.{size_of_sum, size-half}
use Rattle.sa_dbm.proofs.BoundLaws.{at_most_antisym, lesser_above, lesser_is_one, plus_swap, plus_parts, flat_halved}
use Rattle.sa_dbm.proofs.TableLaws.{bar_bar, bar_below}
use Rattle.sa_dbm.proofs.WalkLaws.{reached_by_walk, below_each_walk, twin_totals}
use Rattle.sa_dbm.proofs.Pivots.{none_negative_at, vars-walks}
use Rattle.sa_dbm.proofs.Strengthening.{vars-rounded, below_half, above_half, unary_sum, strengthened_entry, vars-strengthened, length-strengthened}

-- ---- sizes

walk_size : (m : Table) (limit : ℕ) {a i j : ℕ} {t : ℤ} → IsWithin limit m → Walk m a i j t → unsigned_abs t ≤ a * limit
walk_size m limit h stay = omega arith
walk_size m limit h (go {k} {i} {h = l} {x = x} {y} p q e w) =
    let sum = size_of_sum x y limit (k * limit) (h i l x p q e) (walk_size m limit h w) in
    rw suc-mul (omega arith)

times_mono : (a b n : ℕ) → a ≤ b → a * n ≤ b * n
times_mono zero b n h = omega arith
times_mono (suc a) zero n h = absurd (omega arith)
times_mono (suc a) (suc b) n h = let k = times_mono a b n (omega arith) in rw (suc-mul, suc-mul) (omega arith)

pub within_shortest : (m : Table) (limit : ℕ) → IsWithin limit m → IsWithin (16 * limit) (shortest m)
within_shortest m limit h = λ i j z p q e.
    let r = reached_by_walk m 16 i j z (rw (vars-walks m 16) at p) (rw (vars-walks m 16) at q) e in
    let size = walk_size m limit h r.2 in
    let more = times_mono r.0 16 limit r.1 in
    omega arith

half_size : (b : Bound) (limit : ℕ) (z : ℤ) → ((y : ℤ) → b ≡ Some y → unsigned_abs y ≤ limit) → half b ≡ Some z → unsigned_abs z ≤ limit
half_size None limit z h e = absurd (none-some z e)
half_size (Some y) limit z h e = let k = h y refl in let l = size-half y in subst (λ x. unsigned_abs x ≤ limit) (same_Some (int_shr y 1) z e) (omega arith)

pub within_strengthened : (c : Table) (limit : ℕ) → IsWithin limit c → IsWithin (2 * limit) (strengthened (rounded c))
unfolding below_half above_half
within_strengthened c limit h = λ i j z p q e. at i j z (rw (vars-strengthened c) at p) (rw (vars-strengthened c) at q) e
  where
    at : (i j : ℕ) (z : ℤ) → i < nodes c → j < nodes c → entry (strengthened (rounded c)) i j ≡ Some z → unsigned_abs z ≤ 2 * limit
    at i j z p q e =
        let found = sym (strengthened_entry c i j p q) ∙ e in
        let above = bar_below i c.vars p in
        let below = bar_below j c.vars q in
        elim (lesser_is_one (entry c i j) (plus (below_half c i) (above_half c j))) [
          | inl own ↦ (let k = h i j z p q (sym own ∙ found) in omega arith)
          | inr sum ↦
              (let parts = plus_parts (below_half c i) (above_half c j) z (sym sum ∙ found) in
              let x = half_size (entry c i (bar i)) limit parts.0 (λ y f. h i (bar i) y p above f) parts.2 in
              let y = half_size (entry c (bar j) j) limit parts.1 (λ y f. h (bar j) j y below q f) parts.3 in
              let size = size_of_sum parts.0 parts.1 limit limit x y in
              rw parts.4 (omega arith))
        ]

-- how large the entries of the closed form are
pub within_closed : (m : Table) (limit : ℕ) → IsWithin limit m → IsWithin (32 * limit) (strengthened (rounded (shortest m)))
within_closed m limit h = λ i j z p q e. let size = within_strengthened (shortest m) (16 * limit) (within_shortest m limit h) i j z p q e in omega arith

-- ---- the closed form is a matrix

module _ (m : Table) (h : IsMatrix m) (level : has_negative_walk (shortest m) ≡ false) (agreed : has_contradiction (rounded (shortest m)) ≡ false) where
  -- from a node to itself the least total is 0
  own_total : (i : ℕ) → i < nodes m → entry (shortest m) i i ≡ Some (pos 0)
  unfolding has_negative_walk
  own_total i p =
      at_most_antisym (entry (shortest m) i i) (Some (pos 0)) (below_each_walk m 16 (omega arith) p p stay)
      (none_negative_at (nodes (shortest m)) (λ i. entry (shortest m) i i) level i (rw (vars-walks m 16) p))

  -- opposite halves have a sum that isn't negative
  flat_sum : (i : ℕ) → i < nodes (shortest m) → IsFlat (plus (below_half (shortest m) i) (above_half (shortest m) i))
  unfolding has_contradiction
  flat_sum i p =
      let c = shortest m in
      let r = rounded c in
      flat_halved (below_half c i) (above_half c i)
      (subst IsFlat (unary_sum c i p) (none_negative_at (nodes r) (λ i. plus (entry r i (bar i)) (entry r (bar i) i)) agreed i (rw (vars-rounded c) p)))

  closed_diagonal : (i : ℕ) → i < nodes (shortest m) → entry (strengthened (rounded (shortest m))) i i ≡ Some (pos 0)
  closed_diagonal i p =
      let c = shortest m in
      let s = plus (below_half c i) (above_half c i) in
      strengthened_entry c i i p p ∙ ap (λ b. lesser b s) (own_total i (rw (vars-walks m 16) at p)) ∙ lesser_above (Some (pos 0)) s (flat_sum i p)

  closed_twins : (i j : ℕ) → i < nodes (shortest m) → j < nodes (shortest m) → entry (strengthened (rounded (shortest m))) i j ≡ entry (strengthened (rounded (shortest m))) (bar j) (bar i)
  unfolding below_half above_half
  closed_twins i j p q =
      let c = shortest m in
      strengthened_entry c i j p q
      ∙ ap₂ lesser (twin_totals m 16 i j h (rw (vars-walks m 16) at p) (rw (vars-walks m 16) at q))
      (plus_swap (below_half c i) (above_half c j)
      ∙ ap₂ (λ a b. plus (half (entry c (bar j) a)) (half (entry c b (bar i)))) (sym (bar_bar j)) (sym (bar_bar i)))
      ∙ sym (strengthened_entry c (bar j) (bar i) (bar_below j c.vars q) (bar_below i c.vars p))

  pub matrix-closed : IsMatrix (strengthened (rounded (shortest m)))
  matrix-closed =
      let c = shortest m in
      let vars = vars-strengthened c ∙ vars-walks m 16 in
      record {
        some = rw vars h.some;
        few = rw vars h.few;
        whole = rw (vars-strengthened c) (length-strengthened c);
        diagonal = λ i p. closed_diagonal i (rw (vars-strengthened c) at p);
        twins = λ i j p q. closed_twins i j (rw (vars-strengthened c) at p) (rw (vars-strengthened c) at q);
      }

-- ---- what a closure did, by its two answers

pub false_of : (t r : Bool) → r ≡ not t → r ≡ true → t ≡ false
false_of t r e f = not-true t (sym e ∙ f)

pub true_of : (t r : Bool) → r ≡ not t → r ≡ false → t ≡ true
true_of t r e f = not-false t (sym e ∙ f)
