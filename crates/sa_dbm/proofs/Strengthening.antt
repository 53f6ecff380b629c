-- Rounding and strengthening, entry by entry.
use Rattle.std.proofs.Common.{◌≡◌, ◌≢◌, ℕ, ◌+◌, ◌*◌, ◌^◌, ◌<◌, ◌≤◌, ◌==◌, Bool, true, false, cond, MatchBool, ℤ, unsigned_abs, List, length, Some, None, inl, inr, ap, ap₂, sym, subst, refl, ◌∙◌, arith}
use Rattle.std.proofs.lemmas.Bool.{cases_eq, eq-eqb, ne_eqb}
use Rattle.std.proofs.lemmas.List.{length-map}
use Rattle.std.proofs.lemmas.Option.{none-some, same_Some}
use Rattle.sa_dbm.specs.Bounds.{Bound, plus, lesser, half, even, IsFlat, is_negative}
use Rattle.sa_dbm.specs.Tables.{Table, nodes, bar, entry, table, IsWithin}
use Rattle.sa_dbm.specs.Closed.{rounded, has_contradiction, strengthened}
use Rattle.sa_dbm.specs.Stored.{shown, shown_at, stored, IsSummable}
use Rattle.sa_numbers.proofs.Sizes.{size-half}
use Rattle.sa_dbm.proofs.BoundLaws.{lesser_above, lesser_below, at_most_refl, half-even, even_below, flat_doubled, negative_doubled}
use Rattle.sa_dbm.proofs.TableLaws.{entry-table, same_tables, length-table, bar_bar, bar_below}
use Rattle.sa_dbm.proofs.StoredLaws.{entry-stored}
use Rattle.sa_dbm.proofs.Pivots.{some_negative_at, none_negative}

module _ (c : Table) where
  rounded_entry : (i j : ℕ) → i < nodes c → j < nodes c → entry (rounded c) i j ≡ cond (j == bar i) (even (entry c i j)) (entry c i j)
  unfolding rounded
  rounded_entry i j p q = entry-table c.vars (λ i j. cond (j == bar i) (even (entry c i j)) (entry c i j)) i j p q

  pub rounded_unary : (i j : ℕ) → i < nodes c → j < nodes c → j ≡ bar i → entry (rounded c) i j ≡ even (entry c i j)
  rounded_unary i j p q e = rounded_entry i j p q ∙ ap (λ t. cond t (even (entry c i j)) (entry c i j)) (eq-eqb j (bar i) e)

  pub rounded_other : (i j : ℕ) → i < nodes c → j < nodes c → j ≢ bar i → entry (rounded c) i j ≡ entry c i j
  rounded_other i j p q n = rounded_entry i j p q ∙ ap (λ t. cond t (even (entry c i j)) (entry c i j)) (ne_eqb j (bar i) n)

  -- the halves of the entries that bound node i alone, from above its opposite and from above itself
  unfoldable pub below_half : ℕ → Bound
  below_half i = half (entry c i (bar i))

  unfoldable pub above_half : ℕ → Bound
  above_half i = half (entry c (bar i) i)

  pub unary_sum : (i : ℕ) → i < nodes c → plus (entry (rounded c) i (bar i)) (entry (rounded c) (bar i) i) ≡ plus (plus (below_half i) (below_half i)) (plus (above_half i) (above_half i))
  unfolding below_half above_half
  unary_sum i p =
      let q = bar_below i c.vars p in
      ap₂ plus (rounded_unary i (bar i) p q refl) (rounded_unary (bar i) i q p (sym (bar_bar i)))

  pub contradiction_found : (i : ℕ) → i < nodes c → is_negative (plus (below_half i) (above_half i)) ≡ true → has_contradiction (rounded c) ≡ true
  unfolding has_contradiction rounded table
  contradiction_found i p e =
      some_negative_at (nodes c) i (λ i. plus (entry (rounded c) i (bar i)) (entry (rounded c) (bar i) i)) p
      (ap is_negative (unary_sum i p) ∙ negative_doubled (below_half i) (above_half i) e)

  pub no_contradiction : ((i : ℕ) → i < nodes c → IsFlat (plus (below_half i) (above_half i))) → has_contradiction (rounded c) ≡ false
  unfolding has_contradiction rounded table
  no_contradiction h =
      none_negative (nodes c) (λ i. plus (entry (rounded c) i (bar i)) (entry (rounded c) (bar i) i))
      (λ i p. subst IsFlat (sym (unary_sum i p)) (flat_doubled (below_half i) (above_half i) (h i p)))

  -- a rounded entry is lowered to twice its half in any case
  rounding_is_met : (i j : ℕ) → i < nodes c → j < nodes c
      → lesser (entry (rounded c) i j) (plus (below_half i) (above_half j)) ≡ lesser (entry c i j) (plus (below_half i) (above_half j))
  unfolding below_half above_half
  rounding_is_met i j p q =
      elim (cases_eq j (bar i)) [ inl e ↦ unary e | inr n ↦ ap (λ b. lesser b (plus (below_half i) (above_half j))) (rounded_other i j p q n) ]
    where
      both_halves : j ≡ bar i → plus (below_half i) (above_half j) ≡ even (entry c i j)
      both_halves e = rw (e, bar_bar i) refl

      unary : j ≡ bar i → lesser (entry (rounded c) i j) (plus (below_half i) (above_half j)) ≡ lesser (entry c i j) (plus (below_half i) (above_half j))
      unary e =
          let b = entry c i j in
          rw (rounded_unary i j p q e, both_halves e) (lesser_above (even b) (even b) (at_most_refl (even b)) ∙ sym (lesser_below b (even b) (even_below b)))

  by_halves : ℕ → ℕ → Bound
  by_halves i j = lesser (entry (rounded c) i j) (plus (half (entry (rounded c) i (bar i))) (half (entry (rounded c) (bar j) j)))

  pub vars-rounded : (rounded c).vars ≡ c.vars
  unfolding rounded table
  vars-rounded = refl

  strengthened-table : strengthened (rounded c) ≡ table c.vars by_halves
  unfolding strengthened by_halves
  strengthened-table = ap (λ v. table v by_halves) vars-rounded

  -- an entry of the strengthened table, straight from the totals
  pub strengthened_entry : (i j : ℕ) → i < nodes c → j < nodes c → entry (strengthened (rounded c)) i j ≡ lesser (entry c i j) (plus (below_half i) (above_half j))
  unfolding by_halves below_half above_half
  strengthened_entry i j p q =
      ap (λ t. entry t i j) strengthened-table
      ∙ entry-table c.vars by_halves i j p q
      ∙ ap₂ (λ a b. lesser (entry (rounded c) i j) (plus a b)) (half_of i (bar i) p (bar_below i c.vars p) refl) (half_of (bar j) j (bar_below j c.vars q) q (sym (bar_bar j)))
      ∙ rounding_is_met i j p q
    where
      half_of : (i j : ℕ) → i < nodes c → j < nodes c → j ≡ bar i → half (entry (rounded c) i j) ≡ half (entry c i j)
      half_of i j p q e = ap half (rounded_unary i j p q e) ∙ half-even (entry c i j)

  pub vars-strengthened : (strengthened (rounded c)).vars ≡ c.vars
  unfolding table
  vars-strengthened = ap (λ (t : Table). t.vars) strengthened-table

  pub length-strengthened : length (strengthened (rounded c)).bounds ≡ nodes c * nodes c
  length-strengthened = ap (λ (t : Table). length t.bounds) strengthened-table ∙ length-table c.vars by_halves

  pub strengthened_is : (m : Table) → m.vars ≡ c.vars → length m.bounds ≡ nodes m * nodes m
      → ((i j : ℕ) → i < nodes c → j < nodes c → entry m i j ≡ lesser (entry c i j) (plus (below_half i) (above_half j))) → m ≡ strengthened (rounded c)
  strengthened_is m vars whole same =
      same_tables m (strengthened (rounded c)) (vars ∙ sym vars-strengthened) whole (rw vars-strengthened length-strengthened)
      (λ i j p q. let a : i < nodes c = rw vars at p in let b : j < nodes c = rw vars at q in same i j a b ∙ sym (strengthened_entry i j a b))

-- ---- the same of what is stored

module _ (vars : ℕ) (xs : List ℤ) where
  -- as many places as there are pairs of nodes
  abbrev pub IsSquare : List ℤ → Type 0
  IsSquare ys = length ys ≡ 2 * vars * (2 * vars)

  pub below_half_stored : (i : ℕ) → below_half (stored vars xs) i ≡ half (shown_at xs (i * (2 * vars) + bar i))
  unfolding below_half
  below_half_stored i = ap half (entry-stored vars xs i (bar i))

  pub above_half_stored : (i : ℕ) → above_half (stored vars xs) i ≡ half (shown_at xs (bar i * (2 * vars) + i))
  unfolding above_half
  above_half_stored i = ap half (entry-stored vars xs (bar i) i)

  half_summable : IsWithin (2 ^ 104) (stored vars xs) → (i j : ℕ) → i < 2 * vars → j < 2 * vars → IsSummable (half (shown_at xs (i * (2 * vars) + j)))
  unfolding stored
  half_summable within i j p q = summable (shown_at xs (i * (2 * vars) + j)) (λ z e. within i j z p q (entry-stored vars xs i j ∙ e))
    where
      summable : (b : Bound) → ((z : ℤ) → b ≡ Some z → unsigned_abs z ≤ 2 ^ 104) → IsSummable (half b)
      summable None h = λ z e. absurd (none-some z e)
      summable (Some y) h = λ z e. let k = h y refl in let l = size-half y in subst (λ x. unsigned_abs x ≤ 2 ^ 120) (same_Some _ z e) (omega arith)

  module _ (first second : ℕ → Bound) (to : (i : ℕ) → i < 2 * vars → first i ≡ half (shown_at xs (i * (2 * vars) + bar i))) (from : (i : ℕ) → i < 2 * vars → second i ≡ half (shown_at xs (bar i * (2 * vars) + i))) where
    pub first_summable : IsWithin (2 ^ 104) (stored vars xs) → (i : ℕ) → i < 2 * vars → IsSummable (first i)
    first_summable within i p = subst IsSummable (sym (to i p)) (half_summable within i (bar i) p (bar_below i vars p))

    pub second_summable : IsWithin (2 ^ 104) (stored vars xs) → (i : ℕ) → i < 2 * vars → IsSummable (second i)
    second_summable within i p = subst IsSummable (sym (from i p)) (half_summable within (bar i) i (bar_below i vars p) p)

    sums : (i j : ℕ) → i < 2 * vars → j < 2 * vars → plus (below_half (stored vars xs) i) (above_half (stored vars xs) j) ≡ plus (first i) (second j)
    sums i j p q = ap₂ plus (below_half_stored i ∙ sym (to i p)) (above_half_stored j ∙ sym (from j q))

    pub answer_of : (r : Bool)
        → MatchBool r ((i : ℕ) × (i < 2 * vars) × (is_negative (plus (first i) (second i)) ≡ true)) ((i : ℕ) → i < 2 * vars → IsFlat (plus (first i) (second i)))
        → has_contradiction (rounded (stored vars xs)) ≡ r
    unfolding stored
    answer_of true f = contradiction_found (stored vars xs) f.0 f.1 (ap is_negative (sums f.0 f.0 f.1 f.1) ∙ f.2)
    answer_of false h = no_contradiction (stored vars xs) (λ i p. subst IsFlat (sym (sums i i p p)) (h i p))

    pub lowered_is : (ys : List ℤ) → IsSquare ys
        → ((i j : ℕ) → i < 2 * vars → j < 2 * vars → shown_at ys (i * (2 * vars) + j) ≡ lesser (shown_at xs (i * (2 * vars) + j)) (plus (first i) (second j)))
        → stored vars ys ≡ strengthened (rounded (stored vars xs))
    unfolding stored
    lowered_is ys whole step =
        strengthened_is (stored vars xs) (stored vars ys) refl (length-map ys shown ∙ whole)
        (λ i j p q. entry-stored vars ys i j ∙ step i j p q ∙ ap₂ lesser (sym (entry-stored vars xs i j)) (sym (sums i j p q)))
