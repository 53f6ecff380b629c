-- Stored totals, from pivot to pivot.
use Rattle.std.proofs.Common.{◌≡◌, ℕ, ◌+◌, ◌*◌, ◌^◌, ◌<◌, ◌≤◌, Bool, true, false, not, MatchBool, ℤ, List, length, get_or, pos, FitsSigned, to_z, of_z, ap, ap₂, sym, subst, ◌∙◌, arith, add-one, pow_mono}
use Rattle.std.specs.Int.{w128}
use Rattle.std.proofs.lemmas.List.{length-map}
use Rattle.std.proofs.lemmas.Nat.{mul-add-lt}
use Rattle.sa_dbm.specs.Bounds.{plus, lesser, IsFlat, is_negative}
use Rattle.sa_dbm.specs.Tables.{Table, IsMatrix, IsWithin}
use Rattle.sa_dbm.specs.Closed.{shortest, has_negative_walk}
use Rattle.sa_dbm.specs.Stored.{shown, shown_at, stored, IsSummable}
use Rattle.sa_dbm.proofs.TableLaws.{same_tables}
use Rattle.sa_dbm.proofs.StoredLaws.{entry-stored, read_is}
use Rattle.sa_dbm.proofs.Pivots.{through, through_within, FlatPivots, through_all, negative_walk, no_negative_walk, vars-walks, length-walks}

-- what is stored are the totals after the nodes below k were pivots
abbrev pub Totals : Table → ℕ → ℕ → List ℤ → Type 0
Totals m n k xs = (i j : ℕ) → i < n → j < n → shown_at xs (i * n + j) ≡ through m k i j

pub totals-first : (vars : ℕ) (xs : List ℤ) → Totals (stored vars xs) (2 * vars) 0 xs
unfolding through
totals-first vars xs = λ i j p q. sym (entry-stored vars xs i j)

pub totals_more : (m : Table) (n k : ℕ) (xs ys : List ℤ) → k < n → Totals m n k xs
    → ((i j : ℕ) → i < n → j < n → shown_at ys (i * n + j) ≡ lesser (shown_at xs (i * n + j)) (plus (shown_at xs (i * n + k)) (shown_at xs (k * n + j))))
    → Totals m n (k + 1) ys
unfolding through
totals_more m n k xs ys b old step =
    rw add-one
    (λ i j p q. step i j p q ∙ ap₂ lesser (old i j p q) (ap₂ plus (old i k p b) (old k j b q)))

pub totals_summable : (vars k : ℕ) (start xs : List ℤ) → vars ≤ 8 → k < 2 * vars → IsWithin (2 ^ 100) (stored vars start) → Totals (stored vars start) (2 * vars) k xs
    → (i j : ℕ) → i < 2 * vars → j < 2 * vars → IsSummable (shown_at xs (i * (2 * vars) + j))
unfolding stored
totals_summable vars k start xs few b within totals i j p q =
    λ z e. large (through_within (stored vars start) (2 ^ 100) k i j z within (omega arith) p q (sym (totals i j p q) ∙ e))
  where
    small : k ≤ 16
    small = omega arith

    power : 2 ^ k ≤ 2 ^ 16
    power = pow_mono small

    large : {n : ℕ} → n ≤ 2 ^ k * 2 ^ 100 → n ≤ 2 ^ 120
    large h = omega (arith, power)

-- the test of a node's own total, as the code reads it
pub own_total : (vars k : ℕ) (start xs : List ℤ) (r : Bool) → length xs ≡ 2 * vars * (2 * vars) → k < 2 * vars → Totals (stored vars start) (2 * vars) k xs
    → FitsSigned w128 (get_or xs (k * (2 * vars) + k) (pos 0))
    → r ≡ is_negative (shown (to_z w128 (of_z w128 (get_or xs (k * (2 * vars) + k) (pos 0)))))
    → r ≡ is_negative (through (stored vars start) k k k)
own_total vars k start xs r whole b totals fits e =
    let n = 2 * vars in
    let place : k * n + k < length xs = omega (arith, mul-add-lt k n k n b b) in
    e ∙ ap (λ z. is_negative (shown z)) (read_is xs (k * n + k) place fits) ∙ ap is_negative (totals k k b b)

-- the totals after all nodes were pivots
module _ (vars : ℕ) (start xs : List ℤ) (matrix : IsMatrix (stored vars start)) (whole : length xs ≡ 2 * vars * (2 * vars))
    (totals : Totals (stored vars start) (2 * vars) (2 * vars) xs) (pivots : FlatPivots (stored vars start) (2 * vars)) where
  abbrev pub FlatEnd : Type 0
  FlatEnd = (i : ℕ) → i < 2 * vars → IsFlat (shown_at xs (i * (2 * vars) + i))

  abbrev pub NegativeEnd : Type 0
  NegativeEnd = (i : ℕ) × (i < 2 * vars) × (is_negative (shown_at xs (i * (2 * vars) + i)) ≡ true)

  pub end_answer : (r : Bool) → MatchBool r FlatEnd NegativeEnd → r ≡ not (has_negative_walk (shortest (stored vars start)))
  unfolding stored
  end_answer true flat = ap not (sym (no_negative_walk (stored vars start) matrix pivots (λ i p. subst IsFlat (totals i i p p) (flat i p))))
  end_answer false some = ap not (sym (negative_walk (stored vars start) (2 * vars) some.0 matrix (omega arith) some.1 (ap is_negative (sym (totals some.0 some.0 some.1 some.1)) ∙ some.2)))

  pub end_walks : FlatEnd → stored vars xs ≡ shortest (stored vars start)
  unfolding stored
  end_walks flat =
      let m = stored vars start in
      let end = λ (i : ℕ) (p : i < 2 * vars). subst IsFlat (totals i i p p) (flat i p) in
      same_tables (stored vars xs) (shortest m) (sym (vars-walks m 16)) (length-map xs shown ∙ whole) (length-walks m 16)
      (λ i j p q. entry-stored vars xs i j ∙ totals i j p q ∙ through_all m matrix pivots end i j p q)
