-- How large the bounds are that the operations leave.
use Rattle.std.proofs.Common.{◌≡◌, ℕ, ◌+◌, ◌*◌, ◌/◌, ◌%◌, ◌<◌, ◌≤◌, ◌==◌, ◌&&◌, ◌||◌, Bool, true, false, cond, ℤ, pos, neg_ℤ, ◌+ℤ◌, ◌-ℤ◌, unsigned_abs, Some, None, option_map, ◌⊎◌, inl, inr, refl, sym, subst, ◌∙◌, arith}
use Rattle.std.specs.Int.{int_max}
use Rattle.std.proofs.lemmas.Option.{none-some, same_Some}
use Rattle.sa_dbm.specs.Bounds.{Bound, lesser, greater}
use Rattle.sa_dbm.specs.Tables.{Table, bar, entry, table, IsWithin, top_table, tightened, joined, forgotten, rise, shifted}
use Rattle.sa_dbm.specs.Walks.{at_once}
use Rattle.sa_numbers.proofs.Sizes.{size_of_sum, size-negated}
use Rattle.sa_dbm.proofs.BoundLaws.{lesser_is_one}
use Rattle.sa_dbm.proofs.TableLaws.{entry-table, vars-table}

-- no number that the bound is exceeds the limit
abbrev pub AtMostSize : ℕ → Bound → Type 0
AtMostSize limit b = (z : ℤ) → b ≡ Some z → unsigned_abs z ≤ limit

within_table : (limit vars : ℕ) (f : ℕ → ℕ → Bound) → ((i j : ℕ) → i < 2 * vars → j < 2 * vars → AtMostSize limit (f i j)) → IsWithin limit (table vars f)
within_table limit vars f h = λ i j z p q e. at i j z (rw (vars-table vars f) at p) (rw (vars-table vars f) at q) e
  where
    at : (i j : ℕ) (z : ℤ) → i < 2 * vars → j < 2 * vars → entry (table vars f) i j ≡ Some z → unsigned_abs z ≤ limit
    at i j z p q e = h i j p q z (sym (entry-table vars f i j p q) ∙ e)

pub within-top : (limit vars : ℕ) → IsWithin limit (top_table vars)
unfolding top_table
within-top limit vars = within_table limit vars at_once (λ i j p q. small (i == j))
  where
    small : (t : Bool) → AtMostSize limit (cond t (Some (pos 0)) None)
    small true = λ z e. subst (λ x. unsigned_abs x ≤ limit) (same_Some (pos 0) z e) (omega arith)
    small false = λ z e. absurd (none-some z e)

pub within-tightened : (limit : ℕ) (m : Table) (i j : ℕ) (c : ℤ) → IsWithin limit m → unsigned_abs c ≤ limit → IsWithin limit (tightened m i j c)
unfolding tightened
within-tightened limit m i j c h k =
    within_table limit m.vars _ (λ p q a b. small (p == i && q == j || p == bar j && q == bar i) (entry m p q) (λ z e. h p q z a b e))
  where
    small : (t : Bool) (b : Bound) → AtMostSize limit b → AtMostSize limit (cond t (lesser b (Some c)) b)
    small false b l = l
    small true b l =
        elim (lesser_is_one b (Some c)) [ inl e ↦ subst (AtMostSize limit) (sym e) l | inr e ↦ subst (AtMostSize limit) (sym e) (λ z f. subst (λ x. unsigned_abs x ≤ limit) (same_Some c z f) k) ]

pub within-joined : (limit : ℕ) (m o : Table) → m.vars ≡ o.vars → IsWithin limit m → IsWithin limit o → IsWithin limit (joined m o)
unfolding joined
within-joined limit m o vars h k =
    within_table limit m.vars _ (λ p q a b. small (entry m p q) (entry o p q) (λ z e. h p q z a b e) (λ z e. k p q z (rw (← vars) a) (rw (← vars) b) e))
  where
    max_is_one : (x y : ℤ) → (Some (int_max x y) ≡ Some x) ⊎ (Some (int_max x y) ≡ Some y)
    max_is_one x y = grind arith

    small : (a b : Bound) → AtMostSize limit a → AtMostSize limit b → AtMostSize limit (greater a b)
    small None b l r = l
    small (Some x) None l r = r
    small (Some x) (Some y) l r = elim (max_is_one x y) [ inl e ↦ subst (AtMostSize limit) (sym e) l | inr e ↦ subst (AtMostSize limit) (sym e) r ]

pub within-forgotten : (limit : ℕ) (m : Table) (var : ℕ) → IsWithin limit m → IsWithin limit (forgotten m var)
unfolding forgotten
within-forgotten limit m var h =
    within_table limit m.vars _ (λ i j p q. small (i == j) (i / 2 == var || j / 2 == var) (entry m i j) (λ z e. h i j z p q e))
  where
    small : (s t : Bool) (b : Bound) → AtMostSize limit b → AtMostSize limit (cond s b (cond t None b))
    small true t b l = l
    small false true b l = λ z e. absurd (none-some z e)
    small false false b l = l

rise_size : (var k : ℕ) (c : ℤ) (i : ℕ) → unsigned_abs c ≤ k → unsigned_abs (rise var c i) ≤ k
unfolding rise
rise_size var k c i h = by_tests (i / 2 == var) (i % 2 == 0)
  where
    by_tests : (t u : Bool) → unsigned_abs (cond t (cond u c (neg_ℤ c)) (pos 0)) ≤ k
    by_tests true true = h
    by_tests true false = rw size-negated h
    by_tests false u = omega arith

pub within-shifted : (limit k : ℕ) (m : Table) (var : ℕ) (c : ℤ) → IsWithin limit m → unsigned_abs c ≤ k → IsWithin (limit + (k + k)) (shifted m var c)
unfolding shifted
within-shifted limit k m var c h l =
    within_table (limit + (k + k)) m.vars _ (λ i j p q. small (entry m i j) (rise var c i) (rise var c j) (rise_size var k c i l) (rise_size var k c j l) (λ z e. h i j z p q e))
  where
    small : (b : Bound) (r s : ℤ) → unsigned_abs r ≤ k → unsigned_abs s ≤ k → AtMostSize limit b → AtMostSize (limit + (k + k)) (option_map (λ z. z +ℤ (s -ℤ r)) b)
    small None r s a b l = λ z e. absurd (none-some z e)
    small (Some y) r s a b l = λ z e.
        subst (λ x. unsigned_abs x ≤ limit + (k + k)) (same_Some _ z e)
        (size_of_sum y (s -ℤ r) limit (k + k) (l y refl) (size_of_sum s (neg_ℤ r) k k b (rw size-negated a)))

-- a greater limit
pub within_more : (a b : ℕ) (m : Table) → a ≤ b → IsWithin a m → IsWithin b m
within_more a b m l h = λ i j z p q e. let k = h i j z p q e in omega arith
