-- Entries of tables, and that each operation on matrices gives a matrix.
use Rattle.std.proofs.Common.{◌≡◌, ◌≢◌, ℕ, zero, suc, ◌+◌, ◌-◌, ◌*◌, ◌/◌, ◌%◌, ◌<◌, ◌≤◌, Bool, true, false, cond, ◌==◌, ◌&&◌, ◌||◌, ℤ, pos, neg_ℤ, ◌+ℤ◌, ◌-ℤ◌, List, length, get_or, Some, None, option_map, inl, inr, ap, ap₂, sym, subst, refl, ◌∙◌, arith}
use Rattle.std.proofs.lemmas.Bool.{cases_eq, eq-eqb, ne_eqb, eqb-true, false_from_ne_true, or_cases, and_parts}
use Rattle.std.proofs.lemmas.Int.{ints}
use Rattle.std.proofs.lemmas.List.FromFn.{fill_by_all, get_or-map-range_with_len, length-map-range_with_len}
use Rattle.std.proofs.lemmas.Nat.{div-mul-add, mod-mul-add, mul-add-lt, div-add-mod', div_below, mod_below}
use Rattle.sa_dbm.specs.Bounds.{Bound, lesser, greater}
use Rattle.sa_dbm.specs.Tables.{Table, nodes, bar, entry, table, IsMatrix, top_table, tightened, joined, forgotten, rise, shifted}

-- an entry of the table that was made from a function
pub entry-table : (vars : ℕ) (f : ℕ → ℕ → Bound) (i j : ℕ) → i < 2 * vars → j < 2 * vars → entry (table vars f) i j ≡ f i j
unfolding entry table
entry-table vars f i j p q =
    let n = 2 * vars in
    get_or-map-range_with_len (λ p. f (p / n) (p % n)) 0 (n * n) (i * n + j) (i * n + j) None (mul-add-lt i n j n p q) (omega arith)
    ∙ ap₂ f (div-mul-add i n j q) (mod-mul-add i n j q)

pub vars-table : (vars : ℕ) (f : ℕ → ℕ → Bound) → (table vars f).vars ≡ vars
unfolding table
vars-table vars f = refl

pub length-table : (vars : ℕ) (f : ℕ → ℕ → Bound) → length (table vars f).bounds ≡ 2 * vars * (2 * vars)
unfolding table
length-table vars f = length-map-range_with_len (λ p. f (p / (2 * vars)) (p % (2 * vars))) 0 (2 * vars * (2 * vars))

-- a square that has a place has a row
pub square_some : (n p : ℕ) → p < n * n → 0 < n
square_some zero p h = absurd (omega arith)
square_some (suc n) p h = omega arith

-- a table whose entries are those of a function is the function's table
pub table_is : (m : Table) (f : ℕ → ℕ → Bound) → length m.bounds ≡ nodes m * nodes m
    → ((i j : ℕ) → i < nodes m → j < nodes m → entry m i j ≡ f i j) → m ≡ table m.vars f
unfolding entry table
table_is m f whole same =
    ap (λ (bs : List Bound). record { vars = m.vars; bounds = bs }) (fill_by_all (λ p. f (p / n) (p % n)) m.bounds (n * n) None whole (λ p h. at p h))
  where
    n : ℕ
    n = 2 * m.vars

    at : (p : ℕ) → p < n * n → get_or m.bounds p None ≡ f (p / n) (p % n)
    at p h =
        let some = square_some n p h in
        subst (λ q. get_or m.bounds q None ≡ f (p / n) (p % n)) (div-add-mod' p n) (same (p / n) (p % n) (div_below p n n some h) (mod_below p n some))

-- two tables of one size with the same entries are equal
pub same_tables : (m o : Table) → m.vars ≡ o.vars → length m.bounds ≡ nodes m * nodes m → length o.bounds ≡ nodes o * nodes o
    → ((i j : ℕ) → i < nodes m → j < nodes m → entry m i j ≡ entry o i j) → m ≡ o
same_tables m o vars p q same =
    table_is m (entry o) p same ∙ ap (λ v. table v (entry o)) vars ∙ sym (table_is o (entry o) q (λ i j _ _. refl))

-- ---- the other node of a variable

pub bar_bar : (i : ℕ) → bar (bar i) ≡ i
unfolding bar
bar_bar i = grind arith

pub bar_below : (i v : ℕ) → i < 2 * v → bar i < 2 * v
unfolding bar
bar_below i v h = grind arith

pub bar_differs : (i : ℕ) → bar i ≢ i
unfolding bar
bar_differs i = grind arith

pub bar-half : (i : ℕ) → bar i / 2 ≡ i / 2
unfolding bar
bar-half i = grind arith

pub bar-odd : (i : ℕ) → bar i % 2 ≡ 1 - i % 2
unfolding bar
bar-odd i = grind arith

-- two tests that mean the same
same_tests : (a b c d : ℕ) → (a ≡ b → c ≡ d) → (c ≡ d → a ≡ b) → (a == b) ≡ (c == d)
same_tests a b c d to from =
    elim (cases_eq a b) [
      | inl e ↦ eq-eqb a b e ∙ sym (eq-eqb c d (to e))
      | inr n ↦ ne_eqb a b n ∙ sym (ne_eqb c d (λ e. n (from e)))
    ]

pub test-bar : (i j : ℕ) → (bar i == j) ≡ (i == bar j)
test-bar i j = same_tests (bar i) j i (bar j) (λ e. sym (bar_bar i) ∙ ap bar e) (λ e. ap bar e ∙ bar_bar j)

pub test-bars : (i j : ℕ) → (bar i == bar j) ≡ (i == j)
test-bars i j = test-bar i (bar j) ∙ ap (λ k. i == k) (bar_bar j)

pub test_swap : (i j : ℕ) → (i == j) ≡ (j == i)
test_swap i j = same_tests i j j i sym sym

-- A table made from a function is a matrix where the function is 0 from each node to itself and the same in twins.
pub matrix_of : (vars : ℕ) (f : ℕ → ℕ → Bound) → 1 ≤ vars → vars ≤ 8
    → ((i : ℕ) → i < 2 * vars → f i i ≡ Some (pos 0))
    → ((i j : ℕ) → i < 2 * vars → j < 2 * vars → f i j ≡ f (bar j) (bar i))
    → IsMatrix (table vars f)
unfolding table
matrix_of vars f some few diagonal twins = record {
  some = some;
  few = few;
  whole = length-table vars f;
  diagonal = λ i p. entry-table vars f i i p p ∙ diagonal i p;
  twins = λ i j p q. entry-table vars f i j p q ∙ twins i j p q ∙ sym (entry-table vars f (bar j) (bar i) (bar_below j vars q) (bar_below i vars p));
}

pub matrix-top : (vars : ℕ) → 1 ≤ vars → vars ≤ 8 → IsMatrix (top_table vars)
unfolding top_table
matrix-top vars some few =
    matrix_of vars (λ i j. cond (i == j) (Some (pos 0)) None) some few (λ i p. rw (eq-eqb i i refl) refl)
    (λ i j p q. rw (test-bars j i, test_swap j i) refl)

-- the place (p, q) is (i, j) or its twin
unfoldable pub at_or_twin : ℕ → ℕ → ℕ → ℕ → Bool
at_or_twin i j p q = p == i && q == j || p == bar j && q == bar i

pub tightened_entry : (m : Table) (i j : ℕ) (c : ℤ) (p q : ℕ) → p < nodes m → q < nodes m
    → entry (tightened m i j c) p q ≡ cond (at_or_twin i j p q) (lesser (entry m p q) (Some c)) (entry m p q)
unfolding tightened at_or_twin
tightened_entry m i j c p q a b = entry-table m.vars (λ p q. cond (at_or_twin i j p q) (lesser (entry m p q) (Some c)) (entry m p q)) p q a b

at_or_twin-twin : (i j p q : ℕ) → at_or_twin i j p q ≡ at_or_twin i j (bar q) (bar p)
unfolding at_or_twin
at_or_twin-twin i j p q = rw (test-bar q i, test-bar p j, test-bars q j, test-bars p i) (swapped (p == i) (q == j) (p == bar j) (q == bar i))
  where
    swapped : (a b c d : Bool) → (a && b || c && d) ≡ (d && c || b && a)
    swapped a b c d = grind arith

at_or_twin-diagonal : (i j p : ℕ) → i ≢ j → at_or_twin i j p p ≡ false
unfolding at_or_twin
at_or_twin-diagonal i j p differ =
    false_from_ne_true (p == i && p == j || p == bar j && p == bar i) (λ e.
    elim (or_cases (p == i && p == j) (p == bar j && p == bar i) e) [
      | inl one ↦ at_both i j differ (and_parts (p == i) (p == j) one)
      | inr twin ↦ at_both (bar j) (bar i) (λ e. differ (sym (bar_bar i) ∙ ap bar (sym e) ∙ bar_bar j)) (and_parts (p == bar j) (p == bar i) twin)
    ])
  where
    at_both : (k l : ℕ) → k ≢ l → (p == k ≡ true) × (p == l ≡ true) → ⊥
    at_both k l n b = n (sym (eqb-true p k b.0) ∙ eqb-true p l b.1)

pub matrix-tightened : (m : Table) (i j : ℕ) (c : ℤ) → IsMatrix m → i ≢ j → IsMatrix (tightened m i j c)
unfolding tightened at_or_twin
matrix-tightened m i j c h differ =
    matrix_of m.vars (λ p q. cond (at_or_twin i j p q) (lesser (entry m p q) (Some c)) (entry m p q)) h.some h.few
    (λ p b. rw (at_or_twin-diagonal i j p differ) (h.diagonal p b))
    (λ p q b d. ap₂ (λ t e. cond t (lesser e (Some c)) e) (at_or_twin-twin i j p q) (h.twins p q b d))

pub matrix-joined : (m o : Table) → IsMatrix m → IsMatrix o → m.vars ≡ o.vars → IsMatrix (joined m o)
unfolding joined
matrix-joined m o h k same =
    matrix_of m.vars (λ i j. greater (entry m i j) (entry o i j)) h.some h.few
    (λ i b. ap₂ greater (h.diagonal i b) (k.diagonal i (rw (← same) b)))
    (λ i j b d. ap₂ greater (h.twins i j b d) (k.twins i j (rw (← same) b) (rw (← same) d)))

pub matrix-forgotten : (m : Table) (var : ℕ) → IsMatrix m → IsMatrix (forgotten m var)
unfolding forgotten
matrix-forgotten m var h =
    matrix_of m.vars (λ i j. cond (i == j) (entry m i j) (cond (i / 2 == var || j / 2 == var) None (entry m i j))) h.some h.few
    (λ i b. rw (eq-eqb i i refl) (h.diagonal i b))
    (λ i j b d. rw (test-bars j i, test_swap j i, bar-half i, bar-half j, ← h.twins i j b d) (swapped (i == j) (i / 2 == var) (j / 2 == var) (entry m i j)))
  where
    swapped : (s a c : Bool) (e : Bound) → cond s e (cond (a || c) None e) ≡ cond s e (cond (c || a) None e)
    swapped s a c e = grind arith

rise-bar : (var : ℕ) (c : ℤ) (i : ℕ) → rise var c (bar i) ≡ neg_ℤ (rise var c i)
unfolding rise
rise-bar var c i = rw (bar-half i, bar-odd i) (turned (i / 2 == var) (i % 2) (omega arith))
  where
    turned : (t : Bool) (r : ℕ) → r < 2 → cond t (cond (1 - r == 0) c (neg_ℤ c)) (pos 0) ≡ neg_ℤ (cond t (cond (r == 0) c (neg_ℤ c)) (pos 0))
    turned false r h = refl
    turned true zero h = refl
    turned true (suc zero) h = omega (arith, ints)
    turned true (suc (suc r)) h = absurd (omega arith)

pub matrix-shifted : (m : Table) (var : ℕ) (c : ℤ) → IsMatrix m → IsMatrix (shifted m var c)
unfolding shifted
matrix-shifted m var c h =
    matrix_of m.vars (λ i j. option_map (λ z. z +ℤ (rise var c j -ℤ rise var c i)) (entry m i j)) h.some h.few
    (λ i b. rw (h.diagonal i b) (ap Some (omega (arith, ints))))
    (λ i j b d. ap₂ (λ t e. option_map (λ z. z +ℤ t) e) (turned i j) (h.twins i j b d))
  where
    turned : (i j : ℕ) → rise var c j -ℤ rise var c i ≡ rise var c (bar i) -ℤ rise var c (bar j)
    turned i j = rw (rise-bar var c i, rise-bar var c j) (omega (arith, ints))

-- ---- the number of variables stays

pub vars-top : (vars : ℕ) → (top_table vars).vars ≡ vars
unfolding top_table table
vars-top vars = refl

pub vars-tightened : (m : Table) (i j : ℕ) (c : ℤ) → (tightened m i j c).vars ≡ m.vars
unfolding tightened table
vars-tightened m i j c = refl

pub vars-joined : (m o : Table) → (joined m o).vars ≡ m.vars
unfolding joined table
vars-joined m o = refl

pub vars-forgotten : (m : Table) (var : ℕ) → (forgotten m var).vars ≡ m.vars
unfolding forgotten table
vars-forgotten m var = refl

pub vars-shifted : (m : Table) (var : ℕ) (c : ℤ) → (shifted m var c).vars ≡ m.vars
unfolding shifted table
vars-shifted m var c = refl
