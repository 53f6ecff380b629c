-- The operations on stored tables, place by place.
use Rattle.std.proofs.Common.{◌≡◌, ◌≢◌, ℕ, zero, suc, ◌+◌, ◌*◌, ◌/◌, ◌%◌, ◌<◌, ◌≤◌, ◌==◌, ◌&&◌, ◌||◌, Bool, true, false, cond, List, ℤ, pos, ◌+ℤ◌, ◌-ℤ◌, neg_ℤ, length, Some, None, option_map, MatchBool, ◌↔◌, inl, inr, ap, ap₂, sym, subst, subst₂, refl, ◌∙◌, arith}
use Rattle.std.specs.List.{range_with_len, list_all}
use Rattle.std.proofs.lemmas.Bool.{cases_eq, eq-eqb, ne_eqb, eqb-true, eqb-false, and_from, and_parts, both_ways, false≢true, false_from_ne_true}
use Rattle.std.proofs.lemmas.Nat.{div-add-mod', div_below, mod_below, mul-add-lt}
use Rattle.std.proofs.lemmas.Int.{ints}
use Rattle.sa_dbm.specs.Bounds.{Bound, plus, lesser, greater, at_most, AtMost}
use Rattle.sa_dbm.specs.Tables.{bar, entry, tightened, joined, is_below, IsBelow, forgotten, rise, shifted}
use Rattle.sa_dbm.specs.Stored.{shown_at, stored}
use Rattle.sa_dbm.proofs.BoundLaws.{lesser_above, lesser_right, plus_none, plus-zero_right}
use Rattle.sa_dbm.proofs.TableLaws.{square_some, bar_below}
use Rattle.sa_dbm.proofs.StoredLaws.{entry-stored, at_most_test, at_most_fails, stored_is, places_differ}
use Rattle.sa_dbm.proofs.NodeLaws.{Added}

-- a test on two places, as a fact
same_place : (p q i j : ℕ) → (p == i && q == j) ≡ true → (p ≡ i) × (q ≡ j)
same_place p q i j e = let t = and_parts (p == i) (q == j) e in (eqb-true p i t.0, eqb-true q j t.1)

other_place : (p q i j : ℕ) → (p == i && q == j) ≡ false → p ≡ i → q ≡ j → ⊥
other_place p q i j e f g = both_ways (p == i && q == j) e (and_from (p == i) (q == j) (eq-eqb p i f) (eq-eqb q j g))

-- ---- an entry and its twin lowered

module _ (vars i j : ℕ) (xs ys zs : List ℤ) (c : Bound) (row : i < 2 * vars) (column : j < 2 * vars)
    (here : shown_at ys (i * (2 * vars) + j) ≡ lesser (shown_at xs (i * (2 * vars) + j)) c)
    (others : (p : ℕ) → p ≢ i * (2 * vars) + j → shown_at ys p ≡ shown_at xs p)
    (there : shown_at zs (bar j * (2 * vars) + bar i) ≡ lesser (shown_at ys (bar j * (2 * vars) + bar i)) c)
    (away : (p : ℕ) → p ≢ bar j * (2 * vars) + bar i → shown_at zs p ≡ shown_at ys p) where
  -- the twin's place, which may be the place itself
  lowered_there : shown_at zs (bar j * (2 * vars) + bar i) ≡ lesser (shown_at xs (bar j * (2 * vars) + bar i)) c
  lowered_there =
      elim (cases_eq (bar j * (2 * vars) + bar i) (i * (2 * vars) + j)) [
        | inl same ↦ there ∙ ap (λ k. lesser (shown_at ys k) c) same ∙ ap (λ b. lesser b c) here ∙ twice (shown_at xs (i * (2 * vars) + j)) ∙ ap (λ k. lesser (shown_at xs k) c) (sym same)
        | inr other ↦ there ∙ ap (λ b. lesser b c) (others (bar j * (2 * vars) + bar i) other)
      ]
    where
      twice : (b : Bound) → lesser (lesser b c) c ≡ lesser b c
      twice b = lesser_above (lesser b c) c (lesser_right b c)

  lowered_at : (p q : ℕ) → p < 2 * vars → q < 2 * vars → (s : Bool) → (p == i && q == j) ≡ s → (t : Bool) → (p == bar j && q == bar i) ≡ t
      → shown_at zs (p * (2 * vars) + q) ≡ cond (s || t) (lesser (shown_at xs (p * (2 * vars) + q)) c) (shown_at xs (p * (2 * vars) + q))
  lowered_at p q a b true e true f = let k = same_place p q (bar j) (bar i) f in rw (k.0, k.1) lowered_there
  lowered_at p q a b false e true f = let k = same_place p q (bar j) (bar i) f in rw (k.0, k.1) lowered_there
  lowered_at p q a b true e false f =
      let k = same_place p q i j e in
      away (p * (2 * vars) + q) (places_differ (2 * vars) (bar j) (bar i) p q (bar_below i vars row) b (other_place p q (bar j) (bar i) f)) ∙ rw (k.0, k.1) here
  lowered_at p q a b false e false f =
      away (p * (2 * vars) + q) (places_differ (2 * vars) (bar j) (bar i) p q (bar_below i vars row) b (other_place p q (bar j) (bar i) f))
      ∙ others (p * (2 * vars) + q) (places_differ (2 * vars) i j p q column b (other_place p q i j e))

pub tightened_stored : (vars i j : ℕ) (xs ys zs : List ℤ) (c : ℤ) → i < 2 * vars → j < 2 * vars → length zs ≡ 2 * vars * (2 * vars)
    → shown_at ys (i * (2 * vars) + j) ≡ lesser (shown_at xs (i * (2 * vars) + j)) (Some c) → ((p : ℕ) → p ≢ i * (2 * vars) + j → shown_at ys p ≡ shown_at xs p)
    → shown_at zs (bar j * (2 * vars) + bar i) ≡ lesser (shown_at ys (bar j * (2 * vars) + bar i)) (Some c) → ((p : ℕ) → p ≢ bar j * (2 * vars) + bar i → shown_at zs p ≡ shown_at ys p)
    → stored vars zs ≡ tightened (stored vars xs) i j c
unfolding tightened stored
tightened_stored vars i j xs ys zs c row column whole here others there away =
    stored_is vars zs (λ p q. cond (p == i && q == j || p == bar j && q == bar i) (lesser (entry (stored vars xs) p q) (Some c)) (entry (stored vars xs) p q)) whole (λ p q a b.
    lowered_at vars i j xs ys zs (Some c) row column here others there away p q a b (p == i && q == j) refl (p == bar j && q == bar i) refl
    ∙ ap (λ e. cond (p == i && q == j || p == bar j && q == bar i) (lesser e (Some c)) e) (sym (entry-stored vars xs p q)))

-- ---- two tables joined

pub joined_stored : (vars : ℕ) (xs ys zs : List ℤ) → length xs ≡ 2 * vars * (2 * vars) → length zs ≡ 2 * vars * (2 * vars)
    → ((p : ℕ) → p < length xs → shown_at zs p ≡ greater (shown_at xs p) (shown_at ys p)) → stored vars zs ≡ joined (stored vars xs) (stored vars ys)
unfolding joined stored
joined_stored vars xs ys zs square whole same =
    stored_is vars zs (λ i j. greater (entry (stored vars xs) i j) (entry (stored vars ys) i j)) whole (λ i j p q.
    same (i * (2 * vars) + j) (omega (arith, mul-add-lt i (2 * vars) j (2 * vars) p q)) ∙ sym (ap₂ greater (entry-stored vars xs i j) (entry-stored vars ys i j)))

-- ---- both nodes of a variable

-- which node of the variable a node is
data Place (var i : ℕ) : Type 0 where
  upper : i ≡ 2 * var → Place var i
  lower : i ≡ 2 * var + 1 → Place var i
  outside : i / 2 ≢ var → Place var i

place_of : (var i : ℕ) → Place var i
place_of var i =
    elim (cases_eq (i / 2) var) [
      | inl own ↦ elim (cases_eq (i % 2) 0) [ inl even ↦ upper (omega arith) | inr odd ↦ lower (omega arith) ]
      | inr other ↦ outside other
    ]

-- what a node's row or column gains, by two bounds for the variable's two nodes
gain : ℕ → Bound → Bound → ℕ → Bound
gain var r s i = cond (i / 2 == var) (cond (i % 2 == 0) r s) (Some (pos 0))

gain-upper : (var : ℕ) (r s : Bound) → gain var r s (2 * var) ≡ r
unfolding gain
gain-upper var r s = grind arith

gain-lower : (var : ℕ) (r s : Bound) → gain var r s (2 * var + 1) ≡ s
unfolding gain
gain-lower var r s = grind arith

gain-outside : (var : ℕ) (r s : Bound) (i : ℕ) → i / 2 ≢ var → gain var r s i ≡ Some (pos 0)
unfolding gain
gain-outside var r s i n = ap (λ t. cond t (cond (i % 2 == 0) r s) (Some (pos 0))) (ne_eqb (i / 2) var n)

gain-none : (var i : ℕ) → gain var None None i ≡ cond (i / 2 == var) None (Some (pos 0))
unfolding gain
gain-none var i = ap (λ b. cond (i / 2 == var) b (Some (pos 0))) (same (i % 2 == 0))
  where
    same : (t : Bool) → cond {A = Bound} t None None ≡ None
    same true = refl
    same false = refl

gain-rise : (var : ℕ) (c : ℤ) (i : ℕ) → gain var (Some c) (Some (neg_ℤ c)) i ≡ Some (rise var c i)
unfolding gain rise
gain-rise var c i = by_tests (i / 2 == var) (i % 2 == 0)
  where
    by_tests : (t u : Bool) → cond t (cond u (Some c) (Some (neg_ℤ c))) (Some (pos 0)) ≡ Some (cond t (cond u c (neg_ℤ c)) (pos 0))
    by_tests true true = refl
    by_tests true false = refl
    by_tests false u = refl

gain-fall : (var : ℕ) (c : ℤ) (i : ℕ) → gain var (Some (neg_ℤ c)) (Some c) i ≡ Some (neg_ℤ (rise var c i))
unfolding gain rise
gain-fall var c i = by_tests (i / 2 == var) (i % 2 == 0)
  where
    by_tests : (t u : Bool) → cond t (cond u (Some (neg_ℤ c)) (Some c)) (Some (pos 0)) ≡ Some (neg_ℤ (cond t (cond u c (neg_ℤ c)) (pos 0)))
    by_tests true true = refl
    by_tests true false = ap Some (omega (arith, ints))
    by_tests false u = refl

half_upper : {i var : ℕ} → i ≡ 2 * var → i / 2 ≡ var
half_upper e = omega arith

half_lower : {i var : ℕ} → i ≡ 2 * var + 1 → i / 2 ≡ var
half_lower e = omega arith

module _ (vars var : ℕ) (xs ys zs : List ℤ) (r s : Bound) (inside : var < vars)
    (first : Added (2 * vars) (2 * var) (2 * vars) xs ys r s) (second : Added (2 * vars) (2 * var + 1) (2 * vars) ys zs s r) where
  -- the effect on an entry of two nodes
  both : (i j : ℕ) → i < 2 * vars → j < 2 * vars → i ≢ j → Place var i → Place var j
      → shown_at zs (i * (2 * vars) + j) ≡ plus (plus (shown_at xs (i * (2 * vars) + j)) (gain var r s i)) (gain var s r j)
  both i j p q n (upper e) (upper f) = absurd (n (e ∙ sym f))
  both i j p q n (upper e) (lower f) =
      rw (e, f, gain-upper, gain-lower)
      (second.column (2 * var) (omega arith) (omega arith) ∙ ap (λ b. plus b r) (first.row (2 * var + 1) (omega arith) (omega arith)))
  both i j p q n (lower e) (upper f) =
      rw (e, f, gain-upper, gain-lower)
      (second.row (2 * var) (omega arith) (omega arith) ∙ ap (λ b. plus b s) (first.column (2 * var + 1) (omega arith) (omega arith)))
  both i j p q n (lower e) (lower f) = absurd (n (e ∙ sym f))
  both i j p q n (upper e) (outside f) =
      rw (e, gain-upper, gain-outside var s r j f, plus-zero_right)
      (second.others (2 * var) j (omega arith) q (λ a. absurd (omega arith)) (λ a. absurd (f (half_lower a))) ∙ first.row j q (λ a. f (half_upper a)))
  both i j p q n (lower e) (outside f) =
      rw (e, gain-lower, gain-outside var s r j f, plus-zero_right)
      (second.row j q (λ a. f (half_lower a)) ∙ ap (λ b. plus b s) (first.others (2 * var + 1) j (omega arith) q (λ a. absurd (omega arith)) (λ a. absurd (f (half_upper a)))))
  both i j p q n (outside e) (upper f) =
      rw (f, gain-upper, gain-outside var r s i e, plus-zero_right)
      (second.others i (2 * var) p (omega arith) (λ a. absurd (e (half_lower a))) (λ a. absurd (omega arith)) ∙ first.column i p (λ a. e (half_upper a)))
  both i j p q n (outside e) (lower f) =
      rw (f, gain-lower, gain-outside var r s i e, plus-zero_right)
      (second.column i p (λ a. e (half_lower a)) ∙ ap (λ b. plus b r) (first.others i (2 * var + 1) p (omega arith) (λ a. absurd (e (half_upper a))) (λ a. absurd (omega arith))))
  both i j p q n (outside e) (outside f) =
      rw (gain-outside var r s i e, gain-outside var s r j f, plus-zero_right, plus-zero_right)
      (second.others i j p q (λ a. absurd (e (half_lower a))) (λ a. absurd (f (half_lower a))) ∙ first.others i j p q (λ a. absurd (e (half_upper a))) (λ a. absurd (f (half_upper a))))

  -- from a node to itself nothing changes
  own : (i : ℕ) → i < 2 * vars → shown_at zs (i * (2 * vars) + i) ≡ shown_at xs (i * (2 * vars) + i)
  own i p = second.others i i p p (λ e _. e) (λ e _. e) ∙ first.others i i p p (λ e _. e) (λ e _. e)

pub forgotten_stored : (vars var : ℕ) (xs ys zs : List ℤ) → var < vars → length zs ≡ 2 * vars * (2 * vars)
    → Added (2 * vars) (2 * var) (2 * vars) xs ys None None → Added (2 * vars) (2 * var + 1) (2 * vars) ys zs None None
    → stored vars zs ≡ forgotten (stored vars xs) var
unfolding forgotten stored
forgotten_stored vars var xs ys zs inside whole first second =
    stored_is vars zs (λ i j. cond (i == j) (entry (stored vars xs) i j) (cond (i / 2 == var || j / 2 == var) None (entry (stored vars xs) i j))) whole (λ i j p q.
    at i j p q (i == j) refl ∙ ap (λ e. cond (i == j) e (cond (i / 2 == var || j / 2 == var) None e)) (sym (entry-stored vars xs i j)))
  where
    cleared : (t u : Bool) (b : Bound) → plus (plus b (cond t None (Some (pos 0)))) (cond u None (Some (pos 0))) ≡ cond (t || u) None b
    cleared true true b = plus_none (plus b None)
    cleared true false b = rw plus-zero_right (plus_none b)
    cleared false true b = plus_none (plus b (Some (pos 0)))
    cleared false false b = rw (plus-zero_right, plus-zero_right) refl

    at : (i j : ℕ) → i < 2 * vars → j < 2 * vars → (s : Bool) → (i == j) ≡ s
        → shown_at zs (i * (2 * vars) + j) ≡ cond s (shown_at xs (i * (2 * vars) + j)) (cond (i / 2 == var || j / 2 == var) None (shown_at xs (i * (2 * vars) + j)))
    at i j p q true e = let same = eqb-true i j e in subst (λ k. shown_at zs (i * (2 * vars) + k) ≡ shown_at xs (i * (2 * vars) + k)) same (own vars var xs ys zs None None inside first second i p)
    at i j p q false e =
        both vars var xs ys zs None None inside first second i j p q (eqb-false i j e) (place_of var i) (place_of var j)
        ∙ ap₂ (λ a b. plus (plus (shown_at xs (i * (2 * vars) + j)) a) b) (gain-none var i) (gain-none var j)
        ∙ cleared (i / 2 == var) (j / 2 == var) (shown_at xs (i * (2 * vars) + j))

pub shifted_stored : (vars var : ℕ) (xs ys zs : List ℤ) (c : ℤ) → var < vars → length zs ≡ 2 * vars * (2 * vars)
    → Added (2 * vars) (2 * var) (2 * vars) xs ys (Some (neg_ℤ c)) (Some c) → Added (2 * vars) (2 * var + 1) (2 * vars) ys zs (Some c) (Some (neg_ℤ c))
    → stored vars zs ≡ shifted (stored vars xs) var c
unfolding shifted stored
shifted_stored vars var xs ys zs c inside whole first second =
    stored_is vars zs (λ i j. option_map (λ z. z +ℤ (rise var c j -ℤ rise var c i)) (entry (stored vars xs) i j)) whole (λ i j p q.
    at i j p q (i == j) refl ∙ ap (λ e. option_map (λ z. z +ℤ (rise var c j -ℤ rise var c i)) e) (sym (entry-stored vars xs i j)))
  where
    still : (b : Bound) (r : ℤ) → b ≡ option_map (λ z. z +ℤ (r -ℤ r)) b
    still None r = refl
    still (Some z) r = ap Some (omega (arith, ints))

    moved : (b : Bound) (r s : ℤ) → plus (plus b (Some (neg_ℤ r))) (Some s) ≡ option_map (λ z. z +ℤ (s -ℤ r)) b
    moved None r s = refl
    moved (Some z) r s = ap Some (omega (arith, ints))

    at : (i j : ℕ) → i < 2 * vars → j < 2 * vars → (s : Bool) → (i == j) ≡ s
        → shown_at zs (i * (2 * vars) + j) ≡ option_map (λ z. z +ℤ (rise var c j -ℤ rise var c i)) (shown_at xs (i * (2 * vars) + j))
    at i j p q true e =
        let same = eqb-true i j e in
        subst (λ k. shown_at zs (i * (2 * vars) + k) ≡ option_map (λ z. z +ℤ (rise var c k -ℤ rise var c i)) (shown_at xs (i * (2 * vars) + k))) same
        (own vars var xs ys zs (Some (neg_ℤ c)) (Some c) inside first second i p ∙ still (shown_at xs (i * (2 * vars) + i)) (rise var c i))
    at i j p q false e =
        both vars var xs ys zs (Some (neg_ℤ c)) (Some c) inside first second i j p q (eqb-false i j e) (place_of var i) (place_of var j)
        ∙ ap₂ (λ a b. plus (plus (shown_at xs (i * (2 * vars) + j)) a) b) (gain-fall var c i) (gain-rise var c j)
        ∙ moved (shown_at xs (i * (2 * vars) + j)) (rise var c i) (rise var c j)

-- ---- the order

all_from : (a n p : ℕ) (f : ℕ → Bool) → list_all f (range_with_len a n) ≡ true → a ≤ p → p < a + n → f p ≡ true
all_from a zero p f e low high = absurd (omega arith)
all_from a (suc n) p f e low high =
    let parts = and_parts (f a) (list_all f (range_with_len (a + 1) n)) e in
    elim (cases_eq p a) [
      | inl same ↦ subst (λ k. f k ≡ true) (sym same) parts.0
      | inr other ↦ all_from (a + 1) n p f parts.1 (omega arith) (omega arith)
    ]

from_all : (a n : ℕ) (f : ℕ → Bool) → ((p : ℕ) → a ≤ p → p < a + n → f p ≡ true) → list_all f (range_with_len a n) ≡ true
from_all a zero f h = refl
from_all a (suc n) f h = and_from (f a) (list_all f (range_with_len (a + 1) n)) (h a (omega arith) (omega arith)) (from_all (a + 1) n f (λ p low high. h p (omega arith) (omega arith)))

module _ (vars : ℕ) (xs ys : List ℤ) (square : length xs ≡ 2 * vars * (2 * vars)) where
  place_test : ℕ → Bool
  place_test p = at_most (entry (stored vars xs) (p / (2 * vars)) (p % (2 * vars))) (entry (stored vars ys) (p / (2 * vars)) (p % (2 * vars)))

  -- the entry at a place
  place_is : (zs : List ℤ) (p : ℕ) → entry (stored vars zs) (p / (2 * vars)) (p % (2 * vars)) ≡ shown_at zs p
  place_is zs p = entry-stored vars zs (p / (2 * vars)) (p % (2 * vars)) ∙ ap (shown_at zs) (div-add-mod' p (2 * vars))

  test_is : (p : ℕ) → place_test p ≡ at_most (shown_at xs p) (shown_at ys p)
  unfolding place_test
  test_is p = ap₂ at_most (place_is xs p) (place_is ys p)

  pub order_test : (r : Bool)
      → MatchBool r ((p : ℕ) → p < length xs → AtMost (shown_at xs p) (shown_at ys p)) ((p : ℕ) × (p < length xs) × (at_most (shown_at xs p) (shown_at ys p) ≡ false))
      → r ≡ is_below (stored vars xs) (stored vars ys)
  unfolding is_below stored place_test
  order_test true h = sym (from_all 0 (2 * vars * (2 * vars)) place_test (λ p low high. test_is p ∙ at_most_test _ _ (h p (omega arith))))
  order_test false f = sym (false_from_ne_true _ (λ e. both_ways _ (test_is f.0 ∙ f.2) (all_from 0 (2 * vars * (2 * vars)) f.0 place_test e (omega arith) (let b = f.1 in omega arith))))

  pub order_fact : (r : Bool)
      → MatchBool r ((p : ℕ) → p < length xs → AtMost (shown_at xs p) (shown_at ys p)) ((p : ℕ) × (p < length xs) × (at_most (shown_at xs p) (shown_at ys p) ≡ false))
      → (r ≡ true) ↔ IsBelow (stored vars xs) (stored vars ys)
  unfolding stored
  order_fact true h = (λ _. λ i j p q. subst₂ AtMost (sym (entry-stored vars xs i j)) (sym (entry-stored vars ys i j)) (h (i * (2 * vars) + j) (omega (arith, mul-add-lt i (2 * vars) j (2 * vars) p q))), λ _. refl)
  order_fact false f = (λ e. absurd (false≢true e), λ below. absurd (at_most_fails (shown_at xs f.0) (shown_at ys f.0) f.2 (at f.0 f.1 below)))
    where
      at : (p : ℕ) → p < length xs → IsBelow (stored vars xs) (stored vars ys) → AtMost (shown_at xs p) (shown_at ys p)
      at p b below =
          let n = 2 * vars in
          let inside : p < n * n = omega arith in
          let some = square_some n p inside in
          subst₂ AtMost (place_is xs p) (place_is ys p) (below (p / n) (p % n) (div_below p n n some inside) (mod_below p n some))
