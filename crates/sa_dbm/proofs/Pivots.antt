-- The totals that come of taking each node in turn as a pivot, and that they are the least ones over walks of at
-- most 16 arcs. R. W. Floyd, Algorithm 97: Shortest path, Communications of the ACM 5 (1962).
use Rattle.std.proofs.Common.{◌≡◌, ℕ, zero, suc, ◌+◌, ◌*◌, ◌^◌, ◌<◌, ◌≤◌, Bool, true, false, ℤ, pos, ◌+ℤ◌, unsigned_abs, length, Some, None, inl, inr, sym, subst, refl, ◌∙◌, arith, pow-suc}
use Rattle.std.specs.List.{range_with_len, list_any}
use Rattle.std.proofs.lemmas.Bool.{cases_eq, cases_Bool, or_from, or_left, or_right, both_ways, true_from_ne_false}
use Rattle.sa_dbm.specs.Bounds.{Bound, plus, lesser, AtMost, IsFlat, is_negative, least}
use Rattle.sa_dbm.specs.Tables.{Table, nodes, entry, table, IsMatrix, IsWithin}
use Rattle.sa_dbm.specs.Walks.{Walk, stay, go, at_once, one_more, walks}
use Rattle.sa_dbm.proofs.TableLaws.{length-table}
use Rattle.sa_dbm.specs.Closed.{some_negative, shortest, has_negative_walk}
use Rattle.sa_numbers.proofs.Sizes.{size_of_sum}
use Rattle.sa_dbm.proofs.BoundLaws.{at_most_refl, at_most_trans, at_most_antisym, lesser_left, lesser_right, lesser_greatest, lesser_is_one, plus_mono, plus_zero_left, plus-zero_right, plus_group, plus_parts}
use Rattle.sa_dbm.proofs.WalkLaws.{one_arc, joined_walks, reached_by_walk, below_each_walk, at_most_by_numbers, NoDescent, below_every_walk}

-- the totals after the nodes below k were pivots
unfoldable pub through : Table → ℕ → ℕ → ℕ → Bound
through m zero i j = entry m i j
through m (suc k) i j = lesser (through m k i j) (plus (through m k i k) (through m k k j))

-- each is the total of a walk
pub through_walk : (m : Table) (k i j : ℕ) (t : ℤ) → k ≤ nodes m → i < nodes m → j < nodes m → through m k i j ≡ Some t → (a : ℕ) × Walk m a i j t
unfolding through
through_walk m zero i j t b p q e = (1, one_arc m i j t p q e)
through_walk m (suc k) i j t b p q e =
    elim (lesser_is_one (through m k i j) (plus (through m k i k) (through m k k j))) [
      | inl before ↦ through_walk m k i j t (omega arith) p q (sym before ∙ e)
      | inr pivot ↦
          let parts = plus_parts (through m k i k) (through m k k j) t (sym pivot ∙ e) in
          let to = through_walk m k i k parts.0 (omega arith) p (omega arith) parts.2 in
          let from = through_walk m k k j parts.1 (omega arith) (omega arith) q parts.3 in
          (to.0 + from.0, subst (λ u. Walk m (to.0 + from.0) i j u) (sym parts.4) (joined_walks to.1 from.1))
    ]

pub through_entry : (m : Table) (k i j : ℕ) → AtMost (through m k i j) (entry m i j)
unfolding through
through_entry m zero i j = at_most_refl (entry m i j)
through_entry m (suc k) i j = at_most_trans _ (through m k i j) (entry m i j) (lesser_left (through m k i j) (plus (through m k i k) (through m k k j))) (through_entry m k i j)

-- no pivot's own entry was negative in its turn
abbrev pub FlatPivots : Table → ℕ → Type 0
FlatPivots m k = (h : ℕ) → h < k → IsFlat (through m h h h)

-- with a pivot that isn't negative, a sum by it is at least what it was
flat_left : (a b : Bound) → IsFlat b → AtMost a (plus a b)
flat_left a b h = subst (λ c. AtMost c (plus a b)) (plus-zero_right a) (plus_mono a a (Some (pos 0)) b (at_most_refl a) h)

flat_right : (a b : Bound) → IsFlat a → AtMost b (plus a b)
flat_right a b h = subst (λ c. AtMost c (plus a b)) (plus_zero_left b) (plus_mono (Some (pos 0)) a b b h (at_most_refl b))

either_lesser : (P : Bound → Type 0) (a b : Bound) → P a → P b → P (lesser a b)
either_lesser P a b p q = elim (lesser_is_one a b) [ inl e ↦ subst P (sym e) p | inr e ↦ subst P (sym e) q ]

-- the four ways from i by h to j, of which each part may have come by the pivot k
module _ (ij ih hj ik kj kh hk kk : Bound) (flat : IsFlat kk) (old : AtMost ij (plus ih hj)) (to : AtMost ik (plus ih hk)) (from : AtMost kj (plus kh hj)) (round : AtMost kk (plus kh hk)) where
  new : Bound
  new = lesser ij (plus ik kj)

  by_pivot : (b : Bound) → AtMost (plus ik kj) b → AtMost new b
  unfolding new
  by_pivot b h = at_most_trans new (plus ik kj) b (lesser_right ij (plus ik kj)) h

  neither : AtMost new (plus ih hj)
  unfolding new
  neither = at_most_trans new ij (plus ih hj) (lesser_left ij (plus ik kj)) old

  first_by_pivot : AtMost new (plus (plus ik kh) hj)
  first_by_pivot = by_pivot _ (rw plus_group (plus_mono ik ik kj (plus kh hj) (at_most_refl ik) from))

  second_by_pivot : AtMost new (plus ih (plus hk kj))
  second_by_pivot = by_pivot _ (rw (← plus_group ih hk kj) (plus_mono ik (plus ih hk) kj kj to (at_most_refl kj)))

  both_by_pivot : AtMost new (plus (plus ik kh) (plus hk kj))
  both_by_pivot =
      by_pivot _ (rw (plus_group ik kh (plus hk kj), ← plus_group kh hk kj)
      (plus_mono ik ik kj (plus (plus kh hk) kj) (at_most_refl ik)
      (at_most_trans kj (plus kk kj) _ (flat_right kk kj flat) (plus_mono kk (plus kh hk) kj kj round (at_most_refl kj)))))

  by_parts : AtMost new (plus (lesser ih (plus ik kh)) (lesser hj (plus hk kj)))
  by_parts =
      either_lesser (λ a. AtMost new (plus a (lesser hj (plus hk kj)))) ih (plus ik kh)
      (either_lesser (λ b. AtMost new (plus ih b)) hj (plus hk kj) neither second_by_pivot)
      (either_lesser (λ b. AtMost new (plus (plus ik kh) b)) hj (plus hk kj) first_by_pivot both_by_pivot)

-- after the nodes below k were pivots, none of them gives a way that is shorter
pub through_pivots : (m : Table) (k : ℕ) → FlatPivots m k → (h i j : ℕ) → h < k → AtMost (through m k i j) (plus (through m k i h) (through m k h j))
unfolding through new
through_pivots m zero flat h i j b = absurd (omega arith)
through_pivots m (suc k) flat h i j b =
    let t = through m k in
    let kk = flat k (omega arith) in
    elim (cases_eq h k) [
      | inl same ↦
          rw same (at_most_trans _ (plus (t i k) (t k j)) _ (lesser_right (t i j) (plus (t i k) (t k j)))
          (plus_mono (t i k) _ (t k j) _ (lesser_greatest (t i k) (t i k) (plus (t i k) (t k k)) (at_most_refl (t i k)) (flat_left (t i k) (t k k) kk))
          (lesser_greatest (t k j) (t k j) (plus (t k k) (t k j)) (at_most_refl (t k j)) (flat_right (t k k) (t k j) kk))))
      | inr other ↦
          let old = through_pivots m k (λ l c. flat l (omega arith)) in
          let c : h < k = omega arith in
          by_parts (t i j) (t i h) (t h j) (t i k) (t k j) (t k h) (t h k) (t k k) kk (old h i j c) (old h i k c) (old h k j c) (old h k k c)
    ]

-- no entry from a node to itself is negative at the end
abbrev pub FlatDiagonal : Table → Type 0
FlatDiagonal m = (i : ℕ) → i < nodes m → IsFlat (through m (nodes m) i i)

-- then each is at most the total of every walk
pub below_walks : (m : Table) → FlatPivots m (nodes m) → ((i : ℕ) → i < nodes m → entry m i i ≡ Some (pos 0))
    → {k i j : ℕ} {t : ℤ} → i < nodes m → Walk m k i j t → AtMost (through m (nodes m) i j) (Some t)
below_walks m flat diagonal {i = i} p stay = subst (λ b. AtMost (through m (nodes m) i i) b) (diagonal i p) (through_entry m (nodes m) i i)
below_walks m flat diagonal p (go {i = i} {h} {j} {x} {y} r q e w) =
    let n = nodes m in
    let first = subst (λ b. AtMost (through m n i h) b) e (through_entry m n i h) in
    at_most_trans _ (plus (through m n i h) (through m n h j)) (Some (x +ℤ y)) (through_pivots m n flat h i j q)
    (plus_mono (through m n i h) (Some x) (through m n h j) (Some y) first (below_walks m flat diagonal q w))

no_descent : (m : Table) → IsMatrix m → FlatPivots m (nodes m) → FlatDiagonal m → NoDescent m
no_descent m h pivots flat i a t p b w = at_most_trans (Some (pos 0)) (through m (nodes m) i i) (Some t) (flat i p) (below_walks m pivots h.diagonal p w)

-- the totals are the least ones over walks of at most 16 arcs
pub through_all : (m : Table) → IsMatrix m → FlatPivots m (nodes m) → FlatDiagonal m → (i j : ℕ) → i < nodes m → j < nodes m → through m (nodes m) i j ≡ entry (shortest m) i j
through_all m h pivots flat i j p q =
    let n = nodes m in
    at_most_antisym (through m n i j) (entry (shortest m) i j)
    (at_most_by_numbers (through m n i j) (entry (shortest m) i j) (λ t e. below_walks m pivots h.diagonal p (reached_by_walk m 16 i j t p q e).2))
    (at_most_by_numbers (entry (shortest m) i j) (through m n i j)
    (λ t e. below_every_walk m h.few (no_descent m h pivots flat) p q (through_walk m n i j t (omega arith) p q e).1))

-- ---- negative entries

pub flat_from_test : (b : Bound) → is_negative b ≡ false → IsFlat b
flat_from_test None e = tt
flat_from_test (Some z) e = grind arith

pub test_from_flat : (b : Bound) → IsFlat b → is_negative b ≡ false
test_from_flat None h = refl
test_from_flat (Some z) h = grind arith

any_from : (a n i : ℕ) (f : ℕ → Bool) → a ≤ i → i < a + n → f i ≡ true → list_any f (range_with_len a n) ≡ true
any_from a zero i f low high e = absurd (omega arith)
any_from a (suc n) i f low high e =
    elim (cases_eq i a) [
      | inl same ↦ or_left (f a) (list_any f (range_with_len (a + 1) n)) (subst (λ k. f k ≡ true) same e)
      | inr other ↦ or_right (f a) (list_any f (range_with_len (a + 1) n)) (any_from (a + 1) n i f (omega arith) (omega arith) e)
    ]

none_from : (a n : ℕ) (f : ℕ → Bool) → ((i : ℕ) → a ≤ i → i < a + n → f i ≡ false) → list_any f (range_with_len a n) ≡ false
none_from a zero f h = refl
none_from a (suc n) f h =
    or_from (f a) (list_any f (range_with_len (a + 1) n)) (h a (omega arith) (omega arith)) (none_from (a + 1) n f (λ i low high. h i (omega arith) (omega arith)))

pub some_negative_at : (n i : ℕ) (f : ℕ → Bound) → i < n → is_negative (f i) ≡ true → some_negative n f ≡ true
some_negative_at n i f p e = any_from 0 n i (λ k. is_negative (f k)) (omega arith) (omega arith) e

pub none_negative : (n : ℕ) (f : ℕ → Bound) → ((i : ℕ) → i < n → IsFlat (f i)) → some_negative n f ≡ false
none_negative n f h = none_from 0 n (λ k. is_negative (f k)) (λ i low high. test_from_flat (f i) (h i (omega arith)))

pub none_negative_at : (n : ℕ) (f : ℕ → Bound) → some_negative n f ≡ false → (i : ℕ) → i < n → IsFlat (f i)
none_negative_at n f e i p =
    elim (cases_Bool (is_negative (f i))) [
      | inl yes' ↦ absurd (both_ways (some_negative n f) e (some_negative_at n i f p yes'))
      | inr no' ↦ flat_from_test (f i) no'
    ]

pub vars-walks : (m : Table) (k : ℕ) → (walks m k).vars ≡ m.vars
unfolding walks one_more table
vars-walks m zero = refl
vars-walks m (suc k) = refl

pub length-walks : (m : Table) (k : ℕ) → length (walks m k).bounds ≡ nodes (walks m k) * nodes (walks m k)
unfolding walks one_more table
length-walks m zero = length-table m.vars at_once
length-walks m (suc k) = length-table m.vars (λ i j. lesser (at_once i j) (least (nodes m) (λ h. plus (entry m i h) (entry (walks m k) h j))))

pub no_negative_walk : (m : Table) → IsMatrix m → FlatPivots m (nodes m) → FlatDiagonal m → has_negative_walk (shortest m) ≡ false
unfolding has_negative_walk
no_negative_walk m h pivots flat =
    none_negative (nodes (shortest m)) (λ i. entry (shortest m) i i)
    (λ i p. let q : i < nodes m = subst (λ v. i < 2 * v) (vars-walks m 16) p in subst IsFlat (through_all m h pivots flat i i q q) (flat i q))

-- a total that is negative from a node to itself
pub negative_walk : (m : Table) (k i : ℕ) → IsMatrix m → k ≤ nodes m → i < nodes m → is_negative (through m k i i) ≡ true → has_negative_walk (shortest m) ≡ true
unfolding has_negative_walk
negative_walk m k i h b p e =
    true_from_ne_false _ (λ f.
    let level : (l : ℕ) → l < nodes m → IsFlat (entry (shortest m) l l) = λ l q. none_negative_at _ (λ i. entry (shortest m) i i) f l (subst (λ v. l < 2 * v) (sym (vars-walks m 16)) q) in
    let flat : NoDescent m = λ l a t q c w. at_most_trans (Some (pos 0)) (entry (shortest m) l l) (Some t) (level l q) (below_each_walk m 16 c q q w) in
    let lowest : AtMost (entry (shortest m) i i) (through m k i i) = at_most_by_numbers (entry (shortest m) i i) (through m k i i) (λ t e. below_every_walk m h.few flat p p (through_walk m k i i t b p p e).1) in
    both_ways _ (test_from_flat (through m k i i) (at_most_trans (Some (pos 0)) (entry (shortest m) i i) (through m k i i) (level i p) lowest)) e)

-- ---- how large the totals get

pub through_within : (m : Table) (limit k i j : ℕ) (t : ℤ) → IsWithin limit m → k ≤ nodes m → i < nodes m → j < nodes m → through m k i j ≡ Some t → unsigned_abs t ≤ 2 ^ k * limit
unfolding through
through_within m limit zero i j t h b p q e = omega (arith, h i j t p q e)
through_within m limit (suc k) i j t h b p q e =
    elim (lesser_is_one (through m k i j) (plus (through m k i k) (through m k k j))) [
      | inl before ↦ twice (omega (arith, through_within m limit k i j t h (omega arith) p q (sym before ∙ e)))
      | inr pivot ↦
          let parts = plus_parts (through m k i k) (through m k k j) t (sym pivot ∙ e) in
          let to = through_within m limit k i k parts.0 h (omega arith) p (omega arith) parts.2 in
          let from = through_within m limit k k j parts.1 h (omega arith) (omega arith) q parts.3 in
          rw parts.4 (twice (size_of_sum parts.0 parts.1 (2 ^ k * limit) (2 ^ k * limit) to from))
    ]
  where
    twice : {n : ℕ} → n ≤ 2 ^ k * limit + 2 ^ k * limit → n ≤ 2 ^ suc k * limit
    twice h = rw pow-suc (omega arith)
