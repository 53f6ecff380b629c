-- What is added to the bounds of one node, place by place.
use Rattle.std.proofs.Common.{◌≡◌, ◌≢◌, ℕ, ◌+◌, ◌*◌, ◌^◌, ◌<◌, ◌≤◌, List, ℤ, unsigned_abs, Some, inl, inr, ap, sym, subst, ◌∙◌, arith}
use Rattle.std.proofs.lemmas.Bool.{cases_eq}
use Rattle.std.proofs.lemmas.Option.{none-some, same_Some}
use Rattle.sa_dbm.specs.Bounds.{Bound, plus}
use Rattle.sa_dbm.specs.Tables.{IsWithin}
use Rattle.sa_dbm.specs.Stored.{no_bound, shown, shown_at, stored, IsSummable}
use Rattle.sa_numbers.proofs.Sizes.{size_of_sum}
use Rattle.sa_dbm.proofs.BoundLaws.{plus_parts}
use Rattle.sa_dbm.proofs.StoredLaws.{places_differ, shown-no_bound, entry-stored}

-- to the bounds of node v with the nodes below i, a row's bound and a column's bound were added
pub record Added (n v i : ℕ) (old xs : List ℤ) (r c : Bound) : Type 0 where
  pub row : (k : ℕ) → k < i → k ≢ v → shown_at xs (v * n + k) ≡ plus (shown_at old (v * n + k)) r
  pub column : (k : ℕ) → k < i → k ≢ v → shown_at xs (k * n + v) ≡ plus (shown_at old (k * n + v)) c
  pub others : (p q : ℕ) → p < n → q < n → (p ≡ v → q < i → q ≡ v) → (q ≡ v → p < i → p ≡ v) → shown_at xs (p * n + q) ≡ shown_at old (p * n + q)

module _ (n v i : ℕ) (old xs : List ℤ) (r c : Bound) (node : v < n) (inside : i < n) (was : Added n v i old xs r c) where
  -- nothing is to be done at the node itself
  pub added_skip : i ≡ v → Added n v (i + 1) old xs r c
  added_skip same = record {
    row = λ k h d. was.row k (omega arith) d;
    column = λ k h d. was.column k (omega arith) d;
    others = λ p q h k e f. was.others p q h k (λ a b. e a (omega arith)) (λ a b. f a (omega arith));
  }

  -- the two bounds with node i are written
  module _ (ys zs : List ℤ) (differ : i ≢ v)
      (here : shown_at ys (v * n + i) ≡ plus (shown_at xs (v * n + i)) r) (apart : (p : ℕ) → p ≢ v * n + i → shown_at ys p ≡ shown_at xs p)
      (there : shown_at zs (i * n + v) ≡ plus (shown_at ys (i * n + v)) c) (away : (p : ℕ) → p ≢ i * n + v → shown_at zs p ≡ shown_at ys p) where
    untouched : (p q : ℕ) → p < n → q < n → (p ≡ v → q ≡ i → ⊥) → (p ≡ i → q ≡ v → ⊥) → shown_at zs (p * n + q) ≡ shown_at xs (p * n + q)
    untouched p q h k a b = away (p * n + q) (places_differ n i v p q node k b) ∙ apart (p * n + q) (places_differ n v i p q inside k a)

    pub added_more : Added n v (i + 1) old zs r c
    added_more = record {
      row = λ k h d.
          elim (cases_eq k i) [
            | inl same ↦ rw same (away (v * n + i) (places_differ n i v v i node inside (λ e _. differ (sym e))) ∙ here ∙ ap (λ b. plus b r) (was.others v i node inside (λ _ b. absurd (omega arith)) (λ e _. absurd (differ e))))
            | inr other ↦ untouched v k node (omega arith) (λ _ e. other e) (λ e _. differ (sym e)) ∙ was.row k (omega arith) d
          ];
      column = λ k h d.
          elim (cases_eq k i) [
            | inl same ↦ rw same (there ∙ ap (λ b. plus b c) (apart (i * n + v) (places_differ n v i i v inside node (λ e _. differ e)) ∙ was.others i v inside node (λ e _. absurd (differ e)) (λ _ b. absurd (omega arith))))
            | inr other ↦ untouched k v (omega arith) node (λ e _. d e) (λ e _. other e) ∙ was.column k (omega arith) d
          ];
      others = λ p q h k e f.
          untouched p q h k (λ a b. differ (sym b ∙ e a (omega arith))) (λ a b. differ (sym a ∙ f b (omega arith)))
          ∙ was.others p q h k (λ a b. e a (omega arith)) (λ a b. f a (omega arith));
    }

-- all other nodes are done
pub added_all : (n v : ℕ) (old xs : List ℤ) (r c : Bound)
    → ((i : ℕ) → i < n → i ≢ v → shown_at xs (v * n + i) ≡ plus (shown_at old (v * n + i)) r)
    → ((i : ℕ) → i < n → i ≢ v → shown_at xs (i * n + v) ≡ plus (shown_at old (i * n + v)) c)
    → ((i j : ℕ) → i < n → j < n → (i ≡ v → j ≡ v) → (j ≡ v → i ≡ v) → shown_at xs (i * n + j) ≡ shown_at old (i * n + j))
    → Added n v n old xs r c
added_all n v old xs r c row column others = record {
  row = row;
  column = column;
  others = λ p q h k e f. others p q h k (λ a. e a k) (λ b. f b h);
}

-- no larger than what an operation takes
abbrev pub Small : Bound → Type 0
Small b = (z : ℤ) → b ≡ Some z → unsigned_abs z ≤ 2 ^ 100

pub small_summable : (b : Bound) → Small b → IsSummable b
small_summable b h = λ z e. let k = h z e in omega arith

pub none_summable : IsSummable (shown no_bound)
none_summable = λ z e. absurd (none-some z (sym shown-no_bound ∙ e))

plus_summable : (a b : Bound) → Small a → Small b → IsSummable (plus a b)
plus_summable a b h k = λ z e.
    let parts = plus_parts a b z e in
    rw parts.4 (let s = size_of_sum parts.0 parts.1 (2 ^ 100) (2 ^ 100) (h parts.0 parts.2) (k parts.1 parts.3) in omega arith)

pub added_summable : (n v : ℕ) (old xs : List ℤ) (r c : Bound) → Added n v n old xs r c → v < n → Small r → Small c
    → ((i j : ℕ) → i < n → j < n → Small (shown_at old (i * n + j))) → (i j : ℕ) → i < n → j < n → IsSummable (shown_at xs (i * n + j))
added_summable n v old xs r c h b small_r small_c small i j p q =
    elim (cases_eq i v) [
      | inl e ↦ elim (cases_eq j v) [
        | inl f ↦ kept i j p q (λ _. f) (λ _. e)
        | inr g ↦ subst (λ k. IsSummable (shown_at xs (k * n + j))) (sym e) (changed (v * n + j) r (h.row j q g) (small v j b q) small_r)
      ]
      | inr d ↦ elim (cases_eq j v) [
        | inl f ↦ subst (λ k. IsSummable (shown_at xs (i * n + k))) (sym f) (changed (i * n + v) c (h.column i p d) (small i v p b) small_c)
        | inr g ↦ kept i j p q (λ e. absurd (d e)) (λ f. absurd (g f))
      ]
    ]
  where
    kept : (i j : ℕ) → i < n → j < n → (i ≡ v → j ≡ v) → (j ≡ v → i ≡ v) → IsSummable (shown_at xs (i * n + j))
    kept i j p q e f = subst IsSummable (sym (h.others i j p q (λ a _. e a) (λ a _. f a))) (small_summable _ (small i j p q))

    changed : (p : ℕ) (b : Bound) → shown_at xs p ≡ plus (shown_at old p) b → Small (shown_at old p) → Small b → IsSummable (shown_at xs p)
    changed p b e k l = subst IsSummable (sym e) (plus_summable (shown_at old p) b k l)

pub stored_small : (vars : ℕ) (xs : List ℤ) → IsWithin (2 ^ 100) (stored vars xs) → (i j : ℕ) → i < 2 * vars → j < 2 * vars → Small (shown_at xs (i * (2 * vars) + j))
unfolding stored
stored_small vars xs h i j p q = λ z e. h i j z p q (entry-stored vars xs i j ∙ e)

pub none_small : Small (shown no_bound)
none_small = λ z e. absurd (none-some z (sym shown-no_bound ∙ e))

pub number_small : (b : Bound) (c : ℤ) → b ≡ Some c → unsigned_abs c ≤ 2 ^ 100 → Small b
number_small b c e h = λ z f. subst (λ x. unsigned_abs x ≤ 2 ^ 100) (same_Some c z (sym e ∙ f)) h
