-- Tables that are made from their entries.
use Rattle.std.proofs.Common.{◌≡◌, ◌≢◌, ℕ, ◌+◌, ◌*◌, ◌^◌, ◌/◌, ◌%◌, ◌<◌, ◌≤◌, ◌==◌, ◌&&◌, ◌||◌, Bool, true, false, cond, ℤ, pos, unsigned_abs, List, length, get_or, Some, None, ap, ap₂, sym, subst, refl, ◌∙◌, ◌⊎◌, inl, inr, arith}
use Rattle.std.proofs.lemmas.Bool.{cases_eq, eq-eqb, ne_eqb, eqb-true, or_left, or_cases, and_from, and_parts}
use Rattle.std.proofs.lemmas.List.{get_or-set_same, get_or-set_other}
use Rattle.std.proofs.Math.ListN.{set}
use Rattle.sa_dbm.specs.Bounds.{Bound, lesser, AtMost}
use Rattle.sa_dbm.specs.Tables.{Table, nodes, bar, entry, forgotten, top_table, IsMatrix, IsWithin}
use Rattle.sa_dbm.proofs.BoundLaws.{at_most_refl, at_most_trans, at_most_antisym, lesser_left, lesser_right, lesser_greatest}
use Rattle.sa_dbm.proofs.TableLaws.{entry-table, vars-table, vars-tightened, vars-forgotten, matrix-tightened, at_or_twin, tightened_entry}
use Rattle.sa_dbm.proofs.Sizes.{within-tightened}
use Rattle.sa_octagon.specs.Filled.{at_place, HoldsEntries, lowered_to, AreEntries, IsFilled, IsEmpty}

pub top_empty : (vars : ℕ) → IsEmpty (top_table vars)
unfolding top_table
top_empty vars = λ p q a b n.
    entry-table vars (λ i j. cond (i == j) (Some (pos 0)) None) p q (rw vars-table at a) (rw vars-table at b) ∙ ap (λ t. cond t (Some (pos 0)) None) (ne_eqb p q n)

pub nodes-lowered_to : (m : Table) (i j : ℕ) (b : Bound) → nodes (lowered_to m i j b) ≡ nodes m
nodes-lowered_to m i j None = refl
nodes-lowered_to m i j (Some c) = ap (λ v. 2 * v) (vars-tightened m i j c)

pub within_lowered_to : (m : Table) (i j : ℕ) (b : Bound) → ((z : ℤ) → b ≡ Some z → unsigned_abs z ≤ 2 ^ 100) → IsWithin (2 ^ 100) m → IsWithin (2 ^ 100) (lowered_to m i j b)
within_lowered_to m i j None s h = h
within_lowered_to m i j (Some c) s h = within-tightened (2 ^ 100) m i j c h (s c refl)

pub matrix_lowered_to : (m : Table) (i j : ℕ) (b : Bound) → i ≢ j → IsMatrix m → IsMatrix (lowered_to m i j b)
matrix_lowered_to m i j None n h = h
matrix_lowered_to m i j (Some c) n h = matrix-tightened m i j c h n

lowered_below : (m : Table) (i j : ℕ) (b : Bound) (p q : ℕ) → p < nodes m → q < nodes m → AtMost (entry (lowered_to m i j b) p q) (entry m p q)
lowered_below m i j None p q h k = at_most_refl (entry m p q)
lowered_below m i j (Some c) p q h k = rw (tightened_entry m i j c p q h k) (either (at_or_twin i j p q) (entry m p q))
  where
    either : (t : Bool) (e : Bound) → AtMost (cond t (lesser e (Some c)) e) e
    either true e = lesser_left e (Some c)
    either false e = at_most_refl e

lowered_here : (m : Table) (i j : ℕ) (b : Bound) → i < nodes m → j < nodes m → AtMost (entry (lowered_to m i j b) i j) b
unfolding at_or_twin
lowered_here m i j None h k = tt
lowered_here m i j (Some c) h k =
    rw (tightened_entry m i j c i j h k)
    (subst (λ t. AtMost (cond t (lesser (entry m i j) (Some c)) (entry m i j)) (Some c)) (sym own) (lesser_right (entry m i j) (Some c)))
  where
    own : at_or_twin i j i j ≡ true
    own = or_left (i == i && j == j) (i == bar j && j == bar i) (and_from (i == i) (j == j) (eq-eqb i i refl) (eq-eqb j j refl))

lowered_above : (m : Table) (i j : ℕ) (b d : Bound) (p q : ℕ) → p < nodes m → q < nodes m → AtMost d (entry m p q) → (at_or_twin i j p q ≡ true → d ≡ b) → AtMost d (entry (lowered_to m i j b) p q)
lowered_above m i j None d p q h k l e = l
lowered_above m i j (Some c) d p q h k l e = rw (tightened_entry m i j c p q h k) (either (at_or_twin i j p q) e)
  where
    either : (t : Bool) → (t ≡ true → d ≡ Some c) → AtMost d (cond t (lesser (entry m p q) (Some c)) (entry m p q))
    either true e = lesser_greatest d (entry m p q) (Some c) l (subst (AtMost d) (e refl) (at_most_refl d))
    either false e = l

twin_places : (i j p q : ℕ) → at_or_twin i j p q ≡ true → ((p ≡ i) × (q ≡ j)) ⊎ ((p ≡ bar j) × (q ≡ bar i))
unfolding at_or_twin
twin_places i j p q e =
    elim (or_cases (p == i && q == j) (p == bar j && q == bar i) e) [
      | inl own ↦ (let t = and_parts (p == i) (q == j) own in inl (eqb-true p i t.0, eqb-true q j t.1))
      | inr twin ↦ (let t = and_parts (p == bar j) (q == bar i) twin in inr (eqb-true p (bar j) t.0, eqb-true q (bar i) t.1))
    ]

module _ (n : ℕ) (f : ℕ → ℕ → Bound) (few : n ≤ 16) (entries : AreEntries n f) where
  pub filled_start : (m : Table) → nodes m ≡ n → IsMatrix m → IsWithin (2 ^ 100) m → IsEmpty m → IsFilled n f 0 m
  filled_start m e matrix h empty = record {
    size = e;
    matrix = matrix;
    within = h;
    above = λ p q a b d. subst (AtMost (f p q)) (sym (empty p q (rw e a) (rw e b) d)) tt;
    done = λ p q a b d k. absurd (omega arith);
  }

  -- one more place
  pub filled_more : (m : Table) (i j k : ℕ) → i < n → j < n → i ≢ j → i * 16 + j ≡ k → IsFilled n f k m → IsFilled n f (k + 1) (lowered_to m i j (f i j))
  filled_more m i j k a b d e h = record {
    size = nodes-lowered_to m i j (f i j) ∙ h.size;
    matrix = matrix_lowered_to m i j (f i j) d h.matrix;
    within = within_lowered_to m i j (f i j) (λ z s. entries.sizes i j z a b d s) h.within;
    above = λ p q r s t. lowered_above m i j (f i j) (f p q) p q (inside p r) (inside q s) (h.above p q r s t) (λ w. same p q (twin_places i j p q w));
    done = λ p q r s t l.
        elim (cases_eq (p * 16 + q) k) [
          | inl here ↦
              (let p' : p ≡ i = omega arith in
              let q' : q ≡ j = omega arith in
              rw (p', q') (lowered_here m i j (f i j) (inside i a) (inside j b)))
          | inr other ↦ at_most_trans (entry (lowered_to m i j (f i j)) p q) (entry m p q) (f p q) (lowered_below m i j (f i j) p q (inside p r) (inside q s)) (h.done p q r s t (omega arith))
        ];
  }
    where
      inside : (p : ℕ) → p < n → p < nodes m
      inside p r = rw h.size r

      same : (p q : ℕ) → ((p ≡ i) × (q ≡ j)) ⊎ ((p ≡ bar j) × (q ≡ bar i)) → f p q ≡ f i j
      same p q (inl w) = ap₂ f w.0 w.1
      same p q (inr w) = ap₂ f w.0 w.1 ∙ sym (entries.twins i j a b d)

  -- a place that is no place of the table, or that of a node on itself
  pub filled_skip : (m : Table) (k : ℕ) → ((p q : ℕ) → p < n → q < n → p ≢ q → p * 16 + q ≢ k) → IsFilled n f k m → IsFilled n f (k + 1) m
  filled_skip m k none h = record {
    size = h.size;
    matrix = h.matrix;
    within = h.within;
    above = h.above;
    done = λ p q r s t l. let other = none p q r s t in h.done p q r s t (omega arith);
  }

  pub filled_entry : (m : Table) → IsFilled n f 256 m → (p q : ℕ) → p < n → q < n → p ≢ q → entry m p q ≡ f p q
  filled_entry m h p q r s t = at_most_antisym (entry m p q) (f p q) (h.done p q r s t (omega arith)) (h.above p q r s t)

-- ---- a list of entries, place by place

pub place_is : (entries : List Bound) (k : ℕ) → get_or entries k None ≡ at_place entries (k / 16) (k % 16)
place_is entries k = ap (λ x. get_or entries x None) (omega arith)

pub holds_more : (n : ℕ) (f : ℕ → ℕ → Bound) (few : n ≤ 16) (entries : List Bound) (i j k : ℕ) (b : Bound) → i * 16 + j ≡ k → j < 16 → k < length entries → b ≡ f i j
    → HoldsEntries n f k entries → HoldsEntries n f (k + 1) (set entries k b)
holds_more n f few entries i j k b at inside room e h = λ p q r s t l.
    elim (cases_eq (p * 16 + q) k) [
      | inl here ↦
          (let p' : p ≡ i = omega arith in
          let q' : q ≡ j = omega arith in
          ap (λ x. get_or (set entries k b) x None) here ∙ get_or-set_same entries k b None room ∙ e ∙ sym (ap₂ f p' q'))
      | inr other ↦ get_or-set_other entries k (p * 16 + q) b None other ∙ h p q r s t (omega arith)
    ]

pub holds_skip : (n : ℕ) (f : ℕ → ℕ → Bound) (entries : List Bound) (k : ℕ) → ((p q : ℕ) → p < n → q < n → p ≢ q → p * 16 + q ≢ k) → HoldsEntries n f k entries → HoldsEntries n f (k + 1) entries
holds_skip n f entries k none h = λ p q r s t l. (let other = none p q r s t in h p q r s t (omega arith))

-- ---- one place more is forgotten

pub forgotten_empty : (m new : Table) (k : ℕ) → new ≡ forgotten m k → ((p q : ℕ) → p < nodes m → q < nodes m → p ≢ q → p / 2 < k → entry m p q ≡ None)
    → (p q : ℕ) → p < nodes new → q < nodes new → p ≢ q → p / 2 < k + 1 → entry new p q ≡ None
unfolding forgotten
forgotten_empty m new k e h p q a b n l =
    ap (λ t. entry t p q) e
    ∙ entry-table m.vars (λ i j. cond (i == j) (entry m i j) (cond (i / 2 == k || j / 2 == k) None (entry m i j))) p q (inside p a) (inside q b)
    ∙ ap (λ t. cond t (entry m p q) (cond (p / 2 == k || q / 2 == k) None (entry m p q))) (ne_eqb p q n)
    ∙ elim (cases_eq (p / 2) k) [
      | inl same ↦ ap (λ t. cond (t || q / 2 == k) None (entry m p q)) (eq-eqb (p / 2) k same)
      | inr other ↦ either (p / 2 == k || q / 2 == k) (h p q (inside p a) (inside q b) n (omega arith))
    ]
  where
    inside : (i : ℕ) → i < nodes new → i < nodes m
    inside i s = rw (ap (λ (t : Table). t.vars) e ∙ vars-forgotten m k) at s

    either : (t : Bool) → entry m p q ≡ None → cond t None (entry m p q) ≡ None
    either true e = refl
    either false e = e
