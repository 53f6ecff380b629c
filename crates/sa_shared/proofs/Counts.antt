-- How many nodes a walk makes, and which number the tree has that it leaves.
use Rattle.std.proofs.Common.{◌≡◌, ◌⊎◌, inl, inr, ℕ, zero, suc, ◌+◌, ◌<◌, ◌≤◌, refl, arith}
use Rattle.sa_shared.specs.Walks.{IsKept, with_above}

pub at_most_above : (m : ℕ) → m ≤ with_above m
unfolding with_above
at_most_above zero = omega arith
at_most_above (suc m) = omega arith

above_some : (m : ℕ) → 0 < m → with_above m ≡ suc m
unfolding with_above
above_some zero h = absurd (omega arith)
above_some (suc m) h = refl

above_none : (m : ℕ) → m ≡ 0 → with_above m ≡ 0
unfolding with_above
above_none zero h = refl
above_none (suc m) h = absurd (omega arith)

-- two halves l and r of a tree, in a list of so many nodes at first, so many after the first half and so many after both
module _ (a b l r new_l new_r first between last : ℕ) (l_in : l < first) (r_in : r < first) (more : first ≤ between) (more_on : between ≤ last)
    (left : IsKept a l first new_l) (right : IsKept b r between new_r) where
  both : ((a + b ≡ 0) × ((new_l ≡ l) × (new_r ≡ r))) ⊎ ((0 < a + b) × ((new_l ≡ l) × (new_r ≡ r) → ⊥))
  both = elim left [
    | inl e ↦ elim right [
      | inl f ↦ inl (omega (arith, e.0, f.0), (e.1, f.1))
      | inr f ↦ inr (omega (arith, f.0), λ h. omega (arith, f.1, h.1, r_in, more))
    ]
    | inr e ↦ inr (omega (arith, e.0), λ h. omega (arith, e.1, h.0, l_in))
  ]

  pub kept_above : (number n : ℕ) → (((new_l ≡ l) × (new_r ≡ r)) × (n ≡ number)) ⊎ (((new_l ≡ l) × (new_r ≡ r) → ⊥) × (n ≡ last))
      → IsKept (with_above (a + b)) number first n
  kept_above number n made = elim both [
    | inl e ↦ elim made [
      | inl h ↦ inl (above_none (a + b) e.0, h.1)
      | inr h ↦ absurd (h.0 e.1)
    ]
    | inr e ↦ elim made [
      | inl h ↦ absurd (e.1 h.0)
      | inr h ↦ inr (omega (arith, above_some (a + b) e.0, e.0), omega (arith, h.1, more, more_on))
    ]
  ]

  pub few_above : (end : ℕ) → between ≤ first + a → last ≤ between + b → ((new_l ≡ l) × (new_r ≡ r) → end ≡ last) → end ≤ last + 1
      → end ≤ first + with_above (a + b)
  few_above end few few_on same one = elim both [
    | inl e ↦ omega (arith, e.0, same e.1, few, few_on)
    | inr e ↦ omega (arith, above_some (a + b) e.0, few, few_on, one)
  ]
