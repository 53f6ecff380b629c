-- That a meet bounds a place on both sides, and takes no such bound from another place.
use Rattle.std.proofs.Common.{◌≡◌, ℕ, ◌+◌, ◌<◌, ◌≤◌, ◌==◌, ◌&&◌, not, Bool, true, false, cond, ℤ, neg_ℤ, ◌+ℤ◌, unsigned_abs, Some, None, inl, inr, ap, refl, ◌∙◌}
use Rattle.std.proofs.lemmas.Bool.{eq-eqb, or_left, and_from}
use Rattle.sa_interval.specs.Span.{Span}
use Rattle.sa_numbers.proofs.Sizes.{size_of_sum, size-negated}
use Rattle.sa_dbm.specs.Bounds.{Bound, lesser}
use Rattle.sa_dbm.specs.Tables.{Table, nodes, bar, entry, tightened, IsWithin}
use Rattle.sa_dbm.proofs.BoundLaws.{lesser_is_one}
use Rattle.sa_dbm.proofs.TableLaws.{vars-tightened, at_or_twin, tightened_entry}
use Rattle.sa_dbm.proofs.Sizes.{within-tightened}
use Rattle.sa_octagon.specs.Packs.{IsSpanWithin, IsBoundedAt, node, met}
use Rattle.sa_octagon.proofs.Signs.{node_below}

-- a bound that is a number of at most that size
abbrev Sized : ℕ → Bound → Type 0
Sized limit b = (z : ℤ) × (b ≡ Some z) × (unsigned_abs z ≤ limit)

lowered : (limit : ℕ) (b : Bound) (c : ℤ) → ((y : ℤ) → b ≡ Some y → unsigned_abs y ≤ limit) → unsigned_abs c ≤ limit → Sized limit (lesser b (Some c))
lowered limit None c h k = (c, refl, k)
lowered limit (Some y) c h k = elim (lesser_is_one (Some y) (Some c)) [ inl e ↦ (y, e, h y refl) | inr e ↦ (c, e, k) ]

-- the entry that is lowered, and each other one that is a number
sized_here : (limit : ℕ) (t : Table) (i j : ℕ) (c : ℤ) → i < nodes t → j < nodes t → IsWithin limit t → unsigned_abs c ≤ limit → Sized limit (entry (tightened t i j c) i j)
unfolding at_or_twin
sized_here limit t i j c a b h k =
    let r = lowered limit (entry t i j) c (λ y e. h i j y a b e) k in
    (r.0, tightened_entry t i j c i j a b ∙ ap (λ x. cond x (lesser (entry t i j) (Some c)) (entry t i j)) own ∙ r.1, r.2)
  where
    own : at_or_twin i j i j ≡ true
    own = or_left (i == i && j == j) (i == bar j && j == bar i) (and_from (i == i) (j == j) (eq-eqb i i refl) (eq-eqb j j refl))

sized_still : (limit : ℕ) (t : Table) (i j : ℕ) (c : ℤ) (p q : ℕ) → p < nodes t → q < nodes t → unsigned_abs c ≤ limit → Sized limit (entry t p q) → Sized limit (entry (tightened t i j c) p q)
sized_still limit t i j c p q a b k s =
    let r = either (at_or_twin i j p q) in
    (r.0, tightened_entry t i j c p q a b ∙ r.1, r.2)
  where
    either : (x : Bool) → Sized limit (cond x (lesser (entry t p q) (Some c)) (entry t p q))
    either true =
        elim (lesser_is_one (entry t p q) (Some c)) [
          | inl e ↦ (s.0, e ∙ s.1, s.2)
          | inr e ↦ (c, e, k)
        ]
    either false = s

module _ (limit : ℕ) (t : Table) (x : ℕ) (v : Span) (inside : x < t.vars) (w : IsSpanWithin limit v) where
  hi : unsigned_abs (v.hi +ℤ v.hi) ≤ limit + limit
  hi = size_of_sum v.hi v.hi limit limit w.hi w.hi

  lo : unsigned_abs (neg_ℤ (v.lo +ℤ v.lo)) ≤ limit + limit
  lo = rw size-negated (size_of_sum v.lo v.lo limit limit w.lo w.lo)

  abbrev halfway : Table
  halfway = tightened t (node false x) (node true x) (v.hi +ℤ v.hi)

  below : (s : Bool) (y : ℕ) → y < t.vars → node s y < nodes halfway
  below s y h = node_below s y halfway.vars (rw vars-tightened h)

  pub met_bounded : IsWithin (limit + limit) t → IsBoundedAt (limit + limit) x (met t x v)
  met_bounded h true =
      sized_here (limit + limit) halfway (node true x) (node false x) (neg_ℤ (v.lo +ℤ v.lo)) (below true x inside) (below false x inside)
      (within-tightened (limit + limit) t (node false x) (node true x) (v.hi +ℤ v.hi) h hi) lo
  met_bounded h false =
      sized_still (limit + limit) halfway (node true x) (node false x) (neg_ℤ (v.lo +ℤ v.lo)) (node false x) (node true x) (below false x inside) (below true x inside) lo
      (sized_here (limit + limit) t (node false x) (node true x) (v.hi +ℤ v.hi) (node_below false x t.vars inside) (node_below true x t.vars inside) h hi)

  pub met_bounded_still : (y : ℕ) → y < t.vars → IsBoundedAt (limit + limit) y t → IsBoundedAt (limit + limit) y (met t x v)
  met_bounded_still y h b = λ s.
      sized_still (limit + limit) halfway (node true x) (node false x) (neg_ℤ (v.lo +ℤ v.lo)) (node s y) (node (not s) y) (below s y h) (below (not s) y h) lo
      (sized_still (limit + limit) t (node false x) (node true x) (v.hi +ℤ v.hi) (node s y) (node (not s) y) (node_below s y t.vars h) (node_below (not s) y t.vars h) hi (b s))
