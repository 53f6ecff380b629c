-- What bounds say of the numbers at places.
use Rattle.std.proofs.Common.{◌≡◌, ℕ, ◌^◌, ◌<◌, ◌≤◌, not, Bool, true, false, ℤ, pos, negsuc, neg_ℤ, ◌+ℤ◌, ◌-ℤ◌, ◌≤ℤ◌, unsigned_abs, FitsSigned, to_z, of_z, Some, None, ap, ap₂, sym, subst, subst₂, refl, ◌∙◌, arith}
use Rattle.std.specs.Int.{w128}
use Rattle.std.proofs.lemmas.Int.{ints, clamps, to_z-of_z}
use Rattle.std.proofs.lemmas.Option.{none-some, same_Some}
use Rattle.sa_interval.specs.Span.{Span, Within, IsInterval, cut, low_limit, high_limit}
use Rattle.sa_dbm.specs.Bounds.{Bound, plus, half, AtMost, IsFlat}
use Rattle.sa_dbm.specs.Tables.{Table, nodes, bar, entry, IsMatrix, IsWithin}
use Rattle.sa_dbm.specs.Points.{Point, value, LiesIn}
use Rattle.sa_dbm.specs.Closed.{IsClosed}
use Rattle.sa_numbers.proofs.Sizes.{size-half, size_of_sum, size-negated}
use Rattle.sa_dbm.proofs.BoundLaws.{flat_halved}
use Rattle.sa_dbm.proofs.Soundness.{below_halved}
use Rattle.sa_octagon.specs.Packs.{node, signed, above, below, unary_of, pair_of}
use Rattle.sa_octagon.proofs.Signs.{node_below, value-node, guarded_difference}

fits_by_size : (b : ℤ) → unsigned_abs b ≤ 2 ^ 101 → FitsSigned w128 b
fits_by_size (pos n) h = omega (arith, ints)
fits_by_size (negsuc n) h = omega (arith, ints)

fits_negated : (b : ℤ) → unsigned_abs b ≤ 2 ^ 101 → FitsSigned w128 (pos 0 -ℤ b)
fits_negated (pos n) h = omega (arith, ints)
fits_negated (negsuc n) h = omega (arith, ints)

pub negated_fits : (b : ℤ) → unsigned_abs b ≤ 2 ^ 101 → FitsSigned w128 (pos 0 -ℤ to_z w128 (of_z w128 b))
negated_fits b h = rw (to_z-of_z w128 b (fits_by_size b (omega arith))) (fits_negated b h)

pub negated : (b : ℤ) → unsigned_abs b ≤ 2 ^ 101 → to_z w128 (of_z w128 (pos 0 -ℤ to_z w128 (of_z w128 b))) ≡ neg_ℤ b
negated b h =
    ap (λ z. to_z w128 (of_z w128 (pos 0 -ℤ z))) (to_z-of_z w128 b (fits_by_size b (omega arith)))
    ∙ to_z-of_z w128 (pos 0 -ℤ b) (fits_negated b h) ∙ (omega (arith, ints))

-- a bound that is no larger than an interval's may be
abbrev pub IsEnd : Bound → Type 0
IsEnd b = (z : ℤ) → b ≡ Some z → unsigned_abs z ≤ 2 ^ 100

-- bounds that don't contradict each other are the ends of an interval
pub ends_fit : (a b : Bound) → IsEnd a → IsEnd b → IsFlat (plus a b) → IsInterval (record { lo = below a; hi = above b })
ends_fit None None p q h = record { ordered = omega (arith, ints); low = omega (arith, ints); high = omega (arith, ints) }
ends_fit None (Some y) p q h = let s = sizes y (q y refl) in record { ordered = s.0; low = omega (arith, ints); high = s.1 }
  where
    sizes : (z : ℤ) → unsigned_abs z ≤ 2 ^ 100 → (low_limit ≤ℤ z) × (z ≤ℤ high_limit)
    sizes (pos n) k = (omega (arith, ints), omega (arith, ints))
    sizes (negsuc n) k = (omega (arith, ints), omega (arith, ints))
ends_fit (Some x) None p q h = let s = sizes x (p x refl) in record { ordered = s.1; low = s.0; high = omega (arith, ints) }
  where
    sizes : (z : ℤ) → unsigned_abs z ≤ 2 ^ 100 → (low_limit ≤ℤ neg_ℤ z) × (neg_ℤ z ≤ℤ high_limit)
    sizes (pos n) k = (omega (arith, ints), omega (arith, ints))
    sizes (negsuc n) k = (omega (arith, ints), omega (arith, ints))
ends_fit (Some x) (Some y) p q h = let s = low x (p x refl) in let t = high y (q y refl) in record { ordered = omega (arith, ints); low = s; high = t }
  where
    low : (z : ℤ) → unsigned_abs z ≤ 2 ^ 100 → low_limit ≤ℤ neg_ℤ z
    low (pos n) k = omega (arith, ints)
    low (negsuc n) k = omega (arith, ints)

    high : (z : ℤ) → unsigned_abs z ≤ 2 ^ 100 → z ≤ℤ high_limit
    high (pos n) k = omega (arith, ints)
    high (negsuc n) k = omega (arith, ints)

-- and what they hold of lies in it
pub ends_hold : (a b : Bound) (z : ℤ) → IsEnd a → IsEnd b → AtMost (Some (neg_ℤ z)) a → AtMost (Some z) b → Within (record { lo = below a; hi = above b }) (cut z)
ends_hold a b z p q h k = record { above = low a p h; below = high b q k }
  where
    is_low : (x : ℤ) → unsigned_abs x ≤ 2 ^ 100 → neg_ℤ x ≤ℤ high_limit
    is_low (pos n) k = omega (arith, ints)
    is_low (negsuc n) k = omega (arith, ints)

    is_high : (x : ℤ) → unsigned_abs x ≤ 2 ^ 100 → low_limit ≤ℤ x
    is_high (pos n) k = omega (arith, ints)
    is_high (negsuc n) k = omega (arith, ints)

    low : (a : Bound) → IsEnd a → AtMost (Some (neg_ℤ z)) a → below a ≤ℤ cut z
    low None p h = omega (arith, ints, clamps)
    low (Some x) p h = let s = is_low x (p x refl) in omega (arith, ints, clamps)

    high : (b : Bound) → IsEnd b → AtMost (Some z) b → cut z ≤ℤ above b
    high None p h = omega (arith, ints, clamps)
    high (Some x) p h = let s = is_high x (p x refl) in omega (arith, ints, clamps)

-- ---- bounds of one place

bar_up : (x : ℕ) → bar (node true x) ≡ node false x
unfolding bar
bar_up x = grind arith

bar_down : (x : ℕ) → bar (node false x) ≡ node true x
unfolding bar
bar_down x = grind arith

half_is_end : (b : Bound) → ((z : ℤ) → b ≡ Some z → unsigned_abs z ≤ 2 ^ 70) → IsEnd (half b)
half_is_end None h = λ z e. absurd (none-some z e)
half_is_end (Some y) h = λ z e. let k = h y refl in let l = size-half y in subst (λ x. unsigned_abs x ≤ 2 ^ 100) (same_Some _ z e) (omega arith)

module _ (t : Table) (x : ℕ) (inside : x < t.vars) (small : IsWithin (2 ^ 70) t) where
  up : node true x < nodes t
  up = node_below true x t.vars inside

  down : node false x < nodes t
  down = node_below false x t.vars inside

  pub low_end : IsEnd (half (entry t (node true x) (node false x)))
  low_end = half_is_end _ (λ z e. small (node true x) (node false x) z up down e)

  pub high_end : IsEnd (half (entry t (node false x) (node true x)))
  high_end = half_is_end _ (λ z e. small (node false x) (node true x) z down up e)

  pub unary_fits : IsClosed t → IsInterval (unary_of t x)
  unary_fits closed =
      ends_fit (half (entry t (node true x) (node false x))) (half (entry t (node false x) (node true x))) low_end high_end
      (flat_halved _ _ (subst₂ (λ a b. IsFlat (plus a b)) (sym low) (sym high) flat))
    where
      low : plus (half (entry t (node true x) (node false x))) (half (entry t (node true x) (node false x))) ≡ entry t (node true x) (node false x)
      low = subst (λ k. plus (half (entry t (node true x) k)) (half (entry t (node true x) k)) ≡ entry t (node true x) k) (bar_up x) (closed.evens (node true x) up)

      high : plus (half (entry t (node false x) (node true x))) (half (entry t (node false x) (node true x))) ≡ entry t (node false x) (node true x)
      high = subst (λ k. plus (half (entry t (node false x) k)) (half (entry t (node false x) k)) ≡ entry t (node false x) k) (bar_down x) (closed.evens (node false x) down)

      flat : IsFlat (plus (entry t (node true x) (node false x)) (entry t (node false x) (node true x)))
      flat = subst (λ k. IsFlat (plus (entry t (node true x) k) (entry t k (node true x)))) (bar_up x) (closed.agree (node true x) up)

  pub unary_holds : (p : Point) → LiesIn p t → Within (unary_of t x) (cut (p x))
  unary_holds p l =
      ends_hold (half (entry t (node true x) (node false x))) (half (entry t (node false x) (node true x))) (p x) low_end high_end
      (below_halved (neg_ℤ (p x)) _ (subst (λ d. AtMost (Some d) (entry t (node true x) (node false x))) twice_down (l (node true x) (node false x) up down)))
      (below_halved (p x) _ (subst (λ d. AtMost (Some d) (entry t (node false x) (node true x))) twice_up (l (node false x) (node true x) down up)))
    where
      doubled : (z : ℤ) → z -ℤ neg_ℤ z ≡ z +ℤ z
      doubled z = omega (arith, ints)

      doubled_down : (z : ℤ) → neg_ℤ z -ℤ z ≡ neg_ℤ z +ℤ neg_ℤ z
      doubled_down z = omega (arith, ints)

      twice_up : value p (node true x) -ℤ value p (node false x) ≡ p x +ℤ p x
      twice_up = ap₂ (λ a b. a -ℤ b) (value-node p true x) (value-node p false x) ∙ doubled (p x)

      twice_down : value p (node false x) -ℤ value p (node true x) ≡ neg_ℤ (p x) +ℤ neg_ℤ (p x)
      twice_down = ap₂ (λ a b. a -ℤ b) (value-node p false x) (value-node p true x) ∙ doubled_down (p x)

-- ---- bounds of two places

module _ (t : Table) (sx : Bool) (x : ℕ) (sy : Bool) (y : ℕ) (first : x < t.vars) (second : y < t.vars) (small : IsWithin (2 ^ 70) t) where
  to : node sx x < nodes t
  to = node_below sx x t.vars first

  from : node (not sy) y < nodes t
  from = node_below (not sy) y t.vars second

  pub pair_low_end : IsEnd (entry t (node sx x) (node (not sy) y))
  pair_low_end = λ z e. let k = small (node sx x) (node (not sy) y) z to from e in omega arith

  pub pair_high_end : IsEnd (entry t (node (not sy) y) (node sx x))
  pair_high_end = λ z e. let k = small (node (not sy) y) (node sx x) z from to e in omega arith

  pub pair_fits : IsMatrix t → IsClosed t → IsInterval (pair_of t sx x sy y)
  pair_fits matrix closed =
      ends_fit (entry t (node sx x) (node (not sy) y)) (entry t (node (not sy) y) (node sx x)) pair_low_end pair_high_end
      (subst (λ b. AtMost b (plus (entry t (node sx x) (node (not sy) y)) (entry t (node (not sy) y) (node sx x)))) (matrix.diagonal (node sx x) to)
      (closed.triangle (node sx x) (node (not sy) y) (node sx x) to from to))

  pub pair_holds : (p : Point) → LiesIn p t → Within (pair_of t sx x sy y) (cut (signed sx (p x) +ℤ signed sy (p y)))
  pair_holds p l =
      ends_hold (entry t (node sx x) (node (not sy) y)) (entry t (node (not sy) y) (node sx x)) (signed sx (p x) +ℤ signed sy (p y)) pair_low_end pair_high_end
      (subst (λ d. AtMost (Some d) (entry t (node sx x) (node (not sy) y))) (turned (value p (node sx x)) (value p (node (not sy) y)) _ (guarded_difference p sx x sy y)) (l (node sx x) (node (not sy) y) to from))
      (subst (λ d. AtMost (Some d) (entry t (node (not sy) y) (node sx x))) (guarded_difference p sx x sy y) (l (node (not sy) y) (node sx x) from to))
    where
      turned : (a b d : ℤ) → a -ℤ b ≡ d → b -ℤ a ≡ neg_ℤ d
      turned a b d e = omega (arith, ints)

-- ---- ends as they are stored

pub new_ordered : (a b : ℤ) (s : Span) → a ≡ s.lo → b ≡ s.hi → IsInterval s → to_z w128 (of_z w128 a) ≤ℤ to_z w128 (of_z w128 b)
new_ordered a b s e f h = subst₂ (λ a b. to_z w128 (of_z w128 a) ≤ℤ to_z w128 (of_z w128 b)) (sym e) (sym f) (let o = h.ordered in let l = h.low in let u = h.high in omega (arith, ints))

pub new_low : (a : ℤ) (s : Span) → a ≡ s.lo → IsInterval s → low_limit ≤ℤ to_z w128 (of_z w128 a)
new_low a s e h = subst (λ a. low_limit ≤ℤ to_z w128 (of_z w128 a)) (sym e) (let o = h.ordered in let l = h.low in let u = h.high in omega (arith, ints))

pub new_high : (b : ℤ) (s : Span) → b ≡ s.hi → IsInterval s → to_z w128 (of_z w128 b) ≤ℤ high_limit
new_high b s f h = subst (λ b. to_z w128 (of_z w128 b) ≤ℤ high_limit) (sym f) (let o = h.ordered in let l = h.low in let u = h.high in omega (arith, ints))

pub doubled_fits : (b : ℤ) → unsigned_abs b ≤ 2 ^ 100 → FitsSigned w128 (to_z w128 (of_z w128 b) +ℤ to_z w128 (of_z w128 b))
doubled_fits b h = rw (to_z-of_z w128 b (fits_by_size b (omega arith))) (twice b h)
  where
    twice : (b : ℤ) → unsigned_abs b ≤ 2 ^ 100 → FitsSigned w128 (b +ℤ b)
    twice (pos n) h = omega (arith, ints)
    twice (negsuc n) h = omega (arith, ints)

pub doubled_is : (b : ℤ) → unsigned_abs b ≤ 2 ^ 100 → to_z w128 (of_z w128 (to_z w128 (of_z w128 b) +ℤ to_z w128 (of_z w128 b))) ≡ b +ℤ b
doubled_is b h = rw (to_z-of_z w128 b (fits_by_size b (omega arith))) (to_z-of_z w128 (b +ℤ b) (rw (to_z-of_z w128 b (fits_by_size b (omega arith))) at (doubled_fits b h)))

pub doubled_stored : (r w z : ℤ) → r ≡ to_z w128 (of_z w128 w) +ℤ to_z w128 (of_z w128 w) → w ≡ z → unsigned_abs z ≤ 2 ^ 70 → to_z w128 (of_z w128 r) ≡ z +ℤ z
doubled_stored r w z e f h =
    ap (λ r. to_z w128 (of_z w128 r)) (e ∙ ap (λ w. to_z w128 (of_z w128 w) +ℤ to_z w128 (of_z w128 w)) f) ∙ doubled_is z (omega arith)

pub negated_stored : (s r z : ℤ) → s ≡ neg_ℤ (to_z w128 (of_z w128 r)) → to_z w128 (of_z w128 r) ≡ z +ℤ z → unsigned_abs z ≤ 2 ^ 70 → to_z w128 (of_z w128 s) ≡ neg_ℤ (z +ℤ z)
negated_stored s r z e f h = ap (λ s. to_z w128 (of_z w128 s)) (e ∙ ap neg_ℤ f) ∙ to_z-of_z w128 (neg_ℤ (z +ℤ z)) (fits_by_size (neg_ℤ (z +ℤ z)) (rw size-negated (let k = size_of_sum z z (2 ^ 70) (2 ^ 70) h h in omega arith)))

pub sum_stored : (a b : ℤ) → unsigned_abs a ≤ 2 ^ 64 → unsigned_abs b ≤ 2 ^ 64 → to_z w128 (of_z w128 (to_z w128 (of_z w128 a) +ℤ to_z w128 (of_z w128 b))) ≡ a +ℤ b
sum_stored a b h k =
    ap₂ (λ x y. to_z w128 (of_z w128 (x +ℤ y))) (to_z-of_z w128 a (fits_by_size a (omega arith))) (to_z-of_z w128 b (fits_by_size b (omega arith)))
    ∙ to_z-of_z w128 (a +ℤ b) (fits_by_size (a +ℤ b) (let s = size_of_sum a b (2 ^ 64) (2 ^ 64) h k in omega arith))

pub stored_again : (r : ℤ) → unsigned_abs r ≤ 2 ^ 65 → to_z w128 (of_z w128 r) ≡ r
stored_again r h = to_z-of_z w128 r (fits_by_size r (omega arith))
