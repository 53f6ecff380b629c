-- What the calls do to the points of a table.
use Rattle.std.proofs.Common.{◌≡◌, ◌≢◌, ℕ, ◌+◌, ◌<◌, ◌≤◌, ◌==◌, not, Bool, true, false, cond, ℤ, neg_ℤ, ◌+ℤ◌, ◌-ℤ◌, ◌≤ℤ◌, unsigned_abs, ◌↔◌, length, ap, ap₂, sym, subst, refl, ◌∙◌, arith}
use Rattle.std.proofs.lemmas.Bool.{eq-eqb, ne_eqb, eqb-true, eqb-false}
use Rattle.std.proofs.lemmas.Int.{ints}
use Rattle.sa_interval.specs.Span.{Span, Within}
use Rattle.sa_dbm.specs.Tables.{Table, nodes, IsWithin, tightened, forgotten, shifted}
use Rattle.sa_dbm.specs.Points.{Point, value, LiesIn, moved, with_value}
use Rattle.sa_dbm.proofs.TableLaws.{vars-tightened, vars-forgotten}
use Rattle.sa_dbm.proofs.Soundness.{points_tightened, points_forgotten, points_shifted}
use Rattle.sa_numbers.proofs.Sizes.{size_of_sum, size-negated}
use Rattle.sa_dbm.proofs.Sizes.{within-tightened, within-forgotten, within-shifted, within_more}
use Rattle.sa_octagon.specs.Packs.{Packed, IsPack, IsSpanWithin, node, signed, guarded, met, ranged, set_to, assigned}
use Rattle.sa_octagon.proofs.Signs.{node_below, value-node, guarded_difference}

-- a guard leaves exactly the points that meet it
pub points_guarded : (t : Table) (sx : Bool) (x : ℕ) (sy : Bool) (y : ℕ) (k : ℤ) → x < t.vars → y < t.vars → (p : Point)
    → LiesIn p (guarded t sx x sy y k) ↔ (LiesIn p t × ((signed sx (p x) +ℤ signed sy (p y)) ≤ℤ k))
points_guarded t sx x sy y k hx hy p =
    subst (λ d. LiesIn p (guarded t sx x sy y k) ↔ (LiesIn p t × (d ≤ℤ k))) (guarded_difference p sx x sy y)
    (points_tightened t (node (not sy) y) (node sx x) k (node_below (not sy) y t.vars hy) (node_below sx x t.vars hx) p)

-- the difference of a place's two nodes
twice_up : (p : Point) (x : ℕ) → value p (node true x) -ℤ value p (node false x) ≡ p x +ℤ p x
twice_up p x = ap₂ (λ a b. a -ℤ b) (value-node p true x) (value-node p false x) ∙ (let z = p x in omega (arith, ints))

twice_down : (p : Point) (x : ℕ) → value p (node false x) -ℤ value p (node true x) ≡ neg_ℤ (p x +ℤ p x)
twice_down p x = ap₂ (λ a b. a -ℤ b) (value-node p false x) (value-node p true x) ∙ (let z = p x in omega (arith, ints))

pub twice_at_most : (p : Point) (x : ℕ) (c : ℤ) → (value p (node true x) -ℤ value p (node false x)) ≤ℤ c → (p x +ℤ p x) ≤ℤ c
twice_at_most p x c h = subst (λ d. d ≤ℤ c) (twice_up p x) h

pub minus_twice_at_most : (p : Point) (x : ℕ) (c : ℤ) → (value p (node false x) -ℤ value p (node true x)) ≤ℤ c → neg_ℤ (p x +ℤ p x) ≤ℤ c
minus_twice_at_most p x c h = subst (λ d. d ≤ℤ c) (twice_down p x) h

-- a meet leaves exactly the points whose x lies in the interval
pub points_met : (t : Table) (x : ℕ) (v : Span) → x < t.vars → (p : Point) → LiesIn p (met t x v) ↔ (LiesIn p t × Within v (p x))
points_met t x v h p = (λ l. to (second.0 l), λ l. second.1 (from l))
  where
    half_up : Table
    half_up = tightened t (node false x) (node true x) (v.hi +ℤ v.hi)

    inside : (s : Bool) → node s x < nodes half_up
    inside s = node_below s x half_up.vars (rw vars-tightened h)

    first : LiesIn p half_up ↔ (LiesIn p t × ((value p (node true x) -ℤ value p (node false x)) ≤ℤ (v.hi +ℤ v.hi)))
    first = points_tightened t (node false x) (node true x) (v.hi +ℤ v.hi) (node_below false x t.vars h) (node_below true x t.vars h) p

    second : LiesIn p (met t x v) ↔ (LiesIn p half_up × ((value p (node false x) -ℤ value p (node true x)) ≤ℤ neg_ℤ (v.lo +ℤ v.lo)))
    second = points_tightened half_up (node true x) (node false x) (neg_ℤ (v.lo +ℤ v.lo)) (inside true) (inside false) p

    to : LiesIn p half_up × ((value p (node false x) -ℤ value p (node true x)) ≤ℤ neg_ℤ (v.lo +ℤ v.lo)) → LiesIn p t × Within v (p x)
    to l =
        let up = first.0 l.0 in
        let a = twice_at_most p x _ up.1 in
        let b = minus_twice_at_most p x _ l.1 in
        (up.0, halves (p x) v.lo v.hi a b)
      where
        halves : (z lo hi : ℤ) → (z +ℤ z) ≤ℤ (hi +ℤ hi) → neg_ℤ (z +ℤ z) ≤ℤ neg_ℤ (lo +ℤ lo) → Within (record { lo = lo; hi = hi }) z
        halves z lo hi a b = record { above = omega (arith, ints); below = omega (arith, ints) }

    from : LiesIn p t × Within v (p x) → LiesIn p half_up × ((value p (node false x) -ℤ value p (node true x)) ≤ℤ neg_ℤ (v.lo +ℤ v.lo))
    from l = (
      first.1 (l.0, subst (λ d. d ≤ℤ (v.hi +ℤ v.hi)) (sym (twice_up p x)) (up (p x) v.hi l.1.below)),
      subst (λ d. d ≤ℤ neg_ℤ (v.lo +ℤ v.lo)) (sym (twice_down p x)) (down (p x) v.lo l.1.above),
    )
      where
        up : (z hi : ℤ) → z ≤ℤ hi → (z +ℤ z) ≤ℤ (hi +ℤ hi)
        up z hi k = omega (arith, ints)

        down : (z lo : ℤ) → lo ≤ℤ z → neg_ℤ (z +ℤ z) ≤ℤ neg_ℤ (lo +ℤ lo)
        down z lo k = omega (arith, ints)

-- the place has the number that it was given, and the others theirs
pub with_value-here : (p : Point) (x : ℕ) (z : ℤ) → with_value p x z x ≡ z
with_value-here p x z = ap (λ t. cond t z (p x)) (eq-eqb x x refl)

with_value-other : (p : Point) (x : ℕ) (z : ℤ) (y : ℕ) → x ≢ y → with_value p x z y ≡ p y
with_value-other p x z y n = ap (λ t. cond t z (p y)) (ne_eqb y x (λ e. n (sym e)))

-- x may be any number of the interval
pub points_ranged : (t : Table) (x : ℕ) (v : Span) → x < t.vars → (p : Point) (z : ℤ) → LiesIn p t → Within v z → LiesIn (with_value p x z) (ranged t x v)
points_ranged t x v h p z l w =
    (points_met (forgotten t x) x v (rw vars-forgotten h) (with_value p x z)).1
    (points_forgotten t x p z l, subst (Within v) (sym (with_value-here p x z)) w)

-- x is set to another place with a sign, and a constant
pub points_set_to : (t : Table) (x : ℕ) (sign : Bool) (y : ℕ) (c : ℤ) → x < t.vars → y < t.vars → x ≢ y → (p : Point)
    → LiesIn p t → LiesIn (with_value p x (signed sign (p y) +ℤ c)) (set_to t x sign y c)
points_set_to t x sign y c hx hy n p l = (second.1) (first.1 (points_forgotten t x p z l, up), down)
  where
    z : ℤ
    z = signed sign (p y) +ℤ c

    q : Point
    q = with_value p x z

    gone : Table
    gone = forgotten t x

    half_set : Table
    half_set = guarded gone true x (not sign) y c

    first : LiesIn q half_set ↔ (LiesIn q gone × ((signed true (q x) +ℤ signed (not sign) (q y)) ≤ℤ c))
    first = points_guarded gone true x (not sign) y c (rw vars-forgotten hx) (rw vars-forgotten hy) q

    second : LiesIn q (set_to t x sign y c) ↔ (LiesIn q half_set × ((signed false (q x) +ℤ signed sign (q y)) ≤ℤ neg_ℤ c))
    second = points_guarded half_set false x sign y (neg_ℤ c) (rw (vars-tightened, vars-forgotten) hx) (rw (vars-tightened, vars-forgotten) hy) q

    level_up : (s : Bool) (w : ℤ) → (signed true (signed s w +ℤ c) +ℤ signed (not s) w) ≤ℤ c
    level_up true w = omega (arith, ints)
    level_up false w = omega (arith, ints)

    level_down : (s : Bool) (w : ℤ) → (signed false (signed s w +ℤ c) +ℤ signed s w) ≤ℤ neg_ℤ c
    level_down true w = omega (arith, ints)
    level_down false w = omega (arith, ints)

    here : q x ≡ z
    here = with_value-here p x z

    other : q y ≡ p y
    other = with_value-other p x z y n

    up : (signed true (q x) +ℤ signed (not sign) (q y)) ≤ℤ c
    up = subst (λ d. d ≤ℤ c) (sym (ap₂ (λ a b. signed true a +ℤ signed (not sign) b) here other)) (level_up sign (p y))

    down : (signed false (q x) +ℤ signed sign (q y)) ≤ℤ neg_ℤ c
    down = subst (λ d. d ≤ℤ neg_ℤ c) (sym (ap₂ (λ a b. signed false a +ℤ signed sign b) here other)) (level_down sign (p y))

-- to add to a place is to give it its own number and that
moved_is : (p : Point) (x : ℕ) (c : ℤ) → moved p x c ≡ with_value p x (p x +ℤ c)
moved_is p x c = λ i k. at k i
  where
    at : (k : ℕ) → moved p x c k ≡ with_value p x (p x +ℤ c) k
    at k = by_test (k == x) refl
      where
        by_test : (t : Bool) → (k == x) ≡ t → cond t (p k +ℤ c) (p k) ≡ cond t (p x +ℤ c) (p k)
        by_test true e = ap (λ j. p j +ℤ c) (eqb-true k x e)
        by_test false e = refl

pub points_assigned : (t : Table) (x : ℕ) (sign : Bool) (y : ℕ) (c : ℤ) → x < t.vars → y < t.vars → (x ≡ y → sign ≡ true) → (p : Point)
    → LiesIn p t → LiesIn (with_value p x (signed sign (p y) +ℤ c)) (assigned t x sign y c)
points_assigned t x sign y c hx hy plain p l = by_test (x == y) refl
  where
    by_test : (b : Bool) → (x == y) ≡ b → LiesIn (with_value p x (signed sign (p y) +ℤ c)) (cond b (shifted t x c) (set_to t x sign y c))
    by_test true e =
        let same = eqb-true x y e in
        let number = ap₂ (λ s j. signed s (p j) +ℤ c) (plain same) (sym same) in
        subst (λ w. LiesIn (with_value p x w) (shifted t x c)) (sym number)
        (subst (λ q. LiesIn q (shifted t x c)) (moved_is p x c) ((points_shifted t x c p).0 l))
    by_test false e = points_set_to t x sign y c hx hy (eqb-false x y e) p l

-- ---- places of a pack

pub place_inside : (q p : Packed) (x : ℕ) → IsPack q → q ≡ p → x < length p.cells → x < p.table.vars
place_inside q p x h e k = rw (subst (λ (r : Packed). r.table.vars ≡ length r.cells) e h.vars) k

pub place_few : (q p : Packed) (x : ℕ) → IsPack q → q ≡ p → x < length p.cells → x < 8
place_few q p x h e k = let few = subst (λ (r : Packed). length r.cells ≤ 8) e h.few in omega arith

-- ---- how large bounds become

pub within_met : (limit : ℕ) (t : Table) (x : ℕ) (v : Span) → IsWithin (limit + limit) t → IsSpanWithin limit v → IsWithin (limit + limit) (met t x v)
within_met limit t x v h w =
    within-tightened (limit + limit) _ (node true x) (node false x) (neg_ℤ (v.lo +ℤ v.lo))
    (within-tightened (limit + limit) t (node false x) (node true x) (v.hi +ℤ v.hi) h (size_of_sum v.hi v.hi limit limit w.hi w.hi))
    (rw size-negated (size_of_sum v.lo v.lo limit limit w.lo w.lo))

pub within_assigned : (limit : ℕ) (t : Table) (x : ℕ) (sign : Bool) (y : ℕ) (c : ℤ) → IsWithin limit t → IsWithin (limit + (unsigned_abs c + unsigned_abs c)) (assigned t x sign y c)
within_assigned limit t x sign y c h = by_test (x == y)
  where
    more : ℕ
    more = limit + (unsigned_abs c + unsigned_abs c)

    by_test : (b : Bool) → IsWithin more (cond b (shifted t x c) (set_to t x sign y c))
    by_test true = within-shifted limit (unsigned_abs c) t x c h (omega arith)
    by_test false =
        within-tightened more _ _ _ (neg_ℤ c)
        (within-tightened more _ _ _ c (within-forgotten more t x (within_more limit more t (omega arith) h)) (omega arith))
        (rw size-negated (omega arith))
