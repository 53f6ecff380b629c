-- Places with a sign: their nodes, and the numbers there.
use Rattle.std.proofs.Common.{◌≡◌, ◌≢◌, ℕ, ◌+◌, ◌*◌, ◌/◌, ◌%◌, ◌<◌, ◌==◌, not, Bool, true, false, cond, ℤ, neg_ℤ, ◌+ℤ◌, ◌-ℤ◌, ap₂, ◌∙◌, arith}
use Rattle.std.proofs.lemmas.Int.{ints}
use Rattle.sa_dbm.specs.Points.{Point, value}
use Rattle.sa_octagon.specs.Packs.{node, signed}

pub node_below : (s : Bool) (x n : ℕ) → x < n → node s x < 2 * n
node_below true x n h = omega arith
node_below false x n h = omega arith

-- nodes of two places are two nodes
pub node_apart : (s t : Bool) (x y : ℕ) → x ≢ y → node s x ≢ node t y
node_apart true true x y n = λ e. n (omega arith)
node_apart true false x y n = λ e. absurd (omega arith)
node_apart false true x y n = λ e. absurd (omega arith)
node_apart false false x y n = λ e. n (omega arith)

-- the number at the node of a place
pub value-node : (p : Point) (s : Bool) (x : ℕ) → value p (node s x) ≡ signed s (p x)
unfolding value
value-node p true x =
    let half : 2 * x / 2 ≡ x = omega arith in
    let even : 2 * x % 2 ≡ 0 = omega arith in
    ap₂ (λ r k. cond (r == 0) (p k) (neg_ℤ (p k))) even half
value-node p false x =
    let half : (2 * x + 1) / 2 ≡ x = omega arith in
    let odd : (2 * x + 1) % 2 ≡ 1 = omega arith in
    ap₂ (λ r k. cond (r == 0) (p k) (neg_ℤ (p k))) odd half

-- the difference that a guard bounds
pub guarded_difference : (p : Point) (sx : Bool) (x : ℕ) (sy : Bool) (y : ℕ)
    → value p (node sx x) -ℤ value p (node (not sy) y) ≡ signed sx (p x) +ℤ signed sy (p y)
guarded_difference p sx x sy y = ap₂ (λ a b. a -ℤ b) (value-node p sx x) (value-node p (not sy) y) ∙ less_negated sx sy (p x) (p y)
  where
    less_negated : (s t : Bool) (a b : ℤ) → signed s a -ℤ signed (not t) b ≡ signed s a +ℤ signed t b
    less_negated s true a b = omega (arith, ints)
    less_negated s false a b = omega (arith, ints)
