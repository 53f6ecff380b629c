-- Numbers that are made by the loops over places.
use Rattle.std.proofs.Common.{◌≡◌, ℕ, zero, suc, ◌+◌, ◌-◌, ◌*◌, ◌<◌, ◌≤◌, Bool, true, false, ◌&&◌, ℤ, pos, List, [], ◌∷◌, ◌++◌, length, map, take, drop, get_or, refl, sym, ap, subst, inl, inr, ◌∙◌, append_assoc, append-nil, add-one, add-zero, zero-add, arith}
use Rattle.std.specs.Prelude.{if◌then◌else◌, nat_le, nat_lt}
use Rattle.std.specs.Int.RustNames.{int_le}
use Rattle.std.specs.List.{flat_map, All}
use Rattle.std.proofs.lemmas.List.{drop_more, drop_all}
use Rattle.std.proofs.lemmas.Bool.{cases_lt}
use Rattle.std.proofs.lemmas.Bool.Decides.{nat_tests}
use Rattle.std.proofs.lemmas.List.Elements.{All-nil, All-cons, All-head, All-tail, All-append, All-weaker}
use Rattle.std.proofs.lemmas.Grind.{flat_map-append}
use Rattle.std.proofs.Math.Nat.{mul-le-mul_left}
use Rattle.sa_interval.specs.Span.{Span}
use Rattle.sa_cells.specs.Reached.{spaced, may_index, picked, all_picked, all_runs}
use Rattle.sa_cells.specs.Places.{AreInside, IsCountBelow, IsCountUpTo}

pub spaced-more : (w n k o : ℕ) (old new whole : List ℕ) → k < n → new ≡ old ++ (o + k * w) ∷ [] → old ++ spaced w (n - k) (o + k * w) ≡ whole → new ++ spaced w (n - (k + 1)) (o + (k + 1) * w) ≡ whole
unfolding spaced
spaced-more w n k o old new whole h e goes =
    let left : n - k ≡ suc (n - (k + 1)) = omega arith in
    let at : (o + k * w) + w ≡ o + (k + 1) * w = grind arith in
    ap (λ (l : List ℕ). l ++ spaced w (n - (k + 1)) (o + (k + 1) * w)) e ∙ append_assoc old ((o + k * w) ∷ []) (spaced w (n - (k + 1)) (o + (k + 1) * w))
    ∙ ap (λ (p : ℕ). old ++ (o + k * w) ∷ spaced w (n - (k + 1)) p) (sym at) ∙ ap (λ (m : ℕ). old ++ spaced w m (o + k * w)) (sym left) ∙ goes

pub spaced-end : (w n k o : ℕ) (old whole : List ℕ) → n ≤ k → old ++ spaced w (n - k) (o + k * w) ≡ whole → old ≡ whole
unfolding spaced
spaced-end w n k o old whole h goes =
    let none : n - k ≡ 0 = omega arith in
    sym (append-nil old) ∙ ap (λ (m : ℕ). old ++ spaced w m (o + k * w)) (sym none) ∙ goes

pub less-product : (w n k : ℕ) → k < n → k * w + w ≤ n * w
less-product w n k h =
    let m : w * (k + 1) ≤ w * n = mul-le-mul_left w (omega arith) in
    let e : w * (k + 1) ≡ k * w + w = grind arith in
    let f : w * n ≡ n * w = grind arith in
    omega (arith, m, e, f)

-- ---- one list after another
pub flat-more : (f : ℕ → List ℕ) (os : List ℕ) (i d : ℕ) (old new whole : List ℕ) → i < length os → new ≡ old ++ f (get_or os i d) → old ++ flat_map f (drop i os) ≡ whole → new ++ flat_map f (drop (i + 1) os) ≡ whole
flat-more f os i d old new whole h e goes =
    let rest = flat_map f (drop (i + 1) os) in
    ap (λ (l : List ℕ). l ++ rest) e ∙ append_assoc old (f (get_or os i d)) rest
    ∙ ap (λ (l : List ℕ). old ++ flat_map f l) (sym (drop_more os i d h)) ∙ goes

pub flat-end : (f : ℕ → List ℕ) (os : List ℕ) (i : ℕ) (old whole : List ℕ) → length os ≤ i → old ++ flat_map f (drop i os) ≡ whole → old ≡ whole
flat-end f os i old whole h goes = sym (append-nil old) ∙ ap (λ (l : List ℕ). old ++ flat_map f l) (sym (drop_all i os h)) ∙ goes

-- ---- indices in a span
abbrev AreIndices : Span → ℕ → ℕ → ℕ → Type 0
AreIndices s n a b = (j : ℕ) → j < n → may_index s j ≡ (nat_le a j && nat_lt j b)

are-indices : (s : Span) (n a b : ℕ) → IsCountBelow s.lo n a → IsCountUpTo s.hi n b → AreIndices s n a b
are-indices s n a b f g j h = rw (f.tests j h, g.tests j h) refl

picked-none : (s : Span) (w m a b n k o : ℕ) → AreIndices s m a b → k + n ≤ m → b ≤ a → picked s w n k o ≡ []
unfolding picked
picked-none s w m a b zero k o t h l = refl
picked-none s w m a b (suc n) k o t h l =
    let e : may_index s k ≡ false = t k (omega arith) ∙ grind (arith, nat_tests) in
    rw (e, picked-none s w m a b n (k + 1) (o + w) t (omega arith) l) refl

picked-past : (s : Span) (w m a b n k o : ℕ) → AreIndices s m a b → k + n ≤ m → b ≤ k → picked s w n k o ≡ []
unfolding picked
picked-past s w m a b zero k o t h l = refl
picked-past s w m a b (suc n) k o t h l =
    let e : may_index s k ≡ false = t k (omega arith) ∙ grind (arith, nat_tests) in
    rw (e, picked-past s w m a b n (k + 1) (o + w) t (omega arith) (omega arith)) refl

picked-in : (s : Span) (w m a b n k o : ℕ) → AreIndices s m a b → k + n ≤ m → a ≤ k → k ≤ b → b ≤ k + n → picked s w n k o ≡ spaced w (b - k) o
unfolding picked spaced
picked-in s w m a b zero k o t h l u v = let e : b - k ≡ 0 = omega arith in rw e refl
picked-in s w m a b (suc n) k o t h l u v = elim (cases_lt k b) [
  | inl before ↦
      let e : may_index s k ≡ true = t k (omega arith) ∙ grind (arith, nat_tests, before) in
      let left : b - k ≡ suc (b - (k + 1)) = omega (arith, before) in
      rw (e, left, picked-in s w m a b n (k + 1) (o + w) t (omega arith) (omega arith) (omega (arith, before)) (omega arith)) refl
  | inr past ↦
      let none : b - k ≡ 0 = omega (arith, past) in
      let e : may_index s k ≡ false = t k (omega arith) ∙ grind (arith, nat_tests, past) in
      rw (e, none, picked-past s w m a b n (k + 1) (o + w) t (omega arith) (omega (arith, past))) refl
]

picked-from : (s : Span) (w m a b n k o : ℕ) → AreIndices s m a b → k + n ≤ m → k ≤ a → a ≤ b → b ≤ k + n → picked s w n k o ≡ spaced w (b - a) (o + (a - k) * w)
unfolding picked spaced
picked-from s w m a b zero k o t h l u v = let e : b - a ≡ 0 = omega arith in rw e refl
picked-from s w m a b (suc n) k o t h l u v = elim (cases_lt k a) [
  | inl before ↦
      let e : may_index s k ≡ false = t k (omega arith) ∙ grind (arith, nat_tests, before) in
      let less : a - k ≡ (a - (k + 1)) + 1 = omega (arith, before) in
      let at : (o + w) + (a - (k + 1)) * w ≡ o + (a - k) * w = rw less (grind arith) in
      rw e (picked-from s w m a b n (k + 1) (o + w) t (omega arith) (omega (arith, before)) u (omega arith) ∙ ap (λ (p : ℕ). spaced w (b - a) p) at)
  | inr past ↦
      let same : a ≡ k = omega (arith, past) in
      let at : o + (a - k) * w ≡ o = let none : a - k ≡ 0 = omega (arith, past) in rw none (grind arith) in
      picked-in s w m a b (suc n) k o t h (omega (arith, past)) (omega arith) v ∙ ap (λ (p : ℕ). spaced w (b - k) p) (sym at) ∙ ap (λ (p : ℕ). spaced w (b - p) (o + (a - k) * w)) (sym same)
]

pub picked-is : (s : Span) (w n a b o : ℕ) → IsCountBelow s.lo n a → IsCountUpTo s.hi n b → picked s w n 0 o ≡ spaced w (b - a) (o + a * w)
unfolding spaced
picked-is s w n a b o f g =
    let most = g.most in
    elim (cases_lt a b) [
      | inl before ↦
          let whole : a - 0 ≡ a = omega arith in
          picked-from s w n a b n 0 o (are-indices s n a b f g) (omega arith) (omega arith) (omega (arith, before)) (omega (arith, most))
          ∙ ap (λ (k : ℕ). spaced w (b - a) (o + k * w)) whole
      | inr past ↦ let none : b - a ≡ 0 = omega (arith, past) in rw none (picked-none s w n a b n 0 o (are-indices s n a b f g) (omega arith) past)
    ]

-- the elements of a place stand inside of it
picked-inside : (s : Span) (w n k o m : ℕ) → o + n * w ≤ m → All (λ p. p + w ≤ m) (picked s w n k o)
unfolding picked
picked-inside s w zero k o m h = All-nil (λ p. p + w ≤ m)
picked-inside s w (suc n) k o m h =
    let all : o + suc n * w ≡ (o + w) + n * w = grind arith in
    let more : o + suc n * w ≡ (o + n * w) + w = grind arith in
    let rest = picked-inside s w n (k + 1) (o + w) m (omega (arith, all)) in
    elim (may_index s k) as (λ b. All (λ p. p + w ≤ m) (if b then o ∷ picked s w n (k + 1) (o + w) else picked s w n (k + 1) (o + w)))
    [ true ↦ All-cons (λ p. p + w ≤ m) o (picked s w n (k + 1) (o + w)) (omega (arith, more)) rest | false ↦ rest ]

pub all-inside : (s : Span) (w n : ℕ) (os : List ℕ) → AreInside (n * w) os → AreInside w (all_picked s w n os)
unfolding all_picked
all-inside s w n [] h = All-nil (λ p. p + w ≤ 65536)
all-inside s w n (o ∷ os) h =
    All-append (λ p. p + w ≤ 65536) (picked s w n 0 o) (flat_map (λ o. picked s w n 0 o) os)
    (picked-inside s w n 0 o 65536 (All-head (λ p. p + n * w ≤ 65536) o os h))
    (all-inside s w n os (All-tail (λ p. p + n * w ≤ 65536) o os h))

pub moved-inside : (b w n : ℕ) (os : List ℕ) → b + w ≤ n → AreInside n os → AreInside w (map (λ o. o + b) os)
moved-inside b w n [] l h = All-nil (λ p. p + w ≤ 65536)
moved-inside b w n (o ∷ os) l h =
    let f : o + n ≤ 65536 = All-head (λ p. p + n ≤ 65536) o os h in
    All-cons (λ p. p + w ≤ 65536) (o + b) (map (λ o. o + b) os) (omega (arith, f)) (moved-inside b w n os l (All-tail (λ p. p + n ≤ 65536) o os h))

pub less-inside : (w n : ℕ) (os : List ℕ) → w ≤ n → AreInside n os → AreInside w os
less-inside w n os l h = All-weaker (λ o. o + n ≤ 65536) (λ o. o + w ≤ 65536) (λ o f. omega arith) os h

pub product-most : (w n k : ℕ) → k ≤ n → k * w ≤ n * w
product-most w n k h =
    let m : w * k ≤ w * n = mul-le-mul_left w h in
    let e : w * k ≡ k * w = grind arith in
    let f : w * n ≡ n * w = grind arith in
    omega (arith, m, e, f)

pub room-from : (w n a o : ℕ) → a ≤ n → o + n * w ≤ 65536 → a * w ≤ 65536
room-from w n a o h l = let m = product-most w n a h in omega (arith, m)

pub room-picked : (w n a b o : ℕ) → a ≤ n → b ≤ n → o + n * w ≤ 65536 → o + a * w + (b - a) * w ≤ 65536
room-picked w n a b o h l k = elim (cases_lt a b) [
  | inl before ↦
      let m = product-most w n b l in
      let e : b ≡ a + (b - a) = omega (arith, before) in
      let f : b * w ≡ a * w + (b - a) * w = ap (λ (x : ℕ). x * w) e ∙ grind arith in
      omega (arith, m, f)
  | inr past ↦
      let m = product-most w n a h in
      let none : b - a ≡ 0 = omega (arith, past) in
      let f : (b - a) * w ≡ 0 = ap (λ (x : ℕ). x * w) none ∙ grind arith in
      omega (arith, m, f)
]
