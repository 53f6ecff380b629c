-- What cells begin with, by the numbers of the elements that they stand for.
use Rattle.std.proofs.Common.{◌≡◌, ℕ, zero, suc, ◌+◌, ◌-◌, ◌*◌, ◌≤◌, ℤ, pos, Bool, true, false, ◌||◌, List, [], ◌∷◌, ◌++◌, length, refl, ap, ◌∙◌, inl, inr, arith}
use Rattle.std.specs.Prelude.{nat_lt, Option, Some, None}
use Rattle.std.specs.List.{flat_map}
use Rattle.std.proofs.lemmas.Bool.{cases_lt}
use Rattle.std.proofs.lemmas.Bool.Decides.{nat_tests}
use Rattle.std.proofs.lemmas.Int.{ints, clamps}
use Rattle.std.proofs.lemmas.List.{get_or_past}
use Rattle.sa_ir.specs.declared.ir.Ends.{Ends}
use Rattle.sa_ir.specs.Initial.{single, join_of, join_some}
use Rattle.sa_typed.specs.Layouts.{Layout, leaf, row, fields, nums, nth_field, before_field, or_nothing}
use Rattle.sa_typed.specs.Cells.{Step, one, all, of}
use Rattle.sa_ir.specs.Initial.{joined_from, initial_ends}
use Rattle.sa_ir.specs.Slots.{spread, kept, any_past, run, stops, any_stops}

abbrev nil : Ends
nil = single (pos 0)

-- ---- joins
pub same-span : (a b : Ends) → a.lo ≡ b.lo → a.hi ≡ b.hi → a ≡ b
same-span a b h k = ap (λ (z : ℤ). record { lo = z; hi = a.hi }) h ∙ ap (λ (z : ℤ). record { lo = b.lo; hi = z }) k

join-twice : (a : Ends) → join_of a a ≡ a
join-twice a = same-span (join_of a a) a (omega (arith, ints, clamps)) (omega (arith, ints, clamps))

join-swap : (a b c : Ends) → join_of a (join_of b c) ≡ join_of b (join_of a c)
join-swap a b c = same-span (join_of a (join_of b c)) (join_of b (join_of a c)) (omega (arith, ints, clamps)) (omega (arith, ints, clamps))

join-regroup : (a b c : Ends) → join_of (join_of a b) c ≡ join_of a (join_of b c)
join-regroup a b c = same-span (join_of (join_of a b) c) (join_of a (join_of b c)) (omega (arith, ints, clamps)) (omega (arith, ints, clamps))

some-swap : (a b : Ends) (o : Option Ends) → join_some (Some a) (join_some (Some b) o) ≡ join_some (Some b) (join_some (Some a) o)
some-swap a b None = ap Some (same-span (join_of a b) (join_of b a) (omega (arith, ints, clamps)) (omega (arith, ints, clamps)))
some-swap a b (Some c) = ap Some (join-swap a b c)

some-regroup : (a : Ends) (o p : Option Ends) → join_some (join_some (Some a) o) p ≡ join_some (Some a) (join_some o p)
some-regroup a None None = refl
some-regroup a None (Some c) = refl
some-regroup a (Some b) None = refl
some-regroup a (Some b) (Some c) = ap Some (join-regroup a b c)

-- 0 once more
pub more-zero : (f : ℕ → Ends) (os : List ℕ) (more : Bool) → join_some (Some nil) (spread f os more) ≡ spread f os true
unfolding spread
more-zero f [] true = ap Some (join-twice nil)
more-zero f [] false = refl
more-zero f (o ∷ os) more = some-swap nil (f o) (spread f os more) ∙ ap (λ (s : Option Ends). join_some (Some (f o)) s) (more-zero f os more)

pub spread-append : (f : ℕ → Ends) (xs ys : List ℕ) (a b : Bool) → join_some (spread f xs a) (spread f ys b) ≡ spread f (xs ++ ys) (a || b)
unfolding spread
spread-append f [] ys true b = more-zero f ys b
spread-append f [] ys false b = refl
spread-append f (x ∷ xs) ys a b = some-regroup (f x) (spread f xs a) (spread f ys b) ∙ ap (λ (s : Option Ends). join_some (Some (f x)) s) (spread-append f xs ys a b)

pub spread-same : (f g : ℕ → Ends) (os : List ℕ) (more : Bool) → ((o : ℕ) → f o ≡ g o) → spread f os more ≡ spread g os more
unfolding spread
spread-same f g [] more h = refl
spread-same f g (o ∷ os) more h = rw (h o, spread-same f g os more h) refl

-- ---- elements without initial values
joined-zeros : (k : ℕ) (f : ℕ → Ends) (n : ℕ) → ((j : ℕ) → k ≤ j → f j ≡ nil) → joined_from k f n ≡ nil
unfolding joined_from
joined-zeros k f zero h = h k (omega arith)
joined-zeros k f (suc n) h = rw (h k (omega arith), joined-zeros (k + 1) f n (λ j l. h j (omega arith))) (join-twice nil)

pub zeros : (l : Layout) (ss : List Step) (zs : List ℤ) (at : ℕ) → length zs ≤ at → initial_ends zs l ss at ≡ nil
unfolding initial_ends
zeros l [] zs at h = ap (λ (z : ℤ). single z) (get_or_past zs at (pos 0) h)
zeros (leaf num) (one k ∷ ss) zs at h = refl
zeros (leaf num) (all k ∷ ss) zs at h = refl
zeros (leaf num) (of k ∷ ss) zs at h = refl
zeros (row n l) (one k ∷ ss) zs at h = zeros l ss zs (at + k * length (nums l)) (omega arith)
zeros (row zero l) (all m ∷ ss) zs at h = refl
zeros (row (suc n) l) (all m ∷ ss) zs at h = joined-zeros 0 (λ k. initial_ends zs l ss (at + k * length (nums l))) n (λ j _. zeros l ss zs (at + j * length (nums l)) (omega arith))
zeros (row n l) (of k ∷ ss) zs at h = refl
zeros (fields ls) (one k ∷ ss) zs at h = refl
zeros (fields ls) (all k ∷ ss) zs at h = refl
zeros (fields ls) (of f ∷ ss) zs at h = zeros (or_nothing (nth_field ls f)) ss zs (at + before_field ls f) (omega arith)

-- ---- elements further on
module _ (g : ℕ → Ends) (n : ℕ) (past : (o : ℕ) → n ≤ o → g o ≡ nil) where
  pub moved-law : (by : ℕ) (os : List ℕ) (more : Bool) → spread (λ o. g (o + by)) os more ≡ spread g (kept n by os) (more || any_past n by os)
  unfolding spread kept any_past
  moved-law by [] more = elim more as (λ m. spread (λ o. g (o + by)) [] m ≡ spread g [] (m || false)) [ true ↦ refl | false ↦ refl ]
  moved-law by (o ∷ os) more = elim (cases_lt (o + by) n) [
    | inl in' ↦
        let e : nat_lt (o + by) n ≡ true = grind (arith, nat_tests, in') in
        rw e (ap (λ (s : Option Ends). join_some (Some (g (o + by))) s) (moved-law by os more))
    | inr out ↦
        let e : nat_lt (o + by) n ≡ false = grind (arith, nat_tests, out) in
        rw (e, past (o + by) out, moved-law by os more) (more-zero g (kept n by os) (more || any_past n by os)
        ∙ elim more as (λ m. spread g (kept n by os) true ≡ spread g (kept n by os) (m || true)) [ true ↦ refl | false ↦ refl ])
  ]

  pub run-law : (b w : ℕ) (k m : ℕ) → Some (joined_from k (λ j. g (b + j * w)) m) ≡ spread g (run n w (suc m) (b + k * w)) (stops n w (suc m) (b + k * w))
  unfolding spread run stops joined_from
  run-law b w k zero = elim (cases_lt (b + k * w) n) [
    | inl in' ↦ let e : nat_lt (b + k * w) n ≡ true = grind (arith, nat_tests, in') in rw e refl
    | inr out ↦ let e : nat_lt (b + k * w) n ≡ false = grind (arith, nat_tests, out) in rw (e, past (b + k * w) out) refl
  ]
  run-law b w k (suc m) = elim (cases_lt (b + k * w) n) [
    | inl in' ↦
        let e : nat_lt (b + k * w) n ≡ true = grind (arith, nat_tests, in') in
        let at : b + (k + 1) * w ≡ (b + k * w) + w = grind arith in
        let rest = run-law b w (k + 1) m in
        rw e (ap (λ (s : Option Ends). join_some (Some (g (b + k * w))) s) (rest ∙ ap (λ (o : ℕ). spread g (run n w (suc m) o) (stops n w (suc m) o)) at))
    | inr out ↦
        let e : nat_lt (b + k * w) n ≡ false = grind (arith, nat_tests, out) in
        let later : (j : ℕ) → k + 1 ≤ j → g (b + j * w) ≡ nil = λ j l. past (b + j * w) (let s : j ≡ k + (j - k) = omega arith in let t : j * w ≡ k * w + (j - k) * w = ap (λ (x : ℕ). x * w) s ∙ grind arith in omega (arith, out, t)) in
        rw (e, past (b + k * w) out, joined-zeros (k + 1) (λ j. g (b + j * w)) m later) (ap Some (join-twice nil))
  ]

  pub together-law : (w m : ℕ) (os : List ℕ) (more : Bool) → spread (λ o. joined_from 0 (λ j. g (o + j * w)) m) os more ≡ spread g (flat_map (λ o. run n w (suc m) o) os) (more || any_stops n w (suc m) os)
  unfolding spread any_stops
  together-law w m [] more = elim more as (λ b. spread (λ o. joined_from 0 (λ j. g (o + j * w)) m) [] b ≡ spread g [] (b || false)) [ true ↦ refl | false ↦ refl ]
  together-law w m (o ∷ os) more =
      let at : o + 0 * w ≡ o = grind arith in
      let first : Some (joined_from 0 (λ j. g (o + j * w)) m) ≡ spread g (run n w (suc m) o) (stops n w (suc m) o)
      = run-law o w 0 m ∙ ap (λ (p : ℕ). spread g (run n w (suc m) p) (stops n w (suc m) p)) at in
      let swap : (a b c : Bool) → (b || (a || c)) ≡ (a || (b || c)) = λ a b c. grind arith in
      ap (λ (s : Option Ends). join_some (Some (joined_from 0 (λ j. g (o + j * w)) m)) s) (together-law w m os more)
      ∙ ap (λ (s : Option Ends). join_some s (spread g (flat_map (λ o. run n w (suc m) o) os) (more || any_stops n w (suc m) os))) first
      ∙ spread-append g (run n w (suc m) o) (flat_map (λ o. run n w (suc m) o) os) (stops n w (suc m) o) (more || any_stops n w (suc m) os)
      ∙ ap (λ (b : Bool). spread g (run n w (suc m) o ++ flat_map (λ o. run n w (suc m) o) os) b) (swap more (stops n w (suc m) o) (any_stops n w (suc m) os))
