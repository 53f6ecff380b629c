-- Walks over the slots of a tree, half by half.
use Rattle.std.proofs.Common.{◌≡◌, ℕ, zero, suc, ◌+◌, ◌-◌, ◌<◌, ◌≤◌, List, [], ◌∷◌, ◌++◌, length, take, drop, slice_get, Bool, true, false, Option, None, Some, refl, sym, ap, ◌∙◌, subst, arith}
use Rattle.std.specs.Prelude.{if◌then◌else◌, ◌&&◌, nat_le, nat_lt, unwrap_or}
use Rattle.std.proofs.lemmas.Bool.Decides.{nat_tests}
use Rattle.std.proofs.Common.{length-append}
use Rattle.sa_shared.specs.Slots.{EachSlot}
use Rattle.sa_shared.specs.Tree.{Tree, empty, leaf, fork, values}
use Rattle.sa_shared.specs.Walks.{in_range, step_in_range, changed, folded, changes, some_count, with_above, AtEach, Within, InRange}

tested : (from to k : ℕ) → from ≤ k → k < to → (nat_le from k && nat_lt k to) ≡ true
tested from to k h i = grind (arith, nat_tests)

not_tested : (from to k : ℕ) → (from ≤ k → k < to → ⊥) → (nat_le from k && nat_lt k to) ≡ false
not_tested from to k h = go (nat_le from k) refl (nat_lt k to) refl
  where
    go : (a : Bool) → nat_le from k ≡ a → (b : Bool) → nat_lt k to ≡ b → (a && b) ≡ false
    go false e b f = refl
    go true e false f = refl
    go true e true f = let least : from ≤ k = grind (arith, nat_tests) in let most : k < to = grind (arith, nat_tests) in absurd (h least most)

module _ {T : Type 0} where
  pub at_front : (P : ℕ → T → Type 0) (k : ℕ) (xs ys : List T) → AtEach P k (xs ++ ys) → AtEach P k xs
  at_front P k [] ys h = tt
  at_front P k (x ∷ xs) ys h = (h.0, at_front P (suc k) xs ys h.1)

  pub at_behind : (P : ℕ → T → Type 0) (k : ℕ) (xs ys : List T) → AtEach P k (xs ++ ys) → AtEach P (k + length xs) ys
  at_behind P k [] ys h = let e : k ≡ k + 0 = omega arith in subst (λ n. AtEach P n ys) e h
  at_behind P k (x ∷ xs) ys h =
      let e : suc k + length xs ≡ k + suc (length xs) = omega arith in subst (λ n. AtEach P n ys) e (at_behind P (suc k) xs ys h.1)

  -- what holds at each number of a list holds of its values in order
  pub at_each : (P : ℕ → T → Type 0) (k : ℕ) (xs : List T) → ((j : ℕ) (x : T) → slice_get xs j ≡ Some x → P (k + j) x) → AtEach P k xs
  at_each P k [] h = tt
  at_each P k (x ∷ xs) h =
      let e : k + 0 ≡ k = omega arith in (
        subst (λ n. P n x) e (h 0 x refl),
        at_each P (suc k) xs (λ j y at. let f : k + suc j ≡ suc k + j = omega arith in subst (λ n. P n y) f (h (suc j) y at)),
      )

  pub at_within : (from to : ℕ) (P : ℕ → T → Type 0) (xs : List T) → InRange from to P xs → AtEach (Within from to P) 0 xs
  at_within from to P xs h =
      at_each (Within from to P) 0 xs (λ j x at. let e : j ≡ 0 + j = omega arith in subst (λ n. Within from to P n x) e (λ least most. h j x least most at))

  module _ {A : Type 0} (from to : ℕ) (step : A → ℕ → T → A) where
    within_step : A → ℕ → T → A
    within_step = step_in_range from to step

    here : (a : A) (k : ℕ) (x : T) → from ≤ k → k < to → within_step a k x ≡ step a k x
    unfolding within_step step_in_range
    here a k x least most = ap (λ b. if b then step a k x else a) (tested from to k least most)

    elsewhere : (a : A) (k : ℕ) (x : T) → (from ≤ k → k < to → ⊥) → within_step a k x ≡ a
    unfolding within_step step_in_range
    elsewhere a k x out = ap (λ b. if b then step a k x else a) (not_tested from to k out)

    pub folded_on : (k : ℕ) (a : A) (xs ys : List T)
        → folded (step_in_range from to step) k a (xs ++ ys) ≡ folded (step_in_range from to step) (k + length xs) (folded (step_in_range from to step) k a xs) ys
    unfolding folded
    folded_on k a [] ys = let e : k ≡ k + 0 = omega arith in ap (λ n. folded (step_in_range from to step) n a ys) e
    folded_on k a (x ∷ xs) ys =
        let b = step_in_range from to step a k x in
        let e : suc k + length xs ≡ k + suc (length xs) = omega arith in
        folded_on (suc k) b xs ys ∙ ap (λ n. folded (step_in_range from to step) n (folded (step_in_range from to step) (suc k) b xs) ys) e

    -- slots outside of the range are not taken in
    pub folded_apart : (k : ℕ) (a : A) (xs : List T) → ((j : ℕ) → j < length xs → from ≤ k + j → k + j < to → ⊥)
        → folded (step_in_range from to step) k a xs ≡ a
    unfolding folded within_step
    folded_apart k a [] out = refl
    folded_apart k a (x ∷ xs) out =
        let e = elsewhere a k x (λ least most. out 0 (omega arith) (omega (arith, least)) (omega (arith, most))) in
        ap (λ b. folded (step_in_range from to step) (suc k) b xs) e
        ∙ folded_apart (suc k) a xs (λ j less least most. out (suc j) (omega (arith, less)) (omega (arith, least)) (omega (arith, most)))

    folded_front : (k : ℕ) (a : A) (xs : List T) → from ≤ k → folded (step_in_range from to step) k a xs ≡ folded step k a (take (to - k) xs)
    unfolding folded within_step
    folded_front k a xs least = go (to - k) k a xs refl least
      where
        go : (n k : ℕ) (a : A) (xs : List T) → to - k ≡ n → from ≤ k → folded (step_in_range from to step) k a xs ≡ folded step k a (take n xs)
        go zero k a xs e least = folded_apart k a xs (λ j less _ most. omega (arith, e, most))
        go (suc n) k a [] e least = refl
        go (suc n) k a (x ∷ xs) e least =
            ap (λ b. folded (step_in_range from to step) (suc k) b xs) (here a k x least (omega (arith, e)))
            ∙ go n (suc k) (step a k x) xs (omega (arith, e)) (omega (arith, least))

    folded_late : (n k : ℕ) (a : A) (xs : List T) → k + n ≡ from → folded (step_in_range from to step) k a xs ≡ folded (step_in_range from to step) from a (drop n xs)
    unfolding folded within_step
    folded_late zero k a xs e = let f : k ≡ from = omega (arith, e) in ap (λ m. folded (step_in_range from to step) m a xs) f
    folded_late (suc n) k a [] e = refl
    folded_late (suc n) k a (x ∷ xs) e =
        ap (λ b. folded (step_in_range from to step) (suc k) b xs) (elsewhere a k x (λ least most. omega (arith, e, least)))
        ∙ folded_late n (suc k) a xs (omega (arith, e))

    -- a fold over a range of a whole list
    pub folded_range : (a : A) (xs : List T) → folded (step_in_range from to step) 0 a xs ≡ folded step from a (take (to - from) (drop from xs))
    folded_range a xs = folded_late from 0 a xs (omega arith) ∙ folded_front from a (drop from xs) (omega arith)

    module _ (fits : A → ℕ → T → Type 0) (law : (a : A) (j k : ℕ) (x y : T) → fits a j x → fits a k y → fits (step a j x) k y) where
      -- what fits before one more slot was taken in fits after it
      step_fits : (a : A) (k : ℕ) (x : T) → Within from to (fits a) k x → (j : ℕ) (y : T) → fits a j y → fits (within_step a k x) j y
      step_fits a k x h j y now = go (nat_le from k) refl (nat_lt k to) refl
        where
          stay : (from ≤ k → k < to → ⊥) → fits (within_step a k x) j y
          stay out = subst (λ b. fits b j y) (sym (elsewhere a k x out)) now

          go : (b : Bool) → nat_le from k ≡ b → (d : Bool) → nat_lt k to ≡ d → fits (within_step a k x) j y
          go false e d f = stay (λ least most. grind (arith, nat_tests))
          go true e false f = stay (λ least most. grind (arith, nat_tests))
          go true e true f =
              let least : from ≤ k = grind (arith, nat_tests) in
              let most : k < to = grind (arith, nat_tests) in
              subst (λ b. fits b j y) (sym (here a k x least most)) (law a k j x y (h least most) now)

      each_fits : (a : A) (k : ℕ) (x : T) → Within from to (fits a) k x → (i : ℕ) (zs : List T) → AtEach (Within from to (fits a)) i zs
          → AtEach (Within from to (fits (within_step a k x))) i zs
      each_fits a k x h i [] all = tt
      each_fits a k x h i (z ∷ zs) all = (λ least most. step_fits a k x h i z (all.0 least most), each_fits a k x h (suc i) zs all.1)

      -- what fits before a list was taken in fits after it
      pub still_fits : (k : ℕ) (a : A) (xs : List T) → AtEach (Within from to (fits a)) k xs → (i : ℕ) (zs : List T) → AtEach (Within from to (fits a)) i zs
          → AtEach (Within from to (fits (folded (step_in_range from to step) k a xs))) i zs
      unfolding folded within_step
      still_fits k a [] h i zs all = all
      still_fits k a (x ∷ xs) h i zs all =
          still_fits (suc k) (within_step a k x) xs (each_fits a k x h.0 (suc k) xs h.1) i zs (each_fits a k x h.0 i zs all)

    pub folded_one : (a : A) (k : ℕ) (x : T) → from ≤ k → k < to → folded (step_in_range from to step) k a (x ∷ []) ≡ step a k x
    unfolding folded within_step
    folded_one a k x least most = here a k x least most

  module _ (from to : ℕ) (f : ℕ → T → Option T) where
    in_here : (k : ℕ) (x : T) → from ≤ k → k < to → in_range from to f k x ≡ f k x
    unfolding in_range
    in_here k x least most = ap (λ b. if b then f k x else None) (tested from to k least most)

    in_elsewhere : (k : ℕ) (x : T) → (from ≤ k → k < to → ⊥) → in_range from to f k x ≡ None
    unfolding in_range
    in_elsewhere k x out = ap (λ b. if b then f k x else None) (not_tested from to k out)

    -- slots outside of the range stay
    pub changed_apart : (k : ℕ) (xs : List T) → ((j : ℕ) → j < length xs → from ≤ k + j → k + j < to → ⊥) → changed (in_range from to f) k xs ≡ xs
    unfolding changed
    changed_apart k [] out = refl
    changed_apart k (x ∷ xs) out =
        let e = in_elsewhere k x (λ least most. out 0 (omega arith) (omega (arith, least)) (omega (arith, most))) in
        ap (λ v. unwrap_or v x ∷ changed (in_range from to f) (suc k) xs) e
        ∙ ap (λ l. x ∷ l) (changed_apart (suc k) xs (λ j less least most. out (suc j) (omega (arith, less)) (omega (arith, least)) (omega (arith, most))))

    pub changes_apart : (t : Tree T) (k : ℕ) → ((j : ℕ) → j < length (values t) → from ≤ k + j → k + j < to → ⊥) → changes (in_range from to f) k t ≡ 0
    unfolding changes some_count with_above
    changes_apart (empty n) k out = refl
    changes_apart (leaf n x) k out = ap some_count (in_elsewhere k x (λ least most. out 0 (omega arith) (omega (arith, least)) (omega (arith, most))))
    changes_apart (fork n s t) k out =
        let long = length-append (values s) (values t) in
        let m = length (values s) in
        let first = changes_apart s k (λ j less least most. out j (omega (arith, less, long)) least most) in
        let second = changes_apart t (k + m)
        (λ j less least most. out (m + j) (omega (arith, less, long)) (omega (arith, least)) (omega (arith, most))) in
        ap (λ a. with_above (a + changes (in_range from to f) (k + m) t)) first ∙ ap (λ b. with_above (0 + b)) second

    pub changed_one : (k : ℕ) (x : T) (v : Option T) → from ≤ k → k < to → v ≡ f k x → changed (in_range from to f) k (x ∷ []) ≡ unwrap_or v x ∷ []
    unfolding changed
    changed_one k x v least most is = ap (λ w. unwrap_or w x ∷ []) (in_here k x least most ∙ sym is)

    pub changes_one : (n k : ℕ) (x : T) (v : Option T) → from ≤ k → k < to → v ≡ f k x → changes (in_range from to f) k (leaf n x) ≡ some_count v
    unfolding changes
    changes_one n k x v least most is = ap some_count (in_here k x least most ∙ sym is)

  pub changed_on : (f : ℕ → T → Option T) (k : ℕ) (xs ys : List T) → changed f k (xs ++ ys) ≡ changed f k xs ++ changed f (k + length xs) ys
  unfolding changed
  changed_on f k [] ys = let e : k ≡ k + 0 = omega arith in ap (λ n. changed f n ys) e
  changed_on f k (x ∷ xs) ys =
      let e : suc k + length xs ≡ k + suc (length xs) = omega arith in
      ap (λ l. unwrap_or (f k x) x ∷ l) (changed_on f (suc k) xs ys ∙ ap (λ n. changed f (suc k) xs ++ changed f n ys) e)

  -- a value that takes another's place, or stays
  pub taken : (R : T → T → Type 0) → ((x y z : T) → R x y → R y z → R x z) → (x y : T) (v : Option T) → R x y → ((z : T) → v ≡ Some z → R y z)
      → R x (unwrap_or v y)
  taken R on x y None now new = now
  taken R on x y (Some z) now new = on x y z now (new z refl)

  -- in a range the law holds of the function cut to it
  pub like_in_range : (R : T → T → Type 0) (from to : ℕ) (fits : ℕ → T → Type 0) (f : ℕ → T → Option T) → ((k : ℕ) (x y : T) → R x x → fits k x → f k x ≡ Some y → R x y)
      → (k : ℕ) (x y : T) → R x x → Within from to fits k x → in_range from to f k x ≡ Some y → R x y
  like_in_range R from to fits f law k x y valid h is = go (nat_le from k) refl (nat_lt k to) refl
    where
      out : (from ≤ k → k < to → ⊥) → R x y
      out apart = let same : None ≡ Some y = sym (in_elsewhere from to f k x apart) ∙ is in absurd (cc)

      go : (b : Bool) → nat_le from k ≡ b → (d : Bool) → nat_lt k to ≡ d → R x y
      go false e d i = out (λ least most. grind (arith, nat_tests))
      go true e false i = out (λ least most. grind (arith, nat_tests))
      go true e true i =
          let least : from ≤ k = grind (arith, nat_tests) in
          let most : k < to = grind (arith, nat_tests) in
          law k x y valid (h least most) (sym (in_here from to f k x least most) ∙ is)

  module _ (R : T → T → Type 0) (back : (x y : T) → R x y → R y x) (on : (x y z : T) → R x y → R y z → R x z) where
    pub each_changed : (P : ℕ → T → Type 0) (f : ℕ → T → Option T) → ((k : ℕ) (x y : T) → R x x → P k x → f k x ≡ Some y → R x y) → (k : ℕ) (xs ys : List T)
        → EachSlot R xs ys → AtEach P k ys → EachSlot R xs (changed f k ys)
    unfolding changed
    each_changed P f law k [] [] h fits = tt
    each_changed P f law k [] (y ∷ ys) h fits = absurd h
    each_changed P f law k (x ∷ xs) [] h fits = absurd h
    each_changed P f law k (x ∷ xs) (y ∷ ys) h fits = (
      taken R on x y (f k y) h.0 (λ z. law k y z (on y x y (back x y h.0) h.0) fits.0),
      each_changed P f law (suc k) xs ys h.1 fits.1,
    )
