-- Combinations of two lists, slot by slot and half by half.
use Rattle.std.proofs.Common.{◌≡◌, ℕ, zero, suc, ◌+◌, ◌-◌, ◌/◌, ◌≤◌, List, [], ◌∷◌, ◌++◌, length, slice_get, Bool, true, false, ◌==◌, Option, None, Some, refl, sym, ap, ◌∙◌, subst, arith}
use Rattle.std.specs.Prelude.{if◌then◌else◌, unwrap_or}
use Rattle.std.proofs.lemmas.Bool.Decides.{nat_tests}
use Rattle.sa_shared.specs.declared.nodes.Node.{Node}
use Rattle.sa_shared.specs.Slots.{EachSlot}
use Rattle.sa_shared.specs.Tree.{Tree, empty, leaf, fork, number, values, differences, IsBalanced, IsTree, tree_at}
use Rattle.sa_shared.specs.Walks.{combined, combines, some_count, with_above, AtBoth, AtEachSlot}
use Rattle.sa_shared.proofs.Unfolding.{size, number_at}
use Rattle.sa_shared.proofs.Walking.{taken}

at_most_one : {A : Type 0} (v : Option A) → some_count v ≤ 1
unfolding some_count
at_most_one None = omega arith
at_most_one (Some x) = omega arith

one_above : (m : ℕ) → with_above m ≤ 1 + m
unfolding with_above
one_above zero = omega arith
one_above (suc m) = omega arith

module _ {T : Type 0} where
  pub at_both : (P : ℕ → T → T → Type 0) (k : ℕ) (xs ys : List T)
      → ((j : ℕ) (x y : T) → slice_get xs j ≡ Some x → slice_get ys j ≡ Some y → P (k + j) x y) → AtBoth P k xs ys
  at_both P k [] ys h = tt
  at_both P k (x ∷ xs) [] h = tt
  at_both P k (x ∷ xs) (y ∷ ys) h =
      let e : k + 0 ≡ k = omega arith in (
        subst (λ n. P n x y) e (h 0 x y refl refl),
        at_both P (suc k) xs ys (λ j a b at_a at_b. let f : k + suc j ≡ suc k + j = omega arith in subst (λ n. P n a b) f (h (suc j) a b at_a at_b)),
      )

  pub at_both_slots : (P : ℕ → T → T → Type 0) (xs ys : List T) → AtEachSlot P xs ys → AtBoth P 0 xs ys
  at_both_slots P xs ys h = at_both P 0 xs ys (λ j x y at_x at_y. let e : j ≡ 0 + j = omega arith in subst (λ n. P n x y) e (h j x y at_x at_y))

  both_front : (P : ℕ → T → T → Type 0) (k : ℕ) (xs ys us vs : List T) → length xs ≡ length us → AtBoth P k (xs ++ ys) (us ++ vs) → AtBoth P k xs us
  both_front P k [] ys us vs e h = tt
  both_front P k (x ∷ xs) ys [] vs e h = tt
  both_front P k (x ∷ xs) ys (u ∷ us) vs e h = (h.0, both_front P (suc k) xs ys us vs (omega (arith, e)) h.1)

  both_behind : (P : ℕ → T → T → Type 0) (k : ℕ) (xs ys us vs : List T) → length xs ≡ length us → AtBoth P k (xs ++ ys) (us ++ vs)
      → AtBoth P (k + length xs) ys vs
  both_behind P k [] ys [] vs e h = let f : k ≡ k + 0 = omega arith in subst (λ n. AtBoth P n ys vs) f h
  both_behind P k [] ys (u ∷ us) vs e h = absurd (omega (arith, e))
  both_behind P k (x ∷ xs) ys [] vs e h = absurd (omega (arith, e))
  both_behind P k (x ∷ xs) ys (u ∷ us) vs e h =
      let f : suc k + length xs ≡ k + suc (length xs) = omega arith in
      subst (λ n. AtBoth P n ys vs) f (both_behind P (suc k) xs ys us vs (omega (arith, e)) h.1)

  combined_on : (f : ℕ → T → T → Option T) (k : ℕ) (xs ys us vs : List T) → length xs ≡ length us
      → combined f k (xs ++ ys) (us ++ vs) ≡ combined f k xs us ++ combined f (k + length xs) ys vs
  unfolding combined
  combined_on f k [] ys [] vs e = let i : k ≡ k + 0 = omega arith in ap (λ n. combined f n ys vs) i
  combined_on f k [] ys (u ∷ us) vs e = absurd (omega (arith, e))
  combined_on f k (x ∷ xs) ys [] vs e = absurd (omega (arith, e))
  combined_on f k (x ∷ xs) ys (u ∷ us) vs e =
      let i : suc k + length xs ≡ k + suc (length xs) = omega arith in
      ap (λ l. unwrap_or (f k x u) x ∷ l) (combined_on f (suc k) xs ys us vs (omega (arith, e)) ∙ ap (λ n. combined f (suc k) xs us ++ combined f n ys vs) i)

  -- a list combined with itself
  pub combined_self : (Like : T → T → Type 0) (P : ℕ → T → T → Type 0) (f : ℕ → T → T → Option T)
      → ((k : ℕ) (x : T) → Like x x → P k x x → unwrap_or (f k x x) x ≡ x) → (k : ℕ) (xs : List T) → EachSlot Like xs xs → AtBoth P k xs xs → combined f k xs xs ≡ xs
  unfolding combined
  combined_self Like P f law k [] valid fits = refl
  combined_self Like P f law k (x ∷ xs) valid fits =
      ap (λ y. y ∷ combined f (suc k) xs xs) (law k x valid.0 fits.0) ∙ ap (λ l. x ∷ l) (combined_self Like P f law (suc k) xs valid.1 fits.1)

  pub combined_none : (f : ℕ → T → T → Option T) (k : ℕ) (xs ys : List T) → xs ≡ [] → combined f k xs ys ≡ xs
  unfolding combined
  combined_none f k [] ys e = refl
  combined_none f k (x ∷ xs) ys e = absurd (cc)

  pub combined_one : (f : ℕ → T → T → Option T) (k : ℕ) (x y : T) → combined f k (x ∷ []) (y ∷ []) ≡ unwrap_or (f k x y) x ∷ []
  unfolding combined
  combined_one f k x y = refl

  combines_same : (f : ℕ → T → T → Option T) (k : ℕ) (t u : Tree T) → number t ≡ number u → combines f k t u ≡ 0
  unfolding combines
  combines_same f k (empty n) u e = refl
  combines_same f k (leaf n x) (empty m) e = refl
  combines_same f k (leaf i x) (leaf j y) e =
      let same : (i == j) ≡ true = grind (arith, nat_tests) in ap (λ b. if b then 0 else some_count (f k x y)) same
  combines_same f k (leaf n x) (fork m s t) e = refl
  combines_same f k (fork n s t) (empty m) e = refl
  combines_same f k (fork n s t) (leaf m y) e = refl
  combines_same f k (fork i s t) (fork j u v) e =
      let same : (i == j) ≡ true = grind (arith, nat_tests) in
      ap (λ b. if b then 0 else with_above (combines f k s u + combines f (k + length (values s)) t v)) same

  pub combines_equal : (f : ℕ → T → T → Option T) (k : ℕ) (nodes : List (Node T)) (a b : ℕ) → a ≡ b → combines f k (tree_at nodes a) (tree_at nodes b) ≡ 0
  combines_equal f k nodes a b e = combines_same f k (tree_at nodes a) (tree_at nodes b) (number_at nodes a ∙ e ∙ sym (number_at nodes b))

  pub combines_none : (f : ℕ → T → T → Option T) (k : ℕ) (t u : Tree T) → IsBalanced 0 t → combines f k t u ≡ 0
  unfolding combines
  combines_none f k (empty n) u h = refl
  combines_none f k (leaf n x) u h = absurd (omega (arith, h))
  combines_none f k (fork n s t) u h = absurd (omega (arith, h.0))

  combines_one : (f : ℕ → T → T → Option T) (k a b : ℕ) (x y : T) → (a ≡ b → ⊥) → combines f k (leaf a x) (leaf b y) ≡ some_count (f k x y)
  unfolding combines
  combines_one f k a b x y apart =
      let other : (a == b) ≡ false = grind (arith, nat_tests) in ap (λ c. if c then 0 else some_count (f k x y)) other

  pub leaf_pair : (f : ℕ → T → T → Option T) (k : ℕ) (t u : Tree T) (a b : ℕ) (x y : T) (v : Option T) → t ≡ leaf a x → u ≡ leaf b y → (a ≡ b → ⊥) → v ≡ f k x y
      → combines f k t u ≡ some_count v
  leaf_pair f k t u a b x y v t_is u_is apart is =
      ap (λ s. combines f k s u) t_is ∙ ap (combines f k (leaf a x)) u_is ∙ combines_one f k a b x y apart ∙ ap some_count (sym is)

  combines_fork : (f : ℕ → T → T → Option T) (k a b : ℕ) (s t u v : Tree T) → (a ≡ b → ⊥)
      → combines f k (fork a s t) (fork b u v) ≡ with_above (combines f k s u + combines f (k + length (values s)) t v)
  unfolding combines
  combines_fork f k a b s t u v apart =
      let other : (a == b) ≡ false = grind (arith, nat_tests) in
      ap (λ c. if c then 0 else with_above (combines f k s u + combines f (k + length (values s)) t v)) other

  -- no more nodes than places at which the trees differ
  pub at_most_differences : (f : ℕ → T → T → Option T) (k : ℕ) (t u : Tree T) → combines f k t u ≤ differences t u
  unfolding combines
  at_most_differences f k (empty n) u = omega arith
  at_most_differences f k (leaf n x) (empty m) = omega arith
  at_most_differences f k (leaf i x) (leaf j y) = either (i == j)
    where
      either : (b : Bool) → (if b then 0 else some_count (f k x y)) ≤ (if b then 0 else 1)
      either true = omega arith
      either false = at_most_one (f k x y)
  at_most_differences f k (leaf n x) (fork m s t) = omega arith
  at_most_differences f k (fork n s t) (empty m) = omega arith
  at_most_differences f k (fork n s t) (leaf m y) = omega arith
  at_most_differences f k (fork i s t) (fork j u v) =
      either (i == j) (at_most_differences f k s u) (at_most_differences f (k + length (values s)) t v)
    where
      either : (b : Bool) → combines f k s u ≤ differences s u → combines f (k + length (values s)) t v ≤ differences t v
          → (if b then 0 else with_above (combines f k s u + combines f (k + length (values s)) t v)) ≤ (if b then 0 else 1) + (differences s u + differences t v)
      either true first second = omega arith
      either false first second = omega (arith, first, second, one_above (combines f k s u + combines f (k + length (values s)) t v))

  module _ (R : T → T → Type 0) (back : (x y : T) → R x y → R y x) (on : (x y z : T) → R x y → R y z → R x z) where
    pub each_combined : (P : ℕ → T → T → Type 0) (f : ℕ → T → T → Option T) → ((k : ℕ) (x y z : T) → R x y → P k x y → f k x y ≡ Some z → R x z) → (k : ℕ)
        (xs ys zs : List T) → EachSlot R xs ys → EachSlot R xs zs → AtBoth P k ys zs → EachSlot R xs (combined f k ys zs)
    unfolding combined
    each_combined P f law k [] [] zs h i fits = tt
    each_combined P f law k [] (y ∷ ys) zs h i fits = absurd h
    each_combined P f law k (x ∷ xs) [] zs h i fits = absurd h
    each_combined P f law k (x ∷ xs) (y ∷ ys) [] h i fits = absurd i
    each_combined P f law k (x ∷ xs) (y ∷ ys) (z ∷ zs) h i fits = (
      taken R on x y (f k y z) h.0 (λ w. law k y z w (on y x z (back x y h.0) i.0) fits.0),
      each_combined P f law (suc k) xs ys zs h.1 i.1 fits.1,
    )

  -- two trees over the slots from one number up to another, and their halves
  module _ (nodes : List (Node T)) (from to mid slots a l r b u v : ℕ) (order : from ≤ to) (long : slots ≡ to - from) (middle : mid ≡ to - (to - from) / 2)
      (a_is : tree_at nodes a ≡ fork a (tree_at nodes l) (tree_at nodes r)) (b_is : tree_at nodes b ≡ fork b (tree_at nodes u) (tree_at nodes v))
      (left : IsTree nodes (slots - slots / 2) l) (other : IsTree nodes (slots - slots / 2) u) where
    front_long : length (values (tree_at nodes l)) ≡ length (values (tree_at nodes u))
    front_long = size (tree_at nodes l) (slots - slots / 2) left.balanced ∙ sym (size (tree_at nodes u) (slots - slots / 2) other.balanced)

    front_end : from + length (values (tree_at nodes l)) ≡ mid
    front_end = omega (arith, size (tree_at nodes l) (slots - slots / 2) left.balanced, order, long, middle)

    pub both_left : (P : ℕ → T → T → Type 0) → AtBoth P from (values (tree_at nodes a)) (values (tree_at nodes b))
        → AtBoth P from (values (tree_at nodes l)) (values (tree_at nodes u))
    both_left P h =
        let at_a = subst (λ t. AtBoth P from (values t) (values (tree_at nodes b))) a_is h in
        both_front P from (values (tree_at nodes l)) (values (tree_at nodes r)) (values (tree_at nodes u)) (values (tree_at nodes v)) front_long
        (subst (λ t. AtBoth P from (values (tree_at nodes l) ++ values (tree_at nodes r)) (values t)) b_is at_a)

    pub both_right : (P : ℕ → T → T → Type 0) → AtBoth P from (values (tree_at nodes a)) (values (tree_at nodes b))
        → AtBoth P mid (values (tree_at nodes r)) (values (tree_at nodes v))
    both_right P h =
        let at_a = subst (λ t. AtBoth P from (values t) (values (tree_at nodes b))) a_is h in
        subst (λ k. AtBoth P k (values (tree_at nodes r)) (values (tree_at nodes v))) front_end
        (both_behind P from (values (tree_at nodes l)) (values (tree_at nodes r)) (values (tree_at nodes u)) (values (tree_at nodes v)) front_long
        (subst (λ t. AtBoth P from (values (tree_at nodes l) ++ values (tree_at nodes r)) (values t)) b_is at_a))

    pub combined_halves : (f : ℕ → T → T → Option T) → combined f from (values (tree_at nodes a)) (values (tree_at nodes b))
        ≡ combined f from (values (tree_at nodes l)) (values (tree_at nodes u)) ++ combined f mid (values (tree_at nodes r)) (values (tree_at nodes v))
    combined_halves f =
        let x = values (tree_at nodes l) in
        let y = values (tree_at nodes r) in
        let z = values (tree_at nodes u) in
        let w = values (tree_at nodes v) in
        ap (λ t. combined f from (values t) (values (tree_at nodes b))) a_is ∙ ap (λ t. combined f from (x ++ y) (values t)) b_is
        ∙ combined_on f from x y z w front_long ∙ ap (λ k. combined f from x z ++ combined f k y w) front_end

    pub combines_halves : (f : ℕ → T → T → Option T) → (a ≡ b → ⊥) → combines f from (tree_at nodes a) (tree_at nodes b)
        ≡ with_above (combines f from (tree_at nodes l) (tree_at nodes u) + combines f mid (tree_at nodes r) (tree_at nodes v))
    combines_halves f apart =
        let s = tree_at nodes l in
        let t = tree_at nodes r in
        let x = tree_at nodes u in
        let y = tree_at nodes v in
        ap (λ z. combines f from z (tree_at nodes b)) a_is ∙ ap (λ z. combines f from (fork a s t) z) b_is ∙ combines_fork f from a b s t x y apart
        ∙ ap (λ k. with_above (combines f from s x + combines f k t y)) front_end
