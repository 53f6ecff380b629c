-- A tree over the slots from one number up to another, and its halves.
use Rattle.std.proofs.Common.{◌≡◌, ℕ, ◌+◌, ◌-◌, ◌/◌, ◌≤◌, List, ◌++◌, length, Option, sym, ap, ◌∙◌, subst, arith}
use Rattle.sa_shared.specs.declared.nodes.Node.{Node}
use Rattle.sa_shared.specs.Tree.{fork, values, IsTree, tree_at}
use Rattle.sa_shared.specs.Walks.{step_in_range, folded, changed, changes, with_above, AtEach, Within}
use Rattle.sa_shared.proofs.Unfolding.{size}
use Rattle.sa_shared.proofs.Walking.{at_front, at_behind, folded_on, still_fits, changed_on}

module _ {T : Type 0} where
  -- the halves of a tree over the slots from one number up to another
  module _ (nodes : List (Node T)) (from to mid slots n l r : ℕ) (order : from ≤ to) (long : slots ≡ to - from) (middle : mid ≡ to - (to - from) / 2)
      (tree : tree_at nodes n ≡ fork n (tree_at nodes l) (tree_at nodes r)) (left : IsTree nodes (slots - slots / 2) l) (right : IsTree nodes (slots / 2) r) where
    pub left_half : IsTree nodes (mid - from) l
    left_half = let e : slots - slots / 2 ≡ mid - from = omega (arith, order, long, middle) in subst (λ m. IsTree nodes m l) e left

    pub right_half : IsTree nodes (to - mid) r
    right_half = let e : slots / 2 ≡ to - mid = omega (arith, order, long, middle) in subst (λ m. IsTree nodes m r) e right

    pub to_middle : from + length (values (tree_at nodes l)) ≡ mid
    to_middle = omega (arith, size (tree_at nodes l) (slots - slots / 2) left.balanced, order, long, middle)

    pub each_left : (P : ℕ → T → Type 0) → AtEach P from (values (tree_at nodes n)) → AtEach P from (values (tree_at nodes l))
    each_left P h = at_front P from (values (tree_at nodes l)) (values (tree_at nodes r)) (subst (λ t. AtEach P from (values t)) tree h)

    pub each_right : (P : ℕ → T → Type 0) → AtEach P from (values (tree_at nodes n)) → AtEach P mid (values (tree_at nodes r))
    each_right P h =
        subst (λ k. AtEach P k (values (tree_at nodes r))) to_middle
        (at_behind P from (values (tree_at nodes l)) (values (tree_at nodes r)) (subst (λ t. AtEach P from (values t)) tree h))

    pub folded_halves : {A : Type 0} (lo hi : ℕ) (step : A → ℕ → T → A) (a b c : A) → b ≡ folded (step_in_range lo hi step) from a (values (tree_at nodes l))
        → c ≡ folded (step_in_range lo hi step) mid b (values (tree_at nodes r)) → c ≡ folded (step_in_range lo hi step) from a (values (tree_at nodes n))
    folded_halves lo hi step a b c first second =
        let f = step_in_range lo hi step in
        let x = values (tree_at nodes l) in
        let y = values (tree_at nodes r) in
        second ∙ ap (λ d. folded f mid d y) first ∙ ap (λ k. folded f k (folded f from a x) y) (sym to_middle) ∙ sym (folded_on lo hi step from a x y)
        ∙ ap (λ t. folded f from a (values t)) (sym tree)

    pub fits_behind : {A : Type 0} (lo hi : ℕ) (step : A → ℕ → T → A) (fits : A → ℕ → T → Type 0)
        → ((a : A) (j k : ℕ) (x y : T) → fits a j x → fits a k y → fits (step a j x) k y) → (a b : A) → b ≡ folded (step_in_range lo hi step) from a (values (tree_at nodes l))
        → AtEach (Within lo hi (fits a)) from (values (tree_at nodes n)) → AtEach (Within lo hi (fits b)) mid (values (tree_at nodes r))
    fits_behind lo hi step fits law a b is h =
        let y = values (tree_at nodes r) in
        subst (λ d. AtEach (Within lo hi (fits d)) mid y) (sym is)
        (still_fits lo hi step fits law from a (values (tree_at nodes l)) (each_left (Within lo hi (fits a)) h) mid y (each_right (Within lo hi (fits a)) h))

    pub changed_halves : (f : ℕ → T → Option T)
        → changed f from (values (tree_at nodes n)) ≡ changed f from (values (tree_at nodes l)) ++ changed f mid (values (tree_at nodes r))
    changed_halves f =
        let x = values (tree_at nodes l) in
        let y = values (tree_at nodes r) in
        ap (λ t. changed f from (values t)) tree ∙ changed_on f from x y ∙ ap (λ k. changed f from x ++ changed f k y) to_middle

    pub changes_halves : (f : ℕ → T → Option T)
        → changes f from (tree_at nodes n) ≡ with_above (changes f from (tree_at nodes l) + changes f mid (tree_at nodes r))
    unfolding changes
    changes_halves f =
        ap (λ t. changes f from t) tree ∙ ap (λ k. with_above (changes f from (tree_at nodes l) + changes f k (tree_at nodes r))) to_middle
