-- Places of copies: what a copy at one of them changes, and how many there are.
use Rattle.std.proofs.Common.{◌≡◌, ◌⊎◌, inl, inr, ℕ, zero, suc, ◌+◌, ◌<◌, ◌≤◌, List, [], ◌∷◌, ◌++◌, length, take, Bool, true, false, ◌==◌, Option, Some, None, slice_get, map, replicate, refl, sym, ap, ◌∙◌, subst, arith}
use Rattle.std.specs.Prelude.{slice_set, slice_index_or, if◌then◌else◌, ◌||◌}
use Rattle.std.specs.List.{AllZip}
use Rattle.std.proofs.Math.Seq.{take-suc}
use Rattle.std.proofs.lemmas.List.Folds.{list_any_at}
use Rattle.std.proofs.lemmas.List.{length-set, length-replicate}
use Rattle.sa_shared.specs.declared.nodes.Node.{Node}
use Rattle.sa_shared.specs.declared.nodes.Root.{Root}
use Rattle.sa_shared.specs.Tree.{Tree, fork, values, holds, IsBalanced, IsTree, tree_at, Extends}
use Rattle.sa_shared.proofs.Unfolding.{size, held_at, self_held_at, tree_kept}
use Rattle.sa_shared.specs.Copies.{filled, IsCopy, AreCopies, AreWithin, AreReached, IsSameList}
use Rattle.sa_shared.specs.Forest.{reached}

filled_set : (places : List (Option ℕ)) (i k : ℕ) → slice_get places i ≡ Some None → filled (slice_set places i (Some k)) ≡ suc (filled places)
filled_set [] i k h = absurd (cc)
filled_set (None ∷ places) zero k h = refl
filled_set (Some n ∷ places) zero k h = absurd (cc)
filled_set (None ∷ places) (suc i) k h = filled_set places i k h
filled_set (Some n ∷ places) (suc i) k h = ap suc (filled_set places i k h)

get_set : (places : List (Option ℕ)) (i n : ℕ) (v w : Option ℕ) → slice_get (slice_set places i v) n ≡ Some w
    → ((n ≡ i) × (w ≡ v)) ⊎ (slice_get places n ≡ Some w)
get_set [] i n v w h = absurd (cc)
get_set (x ∷ places) zero zero v w h = inl (refl, cc)
get_set (x ∷ places) zero (suc n) v w h = inr h
get_set (x ∷ places) (suc i) zero v w h = inr h
get_set (x ∷ places) (suc i) (suc n) v w h = elim (get_set places i n v w h) [ inl e ↦ inl (ap suc e.0, e.1) | inr e ↦ inr e ]

-- a place within the list that has no number has none
pub no_number : (places : List (Option ℕ)) (i : ℕ) → i < length places → ((k : ℕ) → slice_get places i ≡ Some (Some k) → ⊥) → slice_get places i ≡ Some None
no_number [] i h k = absurd (omega arith)
no_number (None ∷ places) zero h k = refl
no_number (Some n ∷ places) zero h k = absurd (k n refl)
no_number (x ∷ places) (suc i) h k = no_number places i (omega arith) k

filled_end : (places : List (Option ℕ)) (p : Option ℕ) → filled (places ++ p ∷ []) ≡ filled places + filled (p ∷ [])
filled_end [] p = omega arith
filled_end (None ∷ places) p = filled_end places p
filled_end (Some k ∷ places) p = let e = filled_end places p in omega (arith, e)

pub at_some : (places : List (Option ℕ)) (i k : ℕ) → slice_index_or places i None ≡ Some k → slice_get places i ≡ Some (Some k)
at_some [] i k h = absurd (cc)
at_some (x ∷ places) zero k h = ap Some h
at_some (x ∷ places) (suc i) k h = at_some places i k h

pub at_none : (places : List (Option ℕ)) (i : ℕ) → i < length places → slice_index_or places i None ≡ None → slice_get places i ≡ Some None
at_none [] i less h = absurd (omega arith)
at_none (x ∷ places) zero less h = ap Some h
at_none (x ∷ places) (suc i) less h = at_none places i (omega arith) h

pub first_get : {A : Type 0} (xs : List A) (x : A) → 0 < length xs → x ≡ slice_index_or xs 0 x → slice_get xs 0 ≡ Some x
first_get [] x less is = absurd (omega arith)
first_get (y ∷ xs) x less is = ap Some (sym is)

module _ {T : Type 0} where
  pub copy_of : (from to : List (Node T)) (slots n k : ℕ) → IsTree from slots n → IsTree to slots k → values (tree_at to k) ≡ values (tree_at from n)
      → IsCopy from n to k
  copy_of from to slots n k old new same = record {
    inside = new.inside;
    balanced = λ m h.
        let m_is : slots ≡ m = sym (size (tree_at from n) slots old.balanced) ∙ size (tree_at from n) m h in
        subst (λ i. IsBalanced i (tree_at to k)) m_is new.balanced;
    same = same;
  }

  -- one more copy, at a place that had none
  pub one_copy : (from to new : List (Node T)) (places : List (Option ℕ)) (n k : ℕ) (x : Node T) → AreCopies from to places
      → slice_get places n ≡ Some None → k ≡ length to → new ≡ to ++ x ∷ [] → Extends to new → IsCopy from n new k → AreCopies from new (slice_set places n (Some k))
  one_copy from to new places n k x all free at is more here = record {
    long = omega (arith, length-set places n (Some k), all.long);
    counted = omega (arith, filled_set places n k free, all.counted, ap length is, length-end to x);
    each = λ i j h. elim (get_set places n i (Some k) (Some j) h) [
      | inl e ↦
          let j_is : j ≡ k = some_is j k e.1 in
          subst (λ a. IsCopy from a new j) (sym e.0) (subst (IsCopy from n new) (sym j_is) here)
      | inr e ↦
          let old = all.each i j e in
          let same = more.trees j old.inside in
          record {
            inside = omega (arith, old.inside, more.longer);
            balanced = λ m b. subst (IsBalanced m) (sym same) (old.balanced m b);
            same = ap values same ∙ old.same;
          }
    ];
  }
    where
      length-end : (xs : List (Node T)) (y : Node T) → length (xs ++ y ∷ []) ≡ suc (length xs)
      length-end [] y = refl
      length-end (z ∷ xs) y = ap suc (length-end xs y)

      some_is : (a b : ℕ) → Some a ≡ Some b → a ≡ b
      some_is a b h = cc

  pub one_within : (t : Tree T) (places : List (Option ℕ)) (n k : ℕ) → holds n t ≡ true → AreWithin t places (slice_set places n (Some k))
  one_within t places n k here i j h = elim (get_set places n i (Some k) (Some j) h) [
    | inl e ↦ inl (ap (λ a. holds a t) e.0 ∙ here)
    | inr e ↦ inr e
  ]

  -- the copies of two halves, and then of the fork over them
  pub halves_within : (t s u : Tree T) (a b c d : List (Option ℕ)) (n : ℕ) → t ≡ fork n s u → AreWithin s a b → AreWithin u b c → AreWithin t c d → AreWithin t a d
  halves_within t s u a b c d n is first second last i j h = elim (last i j h) [
    | inl e ↦ inl e
    | inr e ↦ elim (second i j e) [
      | inl f ↦ inl (ap (holds i) is ∙ in_right (i == n) (holds i s) (holds i u) f)
      | inr f ↦ elim (first i j f) [
        | inl g ↦ inl (ap (holds i) is ∙ in_left (i == n) (holds i s) (holds i u) g)
        | inr g ↦ inr g
      ]
    ]
  ]
    where
      in_right : (a b c : Bool) → c ≡ true → (a || (b || c)) ≡ true
      in_right true b c h = refl
      in_right false true c h = refl
      in_right false false c h = h

      in_left : (a b c : Bool) → b ≡ true → (a || (b || c)) ≡ true
      in_left true b c h = refl
      in_left false true c h = refl
      in_left false false c h = absurd (cc)

  -- what a kept copy leaves, in full
  pub kept_copy : (from to new : List (Node T)) (places after : List (Option ℕ)) (slots n k : ℕ) (x : Node T) → AreCopies from to places
      → slice_get places n ≡ Some None → IsTree from slots n → k ≡ length to → new ≡ to ++ x ∷ [] → Extends to new
      → IsTree new slots k → values (tree_at new k) ≡ values (tree_at from n) → after ≡ slice_set places n (Some k) → AreCopies from new after
  kept_copy from to new places after slots n k x all free tree at is more here same placed =
      subst (AreCopies from new) (sym placed) (one_copy from to new places n k x all free at is more (copy_of from new slots n k tree here same))

  pub kept_within : (from : List (Node T)) (places after : List (Option ℕ)) (n k : ℕ) → after ≡ slice_set places n (Some k) → AreWithin (tree_at from n) places after
  kept_within from places after n k placed =
      subst (AreWithin (tree_at from n) places) (sym placed) (one_within (tree_at from n) places n k (self_held_at from n))

  -- the copies of the halves leave the place of the fork as it was
  pub still_free : (from to : List (Node T)) (before between after : List (Option ℕ)) (n l r i j : ℕ) → slice_get before n ≡ Some None → n < length after
      → IsTree from i l → IsTree from j r → l < n → r < n → AreWithin (tree_at from l) before between → AreWithin (tree_at from r) between after
      → slice_get after n ≡ Some None
  still_free from to before between after n l r i j free inside left right l_less r_less first second =
      no_number after n inside (λ k h. elim (second n k h) [
        | inl e ↦ let high = held_at from n r j right.balanced e in omega (arith, high)
        | inr e ↦ elim (first n k e) [
          | inl f ↦ let high = held_at from n l i left.balanced f in omega (arith, high)
          | inr f ↦ none_is_some k (sym free ∙ f)
        ]
      ])
    where
      none_is_some : (k : ℕ) → Some None ≡ Some (Some k) → ⊥
      none_is_some k h = cc

  -- nothing is copied at first
  pub no_copies : (from to : List (Node T)) (n : ℕ) (places : List (Option ℕ)) → places ≡ replicate n None → n ≡ length from → to ≡ [] → AreCopies from to places
  no_copies from to n places is long none = record {
    long = ap length is ∙ length-replicate n None ∙ long;
    counted = ap length none ∙ sym (ap filled is ∙ empty_filled n);
    each = λ i k h. absurd (nothing n i k (sym (ap (λ p. slice_get p i) is) ∙ h));
  }
    where
      empty_filled : (n : ℕ) → filled (replicate n None) ≡ 0
      empty_filled zero = refl
      empty_filled (suc n) = empty_filled n

      nothing : (n i k : ℕ) → slice_get (replicate n None) i ≡ Some (Some k) → ⊥
      nothing zero i k h = cc
      nothing (suc n) zero k h = cc
      nothing (suc n) (suc i) k h = nothing n i k h

  pub none_reached : (from to : List (Node T)) (roots : List Root) (n : ℕ) (places : List (Option ℕ)) → places ≡ replicate n None → AreReached from roots places
  none_reached from to roots n places is i k h = absurd (nothing n i k (sym (ap (λ p. slice_get p i) is) ∙ h))
    where
      nothing : (n i k : ℕ) → slice_get (replicate n None) i ≡ Some (Some k) → ⊥
      nothing zero i k h = cc
      nothing (suc n) zero k h = cc
      nothing (suc n) (suc i) k h = nothing n i k h

  pub few_copies : (nodes : List (Node T)) (roots : List Root) (places : List (Option ℕ)) → AreReached nodes roots places
      → (n : ℕ) → n ≤ length places → filled (take n places) ≤ reached nodes roots n
  few_copies nodes roots places h zero less = omega arith
  few_copies nodes roots places h (suc n) less =
      let last = slice_index_or places n None in
      let before = few_copies nodes roots places h n (omega arith) in
      let e : filled (take (suc n) places) ≡ filled (take n places) + filled (last ∷ []) =
      ap filled (take-suc places n None (omega arith)) ∙ filled_end (take n places) last in
      go last refl e before
    where
      go : (p : Option ℕ) → slice_index_or places n None ≡ p → filled (take (suc n) places) ≡ filled (take n places) + filled (p ∷ [])
          → filled (take n places) ≤ reached nodes roots n → filled (take (suc n) places) ≤ reached nodes roots (suc n)
      go None is e before =
          let more : reached nodes roots n ≤ reached nodes roots (suc n) = omega arith in omega (arith, e, before, more)
      go (Some k) is e before =
          let held = h n k (at_some places n k is) in
          let more : reached nodes roots (suc n) ≡ 1 + reached nodes roots n = ap (λ b. (if b then 1 else 0) + reached nodes roots n) held in
          omega (arith, e, before, more)

  -- one more root is copied
  pub more_reached : (nodes : List (Node T)) (roots : List Root) (i : ℕ) (d : Root) (before after : List (Option ℕ)) → i < length roots
      → AreReached nodes roots before → AreWithin (tree_at nodes (slice_index_or roots i d).node) before after → AreReached nodes roots after
  more_reached nodes roots i d before after less h within n k at = elim (within n k at) [
    | inl e ↦ list_any_at (λ r. holds n (tree_at nodes r.node)) roots i d less e
    | inr e ↦ h n k e
  ]

  pub kept_list : (from to new : List (Node T)) (slots : ℕ) (r q : Root) → Extends to new → IsSameList from to slots r q → IsSameList from new slots r q
  kept_list from to new slots r q more h = record {
    tree = tree_kept to new slots q.node more h.tree;
    list = ap values (more.trees q.node h.tree.inside) ∙ h.list;
  }

  pub kept_lists : (from to new : List (Node T)) (slots : ℕ) (rs qs : List Root) → Extends to new → AllZip (IsSameList from to slots) rs qs
      → AllZip (IsSameList from new slots) rs qs
  kept_lists from to new slots [] [] more h = tt
  kept_lists from to new slots [] (q ∷ qs) more h = absurd h
  kept_lists from to new slots (r ∷ rs) [] more h = absurd h
  kept_lists from to new slots (r ∷ rs) (q ∷ qs) more h = (kept_list from to new slots r q more h.0, kept_lists from to new slots rs qs more h.1)

  pub lists_same : (from to : List (Node T)) (slots : ℕ) (rs qs : List Root) → AllZip (IsSameList from to slots) rs qs
      → map (λ q. values (tree_at to q.node)) qs ≡ map (λ r. values (tree_at from r.node)) rs
  lists_same from to slots [] [] h = refl
  lists_same from to slots [] (q ∷ qs) h = absurd h
  lists_same from to slots (r ∷ rs) [] h = absurd h
  lists_same from to slots (r ∷ rs) (q ∷ qs) h =
      ap (λ l. l ∷ map (λ q. values (tree_at to q.node)) qs) h.0.list ∙ ap (λ ls. values (tree_at from r.node) ∷ ls) (lists_same from to slots rs qs h.1)
