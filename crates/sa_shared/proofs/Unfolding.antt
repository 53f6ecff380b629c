-- How the tree of a number follows from the nodes, and that new nodes leave the older trees as they are.
use Rattle.std.proofs.Common.{◌≡◌, ℕ, zero, suc, ◌+◌, ◌-◌, ◌/◌, ◌<◌, ◌≤◌, List, [], ◌∷◌, ◌++◌, length, reverse, Bool, true, false, ◌==◌, Some, slice_get, refl, sym, ap, ◌∙◌, subst, arith, length-append, append_assoc, inl, inr, ◌⊎◌, take}
use Rattle.std.proofs.Math.Seq.{take-append_seam}
use Rattle.std.proofs.lemmas.List.{take_all}
use Rattle.std.specs.Prelude.{if◌then◌else◌, ◌||◌, Result, Ok, Err, IfOk, OnErr}
use Rattle.std.proofs.lemmas.List.{reverse-append, length-reverse, reverse-reverse}
use Rattle.std.proofs.lemmas.Option.{slice_get_within}
use Rattle.std.proofs.lemmas.Bool.Decides.{nat_tests}
use Rattle.sa_shared.specs.declared.nodes.Node.{Node}
use Rattle.sa_shared.specs.declared.nodes.Node.TheVariants.{Empty, Leaf, Fork}
use Rattle.sa_shared.specs.Tree.{Tree, empty, leaf, fork, number, values, IsBalanced, IsTree, unfolded, tree_in, tree_at, holds, visits, Extends}

module _ {T : Type 0} where
  get_left : (xs ys : List (Node T)) (n : ℕ) → n < length xs → slice_get (xs ++ ys) n ≡ slice_get xs n
  get_left [] ys n h = absurd (omega arith)
  get_left (x ∷ xs) ys zero h = refl
  get_left (x ∷ xs) ys (suc n) h = get_left xs ys n (omega arith)

  get_end : (xs : List (Node T)) (y : Node T) → slice_get (xs ++ y ∷ []) (length xs) ≡ Some y
  get_end [] y = refl
  get_end (x ∷ xs) y = get_end xs y

  inside : (rs : List (Node T)) (n m : ℕ) → 1 ≤ m → IsBalanced m (tree_in rs n) → n < length rs
  inside [] n m some h = absurd (omega (arith, h))
  inside (y ∷ older) n m some h = go (n == length older) refl h (inside older n m some)
    where
      go : (b : Bool) → (n == length older) ≡ b → IsBalanced m (if b then unfolded (tree_in older) n y else tree_in older n)
          → (IsBalanced m (tree_in older n) → n < length older) → n < length (y ∷ older)
      go true e k before = let same : n ≡ length older = grind (arith, nat_tests) in omega arith
      go false e k before = let less = before k in omega (arith, less)

  older_same : (older : List (Node T)) (y : Node T) (n : ℕ) → n < length older → tree_in (y ∷ older) n ≡ tree_in older n
  older_same older y n h =
      let e : (n == length older) ≡ false = grind (arith, nat_tests) in
      ap (λ b. if b then unfolded (tree_in older) n y else tree_in older n) e

  widened : (older : List (Node T)) (y : Node T) (n m : ℕ) (x : Node T) → IsBalanced m (unfolded (tree_in older) n x)
      → unfolded (tree_in older) n x ≡ unfolded (tree_in (y ∷ older)) n x
  widened older y n m Empty h = refl
  widened older y n m (Leaf v) h = refl
  widened older y n m (Fork l r) h =
      let some = h.0 in
      let left = older_same older y l (inside older l (m - m / 2) (omega arith) h.1) in
      let right = older_same older y r (inside older r (m / 2) (omega arith) h.2) in
      ap (λ t. fork n t (tree_in older r)) (sym left) ∙ ap (fork n (tree_in (y ∷ older) l)) (sym right)

  some_is : (x y : Node T) → Some x ≡ Some y → x ≡ y
  some_is x y h = cc

  read_in : (rs : List (Node T)) (n m : ℕ) (x : Node T) → slice_get (reverse rs) n ≡ Some x → IsBalanced m (tree_in rs n)
      → tree_in rs n ≡ unfolded (tree_in rs) n x
  read_in [] n m x at h = absurd (cc)
  read_in (y ∷ older) n m x at h = go (n == length older) refl h (read_in older n m x)
    where
      lists : reverse (y ∷ older) ≡ reverse older ++ y ∷ []
      lists = reverse-append (y ∷ []) older

      there : slice_get (reverse older ++ y ∷ []) n ≡ Some x
      there = sym (ap (λ l. slice_get l n) lists) ∙ at

      size : length (reverse older) ≡ length older
      size = length-reverse older

      go : (b : Bool) → (n == length older) ≡ b → IsBalanced m (if b then unfolded (tree_in older) n y else tree_in older n)
          → (slice_get (reverse older) n ≡ Some x → IsBalanced m (tree_in older n) → tree_in older n ≡ unfolded (tree_in older) n x)
          → (if b then unfolded (tree_in older) n y else tree_in older n) ≡ unfolded (tree_in (y ∷ older)) n x
      go true e k before =
          let same : n ≡ length (reverse older) = grind (arith, nat_tests, size) in
          let is : y ≡ x = some_is y x (sym (get_end (reverse older) y) ∙ ap (slice_get (reverse older ++ y ∷ [])) (sym same) ∙ there) in
          widened older y n m y k ∙ ap (unfolded (tree_in (y ∷ older)) n) is
      go false e k before =
          let apart : n ≡ length older → ⊥ = grind (arith, nat_tests) in
          let within = slice_get_within _ n x there in
          let less : n < length (reverse older) = omega (arith, size, within, apart, length-append (reverse older) (y ∷ [])) in
          let is = before (sym (get_left (reverse older) (y ∷ []) n less) ∙ there) k in
          is ∙ widened older y n m x (subst (IsBalanced m) is k)

  older_in : (newer rs : List (Node T)) (n : ℕ) → n < length rs → tree_in (newer ++ rs) n ≡ tree_in rs n
  older_in [] rs n h = refl
  older_in (y ∷ newer) rs n h =
      let less : n < length (newer ++ rs) = omega (arith, length-append newer rs) in
      older_same (newer ++ rs) y n less ∙ older_in newer rs n h

  -- a number whose tree has a slot is the number of a node
  pub inside_at : (nodes : List (Node T)) (n m : ℕ) → 1 ≤ m → IsBalanced m (tree_at nodes n) → n < length nodes
  unfolding tree_at
  inside_at nodes n m some h = let size = length-reverse nodes in omega (arith, size, inside (reverse nodes) n m some h)

  -- a node unfolds into the trees of the numbers that it names
  pub read_at : (nodes : List (Node T)) (n m : ℕ) (x : Node T) → slice_get nodes n ≡ Some x → IsBalanced m (tree_at nodes n)
      → tree_at nodes n ≡ unfolded (tree_at nodes) n x
  unfolding tree_at
  read_at nodes n m x at h = read_in (reverse nodes) n m x (ap (λ l. slice_get l n) (reverse-reverse nodes) ∙ at) h

  -- more nodes leave an older tree as it is
  pub extended : (nodes more : List (Node T)) (n : ℕ) → n < length nodes → tree_at (nodes ++ more) n ≡ tree_at nodes n
  unfolding tree_at
  extended nodes more n h =
      ap (λ l. tree_in l n) (reverse-append nodes more) ∙ older_in (reverse more) (reverse nodes) n (omega (arith, length-reverse nodes))

  -- the tree of a new node
  pub new_at : (nodes : List (Node T)) (x : Node T) → tree_at (nodes ++ x ∷ []) (length nodes) ≡ unfolded (tree_at nodes) (length nodes) x
  unfolding tree_at
  new_at nodes x =
      let size = length-reverse nodes in
      let e : (length nodes == length (reverse nodes)) ≡ true = grind (arith, nat_tests) in
      ap (λ l. tree_in l (length nodes)) (reverse-append nodes (x ∷ []))
      ∙ ap (λ b. if b then unfolded (tree_in (reverse nodes)) (length nodes) x else tree_in (reverse nodes) (length nodes)) e

  -- what is over one slot is a leaf
  pub leaf_at : (nodes : List (Node T)) (n : ℕ) (x : Node T) → slice_get nodes n ≡ Some x → IsBalanced 1 (tree_at nodes n)
      → (x ≡ Empty) ⊎ ((l : ℕ) × (r : ℕ) × (x ≡ Fork l r)) → ⊥
  leaf_at nodes n x at h (inl e) =
      let k = subst (IsBalanced 1) (read_at nodes n 1 Empty (at ∙ ap Some e) h) h in absurd (omega (arith, k))
  leaf_at nodes n x at h (inr w) =
      let k = subst (IsBalanced 1) (read_at nodes n 1 (Fork w.0 w.1) (at ∙ ap Some w.2) h) h in absurd (omega (arith, k.0))

  -- what is over two slots or more is a fork
  pub fork_at : (nodes : List (Node T)) (n m : ℕ) (x : Node T) → 2 ≤ m → slice_get nodes n ≡ Some x → IsBalanced m (tree_at nodes n)
      → (x ≡ Empty) ⊎ ((v : T) × (x ≡ Leaf v)) → ⊥
  fork_at nodes n m x some at h (inl e) =
      let k = subst (IsBalanced m) (read_at nodes n m Empty (at ∙ ap Some e) h) h in absurd (omega (arith, k))
  fork_at nodes n m x some at h (inr w) =
      let k = subst (IsBalanced m) (read_at nodes n m (Leaf w.0) (at ∙ ap Some w.1) h) h in absurd (omega (arith, k))

  pub halves_at : (nodes : List (Node T)) (n m l r : ℕ) → slice_get nodes n ≡ Some (Fork l r) → IsBalanced m (tree_at nodes n)
      → (tree_at nodes n ≡ fork n (tree_at nodes l) (tree_at nodes r)) × IsTree nodes (m - m / 2) l × IsTree nodes (m / 2) r
  halves_at nodes n m l r at h =
      let is = read_at nodes n m (Fork l r) at h in
      let k = subst (IsBalanced m) is h in
      let some : 2 ≤ m = k.0 in (
        is,
        record { inside = inside_at nodes l (m - m / 2) (omega arith) k.1; balanced = k.1 },
        record { inside = inside_at nodes r (m / 2) (omega arith) k.2; balanced = k.2 },
      )

  -- a balanced tree stands for a list of its slots
  pub size : (t : Tree T) (m : ℕ) → IsBalanced m t → length (values t) ≡ m
  size (empty n) m h = sym h
  size (leaf n x) m h = sym h
  size (fork n s t) m h = omega (arith, length-append (values s) (values t), size s (m - m / 2) h.1, size t (m / 2) h.2)

  front : (i j : ℕ) (xs : List (Node T)) → i ≤ j → take i (take j xs) ≡ take i xs
  front zero j xs h = refl
  front (suc i) zero xs h = absurd (omega arith)
  front (suc i) (suc j) [] h = refl
  front (suc i) (suc j) (x ∷ xs) h = ap (λ l. x ∷ l) (front i j xs (omega arith))

  pub extends_self : (nodes : List (Node T)) → Extends nodes nodes
  extends_self nodes = record { longer = omega arith; kept = take_all _ nodes (omega arith); trees = λ n h. refl }

  pub extends_push : (nodes : List (Node T)) (x : Node T) → Extends nodes (nodes ++ x ∷ [])
  extends_push nodes x = record {
    longer = omega (arith, length-append nodes (x ∷ []));
    kept = take-append_seam nodes (x ∷ []);
    trees = extended nodes (x ∷ []);
  }

  -- a node added to those that stand behind a base
  pub grown : (base old new : List (Node T)) (x : Node T) → new ≡ old ++ x ∷ [] → base ++ new ≡ (base ++ old) ++ x ∷ []
  grown base old new x is = ap (λ l. base ++ l) is ∙ sym (append_assoc base old (x ∷ []))

  pub one_more : {E : Type 0} (r : Result ℕ E) (old new : List (Node T)) (x : Node T) → IfOk r (λ n. (n ≡ length old) × (new ≡ old ++ x ∷ []))
      → OnErr r (new ≡ old) → length new ≤ length old + 1
  one_more (Ok n) old new x h k = omega (arith, ap length h.1, length-append old (x ∷ []))
  one_more (Err e) old new x h k = omega (arith, ap length k)

  -- as a vector's push says it
  pub extends_if : (b : Bool) (base old new : List (Node T)) (x : Node T) → new ≡ (if b then old ++ x ∷ [] else old) → Extends (base ++ old) (base ++ new)
  extends_if true base old new x is = subst (Extends (base ++ old)) (sym (grown base old new x is)) (extends_push (base ++ old) x)
  extends_if false base old new x is = subst (λ l. Extends (base ++ old) (base ++ l)) (sym is) (extends_self (base ++ old))

  pub extends_on : (a b c : List (Node T)) → Extends a b → Extends b c → Extends a c
  extends_on a b c h k = record {
    longer = omega (arith, h.longer, k.longer);
    kept = sym (front (length a) (length b) c h.longer) ∙ ap (take (length a)) k.kept ∙ h.kept;
    trees = λ n less. k.trees n (omega (arith, h.longer)) ∙ h.trees n less;
  }

  -- an older tree is a tree of the new nodes
  pub tree_kept : (old new : List (Node T)) (m n : ℕ) → Extends old new → IsTree old m n → IsTree new m n
  tree_kept old new m n h t = record {
    inside = omega (arith, h.longer, t.inside);
    balanced = subst (IsBalanced m) (sym (h.trees n t.inside)) t.balanced;
  }

  -- a fork of two trees, as a new node
  pub forked : (nodes new : List (Node T)) (m l r n : ℕ) → 2 ≤ m → IsTree nodes (m - m / 2) l → IsTree nodes (m / 2) r
      → n ≡ length nodes → new ≡ nodes ++ Fork l r ∷ [] → IsTree new m n × (values (tree_at new n) ≡ values (tree_at nodes l) ++ values (tree_at nodes r))
  forked nodes new m l r n some left right at is =
      let e : tree_at new n ≡ fork n (tree_at nodes l) (tree_at nodes r) =
      ap (λ k. tree_at new k) at ∙ ap (λ l. tree_at l (length nodes)) is ∙ new_at nodes (Fork l r)
      ∙ ap (λ k. fork k (tree_at nodes l) (tree_at nodes r)) (sym at) in (
        record {
          inside = omega (arith, ap length is, length-append nodes (Fork l r ∷ []));
          balanced = subst (IsBalanced m) (sym e) (some, left.balanced, right.balanced);
        },
        ap values e,
      )

  -- a leaf, as a new node
  pub leafed : (nodes new : List (Node T)) (x : T) (n : ℕ) → n ≡ length nodes → new ≡ nodes ++ Leaf x ∷ []
      → IsTree new 1 n × (values (tree_at new n) ≡ x ∷ [])
  leafed nodes new x n at is =
      let e : tree_at new n ≡ leaf n x =
      ap (λ k. tree_at new k) at ∙ ap (λ l. tree_at l (length nodes)) is ∙ new_at nodes (Leaf x) ∙ ap (λ k. leaf k x) (sym at) in (
        record {
          inside = omega (arith, ap length is, length-append nodes (Leaf x ∷ []));
          balanced = subst (IsBalanced 1) (sym e) refl;
        },
        ap values e,
      )

  -- the tree of no slots, as a new node
  pub emptied : (nodes new : List (Node T)) (n : ℕ) → n ≡ length nodes → new ≡ nodes ++ Empty ∷ []
      → IsTree new 0 n × (values (tree_at new n) ≡ [])
  emptied nodes new n at is =
      let e : tree_at new n ≡ empty n =
      ap (λ k. tree_at new k) at ∙ ap (λ l. tree_at l (length nodes)) is ∙ new_at nodes Empty ∙ ap empty (sym at) in (
        record {
          inside = omega (arith, ap length is, length-append nodes (Empty ∷ []));
          balanced = subst (IsBalanced 0) (sym e) refl;
        },
        ap values e,
      )

  -- the numbers that a node names are below its own
  AreOlder : ℕ → Node T → Type 0
  AreOlder n Empty = Unit {0}
  AreOlder n (Leaf x) = Unit {0}
  AreOlder n (Fork l r) = (l < n) × (r < n)

  older_names : (older : List (Node T)) (n m : ℕ) (x : Node T) → n ≡ length older → IsBalanced m (unfolded (tree_in older) n x) → AreOlder n x
  unfolding AreOlder
  older_names older n m Empty e h = tt
  older_names older n m (Leaf v) e h = tt
  older_names older n m (Fork l r) e h =
      let some = h.0 in
      (omega (arith, inside older l (m - m / 2) (omega arith) h.1), omega (arith, inside older r (m / 2) (omega arith) h.2))

  older_in_list : (rs : List (Node T)) (n m : ℕ) (x : Node T) → slice_get (reverse rs) n ≡ Some x → IsBalanced m (tree_in rs n) → AreOlder n x
  older_in_list [] n m x at h = absurd (cc)
  older_in_list (y ∷ older) n m x at h = go (n == length older) refl h (older_in_list older n m x)
    where
      there : slice_get (reverse older ++ y ∷ []) n ≡ Some x
      there = sym (ap (λ l. slice_get l n) (reverse-append (y ∷ []) older)) ∙ at

      size : length (reverse older) ≡ length older
      size = length-reverse older

      go : (b : Bool) → (n == length older) ≡ b → IsBalanced m (if b then unfolded (tree_in older) n y else tree_in older n)
          → (slice_get (reverse older) n ≡ Some x → IsBalanced m (tree_in older n) → AreOlder n x) → AreOlder n x
      go true e k before =
          let same : n ≡ length older = grind (arith, nat_tests) in
          let there_too : n ≡ length (reverse older) = omega (arith, same, size) in
          let is : y ≡ x = some_is y x (sym (get_end (reverse older) y) ∙ ap (slice_get (reverse older ++ y ∷ [])) (sym there_too) ∙ there) in
          subst (AreOlder n) is (older_names older n m y same k)
      go false e k before =
          let apart : n ≡ length older → ⊥ = grind (arith, nat_tests) in
          let within = slice_get_within _ n x there in
          let less : n < length (reverse older) = omega (arith, size, within, apart, length-append (reverse older) (y ∷ [])) in
          before (sym (get_left (reverse older) (y ∷ []) n less) ∙ there) k

  pub less_at : (nodes : List (Node T)) (n m l r : ℕ) → slice_get nodes n ≡ Some (Fork l r) → IsBalanced m (tree_at nodes n) → (l < n) × (r < n)
  unfolding tree_at AreOlder
  less_at nodes n m l r at h = older_in_list (reverse nodes) n m (Fork l r) (ap (λ l. slice_get l n) (reverse-reverse nodes) ∙ at) h

  -- a tree holds no number above its own
  held_names : (older : List (Node T)) (k n m : ℕ) (x : Node T) → n ≡ length older → ((c i : ℕ) → IsBalanced i (tree_in older c) → holds k (tree_in older c) ≡ true → k ≤ c)
      → IsBalanced m (unfolded (tree_in older) n x) → holds k (unfolded (tree_in older) n x) ≡ true → k ≤ n
  held_names older k n m Empty e below h held = grind (arith, nat_tests)
  held_names older k n m (Leaf v) e below h held = grind (arith, nat_tests)
  held_names older k n m (Fork l r) e below h held = go (k == n) refl (holds k (tree_in older l)) refl held
    where
      go : (b : Bool) → (k == n) ≡ b → (d : Bool) → holds k (tree_in older l) ≡ d → (b || (d || holds k (tree_in older r))) ≡ true → k ≤ n
      go true q d f held = grind (arith, nat_tests)
      go false q true f held = let some = h.0 in omega (arith, below l (m - m / 2) h.1 f, inside older l (m - m / 2) (omega arith) h.1)
      go false q false f held = let some = h.0 in omega (arith, below r (m / 2) h.2 held, inside older r (m / 2) (omega arith) h.2)

  held_in : (rs : List (Node T)) (k n m : ℕ) → IsBalanced m (tree_in rs n) → holds k (tree_in rs n) ≡ true → k ≤ n
  held_in [] k n m h held = grind (arith, nat_tests)
  held_in (y ∷ older) k n m h held = go (n == length older) refl h held (λ c i. held_in older k c i)
    where
      go : (b : Bool) → (n == length older) ≡ b → IsBalanced m (if b then unfolded (tree_in older) n y else tree_in older n)
          → holds k (if b then unfolded (tree_in older) n y else tree_in older n) ≡ true
          → ((c i : ℕ) → IsBalanced i (tree_in older c) → holds k (tree_in older c) ≡ true → k ≤ c) → k ≤ n
      go true e h held below = let same : n ≡ length older = grind (arith, nat_tests) in held_names older k n m y same below h held
      go false e h held below = below n m h held

  pub held_at : (nodes : List (Node T)) (k n m : ℕ) → IsBalanced m (tree_at nodes n) → holds k (tree_at nodes n) ≡ true → k ≤ n
  unfolding tree_at
  held_at nodes k n m h held = held_in (reverse nodes) k n m h held

  self_held : (k : ℕ) (x : Node T) (trees : ℕ → Tree T) → holds k (unfolded trees k x) ≡ true
  self_held k Empty trees = grind (arith, nat_tests)
  self_held k (Leaf v) trees = grind (arith, nat_tests)
  self_held k (Fork l r) trees =
      let e : (k == k) ≡ true = grind (arith, nat_tests) in ap (λ b. b || (holds k (trees l) || holds k (trees r))) e

  self_held_in : (rs : List (Node T)) (k : ℕ) → holds k (tree_in rs k) ≡ true
  self_held_in [] k = grind (arith, nat_tests)
  self_held_in (y ∷ older) k = go (k == length older) (self_held_in older k)
    where
      go : (b : Bool) → holds k (tree_in older k) ≡ true → holds k (if b then unfolded (tree_in older) k y else tree_in older k) ≡ true
      go true before = self_held k y (tree_in older)
      go false before = before

  pub self_held_at : (nodes : List (Node T)) (k : ℕ) → holds k (tree_at nodes k) ≡ true
  unfolding tree_at
  self_held_at nodes k = self_held_in (reverse nodes) k

  number_in : (rs : List (Node T)) (n : ℕ) → number (tree_in rs n) ≡ n
  number_in [] n = refl
  number_in (y ∷ older) n = go (n == length older) (number_in older n) y
    where
      go : (b : Bool) → number (tree_in older n) ≡ n → (x : Node T) → number (if b then unfolded (tree_in older) n x else tree_in older n) ≡ n
      go true before Empty = refl
      go true before (Leaf v) = refl
      go true before (Fork l r) = refl
      go false before x = before

  pub number_at : (nodes : List (Node T)) (n : ℕ) → number (tree_at nodes n) ≡ n
  unfolding tree_at
  number_at nodes n = number_in (reverse nodes) n

  visits_same : (t u : Tree T) → number t ≡ number u → visits t u ≡ 1
  visits_same (empty n) u e = refl
  visits_same (leaf n x) u e = refl
  visits_same (fork i s t) (empty j) e = refl
  visits_same (fork i s t) (leaf j y) e = refl
  visits_same (fork i s t) (fork j u v) e =
      let same : (i == j) ≡ true = grind (arith, nat_tests) in ap (λ b. 1 + (if b then 0 else visits s u + visits t v)) same

  visits_empty : (t u : Tree T) → IsBalanced 0 t → visits t u ≡ 1
  visits_empty (empty n) u h = refl
  visits_empty (leaf n x) u h = absurd (omega (arith, h))
  visits_empty (fork n s t) u h = absurd (omega (arith, h.0))

  -- one visit where the numbers are equal or there are no slots
  pub one_visit : (nodes : List (Node T)) (m a b : ℕ) → (a ≡ b) ⊎ (((a ≡ b) → ⊥) × (m ≡ 0)) → IsBalanced m (tree_at nodes a)
      → visits (tree_at nodes a) (tree_at nodes b) ≡ 1
  one_visit nodes m a b (inl e) h = visits_same _ _ (number_at nodes a ∙ e ∙ sym (number_at nodes b))
  one_visit nodes m a b (inr w) h = visits_empty _ _ (subst (λ i. IsBalanced i (tree_at nodes a)) w.1 h)

  pub leaf_visit : (t u : Tree T) (a b : ℕ) (x y : T) → t ≡ leaf a x → u ≡ leaf b y → visits t u ≡ 1
  leaf_visit t u a b x y e f = ap (λ s. visits s u) e

  pub fork_visits : (t u s r v w : Tree T) (a b : ℕ) → (a ≡ b → ⊥) → t ≡ fork a s r → u ≡ fork b v w → visits t u ≡ 1 + (visits s v + visits r w)
  fork_visits t u s r v w a b apart e f =
      let other : (a == b) ≡ false = grind (arith, nat_tests) in
      ap (λ x. visits x u) e ∙ ap (visits (fork a s r)) f ∙ ap (λ c. 1 + (if c then 0 else visits s v + visits r w)) other
