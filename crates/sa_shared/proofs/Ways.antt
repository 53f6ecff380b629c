-- What is known along a way: the part's shape, the number of nodes, and the tree that a climb makes.
use Rattle.std.proofs.Common.{◌≡◌, ℕ, ◌+◌, ◌-◌, ◌/◌, ◌≤◌, List, [], ◌∷◌, ◌++◌, length, true, false, refl, sym, ap, ◌∙◌, subst, arith}
use Rattle.std.specs.Prelude.{slice_set, nat_lt, if◌then◌else◌}
use Rattle.std.proofs.lemmas.List.{set-append_left, set-append_right}
use Rattle.std.proofs.lemmas.Bool.Decides.{nat_tests}
use Rattle.sa_shared.specs.declared.nodes.Node.{Node}
use Rattle.sa_shared.specs.declared.way.Side.{Side}
use Rattle.sa_shared.specs.declared.way.Side.TheVariants.{Left, Right}
use Rattle.sa_shared.specs.Tree.{Tree, empty, leaf, fork, values, IsBalanced, IsTree, tree_at, way_length, Extends}
use Rattle.sa_shared.specs.Way.{IsWay, over}
use Rattle.sa_shared.proofs.Unfolding.{size, inside_at, tree_kept, forked}

module _ {T : Type 0} (nodes : List (Node T)) (slots : ℕ) (whole : Tree T) (slot : ℕ) (shape : IsBalanced slots whole) where
  pub part_balanced : (sides : List Side) (m k : ℕ) (part : Tree T) → IsWay nodes slots whole slot sides m part k → IsBalanced m part
  part_balanced [] m k part h = subst (λ t. IsBalanced m t) (sym h.1) (subst (λ n. IsBalanced n whole) (sym h.0) shape)
  part_balanced (Left r ∷ sides) m k part h =
      subst (λ n. IsBalanced n part) (sym h.3) (part_balanced sides h.0 k (fork h.1 part (tree_at nodes r)) h.5).1
  part_balanced (Right l ∷ sides) m k part h =
      subst (λ n. IsBalanced n part) (sym h.3) (part_balanced sides h.0 (h.0 - h.0 / 2 + k) (fork h.1 (tree_at nodes l) part) h.4).2

  pub counted : (sides : List Side) (m k : ℕ) (part : Tree T) → IsWay nodes slots whole slot sides m part k
      → length sides + way_length part k ≡ way_length whole slot
  counted [] m k part h = let e = ap (λ t. way_length t k) h.1 ∙ ap (way_length whole) h.2 in omega (arith, e)
  counted (Left r ∷ sides) m k part h =
      let wide = part_balanced (Left r ∷ sides) m k part h in
      let long = size part m wide in
      let e : nat_lt k (length (values part)) ≡ true = grind (arith, nat_tests, long, h.4) in
      let here : way_length (fork h.1 part (tree_at nodes r)) k ≡ 1 + way_length part k =
      ap (λ b. 1 + (if b then way_length part k else way_length (tree_at nodes r) (k - length (values part)))) e in
      let up = counted sides h.0 k (fork h.1 part (tree_at nodes r)) h.5 in
      omega (arith, here, up)
  counted (Right l ∷ sides) m k part h =
      let w = h.0 in
      let left = tree_at nodes l in
      let at = w - w / 2 + k in
      let both = part_balanced sides w at (fork h.1 left part) h.4 in
      let long = size left (w - w / 2) both.1 in
      let e : nat_lt at (length (values left)) ≡ false = grind (arith, nat_tests, long) in
      let behind : at - length (values left) ≡ k = omega (arith, long) in
      let here : way_length (fork h.1 left part) at ≡ 1 + way_length part k =
      ap (λ b. 1 + (if b then way_length left at else way_length part (at - length (values left)))) e ∙ ap (λ n. 1 + way_length part n) behind in
      let up = counted sides w at (fork h.1 left part) h.4 in
      omega (arith, here, up)

  -- a step up: the part with the slot changed stands in the node above it
  pub climbed : (side : Side) (sides : List Side) (m k : ℕ) (part : Tree T) (now new : List (Node T)) (made n : ℕ) (x : T)
      → IsWay nodes slots whole slot (side ∷ sides) m part k → Extends nodes now → IsTree now m made
      → values (tree_at now made) ≡ slice_set (values part) k x → n ≡ length now → new ≡ now ++ over side made ∷ []
      → (w : ℕ) × (above : Tree T) × (j : ℕ) × IsWay nodes slots whole slot sides w above j × IsTree new w n
      × (values (tree_at new n) ≡ slice_set (values above) j x)
  climbed (Left r) sides m k part now new made n x h more here is at grown =
      let w = h.0 in
      let right = tree_at nodes r in
      let above = fork h.1 part right in
      let some : 2 ≤ w = h.2 in
      let both = part_balanced sides w k above h.5 in
      let aside = tree_kept nodes now (w / 2) r more (record { inside = inside_at nodes r (w / 2) (omega arith) both.2; balanced = both.2 }) in
      let front = subst (λ i. IsTree now i made) h.3 here in
      let made_of = forked now new w made r n some front aside at grown in
      let long = size part m (subst (λ i. IsBalanced i part) (sym h.3) both.1) in (
        w,
        above,
        k,
        h.5,
        made_of.0,
        made_of.1 ∙ ap (λ l. l ++ values (tree_at now r)) is ∙ ap (λ t. slice_set (values part) k x ++ values t) (more.trees r (inside_at nodes r (w / 2) (omega arith) both.2))
            ∙ sym (set-append_left (values part) (values right) k x (omega (arith, long, h.4))),
      )
  climbed (Right l) sides m k part now new made n x h more here is at grown =
      let w = h.0 in
      let left = tree_at nodes l in
      let above = fork h.1 left part in
      let some : 2 ≤ w = h.2 in
      let j = w - w / 2 + k in
      let both = part_balanced sides w j above h.4 in
      let aside = tree_kept nodes now (w - w / 2) l more (record { inside = inside_at nodes l (w - w / 2) (omega arith) both.1; balanced = both.1 }) in
      let behind = subst (λ i. IsTree now i made) h.3 here in
      let made_of = forked now new w l made n some aside behind at grown in
      let long = size left (w - w / 2) both.1 in
      let k_is : j - (w - w / 2) ≡ k = omega arith in (
        w,
        above,
        j,
        h.4,
        made_of.0,
        made_of.1 ∙ ap (λ l. l ++ values (tree_at now made)) (ap values (more.trees l (inside_at nodes l (w - w / 2) (omega arith) both.1)))
            ∙ ap (λ l. values left ++ l) (is ∙ ap (λ i. slice_set (values part) i x) (sym k_is))
            ∙ sym (set-append_right (values left) (values part) (w - w / 2) j x long (omega arith)),
      )

pub one_node : {T : Type 0} (t : Tree T) (k : ℕ) → IsBalanced 1 t → way_length t k ≡ 1
one_node (empty n) k h = refl
one_node (leaf n x) k h = refl
one_node (fork n s t) k h = absurd (omega (arith, h.0))

pub one_slot : {T : Type 0} (t : Tree T) (x : T) → IsBalanced 1 t → slice_set (values t) 0 x ≡ x ∷ []
one_slot (empty n) x h = absurd (omega (arith, h))
one_slot (leaf n y) x h = refl
one_slot (fork n s t) x h = absurd (omega (arith, h.0))

-- a step down to the right
pub right_down : {T : Type 0} (nodes : List (Node T)) (slots : ℕ) (whole : Tree T) (slot : ℕ) (sides : List Side) (w n l r k : ℕ) → 2 ≤ w
    → tree_at nodes n ≡ fork n (tree_at nodes l) (tree_at nodes r) → w - w / 2 ≤ k → IsWay nodes slots whole slot sides w (tree_at nodes n) k
    → IsWay nodes slots whole slot (Right l ∷ sides) (w / 2) (tree_at nodes r) (k - (w - w / 2))
right_down nodes slots whole slot sides w n l r k some tree behind h =
    let e : k ≡ w - w / 2 + (k - (w - w / 2)) = omega arith in (
      w,
      n,
      some,
      refl,
      subst (λ i. IsWay nodes slots whole slot sides w (fork n (tree_at nodes l) (tree_at nodes r)) i) e
          (subst (λ t. IsWay nodes slots whole slot sides w t k) tree h),
    )
