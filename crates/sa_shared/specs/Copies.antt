-- Copies of trees into a new list of nodes, where each node is copied once.
use Rattle.std.specs.Prelude.{◌≡◌, ◌⊎◌, ℕ, suc, ◌<◌, true, List, [], ◌∷◌, length, Option, None, Some, slice_get}
use Rattle.std.specs.List.{list_any}
use Rattle.sa_shared.specs.declared.nodes.Node.{Node}
use Rattle.sa_shared.specs.declared.nodes.Root.{Root}
use Rattle.sa_shared.specs.Tree.{Tree, values, holds, IsBalanced, IsTree, tree_at}

-- how many places have a number
abbrev pub filled : List (Option ℕ) → ℕ
filled [] = 0
filled (None ∷ places) = filled places
filled (Some k ∷ places) = suc (filled places)

module _ {T : Type 0} where
  -- number k of the new nodes has the shape and the list of number n
  pub record IsCopy (from : List (Node T)) (n : ℕ) (to : List (Node T)) (k : ℕ) : Type 0 where
    pub inside : k < length to
    pub balanced : (m : ℕ) → IsBalanced m (tree_at from n) → IsBalanced m (tree_at to k)
    pub same : values (tree_at to k) ≡ values (tree_at from n)

  -- each place names the copy of its node, if there is one yet, and there are no other new nodes
  pub record AreCopies (from to : List (Node T)) (places : List (Option ℕ)) : Type 0 where
    pub long : length places ≡ length from
    pub counted : length to ≡ filled places
    pub each : (n k : ℕ) → slice_get places n ≡ Some (Some k) → IsCopy from n to k

  -- what was copied since stands at a place of the tree
  abbrev pub AreWithin : Tree T → List (Option ℕ) → List (Option ℕ) → Type 0
  AreWithin t old new = (n k : ℕ) → slice_get new n ≡ Some (Some k) → (holds n t ≡ true) ⊎ (slice_get old n ≡ Some (Some k))

  -- the second root stands for the first one's list, in a tree of the fixed shape among the new nodes
  pub record IsSameList (from to : List (Node T)) (slots : ℕ) (old new : Root) : Type 0 where
    pub tree : IsTree to slots new.node
    pub list : values (tree_at to new.node) ≡ values (tree_at from old.node)

  -- what was copied stands at a place of one of the roots' trees
  abbrev pub AreReached : List (Node T) → List Root → List (Option ℕ) → Type 0
  AreReached nodes roots places = (n k : ℕ) → slice_get places n ≡ Some (Some k) → list_any (λ r. holds n (tree_at nodes r.node)) roots ≡ true
